-- A text has nodes exactly where all holds that is asked of its bytes.
use Rattle.std.proofs.Common.{ℕ, suc, ◌≡◌, ◌≤◌, ◌+◌, ◌-◌, List, [], ◌∷◌, length, length-append, sym, ap, ◌∙◌, subst, arith, inl, inr}
use Rattle.std.specs.Prelude.{◌⊎◌}
use Rattle.std.proofs.lemmas.Bool.{cases_eq}
use Rattle.mz_base.proofs.Offered.{below-decided, fails_first-unique, all_hold-excludes, all_hold-or_fails, at_most-decided}
use Rattle.mz_base.specs.Checks.{Checks, nothing, ask, AllHold, FailsFirst, AreDecided, ◌>>◌}
use Rattle.mz_sexpr.specs.declared.scan.Class.{Class}
use Rattle.mz_sexpr.specs.declared.scan.Class.TheVariants.{Space, Note, Opening, Closing, Letter}
use Rattle.mz_sexpr.specs.declared.scan.Seen.{Seen}
use Rattle.mz_sexpr.specs.declared.rule.TextRefusal.{TextRefusal}
use Rattle.mz_sexpr.specs.Node.{Nodes}
use Rattle.mz_sexpr.specs.Token.{Token, open_at, close, word_at, spelled}
use Rattle.mz_sexpr.specs.NodesCode.{nodes_of, nodes_of-spelled}
use Rattle.mz_sexpr.specs.Grammar.{IsAllowed, Reads}
use Rattle.mz_sexpr.specs.Scan.{text_checks, none_seen, byte_checks, checks_at, class_checks, class_after, seen_with, tokens, token_of}
use Rattle.mz_sexpr.specs.Rows.{entries, level}
use Rattle.mz_sexpr.specs.Laws.{IsReadOrRefused}
use Rattle.mz_sexpr.proofs.Nesting.{Nested, nested_when_spelled, height_when_nested, spelled_top}
use Rattle.mz_sexpr.proofs.Asked.{allowed_by_checks, nested_by_checks, checks_by_nested}
use Rattle.mz_sexpr.specs.Order.{Refuses}
use Rattle.mz_sexpr.proofs.AskedOfPieces.{asked_of_pieces}
use Rattle.mz_sexpr.proofs.Pieces.{Outside, pieces_of, tokens_met}

pub tokens_when_read : (text : List ℕ) (ns : Nodes) → Reads text ns → tokens 0 Space text ≡ spelled ns
tokens_when_read text ns h = ap (tokens 0 Space) (sym h.written) ∙ tokens_met 0 Space h.pieces h.whole tt ∙ h.nested

pub one_reading_only : (text : List ℕ) (ns ms : Nodes) → Reads text ns → Reads text ms → ns ≡ ms
one_reading_only text ns ms h k =
    sym (nodes_of-spelled ns) ∙ ap nodes_of (sym (tokens_when_read text ns h) ∙ tokens_when_read text ms k) ∙ nodes_of-spelled ms

pub all_hold_when_read : (text : List ℕ) (ns : Nodes) → Reads text ns → AllHold (text_checks text)
all_hold_when_read text ns h =
    checks_by_nested 0 none_seen text h.allowed (subst (Nested 0) (sym (tokens_when_read text ns h)) (nested_when_spelled ns h.depth))

abbrev read_with : (text : List ℕ) → AllHold (text_checks text) → Outside text → Reads text (level (entries 0 (tokens 0 Space text)) 0)
read_with text all (ps, (are, same)) = record {
  pieces = ps;
  whole = are;
  written = same;
  allowed = allowed_by_checks 0 none_seen text all;
  nested = sym (tokens_met 0 Space ps are tt) ∙ ap (tokens 0 Space) same ∙ sym (spelled_top (tokens 0 Space text) (nested_by_checks 0 none_seen text all));
  depth = height_when_nested (level (entries 0 (tokens 0 Space text)) 0) (subst (Nested 0) (sym (spelled_top (tokens 0 Space text) (nested_by_checks 0 none_seen text all))) (nested_by_checks 0 none_seen text all));
}

pub read_when_all_hold : (text : List ℕ) → AllHold (text_checks text) → Reads text (level (entries 0 (tokens 0 Space text)) 0)
read_when_all_hold text all = read_with text all (pieces_of text)

-- ---- what is asked is decided

decided_both : {R : Type 0} (bs cs : Checks R) → AreDecided bs → AreDecided cs → AreDecided (bs >> cs)
decided_both nothing cs b c = c
decided_both (ask r P bs) cs b c = (b.0, λ p. decided_both bs cs (b.1 p) c)

allowed_decided : (b : ℕ) → IsAllowed b ⊎ (IsAllowed b → ⊥)
allowed_decided b = go (at_most-decided 32 b) (at_most-decided b 126) (cases_eq b 10)
  where
    refused : (32 ≤ b → b ≤ 126 → ⊥) → (b ≡ 10 → ⊥) → IsAllowed b → ⊥
    refused h k (inl p) = h p.0 p.1
    refused h k (inr e) = k e

    go : (32 ≤ b) ⊎ (32 ≤ b → ⊥) → (b ≤ 126) ⊎ (b ≤ 126 → ⊥) → (b ≡ 10) ⊎ (b ≡ 10 → ⊥) → IsAllowed b ⊎ (IsAllowed b → ⊥)
    go h k (inl e) = inl (inr e)
    go (inl h) (inl k) (inr e) = inl (inl (h, k))
    go (inr h) k (inr e) = inr (refused (λ x y. h x) e)
    go (inl h) (inr k) (inr e) = inr (refused (λ x y. k y) e)

class_decided : (i : ℕ) (s : Seen) (c : Class) → AreDecided (class_checks i s c)
class_decided i s Space = tt
class_decided i s Note = tt
class_decided i s Opening = (below-decided s.depth 4096, λ p. tt)
class_decided i s Closing = (below-decided 0 s.depth, λ p. tt)
class_decided i s Letter = tt

bytes_decided : (i : ℕ) (s : Seen) (bs : List ℕ) → AreDecided (byte_checks i s bs)
bytes_decided i s [] = (cases_eq s.depth 0, λ p. tt)
bytes_decided i s (b ∷ bs) =
    let c = class_after s.last b bs in
    decided_both (checks_at i s b c) (byte_checks (i + 1) (seen_with s c) bs)
    (allowed_decided b, λ p. class_decided i s c) (bytes_decided (i + 1) (seen_with s c) bs)

pub fails_when_refused : (text : List ℕ) (r : TextRefusal) → Refuses text r → FailsFirst (text_checks text) r
fails_when_refused text r h =
    subst (λ bs. FailsFirst (text_checks bs) r) h.written
    (subst (λ cs. FailsFirst cs r) (sym (asked_of_pieces h.pieces h.whole)) h.first)

abbrev refused_with : (text : List ℕ) (r : TextRefusal) → FailsFirst (text_checks text) r → Outside text → Refuses text r
refused_with text r fails (ps, (are, same)) = record {
  pieces = ps;
  whole = are;
  written = same;
  first = subst (λ cs. FailsFirst cs r) (asked_of_pieces ps are) (subst (λ bs. FailsFirst (text_checks bs) r) (sym same) fails);
}

pub refused_when_fails : (text : List ℕ) (r : TextRefusal) → FailsFirst (text_checks text) r → Refuses text r
refused_when_fails text r fails = refused_with text r fails (pieces_of text)

read_or_refused : (text : List ℕ) → AllHold (text_checks text) ⊎ ((r : TextRefusal) × FailsFirst (text_checks text) r)
    → ((ns : Nodes) × Reads text ns) ⊎ ((r : TextRefusal) × Refuses text r)
read_or_refused text (inl all) = inl (level (entries 0 (tokens 0 Space text)) 0, read_when_all_hold text all)
read_or_refused text (inr h) = inr (h.0, refused_when_fails text h.0 h.1)

pub is_read_or_refused : (text : List ℕ) → IsReadOrRefused text
is_read_or_refused text = record {
  one_of_both = read_or_refused text (all_hold-or_fails (text_checks text) (bytes_decided 0 none_seen text));
  never_both = λ ns r h f. all_hold-excludes (text_checks text) r (all_hold_when_read text ns h) (fails_when_refused text r f);
  one_refusal = λ q r f g. fails_first-unique (text_checks text) q r (fails_when_refused text q f) (fails_when_refused text r g);
}

-- ---- no more nodes than bytes

length-entries : (d : ℕ) (ts : List Token) → length (entries d ts) ≤ length ts
length-entries d [] = omega arith
length-entries d (open_at i ∷ ts) = let h = length-entries (suc d) ts in omega arith
length-entries d (close ∷ ts) = let h = length-entries (d - 1) ts in omega arith
length-entries d (word_at i w ∷ ts) = let h = length-entries d ts in omega arith

length-token_of : (i : ℕ) (last c : Class) (bs : List ℕ) → length (token_of i last c bs) ≤ 1
length-token_of i last Space bs = omega arith
length-token_of i last Note bs = omega arith
length-token_of i last Opening bs = omega arith
length-token_of i last Closing bs = omega arith
length-token_of i Space Letter bs = omega arith
length-token_of i Note Letter bs = omega arith
length-token_of i Opening Letter bs = omega arith
length-token_of i Closing Letter bs = omega arith
length-token_of i Letter Letter bs = omega arith

length-tokens : (i : ℕ) (last : Class) (bs : List ℕ) → length (tokens i last bs) ≤ length bs
length-tokens i last [] = omega arith
length-tokens i last (b ∷ bs) =
    let c = class_after last b bs in
    let h = length-tokens (i + 1) c bs in
    let k = length-token_of i last c (b ∷ bs) in
    omega (arith, length-append (token_of i last c (b ∷ bs)) (tokens (i + 1) c bs))

pub few_rows : (text : List ℕ) → length (entries 0 (tokens 0 Space text)) ≤ length text
few_rows text = let h = length-entries 0 (tokens 0 Space text) in let k = length-tokens 0 Space text in omega arith

-- What is asked of the bytes of a text holds exactly where all are allowed and the parentheses nest.
use Rattle.std.proofs.Common.{ℕ, zero, suc, ◌≡◌, ◌<◌, ◌+◌, ◌-◌, List, [], ◌∷◌, ◌++◌, sym, subst, arith}
use Rattle.std.specs.Prelude.{All}
use Rattle.std.proofs.lemmas.List.Elements.{All-cons, All-head, All-tail}
use Rattle.mz_base.specs.Checks.{AllHold}
use Rattle.mz_base.proofs.Offered.{all_hold-both, all_hold-first, all_hold-rest}
use Rattle.mz_sexpr.specs.declared.scan.Class.{Class}
use Rattle.mz_sexpr.specs.declared.scan.Class.TheVariants.{Space, Note, Opening, Closing, Letter}
use Rattle.mz_sexpr.specs.declared.scan.Seen.{Seen}
use Rattle.mz_sexpr.specs.Token.{Token, close}
use Rattle.mz_sexpr.specs.Grammar.{IsAllowed}
use Rattle.mz_sexpr.specs.Scan.{class_after, class_checks, checks_at, byte_checks, seen_with, tokens, token_of}
use Rattle.mz_sexpr.proofs.ByteSteps.{last_seen}
use Rattle.mz_sexpr.proofs.Nesting.{Nested}

pub allowed_by_checks : (i : ℕ) (s : Seen) (bs : List ℕ) → AllHold (byte_checks i s bs) → All IsAllowed bs
allowed_by_checks i s [] all = λ k d h. absurd (omega arith)
allowed_by_checks i s (b ∷ bs) all =
    let c = class_after s.last b bs in
    All-cons IsAllowed b bs (all_hold-first (checks_at i s b c) (byte_checks (i + 1) (seen_with s c) bs) all).0
    (allowed_by_checks (i + 1) (seen_with s c) bs (all_hold-rest (checks_at i s b c) (byte_checks (i + 1) (seen_with s c) bs) all))

nested_close : (d : ℕ) (ts : List Token) → 0 < d → Nested (d - 1) ts → Nested d (close ∷ ts)
nested_close zero ts h k = omega arith
nested_close (suc d) ts h k = let same : suc d - 1 ≡ d = omega arith in subst (λ n. Nested n ts) same k

close_nested : (d : ℕ) (ts : List Token) → Nested d (close ∷ ts) → (0 < d) × Nested (d - 1) ts
close_nested zero ts k = absurd k
close_nested (suc d) ts k = let same : suc d - 1 ≡ d = omega arith in (omega arith, subst (λ n. Nested n ts) (sym same) k)

nested_letter : (i d : ℕ) (last : Class) (bs : List ℕ) (ts : List Token) → Nested d ts → Nested d (token_of i last Letter bs ++ ts)
nested_letter i d Space bs ts h = h
nested_letter i d Note bs ts h = h
nested_letter i d Opening bs ts h = h
nested_letter i d Closing bs ts h = h
nested_letter i d Letter bs ts h = h

letter_nested : (i d : ℕ) (last : Class) (bs : List ℕ) (ts : List Token) → Nested d (token_of i last Letter bs ++ ts) → Nested d ts
letter_nested i d Space bs ts h = h
letter_nested i d Note bs ts h = h
letter_nested i d Opening bs ts h = h
letter_nested i d Closing bs ts h = h
letter_nested i d Letter bs ts h = h

nested_with : (i : ℕ) (s : Seen) (bs : List ℕ) (ts : List Token) (c : Class) → AllHold (class_checks i s c) → Nested (seen_with s c).depth ts → Nested s.depth (token_of i s.last c bs ++ ts)
nested_with i s bs ts Space all h = h
nested_with i s bs ts Note all h = h
nested_with i s bs ts Opening all h = (all.0, h)
nested_with i s bs ts Closing all h = nested_close s.depth ts all.0 h
nested_with i s bs ts Letter all h = nested_letter i s.depth s.last bs ts h

with_nested : (i : ℕ) (s : Seen) (bs : List ℕ) (ts : List Token) (c : Class) → Nested s.depth (token_of i s.last c bs ++ ts) → AllHold (class_checks i s c) × Nested (seen_with s c).depth ts
with_nested i s bs ts Space h = (tt, h)
with_nested i s bs ts Note h = (tt, h)
with_nested i s bs ts Opening h = ((h.0, tt), h.1)
with_nested i s bs ts Closing h = let k = close_nested s.depth ts h in ((k.0, tt), k.1)
with_nested i s bs ts Letter h = (tt, letter_nested i s.depth s.last bs ts h)

pub nested_by_checks : (i : ℕ) (s : Seen) (bs : List ℕ) → AllHold (byte_checks i s bs) → Nested s.depth (tokens i s.last bs)
nested_by_checks i s [] all = all.0
nested_by_checks i s (b ∷ bs) all =
    let c = class_after s.last b bs in
    let k = nested_by_checks (i + 1) (seen_with s c) bs (all_hold-rest (checks_at i s b c) (byte_checks (i + 1) (seen_with s c) bs) all) in
    nested_with i s (b ∷ bs) (tokens (i + 1) c bs) c (all_hold-first (checks_at i s b c) (byte_checks (i + 1) (seen_with s c) bs) all).1
    (subst (λ l. Nested (seen_with s c).depth (tokens (i + 1) l bs)) (last_seen s c) k)

pub checks_by_nested : (i : ℕ) (s : Seen) (bs : List ℕ) → All IsAllowed bs → Nested s.depth (tokens i s.last bs) → AllHold (byte_checks i s bs)
checks_by_nested i s [] allowed h = (h, tt)
checks_by_nested i s (b ∷ bs) allowed h =
    let c = class_after s.last b bs in
    let k = with_nested i s (b ∷ bs) (tokens (i + 1) c bs) c h in
    all_hold-both (checks_at i s b c) (byte_checks (i + 1) (seen_with s c) bs) (All-head IsAllowed b bs allowed, k.0)
    (checks_by_nested (i + 1) (seen_with s c) bs (All-tail IsAllowed b bs allowed)
    (subst (λ l. Nested (seen_with s c).depth (tokens (i + 1) l bs)) (sym (last_seen s c)) k.1))

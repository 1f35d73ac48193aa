-- The binary of a text is listed with the text.
use Rattle.std.proofs.Common.{◌≡◌, ◌≤◌, ◌<◌, ◌+◌, ◌-◌, ◌^◌, inl, ℕ, true, false, cond, List, [], ◌∷◌, ◌++◌, length, map, take, drop, slice_get, codes, Some, None, Ok, refl, sym, ap, subst, ◌∙◌, arith, append_assoc, append-nil, length-append}
use Rattle.std.specs.Prelude.{Bool, IsTrue, All}
use Rattle.std.proofs.lemmas.List.Elements.{All-nil, All-cons, All-append}
use Rattle.mz_base.specs.Checks.{AllHold}
use Rattle.mz_cmd.specs.declared.code.StatementCode.{StatementCode}
use Rattle.mz_cmd.specs.declared.code.StatementCode.TheVariants as codes_of
use Rattle.mz_cmd.specs.declared.code.ProofCode.{ProofCode}
use Rattle.mz_cmd.specs.declared.code.ProofCode.TheVariants as proofs
use Rattle.mz_cmd.specs.declared.code.UnifyCode.{UnifyCode}
use Rattle.mz_cmd.specs.declared.code.UnifyCode.TheVariants as unifies
use Rattle.mz_cmd.specs.declared.statement.StmtAt.TheVariants.{Head}
use Rattle.mz_cmd.specs.Codes.{unify_byte, proof_byte, is_known, begins_statement}
use Rattle.mz_cmd.specs.StatementList.{statement_at}
use Rattle.mz_logic_theory.specs.declared.word.Word.{Word}
use Rattle.mz_logic_theory.specs.declared.binder.SortMods.{SortMods}
use Rattle.mz_layout_tables.specs.Normal.{Row, Written, Parts, no_parts, row_of_term, row_of_thm, file_of, file_length}
use Rattle.mz_layout_tables.specs.Standing.{Stands, HasRoom, HaveRoom, Fit, AreListed, body_place, next_place}
use Rattle.mz_layout_tables.specs.Tables.{TermRow, ThmRow, list_at, term_row as term_row_of, thm_row as thm_row_of}
use Rattle.mz_layout_tables.specs.Heads.{body_bytes, kind_checks, suits_checks}
use Rattle.mz_layout_tables.proofs.Offered.{layout-holds, all-listed, counts-said, mods-read, term-read, thm-read, term-stream, thm-stream}
use Rattle.mz_show.specs.declared.place.Place.{Place}
use Rattle.mz_show.specs.declared.stream.Stream.TheVariants as streams
use Rattle.mz_show.specs.Tokens.{texts, numbered, param_line, result_line}
use Rattle.mz_show.specs.Streams.{belongs, command_line, stream_text}
use Rattle.mz_show.specs.Listing.{Chain, chain_text, EndsAt, IsListing}
use Rattle.mz_show.specs.Statements.{Stands as StandsThere, Statement as Shown, after, has_streams as shown_streams, unify_at, statement_checks, part_checks, statement_text, streams_text}
use Rattle.mz_show.proofs.Offered.{longest-some, statement-holds, texts-append}
use Rattle.mz_asm.specs.declared.kind.Kind.{Kind}
use Rattle.mz_asm.specs.declared.kind.Kind.TheVariants as kinds
use Rattle.mz_asm.specs.declared.line.Line.{Line}
use Rattle.mz_asm.specs.declared.line.Line.TheVariants as lines
use Rattle.mz_asm.specs.declared.rows.Rows.{Rows}
use Rattle.mz_asm.specs.Rows.{no_rows, taken}
use Rattle.mz_asm.specs.Assembling.{Says}
use Rattle.mz_asm.specs.Lines.{kind_name}
use Rattle.mz_asm.specs.Statements.{Statement, has_result, has_streams, code_of, unify_line, proof_line, statement_lines, all_lines, listing_lines, unify_bytes, proof_bytes, written, with_statement, parts_from, parts_of}
use Rattle.mz_asm.proofs.GoodLines.{AllGood, Fine, fine-statement, good-lines}
use Rattle.mz_asm.proofs.LineTexts.{line_text, text-spelled}
use Rattle.mz_asm.proofs.OneText.{st, both_streams}
use Rattle.mz_asm.proofs.Runs.{AreShort, cmd_of, run_of, longest, run-ends, run-leads, stands-cut}

-- ---- codes

unify-here : (c : UnifyCode) → IsTrue (belongs streams.Unify (unify_byte c))
unify-here unifies.Term = refl
unify-here _ = refl

unify-known : (c : UnifyCode) → is_known (unify_byte c) ≡ true
unify-known unifies.Term = refl
unify-known _ = refl

unify-text : (c : UnifyCode) (v : ℕ) → line_text (lines.Unify c v) ≡ command_line streams.Unify (cmd_of unify_byte (c, v))
unify-text unifies.Term v = refl
unify-text _ v = refl

proof-here : (c : ProofCode) → IsTrue (belongs streams.Proof (proof_byte c))
proof-here proofs.Term = refl
proof-here _ = refl

proof-known : (c : ProofCode) → is_known (proof_byte c) ≡ true
proof-known proofs.Term = refl
proof-known _ = refl

proof-text : (c : ProofCode) (v : ℕ) → line_text (lines.Proof c v) ≡ command_line streams.Proof (cmd_of proof_byte (c, v))
proof-text proofs.Term v = refl
proof-text _ v = refl

-- ---- texts of lines

params-text : (ps : List Word) → texts line_text (map lines.Param ps) ≡ texts param_line ps
params-text [] = refl
params-text (p ∷ ps) = ap (λ z. param_line p ++ z) (params-text ps)

unify-texts : (us : List (UnifyCode × ℕ)) → texts line_text (map unify_line us) ≡ texts (command_line streams.Unify) (map (cmd_of unify_byte) us)
unify-texts [] = refl
unify-texts (u ∷ us) = ap (λ z. z ++ texts line_text (map unify_line us)) (unify-text u.0 u.1) ∙ ap (λ z. command_line streams.Unify (cmd_of unify_byte u) ++ z) (unify-texts us)

proof-texts : (us : List (ProofCode × ℕ)) → texts line_text (map proof_line us) ≡ texts (command_line streams.Proof) (map (cmd_of proof_byte) us)
proof-texts [] = refl
proof-texts (u ∷ us) = ap (λ z. z ++ texts line_text (map proof_line us)) (proof-text u.0 u.1) ∙ ap (λ z. command_line streams.Proof (cmd_of proof_byte u) ++ z) (proof-texts us)

streams-text : (us : List (UnifyCode × ℕ)) (qs : List (ProofCode × ℕ)) → texts line_text (both_streams us qs) ≡ stream_text streams.Unify (map (cmd_of unify_byte) us) ++ stream_text streams.Proof (map (cmd_of proof_byte) qs)
streams-text us qs =
    let tail : texts line_text (map proof_line qs ++ (lines.ProofEnd ∷ [])) ≡ stream_text streams.Proof (map (cmd_of proof_byte) qs) =
    texts-append line_text (map proof_line qs) (lines.ProofEnd ∷ []) ∙ ap (λ z. z ++ texts line_text (lines.ProofEnd ∷ [])) (proof-texts qs) in
    texts-append line_text (map unify_line us) _ ∙ ap (λ z. z ++ texts line_text (lines.UnifyEnd ∷ (map proof_line qs ++ (lines.ProofEnd ∷ [])))) (unify-texts us)
    ∙ sym (append_assoc (texts (command_line streams.Unify) (map (cmd_of unify_byte) us)) (line_text lines.UnifyEnd) (texts line_text (map proof_line qs ++ (lines.ProofEnd ∷ []))))
    ∙ ap (λ z. stream_text streams.Unify (map (cmd_of unify_byte) us) ++ z) tail

-- the lines of a row's words and streams
words-text : (ps : List Word) (rest : List Line) → texts line_text (map lines.Param ps ++ rest) ≡ texts param_line ps ++ texts line_text rest
words-text ps rest = texts-append line_text (map lines.Param ps) rest ∙ ap (λ z. z ++ texts line_text rest) (params-text ps)

-- ---- tables

pub slice-at : {A : Type 0} → (xs zs : List A) (y : A) → slice_get ((xs ++ (y ∷ [])) ++ zs) (length xs) ≡ Some y
slice-at [] zs y = refl
slice-at (x ∷ xs) zs y = slice-at xs zs y

pub below : {A : Type 0} → (xs zs all : List A) (y : A) → all ≡ (xs ++ (y ∷ [])) ++ zs → length xs < length all
below xs zs all y is =
    let many = ap length is in
    let first = length-append (xs ++ (y ∷ [])) zs in
    let second = length-append xs (y ∷ []) in
    omega (arith, many, first, second)

pub record Extends (q p : Parts) : Type 0 where
  pub sorts : (a : List ℕ) × (p.sorts ≡ q.sorts ++ a)
  pub terms : (a : List Row) × (p.terms ≡ q.terms ++ a)
  pub thms : (a : List Row) × (p.thms ≡ q.thms ++ a)

earlier : {A : Type 0} → (xs all : List A) (y : A) → (a : List A) × (all ≡ (xs ++ (y ∷ [])) ++ a) → (a : List A) × (all ≡ xs ++ a)
earlier xs all y (a, is) = (y ∷ a, is ∙ append_assoc xs (y ∷ []) a)

extends-before : (k : Kind) (q p : Parts) (row mods : ℕ) (ps : List Word) (o : Word) (us : List (UnifyCode × ℕ)) (qs : List (ProofCode × ℕ)) → Extends (with_statement q (st k row mods ps o us qs)) p → Extends q p
extends-before kinds.Sort q p row mods ps o us qs e = record { sorts = earlier q.sorts p.sorts _ e.sorts; terms = e.terms; thms = e.thms }
extends-before kinds.Axiom q p row mods ps o us qs e = record { sorts = e.sorts; terms = e.terms; thms = earlier q.thms p.thms _ e.thms }
extends-before kinds.Theorem q p row mods ps o us qs e = record { sorts = e.sorts; terms = e.terms; thms = earlier q.thms p.thms _ e.thms }
extends-before kinds.LocalTheorem q p row mods ps o us qs e = record { sorts = e.sorts; terms = e.terms; thms = earlier q.thms p.thms _ e.thms }
extends-before _ q p row mods ps o us qs e = record { sorts = e.sorts; terms = earlier q.terms p.terms _ e.terms; thms = e.thms }

pub extends-all : (q : Parts) (ss : List Statement) → Extends q (parts_from q ss)
extends-all q [] = record { sorts = ([], sym (append-nil q.sorts)); terms = ([], sym (append-nil q.terms)); thms = ([], sym (append-nil q.thms)) }
extends-all q (s ∷ ss) = extends-before s.kind q _ s.row s.mods s.params s.outcome s.unify s.proof (extends-all (with_statement q s) ss)

-- ---- the statements, one by one

abbrev pub place_at : ℕ → ℕ → Parts → Place
place_at number at q = record { number = number; at = at; rows = record { sorts = length q.sorts; terms = length q.terms; thms = length q.thms } }

-- what is seen of a statement there is what was written of it
pub record IsSeen (file : List ℕ) (place : Place) (at : ℕ) (s : Statement) (shown : Shown) : Type 0 where
  pub code : shown.head.code ≡ code_of s.kind
  pub body : shown.head.body ≡ body_place at (written s)
  pub next : shown.head.next ≡ next_place at (written s)
  pub streams : shown_streams file place (code_of s.kind) ≡ has_streams s.kind
  pub stream : has_streams s.kind ≡ true → Stands file (unify_at file place (code_of s.kind)) (unify_bytes s.unify ++ (0 ∷ []))
  pub unify : has_streams s.kind ≡ true → shown.unify ≡ run_of unify_byte (unify_at file place (code_of s.kind)) s.unify
  pub proof : has_streams s.kind ≡ true → shown.proof ≡ run_of proof_byte shown.head.body s.proof

-- a statement that is listed at a place, with its lines
pub record IsShown (p q : Parts) (number at : ℕ) (s : Statement) : Type 0 where
  pub shown : Shown
  pub stands : StandsThere (file_of p) (place_at number at q) shown
  pub seen : IsSeen (file_of p) (place_at number at q) at s shown
  pub right : AllHold (statement_checks (file_of p) (place_at number at q) shown)
  pub text : statement_text (file_of p) (place_at number at q) shown ≡ texts line_text (statement_lines s)
  pub goes : after (place_at number at q) shown ≡ place_at (number + 1) (next_place at (written s)) (with_statement q s)

one-more : {A : Type 0} → (xs : List A) (x : A) → length xs + 1 ≡ length (xs ++ (x ∷ []))
one-more xs x = sym (length-append xs (x ∷ []))

-- a row's heading, words and streams, put together otherwise
row-parts : (h w r s : List ℕ) → (h ++ (w ++ r)) ++ s ≡ h ++ (w ++ (r ++ s))
row-parts h w r s = append_assoc h (w ++ r) s ∙ ap (λ z. h ++ z) (append_assoc w r s)

no-bytes : (file : List ℕ) (body next : ℕ) → next ≡ body → body_bytes file body next ≡ []
no-bytes file body next e = let none : next - body ≡ 0 = omega arith in ap (λ (n : ℕ). take n (drop body file)) none

module _ (p : Parts) (fit : Fit p) (q : Parts) (number at row mods : ℕ) (ps : List Word) (o : Word) (us : List (UnifyCode × ℕ)) (qs : List (ProofCode × ℕ)) where
  sort-shown : Extends (with_statement q (st kinds.Sort row mods ps o us qs)) p → row ≡ length q.sorts → statement_at (file_of p) at ≡ Ok (Head 0x04 (body_place at (written (st kinds.Sort row mods ps o us qs))) (next_place at (written (st kinds.Sort row mods ps o us qs))))
      → IsShown p q number at (st kinds.Sort row mods ps o us qs)
  sort-shown e is head =
      let w : Written = written (st kinds.Sort row mods ps o us qs) in
      let body : ℕ = body_place at w in
      let next : ℕ = next_place at w in
      let u = longest-some streams.Unify (file_of p) (length (file_of p)) 0 (omega arith) in
      let v = longest-some streams.Proof (take next (file_of p)) (length (take next (file_of p))) body (omega arith) in
      let many = (counts-said p fit.short).sorts in
      let inside = below q.sorts e.sorts.0 p.sorts mods e.sorts.1 in
      let found : slice_get p.sorts (length q.sorts) ≡ Some mods = ap (λ (l : List ℕ). slice_get l (length q.sorts)) e.sorts.1 ∙ slice-at q.sorts e.sorts.0 mods in
      let read = mods-read p fit (length q.sorts) mods found in
      let it : Shown = record { head = record { code = codes_of.Sort; at = at; body = body; next = next }; unify = u.0; proof = v.0 } in
      let here : StandsThere (file_of p) (place_at number at q) it = record { head = record { stands = head; at_is = refl }; unify = u.1; proof = v.1 } in
      record {
        shown = it;
        stands = here;
        seen = record { code = refl; body = refl; next = refl; streams = refl; stream = λ no. absurd cc; unify = λ no. absurd cc; proof = λ no. absurd cc };
        right = statement-holds (file_of p) (place_at number at q) it here (omega (arith, many, inside), tt) (inl (no-bytes (file_of p) body next (omega arith)), tt);
        text =
            append-nil _ ∙ append-nil _
            ∙ ap (λ (m : SortMods). numbered (numbered (codes "sort") (length q.sorts)) m.0 ++ codes "\n") read
            ∙ ap (λ (r : ℕ). numbered (numbered (codes "sort") r) mods ++ codes "\n") (sym is)
            ∙ sym (append-nil (numbered (numbered (codes "sort") row) mods ++ codes "\n"));
        goes = ap (λ (n : ℕ). record { number = number + 1; at = next; rows = record { sorts = n; terms = length q.terms; thms = length q.thms } }) (one-more q.sorts mods);
      }

  term-shown : Extends (with_statement q (st kinds.Term row mods ps o us qs)) p → row ≡ length q.terms
      → statement_at (file_of p) at ≡ Ok (Head 0x05 (body_place at (written (st kinds.Term row mods ps o us qs))) (next_place at (written (st kinds.Term row mods ps o us qs))))
      → IsShown p q number at (st kinds.Term row mods ps o us qs)
  term-shown e is head =
      let w : Written = written (st kinds.Term row mods ps o us qs) in
      let body : ℕ = body_place at w in
      let next : ℕ = next_place at w in
      let t : ℕ = length q.terms in
      let many = (counts-said p fit.short).terms in
      let inside = below q.terms e.terms.0 p.terms (row_of_term ps o None) e.terms.1 in
      let found : slice_get p.terms t ≡ Some (row_of_term ps o None) = ap (λ (l : List Row). slice_get l t) e.terms.1 ∙ slice-at q.terms e.terms.0 (row_of_term ps o None) in
      let read = term-read p fit t ps o None found in
      let pl : Place = place_at number at q in
      let u = longest-some streams.Unify (file_of p) (length (file_of p)) (unify_at (file_of p) pl codes_of.Term) (omega arith) in
      let v = longest-some streams.Proof (take next (file_of p)) (length (take next (file_of p))) body (omega arith) in
      let none : shown_streams (file_of p) pl codes_of.Term ≡ false = ap (λ (r : TermRow). r.words.has_body) read in
      let h : List ℕ = numbered (numbered (codes "term") t) (length ps) ++ codes "\n" in
      let it : Shown = record { head = record { code = codes_of.Term; at = at; body = body; next = next }; unify = u.0; proof = v.0 } in
      let here : StandsThere (file_of p) (place_at number at q) it = record { head = record { stands = head; at_is = refl }; unify = u.1; proof = v.1 } in
      record {
        shown = it;
        stands = here;
        seen = record { code = refl; body = refl; next = refl; streams = none; stream = λ no. absurd cc; unify = λ no. absurd cc; proof = λ no. absurd cc };
        right = statement-holds (file_of p) (place_at number at q) it here (omega (arith, many, inside), (tt, tt)) (subst (λ b. AllHold (part_checks b (file_of p) pl it)) (sym none) (inl (no-bytes (file_of p) body next (omega arith)), tt));
        text =
            ap (λ (r : TermRow). ((numbered (numbered (cond r.words.has_body (codes "def") (codes "term")) t) (length r.words.params) ++ codes "\n") ++ (texts param_line r.words.params ++ result_line r.words.result)) ++ streams_text r.words.has_body it) read
            ∙ row-parts h (texts param_line ps) (result_line o) []
            ∙ ap (λ z. h ++ z) (sym (words-text ps (lines.Outcome o ∷ [])))
            ∙ ap (λ (r : ℕ). (numbered (numbered (codes "term") r) (length ps) ++ codes "\n") ++ texts line_text (map lines.Param ps ++ (lines.Outcome o ∷ []))) (sym is);
        goes = ap (λ (n : ℕ). record { number = number + 1; at = next; rows = record { sorts = length q.sorts; terms = n; thms = length q.thms } }) (one-more q.terms (row_of_term ps o None));
      }

  -- what stands in a statement with both streams, and what is seen of it
  abbrev stream_here : List ℕ
  stream_here = unify_bytes us ++ (0 ∷ [])

  abbrev body_here : List ℕ
  body_here = proof_bytes qs ++ (0 ∷ [])

  abbrev place_here : Place
  place_here = place_at number at q

  abbrev texts_here : List ℕ
  texts_here = stream_text streams.Unify (map (cmd_of unify_byte) us) ++ stream_text streams.Proof (map (cmd_of proof_byte) qs)

  abbrev seen_here : StatementCode → Written → Shown
  seen_here code w = record { head = record { code = code; at = at; body = body_place at w; next = next_place at w }; unify = run_of unify_byte (unify_at (file_of p) place_here code) us; proof = run_of proof_byte (body_place at w) qs }

  streams-shown : (k : Kind) → has_streams k ≡ true → shown_streams (file_of p) place_here (code_of k) ≡ true → AreShort us → AreShort qs
      → statement_at (file_of p) at ≡ Ok (Head (written (st k row mods ps o us qs)).code (body_place at (written (st k row mods ps o us qs))) (next_place at (written (st k row mods ps o us qs))))
      → Stands (file_of p) (body_place at (written (st k row mods ps o us qs))) body_here → Stands (file_of p) (unify_at (file_of p) place_here (code_of k)) stream_here
      → AllHold (kind_checks (file_of p) place_here.rows at (Some (code_of k))) → statement_text (file_of p) place_here (seen_here (code_of k) (written (st k row mods ps o us qs))) ≡ texts line_text (statement_lines (st k row mods ps o us qs))
      → after place_here (seen_here (code_of k) (written (st k row mods ps o us qs))) ≡ place_at (number + 1) (next_place at (written (st k row mods ps o us qs))) (with_statement q (st k row mods ps o us qs)) → IsShown p q number at (st k row mods ps o us qs)
  streams-shown kinds.Sort both has short-u short-q head stands there room text goes = absurd cc
  streams-shown kinds.Term both has short-u short-q head stands there room text goes = absurd cc
  streams-shown k both has short-u short-q head stands there room text goes =
      let w : Written = written (st k row mods ps o us qs) in
      let body : ℕ = body_place at w in
      let next : ℕ = next_place at w in
      let from : ℕ = unify_at (file_of p) place_here (code_of k) in
      let cut = stands-cut (file_of p) body body_here next refl stands in
      let it : Shown = seen_here (code_of k) w in
      let here : StandsThere (file_of p) place_here it = record {
        head = record { stands = head; at_is = refl };
        unify = longest streams.Unify unify_byte unify-here unify-known refl (file_of p) us from short-u there;
        proof = longest streams.Proof proof_byte proof-here proof-known refl (take next (file_of p)) qs body short-q cut;
      } in
      record {
        shown = it;
        stands = here;
        seen = record { code = refl; body = refl; next = refl; streams = has; stream = λ _. there; unify = λ _. refl; proof = λ _. refl };
        right = statement-holds (file_of p) place_here it here room (subst (λ b. AllHold (part_checks b (file_of p) place_here it)) (sym has) (
          run-ends streams.Unify unify_byte unify-here unify-known refl (file_of p) us from there,
          (
            run-ends streams.Proof proof_byte proof-here proof-known refl (take next (file_of p)) qs body cut,
            (
              run-leads streams.Proof proof_byte proof-here proof-known refl (take next (file_of p)) qs body next cut refl,
              tt,
            ),
          ),
        ));
        text = text;
        goes = goes;
      }

  assertion-shown : (k : Kind) → has_result k ≡ false → has_streams k ≡ true → Extends (with_statement q (st k row mods ps o us qs)) p → row ≡ length q.thms → AreShort us → AreShort qs
      → statement_at (file_of p) at ≡ Ok (Head (written (st k row mods ps o us qs)).code (body_place at (written (st k row mods ps o us qs))) (next_place at (written (st k row mods ps o us qs))))
      → Stands (file_of p) (body_place at (written (st k row mods ps o us qs))) body_here → IsShown p q number at (st k row mods ps o us qs)
  assertion-shown kinds.Sort bare both e is short-u short-q head stands = absurd cc
  assertion-shown kinds.Term bare both e is short-u short-q head stands = absurd cc
  assertion-shown kinds.Definition bare both e is short-u short-q head stands = absurd cc
  assertion-shown kinds.LocalDefinition bare both e is short-u short-q head stands = absurd cc
  assertion-shown k bare both e is short-u short-q head stands =
      let i : ℕ = length q.thms in
      let many = (counts-said p fit.short).thms in
      let inside = below q.thms e.thms.0 p.thms (row_of_thm ps stream_here) e.thms.1 in
      let found : slice_get p.thms i ≡ Some (row_of_thm ps stream_here) = ap (λ (l : List Row). slice_get l i) e.thms.1 ∙ slice-at q.thms e.thms.0 (row_of_thm ps stream_here) in
      let read = thm-read p fit i ps stream_here found in
      let there : Stands (file_of p) (thm_row_of (file_of p) i).stream_at stream_here = subst (λ (r : ThmRow). Stands (file_of p) r.stream_at stream_here) (sym read) (thm-stream p fit i ps stream_here found) in
      let h : List ℕ = numbered (numbered (kind_name k) i) (length ps) ++ codes "\n" in
      streams-shown k both refl short-u short-q head stands there (omega (arith, many, inside), tt)
      (ap (λ (r : ThmRow). ((numbered (numbered (kind_name k) i) (length r.params) ++ codes "\n") ++ texts param_line r.params) ++ texts_here) read
      ∙ append_assoc h (texts param_line ps) texts_here
      ∙ ap (λ z. h ++ z) (ap (λ z. texts param_line ps ++ z) (sym (streams-text us qs)) ∙ sym (words-text ps (both_streams us qs)))
      ∙ ap (λ (r : ℕ). (numbered (numbered (kind_name k) r) (length ps) ++ codes "\n") ++ texts line_text (map lines.Param ps ++ both_streams us qs)) (sym is))
      (ap (λ (n : ℕ). record { number = number + 1; at = next_place at (written (st k row mods ps o us qs)); rows = record { sorts = length q.sorts; terms = length q.terms; thms = n } }) (one-more q.thms (row_of_thm ps stream_here)))

  -- a definition's name and streams go by its row, a local one's by its code
  abbrev named_by : Kind → Bool → List ℕ
  named_by kinds.Definition b = cond b (codes "def") (codes "term")
  named_by k b = kind_name k

  abbrev streamed_by : Kind → Bool → Bool
  streamed_by kinds.Definition b = b
  streamed_by _ b = true

  suits : (k : Kind) → (term_row_of (file_of p) (length q.terms)).words.has_body ≡ true → AllHold (suits_checks (file_of p) place_here.rows at (code_of k))
  suits kinds.LocalDefinition has = (has, tt)
  suits kinds.Definition has = (tt, tt)
  suits kinds.Term has = (tt, tt)
  suits _ has = tt

  definition-shown : (k : Kind) → has_result k ≡ true → has_streams k ≡ true → Extends (with_statement q (st k row mods ps o us qs)) p → row ≡ length q.terms → AreShort us → AreShort qs
      → statement_at (file_of p) at ≡ Ok (Head (written (st k row mods ps o us qs)).code (body_place at (written (st k row mods ps o us qs))) (next_place at (written (st k row mods ps o us qs))))
      → Stands (file_of p) (body_place at (written (st k row mods ps o us qs))) body_here → IsShown p q number at (st k row mods ps o us qs)
  definition-shown kinds.Sort result both e is short-u short-q head stands = absurd cc
  definition-shown kinds.Term result both e is short-u short-q head stands = absurd cc
  definition-shown kinds.Axiom result both e is short-u short-q head stands = absurd cc
  definition-shown kinds.Theorem result both e is short-u short-q head stands = absurd cc
  definition-shown kinds.LocalTheorem result both e is short-u short-q head stands = absurd cc
  definition-shown k result both e is short-u short-q head stands =
      let t : ℕ = length q.terms in
      let many = (counts-said p fit.short).terms in
      let inside = below q.terms e.terms.0 p.terms (row_of_term ps o (Some stream_here)) e.terms.1 in
      let found : slice_get p.terms t ≡ Some (row_of_term ps o (Some stream_here)) = ap (λ (l : List Row). slice_get l t) e.terms.1 ∙ slice-at q.terms e.terms.0 (row_of_term ps o (Some stream_here)) in
      let read = term-read p fit t ps o (Some stream_here) found in
      let there : Stands (file_of p) (term_row_of (file_of p) t).stream_at stream_here = subst (λ (r : TermRow). Stands (file_of p) r.stream_at stream_here) (sym read) (term-stream p fit t ps o stream_here found) in
      let has : (term_row_of (file_of p) t).words.has_body ≡ true = ap (λ (r : TermRow). r.words.has_body) read in
      let h : List ℕ = numbered (numbered (kind_name k) t) (length ps) ++ codes "\n" in
      streams-shown k both (ap (λ (r : TermRow). streamed_by k r.words.has_body) read) short-u short-q head stands there (omega (arith, many, inside), suits k has)
      (ap (λ (r : TermRow). ((numbered (numbered (named_by k r.words.has_body) t) (length r.words.params) ++ codes "\n") ++ (texts param_line r.words.params ++ result_line r.words.result)) ++ streams_text (streamed_by k r.words.has_body) (seen_here (code_of k) (written (st k row mods ps o us qs)))) read
      ∙ row-parts h (texts param_line ps) (result_line o) texts_here
      ∙ ap (λ z. h ++ z) (ap (λ z. texts param_line ps ++ (result_line o ++ z)) (sym (streams-text us qs)) ∙ sym (words-text ps (lines.Outcome o ∷ both_streams us qs)))
      ∙ ap (λ (r : ℕ). (numbered (numbered (kind_name k) r) (length ps) ++ codes "\n") ++ texts line_text (map lines.Param ps ++ (lines.Outcome o ∷ both_streams us qs))) (sym is))
      (ap (λ (n : ℕ). record { number = number + 1; at = next_place at (written (st k row mods ps o us qs)); rows = record { sorts = length q.sorts; terms = n; thms = length q.thms } }) (one-more q.terms (row_of_term ps o (Some stream_here))))

-- each statement is listed at its place
pub is-shown : (p : Parts) (fit : Fit p) (q : Parts) (number at : ℕ) (rows : Rows) (k : Kind) (row mods : ℕ) (ps : List Word) (o : Word) (us : List (UnifyCode × ℕ)) (qs : List (ProofCode × ℕ))
    → Extends (with_statement q (st k row mods ps o us qs)) p → rows ≡ record { sorts = length q.sorts; terms = length q.terms; thms = length q.thms } → Fine rows (st k row mods ps o us qs)
    → statement_at (file_of p) at ≡ Ok (Head (written (st k row mods ps o us qs)).code (body_place at (written (st k row mods ps o us qs))) (next_place at (written (st k row mods ps o us qs))))
    → Stands (file_of p) (body_place at (written (st k row mods ps o us qs))) (written (st k row mods ps o us qs)).body → IsShown p q number at (st k row mods ps o us qs)
is-shown p fit q number at rows kinds.Sort row mods ps o us qs e r fine head stands = sort-shown p fit q number at row mods ps o us qs e (fine.row ∙ ap (λ (x : Rows). x.sorts) r) head
is-shown p fit q number at rows kinds.Term row mods ps o us qs e r fine head stands = term-shown p fit q number at row mods ps o us qs e (fine.row ∙ ap (λ (x : Rows). x.terms) r) head
is-shown p fit q number at rows kinds.Definition row mods ps o us qs e r fine head stands = definition-shown p fit q number at row mods ps o us qs kinds.Definition refl refl e (fine.row ∙ ap (λ (x : Rows). x.terms) r) (fine.unify refl) (fine.proof refl) head stands
is-shown p fit q number at rows kinds.LocalDefinition row mods ps o us qs e r fine head stands = definition-shown p fit q number at row mods ps o us qs kinds.LocalDefinition refl refl e (fine.row ∙ ap (λ (x : Rows). x.terms) r) (fine.unify refl) (fine.proof refl) head stands
is-shown p fit q number at rows k row mods ps o us qs e r fine head stands = assertion-shown p fit q number at row mods ps o us qs k refl refl e (fine.row ∙ ap (λ (x : Rows). x.thms) r) (fine.unify refl) (fine.proof refl) head stands

-- ---- all of them

abbrev pub counts : Parts → Rows
counts q = record { sorts = length q.sorts; terms = length q.terms; thms = length q.thms }

counts-more : (q : Parts) (k : Kind) (row mods : ℕ) (ps : List Word) (o : Word) (us : List (UnifyCode × ℕ)) (qs : List (ProofCode × ℕ)) → taken (counts q) k ≡ counts (with_statement q (st k row mods ps o us qs))
counts-more q kinds.Sort row mods ps o us qs = ap (λ (n : ℕ). record (counts q) { sorts = n }) (one-more q.sorts mods)
counts-more q kinds.Axiom row mods ps o us qs = ap (λ (n : ℕ). record (counts q) { thms = n }) (one-more q.thms _)
counts-more q kinds.Theorem row mods ps o us qs = ap (λ (n : ℕ). record (counts q) { thms = n }) (one-more q.thms _)
counts-more q kinds.LocalTheorem row mods ps o us qs = ap (λ (n : ℕ). record (counts q) { thms = n }) (one-more q.thms _)
counts-more q _ row mods ps o us qs = ap (λ (n : ℕ). record (counts q) { terms = n }) (one-more q.terms _)

statements-more : (q : Parts) (k : Kind) (row mods : ℕ) (ps : List Word) (o : Word) (us : List (UnifyCode × ℕ)) (qs : List (ProofCode × ℕ)) → (with_statement q (st k row mods ps o us qs)).statements ≡ q.statements ++ (written (st k row mods ps o us qs) ∷ [])
statements-more q kinds.Sort row mods ps o us qs = refl
statements-more q _ row mods ps o us qs = refl

pub statements-from : (q : Parts) (ss : List Statement) → (parts_from q ss).statements ≡ q.statements ++ map written ss
statements-from q [] = sym (append-nil q.statements)
statements-from q (s ∷ ss) =
    statements-from (with_statement q s) ss
    ∙ ap (λ z. z ++ map written ss) (statements-more q s.kind s.row s.mods s.params s.outcome s.unify s.proof)
    ∙ append_assoc q.statements (written s ∷ []) (map written ss)

pub good-parts : (rows : Rows) (s : Statement) (ss : List Statement) (more : List Line) → AllGood rows (all_lines (s ∷ ss) ++ more) → Fine rows s × AllGood (taken rows s.kind) (all_lines ss ++ more)
good-parts rows s ss more good = fine-statement rows s (all_lines ss ++ more) (subst (AllGood rows) (append_assoc (statement_lines s) (all_lines ss) more) good)

-- ---- the format has room for them

term-room : (ps : List Word) (o : Word) (r : Row) → length ps ≤ 65535 → All (λ w. w.0 < 2 ^ 64) ps → o.0 < 2 ^ 64 → r.params ≡ length ps → r.words ≡ ps ++ (o ∷ []) → HasRoom 1 r
term-room ps o r few words small n is =
    let many = length-append ps (o ∷ []) in
    let all = ap length is in
    record {
      few_params = omega (arith, n, few);
      count = omega (arith, many, all, n);
      words = subst (λ (ws : List Word). All (λ w. w.0 < 2 ^ 64) ws) (sym is) (All-append (λ (w : Word). w.0 < 2 ^ 64) ps (o ∷ []) words (All-cons (λ (w : Word). w.0 < 2 ^ 64) o [] small (All-nil (λ (w : Word). w.0 < 2 ^ 64))));
    }

thm-room : (ps : List Word) (stream : List ℕ) → length ps ≤ 65535 → All (λ w. w.0 < 2 ^ 64) ps → HasRoom 0 (row_of_thm ps stream)
thm-room ps stream few words = record { few_params = omega (arith, few); count = omega arith; words = words }

all-more-rows : {A : Type 0} (P : A → Type 0) (xs : List A) (x : A) → All P xs → P x → All P (xs ++ (x ∷ []))
all-more-rows P xs x all one = All-append P xs (x ∷ []) all (All-cons P x [] one (All-nil P))

codes-more : (q : Parts) (w : Written) → HaveRoom q → IsTrue (begins_statement w.code) → All (λ s. IsTrue (begins_statement s.code)) (q.statements ++ (w ∷ []))
codes-more q w room is = all-more-rows (λ (s : Written). IsTrue (begins_statement s.code)) q.statements w room.codes is

room-more : (q : Parts) (rows : Rows) (k : Kind) (row mods : ℕ) (ps : List Word) (o : Word) (us : List (UnifyCode × ℕ)) (qs : List (ProofCode × ℕ)) → HaveRoom q → Fine rows (st k row mods ps o us qs) → HaveRoom (with_statement q (st k row mods ps o us qs))
room-more q rows kinds.Sort row mods ps o us qs room fine = let small = fine.mods refl in record { mods = all-more-rows (λ (m : ℕ). m < 16) q.sorts mods room.mods (omega (arith, small)); terms = room.terms; thms = room.thms; codes = codes-more q _ room refl }
room-more q rows kinds.Axiom row mods ps o us qs room fine = record { mods = room.mods; terms = room.terms; thms = all-more-rows (HasRoom 0) q.thms _ room.thms (thm-room ps _ (fine.few refl) (fine.words refl)); codes = codes-more q _ room refl }
room-more q rows kinds.Theorem row mods ps o us qs room fine = record { mods = room.mods; terms = room.terms; thms = all-more-rows (HasRoom 0) q.thms _ room.thms (thm-room ps _ (fine.few refl) (fine.words refl)); codes = codes-more q _ room refl }
room-more q rows kinds.LocalTheorem row mods ps o us qs room fine = record { mods = room.mods; terms = room.terms; thms = all-more-rows (HasRoom 0) q.thms _ room.thms (thm-room ps _ (fine.few refl) (fine.words refl)); codes = codes-more q _ room refl }
room-more q rows _ row mods ps o us qs room fine = record { mods = room.mods; terms = all-more-rows (HasRoom 1) q.terms _ room.terms (term-room ps o _ (fine.few refl) (fine.words refl) (fine.outcome refl) refl refl); thms = room.thms; codes = codes-more q _ room refl }

few-sorts : (q : Parts) (rows : Rows) (k : Kind) (row mods : ℕ) (ps : List Word) (o : Word) (us : List (UnifyCode × ℕ)) (qs : List (ProofCode × ℕ)) → rows ≡ counts q → length q.sorts ≤ 128 → Fine rows (st k row mods ps o us qs) → length (with_statement q (st k row mods ps o us qs)).sorts ≤ 128
few-sorts q rows kinds.Sort row mods ps o us qs r few fine = let many = one-more q.sorts mods in let room = fine.room in let same = ap (λ (x : Rows). x.sorts) r in omega (arith, many, room, same)
few-sorts q rows _ row mods ps o us qs r few fine = few

pub rows-go-on : (q : Parts) (s : Statement) (rows : Rows) → rows ≡ counts q → taken rows s.kind ≡ counts (with_statement q s)
rows-go-on q s rows r = ap (λ (x : Rows). taken x s.kind) r ∙ counts-more q s.kind s.row s.mods s.params s.outcome s.unify s.proof

pub all-room : (q : Parts) (ss : List Statement) (rows : Rows) (more : List Line) → HaveRoom q → length q.sorts ≤ 128 → rows ≡ counts q → AllGood rows (all_lines ss ++ more) → HaveRoom (parts_from q ss) × (length (parts_from q ss).sorts ≤ 128)
all-room q [] rows more room few r good = (room, few)
all-room q (s ∷ ss) rows more room few r good =
    let parts = good-parts rows s ss more good in
    all-room (with_statement q s) ss (taken rows s.kind) more
    (room-more q rows s.kind s.row s.mods s.params s.outcome s.unify s.proof room parts.0)
    (few-sorts q rows s.kind s.row s.mods s.params s.outcome s.unify s.proof r few parts.0)
    (rows-go-on q s rows r) parts.1

-- ---- the listing

pub record IsChained (p q : Parts) (number at : ℕ) (ss : List Statement) : Type 0 where
  pub shown : List Shown
  pub last : Place
  pub chain : Chain (file_of p) (place_at number at q) shown last
  pub ends : EndsAt (file_of p) last
  pub text : chain_text (file_of p) (place_at number at q) shown ≡ texts line_text (all_lines ss)

chain-shown : (p : Parts) (fit : Fit p) (q : Parts) (ss : List Statement) (number at : ℕ) (rows : Rows) (more : List Line) → parts_from q ss ≡ p → rows ≡ counts q → AllGood rows (all_lines ss ++ more) → AreListed (file_of p) at (map written ss) → IsChained p q number at ss
chain-shown p fit q [] number at rows more e r good listed =
    let many = counts-said p fit.short in
    record {
      shown = [];
      last = place_at number at q;
      chain = refl;
      ends = (listed, record { sorts_taken = ap (λ (x : Parts). length x.sorts) e ∙ sym many.sorts; terms_taken = ap (λ (x : Parts). length x.terms) e ∙ sym many.terms; thms_taken = ap (λ (x : Parts). length x.thms) e ∙ sym many.thms });
      text = refl;
    }
chain-shown p fit q (s ∷ ss) number at rows more e r good (head, stands, listed) =
    let parts = good-parts rows s ss more good in
    let extends : Extends (with_statement q s) p = subst (Extends (with_statement q s)) e (extends-all (with_statement q s) ss) in
    let one : IsShown p q number at s = is-shown p fit q number at rows s.kind s.row s.mods s.params s.outcome s.unify s.proof extends r parts.0 head stands in
    let rest = chain-shown p fit (with_statement q s) ss (number + 1) (next_place at (written s)) (taken rows s.kind) more e (rows-go-on q s rows r) parts.1 listed in
    record {
      shown = one.shown ∷ rest.shown;
      last = rest.last;
      chain = (one.stands, one.right, subst (λ (pl : Place). Chain (file_of p) pl rest.shown rest.last) (sym one.goes) rest.chain);
      ends = rest.ends;
      text =
          ap (λ z. z ++ chain_text (file_of p) (after (place_at number at q) one.shown) rest.shown) one.text
          ∙ ap (λ (pl : Place). texts line_text (statement_lines s) ++ chain_text (file_of p) pl rest.shown) one.goes
          ∙ ap (λ z. texts line_text (statement_lines s) ++ z) rest.text
          ∙ sym (texts-append line_text (statement_lines s) (all_lines ss));
    }

pub no-room : HaveRoom no_parts
no-room = record { mods = All-nil (λ (m : ℕ). m < 16); terms = All-nil (HasRoom 1); thms = All-nil (HasRoom 0); codes = All-nil (λ (s : Written). IsTrue (begins_statement s.code)) }

pub is-listed : (text : List ℕ) (ss : List Statement) → Says text ss → file_length (parts_of ss) < 2 ^ 32 → IsListing (file_of (parts_of ss)) text
is-listed text ss says short =
    let p : Parts = parts_of ss in
    let good : AllGood no_rows (all_lines ss ++ (lines.End ∷ [])) = good-lines text (listing_lines ss) [] no_rows says.lines says.fitting in
    let room = all-room no_parts ss no_rows (lines.End ∷ []) no-room (omega arith) refl good in
    let fit : Fit p = record { room = room.0; few_sorts = room.1; short = short } in
    let listed : AreListed (file_of p) (list_at (file_of p)) p.statements = subst (λ at. AreListed (file_of p) at p.statements) (sym (counts-said p fit.short).list_at) (all-listed p fit) in
    let written-all = subst (λ (ws : List Written). AreListed (file_of p) (list_at (file_of p)) ws) (statements-from no_parts ss) listed in
    let chained = chain-shown p fit no_parts ss 1 (list_at (file_of p)) no_rows (lines.End ∷ []) refl refl good written-all in
    record {
      layout = layout-holds p fit;
      statements = chained.shown;
      last = chained.last;
      chain = chained.chain;
      ends = chained.ends;
      text_is = text-spelled text (listing_lines ss) no_rows says.lines says.fitting ∙ texts-append line_text (all_lines ss) (lines.End ∷ []) ∙ ap (λ z. z ++ codes "end\n") (sym chained.text);
    }

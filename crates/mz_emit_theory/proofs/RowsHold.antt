-- The row of a statement that is written spells what was made, and the statement's checks hold.
use Rattle.std.proofs.Common.{◌≡◌, ◌<◌, ◌∙◌, ℕ, Bool, true, false, List, [], ◌++◌, length, drop, slice_get, Option, None, Some, refl, sym, ap, subst, inl, arith}
use Rattle.std.specs.Prelude.{◌+◌, ◌*◌}
use Rattle.std.proofs.lemmas.Option.{slice_get_within}
use Rattle.mz_base.specs.Checks.{Checks, AllHold}
use Rattle.mz_base.proofs.Offered.{all_hold-both}
use Rattle.mz_cmd.specs.declared.code.StatementCode.{StatementCode}
use Rattle.mz_cmd.specs.declared.code.StatementCode.TheVariants as codes
use Rattle.mz_cmd.specs.declared.rule.K.{K}
use Rattle.mz_logic_theory.specs.Tree.{Tree, none}
use Rattle.mz_logic_theory.specs.Signature.{Signature}
use Rattle.mz_logic_theory.specs.Declaration.{plain_form, defined, Assertion, Declaration, sort_decl, term_decl, assertion_decl, sorts, terms, signatures, assertions}
use Rattle.mz_logic_theory.specs.Legality.{IsLegalDecl}
use Rattle.mz_logic_theory.specs.Words.{binders_of, signature_of}
use Rattle.mz_logic_theory.specs.declared.binder.Binder.{Binder}
use Rattle.mz_logic_theory.specs.declared.binder.SortMods.{SortMods}
use Rattle.mz_logic_theory.specs.declared.word.Word.{Word}
use Rattle.mz_layout_tables.specs.Normal.{Parts, row_of_term, row_of_thm, file_of}
use Rattle.mz_layout_tables.specs.NormalLaws.{written_term, written_thm, term_place, thm_place}
use Rattle.mz_layout_tables.specs.Standing.{Fit, Stands}
use Rattle.mz_layout_tables.specs.Tables.{TermRow, ThmRow, sort_count, term_count, thm_count, term_row, thm_row}
use Rattle.mz_layout_tables.proofs.Offered.{SaysCounts, counts-said, slice_get-sorts, mods-read, term-read, thm-read, term-stream, thm-stream, params-hold, words-hold}
use Rattle.mz_machine_theory.specs.Profile.{plain}
use Rattle.mz_machine_theory.specs.Spells.{Text, SpelledTerm, SpelledThm, SpellsTerm, SpellsThm}
use Rattle.mz_machine_theory.specs.Streams.{of_assertion, of_definition}
use Rattle.mz_machine_theory.specs.Bodies.{Runs}
use Rattle.mz_machine_theory.specs.FileRows.{taken_by, stream_of, term_of_file, thm_of_file, rows_taken, Taken}
use Rattle.mz_layout_tables.specs.Heads.{body_bytes}
use Rattle.mz_machine_theory.specs.Lists.{assertion_of, definition_of}
use Rattle.mz_layout_tables.specs.RowWords.{IsResultWord, param_checks, word_checks}
use Rattle.mz_machine_theory.specs.MachineState.{RowsBefore, Heading, is_definition, Declares}
use Rattle.mz_machine_theory.proofs.Offered.{pairs-long}
use Rattle.mz_binary_theory.specs.Checking.{term_body_checks, term_checks, thm_checks, kind_checks}
use Rattle.mz_binary_theory.specs.Spelling.{SpellsRow}
use Rattle.mz_emit_theory.specs.AlphaEquivalence.{IsSameTerm, IsSameForm, IsSameEnv}
use Rattle.mz_emit_theory.proofs.SameTables.{same-signatures}
use Rattle.mz_emit_theory.specs.Bodies.{IsBody}
use Rattle.mz_emit_theory.specs.SpellsBefore.{SpellsBefore}
use Rattle.mz_emit_theory.specs.FileWriting.{SayParams, SaySignature, IsWrittenAssertion}
use Rattle.mz_emit_theory.proofs.BodiesRun.{assertion-runs, definition-runs}
use Rattle.mz_binary_theory.proofs.Offered.{holds-with}
use Rattle.mz_binary_theory.specs.Standards.{checks_by, by_table}

-- the code of a term's statement, and of an assertion's
abbrev pub term_code : (is_local : Bool) → StatementCode
term_code true = codes.LocalDefinition
term_code false = codes.Term

abbrev pub assertion_code : (without_proof : Bool) → StatementCode
assertion_code true = codes.Axiom
assertion_code false = codes.Theorem

-- with their rows
module _ (gaps : Bool) (file : List ℕ) (taken : Taken) (at body next : ℕ) where
  definition-holds : (l : Bool) → taken.terms < term_count file → (term_row file taken.terms).words.has_body ≡ true → AllHold (term_checks (by_table gaps) file taken at body next)
      → AllHold (kind_checks (by_table gaps) file taken at body next (Some (term_code l)))
  definition-holds true below is all = (below, (is, all))
  definition-holds false below is all = (below, (tt, all))

  assertion-holds : (w : Bool) → taken.thms < thm_count file → AllHold (thm_checks (by_table gaps) file taken body next w) → AllHold (kind_checks (by_table gaps) file taken at body next (Some (assertion_code w)))
  assertion-holds true below all = (below, all)
  assertion-holds false below all = (below, all)

-- a term's row as it is read of its record, and an assertion's
abbrev term_by : List ℕ → TermRow → SpelledTerm
term_by file row = record { signature = signature_of row.words; stream = stream_of file row }

abbrev thm_by : List ℕ → ThmRow → SpelledThm
thm_by file row = record { params = binders_of row.params; stream = drop row.stream_at file }

-- a definition's row as it is read: its stream goes on to the end of the file
pub definition-row : (p : Parts) → Fit p → (n : ℕ) (signature : Signature) (ws : List Word) (result : Word) (stream : List ℕ) → signature_of (record { params = ws; result = result; has_body = false }) ≡ signature
    → slice_get p.terms n ≡ Some (row_of_term ws result (Some stream)) → (further : List ℕ) × (term_of_file (file_of p) n ≡ record { signature = signature; stream = Some (stream ++ further) })
definition-row p fit n signature ws result stream said here =
    let file : List ℕ = file_of p in
    let stands : Stands file (term_place p n + 8 * (length ws + 1)) stream = term-stream p fit n ws result stream here in (
      stands.rest,
      ap (term_by file) (term-read p fit n ws result (Some stream) here) ∙ ap (λ (z : Signature). record { signature = z; stream = Some (drop (term_place p n + 8 * (length ws + 1)) file) }) said
          ∙ ap (λ (z : List ℕ). record { signature = signature; stream = Some z }) stands.from_there,
    )

-- the row spells this after the declarations of env, and these checks hold
pub record IsGoodRow (file : List ℕ) (env : List Declaration) (d : Declaration) (checks : Checks (ℕ × K)) : Type 0 where
  pub row : SpellsRow file env d
  pub holds : AllHold checks

module _ (gaps : Bool) (p : Parts) (fit : Fit p) (env env' : List Declaration) (same : IsSameEnv env env') (declares : Declares (rows_taken (file_of p) (taken_by env')) env')
    (at body next : ℕ) (bytes : List ℕ) (bytes-are : body_bytes (file_of p) body next ≡ bytes) where
  abbrev file : List ℕ
  file = file_of p

  abbrev tables : RowsBefore
  tables = rows_taken file (taken_by env')

  counts : SaysCounts (file_of p) p
  counts = counts-said p fit.short

  sigs : signatures env ≡ signatures env'
  sigs = same-signatures env env' same

  pub sort-good : (m : SortMods) → slice_get p.sorts (length (sorts env)) ≡ Some m.0 → bytes ≡ [] → IsGoodRow file env' (sort_decl m) (kind_checks (by_table gaps) file (taken_by env') at body next (Some codes.Sort))
  sort-good m e empty =
      let n : ℕ = length (sorts env') in
      let here : slice_get p.sorts n ≡ Some m.0 = subst (λ (ss : List SortMods). slice_get p.sorts (length ss) ≡ Some m.0) same.sorts_are e in
      let below : n < sort_count file = (let within : n < length p.sorts = slice_get_within p.sorts n m.0 here in omega (arith, counts.sorts)) in
      record {
        row = slice_get-sorts file n below ∙ ap (λ (z : SortMods). Some z) (mods-read p fit n m.0 here);
        holds = (below, (inl (bytes-are ∙ empty), tt));
      }

  -- ---- terms

  module _ (is_local : Bool) (signature : Signature) (ws : List Word) (result : Word) (say : SaySignature (sorts env) ws result signature) where
    say' : SaySignature (sorts env') ws result signature
    say' = subst (λ (ss : List SortMods). SaySignature ss ws result signature) same.sorts_are say

    result-word : (unify : Option (List ℕ)) (place : ℕ) → IsResultWord (sorts env') (written_term ws result unify place)
    result-word unify place = record { is_regular = say'.is_regular; named = refl; may_be = say'.may_be; bits = say'.bits }

    words : (row : TermRow) (unify : Option (List ℕ)) (place : ℕ) → row ≡ written_term ws result unify place → AllHold (word_checks (sorts env') row)
    words row unify place is = subst (λ (r : TermRow). AllHold (word_checks (sorts env') r)) (sym is) (words-hold (sorts env') (written_term ws result unify place) say'.right (result-word unify place))

    get-row : (unify : Option (List ℕ)) → slice_get p.terms (length (terms env)) ≡ Some (row_of_term ws result unify) → slice_get p.terms (length (terms env')) ≡ Some (row_of_term ws result unify)
    get-row unify e = subst (λ (n : ℕ). slice_get p.terms n ≡ Some (row_of_term ws result unify)) (pairs-long IsSameTerm (terms env) (terms env') same.terms_are) e

    is-below : (unify : Option (List ℕ)) → slice_get p.terms (length (terms env')) ≡ Some (row_of_term ws result unify) → length (terms env') < term_count file
    is-below unify e = let within : length (terms env') < length p.terms = slice_get_within p.terms (length (terms env')) (row_of_term ws result unify) e in omega (arith, counts.terms)

    pub plain-good : slice_get p.terms (length (terms env)) ≡ Some (row_of_term ws result None) → is_local ≡ false → bytes ≡ []
        → IsGoodRow file env' (term_decl (record { signature = signature; form = plain_form })) (kind_checks (by_table gaps) file (taken_by env') at body next (Some (term_code is_local)))
    plain-good e mark empty =
        let n : ℕ = length (terms env') in
        let here = get-row None e in
        let below = is-below None here in
        let row-is : term_row file n ≡ written_term ws result None (term_place p n) = term-read p fit n ws result None here in
        let row : term_of_file file n ≡ record { signature = signature; stream = None } = ap (term_by file) row-is ∙ ap (λ (z : Signature). record { signature = z; stream = None }) say.said in
        let ends : AllHold (term_body_checks (by_table gaps) file (taken_by env') at body next (term_of_file file n).stream) =
        subst (λ (r : SpelledTerm). AllHold (term_body_checks (by_table gaps) file (taken_by env') at body next r.stream)) (sym row) (inl (bytes-are ∙ empty), tt) in
        record {
          row = (below, subst (λ (r : SpelledTerm). SpellsTerm (signatures env') r (record { signature = signature; form = plain_form })) (sym row) (refl, tt));
          holds = subst (λ (l : Bool). AllHold (kind_checks (by_table gaps) file (taken_by env') at body next (Some (term_code l)))) (sym mark)
              (below, (tt, all_hold-both (word_checks (sorts env') (term_row file n)) (term_body_checks (by_table gaps) file (taken_by env') at body next (term_of_file file n).stream) (words (term_row file n) None (term_place p n) row-is) ends));
        }

    pub definition-good : (stream : List ℕ) (dummies dummies' : List Binder) (e e' : Tree) → slice_get p.terms (length (terms env)) ≡ Some (row_of_term ws result (Some stream))
        → IsLegalDecl env (term_decl (record { signature = signature; form = defined dummies e })) → IsSameForm signature.params (defined dummies e) (defined dummies' e')
        → SpellsBefore of_definition (signatures env) signature.params stream none e' dummies' → IsBody gaps env is_definition signature.params dummies e [] bytes
        → IsGoodRow file env' (term_decl (record { signature = signature; form = defined dummies' e' })) (kind_checks (by_table gaps) file (taken_by env') at body next (Some (term_code is_local)))
    definition-good stream dummies dummies' e e' get legal same-form spells b =
        let n : ℕ = length (terms env') in
        let here = get-row (Some stream) get in
        let below = is-below (Some stream) here in
        let row-is : term_row file n ≡ written_term ws result (Some stream) (term_place p n) = term-read p fit n ws result (Some stream) here in
        let (further, row) = definition-row p fit n signature ws result stream say.said here in
        let bytes' : List ℕ = stream ++ further in
        let runs : Runs (plain gaps) tables (definition_of (record { signature = signature; stream = Some bytes' }) bytes') body (body_bytes file body next) =
        subst (Runs (plain gaps) tables (definition_of (record { signature = signature; stream = Some bytes' }) bytes') body) (sym bytes-are)
        (definition-runs gaps tables env env' declares same body bytes signature bytes' dummies dummies' e e' legal same-form (spells further) b) in
        let ends : AllHold (term_body_checks (by_table gaps) file (taken_by env') at body next (term_of_file file n).stream) =
        subst (λ (o : Option (List ℕ)). AllHold (term_body_checks (by_table gaps) file (taken_by env') at body next o)) (sym (ap (λ (r : SpelledTerm). r.stream) row))
        (subst (λ (r : SpelledTerm). AllHold (checks_by (by_table gaps) tables (definition_of r bytes') body (body_bytes file body next))) (sym row)
        (holds-with gaps tables (definition_of (record { signature = signature; stream = Some bytes' }) bytes') body (body_bytes file body next) runs)) in
        let text : Text of_definition (signatures env') signature.params bytes' none e' dummies' = subst (λ (z : List Signature). Text of_definition z signature.params bytes' none e' dummies') sigs (spells further) in
        record {
          row = (below, subst (λ (r : SpelledTerm). SpellsTerm (signatures env') r (record { signature = signature; form = defined dummies' e' })) (sym row) (refl, text));
          holds = definition-holds gaps file (taken_by env') at body next is_local below (ap (λ (r : TermRow). r.words.has_body) row-is)
              (all_hold-both (word_checks (sorts env') (term_row file n)) (term_body_checks (by_table gaps) file (taken_by env') at body next (term_of_file file n).stream) (words (term_row file n) (Some stream) (term_place p n) row-is) ends);
        }

  -- ---- axioms and theorems

  pub assertion-good : (a : Assertion) → IsLegalDecl env (assertion_decl a) → IsWrittenAssertion gaps p env a bytes → IsGoodRow file env' (assertion_decl a) (kind_checks (by_table gaps) file (taken_by env') at body next (Some (assertion_code a.is_axiom)))
  assertion-good a legal w =
      let n : ℕ = length (assertions env') in
      let here : slice_get p.thms n ≡ Some (row_of_thm w.words w.stream) = subst (λ (z : List Assertion). slice_get p.thms (length z) ≡ Some (row_of_thm w.words w.stream)) same.assertions_are w.row in
      let below : n < thm_count file = (let within : n < length p.thms = slice_get_within p.thms n (row_of_thm w.words w.stream) here in omega (arith, counts.thms)) in
      let row-is : thm_row file n ≡ written_thm w.words (thm_place p n) = thm-read p fit n w.words w.stream here in
      let stands : Stands file (thm_place p n + 8 * length w.words) w.stream = thm-stream p fit n w.words w.stream here in
      let bytes' : List ℕ = w.stream ++ stands.rest in
      let row : thm_of_file file n ≡ record { params = a.params; stream = bytes' } =
      ap (thm_by file) row-is ∙ ap (λ (z : List Binder). record { params = z; stream = drop (thm_place p n + 8 * length w.words) file }) w.say.said ∙ ap (λ (z : List ℕ). record { params = a.params; stream = z }) stands.from_there in
      let h : Heading = assertion_of a.is_axiom (record { params = a.params; stream = bytes' }) in
      let runs : Runs (plain gaps) tables h body (body_bytes file body next) =
      subst (Runs (plain gaps) tables h body) (sym bytes-are) (assertion-runs gaps tables env env' declares same body bytes a bytes' w.dummies legal w.are_dummies (w.text.spells stands.rest) w.body.body) in
      let words : AllHold (param_checks (sorts env') (thm_row file n).words_at (thm_row file n).params) =
      subst (λ (r : ThmRow). AllHold (param_checks (sorts env') r.words_at r.params)) (sym row-is)
      (params-hold (sorts env') (thm_place p n) w.words (subst (λ (ss : List SortMods). SayParams ss w.words a.params) same.sorts_are w.say).right) in
      let ends : AllHold (checks_by (by_table gaps) tables (assertion_of a.is_axiom (thm_of_file file n)) body (body_bytes file body next)) =
      subst (λ (r : SpelledThm). AllHold (checks_by (by_table gaps) tables (assertion_of a.is_axiom r) body (body_bytes file body next))) (sym row) (holds-with gaps tables h body (body_bytes file body next) runs) in
      let text : Text of_assertion (signatures env') a.params bytes' a.hyps a.conclusion [] = subst (λ (z : List Signature). Text of_assertion z a.params bytes' a.hyps a.conclusion []) sigs (w.text.spells stands.rest) in
      record {
        row = (below, subst (λ (r : SpelledThm). SpellsThm (signatures env') r a) (sym row) (refl, text));
        holds = assertion-holds gaps file (taken_by env') at body next a.is_axiom below
            (all_hold-both (param_checks (sorts env') (thm_row file n).words_at (thm_row file n).params) (checks_by (by_table gaps) tables (assertion_of a.is_axiom (thm_of_file file n)) body (body_bytes file body next)) words ends);
      }

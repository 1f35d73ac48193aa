-- What the row of a good statement says of the size and the form of its declaration.
use Rattle.std.proofs.Common.{◌≡◌, ◌≤◌, ◌<◌, ◌+◌, ◌⊎◌, ℕ, Bool, true, false, List, [], length, get_or, drop, Option, Some, None, refl, sym, subst, inl, inr, arith, length-drop}
use Rattle.std.specs.Prelude.{Result, if◌then◌else◌}
use Rattle.std.specs.List.Sorted.{IsStrictlyIncreasing}
use Rattle.std.proofs.lemmas.List.{get_or-drop}
use Rattle.mz_base.specs.Checks.{AllHold}
use Rattle.mz_cmd.specs.declared.code.StatementCode.TheVariants as codes
use Rattle.mz_cmd.specs.declared.statement.StmtAt.{StmtAt}
use Rattle.mz_cmd.specs.declared.statement.StmtFault.{StmtFault}
use Rattle.mz_cmd.specs.Codes.{statement_code}
use Rattle.mz_logic_theory.specs.Tree.{listed}
use Rattle.mz_logic_theory.specs.Signature.{Signature}
use Rattle.mz_logic_theory.specs.Declaration.{Form, plain_form, abstract_form, defined, dummies_of, Declaration, sort_decl, term_decl, assertion_decl, Term, Assertion, sorts, terms, signatures, assertions, DepsAscend}
use Rattle.mz_logic_theory.specs.LegalLists.{Statement}
use Rattle.mz_logic_theory.specs.Words.{binders_of, signature_of}
use Rattle.mz_logic_theory.specs.declared.binder.Binder.{Binder}
use Rattle.mz_logic_theory.specs.declared.binder.SortMods.{SortMods}
use Rattle.mz_logic_theory.specs.declared.word.Word.{Word}
use Rattle.mz_logic_theory.proofs.Offered.{length-binders}
use Rattle.mz_layout_tables.specs.Numbers.{number_at}
use Rattle.mz_layout_tables.specs.Tables.{param_count, params_of, term_record, thm_record, term_row, thm_row}
use Rattle.mz_layout_tables.proofs.Offered.{length-params, right-words}
use Rattle.mz_machine_theory.specs.Spells.{SpellsForm}
use Rattle.mz_machine_theory.specs.MachineState.{Heading, Declares}
use Rattle.mz_machine_theory.specs.Premises.{bound_count}
use Rattle.mz_layout_tables.specs.RowWords.{AreParamWords}
use Rattle.mz_machine_theory.specs.Lists.{definition_of, BodyIsGood}
use Rattle.mz_layout_tables.specs.Heads.{body_bytes}
use Rattle.mz_machine_theory.specs.FileRows.{taken_by, rows_taken, term_of_file, thm_of_file}
use Rattle.mz_binary_theory.specs.Checking.{checks_of, kind_checks}
use Rattle.mz_binary_theory.specs.Chains.{IsGoodStatement}
use Rattle.mz_binary_theory.specs.Laws.{HasRow}
use Rattle.mz_binary_theory.specs.Spelling.{IsKindOf, SpellsRow}
use Rattle.mz_binary_theory.specs.Standards.{strict_standard}
use Rattle.mz_binary_theory.proofs.Offered.{body_of, entry-good, good-rows, words-bound}
use Rattle.mz_decompile_text.specs.Phrasable.{HasForm}
use Rattle.mz_decompile.specs.Laws.{AreBytes}
use Rattle.mz_decompile.proofs.Ascending.{params-ascend, result-ascends}
use Rattle.mz_decompile.proofs.FewBound.{definition-few}
use Rattle.mz_decompile.proofs.RestatedHypotheses.{hyps-few}

-- a sort has four bits; there are few parameters, few of them bound, in order; a term has a form, and an assertion at
-- most n hypotheses
abbrev pub IsModest : ℕ → Declaration → Type 0
IsModest n (sort_decl m) = m.0 < 16
IsModest n (term_decl d) =
    (length d.signature.params ≤ 65535) × (bound_count d.signature.params + length (dummies_of d.form) ≤ 55) × DepsAscend d.signature.params
    × IsStrictlyIncreasing d.signature.result.deps × HasForm d.form
IsModest n (assertion_decl a) = (length a.params ≤ 65535) × (bound_count a.params ≤ 55) × DepsAscend a.params × (length (listed a.hyps) ≤ n)

-- ---- parameters

-- they are counted in two bytes
count-small : (file : List ℕ) (at : ℕ) → AreBytes file → param_count file at ≤ 65535
unfolding number_at
count-small file at bytes =
    let low : get_or (drop at file) 0 0 < 256 = rw get_or-drop (bytes (at + 0)) in
    let high : get_or (drop at file) 1 0 < 256 = rw get_or-drop (bytes (at + 1)) in
    omega (arith, low, high)

params-few : (file : List ℕ) (at : ℕ) → AreBytes file → length (binders_of (params_of file at)) ≤ 65535
params-few file at bytes = omega (arith, length-binders 0 [] (params_of file at), length-params file at, count-small file at bytes)

bound-few : (ss : List SortMods) (ws : List Word) → AreParamWords ss ws → bound_count (binders_of ws) ≤ 55
bound-few ss ws right = omega (arith, (right-words ss ws right).3, words-bound 0 [] ws)

-- ---- forms

module _ (file : List ℕ) (env : List Declaration) (declares : Declares (rows_taken file (taken_by env)) env) (at : ℕ) (s : Statement) (next : ℕ)
    (good : IsGoodStatement strict_standard file env at s next) where
  abbrev AsksBy : ℕ → Type 0
  AsksBy code = AllHold (kind_checks strict_standard file (taken_by env) at good.spelled.body next (statement_code code))

  asked : AsksBy good.spelled.code
  asked = subst (λ (r : Result StmtAt StmtFault). AllHold (checks_of strict_standard file (taken_by env) at r)) good.spelled.stands good.passes

  abbrev row_body : Option (List ℕ) → Bool → Type 0
  row_body o l = BodyIsGood false (rows_taken file (taken_by env)) l (term_of_file file (length (terms env))) (body_of file good.spelled.body next) o

  -- a term's body, by either code
  term-body : (d : Term) → s.decl ≡ term_decl d → (l : Bool) × row_body (term_of_file file (length (terms env))).stream l
  term-body d is = go (subst (IsKindOf good.spelled.code) is good.spelled.kind.0)
    where
      go : (good.spelled.code ≡ 0x05) ⊎ (good.spelled.code ≡ 0x0D) → (l : Bool) × row_body (term_of_file file (length (terms env))).stream l
      go (inl code) = (false, (entry-good strict_standard file (taken_by env) at good.spelled.body next codes.Term (subst AsksBy code asked)).2)
      go (inr code) = (true, (entry-good strict_standard file (taken_by env) at good.spelled.body next codes.LocalDefinition (subst AsksBy code asked)).2)

  -- a form that is spelled, and its dummies
  right-form : (l : Bool) (o : Option (List ℕ)) (form : Form) → row_body o l → bound_count (term_of_file file (length (terms env))).signature.params ≤ 55
      → SpellsForm (signatures env) (term_of_file file (length (terms env))).signature.params o form
      → (bound_count (term_of_file file (length (terms env))).signature.params + length (dummies_of form) ≤ 55) × HasForm form
  right-form l None plain_form body few spells = (omega (arith, few), tt)
  right-form l None abstract_form body few spells = absurd spells
  right-form l None (defined ds e) body few spells = absurd spells
  right-form l (Some stream) plain_form body few spells = absurd spells
  right-form l (Some stream) abstract_form body few spells = absurd spells
  right-form l (Some stream) (defined ds e) body few spells =
      let h : Heading = definition_of (term_of_file file (length (terms env))) stream in
      (definition-few (rows_taken file (taken_by env)) env declares h good.spelled.body (body_bytes file good.spelled.body next) refl few body ds e spells, tt)

  term-modest : AreBytes file → (d : Term) → s.decl ≡ term_decl d → IsModest (length file) (term_decl d)
  term-modest bytes d is =
      let t = length (terms env) in
      let has : HasRow file env (term_decl d) = subst (HasRow file env) is (good-rows strict_standard file env at s next good) in
      let row : SpellsRow file env (term_decl d) = subst (SpellsRow file env) is good.spelled.row in
      let (l, body) = term-body d is in
      let few = bound-few (sorts env) (term_row file t).words.params has.1.params in
      let (bound, form) = right-form l (term_of_file file t).stream d.form body few row.1.1 in
      let sig : signature_of (term_row file t).words ≡ d.signature = sym has.1.signature in (
        subst (λ (g : Signature). length g.params ≤ 65535) sig (params-few file (term_record file t) bytes),
        subst (λ (g : Signature). bound_count g.params + length (dummies_of d.form) ≤ 55) sig bound,
        subst (λ (g : Signature). DepsAscend g.params) sig (params-ascend (term_row file t).words.params),
        subst (λ (g : Signature). IsStrictlyIncreasing g.result.deps) sig (result-ascends (term_row file t).words),
        form,
      )

  assertion-modest : AreBytes file → (a : Assertion) → s.decl ≡ assertion_decl a → IsModest (length file) (assertion_decl a)
  assertion-modest bytes a is =
      let i = length (assertions env) in
      let has : HasRow file env (assertion_decl a) = subst (HasRow file env) is (good-rows strict_standard file env at s next good) in
      let row : SpellsRow file env (assertion_decl a) = subst (SpellsRow file env) is good.spelled.row in
      let params : binders_of (thm_row file i).params ≡ a.params = sym has.1.signature in
      let hyps = hyps-few (signatures env) (thm_of_file file i) a row.1 in
      let left = length-drop (thm_row file i).stream_at file in (
        subst (λ (bs : List Binder). length bs ≤ 65535) params (params-few file (thm_record file i) bytes),
        subst (λ (bs : List Binder). bound_count bs ≤ 55) params (bound-few (sorts env) (thm_row file i).params has.1.params),
        subst DepsAscend params (params-ascend (thm_row file i).params),
        omega (arith, hyps, left),
      )

  pub good-modest : AreBytes file → IsModest (length file) s.decl
  good-modest bytes = go s.decl refl
    where
      go : (d : Declaration) → s.decl ≡ d → IsModest (length file) d
      go (sort_decl m) is =
          let has : HasRow file env (sort_decl m) = subst (HasRow file env) is (good-rows strict_standard file env at s next good) in
          subst (λ (x : SortMods). x.0 < 16) (sym has.1) (omega arith)
      go (term_decl d) is = term-modest bytes d is
      go (assertion_decl a) is = assertion-modest bytes a is

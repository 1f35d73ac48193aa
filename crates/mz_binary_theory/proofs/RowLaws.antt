-- The row of a good statement.
use Rattle.std.proofs.Common.{◌≡◌, ◌⊎◌, ◌<◌, ◌∙◌, ℕ, Bool, true, false, cond, List, length, drop, Option, None, Some, Result, refl, sym, subst, inl, inr, arith}
use Rattle.std.specs.Prelude.{⊤, MatchBool}
use Rattle.std.proofs.lemmas.Option.{slice_get_within}
use Rattle.mz_base.specs.Checks.{Checks, AllHold}
use Rattle.mz_base.proofs.Offered.{all_hold-first}
use Rattle.mz_cmd.specs.declared.code.StatementCode.{StatementCode}
use Rattle.mz_cmd.specs.declared.code.StatementCode.TheVariants as codes
use Rattle.mz_cmd.specs.declared.rule.K.{K}
use Rattle.mz_cmd.specs.declared.statement.StmtAt.{StmtAt}
use Rattle.mz_cmd.specs.declared.statement.StmtFault.{StmtFault}
use Rattle.mz_cmd.specs.Codes.{statement_byte, statement_code}
use Rattle.mz_logic_theory.specs.Declaration.{Declaration, sort_decl, term_decl, assertion_decl, Form, plain_form, abstract_form, defined, sorts, terms, assertions, signatures, is_defined}
use Rattle.mz_logic_theory.specs.LegalLists.{Statement}
use Rattle.mz_logic_theory.specs.Signature.{Signature}
use Rattle.mz_logic_theory.specs.declared.binder.Binder.{Binder}
use Rattle.mz_logic_theory.specs.declared.binder.SortMods.{SortMods}
use Rattle.mz_layout_tables.specs.Tables.{TermRow, tables_of, sort_count, term_row, thm_row}
use Rattle.mz_layout_tables.proofs.Offered.{code-is, length-sorts, slice_get-sorts, params-right, result-right, term-params-right}
use Rattle.mz_machine_theory.specs.Spells.{SpellsForm}
use Rattle.mz_machine_theory.specs.Lists.{assertion_of}
use Rattle.mz_layout_tables.specs.Heads.{body_bytes}
use Rattle.mz_machine_theory.specs.FileRows.{taken_by, rows_taken, term_of_file, thm_of_file}
use Rattle.mz_layout_tables.specs.RowWords.{param_checks, word_checks}
use Rattle.mz_binary_theory.specs.Spelling.{IsKindOf, SpellsRow}
use Rattle.mz_binary_theory.specs.Checking.{term_body_checks, term_checks, thm_checks, kind_checks, checks_of}
use Rattle.mz_binary_theory.specs.Chains.{IsGoodStatement}
use Rattle.mz_binary_theory.specs.Laws.{HasRow, GoodStatementsHaveRows}
use Rattle.mz_binary_theory.specs.Standards.{Standard, checks_by}

same-mods : {m n : SortMods} → Some m ≡ Some n → m ≡ n
same-mods e = cc

-- ---- rows

-- a row has a stream where the form that it spells has a body
spelled-form : (sigs : List Signature) (params : List Binder) (b : Bool) (stream : List ℕ) (f : Form) → SpellsForm sigs params (cond b (Some stream) None) f → b ≡ is_defined f
spelled-form sigs params true stream plain_form h = absurd h
spelled-form sigs params true stream abstract_form h = absurd h
spelled-form sigs params true stream (defined ds b) h = refl
spelled-form sigs params false stream plain_form h = refl
spelled-form sigs params false stream abstract_form h = absurd h
spelled-form sigs params false stream (defined ds b) h = absurd h

pub no-assertion : (code : ℕ) (b : Bool) → (code ≡ 0x04) ⊎ ((code ≡ 0x05) ⊎ (code ≡ 0x0D)) → MatchBool b (code ≡ 0x02) ((code ≡ 0x06) ⊎ (code ≡ 0x0E)) → ⊥
no-assertion code true (inl e) h = omega arith
no-assertion code true (inr (inl e)) h = omega arith
no-assertion code true (inr (inr e)) h = omega arith
no-assertion code false (inl e) (inl h) = omega arith
no-assertion code false (inl e) (inr h) = omega arith
no-assertion code false (inr (inl e)) (inl h) = omega arith
no-assertion code false (inr (inl e)) (inr h) = omega arith
no-assertion code false (inr (inr e)) (inl h) = omega arith
no-assertion code false (inr (inr e)) (inr h) = omega arith

-- the words of the next row of the declaration's kind are right
abbrev pub HasRightRow : List ℕ → List Declaration → Declaration → Type 0
HasRightRow file env (sort_decl m) = ⊤
HasRightRow file env (term_decl d) = AllHold (word_checks (sorts env) (term_row file (length (terms env))))
HasRightRow file env (assertion_decl a) =
    AllHold (param_checks (sorts env) (thm_row file (length (assertions env))).words_at (thm_row file (length (assertions env))).params)

module _ (standard : Standard) (file : List ℕ) (env : List Declaration) (at body next : ℕ) where
  term-right : AllHold (term_checks standard file (taken_by env) at body next) → AllHold (word_checks (sorts env) (term_row file (length (terms env))))
  term-right all =
      all_hold-first (word_checks (sorts env) (term_row file (length (terms env)))) (term_body_checks standard file (taken_by env) at body next (term_of_file file (length (terms env))).stream) all

  thm-right : (w : Bool) → AllHold (thm_checks standard file (taken_by env) body next w) → AllHold (param_checks (sorts env) (thm_row file (length (assertions env))).words_at (thm_row file (length (assertions env))).params)
  thm-right w all =
      let row = thm_row file (length (assertions env)) in
      let run : Checks (ℕ × K) = checks_by standard (rows_taken file (taken_by env)) (assertion_of w (thm_of_file file (length (assertions env)))) body (body_bytes file body next) in
      all_hold-first (param_checks (sorts env) row.words_at row.params) run all

  by-kind : (k : StatementCode) (d : Declaration) → IsKindOf (statement_byte k) d → AllHold (kind_checks standard file (taken_by env) at body next (Some k)) → HasRightRow file env d
  by-kind k (sort_decl m) kind all = tt
  by-kind codes.Term (term_decl d) kind all = term-right all.1.1
  by-kind codes.LocalDefinition (term_decl d) kind all = term-right all.1.1
  by-kind codes.Axiom (term_decl d) (inl e) all = absurd cc
  by-kind codes.Axiom (term_decl d) (inr e) all = absurd cc
  by-kind codes.Sort (term_decl d) (inl e) all = absurd cc
  by-kind codes.Sort (term_decl d) (inr e) all = absurd cc
  by-kind codes.Theorem (term_decl d) (inl e) all = absurd cc
  by-kind codes.Theorem (term_decl d) (inr e) all = absurd cc
  by-kind codes.LocalTheorem (term_decl d) (inl e) all = absurd cc
  by-kind codes.LocalTheorem (term_decl d) (inr e) all = absurd cc
  by-kind codes.Axiom (assertion_decl a) kind all = thm-right true all.1
  by-kind codes.Theorem (assertion_decl a) kind all = thm-right false all.1
  by-kind codes.LocalTheorem (assertion_decl a) kind all = thm-right false all.1
  by-kind codes.Sort (assertion_decl a) kind all = absurd (no-assertion 0x04 a.is_axiom (inl refl) kind)
  by-kind codes.Term (assertion_decl a) kind all = absurd (no-assertion 0x05 a.is_axiom (inr (inl refl)) kind)
  by-kind codes.LocalDefinition (assertion_decl a) kind all = absurd (no-assertion 0x0D a.is_axiom (inr (inr refl)) kind)

  -- the code is a kind's, whose checks hold
  by-code : (code : ℕ) (o : Option StatementCode) (d : Declaration) → statement_code code ≡ o → IsKindOf code d → AllHold (kind_checks standard file (taken_by env) at body next o) → HasRightRow file env d
  by-code code None d is kind all = absurd all.0
  by-code code (Some k) d is kind all = by-kind k d (subst (λ (z : ℕ). IsKindOf z d) (code-is k code is) kind) all

pub right-row : (standard : Standard) (file : List ℕ) (env : List Declaration) (at : ℕ) (s : Statement) (next : ℕ) → IsGoodStatement standard file env at s next → HasRightRow file env s.decl
right-row standard file env at s next good =
    let spelled = good.spelled in
    by-code standard file env at spelled.body next spelled.code (statement_code spelled.code) s.decl refl spelled.kind.0
    (subst (λ (r : Result StmtAt StmtFault). AllHold (checks_of standard file (taken_by env) at r)) spelled.stands good.passes)

-- ---- what it says

module _ (file : List ℕ) (env : List Declaration) where
  says : (d : Declaration) → SpellsRow file env d → HasRightRow file env d → HasRow file env d
  says (sort_decl m) row right =
      let n = length (sorts env) in
      let here : n < sort_count file = (let within : n < length (tables_of file).sorts = slice_get_within (tables_of file).sorts n m row in omega (arith, length-sorts file)) in
      (here, same-mods (sym row ∙ slice_get-sorts file n here))
  says (term_decl d) (here, spells) right =
      let row : TermRow = term_row file (length (terms env)) in (
        here,
        record {
          signature = sym spells.0;
          form = spelled-form (signatures env) (term_of_file file (length (terms env))).signature.params row.words.has_body (drop row.stream_at file) d.form spells.1;
          params = term-params-right (sorts env) row right;
          result = result-right (sorts env) row right;
        },
      )
  says (assertion_decl a) (here, spells) right =
      let row = thm_row file (length (assertions env)) in
      (here, record { signature = sym spells.0; params = params-right (sorts env) row.words_at row.params right })

pub good-rows : GoodStatementsHaveRows
good-rows standard file env at s next good = says file env s.decl good.spelled.row (right-row standard file env at s next good)

-- The words of the rows before a statement were right in their turn.
use Rattle.std.proofs.Common.{◌<◌, ◌≤◌, ℕ, List, [], ◌∷◌, ◌++◌, length, refl, sym, subst, inl, inr, arith}
use Rattle.mz_base.proofs.Offered.{below-or-last}
use Rattle.mz_base.specs.Checks.{AllHold}
use Rattle.mz_logic_theory.specs.Declaration.{Declaration, sort_decl, term_decl, assertion_decl, sorts, terms, assertions}
use Rattle.mz_logic_theory.specs.LegalLists.{Statement}
use Rattle.mz_logic_theory.specs.declared.binder.SortMods.{SortMods}
use Rattle.mz_layout_tables.specs.Tables.{term_row, thm_row}
use Rattle.mz_layout_tables.specs.RowWords.{param_checks, word_checks}
use Rattle.mz_machine_env.specs.Before.{HasRightWords, HasRightParams}
use Rattle.mz_binary_theory.specs.Chains.{GoodTo}
use Rattle.mz_binary_theory.proofs.Offered.{sorts-many, terms-many, assertions-many, HasSorts, sorts-more, HasRightRow, right-row}
use Rattle.mz_binary_theory.specs.Standards.{Standard}

-- each row's words are right where some of these sorts are declared
pub record WereRight (file : List ℕ) (many_sorts many_terms many_thms : ℕ) : Type 0 where
  pub of_terms : (t : ℕ) → t < many_terms → (n : ℕ) × (n ≤ many_sorts) × HasRightWords file n t
  pub of_thms : (i : ℕ) → i < many_thms → (n : ℕ) × (n ≤ many_sorts) × HasRightParams file n i

abbrev WereRightIn : List ℕ → List Declaration → Type 0
WereRightIn file env = WereRight file (length (sorts env)) (length (terms env)) (length (assertions env))

module _ (file : List ℕ) (env : List Declaration) (so_far : HasSorts file env) (before : WereRightIn file env) where
  -- more sorts are declared after it
  more : (s t i : ℕ) → length (sorts env) ≤ s → (t ≤ length (terms env)) → (i ≤ length (assertions env)) → WereRight file s t i
  more s t i more_sorts terms_are thms_are = record {
    of_terms = λ k below. let (n, few, right) = before.of_terms k (omega (arith, terms_are)) in (n, omega (arith, few, more_sorts), right);
    of_thms = λ k below. let (n, few, right) = before.of_thms k (omega (arith, thms_are)) in (n, omega (arith, few, more_sorts), right);
  }

  one-more : (d : Declaration) → HasRightRow file env d → WereRightIn file (env ++ d ∷ [])
  one-more (sort_decl m) right =
      more (length (sorts (env ++ sort_decl m ∷ []))) (length (terms (env ++ sort_decl m ∷ []))) (length (assertions (env ++ sort_decl m ∷ []))) (omega (arith, sorts-many env (sort_decl m ∷ []))) (omega (arith, terms-many env (sort_decl m ∷ []))) (omega (arith, assertions-many env (sort_decl m ∷ [])))
  one-more (term_decl d) right =
      let last : HasRightWords file (length (sorts env)) (length (terms env)) = subst (λ (ss : List SortMods). AllHold (word_checks ss (term_row file (length (terms env))))) so_far right in
      record {
        of_terms = λ k below. elim (below-or-last k (length (terms env)) (omega (arith, terms-many env (term_decl d ∷ [])))) [
          | inl earlier ↦ let (n, few, old) = before.of_terms k earlier in (n, omega (arith, few, sorts-many env (term_decl d ∷ [])), old)
          | inr is ↦ (length (sorts env), omega (arith, sorts-many env (term_decl d ∷ [])), subst (λ (z : ℕ). HasRightWords file (length (sorts env)) z) (sym is) last)
        ];
        of_thms = λ k below. let (n, few, old) = before.of_thms k (omega (arith, assertions-many env (term_decl d ∷ []))) in (n, omega (arith, few, sorts-many env (term_decl d ∷ [])), old);
      }
  one-more (assertion_decl a) right =
      let last : HasRightParams file (length (sorts env)) (length (assertions env)) =
      subst (λ (ss : List SortMods). AllHold (param_checks ss (thm_row file (length (assertions env))).words_at (thm_row file (length (assertions env))).params)) so_far right in
      record {
        of_terms = λ k below. let (n, few, old) = before.of_terms k (omega (arith, terms-many env (assertion_decl a ∷ []))) in (n, omega (arith, few, sorts-many env (assertion_decl a ∷ [])), old);
        of_thms = λ k below. elim (below-or-last k (length (assertions env)) (omega (arith, assertions-many env (assertion_decl a ∷ [])))) [
          | inl earlier ↦ let (n, few, old) = before.of_thms k earlier in (n, omega (arith, few, sorts-many env (assertion_decl a ∷ [])), old)
          | inr is ↦ (length (sorts env), omega (arith, sorts-many env (assertion_decl a ∷ [])), subst (λ (z : ℕ). HasRightParams file (length (sorts env)) z) (sym is) last)
        ];
      }

chain-right : (standard : Standard) (file : List ℕ) (env : List Declaration) (from : ℕ) (ss : List Statement) (env' : List Declaration) (to : ℕ) → GoodTo standard file env from ss env' to → HasSorts file env → WereRightIn file env → WereRightIn file env'
chain-right standard file env from [] env' to chain sorts-are before = subst (WereRightIn file) (sym chain.0) before
chain-right standard file env from (s ∷ ss) env' to (next, good, rest) sorts-are before =
    chain-right standard file (env ++ s.decl ∷ []) next ss env' to rest (sorts-more file env s.decl sorts-are good.spelled.row) (one-more file env sorts-are before s.decl (right-row standard file env from s next good))

pub were-right : (standard : Standard) (file : List ℕ) (from : ℕ) (ss : List Statement) (env : List Declaration) (to : ℕ) → GoodTo standard file [] from ss env to → WereRight file (length (sorts env)) (length (terms env)) (length (assertions env))
were-right standard file from ss env to chain = chain-right standard file [] from ss env to chain refl (record { of_terms = λ t below. absurd (omega arith); of_thms = λ i below. absurd (omega arith) })

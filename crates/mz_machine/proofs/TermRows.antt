-- The rows on terms in any machine, and what can stand under a term.
use Rattle.std.proofs.Common.{◌≡◌, ◌<◌, ℕ, List, [], Some, None, Result, Ok, Err, length, map, refl, sym, ap, ◌∙◌, subst, arith}
use Rattle.std.specs.Prelude.{slice_get}
use Rattle.mz_cmd.specs.declared.rule.K.{K}
use Rattle.mz_cmd.specs.declared.rule.K.TheVariants as k
use Rattle.mz_cmd.specs.declared.code.ProofCode.TheVariants as code
use Rattle.mz_logic_theory.specs.Tree.{Tree, Trees}
use Rattle.mz_logic_theory.specs.Sorts.{Fits}
use Rattle.mz_logic_theory.specs.Words.{signature_of, binders_of, signatures_of as signatures_by}
use Rattle.mz_logic_theory.specs.declared.binder.Binder.{Binder}
use Rattle.mz_logic_theory.proofs.Offered.{length-binders}
use Rattle.mz_layout_tables.specs.Tables.{term_row}
use Rattle.mz_store.specs.Sharing.{CanTake}
use Rattle.mz_machine_theory.specs.Spells.{SpelledTerm, trees_of}
use Rattle.mz_machine_theory.specs.Sorted.{AllSorted}
use Rattle.mz_machine_theory.specs.Profile.{Profile, Item, expr}
use Rattle.mz_machine_theory.specs.Steps.{◌>>=◌}
use Rattle.mz_machine_theory.specs.MachineState.{RowsBefore, signatures_in, State}
use Rattle.mz_machine_theory.specs.Premises.{pop_operands, operands_fit}
use Rattle.mz_machine_theory.specs.ProofMachine.{proof_step, built, push, saved}
use Rattle.mz_machine_env.specs.Before.{Before, signatures_of, words_before}
use Rattle.mz_machine_theory.specs.FileRows.{term_of_file}
use Rattle.mz_machine_theory.proofs.Offered.{fits-from}
use Rattle.mz_machine_env.proofs.Offered.{length-words, words-at, signatures-before}

module _ (P : Profile) (tables : RowsBefore) (at t : ℕ) (st : State P.T) where
  -- ---- what is made decides

  pub term-of : (r : Result (P.T × List (Item P.T)) K) → built P tables at t st ≡ r → proof_step P tables at code.Term t st ≡ (r >>= λ e. Ok (push (expr e.0) e.1 st))
  unfolding proof_step
  term-of r h = ap (λ (x : Result (P.T × List (Item P.T)) K). x >>= λ e. Ok (push (expr e.0) e.1 st)) h

  pub term-save-of : (r : Result (P.T × List (Item P.T)) K) → built P tables at t st ≡ r → proof_step P tables at code.TermSave t st ≡ (r >>= λ e. Ok (saved (expr e.0) (push (expr e.0) e.1 st)))
  unfolding proof_step
  term-save-of r h = ap (λ (x : Result (P.T × List (Item P.T)) K). x >>= λ e. Ok (saved (expr e.0) (push (expr e.0) e.1 st))) h

  pub built-none : slice_get tables.terms t ≡ None → built P tables at t st ≡ Err k.TermIndex
  unfolding built
  built-none h = rw h refl

  module _ (row : SpelledTerm) (there : slice_get tables.terms t ≡ Some row) where
    pub built-few : (rule : K) → pop_operands (length row.signature.params) st.stack ≡ Err rule → built P tables at t st ≡ Err rule
    unfolding built
    built-few rule h = rw (there, h) refl

    -- the trees of operands, as the machine's own list of them
    module _ (trees : List P.T → List Tree) (trees-are : (es : List P.T) → map P.tree es ≡ trees es) (es : List P.T) (rest : List (Item P.T)) (taken : pop_operands (length row.signature.params) st.stack ≡ Ok (es, rest)) where
      pub built-unfit : (rule : K) → operands_fit (signatures_in tables) st.ctx (trees es) row.signature.params ≡ Err rule → built P tables at t st ≡ Err rule
      unfolding built
      built-unfit rule unfit = rw (there, taken, trees-are es, unfit) refl

      pub built-row : operands_fit (signatures_in tables) st.ctx (trees es) row.signature.params ≡ Ok tt → built P tables at t st ≡ Ok (P.make at t es, rest)
      unfolding built
      built-row fit = rw (there, taken, trees-are es, fit) refl

-- what is taken for a row is taken for its parameters
pub takes-its-own : {T : Type 0} (b : Before) (t : ℕ) (st : State T) (xs : List (Item T)) (n : ℕ) (r : Result (List T × List (Item T)) K)
    → n ≡ length (term_row b.file t).words.params → st.stack ≡ xs → pop_operands n xs ≡ r → pop_operands (length (term_of_file b.file t).signature.params) st.stack ≡ r
takes-its-own b t st xs n r many is h =
    ap (λ m. pop_operands m st.stack) (length-binders 0 [] (term_row b.file t).words.params ∙ sym many) ∙ ap (pop_operands n) is ∙ h

-- operands that fit can stand under the term
pub can-stand : (b : Before) (ctx : List Binder) (t : ℕ) (es : List Tree) (operands : Trees) → t < b.rows.terms → AllSorted (signatures_of b) ctx es
    → length es ≡ length (term_row b.file t).words.params → operands_fit (signatures_of b) ctx es (binders_of (term_row b.file t).words.params) ≡ Ok tt
    → trees_of es ≡ operands → CanTake (words_before b) ctx t operands
can-stand b ctx t es operands below sorted many fit are =
    let there : t < length (words_before b) = omega (arith, length-words b, below) in
    let same : length es ≡ length (binders_of (term_row b.file t).words.params) = many ∙ sym (length-binders 0 [] (term_row b.file t).words.params) in
    let fits : Fits (signatures_of b) ctx (trees_of es) (binders_of (term_row b.file t).words.params) = fits-from (signatures_of b) ctx es _ tt fit same sorted in (
      there,
      subst (λ d. Fits (signatures_by (words_before b)) ctx operands (signature_of d).params) (sym (words-at b t there))
          (subst (λ sigs. Fits sigs ctx operands (binders_of (term_row b.file t).words.params)) (sym (signatures-before b))
          (subst (λ ts. Fits (signatures_of b) ctx ts (binders_of (term_row b.file t).words.params)) are fits)),
    )

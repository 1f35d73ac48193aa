-- The words of expressions stay right when a term over expressions is added.
use Rattle.std.proofs.Common.{ℕ, ◌≡◌, List, inl, inr, sym, subst}
use Rattle.mz_logic_theory.specs.Tree.{app}
use Rattle.mz_logic_theory.specs.Variables.{InSomeV}
use Rattle.mz_logic_theory.specs.Words.{TermWords, term_at, word_sort, signature_of, signatures_of}
use Rattle.mz_store.specs.Bits.{Tells, bound_vars}
use Rattle.mz_store.specs.Sharing.{DependsOn, CanTake}
use Rattle.mz_store.specs.declared.item.Id.{Id}
use Rattle.mz_store.proofs.Offered.{signature-at}
use Rattle.mz_pmachine_unify.specs.Numbering.{Numbering, entry_of, trees_of, IsOver, IsRightEntry}
use Rattle.mz_pmachine_unify.specs.Entering.{Made, application, entered}
use Rattle.mz_pmachine_unify.proofs.Growing.{entered-begins, entry-kept, entry-new, in-cases}

pub over-term : (terms : List TermWords) (s : Numbering) (number t : ℕ) (is : List Id) (sort vars deps : ℕ)
    → IsOver (signatures_of terms) s → CanTake terms s.context t (trees_of s is) → sort ≡ word_sort (term_at terms t).result
    → Tells (bound_vars s.context) vars (λ x. InSomeV s.context x (trees_of s is))
    → Tells (bound_vars s.context) deps (DependsOn s.mode (signatures_of terms) s.context (app t (trees_of s is)))
    → IsOver (signatures_of terms) (entered s (record { sort = sort; vars = vars; deps = deps; form = application number t is }))
over-term terms s number t is sort vars deps over (there, fits) sort-is all tells i in_i = elim (in-cases s n i in_i) [
  | inl before ↦ subst (IsRightEntry s.mode (signatures_of terms) s.context) (sym (entry-kept s (entered s n) (entered-begins s n) i before)) (over i before)
  | inr last ↦ subst (λ j. IsRightEntry s.mode (signatures_of terms) s.context (entry_of (entered s n) j)) (sym last)
      (subst (IsRightEntry s.mode (signatures_of terms) s.context) (sym (entry-new s n)) (
        ((signature_of (term_at terms t), signature-at terms t there, sym sort-is, fits), tells),
        ((signature_of (term_at terms t), signature-at terms t there, sym sort-is, fits), all),
      ))
]
  where
    n : Made
    n = record { sort = sort; vars = vars; deps = deps; form = application number t is }

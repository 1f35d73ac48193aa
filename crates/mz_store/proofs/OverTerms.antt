-- What is kept with expressions stays right when a term over operands is added.
use Rattle.std.proofs.Common.{ℕ, zero, suc, ◌≡◌, ◌<◌, List, [], ◌∷◌, length, slice_get, Some, inl, inr, Result, Ok, Err, OnOk, OnErr, refl, sym, subst, arith}
use Rattle.mz_logic_theory.specs.Tree.{app}
use Rattle.mz_logic_theory.specs.Words.{TermWords, term_at, word_sort, signature_of, signatures_of}
use Rattle.mz_store.specs.Bits.{Tells, bound_vars}
use Rattle.mz_store.specs.Sharing.{Sharing, entry_of, trees_of, IsOver, IsRight, DependsOn, CanTake}
use Rattle.mz_store.specs.Nodes.{Made, application, entered}
use Rattle.mz_store.specs.declared.item.Id.{Id}
use Rattle.mz_store.proofs.Growing.{entered-begins, entry-kept, entry-new, in-cases}

pub signature-at : (terms : List TermWords) (t : ℕ) → t < length terms → slice_get (signatures_of terms) t ≡ Some (signature_of (term_at terms t))
signature-at [] t less = absurd (omega arith)
signature-at (d ∷ ds) zero less = refl
signature-at (d ∷ ds) (suc t) less = signature-at ds t (omega arith)

pub over-term : (terms : List TermWords) (s : Sharing) (t : ℕ) (is : List Id) (sort deps : ℕ)
    → IsOver (signatures_of terms) s → CanTake terms s.context t (trees_of s is) → sort ≡ word_sort (term_at terms t).result
    → Tells (bound_vars s.context) deps (DependsOn s.mode (signatures_of terms) s.context (app t (trees_of s is)))
    → IsOver (signatures_of terms) (entered s (record { sort = sort; deps = deps; form = application t is }))
over-term terms s t is sort deps over (there, fits) sort-is tells i in_i = elim (in-cases s n i in_i) [
  | inl before ↦ subst (IsRight s.mode (signatures_of terms) s.context) (sym (entry-kept s (entered s n) (entered-begins s n) i before)) (over i before)
  | inr last ↦ subst (λ j. IsRight s.mode (signatures_of terms) s.context (entry_of (entered s n) j)) (sym last)
      (subst (IsRight s.mode (signatures_of terms) s.context) (sym (entry-new s n)) ((signature_of (term_at terms t), signature-at terms t there, sym sort-is, fits), tells))
]
  where
    n : Made
    n = record { sort = sort; deps = deps; form = application t is }

pub on-ok-from : {A E : Type 0} (P Q : Type 0) (r : Result A E) → (P → Q) → OnOk r P → OnOk r Q
on-ok-from P Q (Ok x) f p = f p
on-ok-from P Q (Err e) f p = tt

pub on-err : {A E : Type 0} (P : Type 0) (r : Result A E) → P → OnErr r P
on-err P (Ok x) p = tt
on-err P (Err e) p = p

-- Operands beside the parameters of their row, one after another, in any machine.
use Rattle.std.proofs.Common.{◌≡◌, ◌≤◌, ℕ, suc, Bool, true, false, List, [], ◌∷◌, length, take, drop, Some, Result, Ok, Err, refl, ap, ◌∙◌, eq-eqb, ne_eqb}
use Rattle.std.specs.Prelude.{slice_get, ◌==◌, not, ◌||◌}
use Rattle.mz_base.proofs.Offered.{drop-past}
use Rattle.mz_cmd.specs.declared.rule.K.{K}
use Rattle.mz_cmd.specs.declared.rule.K.TheVariants as k
use Rattle.mz_logic_theory.specs.Tree.{Tree}
use Rattle.mz_logic_theory.specs.Signature.{Signature}
use Rattle.mz_logic_theory.specs.Legality.{sort_of}
use Rattle.mz_logic_theory.specs.Sorts.{HasSort, IsBoundVar}
use Rattle.mz_logic_theory.proofs.Offered.{sort_is}
use Rattle.mz_machine_theory.proofs.Offered.{bound-is}
use Rattle.mz_logic_theory.specs.Words.{word_bound, word_sort, bound_places, binder_of, binders_of}
use Rattle.mz_logic_theory.specs.declared.binder.Binder.{Binder}
use Rattle.mz_logic_theory.specs.declared.word.Word.{Word}
use Rattle.mz_machine_theory.specs.Steps.{◌>>◌, need}
use Rattle.mz_machine_theory.specs.Tests.{is_bound_var}
use Rattle.mz_machine_theory.specs.Premises.{operands_fit}
use Rattle.mz_store.proofs.Offered.{next-binder}
use Rattle.mz_machine_env.proofs.Offered.{next-at}

-- ---- one operand

module _ (sigs : List Signature) (ctx : List Binder) (e : Tree) (p : Binder) (es : List Tree) (ps : List Binder) where
  either : (a b : Bool) (r : Result (Unit {0}) K) → (need a k.OperandSort >> need b k.OperandBound >> Ok tt) ≡ r → (need a k.OperandSort >> need b k.OperandBound >> operands_fit sigs ctx es ps) ≡ (r >> operands_fit sigs ctx es ps)
  either true true r h = ap (λ (x : Result (Unit {0}) K). x >> operands_fit sigs ctx es ps) h
  either true false r h = ap (λ (x : Result (Unit {0}) K). x >> operands_fit sigs ctx es ps) h
  either false b r h = ap (λ (x : Result (Unit {0}) K). x >> operands_fit sigs ctx es ps) h

  -- what is found of the first decides, or leaves it to the others
  fit-next : (r : Result (Unit {0}) K) → operands_fit sigs ctx (e ∷ []) (p ∷ []) ≡ r → operands_fit sigs ctx (e ∷ es) (p ∷ ps) ≡ (r >> operands_fit sigs ctx es ps)
  fit-next r h = either (sort_of sigs ctx e == p.sort) (not p.bound || is_bound_var ctx e) r h

-- an operand with this sort, beside its parameter
module _ (sigs : List Signature) (ctx : List Binder) (e : Tree) (n : ℕ) (p : Binder) (sorted : HasSort sigs ctx e n) where
  pub other-sort : (n ≡ p.sort → ⊥) → operands_fit sigs ctx (e ∷ []) (p ∷ []) ≡ Err k.OperandSort
  other-sort other = rw (sort_is sigs ctx e n sorted, ne_eqb n p.sort other) refl

  pub not-variable : n ≡ p.sort → p.bound ≡ true → (IsBoundVar ctx e → ⊥) → operands_fit sigs ctx (e ∷ []) (p ∷ []) ≡ Err k.OperandBound
  not-variable same bound none = rw (sort_is sigs ctx e n sorted, eq-eqb n p.sort same, bound, go (is_bound_var ctx e) refl) refl
    where
      go : (b : Bool) → is_bound_var ctx e ≡ b → is_bound_var ctx e ≡ false
      go true is = absurd (none (bound-is ctx e is))
      go false is = is

-- the j-th operand decides, or leaves it to those after it
pub fit-step : (sigs : List Signature) (ctx : List Binder) (es : List Tree) (ws : List Word) (j : ℕ) (e : Tree) (w : Word) (r : Result (Unit {0}) K)
    → slice_get es j ≡ Some e → slice_get ws j ≡ Some w
    → ((p : Binder) → p.sort ≡ word_sort w → p.bound ≡ word_bound w → operands_fit sigs ctx (e ∷ []) (p ∷ []) ≡ r)
    → operands_fit sigs ctx (drop j es) (drop j (binders_of ws)) ≡ (r >> operands_fit sigs ctx (drop (suc j) es) (drop (suc j) (binders_of ws)))
fit-step sigs ctx es ws j e w r at wat h =
    ap (λ xs. operands_fit sigs ctx xs (drop j (binders_of ws))) (next-at es j e at)
    ∙ ap (λ qs. operands_fit sigs ctx (e ∷ drop (suc j) es) qs) (next-binder ws j w wat)
    ∙ fit-next sigs ctx e (binder_of (bound_places 0 (take j ws)) w) (drop (suc j) es) (drop (suc j) (binders_of ws)) r
    (h (binder_of (bound_places 0 (take j ws)) w) refl refl)

-- where none is left nothing fails
pub fit-end : (sigs : List Signature) (ctx : List Binder) (es : List Tree) (ps : List Binder) (j : ℕ) → length es ≤ j → operands_fit sigs ctx (drop j es) ps ≡ Ok tt
fit-end sigs ctx es ps j past = ap (λ xs. operands_fit sigs ctx xs ps) (drop-past es j past)

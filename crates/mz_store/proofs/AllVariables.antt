-- The variables of all operands, gathered one operand after another.
use Rattle.std.proofs.Common.{ℕ, suc, ◌≡◌, ◌<◌, ◌≤◌, ◌⊎◌, List, ap, sym, ◌∙◌, subst, inl, inr, bit_or}
use Rattle.mz_logic_theory.specs.Tree.{Trees, more, operand}
use Rattle.mz_logic_theory.specs.Variables.{InV, InSomeV}
use Rattle.mz_logic_theory.specs.declared.binder.Binder.{Binder}
use Rattle.mz_store.specs.Bits.{Tells, bound_vars}
use Rattle.mz_store.proofs.Gathering.{Gathers, gather-step, gather-end}
use Rattle.mz_store.proofs.Params.{many}
use Rattle.mz_store.proofs.Operands.{rest_of, next-operand, none-left}

pub all-step : (ctx : List Binder) (es : Trees) (i j word part : ℕ) → i < many es → j ≡ suc i → (P : ℕ → Type 0)
    → Gathers (bound_vars ctx) word P (λ x. InSomeV ctx x (rest_of i es)) → Tells (bound_vars ctx) part (λ x. InV ctx x (operand es i))
    → Gathers (bound_vars ctx) (bit_or word part) P (λ x. InSomeV ctx x (rest_of j es))
all-step ctx es i j word part less next P so-far tells =
    gather-step (bound_vars ctx) word part P (λ x. InSomeV ctx x (rest_of i es)) (λ x. InSomeV ctx x (rest_of j es)) (λ x. InV ctx x (operand es i))
    so-far split (λ x v. join x (inl v)) (λ x v. join x (inr v)) tells
  where
    parts : rest_of i es ≡ more (operand es i) (rest_of j es)
    parts = next-operand es i less ∙ ap (λ k. more (operand es i) (rest_of k es)) (sym next)

    split : (x : ℕ) → InSomeV ctx x (rest_of i es) → InV ctx x (operand es i) ⊎ InSomeV ctx x (rest_of j es)
    split x h = subst (InSomeV ctx x) parts h

    join : (x : ℕ) → InV ctx x (operand es i) ⊎ InSomeV ctx x (rest_of j es) → InSomeV ctx x (rest_of i es)
    join x h = subst (InSomeV ctx x) (sym parts) h

pub all-end : (ctx : List Binder) (es : Trees) (i word : ℕ) → many es ≤ i → (P : ℕ → Type 0)
    → Gathers (bound_vars ctx) word P (λ x. InSomeV ctx x (rest_of i es)) → Tells (bound_vars ctx) word P
all-end ctx es i word past P so-far = gather-end (bound_vars ctx) word P (λ x. InSomeV ctx x (rest_of i es)) so-far (λ x h. subst (InSomeV ctx x) (none-left es i past) h)

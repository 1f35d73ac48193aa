-- A body is the same as itself.
use Rattle.std.proofs.Common.{◌≡◌, ℕ, zero, suc, ◌+◌, ◌<◌, List, ◌++◌, length, Some, slice_get, ap, ◌∙◌, arith}
use Rattle.std.specs.List.{range_with_len}
use Rattle.mz_logic_theory.specs.Tree.{Tree, Trees, var, app, none, more}
use Rattle.mz_logic_theory.specs.Signature.{Signature}
use Rattle.mz_logic_theory.specs.Legality.{InRange, AllInRange}
use Rattle.mz_logic_theory.specs.declared.binder.Binder.{Binder}
use Rattle.mz_spec_proved_theory.specs.AlphaTrees.{SameOver, AllSameOver, IsPaired}
use Rattle.mz_spec_proved_theory.proofs.Offered.{own_pairs, pairs-own, paired-own}
use Rattle.mz_emit_theory.specs.AcceptedLaws.{SameFormsHaveSameBodies}
use Rattle.mz_emit_theory.proofs.SameBodies.{same-body-back}

range-at : (from n k : ℕ) → k < n → slice_get (range_with_len from n) k ≡ Some (from + k)
range-at from zero k below = absurd (omega arith)
range-at from (suc n) zero below = ap (λ (z : ℕ). Some z) (omega arith)
range-at from (suc n) (suc k) below = range-at (from + 1) n k (omega arith) ∙ ap (λ (z : ℕ). Some z) (omega arith)

own-row : (n k : ℕ) → k < n → slice_get (range_with_len 0 n) k ≡ Some k
own-row n k below = range-at 0 n k below ∙ ap (λ (z : ℕ). Some z) (omega arith)

module _ (params dummies : List Binder) (sigs : List Signature) where
  mutual
    same-itself : (e : Tree) → InRange sigs (length (params ++ dummies)) e → SameOver (IsPaired (length params) (own_pairs params dummies)) (range_with_len 0 (length sigs)) e e
    same-itself (var x) below = paired-own params dummies x below
    same-itself (app t es) (row, _, all) = (own-row (length sigs) t row, all-same-itself es all)

    all-same-itself : (es : Trees) → AllInRange sigs (length (params ++ dummies)) es → AllSameOver (IsPaired (length params) (own_pairs params dummies)) (range_with_len 0 (length sigs)) es es
    all-same-itself none all = tt
    all-same-itself (more e es) (below, all) = (same-itself e below, all-same-itself es all)

pub same-bodies : SameFormsHaveSameBodies
same-bodies sigs params dummies dummies' e e' (ys, fresh, is, inside) below =
    same-body-back (range_with_len 0 (length sigs)) params dummies dummies dummies' e e e' ys fresh is inside
    (own_pairs params dummies, pairs-own params dummies, same-itself params dummies sigs e below)

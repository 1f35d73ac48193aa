-- The rules on ranges, operands' sorts and bound operands together are the relation of sorts.
use Rattle.std.proofs.Common.{ℕ, zero, suc, ◌<◌, not-suc-le-zero, le_of_suc-le-suc, ◌≡◌, List, [], ◌∷◌, slice_get, length, Some, refl, sym, ap, ◌∙◌, subst, arith}
use Rattle.std.proofs.lemmas.Option.{slice_get-get_or, slice_get_within, get_or_from_slice_get}
use Rattle.mz_logic_theory.specs.Tree.{Tree, Trees, var, app, none, more, listed, operand}
use Rattle.mz_logic_theory.specs.Signature.{Signature}
use Rattle.mz_logic_theory.specs.Sorts.{HasSort, Fits}
use Rattle.mz_logic_theory.specs.Legality.{SortsFit, BoundFit, binder_at, signature_at, sort_of, InRange, AllInRange, Operands, OperandsOf}
use Rattle.mz_logic_theory.specs.declared.binder.Binder.{Binder}
use Rattle.mz_logic_theory.proofs.Instance.{one_at}

-- an expression has one sort
pub one_sort : (sigs : List Signature) (ctx : List Binder) (e : Tree) (s s' : ℕ) → HasSort sigs ctx e s → HasSort sigs ctx e s' → s ≡ s'
one_sort sigs ctx (var x) s s' (b, at, is) (c, at', is') = sym is ∙ ap (λ d. d.sort) (one_at at at') ∙ is'
one_sort sigs ctx (app t es) s s' (b, at, is, _) (c, at', is', _) = sym is ∙ ap (λ d. d.result.sort) (one_at at at') ∙ is'

mutual
  pub sort_by_rules : (sigs : List Signature) (ctx : List Binder) (e : Tree) → InRange sigs (length ctx) e
      → Operands sigs (SortsFit sigs ctx) e → Operands sigs (BoundFit ctx) e → HasSort sigs ctx e (sort_of sigs ctx e)
  sort_by_rules sigs ctx (var x) below sorts bounds = (binder_at ctx x, slice_get-get_or ctx x _ below, refl)
  sort_by_rules sigs ctx (app t es) (there, many, ranges) sorts bounds =
      (signature_at sigs t, slice_get-get_or sigs t _ there, refl, fits_by_rules sigs ctx es (signature_at sigs t).params many ranges sorts bounds)

  pub fits_by_rules : (sigs : List Signature) (ctx : List Binder) (es : Trees) (ps : List Binder) → length (listed es) ≡ length ps → AllInRange sigs (length ctx) es
      → OperandsOf sigs (SortsFit sigs ctx) es ps → OperandsOf sigs (BoundFit ctx) es ps → Fits sigs ctx es ps
  fits_by_rules sigs ctx none [] many ranges sorts bounds = tt
  fits_by_rules sigs ctx none (p ∷ ps) many ranges sorts bounds = absurd (omega arith)
  fits_by_rules sigs ctx (more e es) [] many ranges sorts bounds = absurd (omega arith)
  fits_by_rules sigs ctx (more e es) (p ∷ ps) many (range, ranges) (is, sorts, all_sorts) (bd, bounds, all_bounds) =
      (subst (HasSort sigs ctx e) is (sort_by_rules sigs ctx e range sorts bounds), bd, fits_by_rules sigs ctx es ps (omega arith) ranges all_sorts all_bounds)

-- what a sort gives of each rule
pub signature_is : (sigs : List Signature) (t : ℕ) (d : Signature) → slice_get sigs t ≡ Some d → signature_at sigs t ≡ d
signature_is sigs t d at = get_or_from_slice_get sigs t d _ at

pub sort_is : (sigs : List Signature) (ctx : List Binder) (e : Tree) (s : ℕ) → HasSort sigs ctx e s → sort_of sigs ctx e ≡ s
sort_is sigs ctx (var x) s (b, at, is) = ap (λ c. c.sort) (get_or_from_slice_get ctx x b _ at) ∙ is
sort_is sigs ctx (app t es) s (d, at, is, fits) = ap (λ c. c.result.sort) (signature_is sigs t d at) ∙ is

mutual
  pub range_of_sort : (sigs : List Signature) (ctx : List Binder) (e : Tree) (s : ℕ) → HasSort sigs ctx e s → InRange sigs (length ctx) e
  range_of_sort sigs ctx (var x) s (b, at, is) = slice_get_within ctx x b at
  range_of_sort sigs ctx (app t es) s (d, at, is, fits) = (
    slice_get_within sigs t d at,
    many_of_fits sigs ctx es d.params fits ∙ sym (ap (λ c. length c.params) (signature_is sigs t d at)),
    ranges_of_fits sigs ctx es d.params fits,
  )

  pub ranges_of_fits : (sigs : List Signature) (ctx : List Binder) (es : Trees) (ps : List Binder) → Fits sigs ctx es ps → AllInRange sigs (length ctx) es
  ranges_of_fits sigs ctx none ps fits = tt
  ranges_of_fits sigs ctx (more e es) [] fits = absurd fits
  ranges_of_fits sigs ctx (more e es) (p ∷ ps) (h, bd, rest) = (range_of_sort sigs ctx e p.sort h, ranges_of_fits sigs ctx es ps rest)

  pub many_of_fits : (sigs : List Signature) (ctx : List Binder) (es : Trees) (ps : List Binder) → Fits sigs ctx es ps → length (listed es) ≡ length ps
  many_of_fits sigs ctx none [] fits = refl
  many_of_fits sigs ctx none (p ∷ ps) fits = absurd fits
  many_of_fits sigs ctx (more e es) [] fits = absurd fits
  many_of_fits sigs ctx (more e es) (p ∷ ps) (h, bd, rest) = ap suc (many_of_fits sigs ctx es ps rest)

mutual
  pub operand_sorts_of_sort : (sigs : List Signature) (ctx : List Binder) (e : Tree) (s : ℕ) → HasSort sigs ctx e s → Operands sigs (SortsFit sigs ctx) e
  operand_sorts_of_sort sigs ctx (var x) s h = tt
  operand_sorts_of_sort sigs ctx (app t es) s (d, at, is, fits) =
      subst (λ c. OperandsOf sigs (SortsFit sigs ctx) es c.params) (sym (signature_is sigs t d at)) (operand_sorts_of_fits sigs ctx es d.params fits)

  pub operand_sorts_of_fits : (sigs : List Signature) (ctx : List Binder) (es : Trees) (ps : List Binder) → Fits sigs ctx es ps → OperandsOf sigs (SortsFit sigs ctx) es ps
  operand_sorts_of_fits sigs ctx none ps fits = tt
  operand_sorts_of_fits sigs ctx (more e es) [] fits = tt
  operand_sorts_of_fits sigs ctx (more e es) (p ∷ ps) (h, bd, rest) =
      (sort_is sigs ctx e p.sort h, operand_sorts_of_sort sigs ctx e p.sort h, operand_sorts_of_fits sigs ctx es ps rest)

mutual
  pub bound_operands_of_sort : (sigs : List Signature) (ctx : List Binder) (e : Tree) (s : ℕ) → HasSort sigs ctx e s → Operands sigs (BoundFit ctx) e
  bound_operands_of_sort sigs ctx (var x) s h = tt
  bound_operands_of_sort sigs ctx (app t es) s (d, at, is, fits) =
      subst (λ c. OperandsOf sigs (BoundFit ctx) es c.params) (sym (signature_is sigs t d at)) (bound_operands_of_fits sigs ctx es d.params fits)

  pub bound_operands_of_fits : (sigs : List Signature) (ctx : List Binder) (es : Trees) (ps : List Binder) → Fits sigs ctx es ps → OperandsOf sigs (BoundFit ctx) es ps
  bound_operands_of_fits sigs ctx none ps fits = tt
  bound_operands_of_fits sigs ctx (more e es) [] fits = tt
  bound_operands_of_fits sigs ctx (more e es) (p ∷ ps) (h, bd, rest) =
      (bd, bound_operands_of_sort sigs ctx e p.sort h, bound_operands_of_fits sigs ctx es ps rest)

pub operand_in_range : (sigs : List Signature) (n : ℕ) (es : Trees) (i : ℕ) → AllInRange sigs n es → i < length (listed es) → InRange sigs n (operand es i)
operand_in_range sigs n none i h below = absurd (not-suc-le-zero below)
operand_in_range sigs n (more e es) zero (h, hs) below = h
operand_in_range sigs n (more e es) (suc i) (h, hs) below = operand_in_range sigs n es i hs (le_of_suc-le-suc below)

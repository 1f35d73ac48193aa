use Rattle.std.proofs.Common.{◌<◌, ◌∙◌, Some, ap, sym, length, arith, true≢false}
use Rattle.std.proofs.lemmas.Option.{slice_get_within, slice_get-get_or, get_or_from_slice_get}
use Rattle.mz_logic_theory.specs.declared.binder.Binder.{Binder}
use Rattle.mz_logic_theory.proofs.bound_place.is_bound_at.Goals as goal

pub returns-in-None : goal.returns-in-None
returns-in-None c = (
  λ never. absurd (true≢false (sym never)),
  λ h.
      let within : c.args.place < length c.args.params.now = slice_get_within c.args.params.now c.args.place h.0 h.1 in
      absurd (omega (arith, within, c.in-None.ensures.lookup.3)),
)

pub returns-in-Some : goal.returns-in-Some
returns-in-Some c =
    let b : Binder = c.in-Some.param.now in
    let read = c.in-Some.ensures.lookup in (
      λ bound. (b, slice_get-get_or c.args.params.now c.args.place b read.3.0 ∙ ap Some (sym read.1), bound),
      λ h. ap (λ (p : Binder). p.bound) (read.1 ∙ get_or_from_slice_get c.args.params.now c.args.place _ _ h.1) ∙ h.2,
    )

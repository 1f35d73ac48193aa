use Rattle.std.proofs.Common.{◌≡◌, length, ap, arith, sym, ◌∙◌, subst}
use Rattle.std.proofs.lemmas.List.{length-append}
use Rattle.std.proofs.lemmas.Option.{none-some}
use Rattle.mz_logic_theory.specs.Legality.{Each}
use Rattle.mz_emit_bodies.proofs.Entering.{number_push}
use Rattle.mz_emit_bodies.proofs.shared.first_ids.Goals as goal

pub loop-i-init : goal.loop-i-init
loop-i-init c = (ap length c.new-ids.ensures.items, subst (λ ids. Each ids (λ i id. id.0 ≡ i)) (sym c.new-ids.ensures.items) (λ i id at. absurd (none-some _ at)))

pub loop-i-preserved : goal.loop-i-preserved
loop-i-preserved c =
    let long = c.loop-i.invariant.0 in (
      let more = ap length c.in_ok-push.ensures.items ∙ length-append c.loop-i.ids.items _ in omega (arith, more, long),
      subst (λ ids. Each ids (λ i id. id.0 ≡ i)) (sym c.in_ok-push.ensures.items) (number_push c.loop-i.ids.items _ c.loop-i.invariant.1 (c.in_ok-id.ensures.number ∙ sym long)),
    )

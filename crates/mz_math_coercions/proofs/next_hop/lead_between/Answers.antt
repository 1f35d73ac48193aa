use Rattle.std.proofs.Common.{◌∷◌, [], ap, length, refl}
use Rattle.std.proofs.lemmas.Result.{IfOk-weaker}
use Rattle.mz_math_coercions.proofs.Leading.{led-more}
use Rattle.mz_math_coercions.proofs.next_hop.lead_between.Goals as goal

pub returns : goal.returns
returns c =
    IfOk-weaker c.lead_all.result _ _
    (λ all h t. let (change, put) = h t in
    led-more c.args.graph.now c.args.back.now c.args.coercion c.requires.one c.requires.turned (length c.as_slice.result.now) ((c.args.coercion.from, length c.as_slice.result.now) ∷ []) c.walk_from.new.reached c.walk_from-2.new.reached
    refl (ap length c.as_slice.ensures) c.in_ok-walk_from.ensures c.in_ok-walk_from-2.ensures c.args.firsts.now c.requires.led c.lead_all.new.firsts change put)
    c.lead_all.ensures

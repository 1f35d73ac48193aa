use Rattle.std.proofs.Common.{◌∷◌, [], refl}
use Rattle.mz_math_coercions.proofs.Clashes.{met-decides}
use Rattle.mz_math_coercions.proofs.clash.is_met.Goals as goal

pub returns : goal.returns
returns c = met-decides c.args.graph.now c.args.back.now c.args.coercion c.requires.turned ((c.args.coercion.from, 0) ∷ []) c.walk_from.new.reached c.walk.new.reached c.walk_from-2.new.reached 0 refl
    c.in_ok-walk_from.ensures c.in_ok-walk.ensures c.in_ok-walk_from-2.ensures c.requires.one c.meet.result c.meet.ensures

use Rattle.std.proofs.Common.{refl}
use Rattle.std.proofs.lemmas.Result.{on_ok_weaker}
use Rattle.mz_emit_bodies.proofs.instances.keep.Goals as goal

pub returns : goal.returns
returns c = on_ok_weaker c.add.result (λ is. (record { number = c.args.number; operands = c.in_ok-operands.operands; id = c.args.id }, is, refl, c.in_ok-operands.ensures.items_if_clones_equal (λ x y same. same), refl)) c.add.ensures

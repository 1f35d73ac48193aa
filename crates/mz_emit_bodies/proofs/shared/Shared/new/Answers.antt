use Rattle.std.proofs.Common.{length, ap, arith}
use Rattle.mz_store.specs.Bits.{bound_vars}
use Rattle.mz_emit_bodies.proofs.Entering.{parameters_shared}
use Rattle.mz_emit_bodies.proofs.shared.Shared.new.Goals as goal

pub add_dummies-requires-clause-shared : goal.add_dummies-requires-clause-shared
add_dummies-requires-clause-shared c = parameters_shared c.begin.new.self c.args.params.now c.in_ok-variables.variables.items c.in_ok-begin.ensures.context c.in_ok-begin.ensures.mode
    c.in_ok-begin.ensures.many c.in_ok-begin.ensures.trees c.in_ok-begin.ensures.over c.in_ok-variables.ensures.many c.in_ok-variables.ensures.numbers

pub add_dummies-requires-clause-few : goal.add_dummies-requires-clause-few
add_dummies-requires-clause-few c = (let few = c.requires.few in let same = ap (λ ctx. length (bound_vars ctx)) c.in_ok-begin.ensures.context in omega (arith, few, same))

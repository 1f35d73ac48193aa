use Rattle.std.proofs.Common.{◌∙◌, ap, ◌-◌, arith}
use Rattle.mz_machine.specs.OpenEquations.{stored}
use Rattle.mz_machine.proofs.OpenStacks.{come-many}
use Rattle.mz_machine.proofs.equations.rest_of.Goals as goal

pub overflow_sub-result : goal.overflow_sub-result
overflow_sub-result c = omega (arith, c.requires.more, c.many_between.ensures)

pub returns : goal.returns
returns c = ap (λ n. n - c.args.equation.next) c.many_between.ensures ∙ come-many (stored c.args.store.now) c.args.equation

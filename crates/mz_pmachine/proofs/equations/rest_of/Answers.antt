use Rattle.std.proofs.Common.{◌∙◌, ap, ◌-◌, arith}
use Rattle.mz_machine.proofs.Offered.{come-many}
use Rattle.mz_pmachine.specs.OpenNodes.{of_nodes}
use Rattle.mz_pmachine.proofs.equations.rest_of.Goals as goal

pub overflow_sub-result : goal.overflow_sub-result
overflow_sub-result c = omega (arith, c.requires.more, c.many_between.ensures)

pub returns : goal.returns
returns c = ap (λ n. n - c.args.equation.next) c.many_between.ensures ∙ come-many (of_nodes c.args.nodes.now) c.args.equation

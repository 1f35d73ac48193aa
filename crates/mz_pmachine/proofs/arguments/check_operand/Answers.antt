use Rattle.std.proofs.Common.{◌∙◌, sym}
use Rattle.mz_pmachine_unify.specs.Numbering.{tree_of}
use Rattle.mz_machine.proofs.Offered.{not-variable, other-sort, true-false}
use Rattle.mz_pmachine.proofs.arguments.check_operand.Goals as goal

pub returns-then-sort_of-sort : goal.returns-then-sort_of-sort
returns-then-sort_of-sort c sigs p over sort bound =
    other-sort sigs c.args.nodes.now.context (tree_of c.args.nodes.now c.args.id.0) c.sort_of.result p (c.sort_of.ensures.sort sigs over)
    (λ same. c.if-sort_of-sort.true (same ∙ sort ∙ sym c.sort.ensures))

pub returns-then-not-is_bound : goal.returns-then-not-is_bound
returns-then-not-is_bound c sigs p over sort bound =
    not-variable sigs c.args.nodes.now.context (tree_of c.args.nodes.now c.args.id.0) c.sort_of.result p (c.sort_of.ensures.sort sigs over)
    (c.if-sort_of-sort.false ∙ c.sort.ensures ∙ sym sort) (bound ∙ sym c.bound.ensures ∙ c.if-bound.true)
    (λ variable. true-false (sym (c.if-not-is_bound.ensures.1 variable)))

use Rattle.std.proofs.Common.{◌∙◌, List, length, sym, ap, subst, arith}
use Rattle.std.specs.Prelude.{reverse}
use Rattle.std.proofs.lemmas.Result.{on_ok_weaker}
use Rattle.mz_machine.specs.OpenEquations.{AreOpen, whole_stack}
use Rattle.mz_machine.specs.declared.equations.Equation.{Equation}
use Rattle.mz_machine.proofs.Offered.{begun-stand, begun-whole, last-first, none-to-come}
use Rattle.mz_pmachine_unify.specs.Stored.{items_at}
use Rattle.mz_pmachine.specs.OpenNodes.{of_nodes}
use Rattle.mz_pmachine.proofs.Citing.{items-many}
use Rattle.mz_pmachine.proofs.equations.begin.Goals as goal

pub returns-then-many_between-eq0-clause-done : goal.returns-then-many_between-eq0-clause-done
returns-then-many_between-eq0-clause-done c =
    let s = of_nodes c.args.nodes.now in
    let none = none-to-come s c.args.left c.args.right 0 (whole_stack s (reverse c.args.equations.now.items) (items_at c.args.nodes.now c.args.stack.now)) (omega (arith, c.many_between.ensures, c.if-many_between-eq0.true)) in
    (c.requires.standing, sym none)

pub returns-clause-done : goal.returns-clause-done
returns-clause-done c =
    let s = of_nodes c.args.nodes.now in
    let xs = items_at c.args.nodes.now c.args.stack.now in
    let e : Equation = record { height = length c.args.stack.now; left = c.args.left; right = c.args.right; next = 0 } in
    let es = reverse c.args.equations.now.items in
    let height = sym (items-many c.args.nodes.now c.args.stack.now) in
    let open_ = begun-stand s e es xs height (record { left_in = c.requires.left; right_in = c.requires.right; more = omega (arith, c.many_between.ensures, c.if-many_between-eq0.false) }) c.requires.standing in
    on_ok_weaker c.push.result (λ is.
    let first = ap (λ (x : List Equation). reverse x) is ∙ last-first c.args.equations.now.items e in (
      subst (λ fs. AreOpen s fs xs) (sym first) open_,
      ap (λ fs. whole_stack s fs xs) first ∙ begun-whole s e es xs height,
    )) c.push.ensures.ok

use Rattle.std.proofs.Common.{◌<◌, ◌≤◌, ◌∙◌, List, ◌∷◌, length, sym, ap, subst, arith, inl, inr}
use Rattle.std.specs.Prelude.{reverse}
use Rattle.std.proofs.lemmas.Result.{on_ok_weaker}
use Rattle.mz_machine_theory.specs.Profile.{Item as UnifyItem}
use Rattle.mz_machine.specs.OpenEquations.{AreOpen, AreSettled, whole_stack}
use Rattle.mz_machine.specs.declared.equations.Equation.{Equation}
use Rattle.mz_machine.proofs.Offered.{FollowsBy, first-open, last-first, none-settled, now-settled, popped-first, same-settled}
use Rattle.mz_pmachine_theory.specs.NodeIdentity.{Numbered}
use Rattle.mz_pmachine_unify.specs.Stored.{items_at, item_at}
use Rattle.mz_pmachine_unify.proofs.Offered.{items-push}
use Rattle.mz_pmachine.specs.OpenNodes.{of_nodes}
use Rattle.mz_pmachine.proofs.Citing.{items-many}
use Rattle.mz_pmachine.proofs.Converting.{put_in}
use Rattle.mz_pmachine.proofs.equations.settle.Goals.{then-next-many, else-next-many}
use Rattle.mz_pmachine.proofs.equations.settle.Goals as goal

pub returns-in_default-clause-done : goal.returns-in_default-clause-done
returns-in_default-clause-done c =
    let s = c.args.nodes.now in
    let settled = none-settled (of_nodes s) c.args.equations.now.items c.pop.new.self.items (items_at s c.args.stack.now.items) c.pop.result c.pop.ensures.items c.in_default.is (omega (arith, c.in_default.ensures.cases.1, c.pop.new.self.ok.0)) in
    (c.requires.stack, settled.0, settled.1)

pub returns-then-equation-len-clause-done : goal.returns-then-equation-len-clause-done
returns-then-equation-len-clause-done c =
    let s = c.args.nodes.now in
    let high : c.in-Some.equation.height < length (items_at s c.args.stack.now.items) = omega (arith, c.if-equation-len.true, c.len.ensures, c.args.stack.now.ok.0, items-many s c.args.stack.now.items) in
    on_ok_weaker c.push.result (λ put.
    let settled = same-settled (of_nodes s) c.args.equations.now.items c.push.new.items.items (items_at s c.args.stack.now.items) c.pop.new.self.items c.pop.result c.in-Some.equation c.pop.ensures.items c.in-Some.is put c.requires.standing high in
    (c.requires.stack, settled.0, settled.1)) c.push.ensures.ok

pub returns-clause-done : goal.returns-clause-done
returns-clause-done c =
    let s = c.args.nodes.now in
    let e = c.in-Some.equation in
    let xs = items_at s c.args.stack.now.items in
    let first = popped-first c.args.equations.now.items c.pop.new.self.items c.pop.result e c.pop.ensures.items c.in-Some.is in
    let stand = subst (λ (fs : List Equation). AreOpen (of_nodes s) fs xs) first c.requires.standing in
    let low : length xs ≤ e.height = omega (arith, c.if-equation-len.false, c.len.ensures, c.args.stack.now.ok.0, items-many s c.args.stack.now.items) in
    let follows : FollowsBy (of_nodes s) e (reverse c.pop.new.self.items) (reverse c.if-next-many.equations.items) = elim c.if-next-many.branch [
      | then-next-many w ↦
          inl (
            ap (λ fs. reverse fs.items) w.equations-is ∙ ap (λ (fs : List Equation). reverse fs) w.keep.ensures ∙ last-first c.pop.new.self.items w.following.result ∙ ap (λ (f : Equation). f ∷ reverse c.pop.new.self.items) w.following.ensures,
            omega (arith, w.if-next-many.true, c.many_between-many.ensures),
          )
      | else-next-many w ↦ inr (ap (λ fs. reverse fs.items) w.equations-is, omega (arith, w.if-next-many.false, c.many_between-many.ensures))
    ] in
    let settled = now-settled (of_nodes s) e (reverse c.pop.new.self.items) xs stand low (item_at s c.side_in_hand-item.result) c.side_in_hand-item.ensures.barrier c.side_in_hand-item.ensures.side (reverse c.if-next-many.equations.items) follows in
    on_ok_weaker c.push-2.result (λ is.
    let put = ap (items_at s) is ∙ items-push s c.args.stack.now.items c.side_in_hand-item.result in (
      put_in s c.args.stack.now.items c.push-2.new.items.items c.side_in_hand-item.result is c.side_in_hand-item.ensures.ids c.requires.stack,
      subst (λ (ys : List (UnifyItem Numbered)). AreSettled (of_nodes s) (reverse c.if-next-many.equations.items) ys) (sym put) settled.0,
      ap (whole_stack (of_nodes s) (reverse c.if-next-many.equations.items)) put ∙ settled.1 ∙ ap (λ (fs : List Equation). whole_stack (of_nodes s) fs xs) (sym first),
    )) c.push-2.ensures.ok

-- ---- what the calls ask

pub keep-requires : goal.keep-requires
keep-requires c = omega (arith, c.in-Some.ensures.cases, c.pop.ensures.capacity, c.args.equations.now.ok.1)

pub many_between-many-requires-clause-left : goal.many_between-many-requires-clause-left
many_between-many-requires-clause-left c = (first-open (of_nodes c.args.nodes.now) c.args.equations.now.items c.pop.new.self.items c.pop.result c.in-Some.equation _ c.pop.ensures.items c.in-Some.is c.requires.standing).left_in

pub many_between-many-requires-clause-right : goal.many_between-many-requires-clause-right
many_between-many-requires-clause-right c = (first-open (of_nodes c.args.nodes.now) c.args.equations.now.items c.pop.new.self.items c.pop.result c.in-Some.equation _ c.pop.ensures.items c.in-Some.is c.requires.standing).right_in

pub side_in_hand-item-requires : goal.side_in_hand-item-requires
side_in_hand-item-requires c = first-open (of_nodes c.args.nodes.now) c.args.equations.now.items c.pop.new.self.items c.pop.result c.in-Some.equation _ c.pop.ensures.items c.in-Some.is c.requires.standing

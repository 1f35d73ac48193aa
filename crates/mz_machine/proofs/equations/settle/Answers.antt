use Rattle.std.proofs.Common.{◌<◌, ◌≤◌, ◌∙◌, List, ◌∷◌, length, sym, ap, subst, arith, inl, inr}
use Rattle.std.specs.Prelude.{reverse}
use Rattle.mz_logic_theory.specs.Tree.{Tree}
use Rattle.mz_machine_theory.specs.Profile.{Item as UnifyItem}
use Rattle.mz_unify.specs.Stored.{items_at, item_at}
use Rattle.mz_unify.proofs.Offered.{items-push}
use Rattle.mz_machine.specs.OpenEquations.{stored, AreOpen, AreSettled, IsInHand, whole_stack}
use Rattle.mz_machine.specs.declared.equations.Equation.{Equation}
use Rattle.mz_machine.proofs.Converting.{put_in}
use Rattle.mz_machine.proofs.Citing.{items-many}
use Rattle.mz_machine.proofs.OpenStacks.{FollowsBy, first-open, last-first, none-settled, popped-first, now-settled, same-settled}
use Rattle.mz_machine.proofs.equations.settle.Goals.{then-next-many, else-next-many}
use Rattle.mz_machine.proofs.equations.settle.Goals as goal

pub returns-in_default : goal.returns-in_default
returns-in_default c =
    let s = c.args.store.now in
    let xs = items_at s c.args.stack.now.items in
    let settled = none-settled (stored s) c.args.equations.now.items c.pop.new.self.items xs c.pop.result c.pop.ensures.items c.in_default.is (omega (arith, c.in_default.ensures.cases.1, c.pop.new.self.ok.0)) in
    (c.requires.stack, settled.0, settled.1)

pub returns-then-equation-len : goal.returns-then-equation-len
returns-then-equation-len c =
    let s = c.args.store.now in
    let xs = items_at s c.args.stack.now.items in
    let settled = same-settled (stored s) c.args.equations.now.items c.keep.new.equations.items xs c.pop.new.self.items c.pop.result c.in-Some.equation c.pop.ensures.items c.in-Some.is c.keep.ensures c.requires.standing
    (omega (arith, c.if-equation-len.true, c.len.ensures, c.args.stack.now.ok.0, items-many s c.args.stack.now.items)) in
    (c.requires.stack, settled.0, settled.1)

pub returns-in-Ok : goal.returns-in-Ok
returns-in-Ok c =
    let s = c.args.store.now in
    let e = c.in-Some.equation in
    let xs = items_at s c.args.stack.now.items in
    let first = popped-first c.args.equations.now.items c.pop.new.self.items c.pop.result e c.pop.ensures.items c.in-Some.is in
    let stand = subst (λ (fs : List Equation). AreOpen (stored s) fs xs) first c.requires.standing in
    let low : length xs ≤ e.height = omega (arith, c.if-equation-len.false, c.len.ensures, c.args.stack.now.ok.0, items-many s c.args.stack.now.items) in
    let follows : FollowsBy (stored s) e (reverse c.pop.new.self.items) (reverse c.if-next-many.equations.items) = elim c.if-next-many.branch [
      | then-next-many w ↦
          inl (
            ap (λ fs. reverse fs.items) w.equations-is ∙ ap (λ (fs : List Equation). reverse fs) w.keep-then-next-many.ensures ∙ last-first c.pop.new.self.items w.following.result ∙ ap (λ (f : Equation). f ∷ reverse c.pop.new.self.items) w.following.ensures,
            omega (arith, w.if-next-many.true, c.many_between-many.ensures),
          )
      | else-next-many w ↦ inr (ap (λ fs. reverse fs.items) w.equations-is, omega (arith, w.if-next-many.false, c.many_between-many.ensures))
    ] in
    let settled = now-settled (stored s) e (reverse c.pop.new.self.items) xs stand low (item_at s c.side_in_hand-item.result) c.side_in_hand-item.ensures.barrier c.side_in_hand-item.ensures.side (reverse c.if-next-many.equations.items) follows in
    let put = ap (items_at s) c.in-Ok.ensures.items ∙ items-push s c.args.stack.now.items c.side_in_hand-item.result in (
      put_in s c.args.stack.now.items c.push.new.self.items c.side_in_hand-item.result c.in-Ok.ensures.items c.side_in_hand-item.ensures.ids c.requires.stack,
      subst (λ (ys : List (UnifyItem Tree)). AreSettled (stored s) (reverse c.if-next-many.equations.items) ys) (sym put) settled.0,
      ap (whole_stack (stored s) (reverse c.if-next-many.equations.items)) put ∙ settled.1 ∙ ap (λ (fs : List Equation). whole_stack (stored s) fs xs) (sym first),
    )

pub returns-in-Err : goal.returns-in-Err
returns-in-Err c high =
    let first = popped-first c.args.equations.now.items c.pop.new.self.items c.pop.result c.in-Some.equation c.pop.ensures.items c.in-Some.is in
    let below : c.in-Some.equation.height < c.args.stack.now.cap = subst (λ (fs : List Equation). IsInHand fs c.args.stack.now.cap) first high in
    omega (arith, below, c.in-Err.ensures.full, c.if-equation-len.false, c.len.ensures)

-- ---- what the calls ask

pub keep-requires : goal.keep-requires
keep-requires c = omega (arith, c.in-Some.ensures.cases, c.pop.ensures.capacity, c.args.equations.now.ok.1)

pub keep-requires-then-next-many : goal.keep-requires-then-next-many
keep-requires-then-next-many c = omega (arith, c.in-Some.ensures.cases, c.pop.ensures.capacity, c.args.equations.now.ok.1)

pub many_between-many-requires-clause-left : goal.many_between-many-requires-clause-left
many_between-many-requires-clause-left c = (first-open (stored c.args.store.now) c.args.equations.now.items c.pop.new.self.items c.pop.result c.in-Some.equation _ c.pop.ensures.items c.in-Some.is c.requires.standing).left_in

pub many_between-many-requires-clause-right : goal.many_between-many-requires-clause-right
many_between-many-requires-clause-right c = (first-open (stored c.args.store.now) c.args.equations.now.items c.pop.new.self.items c.pop.result c.in-Some.equation _ c.pop.ensures.items c.in-Some.is c.requires.standing).right_in

pub side_in_hand-item-requires : goal.side_in_hand-item-requires
side_in_hand-item-requires c = first-open (stored c.args.store.now) c.args.equations.now.items c.pop.new.self.items c.pop.result c.in-Some.equation _ c.pop.ensures.items c.in-Some.is c.requires.standing

use Rattle.std.proofs.Common.{◌∙◌, List, length, sym, ap, subst, arith, refl}
use Rattle.std.specs.Prelude.{reverse}
use Rattle.std.proofs.lemmas.Result.{on_ok_weaker}
use Rattle.mz_unify.specs.Stored.{items_at}
use Rattle.mz_machine.specs.OpenEquations.{stored, AreOpen, whole_stack}
use Rattle.mz_machine.specs.declared.equations.Equation.{Equation}
use Rattle.mz_machine.proofs.Citing.{items-many}
use Rattle.mz_machine.proofs.Executed.{opens-not, some-not-none, wants-pushed}
use Rattle.mz_machine.proofs.OpenStacks.{begun-stand, begun-whole, none-to-come, last-first}
use Rattle.mz_machine.proofs.equations.begin.Goals as goal

pub returns-in_default : goal.returns-in_default
returns-in_default c = rw c.in_default.is (c.requires.standing, refl, λ _. refl)

pub returns-then-many_between-eq0 : goal.returns-then-many_between-eq0
returns-then-many_between-eq0 c =
    let s = c.args.store.now in
    let none = none-to-come (stored s) c.in-Some.left c.in-Some.right 0 (whole_stack (stored s) (reverse c.args.equations.now.items) (items_at s c.args.stack.now)) (omega (arith, c.many_between.ensures, c.if-many_between-eq0.true)) in
    rw c.in-Some.is (c.requires.standing, sym none, λ _. refl)

pub returns : goal.returns
returns c =
    let s = c.args.store.now in
    let xs = items_at s c.args.stack.now in
    let e : Equation = record { height = length c.args.stack.now; left = c.in-Some.left; right = c.in-Some.right; next = 0 } in
    let es = reverse c.args.equations.now.items in
    let height = sym (items-many s c.args.stack.now) in
    let sides = c.requires.sides in
    let open_ = begun-stand (stored s) e es xs height (record { left_in = (rw c.in-Some.is at sides).0; right_in = (rw c.in-Some.is at sides).1; more = omega (arith, c.many_between.ensures, c.if-many_between-eq0.false) }) c.requires.standing in
    rw c.in-Some.is (wants-pushed _ _ c.push.result (on_ok_weaker c.push.result (λ is.
    let first = ap (λ (x : List Equation). reverse x) is ∙ last-first c.args.equations.now.items e in (
      subst (λ fs. AreOpen (stored s) fs xs) (sym first) open_,
      ap (λ fs. whole_stack (stored s) fs xs) first ∙ begun-whole (stored s) e es xs height,
      λ none. opens-not (c.in-Some.left, c.in-Some.right) c.push.new.items.items c.args.equations.now.items none,
    )) c.push.ensures.ok) c.push.ensures.err (some-not-none (c.in-Some.left, c.in-Some.right)))

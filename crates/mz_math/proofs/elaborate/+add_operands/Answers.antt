use Rattle.std.proofs.Common.{◌≤◌, ◌<◌, ◌∙◌, length, ap, sym, subst, arith}
use Rattle.mz_logic_theory.specs.Tree.{none, more, followed_by, listed, size}
use Rattle.mz_logic_theory.specs.DeclView.{signature}
use Rattle.mz_logic_theory.specs.Declaration.{signatures}
use Rattle.mz_logic_theory.specs.Shapes.{shape_tree}
use Rattle.mz_logic_theory.proofs.Offered.{followed_by_none}
use Rattle.mz_math_theory.specs.FormulaAnswers.{AddsWrapped}
use Rattle.mz_math_theory.specs.Meaning.{CoercedAll, trees_height}
use Rattle.mz_math_theory.proofs.Offered.{all-length, take-one, put-one, none-left, trees_height-push, fits-path, too-high, operand-low, pushed-all, add-variable, operands-there, high-operands, add-application, path-reaches}
use Rattle.mz_math.proofs.Found.{no-length, some-length}
use Rattle.mz_math.proofs.elaborate.+add_operands.Goals as goal

pub add_operands-loop-i-init : goal.add_operands-loop-i-init
add_operands-loop-i-init t c =
    let there = c.requires.there in
    record {
      goes_on = λ fs all. subst (λ gs. CoercedAll (signatures c.args.env.now) c.args.coercions.now c.args.ctx.now c.args.operands.now c.args.params.now gs) (ap (λ es. followed_by es fs) (sym c.requires.empty)) all;
      there = there;
      many = all-length (signatures c.args.env.now) c.args.coercions.now c.args.ctx.now c.requires.one c.args.operands.now c.args.params.now there.0 there.1;
      low = let none_high = ap trees_height c.requires.empty in omega (arith, none_high);
      found = c.requires.found;
    }

pub add_operands-add_operand-requires : goal.add_operands-add_operand-requires
add_operands-add_operand-requires t c =
    let below : c.loop-i.i < length (listed c.args.operands.now) = omega (arith, c.len-i-end.ensures, c.loop-i-test.true) in
    let rest = c.loop-i.invariant.there in
    let within = c.at.ensures.within in
    (omega (arith, within, c.decreases), (c.requires.one, (c.loop-i.invariant.found, (take-one (signatures c.args.env.now) c.args.coercions.now c.args.ctx.now c.requires.one c.args.operands.now c.args.params.now c.loop-i.i c.at.result c.index-params-i.result c.loop-i.invariant.many below c.at.ensures.left c.index-params-i.is rest.0 rest.1).0)))

pub add_operands-returns-in-High-clause-added : goal.add_operands-returns-in-High-clause-added
add_operands-returns-in-High-clause-added t c = λ fs all.
    let below : c.loop-i.i < length (listed c.args.operands.now) = omega (arith, c.len-i-end.ensures, c.loop-i-test.true) in
    let rest = c.loop-i.invariant.there in
    let parts = take-one (signatures c.args.env.now) c.args.coercions.now c.args.ctx.now c.requires.one c.args.operands.now c.args.params.now c.loop-i.i c.at.result c.index-params-i.result c.loop-i.invariant.many below c.at.ensures.left c.index-params-i.is rest.0 rest.1 in
    let made = c.loop-i.invariant.goes_on (more parts.0.0 parts.1.0) (put-one (signatures c.args.env.now) c.args.coercions.now c.args.ctx.now c.requires.one c.args.operands.now c.args.params.now c.loop-i.i c.at.result c.index-params-i.result c.loop-i.invariant.many below c.at.ensures.left c.index-params-i.is parts.0.0 parts.1.0 parts.0.1 parts.1.1) in
    operand-low (signatures c.args.env.now) c.args.coercions.now c.args.ctx.now c.requires.one c.args.operands.now c.args.params.now c.loop-i.all fs parts.0.0 parts.1.0 c.args.most made all (c.in-High.ensures.added parts.0.0 parts.0.1)

pub add_operands-loop-i-preserved : goal.add_operands-loop-i-preserved
add_operands-loop-i-preserved t c =
    let below : c.loop-i.i < length (listed c.args.operands.now) = omega (arith, c.len-i-end.ensures, c.loop-i-test.true) in
    let rest = c.loop-i.invariant.there in
    let added = c.in-Done.ensures.added in
    record {
      goes_on = λ fs all. subst (λ gs. CoercedAll (signatures c.args.env.now) c.args.coercions.now c.args.ctx.now c.args.operands.now c.args.params.now gs) (pushed-all c.loop-i.all c.add_operand.new.all added.0 fs added.3)
          (c.loop-i.invariant.goes_on (more added.0 fs) (put-one (signatures c.args.env.now) c.args.coercions.now c.args.ctx.now c.requires.one c.args.operands.now c.args.params.now c.loop-i.i c.at.result c.index-params-i.result c.loop-i.invariant.many below c.at.ensures.left c.index-params-i.is added.0 fs added.1 all));
      there = (take-one (signatures c.args.env.now) c.args.coercions.now c.args.ctx.now c.requires.one c.args.operands.now c.args.params.now c.loop-i.i c.at.result c.index-params-i.result c.loop-i.invariant.many below c.at.ensures.left c.index-params-i.is rest.0 rest.1).1;
      many = c.loop-i.invariant.many;
      low = subst (λ es. trees_height es ≤ c.args.most) (sym added.3) (trees_height-push c.loop-i.all added.0 c.args.most c.loop-i.invariant.low added.2);
      found = c.add_operand.ensures.found;
    }

pub add_operands-returns-clause-added : goal.add_operands-returns-clause-added
add_operands-returns-clause-added t c = (
  subst (λ gs. CoercedAll (signatures c.args.env.now) c.args.coercions.now c.args.ctx.now c.args.operands.now c.args.params.now gs) (followed_by_none c.loop-i.all)
      (c.loop-i.invariant.goes_on none (none-left (signatures c.args.env.now) c.args.coercions.now c.args.ctx.now c.args.operands.now c.args.params.now c.loop-i.i c.loop-i.invariant.many (omega (arith, c.len-i-end.ensures, c.loop-i-test.false)))),
  c.loop-i.invariant.low,
)

pub add_operand-unreachable-requires : goal.add_operand-unreachable-requires
add_operand-unreachable-requires t c =
    let cs = c.args.coercions.now in
    let there = c.requires.there in
    let path = fits-path (signatures c.args.env.now) cs c.args.ctx.now c.requires.one c.args.operand.now c.args.param.now c.head_sort-sort.result c.head_sort-sort.ensures there.0 there.1 in
    no-length cs c.head_sort-sort.result c.args.param.now.sort _ c.in-Ok.ensures.many c.in_default-path.is (path-reaches cs c.requires.one c.head_sort-sort.result c.args.param.now.sort path.0 path.1)

pub add_operand-returns-then-many-most-clause-added : goal.add_operand-returns-then-many-most-clause-added
add_operand-returns-then-many-most-clause-added t c =
    let cs = c.args.coercions.now in
    too-high (signatures c.args.env.now) cs c.args.ctx.now c.requires.one c.args.operand.now c.args.param.now c.head_sort-sort.result c.head_sort-sort.ensures
    c.in-Some.many c.args.most (some-length cs c.head_sort-sort.result c.args.param.now.sort _ c.in-Ok.ensures.many c.in-Some.many c.in-Some.is) c.if-many-most.true

pub add_operand-returns-in-Var-clause-added : goal.add_operand-returns-in-Var-clause-added
add_operand-returns-in-Var-clause-added t c =
    let cs = c.args.coercions.now in
    let there = c.requires.there in
    add-variable (signatures c.args.env.now) cs c.args.ctx.now c.requires.one c.args.operand.now c.args.param.now c.head_sort-sort.result c.head_sort-sort.ensures
    c.in-Var.x c.add_variable.result c.args.all.now c.add_variable.new.all c.in-Some.many c.args.most there.0 (some-length cs c.head_sort-sort.result c.args.param.now.sort _ c.in-Ok.ensures.many c.in-Some.many c.in-Some.is)
    c.if-many-most.false (sym c.shape.ensures ∙ ap shape_tree c.in-Var.is) there.1 c.add_variable.ensures.added

pub add_operand-add_operands-requires : goal.add_operand-add_operands-requires
add_operand-add_operands-requires t c =
    let sigs = signatures c.args.env.now in
    let cs = c.args.coercions.now in
    let ctx = c.args.ctx.now in
    let there = c.requires.there in
    let e_is = sym c.shape.ensures ∙ ap shape_tree c.in-App.is in
    let smaller = ap size e_is in
    let own = operands-there sigs cs ctx c.requires.one c.args.operand.now c.args.param.now c.head_sort-sort.result c.head_sort-sort.ensures
    c.in-App.t c.in-App.operands (signature c.in-Some-term.term.now) e_is (sym c.in-Some-term.ensures.signature) there.0 there.1 in
    (omega (arith, smaller, c.decreases), (c.requires.one, (c.distance.ensures.found, ((own.0, subst (λ ps. CoercedAll sigs cs ctx c.in-App.operands ps own.0) (sym c.as_slice.ensures) own.1), c.in-Ok-with_capacity.ensures))))

pub add_operand-returns-in-High-clause-added : goal.add_operand-returns-in-High-clause-added
add_operand-returns-in-High-clause-added t c =
    let sigs = signatures c.args.env.now in
    let cs = c.args.coercions.now in
    let ctx = c.args.ctx.now in
    high-operands sigs cs ctx c.requires.one c.args.operand.now c.args.param.now c.head_sort-sort.result c.head_sort-sort.ensures
    c.in-App.t c.in-App.operands (signature c.in-Some-term.term.now) (sym c.shape.ensures ∙ ap shape_tree c.in-App.is) (sym c.in-Some-term.ensures.signature) c.in-Some.many c.args.most
    (some-length cs c.head_sort-sort.result c.args.param.now.sort _ c.in-Ok.ensures.many c.in-Some.many c.in-Some.is) c.if-many-most.false
    (λ fs all. c.in-High.ensures.added fs (subst (λ ps. CoercedAll sigs cs ctx c.in-App.operands ps fs) (sym c.as_slice.ensures) all))

pub add_operand-returns-in-Done-clause-added : goal.add_operand-returns-in-Done-clause-added
add_operand-returns-in-Done-clause-added t c =
    let sigs = signatures c.args.env.now in
    let cs = c.args.coercions.now in
    let ctx = c.args.ctx.now in
    let there = c.requires.there in
    let done = c.in-Done.ensures.added in
    let own = c.add_operands.new.all in
    add-application sigs cs ctx c.requires.one c.args.operand.now c.args.param.now c.head_sort-sort.result c.head_sort-sort.ensures
    c.in-App.t c.in-App.operands (signature c.in-Some-term.term.now) (sym c.shape.ensures ∙ ap shape_tree c.in-App.is) (sym c.in-Some-term.ensures.signature) own
    c.add_wrapped.result c.args.all.now c.add_wrapped.new.all c.in-Some.many c.args.most there.0 (some-length cs c.head_sort-sort.result c.args.param.now.sort _ c.in-Ok.ensures.many c.in-Some.many c.in-Some.is) c.if-many-most.false there.1
    (subst (λ ps. CoercedAll sigs cs ctx c.in-App.operands ps own) c.as_slice.ensures done.0) done.1
    (subst (λ e. AddsWrapped cs c.head_sort-sort.result c.args.param.now.sort e c.args.all.now c.add_wrapped.new.all c.add_wrapped.result) c.app.ensures c.add_wrapped.ensures.added)

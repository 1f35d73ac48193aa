use Rattle.std.proofs.Common.{◌∙◌, ◌↔◌, IsTrue, ap, arith, inl, inr, length, refl, sym, subst, true≢false}
use Rattle.mz_base.proofs.Offered.{drop-item}
use Rattle.mz_logic_theory.specs.Declaration.{signatures}
use Rattle.mz_logic_theory.specs.Kinds.{kind_tree, HasSmaller}
use Rattle.mz_logic_theory.specs.Legality.{InRange, AllInRange}
use Rattle.mz_logic_theory.specs.Tree.{Tree, Trees, size, trees_size}
use Rattle.mz_logic_theory.specs.Variables.{InV, InSomeV}
use Rattle.mz_logic_theory.specs.View.{trees}
use Rattle.mz_logic_theory.proofs.Offered.{in_v-under, some_passed}
use Rattle.mz_logic.proofs.Paths.{range-under}
use Rattle.mz_logic.proofs.vars.+in_tree.Goals as goal

pub in_some_tree-returns-then-in_tree : goal.in_some_tree-returns-then-in_tree
in_some_tree-returns-then-in_tree t c =
    let F : Trees → Type 0 = InSomeV c.args.ctx.now c.args.x in
    let cut = ap trees (drop-item c.as_slice-e-items.result.now c.loop-e.e-index c.e-item.result c.loop-e-test.true c.e-item.is) in
    (λ _. c.loop-e.invariant.1.0 (subst F (sym cut) (inl (c.in_tree.ensures.0 c.if-in_tree.true))), λ _. refl)

pub in_some_tree-loop-e-preserved : goal.in_some_tree-loop-e-preserved
in_some_tree-loop-e-preserved t c =
    let F : Trees → Type 0 = InSomeV c.args.ctx.now c.args.x in
    let cut = ap trees (drop-item c.as_slice-e-items.result.now c.loop-e.e-index c.e-item.result c.loop-e-test.true c.e-item.is) in
    let sizes = ap trees_size cut in
    let small = c.loop-e.invariant.2 in (
      (subst (AllInRange (signatures c.args.env.now) (length c.args.ctx.now)) cut c.loop-e.invariant.0).1,
      some_passed c.loop-e.invariant.1 (subst F cut) (λ rest. subst F (sym cut) (inr rest)) (λ here. true≢false (sym (c.in_tree.ensures.1 here) ∙ c.if-in_tree.false)),
      omega (arith, sizes, small),
    )

pub in_tree-in_tree-requires : goal.in_tree-in_tree-requires
in_tree-in_tree-requires t c =
    let same = sym (ap kind_tree c.in-Under.is) ∙ c.kind.ensures.tree in
    let Range : Tree → Type 0 = InRange (signatures c.args.env.now) (length c.args.ctx.now) in
    let smaller = subst (HasSmaller c.args.expr.now) c.in-Under.is c.kind.ensures.smaller in
    let inner = ap size c.deref.ensures in (
      omega (arith, smaller, inner, c.decreases),
      subst Range (sym c.deref.ensures) (range-under (signatures c.args.env.now) (length c.args.ctx.now) c.in-Under.field-0 c.in-Under.e.value (subst Range (sym same) c.requires)),
    )

pub in_tree-returns-in-Under : goal.in_tree-returns-in-Under
in_tree-returns-in-Under t c =
    let Has : Tree → Type 0 = λ e. IsTrue c.in_tree.result ↔ InV c.args.ctx.now c.args.x e in
    let (to, from) = subst Has c.deref.ensures c.in_tree.ensures in
    let (down, up) = in_v-under c.args.ctx.now c.args.x c.in-Under.field-0 c.in-Under.e.value in
    subst Has (sym (ap kind_tree c.in-Under.is) ∙ c.kind.ensures.tree) (λ is. up (to is), λ has. from (down has))

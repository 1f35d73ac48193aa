use Rattle.std.proofs.Common.{◌≡◌, ◌-◌, ◌*◌, get_or, ap, ◌∙◌, arith}
use Rattle.mz_logic_theory.specs.View.{tree}
use Rattle.mz_type.specs.Shapes.{beneath}
use Rattle.mz_type.proofs.Shaping.{put_on_cut, size_is}
use Rattle.mz_type.proofs.Weighing.{size_cut}
use Rattle.mz_type.proofs.instance_sizes.Shape.weight_with.Goals as goal

pub overflow_sub-total : goal.overflow_sub-total
overflow_sub-total c = let is = size_is (tree c.index-items-i.result) in omega (arith, c.size_of-size.ensures, is)

pub loop-i-preserved : goal.loop-i-preserved
loop-i-preserved c =
    let items = c.as_slice-items.result.now in
    let us = c.args.self.now.uses.items in
    let i = c.loop-i.i in
    let e = tree c.index-items-i.result in
    let cut = put_on_cut items i c.index-items-i.result c.loop-i-test.true c.index-items-i.is us in
    let sizes = size_cut items i c.index-items-i.result c.loop-i-test.true c.index-items-i.is in
    let under : c.size_of-size.result - 1 ≡ beneath e = omega (arith, c.size_of-size.ensures, size_is e) in
    let times : c.uses_of.result * (c.size_of-size.result - 1) ≡ get_or us i 0 * beneath e =
    ap (λ u. u * (c.size_of-size.result - 1)) c.uses_of.ensures ∙ ap (λ k. get_or us i 0 * k) under in
    omega (arith, cut, sizes, times, c.size_of-size.ensures, c.loop-i.invariant)

use Rattle.std.proofs.Common.{ℕ, ◌≡◌, ◌<◌, ◌+◌, Some, ap, arith, drop, length, slice_get}
use Rattle.std.proofs.lemmas.List.{drop_all}
use Rattle.mz_logic_theory.specs.Tree.{Trees, listed, size, trees_size}
use Rattle.mz_logic_theory.specs.View.{tree, trees}
use Rattle.mz_logic_theory.specs.declared.expr.Expr.{Expr}
use Rattle.mz_logic_theory.proofs.Offered.{expr-read, exprs-within, exprs_of, length-exprs, trees-exprs}
use Rattle.mz_type.proofs.Weighing.{size_cut}
use Rattle.mz_type.proofs.sizes.sizes_of_hyps.Goals as goal

next : (hs : Trees) (i n : ℕ) (e : Expr) → n ≡ length (listed hs) → i < n → slice_get (listed hs) i ≡ Some (tree e)
    → trees_size (trees (drop i (exprs_of hs))) ≡ size (tree e) + trees_size (trees (drop (i + 1) (exprs_of hs)))
next hs i n e is below at = size_cut (exprs_of hs) i e (exprs-within hs i n is below) (expr-read hs i e at)

pub loop-i-init : goal.loop-i-init
loop-i-init c = let whole = ap trees_size (trees-exprs c.args.hyps.now) in omega (arith, whole)

pub size_of-total-requires : goal.size_of-total-requires
size_of-total-requires c =
    let cut = next c.args.hyps.now c.loop-i.i c.len-i-end.result c.at.result.now c.len-i-end.ensures c.loop-i-test.true c.at.ensures in
    omega (arith, cut, c.loop-i.invariant, c.requires)

pub overflow_add-total : goal.overflow_add-total
overflow_add-total c =
    let cut = next c.args.hyps.now c.loop-i.i c.len-i-end.result c.at.result.now c.len-i-end.ensures c.loop-i-test.true c.at.ensures in
    omega (arith, cut, c.loop-i.invariant, c.requires, c.size_of-total.ensures)

pub loop-i-preserved : goal.loop-i-preserved
loop-i-preserved c =
    let cut = next c.args.hyps.now c.loop-i.i c.len-i-end.result c.at.result.now c.len-i-end.ensures c.loop-i-test.true c.at.ensures in
    omega (arith, cut, c.loop-i.invariant, c.size_of-total.ensures)

pub returns : goal.returns
returns c =
    let many = length-exprs c.args.hyps.now in
    let none = ap (λ es. trees_size (trees es)) (drop_all c.loop-i.i (exprs_of c.args.hyps.now) (omega (arith, many, c.len-i-end.ensures, c.loop-i-test.false))) in
    omega (arith, none, c.loop-i.invariant)

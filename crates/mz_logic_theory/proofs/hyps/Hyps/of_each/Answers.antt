use Rattle.std.proofs.Common.{◌≡◌, ◌+◌, ◌∙◌, [], ◌∷◌, ◌++◌, length, ap, subst, sym, arith}
use Rattle.mz_logic_theory.specs.Tree.{listed}
use Rattle.mz_logic_theory.specs.Groups.{Rise, up_to}
use Rattle.mz_logic_theory.proofs.Grouped.{once, once-push, length-once, rise-once, up_to-once}
use Rattle.mz_logic_theory.proofs.hyps.Hyps.of_each.Goals as goal

pub loop-i-preserved : goal.loop-i-preserved
loop-i-preserved c = c.in_ok-push.ensures.items ∙ ap (λ xs. xs ++ (c.loop-i.i + 1) ∷ []) c.loop-i.invariant ∙ once-push c.loop-i.i

pub invariant_of-result : goal.invariant_of-result
invariant_of-result c =
    let many = length (listed c.args.formulas) in
    let done : c.loop-i.i ≡ many = omega (arith, c.loop-i.auto.i-end, c.loop-i-test.false, c.len-many.ensures) in
    let all : c.loop-i.ends.items ≡ once 0 many = c.loop-i.invariant ∙ ap (once 0) done in
    (sym (ap length all ∙ length-once 0 many), subst (Rise 0) (sym all) (rise-once 0 many))

pub returns : goal.returns
returns c =
    let many = length (listed c.args.formulas) in
    let done : c.loop-i.i ≡ many = omega (arith, c.loop-i.auto.i-end, c.loop-i-test.false, c.len-many.ensures) in
    let all : c.loop-i.ends.items ≡ once 0 many = c.loop-i.invariant ∙ ap (once 0) done in
    ap (up_to 0 c.args.formulas) all ∙ up_to-once 0 c.args.formulas

use Rattle.std.specs.Prelude.{◌&&◌}
use Rattle.std.proofs.Common.{◌≡◌, ◌<◌, suc, length, sym, ap, ◌∙◌, arith, add-one}
use Rattle.mz_pmachine_unify.specs.Stored.{trees_at}
use Rattle.mz_pmachine_unify.proofs.Offered.{length-trees}
use Rattle.mz_layout_tables.specs.Rows.{params_of}
use Rattle.mz_machine_env.proofs.Offered.{place-below, rows_from, rows-at}
use Rattle.mz_pmachine.proofs.disjoint.are_disjoint.Goals as goal

pub variables_at-all-requires-clause-within : goal.variables_at-all-requires-clause-within
variables_at-all-requires-clause-within c k p at =
    let ws = params_of c.args.env.now.file c.args.row in
    let low = place-below ws c.args.bound.now c.requires.bound k p at in
    omega (arith, low, c.requires.many)

pub returns-then-not-is_apart : goal.returns-then-not-is_apart
returns-then-not-is_apart c =
    let s = c.args.nodes.now in
    let es = trees_at s c.args.operands.now in
    let ws = params_of c.args.env.now.file c.args.row in
    let here : c.operands.i < length ws = omega (arith, c.arity_of-i-end.ensures, c.operands-test.true) in
    let many : length es ≡ length ws = length-trees s c.args.operands.now ∙ c.requires.many in
    sym (rows-at s.context es ws many c.operands.i here c.is_apart.result c.is_apart.ensures
    ∙ ap (λ b. b && rows_from s.context es ws (suc c.operands.i)) c.if-not-is_apart.true)
    ∙ c.operands.invariant

pub operands-preserved : goal.operands-preserved
operands-preserved c =
    let s = c.args.nodes.now in
    let es = trees_at s c.args.operands.now in
    let ws = params_of c.args.env.now.file c.args.row in
    let here : c.operands.i < length ws = omega (arith, c.arity_of-i-end.ensures, c.operands-test.true) in
    let many : length es ≡ length ws = length-trees s c.args.operands.now ∙ c.requires.many in
    rw (add-one c.operands.i)
    (sym (rows-at s.context es ws many c.operands.i here c.is_apart.result c.is_apart.ensures
    ∙ ap (λ b. b && rows_from s.context es ws (suc c.operands.i)) c.if-not-is_apart.false)
    ∙ c.operands.invariant)

use Rattle.std.proofs.Common.{◌≡◌, ◌≤◌, arith}
use Rattle.mz_mmu_theory.specs.Weight.{parameter_limit, bound_limit, sort_count, byte_bound}
use Rattle.mz_emit_theory.specs.Limits.{over}
use Rattle.mz_emit.proofs.Limiting.{many_params, many_bound, many_bytes, none_passes}
use Rattle.mz_emit.proofs.limit.limit_of.Goals as goal

pub returns-in-Some : goal.returns-in-Some
returns-in-Some c =
    let few : sort_count c.args.typed.now.statements ≤ 128 = omega arith in
    many_params c.args.typed.now.statements (over parameter_limit c.in-Some.count) few c.in-Some.ensures

pub returns-in-Some-many_bound : goal.returns-in-Some-many_bound
returns-in-Some-many_bound c =
    let few : sort_count c.args.typed.now.statements ≤ 128 = omega arith in
    many_bound c.args.typed.now.statements (over bound_limit c.in-Some-many_bound.count) few c.in_default.ensures c.in-Some-many_bound.ensures

pub returns-then-count-gt-MOST_BYTES : goal.returns-then-count-gt-MOST_BYTES
returns-then-count-gt-MOST_BYTES c =
    let few : sort_count c.args.typed.now.statements ≤ 128 = omega arith in
    many_bytes c.args.typed.now.statements c.most_bytes-count.result few c.in_default.ensures c.in_default-many_bound.ensures
    (omega (arith, c.most_bytes-count.ensures, c.weight.ensures.weight)) c.if-count-gt-MOST_BYTES.true

pub returns : goal.returns
returns c =
    let few : sort_count c.args.typed.now.statements ≤ 128 = omega arith in
    none_passes c.args.typed.now.statements few c.in_default.ensures c.in_default-many_bound.ensures
    (let is : c.most_bytes-count.result ≡ byte_bound c.args.typed.now.statements = omega (arith, c.most_bytes-count.ensures, c.weight.ensures.weight) in
    omega (arith, is, c.if-count-gt-MOST_BYTES.false))

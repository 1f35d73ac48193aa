use Rattle.std.proofs.Common.{◌∙◌, arith, sym, subst}
use Rattle.std.specs.Prelude.{IfSome}
use Rattle.std.proofs.lemmas.Bool.{true≢false}
use Rattle.mz_base.proofs.Offered.{contains_at}
use Rattle.mz_logic_theory.specs.Declaration.{sorts}
use Rattle.mz_logic_theory.specs.Modifiers.{MayBeClaimSort}
use Rattle.mz_math_coercions.specs.Reached.{Has}
use Rattle.mz_math.proofs.Claiming.{all-found, found-more, two-claims}
use Rattle.mz_math.proofs.formula.only_provable.Goals as goal

pub unreachable-requires : goal.unreachable-requires
unreachable-requires c = let past = c.in_default.ensures in let many = c.len-i-end.ensures.many in omega (arith, past, many, c.sorts-test.true)

pub returns-then-is_second : goal.returns-then-is_second
returns-then-is_second c =
    let (claim-to, other, is, not) = c.is_second.ensures.0 c.if-is_second.true in
    let (claim, has) = subst (λ o. IfSome o (λ g. MayBeClaimSort (sorts c.args.env.now) g × Has c.args.reached.now g)) is c.sorts.invariant.1 in
    let (p, at) = c.in-Some.ensures in
    two-claims c.args.env.now c.args.reached.now other c.in-Some.to not claim has claim-to (p, contains_at c.args.reached.now c.sorts.i (c.in-Some.to, p) at)

pub sorts-preserved : goal.sorts-preserved
sorts-preserved c =
    let (p, at) = c.in-Some.ensures in
    found-more c.args.env.now c.args.reached.now c.sorts.i c.sorts.found c.found_with-found.result c.in-Some.to p at c.sorts.invariant
    (λ second. true≢false (sym (c.is_second.ensures.1 second) ∙ c.if-is_second.false)) c.found_with-found.ensures

pub returns : goal.returns
returns c = let many = c.len-i-end.ensures.many in all-found c.args.env.now c.args.reached.now c.sorts.i (omega (arith, many, c.sorts-test.false)) c.sorts.found c.sorts.invariant

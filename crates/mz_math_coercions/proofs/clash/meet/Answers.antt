use Rattle.std.proofs.Common.{◌∙◌, arith, refl, sym}
use Rattle.std.proofs.lemmas.Bool.{false≢true, true≢false}
use Rattle.mz_base.proofs.Offered.{contains_at}
use Rattle.mz_math_coercions.specs.Reached.{Has}
use Rattle.mz_math_coercions.proofs.Leading.{before-all, before-more}
use Rattle.mz_math_coercions.proofs.clash.meet.Goals as goal

pub ends-init : goal.ends-init
ends-init c = λ k t p below is. absurd (omega (arith, below))

pub unreachable-requires : goal.unreachable-requires
unreachable-requires c = let past = c.in_default.ensures in let many = c.len-i-end.ensures.many in omega (arith, past, many, c.ends-test.true)

pub returns-then-has : goal.returns-then-has
returns-then-has c =
    let (p, at) = c.in-Some.ensures in
    (λ t. (c.in-Some.sort, c.has.ensures.0 c.if-has.true, (p, contains_at c.args.ends.now c.ends.i (c.in-Some.sort, p) at)), λ h. refl)

pub ends-preserved : goal.ends-preserved
ends-preserved c =
    let (p, at) = c.in-Some.ensures in
    before-more (λ t p. Has c.args.front.now t → ⊥) c.args.ends.now c.ends.i c.in-Some.sort p at c.ends.invariant (λ has. true≢false (sym (c.has.ensures.1 has) ∙ c.if-has.false))

pub returns : goal.returns
returns c =
    let many = c.len-i-end.ensures.many in
    (λ t. absurd (false≢true t), λ h. absurd (before-all (λ t p. Has c.args.front.now t → ⊥) c.args.ends.now c.ends.i (omega (arith, many, c.ends-test.false)) c.ends.invariant h.0 (h.2).0 (h.2).1 h.1))

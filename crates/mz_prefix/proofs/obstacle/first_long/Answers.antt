use Rattle.std.proofs.Common.{◌≡◌, ◌∙◌, true, false, refl, sym, arith}
use Rattle.mz_prefix.specs.Wording.{IsBrief, long_checks, long_in}
use Rattle.mz_prefix.proofs.Checking.{all-left, next-left, stops-here, none-left}
use Rattle.mz_prefix.proofs.obstacle.first_long.Goals as goal

pub loop-i-init : goal.loop-i-init
loop-i-init c = λ v. all-left (long_checks v) long_in (λ s. s.is_local ≡ false → IsBrief v s.decl) (λ k s ss. refl) c.args.text.now.statements

pub returns-then-not-is_brief_at : goal.returns-then-not-is_brief_at
returns-then-not-is_brief_at c = λ v.
    stops-here (long_checks v) long_in (λ s. s.is_local ≡ false → IsBrief v s.decl) (λ k s ss. refl) c.args.text.now.statements c.loop-i.i
    (omega (arith, c.loop-i-test.true, c.len-i-end.ensures.many)) (λ brief. let h : false ≡ true = sym c.if-not-is_brief_at.true ∙ (c.is_brief_at.ensures v).1 brief in absurd cc) (c.loop-i.invariant v)

pub loop-i-preserved : goal.loop-i-preserved
loop-i-preserved c = λ v.
    next-left (long_checks v) long_in (λ s. s.is_local ≡ false → IsBrief v s.decl) (λ k s ss. refl) c.args.text.now.statements c.loop-i.i
    (omega (arith, c.loop-i-test.true, c.len-i-end.ensures.many)) ((c.is_brief_at.ensures v).0 c.if-not-is_brief_at.false) (c.loop-i.invariant v)

pub returns : goal.returns
returns c = λ v.
    none-left (long_checks v) long_in (λ s. s.is_local ≡ false → IsBrief v s.decl) (λ k s ss. refl) c.args.text.now.statements c.loop-i.i
    (omega (arith, c.loop-i-test.false, c.len-i-end.ensures.many)) (λ k. tt) (c.loop-i.invariant v)

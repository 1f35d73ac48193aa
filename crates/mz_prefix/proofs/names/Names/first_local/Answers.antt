use Rattle.std.proofs.Common.{◌≡◌, ◌∙◌, true, false, refl, sym, arith}
use Rattle.mz_prefix.specs.PublicPart.{IsSayable}
use Rattle.mz_prefix.specs.Wording.{local_checks, local_in}
use Rattle.mz_prefix.proofs.Checking.{all-left, next-left, stops-here, none-left}
use Rattle.mz_prefix.proofs.names.Names.first_local.Goals as goal

pub loop-i-init : goal.loop-i-init
loop-i-init c =
    let ls = c.args.self.now.locals.items in
    all-left (local_checks ls) local_in (λ s. s.is_local ≡ false → IsSayable ls s.decl) (λ k s ss. refl) c.args.text.now.statements

pub returns-then-not-can_say : goal.returns-then-not-can_say
returns-then-not-can_say c =
    let ls = c.args.self.now.locals.items in
    stops-here (local_checks ls) local_in (λ s. s.is_local ≡ false → IsSayable ls s.decl) (λ k s ss. refl) c.args.text.now.statements c.loop-i.i
    (omega (arith, c.loop-i-test.true, c.len-i-end.ensures.many)) (λ said. let h : false ≡ true = sym c.if-not-can_say.true ∙ c.can_say.ensures.1 said in absurd cc) c.loop-i.invariant

pub loop-i-preserved : goal.loop-i-preserved
loop-i-preserved c =
    let ls = c.args.self.now.locals.items in
    next-left (local_checks ls) local_in (λ s. s.is_local ≡ false → IsSayable ls s.decl) (λ k s ss. refl) c.args.text.now.statements c.loop-i.i
    (omega (arith, c.loop-i-test.true, c.len-i-end.ensures.many)) (c.can_say.ensures.0 c.if-not-can_say.false) c.loop-i.invariant

pub returns : goal.returns
returns c =
    let ls = c.args.self.now.locals.items in
    none-left (local_checks ls) local_in (λ s. s.is_local ≡ false → IsSayable ls s.decl) (λ k s ss. refl) c.args.text.now.statements c.loop-i.i
    (omega (arith, c.loop-i-test.false, c.len-i-end.ensures.many)) (λ k. tt) c.loop-i.invariant

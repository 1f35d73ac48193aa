use Rattle.std.proofs.Common.{arith}
use Rattle.mz_logic_theory.specs.DeclView.{declaration}
use Rattle.mz_prefix.proofs.Gathering.{told-of, gathered-on, gathered-all}
use Rattle.mz_prefix.proofs.names.Names.of.Goals as goal

pub loop-i-preserved : goal.loop-i-preserved
loop-i-preserved c =
    let ss = c.args.text.now.statements in
    gathered-on ss c.loop-i.i c.loop-i.names c.add.new.self c.name.result.now c.is_local.result (declaration c.decl.result.now) (omega (arith, c.loop-i-test.true, c.len-i-end.ensures.many))
    (told-of (λ s. s.name) ss c.loop-i.i c.name.result.now c.name.ensures) (told-of (λ s. s.is_local) ss c.loop-i.i c.is_local.result c.is_local.ensures)
    (told-of (λ s. s.decl) ss c.loop-i.i (declaration c.decl.result.now) c.decl.ensures)
    c.in_ok-add.ensures.sorts c.in_ok-add.ensures.terms c.in_ok-add.ensures.locals c.in_ok-add.ensures.prefix c.loop-i.invariant

pub returns : goal.returns
returns c = gathered-all c.args.text.now.statements c.loop-i.i c.loop-i.names (omega (arith, c.loop-i-test.false, c.len-i-end.ensures.many)) c.loop-i.invariant

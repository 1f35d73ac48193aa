use Rattle.std.proofs.Common.{arith, not-suc-le-zero}
use Rattle.mz_store.specs.Bits.{bound_vars}
use Rattle.mz_emit.proofs.Starting.{bits_done, bits_more, param_word}
use Rattle.mz_emit.proofs.Telling.{tells_none}
use Rattle.mz_emit.proofs.stream.param_bits.Goals as goal

pub loop-i-init : goal.loop-i-init
loop-i-init c = λ ps ds st many. tells_none (bound_vars c.args.store.now.context) _ (λ y h. absurd (not-suc-le-zero h.1))

pub deps-met-requires : goal.deps-met-requires
deps-met-requires c = (c.requires.2.variables c.loop-i.i (let lt = c.loop-i-test.true in omega (arith, lt, c.requires.3))).0

pub loop-i-preserved : goal.loop-i-preserved
loop-i-preserved c = λ ps ds st many. bits_more c.args.store.now.context c.loop-i.i c.loop-i.met c.deps-met.result (c.loop-i.invariant ps ds st many)
    (param_word ps ds c.args.store.now st c.loop-i.i c.deps-met.result (let lt = c.loop-i-test.true in omega (arith, lt, many)) c.deps-met.ensures.variables)

pub returns : goal.returns
returns c = λ ps ds st many. bits_done ps ds c.args.store.now st c.args.params c.loop-i.i c.loop-i.met many (let le = c.loop-i-test.false in let end = c.loop-i.auto.i-end in omega (arith, le, end)) (c.loop-i.invariant ps ds st many)

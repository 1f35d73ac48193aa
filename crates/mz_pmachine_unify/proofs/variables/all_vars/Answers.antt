use Rattle.std.proofs.Common.{◌<◌, length, arith, sym, subst}
use Rattle.mz_logic_theory.specs.Variables.{InV, InSomeV}
use Rattle.mz_store.specs.Bits.{Tells, bound_vars}
use Rattle.mz_pmachine_unify.specs.Numbering.{trees_of}
use Rattle.mz_store.proofs.Offered.{many, all-step, all-end}
use Rattle.mz_pmachine_unify.proofs.Params.{in-at, operand-at, many-operands}
use Rattle.mz_pmachine_unify.proofs.variables.all_vars.Goals as goal

pub vars-word-requires : goal.vars-word-requires
vars-word-requires c = in-at c.args.nodes.now c.args.args.now c.loop-arg.arg-index c.requires.ids (omega arith)

pub loop-arg-preserved : goal.loop-arg-preserved
loop-arg-preserved c = λ sigs over.
    let s = c.args.nodes.now in
    let es = trees_of s c.args.args.now in
    let here : c.loop-arg.arg-index < length c.args.args.now = omega arith in
    let inside : c.loop-arg.arg-index < many es = omega (arith, many-operands s c.args.args.now) in
    all-step s.context es c.loop-arg.arg-index _ c.loop-arg.word c.vars-word.result inside (omega arith) (λ x. InSomeV s.context x es) (c.loop-arg.invariant sigs over)
    (subst (λ e. Tells (bound_vars s.context) c.vars-word.result (λ x. InV s.context x e)) (sym (operand-at s c.args.args.now c.loop-arg.arg-index here)) (c.vars-word.ensures.variables sigs over))

pub returns : goal.returns
returns c = λ sigs over.
    let s = c.args.nodes.now in
    let es = trees_of s c.args.args.now in
    all-end s.context es c.loop-arg.arg-index c.loop-arg.word (omega (arith, many-operands s c.args.args.now)) (λ x. InSomeV s.context x es) (c.loop-arg.invariant sigs over)

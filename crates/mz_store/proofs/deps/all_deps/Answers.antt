use Rattle.std.proofs.Common.{◌<◌, ◌∙◌, length, arith, sym, subst}
use Rattle.mz_logic_theory.specs.Tree.{operand}
use Rattle.mz_logic_theory.specs.Variables.{InSomeV}
use Rattle.mz_store.specs.Bits.{Tells, bound_vars}
use Rattle.mz_store.specs.Sharing.{trees_of, DependsOn}
use Rattle.mz_store.specs.Kept.{shared_by}
use Rattle.mz_store.proofs.Growing.{mode-shared}
use Rattle.mz_store.proofs.Params.{many, in-at, operand-at, many-operands}
use Rattle.mz_store.proofs.AllVariables.{all-step, all-end}
use Rattle.mz_store.proofs.deps.all_deps.Goals as goal

pub deps-word-requires-clause-inside : goal.deps-word-requires-clause-inside
deps-word-requires-clause-inside c = in-at (shared_by c.args.store.now) c.args.args.now c.loop-arg.arg-index c.requires.ids (omega arith)

pub loop-arg-preserved : goal.loop-arg-preserved
loop-arg-preserved c = λ sigs over.
    let s = shared_by c.args.store.now in
    let es = trees_of s c.args.args.now in
    let here : c.loop-arg.arg-index < length c.args.args.now = omega arith in
    let inside : c.loop-arg.arg-index < many es = omega (arith, many-operands s c.args.args.now) in
    all-step s.context es c.loop-arg.arg-index _ c.loop-arg.word c.deps-word.result inside (omega arith) (λ x. InSomeV s.context x es) (c.loop-arg.invariant sigs over)
    (subst (λ m. Tells (bound_vars s.context) c.deps-word.result (DependsOn m sigs s.context (operand es c.loop-arg.arg-index))) (mode-shared c.args.store.now ∙ c.requires.mode)
    (subst (λ e. Tells (bound_vars s.context) c.deps-word.result (DependsOn s.mode sigs s.context e)) (sym (operand-at s c.args.args.now c.loop-arg.arg-index here)) (c.deps-word.ensures.variables sigs over)))

pub returns : goal.returns
returns c = λ sigs over.
    let s = shared_by c.args.store.now in
    let es = trees_of s c.args.args.now in
    all-end s.context es c.loop-arg.arg-index c.loop-arg.word (omega (arith, many-operands s c.args.args.now)) (λ x. InSomeV s.context x es) (c.loop-arg.invariant sigs over)

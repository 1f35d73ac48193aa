use Rattle.std.proofs.Common.{List}
use Rattle.mz_logic_theory.specs.Signature.{Signature}
use Rattle.mz_logic_theory.specs.Variables.{InSomeV}
use Rattle.mz_store.specs.Bits.{bound_vars}
use Rattle.mz_pmachine_unify.specs.Numbering.{IsOver, trees_of}
use Rattle.mz_store.proofs.Offered.{Gathers, rest_of}
use Rattle.mz_pmachine_unify.proofs.variables.all_vars.Given as goal

abbrev pub invariant-loop-arg : goal.invariant-loop-arg
invariant-loop-arg l = (sigs : List Signature) → IsOver sigs l.nodes
    → Gathers (bound_vars l.nodes.context) l.word (λ x. InSomeV l.nodes.context x (trees_of l.nodes l.args)) (λ x. InSomeV l.nodes.context x (rest_of l.arg-index (trees_of l.nodes l.args)))

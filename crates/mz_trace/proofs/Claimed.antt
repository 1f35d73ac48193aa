-- Where the nodes have their parts, citations and unfoldings have their claims.
use Rattle.std.proofs.Common.{List, [], ◌∷◌, ◌++◌}
use Rattle.mz_logic_theory.specs.Declaration.{Declaration}
use Rattle.mz_machine_theory.specs.MachineState.{RowsBefore, Declares}
use Rattle.mz_trace.specs.Nodes.{Value, value_of, HasParts, HavePartsAfter}
use Rattle.mz_trace.specs.Claims.{HasClaim, HasClaimsAfter}
use Rattle.mz_trace.specs.declared.node.RunNode.{RunNode}
use Rattle.mz_trace.specs.declared.node.RunNode.TheVariants as node

module _ (tables : RowsBefore) (env : List Declaration) (declares : Declares tables env) where
  has-claim : (vs : List Value) (n : RunNode) → HasParts tables vs n → HasClaim env vs n
  has-claim vs (node.Use t e es ps) h = h.3 env declares
  has-claim vs (node.Unfold t e es ys c) h = h.3 env declares
  has-claim vs _ h = tt

  pub have-claims : (vs : List Value) (ns : List RunNode) → HavePartsAfter tables vs ns → HasClaimsAfter env vs ns
  have-claims vs [] h = tt
  have-claims vs (n ∷ ns) h = (has-claim vs n h.0, have-claims (vs ++ value_of vs n ∷ []) ns h.1)

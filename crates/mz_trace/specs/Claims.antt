-- Of each citation and unfolding among the nodes the expression that it stands for is there too (Carneiro, the rules of
-- derivation and conversion).
use Rattle.std.specs.Prelude.{◌≡◌, ⊤, List, [], ◌∷◌, ◌++◌}
use Rattle.mz_logic_theory.specs.Declaration.{Declaration}
use Rattle.mz_trace.specs.Nodes.{Value, expression_at, expressions_at, value_of, conclusion_under, body_under}
use Rattle.mz_trace.specs.declared.node.RunNode.{RunNode}
use Rattle.mz_trace.specs.declared.node.RunNode.TheVariants as node

-- the claim of a citation is the instance of the conclusion, that of an unfolding the instance of the body
abbrev pub HasClaim : List Declaration → List Value → RunNode → Type 0
HasClaim env vs (node.Var x) = ⊤
HasClaim env vs (node.App t es) = ⊤
HasClaim env vs (node.Hyp i) = ⊤
HasClaim env vs (node.Let i) = ⊤
HasClaim env vs (node.Use t e es ps) = expression_at vs e ≡ conclusion_under env t (expressions_at vs es.items)
HasClaim env vs (node.Conv e c p) = ⊤
HasClaim env vs (node.Refl e) = ⊤
HasClaim env vs (node.Sym c) = ⊤
HasClaim env vs (node.Cong t cs) = ⊤
HasClaim env vs (node.Unfold t e es ys c) = expression_at vs e ≡ body_under env t (expressions_at vs es.items) ys.items

abbrev pub HasClaimsAfter : List Declaration → List Value → List RunNode → Type 0
HasClaimsAfter env vs [] = ⊤
HasClaimsAfter env vs (n ∷ ns) = HasClaim env vs n × HasClaimsAfter env (vs ++ value_of vs n ∷ []) ns

abbrev pub HasClaims : List Declaration → List RunNode → Type 0
HasClaims env ns = HasClaimsAfter env [] ns

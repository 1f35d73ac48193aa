-- What the nodes of a proof stand for: trees, none of which is written out (this project's own form of proofs that share
-- their parts).
use Rattle.std.specs.Prelude.{ℕ, ◌≡◌, ⊤, List, [], ◌∷◌, ◌++◌, length, map, Option, Some, None, slice_get}
use Rattle.mz_logic_theory.specs.Tree.{Tree, var, app, none, instance, followed_by, variables}
use Rattle.mz_logic_theory.specs.Declaration.{Declaration, body_tree}
use Rattle.mz_logic_theory.specs.Conversions.{Conversion, Conversions, refl_conv, sym_conv, cong_conv, unfold_conv, no_convs, more_convs}
use Rattle.mz_mmu_theory.specs.Proof.{Proof, Proofs, by_hyp, by_name, by_citation, by_conv, no_proofs, more_proofs}
use Rattle.mz_mmu_theory.specs.Sides.{assertion_at, term_at}
use Rattle.mz_machine_theory.specs.Spells.{SpelledTerm, trees_of}
use Rattle.mz_machine_theory.specs.MachineState.{RowsBefore, Declares}
use Rattle.mz_trace.specs.declared.node.RunNode.{RunNode}
use Rattle.mz_trace.specs.declared.node.RunNode.TheVariants as node

pub data Value : Type 0 where
  an_expression : Tree → Value
  a_conversion : Conversion → Value
  a_proof : Proof → Value

-- ---- the value of a number

-- past the end, or where the value is of another kind, where no node looks, some tree
abbrev pub expression_of : Option Value → Tree
expression_of None = app 0 none
expression_of (Some (an_expression e)) = e
expression_of (Some (a_conversion c)) = app 0 none
expression_of (Some (a_proof p)) = app 0 none

abbrev pub conversion_of : Option Value → Conversion
conversion_of None = refl_conv (app 0 none)
conversion_of (Some (an_expression e)) = refl_conv (app 0 none)
conversion_of (Some (a_conversion c)) = c
conversion_of (Some (a_proof p)) = refl_conv (app 0 none)

abbrev pub proof_of : Option Value → Proof
proof_of None = by_hyp 0
proof_of (Some (an_expression e)) = by_hyp 0
proof_of (Some (a_conversion c)) = by_hyp 0
proof_of (Some (a_proof p)) = p

abbrev pub expression_at : List Value → ℕ → Tree
expression_at vs n = expression_of (slice_get vs n)

abbrev pub conversion_at : List Value → ℕ → Conversion
conversion_at vs n = conversion_of (slice_get vs n)

abbrev pub proof_at : List Value → ℕ → Proof
proof_at vs n = proof_of (slice_get vs n)

abbrev pub expressions_at : List Value → List ℕ → List Tree
expressions_at vs ns = map (expression_at vs) ns

abbrev pub conversions_at : List Value → List ℕ → Conversions
conversions_at vs [] = no_convs
conversions_at vs (n ∷ ns) = more_convs (conversion_at vs n) (conversions_at vs ns)

abbrev pub proofs_at : List Value → List ℕ → Proofs
proofs_at vs [] = no_proofs
proofs_at vs (n ∷ ns) = more_proofs (proof_at vs n) (proofs_at vs ns)

-- ---- the value of a node, over those of the nodes before it

abbrev pub value_of : List Value → RunNode → Value
value_of vs (node.Var x) = an_expression (var x)
value_of vs (node.App t es) = an_expression (app t (trees_of (expressions_at vs es.items)))
value_of vs (node.Hyp i) = a_proof (by_hyp i)
value_of vs (node.Let i) = a_proof (by_name i)
value_of vs (node.Use t e es ps) = a_proof (by_citation t (trees_of (expressions_at vs es.items)) (proofs_at vs ps.items))
value_of vs (node.Conv e c p) = a_proof (by_conv (expression_at vs e) (conversion_at vs c) (proof_at vs p))
value_of vs (node.Refl e) = a_conversion (refl_conv (expression_at vs e))
value_of vs (node.Sym c) = a_conversion (sym_conv (conversion_at vs c))
value_of vs (node.Cong t cs) = a_conversion (cong_conv t (conversions_at vs cs.items))
value_of vs (node.Unfold t e es ys c) = a_conversion (unfold_conv t (trees_of (expressions_at vs es.items)) ys.items (conversion_at vs c))

abbrev pub values_after : List Value → List RunNode → List Value
values_after vs [] = vs
values_after vs (n ∷ ns) = values_after (vs ++ value_of vs n ∷ []) ns

abbrev pub values : List RunNode → List Value
values ns = values_after [] ns

-- ---- nodes that have their parts

abbrev pub IsExpression : List Value → ℕ → Type 0
IsExpression vs n = (e : Tree) × (slice_get vs n ≡ Some (an_expression e))

abbrev pub IsConversion : List Value → ℕ → Type 0
IsConversion vs n = (c : Conversion) × (slice_get vs n ≡ Some (a_conversion c))

abbrev pub IsProof : List Value → ℕ → Type 0
IsProof vs n = (p : Proof) × (slice_get vs n ≡ Some (a_proof p))

abbrev pub AreExpressions : List Value → List ℕ → Type 0
AreExpressions vs [] = ⊤
AreExpressions vs (n ∷ ns) = IsExpression vs n × AreExpressions vs ns

abbrev pub AreConversions : List Value → List ℕ → Type 0
AreConversions vs [] = ⊤
AreConversions vs (n ∷ ns) = IsConversion vs n × AreConversions vs ns

abbrev pub AreProofs : List Value → List ℕ → Type 0
AreProofs vs [] = ⊤
AreProofs vs (n ∷ ns) = IsProof vs n × AreProofs vs ns

-- the term is there, and has so many parameters
abbrev pub HasArity : RowsBefore → ℕ → ℕ → Type 0
HasArity tables t n = (row : SpelledTerm) × (slice_get tables.terms t ≡ Some row) × (length row.signature.params ≡ n)

-- ---- what was matched

-- the instance of the assertion's conclusion, and of the definition's body
abbrev pub conclusion_under : List Declaration → ℕ → List Tree → Tree
conclusion_under env t es = instance (trees_of es) (assertion_at env t).conclusion

abbrev pub body_under : List Declaration → ℕ → List Tree → List ℕ → Tree
body_under env t es ys = instance (followed_by (trees_of es) (variables ys)) (body_tree (term_at env t).form)

-- this expression, whatever the rows declare
abbrev pub IsClaim : RowsBefore → ℕ → List Tree → Tree → Type 0
IsClaim tables t es e = (env : List Declaration) → Declares tables env → e ≡ conclusion_under env t es

abbrev pub IsBody : RowsBefore → ℕ → List Tree → List ℕ → Tree → Type 0
IsBody tables t es ys e = (env : List Declaration) → Declares tables env → e ≡ body_under env t es ys

-- the parts of the node are among these values, each of its kind, and what was matched is what it stands for
abbrev pub HasParts : RowsBefore → List Value → RunNode → Type 0
HasParts tables vs (node.Var x) = ⊤
HasParts tables vs (node.App t es) = AreExpressions vs es.items × HasArity tables t (length es.items)
HasParts tables vs (node.Hyp i) = ⊤
HasParts tables vs (node.Let i) = ⊤
HasParts tables vs (node.Use t e es ps) =
    IsExpression vs e × AreExpressions vs es.items × AreProofs vs ps.items × IsClaim tables t (expressions_at vs es.items) (expression_at vs e)
HasParts tables vs (node.Conv e c p) = IsExpression vs e × IsConversion vs c × IsProof vs p
HasParts tables vs (node.Refl e) = IsExpression vs e
HasParts tables vs (node.Sym c) = IsConversion vs c
HasParts tables vs (node.Cong t cs) = AreConversions vs cs.items
HasParts tables vs (node.Unfold t e es ys c) =
    IsExpression vs e × AreExpressions vs es.items × IsConversion vs c × IsBody tables t (expressions_at vs es.items) ys.items (expression_at vs e)

abbrev pub HavePartsAfter : RowsBefore → List Value → List RunNode → Type 0
HavePartsAfter tables vs [] = ⊤
HavePartsAfter tables vs (n ∷ ns) = HasParts tables vs n × HavePartsAfter tables (vs ++ value_of vs n ∷ []) ns

-- each has its parts before it
abbrev pub HaveParts : RowsBefore → List RunNode → Type 0
HaveParts tables ns = HavePartsAfter tables [] ns

-- ---- what a number names

-- an application
abbrev pub IsApplication : Option RunNode → Type 0
IsApplication None = ⊥
IsApplication (Some (node.Var x)) = ⊥
IsApplication (Some (node.App t es)) = ⊤
IsApplication (Some (node.Hyp i)) = ⊥
IsApplication (Some (node.Let i)) = ⊥
IsApplication (Some (node.Use t e es ps)) = ⊥
IsApplication (Some (node.Conv e c p)) = ⊥
IsApplication (Some (node.Refl e)) = ⊥
IsApplication (Some (node.Sym c)) = ⊥
IsApplication (Some (node.Cong t cs)) = ⊥
IsApplication (Some (node.Unfold t e es ys c)) = ⊥

-- of this term to these
abbrev pub Applies : Option RunNode → ℕ → List ℕ → Type 0
Applies None u os = ⊥
Applies (Some (node.Var x)) u os = ⊥
Applies (Some (node.App t es)) u os = (u ≡ t) × (os ≡ es.items)
Applies (Some (node.Hyp i)) u os = ⊥
Applies (Some (node.Let i)) u os = ⊥
Applies (Some (node.Use t e es ps)) u os = ⊥
Applies (Some (node.Conv e c p)) u os = ⊥
Applies (Some (node.Refl e)) u os = ⊥
Applies (Some (node.Sym c)) u os = ⊥
Applies (Some (node.Cong t cs)) u os = ⊥
Applies (Some (node.Unfold t e es ys c)) u os = ⊥

-- a variable
abbrev pub IsVariable : Option RunNode → Type 0
IsVariable None = ⊥
IsVariable (Some (node.Var x)) = ⊤
IsVariable (Some (node.App t es)) = ⊥
IsVariable (Some (node.Hyp i)) = ⊥
IsVariable (Some (node.Let i)) = ⊥
IsVariable (Some (node.Use t e es ps)) = ⊥
IsVariable (Some (node.Conv e c p)) = ⊥
IsVariable (Some (node.Refl e)) = ⊥
IsVariable (Some (node.Sym c)) = ⊥
IsVariable (Some (node.Cong t cs)) = ⊥
IsVariable (Some (node.Unfold t e es ys c)) = ⊥

-- the one at this place
abbrev pub IsVariableAt : Option RunNode → ℕ → Type 0
IsVariableAt None y = ⊥
IsVariableAt (Some (node.Var x)) y = y ≡ x
IsVariableAt (Some (node.App t es)) y = ⊥
IsVariableAt (Some (node.Hyp i)) y = ⊥
IsVariableAt (Some (node.Let i)) y = ⊥
IsVariableAt (Some (node.Use t e es ps)) y = ⊥
IsVariableAt (Some (node.Conv e c p)) y = ⊥
IsVariableAt (Some (node.Refl e)) y = ⊥
IsVariableAt (Some (node.Sym c)) y = ⊥
IsVariableAt (Some (node.Cong t cs)) y = ⊥
IsVariableAt (Some (node.Unfold t e es ys c)) y = ⊥

-- a citation of this assertion for this expression, over these and with these proofs
abbrev pub Uses : Option RunNode → ℕ → ℕ → List ℕ → List ℕ → Type 0
Uses None u d os qs = ⊥
Uses (Some (node.Var x)) u d os qs = ⊥
Uses (Some (node.App t es)) u d os qs = ⊥
Uses (Some (node.Hyp i)) u d os qs = ⊥
Uses (Some (node.Let i)) u d os qs = ⊥
Uses (Some (node.Use t e es ps)) u d os qs = (u ≡ t) × (d ≡ e) × (os ≡ es.items) × (qs ≡ ps.items)
Uses (Some (node.Conv e c p)) u d os qs = ⊥
Uses (Some (node.Refl e)) u d os qs = ⊥
Uses (Some (node.Sym c)) u d os qs = ⊥
Uses (Some (node.Cong t cs)) u d os qs = ⊥
Uses (Some (node.Unfold t e es ys c)) u d os qs = ⊥

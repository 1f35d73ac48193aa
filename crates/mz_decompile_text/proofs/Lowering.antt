-- The parts of nodes that have theirs are among the nodes before them.
use Rattle.std.proofs.Common.{◌≡◌, ℕ, suc, ◌<◌, All, List, [], ◌∷◌, ◌++◌, length, subst, arith}
use Rattle.std.proofs.lemmas.List.{length-append}
use Rattle.std.proofs.lemmas.List.Elements.{All-append}
use Rattle.std.proofs.lemmas.Option.{slice_get_within}
use Rattle.mz_machine_theory.specs.MachineState.{RowsBefore}
use Rattle.mz_trace.specs.Nodes.{Value, an_expression, a_conversion, a_proof, value_of, IsExpression, IsConversion, IsProof, AreExpressions, AreConversions, AreProofs, HasParts, HavePartsAfter}
use Rattle.mz_trace.specs.declared.node.RunNode.{RunNode}
use Rattle.mz_trace.specs.declared.node.RunNode.TheVariants as node
use Rattle.mz_decompile_text.specs.Telling.{IsLower, AreLowerAfter}
use Rattle.mz_decompile_text.proofs.LongerProofs.{all-of, no-numbers}

expression-low : (vs : List Value) (n : ℕ) → IsExpression vs n → n < length vs
expression-low vs n h = slice_get_within vs n (an_expression h.0) h.1

conversion-low : (vs : List Value) (n : ℕ) → IsConversion vs n → n < length vs
conversion-low vs n h = slice_get_within vs n (a_conversion h.0) h.1

pub proof-low : (vs : List Value) (n : ℕ) → IsProof vs n → n < length vs
proof-low vs n h = slice_get_within vs n (a_proof h.0) h.1

expressions-low : (vs : List Value) (ns : List ℕ) → AreExpressions vs ns → All (λ m. m < length vs) ns
expressions-low vs [] h = no-numbers (length vs)
expressions-low vs (n ∷ ns) h = all-of (length vs) n ns (expression-low vs n h.0) (expressions-low vs ns h.1)

conversions-low : (vs : List Value) (ns : List ℕ) → AreConversions vs ns → All (λ m. m < length vs) ns
conversions-low vs [] h = no-numbers (length vs)
conversions-low vs (n ∷ ns) h = all-of (length vs) n ns (conversion-low vs n h.0) (conversions-low vs ns h.1)

pub proofs-low : (vs : List Value) (ns : List ℕ) → AreProofs vs ns → All (λ m. m < length vs) ns
proofs-low vs [] h = no-numbers (length vs)
proofs-low vs (n ∷ ns) h = all-of (length vs) n ns (proof-low vs n h.0) (proofs-low vs ns h.1)

node-low : (tables : RowsBefore) (vs : List Value) (n : RunNode) → HasParts tables vs n → IsLower (length vs) n
node-low tables vs (node.Var x) h = no-numbers (length vs)
node-low tables vs (node.App t es) h = expressions-low vs es.items h.0
node-low tables vs (node.Hyp i) h = no-numbers (length vs)
node-low tables vs (node.Let i) h = no-numbers (length vs)
node-low tables vs (node.Use t e es ps) h =
    all-of (length vs) e (es.items ++ ps.items) (expression-low vs e h.0)
    (All-append (λ m. m < length vs) es.items ps.items (expressions-low vs es.items h.1) (proofs-low vs ps.items h.2))
node-low tables vs (node.Conv e c p) h =
    all-of (length vs) e (c ∷ p ∷ []) (expression-low vs e h.0)
    (all-of (length vs) c (p ∷ []) (conversion-low vs c h.1) (all-of (length vs) p [] (proof-low vs p h.2) (no-numbers (length vs))))
node-low tables vs (node.Refl e) h = all-of (length vs) e [] (expression-low vs e h) (no-numbers (length vs))
node-low tables vs (node.Sym c) h = all-of (length vs) c [] (conversion-low vs c h) (no-numbers (length vs))
node-low tables vs (node.Cong t cs) h = conversions-low vs cs.items h
node-low tables vs (node.Unfold t e es ys c) h =
    all-of (length vs) e (c ∷ es.items) (expression-low vs e h.0) (all-of (length vs) c es.items (conversion-low vs c h.2) (expressions-low vs es.items h.1))

pub nodes-low : (tables : RowsBefore) (vs : List Value) (ns : List RunNode) → HavePartsAfter tables vs ns → AreLowerAfter (length vs) ns
nodes-low tables vs [] h = tt
nodes-low tables vs (n ∷ ns) h =
    let one : length (vs ++ value_of vs n ∷ []) ≡ suc (length vs) = omega (arith, length-append vs (value_of vs n ∷ [])) in
    (node-low tables vs n h.0, subst (λ k. AreLowerAfter k ns) one (nodes-low tables (vs ++ value_of vs n ∷ []) ns h.1))

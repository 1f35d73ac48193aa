-- What is said of nodes is the phrase of what they stand for.
use Rattle.std.proofs.Common.{◌≡◌, ◌∙◌, ℕ, List, [], ◌∷◌, ◌++◌, map, Some, slice_get, codes, sym, ap, refl, arith}
use Rattle.std.proofs.lemmas.List.{map-append, get_or-map}
use Rattle.std.proofs.lemmas.Option.{get_or_from_slice_get, slice_get_within}
use Rattle.mz_logic_theory.specs.Tree.{Trees, app, none, more, size, trees_size}
use Rattle.mz_logic_theory.specs.Declaration.{Declaration}
use Rattle.mz_mmu_theory.specs.Weight.{conv_weight, convs_weight, proof_weight, proofs_weight}
use Rattle.mz_machine_theory.specs.Spells.{trees_of}
use Rattle.mz_machine_theory.specs.MachineState.{RowsBefore}
use Rattle.mz_decompile_text.specs.Phrases.{Phrase, Phrases, a_word, a_list, no_phrases, one_more}
use Rattle.mz_decompile_text.specs.Phrasing.{Vocabulary, list_of, expression, expressions, conversion, conversions, proof, proofs, variable_names}
use Rattle.mz_decompile_text.specs.ByNumber.{phrase_at, phrases_at}
use Rattle.mz_trace.specs.Nodes.{Value, an_expression, a_conversion, a_proof, expression_of, conversion_of, proof_of, expression_at, expressions_at, conversion_at, conversions_at, proof_at, proofs_at, value_of, values_after, IsExpression, IsConversion, IsProof, AreExpressions, AreConversions, AreProofs, HasParts, HavePartsAfter}
use Rattle.mz_trace.specs.Claims.{HasClaim, HasClaimsAfter}
use Rattle.mz_trace.specs.declared.node.RunNode.{RunNode}
use Rattle.mz_trace.specs.declared.node.RunNode.TheVariants as node
use Rattle.mz_decompile_text.specs.Telling.{applied, told, told_after, weight_at, weights_at, weighed, weighed_after}

-- ---- phrases

-- the phrase of a value, where k lets are visible
abbrev pub phrase_in : Vocabulary → ℕ → Value → Phrase
phrase_in v k (an_expression e) = expression v e
phrase_in v k (a_conversion c) = conversion v c
phrase_in v k (a_proof p) = proof v k p

abbrev pub value_phrases : Vocabulary → ℕ → List Value → List Phrase
value_phrases v k vs = map (phrase_in v k) vs

value-phrase : (v : Vocabulary) (k : ℕ) (vs : List Value) (n : ℕ) (x : Value) → slice_get vs n ≡ Some x → phrase_at (value_phrases v k vs) n ≡ phrase_in v k x
value-phrase v k vs n x is =
    get_or-map (phrase_in v k) vs n x (a_word []) (slice_get_within vs n x is) ∙ ap (phrase_in v k) (get_or_from_slice_get vs n x x is)

pub expression-phrase : (v : Vocabulary) (k : ℕ) (vs : List Value) (n : ℕ) → IsExpression vs n → phrase_at (value_phrases v k vs) n ≡ expression v (expression_at vs n)
expression-phrase v k vs n h = value-phrase v k vs n (an_expression h.0) h.1 ∙ ap (λ x. expression v (expression_of x)) (sym h.1)

pub conversion-phrase : (v : Vocabulary) (k : ℕ) (vs : List Value) (n : ℕ) → IsConversion vs n → phrase_at (value_phrases v k vs) n ≡ conversion v (conversion_at vs n)
conversion-phrase v k vs n h = value-phrase v k vs n (a_conversion h.0) h.1 ∙ ap (λ x. conversion v (conversion_of x)) (sym h.1)

pub proof-phrase : (v : Vocabulary) (k : ℕ) (vs : List Value) (n : ℕ) → IsProof vs n → phrase_at (value_phrases v k vs) n ≡ proof v k (proof_at vs n)
proof-phrase v k vs n h = value-phrase v k vs n (a_proof h.0) h.1 ∙ ap (λ x. proof v k (proof_of x)) (sym h.1)

-- two parts of a phrase
one-more-is : (p q : Phrase) (ps qs : Phrases) → p ≡ q → ps ≡ qs → one_more p ps ≡ one_more q qs
one-more-is p q ps qs is are = ap (λ x. one_more x ps) is ∙ ap (one_more q) are

pub expression-phrases : (v : Vocabulary) (k : ℕ) (vs : List Value) (ns : List ℕ) → AreExpressions vs ns
    → phrases_at (value_phrases v k vs) ns ≡ expressions v (trees_of (expressions_at vs ns))
expression-phrases v k vs [] h = refl
expression-phrases v k vs (n ∷ ns) h =
    one-more-is (phrase_at (value_phrases v k vs) n) (expression v (expression_at vs n)) (phrases_at (value_phrases v k vs) ns) (expressions v (trees_of (expressions_at vs ns)))
    (expression-phrase v k vs n h.0) (expression-phrases v k vs ns h.1)

pub conversion-phrases : (v : Vocabulary) (k : ℕ) (vs : List Value) (ns : List ℕ) → AreConversions vs ns
    → phrases_at (value_phrases v k vs) ns ≡ conversions v (conversions_at vs ns)
conversion-phrases v k vs [] h = refl
conversion-phrases v k vs (n ∷ ns) h =
    one-more-is (phrase_at (value_phrases v k vs) n) (conversion v (conversion_at vs n)) (phrases_at (value_phrases v k vs) ns) (conversions v (conversions_at vs ns))
    (conversion-phrase v k vs n h.0) (conversion-phrases v k vs ns h.1)

pub proof-phrases : (v : Vocabulary) (k : ℕ) (vs : List Value) (ns : List ℕ) → AreProofs vs ns
    → phrases_at (value_phrases v k vs) ns ≡ proofs v k (proofs_at vs ns)
proof-phrases v k vs [] h = refl
proof-phrases v k vs (n ∷ ns) h =
    one-more-is (phrase_at (value_phrases v k vs) n) (proof v k (proof_at vs n)) (phrases_at (value_phrases v k vs) ns) (proofs v k (proofs_at vs ns))
    (proof-phrase v k vs n h.0) (proof-phrases v k vs ns h.1)

applied-is : (v : Vocabulary) (t : ℕ) (es : Trees) → applied (v.term t) (expressions v es) ≡ expression v (app t es)
applied-is v t none = refl
applied-is v t (more e es) = refl

pub node-phrase : (v : Vocabulary) (k : ℕ) (tables : RowsBefore) (vs : List Value) (n : RunNode) → HasParts tables vs n
    → told v (value_phrases v k vs) n ≡ phrase_in v k (value_of vs n)
node-phrase v k tables vs (node.Var x) h = refl
node-phrase v k tables vs (node.App t es) h =
    ap (applied (v.term t)) (expression-phrases v k vs es.items h.0) ∙ applied-is v t (trees_of (expressions_at vs es.items))
node-phrase v k tables vs (node.Hyp i) h = refl
node-phrase v k tables vs (node.Let i) h = refl
node-phrase v k tables vs (node.Use t e es ps) h =
    ap (λ x. a_list (one_more (a_word (v.assertion t)) x))
    (
    one-more-is (a_list (phrases_at (value_phrases v k vs) es.items)) (a_list (expressions v (trees_of (expressions_at vs es.items))))
    (phrases_at (value_phrases v k vs) ps.items) (proofs v k (proofs_at vs ps.items))
    (ap a_list (expression-phrases v k vs es.items h.1)) (proof-phrases v k vs ps.items h.2)
    )
node-phrase v k tables vs (node.Conv e c p) h =
    let qs = value_phrases v k vs in
    let as_list = λ (x y z : Phrase). a_list (one_more (a_word (codes ":conv")) (one_more x (one_more y (one_more z no_phrases)))) in
    ap (λ x. as_list x (phrase_at qs c) (phrase_at qs p)) (expression-phrase v k vs e h.0)
    ∙ ap (λ x. as_list (expression v (expression_at vs e)) x (phrase_at qs p)) (conversion-phrase v k vs c h.1)
    ∙ ap (as_list (expression v (expression_at vs e)) (conversion v (conversion_at vs c))) (proof-phrase v k vs p h.2)
node-phrase v k tables vs (node.Refl e) h = ap (λ x. a_list (one_more (a_word (codes ":refl")) (one_more x no_phrases))) (expression-phrase v k vs e h)
node-phrase v k tables vs (node.Sym c) h = ap (λ x. a_list (one_more (a_word (codes ":sym")) (one_more x no_phrases))) (conversion-phrase v k vs c h)
node-phrase v k tables vs (node.Cong t cs) h = ap (λ x. a_list (one_more (a_word (v.term t)) x)) (conversion-phrases v k vs cs.items h)
node-phrase v k tables vs (node.Unfold t e es ys c) h =
    let qs = value_phrases v k vs in
    let as_list = λ (x : Phrases) (y : Phrase).
    list_of (a_word (codes ":unfold") ∷ a_word (v.term t) ∷ a_list x ∷ variable_names v ys.items ∷ y ∷ []) in
    ap (λ x. as_list x (phrase_at qs c)) (expression-phrases v k vs es.items h.1)
    ∙ ap (as_list (expressions v (trees_of (expressions_at vs es.items)))) (conversion-phrase v k vs c h.2)

pub nodes-phrases : (v : Vocabulary) (k : ℕ) (tables : RowsBefore) (vs : List Value) (ns : List RunNode) → HavePartsAfter tables vs ns
    → told_after v (value_phrases v k vs) ns ≡ value_phrases v k (values_after vs ns)
nodes-phrases v k tables vs [] h = refl
nodes-phrases v k tables vs (n ∷ ns) h =
    ap (λ xs. told_after v xs ns)
    (ap (λ p. value_phrases v k vs ++ p ∷ []) (node-phrase v k tables vs n h.0) ∙ sym (map-append (phrase_in v k) vs (value_of vs n ∷ [])))
    ∙ nodes-phrases v k tables (vs ++ value_of vs n ∷ []) ns h.1

-- ---- weights

abbrev pub weight_in : List Declaration → Value → ℕ
weight_in env (an_expression e) = size e
weight_in env (a_conversion c) = conv_weight env c
weight_in env (a_proof p) = proof_weight env p

abbrev pub value_weights : List Declaration → List Value → List ℕ
value_weights env vs = map (weight_in env) vs

value-weight : (env : List Declaration) (vs : List Value) (n : ℕ) (x : Value) → slice_get vs n ≡ Some x → weight_at (value_weights env vs) n ≡ weight_in env x
value-weight env vs n x is =
    get_or-map (weight_in env) vs n x 0 (slice_get_within vs n x is) ∙ ap (weight_in env) (get_or_from_slice_get vs n x x is)

pub expression-weight : (env : List Declaration) (vs : List Value) (n : ℕ) → IsExpression vs n → weight_at (value_weights env vs) n ≡ size (expression_at vs n)
expression-weight env vs n h = value-weight env vs n (an_expression h.0) h.1 ∙ ap (λ x. size (expression_of x)) (sym h.1)

pub conversion-weight : (env : List Declaration) (vs : List Value) (n : ℕ) → IsConversion vs n → weight_at (value_weights env vs) n ≡ conv_weight env (conversion_at vs n)
conversion-weight env vs n h = value-weight env vs n (a_conversion h.0) h.1 ∙ ap (λ x. conv_weight env (conversion_of x)) (sym h.1)

pub proof-weight : (env : List Declaration) (vs : List Value) (n : ℕ) → IsProof vs n → weight_at (value_weights env vs) n ≡ proof_weight env (proof_at vs n)
proof-weight env vs n h = value-weight env vs n (a_proof h.0) h.1 ∙ ap (λ x. proof_weight env (proof_of x)) (sym h.1)

expression-weights : (env : List Declaration) (vs : List Value) (ns : List ℕ) → AreExpressions vs ns → weights_at (value_weights env vs) ns ≡ trees_size (trees_of (expressions_at vs ns))
expression-weights env vs [] h = refl
expression-weights env vs (n ∷ ns) h =
    let one = expression-weight env vs n h.0 in
    let all = expression-weights env vs ns h.1 in
    omega (arith, one, all)

conversion-weights : (env : List Declaration) (vs : List Value) (ns : List ℕ) → AreConversions vs ns → weights_at (value_weights env vs) ns ≡ convs_weight env (conversions_at vs ns)
conversion-weights env vs [] h = refl
conversion-weights env vs (n ∷ ns) h =
    let one = conversion-weight env vs n h.0 in
    let all = conversion-weights env vs ns h.1 in
    omega (arith, one, all)

proof-weights : (env : List Declaration) (vs : List Value) (ns : List ℕ) → AreProofs vs ns → weights_at (value_weights env vs) ns ≡ proofs_weight env (proofs_at vs ns)
proof-weights env vs [] h = refl
proof-weights env vs (n ∷ ns) h =
    let one = proof-weight env vs n h.0 in
    let all = proof-weights env vs ns h.1 in
    omega (arith, one, all)

pub node-weight : (env : List Declaration) (tables : RowsBefore) (vs : List Value) (n : RunNode) → HasParts tables vs n → HasClaim env vs n
    → weighed (value_weights env vs) n ≡ weight_in env (value_of vs n)
node-weight env tables vs (node.Var x) h claim = refl
node-weight env tables vs (node.App t es) h claim = let all = expression-weights env vs es.items h.0 in omega (arith, all)
node-weight env tables vs (node.Hyp i) h claim = refl
node-weight env tables vs (node.Let i) h claim = refl
node-weight env tables vs (node.Use t e es ps) h claim =
    let one = expression-weight env vs e h.0 ∙ ap size claim in
    let all = expression-weights env vs es.items h.1 in
    let parts = proof-weights env vs ps.items h.2 in
    omega (arith, one, all, parts)
node-weight env tables vs (node.Conv e c p) h claim =
    let one = expression-weight env vs e h.0 in
    let two = conversion-weight env vs c h.1 in
    let three = proof-weight env vs p h.2 in
    omega (arith, one, two, three)
node-weight env tables vs (node.Refl e) h claim = refl
node-weight env tables vs (node.Sym c) h claim = let one = conversion-weight env vs c h in omega (arith, one)
node-weight env tables vs (node.Cong t cs) h claim = let all = conversion-weights env vs cs.items h in omega (arith, all)
node-weight env tables vs (node.Unfold t e es ys c) h claim =
    let one = expression-weight env vs e h.0 ∙ ap size claim in
    let all = expression-weights env vs es.items h.1 in
    let part = conversion-weight env vs c h.2 in
    omega (arith, one, all, part)

pub nodes-weights : (env : List Declaration) (tables : RowsBefore) (vs : List Value) (ns : List RunNode) → HavePartsAfter tables vs ns → HasClaimsAfter env vs ns
    → weighed_after (value_weights env vs) ns ≡ value_weights env (values_after vs ns)
nodes-weights env tables vs [] h claims = refl
nodes-weights env tables vs (n ∷ ns) h claims =
    ap (λ xs. weighed_after xs ns)
    (ap (λ w. value_weights env vs ++ w ∷ []) (node-weight env tables vs n h.0 claims.0) ∙ sym (map-append (weight_in env) vs (value_of vs n ∷ [])))
    ∙ nodes-weights env tables (vs ++ value_of vs n ∷ []) ns h.1 claims.1

-- The phrase and the weight of a node, from those of its parts (this project's own).
use Rattle.std.specs.Prelude.{ℕ, suc, ◌+◌, ◌<◌, ⊤, All, List, [], ◌∷◌, ◌++◌, get_or, codes}
use Rattle.mz_decompile_text.specs.Phrases.{Phrase, Phrases, a_word, a_list, no_phrases, one_more}
use Rattle.mz_decompile_text.specs.Phrasing.{Vocabulary, list_of, variable_names}
use Rattle.mz_decompile_text.specs.ByNumber.{phrase_at, phrases_at}
use Rattle.mz_trace.specs.declared.node.RunNode.{RunNode}
use Rattle.mz_trace.specs.declared.node.RunNode.TheVariants as node

-- ---- the parts, which are nodes before it

abbrev pub parts_of : RunNode → List ℕ
parts_of (node.Var x) = []
parts_of (node.App t es) = es.items
parts_of (node.Hyp i) = []
parts_of (node.Let i) = []
parts_of (node.Use t e es ps) = e ∷ (es.items ++ ps.items)
parts_of (node.Conv e c p) = e ∷ c ∷ p ∷ []
parts_of (node.Refl e) = e ∷ []
parts_of (node.Sym c) = c ∷ []
parts_of (node.Cong t cs) = cs.items
parts_of (node.Unfold t e es ys c) = e ∷ c ∷ es.items

-- they are among the first so many
abbrev pub IsLower : ℕ → RunNode → Type 0
IsLower count n = All (λ m. m < count) (parts_of n)

-- those of each are among the ones before it, of which there are so many before the first
abbrev pub AreLowerAfter : ℕ → List RunNode → Type 0
AreLowerAfter count [] = ⊤
AreLowerAfter count (n ∷ ns) = IsLower count n × AreLowerAfter (suc count) ns

-- ---- the phrase

-- a token alone, or a list of it and these
abbrev pub applied : List ℕ → Phrases → Phrase
applied w no_phrases = a_word w
applied w (one_more p ps) = a_list (one_more (a_word w) (one_more p ps))

-- where those before it have these phrases
abbrev pub told : Vocabulary → List Phrase → RunNode → Phrase
told v qs (node.Var x) = a_word (v.variable x)
told v qs (node.App t es) = applied (v.term t) (phrases_at qs es.items)
told v qs (node.Hyp i) = a_word (v.hypothesis i)
told v qs (node.Let i) = a_word (v.let_name i)
told v qs (node.Use t e es ps) = a_list (one_more (a_word (v.assertion t)) (one_more (a_list (phrases_at qs es.items)) (phrases_at qs ps.items)))
told v qs (node.Conv e c p) = a_list (one_more (a_word (codes ":conv")) (phrases_at qs (e ∷ c ∷ p ∷ [])))
told v qs (node.Refl e) = a_list (one_more (a_word (codes ":refl")) (phrases_at qs (e ∷ [])))
told v qs (node.Sym c) = a_list (one_more (a_word (codes ":sym")) (phrases_at qs (c ∷ [])))
told v qs (node.Cong t cs) = a_list (one_more (a_word (v.term t)) (phrases_at qs cs.items))
told v qs (node.Unfold t e es ys c) =
    list_of (a_word (codes ":unfold") ∷ a_word (v.term t) ∷ a_list (phrases_at qs es.items) ∷ variable_names v ys.items ∷ phrase_at qs c ∷ [])

-- these phrases, and after them those of nodes
abbrev pub told_after : Vocabulary → List Phrase → List RunNode → List Phrase
told_after v qs [] = qs
told_after v qs (n ∷ ns) = told_after v (qs ++ told v qs n ∷ []) ns

abbrev pub all_told : Vocabulary → List RunNode → List Phrase
all_told v ns = told_after v [] ns

-- the last, behind these, the first of which is the k-th let
abbrev pub told_behind : Vocabulary → ℕ → List Phrase → Phrase → Phrase
told_behind v k [] r = r
told_behind v k (q ∷ qs) r = list_of (a_word (codes ":let") ∷ a_word (v.let_name k) ∷ q ∷ told_behind v (suc k) qs r ∷ [])

-- ---- the weight

abbrev pub weight_at : List ℕ → ℕ → ℕ
weight_at ws n = get_or ws n 0

abbrev pub weights_at : List ℕ → List ℕ → ℕ
weights_at ws [] = 0
weights_at ws (n ∷ ns) = weight_at ws n + weights_at ws ns

-- where those before it weigh so much
abbrev pub weighed : List ℕ → RunNode → ℕ
weighed ws (node.Var x) = 1
weighed ws (node.App t es) = 1 + weights_at ws es.items
weighed ws (node.Hyp i) = 1
weighed ws (node.Let i) = 1
weighed ws (node.Use t e es ps) = 1 + weights_at ws es.items + weight_at ws e + weights_at ws ps.items
weighed ws (node.Conv e c p) = 1 + weight_at ws e + weight_at ws c + weight_at ws p
weighed ws (node.Refl e) = 1
weighed ws (node.Sym c) = 1 + weight_at ws c
weighed ws (node.Cong t cs) = 1 + weights_at ws cs.items
weighed ws (node.Unfold t e es ys c) = 1 + weights_at ws es.items + weight_at ws e + weight_at ws c

abbrev pub weighed_after : List ℕ → List RunNode → List ℕ
weighed_after ws [] = ws
weighed_after ws (n ∷ ns) = weighed_after (ws ++ weighed ws n ∷ []) ns

abbrev pub all_weighed : List RunNode → List ℕ
all_weighed ns = weighed_after [] ns

-- the last, behind these
abbrev pub weight_behind : List ℕ → ℕ → ℕ
weight_behind [] r = r
weight_behind (w ∷ ws) r = 1 + w + weight_behind ws r

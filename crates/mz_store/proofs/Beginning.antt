-- A store after the variables of a list of words.
use Rattle.std.proofs.Common.{ℕ, zero, suc, ◌≡◌, ◌<◌, ◌≤◌, ◌+◌, Bool, List, [], ◌∷◌, ◌++◌, length, map, drop, get_or, refl, ap, sym, ◌∙◌, arith, append-nil, append_assoc}
use Rattle.mz_base.proofs.Offered.{drop-past, length-push}
use Rattle.mz_logic_theory.specs.Tree.{var}
use Rattle.mz_logic_theory.specs.Words.{word_sort, word_deps, word_bound, binders_from}
use Rattle.mz_logic_theory.specs.declared.word.Word.{Word}
use Rattle.mz_store.specs.Bits.{bound_vars}
use Rattle.mz_store.specs.Sharing.{Shared, Sharing, tree_of}
use Rattle.mz_store.specs.Nodes.{Made, variable, entered, entered_all, variable_node, binder_after, tree_with}
use Rattle.mz_store.proofs.ParamWords.{context-after, context_after, next-word}
use Rattle.mz_store.proofs.Growing.{Begins, entry-new, entry-kept, last-in}

pub node-is : (w : Word) (sort deps : ℕ) (bound : Bool) → sort ≡ word_sort w → deps ≡ word_deps w → bound ≡ word_bound w
    → record { sort = sort; deps = deps; form = variable bound } ≡ variable_node w
node-is w sort deps bound s d b =
    ap (λ x. record { sort = x; deps = deps; form = variable bound }) s ∙ ap (λ x. record { sort = word_sort w; deps = x; form = variable bound }) d
    ∙ ap (λ x. record { sort = word_sort w; deps = word_deps w; form = variable x }) b

pub rest-entered : (s s' : Sharing) (ws : List Word) (i : ℕ) → i < length ws → s' ≡ entered s (variable_node (get_or ws i (record { 0 = 0 })))
    → entered_all s' (map variable_node (drop (i + 1) ws)) ≡ entered_all s (map variable_node (drop i ws))
rest-entered s s' ws i less is = ap (λ t. entered_all t (map variable_node (drop (i + 1) ws))) is ∙ sym (ap (λ vs. entered_all s (map variable_node vs)) (next-word ws i less))

pub all-entered : (s t : Sharing) (ws : List Word) (i : ℕ) → length ws ≤ i → entered_all s (map variable_node (drop i ws)) ≡ t → s ≡ t
all-entered s t ws i past is = sym (ap (λ vs. entered_all s (map variable_node vs)) (drop-past ws i past)) ∙ is

-- ---- what the store then is

pub begun-context : (s : Sharing) (ws : List Word) → (entered_all s (map variable_node ws)).context ≡ s.context ++ binders_from (length s.context) (bound_vars s.context) ws
begun-context s ws = go s ws ∙ context-after s.context ws
  where
    go : (t : Sharing) (vs : List Word) → (entered_all t (map variable_node vs)).context ≡ context_after t.context vs
    go t [] = refl
    go t (v ∷ vs) = go (entered t (variable_node v)) vs

pub begun-many : (s : Sharing) (ws : List Word) → length (entered_all s (map variable_node ws)).entries ≡ length s.entries + length ws
begun-many s [] = omega arith
begun-many s (w ∷ ws) = begun-many (entered s (variable_node w)) ws ∙ ap (λ m. m + length ws) (length-push s.entries _) ∙ (let e : suc (length s.entries) + length ws ≡ length s.entries + suc (length ws) = omega arith in e)

pub all-begins : (s : Sharing) (ns : List Made) → Begins s (entered_all s ns)
all-begins s [] = ([], sym (append-nil s.entries))
all-begins s (n ∷ ns) = (let (last, is) = all-begins (entered s n) ns in
    (record { tree = tree_with s n.form; sort = n.sort; deps = n.deps } ∷ last, is ∙ append_assoc s.entries (record { tree = tree_with s n.form; sort = n.sort; deps = n.deps } ∷ []) last))

pub begun-trees : (s : Sharing) (ws : List Word) (i : ℕ) → i < length ws → tree_of (entered_all s (map variable_node ws)) (length s.entries + i) ≡ var (length s.context + i)
begun-trees s [] i less = absurd (omega arith)
begun-trees s (w ∷ ws) zero less =
    ap (tree_of (entered_all s (map variable_node (w ∷ ws)))) (let e : length s.entries + 0 ≡ length s.entries = omega arith in e)
    ∙ ap (λ (e : Shared). e.tree) (entry-kept (entered s (variable_node w)) (entered_all s (map variable_node (w ∷ ws))) (all-begins (entered s (variable_node w)) (map variable_node ws))
    (length s.entries) (last-in s (variable_node w)))
    ∙ ap (λ (e : Shared). e.tree) (entry-new s (variable_node w)) ∙ ap var (omega arith)
begun-trees s (w ∷ ws) (suc i) less =
    ap (tree_of (entered_all s (map variable_node (w ∷ ws)))) (let e : length s.entries + suc i ≡ length (entered s (variable_node w)).entries + i = omega (arith, length-push s.entries (record { tree = var (length s.context); sort = word_sort w; deps = word_deps w })) in e)
    ∙ begun-trees (entered s (variable_node w)) ws i (omega arith)
    ∙ ap var (omega (arith, length-push s.context (binder_after s.context (word_sort w) (word_deps w) (word_bound w))))

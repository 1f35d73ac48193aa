-- Atoms and parentheses that nest, and the nodes that they spell.
use Rattle.std.proofs.Common.{ℕ, zero, suc, ◌≡◌, ◌<◌, ◌≤◌, ◌+◌, ◌-◌, max, List, [], ◌∷◌, ◌++◌, refl, sym, ap, ◌∙◌, subst, arith, append_assoc, append-nil, Option, Some, None}
use Rattle.mz_sexpr.specs.Node.{Node, Nodes, atom, list, no_nodes, node, height, node_height}
use Rattle.mz_sexpr.specs.Token.{Token, open_at, close, word_at, spelled, spelled_node}
use Rattle.mz_sexpr.specs.Rows.{Entry, entries, level, Steps}
use Rattle.mz_sexpr.proofs.Levels.{level_below, level_here, level_above}

-- d lists are open before, none is at the end, and never more than the limit are
abbrev pub Nested : ℕ → List Token → Type 0
Nested d [] = d ≡ 0
Nested d (open_at _ ∷ ts) = (d < 4096) × Nested (suc d) ts
Nested zero (close ∷ ts) = ⊥
Nested (suc d) (close ∷ ts) = Nested d ts
Nested d (word_at _ _ ∷ ts) = Nested d ts

-- ---- what nodes spell nests

height_of_more : (d : ℕ) (n : Node) (ns : Nodes) → d + node_height n ≤ 4096 → d + height ns ≤ 4096 → d + max (node_height n) (height ns) ≤ 4096
height_of_more d n ns h k = omega arith

mutual
  pub nested_node : (d : ℕ) (n : Node) (ts : List Token) → d ≤ 4096 → Nested d (spelled_node n ++ ts) → (d + node_height n ≤ 4096) × Nested d ts
  nested_node d (atom at w) ts h k = (omega arith, k)
  nested_node d (list at ns) ts h k =
      let e : Nested (suc d) (spelled ns ++ close ∷ ts) = subst (Nested (suc d)) (append_assoc (spelled ns) (close ∷ []) ts) k.1 in
      let less : d < 4096 = k.0 in
      let i = nested_nodes (suc d) ns (close ∷ ts) (omega arith) e in
      let high : suc d + height ns ≤ 4096 = i.0 in
      (omega arith, i.1)

  pub nested_nodes : (d : ℕ) (ns : Nodes) (ts : List Token) → d ≤ 4096 → Nested d (spelled ns ++ ts) → (d + height ns ≤ 4096) × Nested d ts
  nested_nodes d no_nodes ts h k = (omega arith, k)
  nested_nodes d (node n ns) ts h k =
      let e : Nested d (spelled_node n ++ (spelled ns ++ ts)) = subst (Nested d) (append_assoc (spelled_node n) (spelled ns) ts) k in
      let i = nested_node d n (spelled ns ++ ts) h e in
      let j = nested_nodes d ns ts h i.1 in
      (height_of_more d n ns i.0 j.0, j.1)

mutual
  pub nest_node : (d : ℕ) (n : Node) (ts : List Token) → d + node_height n ≤ 4096 → Nested d ts → Nested d (spelled_node n ++ ts)
  nest_node d (atom at w) ts h k = k
  nest_node d (list at ns) ts h k =
      (omega arith, subst (Nested (suc d)) (sym (append_assoc (spelled ns) (close ∷ []) ts)) (nest_nodes (suc d) ns (close ∷ ts) (omega arith) k))

  pub nest_nodes : (d : ℕ) (ns : Nodes) (ts : List Token) → d + height ns ≤ 4096 → Nested d ts → Nested d (spelled ns ++ ts)
  nest_nodes d no_nodes ts h k = k
  nest_nodes d (node n ns) ts h k =
      subst (Nested d) (sym (append_assoc (spelled_node n) (spelled ns) ts)) (nest_node d n (spelled ns ++ ts) (omega arith) (nest_nodes d ns ts (omega arith) k))

pub nested_when_spelled : (ns : Nodes) → height ns ≤ 4096 → Nested 0 (spelled ns)
nested_when_spelled ns h = subst (Nested 0) (append-nil (spelled ns)) (nest_nodes 0 ns [] (omega arith) refl)

pub height_when_nested : (ns : Nodes) → Nested 0 (spelled ns) → height ns ≤ 4096
height_when_nested ns h = let k = nested_nodes 0 ns [] (omega arith) (subst (Nested 0) (sym (append-nil (spelled ns))) h) in let high : 0 + height ns ≤ 4096 = k.0 in omega arith

-- ---- what nests is what its nodes spell

fewer_steps : (d e : ℕ) (es : List Entry) → d ≤ e → Steps d es → Steps e es
fewer_steps d e [] h s = tt
fewer_steps d e (x ∷ es) h s = (let k : x.depth ≤ d = s.0 in omega arith, s.1)

pub steps_of_entries : (d : ℕ) (ts : List Token) → Steps d (entries d ts)
steps_of_entries d [] = tt
steps_of_entries d (open_at i ∷ ts) = (omega arith, steps_of_entries (suc d) ts)
steps_of_entries d (close ∷ ts) = fewer_steps (d - 1) d (entries (d - 1) ts) (omega arith) (steps_of_entries (d - 1) ts)
steps_of_entries d (word_at i w ∷ ts) = (omega arith, steps_of_entries d ts)

none_on : (d k : ℕ) (es : List Entry) → Steps d es → d < k → level es k ≡ no_nodes
none_on d k [] s h = refl
none_on d k (e ∷ es) s h = level_above e es k (let l : e.depth ≤ d = s.0 in omega arith)

-- the nodes on the levels from d down to 0, each list closed
abbrev pub unwound : ℕ → List Entry → List Token
unwound zero es = spelled (level es 0)
unwound (suc d) es = spelled (level es (suc d)) ++ close ∷ unwound d es

unwound_below : (d : ℕ) (e : Entry) (es : List Entry) → d < e.depth → unwound d (e ∷ es) ≡ unwound d es
unwound_below zero e es h = ap spelled (level_below e es 0 h)
unwound_below (suc d) e es h = ap (λ ns. spelled ns ++ close ∷ unwound d (e ∷ es)) (level_below e es (suc d) h) ∙ ap (λ ts. spelled (level es (suc d)) ++ close ∷ ts) (unwound_below d e es (omega arith))

abbrev row : ℕ → ℕ → Option (List ℕ) → Entry
row d at b = record { depth = d; at = at; bytes = b }

unwound_word : (d at : ℕ) (w : List ℕ) (es : List Entry) → unwound d (row d at (Some w) ∷ es) ≡ word_at at w ∷ unwound d es
unwound_word zero at w es = ap spelled (level_here (row 0 at (Some w)) es 0 refl)
unwound_word (suc d) at w es =
    ap (λ ns. spelled ns ++ close ∷ unwound d (row (suc d) at (Some w) ∷ es)) (level_here (row (suc d) at (Some w)) es (suc d) refl)
    ∙ ap (λ ts. spelled (node (atom at w) (level es (suc d))) ++ close ∷ ts) (unwound_below d (row (suc d) at (Some w)) es (omega arith))

unwound_list : (d at : ℕ) (es : List Entry) → unwound d (row d at None ∷ es) ≡ open_at at ∷ unwound (suc d) es
unwound_list zero at es =
    ap spelled (level_here (row 0 at None) es 0 refl)
    ∙ ap (λ ts. open_at at ∷ ts) (append_assoc (spelled (level es 1)) (close ∷ []) (spelled (level es 0)))
unwound_list (suc d) at es =
    ap (λ ns. spelled ns ++ close ∷ unwound d (row (suc d) at None ∷ es)) (level_here (row (suc d) at None) es (suc d) refl)
    ∙ ap (λ ts. spelled (node (list at (level es (suc (suc d)))) (level es (suc d))) ++ close ∷ ts) (unwound_below d (row (suc d) at None) es (omega arith))
    ∙ ap (λ ts. open_at at ∷ ts) (append_assoc (spelled (level es (suc (suc d))) ++ close ∷ []) (spelled (level es (suc d))) (close ∷ unwound d es)
    ∙ append_assoc (spelled (level es (suc (suc d)))) (close ∷ []) (spelled (level es (suc d)) ++ close ∷ unwound d es))

pub unwound_is : (d : ℕ) (ts : List Token) → Nested d ts → unwound d (entries d ts) ≡ ts
unwound_is d [] h = subst (λ k. unwound k [] ≡ []) (sym h) refl
unwound_is d (open_at i ∷ ts) h = unwound_list d i (entries (suc d) ts) ∙ ap (λ us. open_at i ∷ us) (unwound_is (suc d) ts h.1)
unwound_is zero (close ∷ ts) h = absurd h
unwound_is (suc d) (close ∷ ts) h =
    let less : suc d - 1 ≡ d = omega arith in
    ap (λ k. unwound (suc d) (entries k ts)) less
    ∙ ap (λ ns. spelled ns ++ close ∷ unwound d (entries d ts)) (none_on d (suc d) (entries d ts) (steps_of_entries d ts) (omega arith))
    ∙ ap (λ us. close ∷ us) (unwound_is d ts h)
unwound_is d (word_at i w ∷ ts) h = unwound_word d i w (entries d ts) ∙ ap (λ us. word_at i w ∷ us) (unwound_is d ts h)

pub spelled_top : (ts : List Token) → Nested 0 ts → spelled (level (entries 0 ts) 0) ≡ ts
spelled_top ts h = unwound_is 0 ts h

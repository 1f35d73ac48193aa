-- How a list of nodes is stored: as its atoms and parentheses.
use Rattle.std.specs.Prelude.{ℕ, ◌≡◌, ◌⊎◌, List, [], ◌∷◌, ◌++◌}
use Rattle.std.specs.Coded.{Coded, code_by, coded×, coded⊎, coded_ℕ, coded_list}
use Rattle.std.proofs.Common.{refl, sym, ap, ◌∙◌, append_assoc, append-nil, inl, inr}
use Rattle.mz_sexpr.specs.Node.{Node, Nodes, atom, list, no_nodes, node}
use Rattle.mz_sexpr.specs.Token.{Token, open_at, close, word_at, spelled, spelled_node}

-- what follows on each level that is open, the innermost first
abbrev pub put_first : Node → List Nodes → List Nodes
put_first n [] = node n no_nodes ∷ []
put_first n (ns ∷ levels) = node n ns ∷ levels

abbrev pub wrapped : ℕ → List Nodes → List Nodes
wrapped at [] = node (list at no_nodes) no_nodes ∷ []
wrapped at (ns ∷ levels) = put_first (list at ns) levels

abbrev pub levels_of : List Token → List Nodes
levels_of [] = no_nodes ∷ []
levels_of (word_at at w ∷ ts) = put_first (atom at w) (levels_of ts)
levels_of (open_at at ∷ ts) = wrapped at (levels_of ts)
levels_of (close ∷ ts) = no_nodes ∷ levels_of ts

abbrev pub top_level : List Nodes → Nodes
top_level [] = no_nodes
top_level (ns ∷ _) = ns

abbrev pub put_nodes : Nodes → List Nodes → List Nodes
put_nodes no_nodes ls = ls
put_nodes (node n ns) ls = put_first n (put_nodes ns ls)

top_of_put_first : (n : Node) (ns : Nodes) (ls : List Nodes) → top_level ls ≡ ns → top_level (put_first n ls) ≡ node n ns
top_of_put_first n ns [] h = ap (node n) h
top_of_put_first n ns (ms ∷ ls) h = ap (node n) h

top_of_put : (ns : Nodes) → top_level (put_nodes ns (no_nodes ∷ [])) ≡ ns
top_of_put no_nodes = refl
top_of_put (node n ns) = top_of_put_first n ns (put_nodes ns (no_nodes ∷ [])) (top_of_put ns)

put_below : (ns : Nodes) (ms : Nodes) (ls : List Nodes) → put_nodes ns (ms ∷ ls) ≡ top_level (put_nodes ns (ms ∷ [])) ∷ ls
put_below no_nodes ms ls = refl
put_below (node n ns) ms ls = ap (put_first n) (put_below ns ms ls) ∙ sym (ap (λ x. top_level (put_first n x) ∷ ls) (put_below ns ms []))

mutual
  levels_of_node : (n : Node) (ts : List Token) → levels_of (spelled_node n ++ ts) ≡ put_first n (levels_of ts)
  levels_of_node (atom at w) ts = refl
  levels_of_node (list at ns) ts =
      ap (λ us. wrapped at (levels_of us)) (append_assoc (spelled ns) (close ∷ []) ts)
      ∙ ap (wrapped at) (levels_of_nodes ns (close ∷ ts) ∙ put_below ns no_nodes (levels_of ts) ∙ ap (λ x. x ∷ levels_of ts) (top_of_put ns))

  levels_of_nodes : (ns : Nodes) (ts : List Token) → levels_of (spelled ns ++ ts) ≡ put_nodes ns (levels_of ts)
  levels_of_nodes no_nodes ts = refl
  levels_of_nodes (node n ns) ts = ap levels_of (append_assoc (spelled_node n) (spelled ns) ts) ∙ levels_of_node n (spelled ns ++ ts) ∙ ap (put_first n) (levels_of_nodes ns ts)

-- the nodes that are spelled so
abbrev pub nodes_of : List Token → Nodes
nodes_of ts = top_level (levels_of ts)

pub nodes_of-spelled : (ns : Nodes) → nodes_of (spelled ns) ≡ ns
nodes_of-spelled ns = ap (λ ts. top_level (levels_of ts)) (sym (append-nil (spelled ns))) ∙ ap top_level (levels_of_nodes ns []) ∙ top_of_put ns

abbrev pub Stored : Type 0
Stored = ℕ ⊎ ((ℕ × List ℕ) ⊎ ℕ)

abbrev pub stored : Token → Stored
stored (open_at i) = inl i
stored (word_at i w) = inr (inl (i, w))
stored close = inr (inr 0)

abbrev pub restored : Stored → Token
restored (inl i) = open_at i
restored (inr (inl p)) = word_at p.0 p.1
restored (inr (inr _)) = close

abbrev pub token_code : Coded Token
token_code = code_by Stored (coded⊎ coded_ℕ (coded⊎ (coded× coded_ℕ (coded_list coded_ℕ)) coded_ℕ)) stored restored token_back
  where
    token_back : (t : Token) → restored (stored t) ≡ t
    token_back (open_at i) = refl
    token_back (word_at i w) = refl
    token_back close = refl

abbrev pub nodes_code : Coded Nodes
nodes_code = code_by (List Token) (coded_list token_code) spelled nodes_of nodes_of-spelled

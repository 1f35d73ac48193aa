-- Nodes as the code goes over them.
use Rattle.std.proofs.Common.{◌≡◌, ◌≤◌, ◌∙◌, ℕ, false, true≢false, Option, Some, None, ap, arith}
use Rattle.mz_sexpr.specs.Node.{Node, Nodes, atom, list, no_nodes, node, is_atom, parts, place}
use Rattle.mz_sexpr.specs.Number.{node_at, nodes_after, StandsFor}
use Rattle.mz_mmu_theory.specs.Cursor.{nodes_from, IsThere, node_size}

pub as_list : (m : Node) (ns : Nodes) → is_atom m ≡ false → parts m ≡ ns → m ≡ list (place m) ns
as_list (atom at w) ns h e = absurd (true≢false h)
as_list (list at ms) ns h e = ap (list at) e

pub stands_from : (all : Nodes) (o : Option ℕ) (ns : Nodes) → StandsFor all o ns → ns ≡ nodes_from all o
stands_from all None ns h = h
stands_from all (Some k) ns h = h.1

pub stands_there : (all : Nodes) (o : Option ℕ) (ns : Nodes) → StandsFor all o ns → IsThere all o
stands_there all None ns h = tt
stands_there all (Some k) ns h = h.0

-- a list with its first part
pub opened : (all : Nodes) (m : Node) (h : ℕ) (o : Option ℕ) → is_atom m ≡ false → parts m ≡ node (node_at all h) (nodes_after all h) → StandsFor all o (nodes_after all h)
    → m ≡ list (place m) (node (node_at all h) (nodes_from all o))
opened all m h o l e s = as_list m (node (node_at all h) (nodes_from all o)) l (e ∙ ap (node (node_at all h)) (stands_from all o (nodes_after all h) s))

-- the next one of a list
pub stepped : (all : Nodes) (left : Option ℕ) (n : ℕ) (next : Option ℕ) → left ≡ Some n → StandsFor all next (nodes_after all n)
    → nodes_from all left ≡ node (node_at all n) (nodes_from all next)
stepped all left n next e s = ap (nodes_from all) e ∙ ap (node (node_at all n)) (stands_from all next (nodes_after all n) s)

pub node_size_positive : (m : Node) → 1 ≤ node_size m
node_size_positive (atom at w) = omega arith
node_size_positive (list at ns) = omega arith

pub list_of : (m : Node) (h : Node) (ns : Nodes) → parts m ≡ node h ns → m ≡ list (place m) (node h ns)
list_of (atom at w) h ns e = absurd (let f : no_nodes ≡ node h ns = e in cc)
list_of (list at ms) h ns e = ap (list at) e

-- What a row says of its node.
use Rattle.std.proofs.Common.{ℕ, suc, ◌≡◌, ◌<◌, ◌≤◌, ◌+◌, List, length, get_or, drop, map, refl, sym, ap, ◌∙◌, subst, arith, Option, Some, None, Bool, true, false}
use Rattle.std.specs.Prelude.{is_some, take_while, ◌==◌, if◌then◌else◌, ◌^◌}
use Rattle.std.proofs.lemmas.Bool.{false≢true}
use Rattle.std.proofs.lemmas.List.{length-map}
use Rattle.mz_sexpr.specs.declared.sexprs.Row.{Row}
use Rattle.mz_sexpr.specs.Node.{Node, Nodes, atom, list, no_nodes, is_atom, word, parts, place}
use Rattle.mz_sexpr.specs.Number.{node_count, node_at, nodes_after}
use Rattle.mz_sexpr.specs.Rows.{Entry, entry, entry_at, level, head_node, word_from, IsShallow, IsLinked, EndsAt}
use Rattle.mz_sexpr.specs.Grammar.{is_letter}
use Rattle.mz_sexpr.proofs.Numbered.{node_count_is, node_is, after_is, depth_at_most, part_shallow, depth_inside_at_most}
use Rattle.mz_sexpr.proofs.RowLemmas.{entry_is, below_entries}

module _ (text : List ℕ) (rows : List Row) (ends : List ℕ) (all : Nodes) (is : level (map (entry text) rows) 0 ≡ all) (linked : IsLinked (map (entry text) rows) ends) (n : ℕ) (below : n < node_count all) where
  pub in_rows : n < length rows
  in_rows = subst (λ k. n < k) (sym (ap node_count is) ∙ node_count_is (map (entry text) rows) linked.steps ∙ length-map rows (entry text)) below

  pub in_ends : n < length ends
  in_ends = subst (λ k. n < k) (sym (linked.many ∙ length-map rows (entry text))) in_rows

  pub few_rows : length rows < 2 ^ 32
  few_rows = subst (λ k. k < 2 ^ 32) (length-map rows (entry text)) linked.short

  in_entries : n < length (map (entry text) rows)
  in_entries = below_entries text rows n in_rows

  module _ (r : Row) (stands : r ≡ get_or rows n r) where
    entry_of_row : entry_at (map (entry text) rows) n ≡ entry text r
    entry_of_row = entry_is text rows n r in_rows ∙ ap (entry text) (sym stands)

    pub node_of_row : node_at all n ≡ head_node r.at (entry text r).bytes (level (drop (n + 1) (map (entry text) rows)) (suc r.depth))
    node_of_row =
        ap (λ ns. node_at ns n) (sym is)
        ∙ node_is (map (entry text) rows) linked.steps n in_entries
        ∙ ap (λ (e : Entry). head_node e.at e.bytes (level (drop (n + 1) (map (entry text) rows)) (suc e.depth))) entry_of_row

    pub nodes_after_row : nodes_after all n ≡ level (drop (n + 1) (map (entry text) rows)) r.depth
    nodes_after_row =
        ap (λ ns. nodes_after ns n) (sym is)
        ∙ after_is (map (entry text) rows) linked.steps n in_entries
        ∙ ap (λ (e : Entry). level (drop (n + 1) (map (entry text) rows)) e.depth) entry_of_row

    pub depth_small : r.depth ≤ n
    depth_small = subst (λ (e : Entry). e.depth ≤ n) entry_of_row (let k = depth_at_most 0 (map (entry text) rows) n linked.steps in_entries in omega arith)

    pub parts_shallow : IsShallow (map (entry text) rows) (n + 1) (r.depth + 1)
    parts_shallow h =
        let k = part_shallow 0 (map (entry text) rows) n linked.steps in_entries h in
        let e : (entry_at (map (entry text) rows) n).depth ≡ r.depth = ap (λ (e : Entry). e.depth) entry_of_row in
        omega (arith, depth_inside_at_most (entry_at (map (entry text) rows) n).depth (entry_at (map (entry text) rows) n).bytes)

    ends_at : EndsAt (map (entry text) rows) n (get_or ends n 0)
    ends_at = linked.ended n (omega arith) in_entries

    pub end_shallow : IsShallow (map (entry text) rows) (get_or ends n 0) r.depth
    end_shallow = subst (λ (e : Entry). IsShallow (map (entry text) rows) (get_or ends n 0) e.depth) entry_of_row ends_at.shallow

    pub after_end : level (drop (get_or ends n 0) (map (entry text) rows)) r.depth ≡ nodes_after all n
    after_end = ends_at.same r.depth (let e : (entry_at (map (entry text) rows) n).depth ≡ r.depth = ap (λ (e : Entry). e.depth) entry_of_row in omega arith) ∙ sym nodes_after_row

pub place_of : (at : ℕ) (b : Option (List ℕ)) (ns : Nodes) → place (head_node at b ns) ≡ at
place_of at None ns = refl
place_of at (Some w) ns = refl

pub atom_of : (at : ℕ) (b : Option (List ℕ)) (ns : Nodes) → is_atom (head_node at b ns) ≡ is_some b
atom_of at None ns = refl
atom_of at (Some w) ns = refl

pub word_of : (at : ℕ) (bs : List ℕ) (ns : Nodes) → is_atom (head_node at (word_from bs) ns) ≡ true → take_while is_letter bs ≡ word (head_node at (word_from bs) ns)
word_of at bs ns h = go (get_or bs 0 0 == 40) h
  where
    go : (t : Bool) → is_atom (head_node at (if t then None else Some (take_while is_letter bs)) ns) ≡ true
        → take_while is_letter bs ≡ word (head_node at (if t then None else Some (take_while is_letter bs)) ns)
    go true k = absurd (false≢true k)
    go false k = refl

pub parts_of_atom : (n : Node) → is_atom n ≡ true → parts n ≡ no_nodes
parts_of_atom (atom at w) h = refl
parts_of_atom (list at ns) h = absurd (false≢true h)

pub parts_of_list : (at : ℕ) (b : Option (List ℕ)) (ns : Nodes) → is_atom (head_node at b ns) ≡ false → parts (head_node at b ns) ≡ ns
parts_of_list at None ns h = refl
parts_of_list at (Some w) ns h = absurd (false≢true (sym h))

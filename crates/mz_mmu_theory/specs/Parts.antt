-- Parts of a node, by their places in it (this project's own form). Nothing is asked where there is no such part.
use Rattle.std.specs.Prelude.{ℕ, zero, suc, Bool, true, false, if◌then◌else◌}
use Rattle.mz_sexpr.specs.Node.{Node, Nodes, atom, list, parts}
use Rattle.mz_sexpr.specs.Number.{first, rest}
use Rattle.mz_mmu_theory.specs.Statements.{is_local_word}

abbrev pub is_list : Node → Bool
is_list (atom _ _) = false
is_list (list _ _) = true

-- all but the first k
abbrev pub after : ℕ → Nodes → Nodes
after zero ns = ns
after (suc k) ns = after k (rest ns)

abbrev pub part : Nodes → ℕ → Node
part ns k = first (after k ns)

-- the parts of a statement from the keyword of its kind on, a visibility left out
abbrev pub declared_parts : Node → Nodes
declared_parts n = if is_local_word (first (parts n)) then rest (parts n) else parts n

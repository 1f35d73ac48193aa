-- How the code keeps nodes: one row for each, in the order of their first bytes, with the number of lists around it. An
-- atom's bytes are those of the text.
use Rattle.std.specs.Prelude.{ℕ, suc, ◌≡◌, ◌≤◌, ◌<◌, ◌+◌, ◌-◌, ◌^◌, ⊤, ◌==◌, nat_lt, if◌then◌else◌, List, [], ◌∷◌, length, drop, get_or, take_while, Option, Some, None}
use Rattle.mz_sexpr.specs.declared.sexprs.Row.{Row}
use Rattle.mz_sexpr.specs.Node.{Node, Nodes, atom, list, no_nodes, node}
use Rattle.mz_sexpr.specs.Token.{Token, open_at, close, word_at}
use Rattle.mz_sexpr.specs.Grammar.{is_letter}

-- a row: how many lists are around the node, its place, and an atom's bytes
pub record Entry : Type 0 where
  pub depth : ℕ
  pub at : ℕ
  pub bytes : Option (List ℕ)

-- the atom that begins where the bytes do, unless a list does
abbrev pub word_from : List ℕ → Option (List ℕ)
word_from bs = if get_or bs 0 0 == 40 then None else Some (take_while is_letter bs)

abbrev pub entry : List ℕ → Row → Entry
entry text r = record { depth = r.depth; at = r.at; bytes = word_from (drop r.at text) }

abbrev pub option_entry : List ℕ → Option Row → Option Entry
option_entry text None = None
option_entry text (Some r) = Some (entry text r)

-- the rows of atoms and parentheses, with d lists around the first
abbrev pub entries : ℕ → List Token → List Entry
entries d [] = []
entries d (open_at i ∷ ts) = record { depth = d; at = i; bytes = None } ∷ entries (suc d) ts
entries d (close ∷ ts) = entries (d - 1) ts
entries d (word_at i w ∷ ts) = record { depth = d; at = i; bytes = Some w } ∷ entries d ts

abbrev pub head_node : ℕ → Option (List ℕ) → Nodes → Node
head_node at None ns = list at ns
head_node at (Some w) ns = atom at w

-- the nodes of depth k that come before any of a smaller depth
abbrev pub level : List Entry → ℕ → Nodes
level [] k = no_nodes
level (e ∷ es) k =
    if nat_lt k e.depth then level es k
    else (if k == e.depth then node (head_node e.at e.bytes (level es (suc k))) (level es k) else no_nodes)

-- the greatest depth that may follow a row
abbrev pub depth_inside : ℕ → Option (List ℕ) → ℕ
depth_inside d None = suc d
depth_inside d (Some _) = d

-- the first row has at most the depth d, and each other one at most that which may follow
abbrev pub Steps : ℕ → List Entry → Type 0
Steps d [] = ⊤
Steps d (e ∷ es) = (e.depth ≤ d) × Steps (depth_inside e.depth e.bytes) es

abbrev pub no_entry : Entry
no_entry = record { depth = 0; at = 0; bytes = None }

abbrev pub entry_at : List Entry → ℕ → Entry
entry_at es n = get_or es n no_entry

-- where the parts of each row end that its size gives, the first row being the k-th
abbrev pub sized : ℕ → List Row → List ℕ
sized k [] = []
sized k (r ∷ rs) = (k + r.size) ∷ sized (suc k) rs

-- where the parts of each row end: as is kept beside the rows, or as their sizes yield where nothing is
abbrev pub all_ends : List Row → List ℕ → List ℕ
all_ends rows [] = sized 0 rows
all_ends rows (e ∷ es) = e ∷ es

-- the row at the end, if there is one, has at most the depth d
abbrev pub IsShallow : List Entry → ℕ → ℕ → Type 0
IsShallow es n d = n < length es → (entry_at es n).depth ≤ d

-- the rows from n + 1 up to the end e are parts of the node at n, and no others are
pub record EndsAt (es : List Entry) (n e : ℕ) : Type 0 where
  pub later : n < e
  pub within : e ≤ length es
  pub shallow : IsShallow es e (entry_at es n).depth
  pub same : (k : ℕ) → k ≤ (entry_at es n).depth → level (drop e es) k ≡ level (drop (n + 1) es) k

abbrev pub EndFrom : List Entry → List ℕ → ℕ → Type 0
EndFrom es ends n = (m : ℕ) → n ≤ m → m < length es → EndsAt es m (get_or ends m 0)

pub record IsLinked (es : List Entry) (ends : List ℕ) : Type 0 where
  pub steps : Steps 0 es
  pub many : length ends ≡ length es
  pub ended : EndFrom es ends 0
  pub short : length es < 2 ^ 32

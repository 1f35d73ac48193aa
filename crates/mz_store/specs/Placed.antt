-- Where the id of a term comes from.
use Rattle.std.specs.Prelude.{ℕ, ◌≡◌, ◌⊎◌, List, length}
use Rattle.mz_logic_theory.specs.Tree.{app}
use Rattle.mz_logic_theory.specs.Words.{TermWords, signatures_of}
use Rattle.mz_store.specs.Sharing.{Sharing, Holds, trees_of, IsOver}
use Rattle.mz_store.specs.Nodes.{application, entered}
use Rattle.mz_store.specs.declared.item.Id.{Id}

-- the term t over these operands has the id in s already
abbrev pub IsFound : Sharing → ℕ → List Id → Id → Sharing → Type 0
IsFound s t is id s' = (s' ≡ s) × Holds s id.0 (app t (trees_of s is))

-- it has been entered as the last one, and what is kept with it is right
abbrev pub IsNew : List TermWords → Sharing → ℕ → List Id → Id → Sharing → Type 0
IsNew terms s t is id s' = (sort deps : ℕ) × (s' ≡ entered s (record { sort = sort; deps = deps; form = application t is })) × (id.0 ≡ length s.entries) × IsOver (signatures_of terms) s'

abbrev pub IsPlaced : List TermWords → Sharing → ℕ → List Id → Id → Sharing → Type 0
IsPlaced terms s t is id s' = IsFound s t is id s' ⊎ IsNew terms s t is id s'

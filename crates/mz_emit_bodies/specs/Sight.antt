-- Cells that are linked outwards, and which of them are in sight.
use Rattle.std.specs.Prelude.{ℕ, ◌≡◌, ◌<◌, ◌≤◌, ◌+◌, ⊤, List, map, get_or, length, Option, Some, None}
use Rattle.mz_mmu_theory.specs.Proof.{Proof, by_hyp}
use Rattle.mz_mmu_theory.specs.ProofView.{proof_view}
use Rattle.mz_emit_bodies.specs.declared.let_scopes.Cell.{Cell}

pub record Link : Type 0 where
  pub outer : Option ℕ
  pub depth : ℕ
  pub jump : ℕ

-- a let's part, and the lets in sight of it
pub record Part : Type 0 where
  pub proof : Proof
  pub outer : Option ℕ

abbrev pub link : Cell → Link
link c = record { outer = c.outer; depth = c.depth; jump = c.jump }

abbrev pub links : List Cell → List Link
links cs = map link cs

abbrev pub part_of : Cell → Part
part_of c = record { proof = proof_view c.part.now; outer = c.outer }

abbrev pub parts : List Cell → List Part
parts cs = map part_of cs

abbrev pub part_at : List Part → ℕ → Part
part_at ps c = get_or ps c (record { proof = by_hyp 0; outer = None })

abbrev pub place_at : List Cell → ℕ → Option ℕ
place_at cs c = get_or (map (λ (d : Cell). d.place) cs) c None

abbrev pub link_at : List Link → ℕ → Link
link_at ls c = get_or ls c (record { outer = None; depth = 0; jump = 0 })

-- from the cell c, which is counted too, the cell d of depth k is met on the way out
pub data InSight (ls : List Link) : ℕ → ℕ → ℕ → Type 0 where
  here : (c k : ℕ) → (link_at ls c).depth ≡ k → InSight ls c k c
  out : (c o k d : ℕ) → (link_at ls c).outer ≡ Some o → InSight ls o k d → InSight ls c k d

-- what is outside of the c-th cell
abbrev pub IsRightAt : List Link → ℕ → Option ℕ → Type 0
IsRightAt ls c None = ((link_at ls c).depth ≡ 0) × ((link_at ls c).jump ≡ c)
IsRightAt ls c (Some o) = (o < c) × ((link_at ls c).depth ≡ (link_at ls o).depth + 1)
    × ((link_at ls c).jump < c) × InSight ls c (link_at ls (link_at ls c).jump).depth (link_at ls c).jump

abbrev pub AreRight : List Link → Type 0
AreRight ls = (c : ℕ) → c < length ls → IsRightAt ls c (link_at ls c).outer

-- the cell is one of so many, if there is one
abbrev pub IsThere : ℕ → Option ℕ → Type 0
IsThere n None = ⊤
IsThere n (Some c) = c < n

-- a new cell's depth and jump
abbrev pub IsNext : List Link → ℕ → Option ℕ → ℕ → ℕ → Type 0
IsNext ls n None depth jump = (depth ≡ 0) × (jump ≡ n)
IsNext ls n (Some o) depth jump = (depth ≡ (link_at ls o).depth + 1) × (jump ≤ o) × InSight ls o (link_at ls jump).depth jump

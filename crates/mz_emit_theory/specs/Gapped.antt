-- Gapped theorems of a text, whose proofs aren't finished (this project's own, docs/FORMAT.md, 4.1; a gap is Sorry of the
-- .mmb format).
use Rattle.std.specs.Prelude.{◌≡◌, ◌<◌, ◌↔◌, ⊤, ℕ, Bool, true, false, List, [], ◌∷◌, ◌++◌, length, slice_get, Option, Some, None}
use Rattle.mz_logic_theory.specs.Declaration.{Declaration, sort_decl, term_decl, assertion_decl}
use Rattle.mz_layout_tables.specs.Normal.{Written}
use Rattle.mz_machine_theory.specs.Sound.{HasGap, CitesWithin}
use Rattle.mz_mmu_theory.specs.Proof.{Proof}
use Rattle.mz_mmu_theory.specs.Statements.{Statement}
use Rattle.mz_emit_theory.specs.Uses.{a_gap, assertion, uses}

-- ---- the proofs of the axioms and theorems of a text, numbered together in their order

-- a theorem has one, and an axiom none
abbrev pub proof_of : Declaration → Option Proof → List (Option Proof)
proof_of (sort_decl _) q = []
proof_of (term_decl _) q = []
proof_of (assertion_decl _) q = q ∷ []

abbrev pub proofs_of : List Statement → List (Option Proof)
proofs_of [] = []
proofs_of (s ∷ ss) = proof_of s.decl s.proof ++ proofs_of ss

-- ---- gapped theorems

-- the T-th is a theorem, which has this proof
abbrev pub IsTheoremOf : List (Option Proof) → ℕ → Proof → Type 0
IsTheoremOf proofs T p = slice_get proofs T ≡ Some (Some p)

-- a theorem is gapped: its proof has a gap, or cites a gapped one, which stands before it; a let's part counts where
-- its name stands
pub data IsGappedIn (proofs : List (Option Proof)) : ℕ → Type 0 where
  leaves_gap : (T : ℕ) (p : Proof) → IsTheoremOf proofs T p → uses a_gap [] p ≡ true → IsGappedIn proofs T
  rests_on : (T U : ℕ) (p : Proof) → IsTheoremOf proofs T p → uses (assertion U) [] p ≡ true → U < T → IsGappedIn proofs U → IsGappedIn proofs T

-- ---- bodies that are written of the proofs

-- the bytes leave a gap, and cite an assertion, exactly where the proof does
pub record UsesAsStated (p : Proof) (bytes : List ℕ) : Type 0 where
  pub gaps : HasGap bytes ↔ (uses a_gap [] p ≡ true)
  pub citations : (U : ℕ) → CitesWithin (length bytes) bytes U ↔ (uses (assertion U) [] p ≡ true)

-- an axiom states no proof, and a theorem's body uses what its proof does
abbrev pub SaysItsUses : Bool → Option Proof → List ℕ → Type 0
SaysItsUses without_proof None bytes = without_proof ≡ true
SaysItsUses without_proof (Some p) bytes = (without_proof ≡ false) × UsesAsStated p bytes

abbrev pub StatementUses : Declaration → Option Proof → List ℕ → Type 0
StatementUses (sort_decl _) q bytes = ⊤
StatementUses (term_decl _) q bytes = ⊤
StatementUses (assertion_decl a) q bytes = SaysItsUses a.is_axiom q bytes

-- statement by statement of a text and of what is written
abbrev pub SayTheirUses : List Statement → List Written → Type 0
SayTheirUses [] [] = ⊤
SayTheirUses (s ∷ ss) (w ∷ ws) = StatementUses s.decl s.proof w.body × SayTheirUses ss ws
SayTheirUses ss ws = ⊥

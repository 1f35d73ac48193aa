-- Where gaps stand in the proofs of a text.
use Rattle.std.specs.Prelude.{⊤, Option, Some, None}
use Rattle.mz_logic_theory.specs.Conversions.{GapsOnly}
use Rattle.mz_mmu_theory.specs.Proof.{Proof, Proofs, by_hyp, by_name, by_citation, by_conv, by_let, by_gap, no_proofs, more_proofs}

-- a gap stands in the proof, or in one of its conversions, only where G holds
abbrev mutual
  pub LeavesOnly : Type 0 → Proof → Type 0
  LeavesOnly G (by_hyp i) = ⊤
  LeavesOnly G (by_name i) = ⊤
  LeavesOnly G (by_citation T es ps) = AllLeaveOnly G ps
  LeavesOnly G (by_conv e c p) = GapsOnly G c × LeavesOnly G p
  LeavesOnly G (by_let p q) = LeavesOnly G p × LeavesOnly G q
  LeavesOnly G (by_gap e) = G

  pub AllLeaveOnly : Type 0 → Proofs → Type 0
  AllLeaveOnly G no_proofs = ⊤
  AllLeaveOnly G (more_proofs p ps) = LeavesOnly G p × AllLeaveOnly G ps

abbrev pub SomeLeavesOnly : Type 0 → Option Proof → Type 0
SomeLeavesOnly G None = ⊤
SomeLeavesOnly G (Some p) = LeavesOnly G p

-- What the code's proofs stand for.
use Rattle.std.specs.Prelude.{List, [], ◌∷◌}
use Rattle.mz_logic_theory.specs.View.{tree}
use Rattle.mz_mmu_theory.specs.Proof.{Proof as Stated, Proofs, by_hyp, by_name, by_citation, by_conv, by_let, by_gap, no_proofs, more_proofs}
use Rattle.mz_mmu_theory.specs.declared.proof.Proof.{Proof}
use Rattle.mz_mmu_theory.specs.declared.proof.Proof.TheVariants.{Hyp, Name, Cite, Conv, Let, Gap}

abbrev pub proof_view : Proof → Stated
proof_view (Hyp i) = by_hyp i
proof_view (Name i) = by_name i
proof_view (Cite T es ps) = by_citation T es ps
proof_view (Conv e c p) = by_conv (tree e) c p
proof_view (Let p q) = by_let p q
proof_view (Gap e) = by_gap (tree e)

abbrev pub proofs_view : List Proof → Proofs
proofs_view [] = no_proofs
proofs_view (p ∷ ps) = more_proofs (proof_view p) (proofs_view ps)

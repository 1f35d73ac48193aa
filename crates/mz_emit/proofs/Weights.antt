-- A body is written in proportion to the weight of its proof.
use Rattle.std.proofs.Common.{◌≡◌, List, Option, Some, None, refl, arith}
use Rattle.mz_logic_theory.specs.Declaration.{Declaration}
use Rattle.mz_logic_theory.specs.Conversions.{Conversion, Conversions, refl_conv, sym_conv, cong_conv, unfold_conv, gap_conv, no_convs, more_convs}
use Rattle.mz_mmu_theory.specs.Proof.{Proof, Proofs, by_hyp, by_name, by_citation, by_conv, by_let, by_gap, no_proofs, more_proofs}
use Rattle.mz_mmu_theory.specs.Weight.{conv_weight, convs_weight, proof_weight, proofs_weight, stated_weight}
use Rattle.mz_emit_theory.specs.Weights.{conv_weight as conv_written, convs_weight as convs_written, proof_weight as proof_written, proofs_weight as proofs_written}
use Rattle.mz_emit.specs.Emitting.{body_weight}

module _ (env : List Declaration) where
  mutual
    conv_same : (c : Conversion) → conv_written env c ≡ conv_weight env c
    conv_same (sym_conv c) = omega (arith, conv_same c)
    conv_same (cong_conv t cs) = omega (arith, convs_same cs)
    conv_same (unfold_conv t es ys c) = omega (arith, conv_same c)
    conv_same _ = refl

    convs_same : (cs : Conversions) → convs_written env cs ≡ convs_weight env cs
    convs_same no_convs = refl
    convs_same (more_convs c cs) = omega (arith, conv_same c, convs_same cs)

  mutual
    proof_same : (p : Proof) → proof_written env p ≡ proof_weight env p
    proof_same (by_citation T es ps) = omega (arith, proofs_same ps)
    proof_same (by_conv e c p) = omega (arith, conv_same c, proof_same p)
    proof_same (by_let p q) = omega (arith, proof_same p, proof_same q)
    proof_same _ = refl

    proofs_same : (ps : Proofs) → proofs_written env ps ≡ proofs_weight env ps
    proofs_same no_proofs = refl
    proofs_same (more_proofs p ps) = omega (arith, proof_same p, proofs_same ps)

  pub stated_same : (q : Option Proof) → body_weight env q ≡ stated_weight env q
  stated_same None = refl
  stated_same (Some p) = proof_same p

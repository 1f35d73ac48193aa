-- The weights of stated proofs are those of the text's limits.
use Rattle.std.specs.Prelude.{ℕ, ◌≡◌, ◌+◌, List}
use Rattle.std.proofs.Common.{refl, ap, arith}
use Rattle.mz_logic_theory.specs.Declaration.{Declaration}
use Rattle.mz_logic_theory.specs.Conversions.{Conversion, Conversions, refl_conv, sym_conv, cong_conv, unfold_conv, gap_conv, no_convs, more_convs}
use Rattle.mz_mmu_theory.specs.Proof.{Proof, Proofs, by_hyp, by_name, by_citation, by_conv, by_let, by_gap, no_proofs, more_proofs}
use Rattle.mz_mmu_theory.specs.Weight.{conv_weight, convs_weight, proof_weight, proofs_weight}
use Rattle.mz_emit_theory.specs.Weights as body
use Rattle.mz_emit_theory.specs.ClaimsLaws.{WeightsAreTheTexts}

module _ (env : List Declaration) where
  mutual
    conv-weighs : (c : Conversion) → body.conv_weight env c ≡ conv_weight env c
    conv-weighs (sym_conv c) = ap (λ (n : ℕ). 1 + n) (conv-weighs c)
    conv-weighs (cong_conv t cs) = ap (λ (n : ℕ). 1 + n) (convs-weigh cs)
    conv-weighs (unfold_conv t es ys c) = (let a = conv-weighs c in omega (arith, a))
    conv-weighs _ = refl

    convs-weigh : (cs : Conversions) → body.convs_weight env cs ≡ convs_weight env cs
    convs-weigh no_convs = refl
    convs-weigh (more_convs c cs) = (let a = conv-weighs c in let b = convs-weigh cs in omega (arith, a, b))

  mutual
    proof-weighs : (p : Proof) → body.proof_weight env p ≡ proof_weight env p
    proof-weighs (by_citation T es ps) = (let a = proofs-weigh ps in omega (arith, a))
    proof-weighs (by_conv e c p) = (let a = conv-weighs c in let b = proof-weighs p in omega (arith, a, b))
    proof-weighs (by_let p q) = (let a = proof-weighs p in let b = proof-weighs q in omega (arith, a, b))
    proof-weighs _ = refl

    proofs-weigh : (ps : Proofs) → body.proofs_weight env ps ≡ proofs_weight env ps
    proofs-weigh no_proofs = refl
    proofs-weigh (more_proofs p ps) = (let a = proof-weighs p in let b = proofs-weigh ps in omega (arith, a, b))

pub weights-are : WeightsAreTheTexts
weights-are env p = proof-weighs env p

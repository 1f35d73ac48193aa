-- The weight of a proof: what is written of it, and of each citation and unfolding the instance that it stands for.
use Rattle.std.specs.Prelude.{ℕ, ◌+◌, List}
use Rattle.mz_logic_theory.specs.Tree.{instance, followed_by, variables, size, trees_size}
use Rattle.mz_logic_theory.specs.Declaration.{Declaration}
use Rattle.mz_logic_theory.specs.Conversions.{Conversion, Conversions, refl_conv, sym_conv, cong_conv, unfold_conv, gap_conv, no_convs, more_convs}
use Rattle.mz_mmu_theory.specs.Proof.{Proof, Proofs, by_hyp, by_name, by_citation, by_conv, by_let, by_gap, no_proofs, more_proofs}
use Rattle.mz_emit_theory.specs.Claims.{conclusion_of}
use Rattle.mz_emit_theory.specs.Costs.{body_at}

-- a reflexivity weighs 1; each other step 1 and its parts; an unfolding also its operands and the
-- instance of the body, and a gap its sides
abbrev mutual
  pub conv_weight : List Declaration → Conversion → ℕ
  conv_weight env (refl_conv e) = 1
  conv_weight env (sym_conv c) = 1 + conv_weight env c
  conv_weight env (cong_conv t cs) = 1 + convs_weight env cs
  conv_weight env (unfold_conv t es ys c) = 1 + trees_size es + size (instance (followed_by es (variables ys)) (body_at env t)) + conv_weight env c
  conv_weight env (gap_conv l r) = 1 + size l + size r

  pub convs_weight : List Declaration → Conversions → ℕ
  convs_weight env no_convs = 0
  convs_weight env (more_convs c cs) = conv_weight env c + convs_weight env cs

-- a name weighs 1; a citation its operands, the instance of the conclusion and its subproofs; a let its
-- parts, its first one once; a gap its expression
abbrev mutual
  pub proof_weight : List Declaration → Proof → ℕ
  proof_weight env (by_hyp i) = 1
  proof_weight env (by_name i) = 1
  proof_weight env (by_citation T es ps) = 1 + trees_size es + size (instance es (conclusion_of env T)) + proofs_weight env ps
  proof_weight env (by_conv e c p) = 1 + size e + conv_weight env c + proof_weight env p
  proof_weight env (by_let p q) = 1 + proof_weight env p + proof_weight env q
  proof_weight env (by_gap e) = 1 + size e

  pub proofs_weight : List Declaration → Proofs → ℕ
  proofs_weight env no_proofs = 0
  proofs_weight env (more_proofs p ps) = proof_weight env p + proofs_weight env ps

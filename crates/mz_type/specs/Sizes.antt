-- How much is written in a text: its variables, terms, binders and steps.
use Rattle.std.specs.Prelude.{ℕ, ◌+◌, List, [], ◌∷◌, length, Option, Some, None}
use Rattle.mz_logic_theory.specs.Tree.{size, trees_size}
use Rattle.mz_logic_theory.specs.Conversions.{Conversion, Conversions, refl_conv, sym_conv, cong_conv, unfold_conv, gap_conv, no_convs, more_convs}
use Rattle.mz_mmu_theory.specs.Proof.{Proof, Proofs, by_hyp, by_name, by_citation, by_conv, by_let, by_gap, no_proofs, more_proofs}
use Rattle.mz_mmu_theory.specs.Statements.{Statement}
use Rattle.mz_mmu_theory.specs.Weight.{declaration_weight}

abbrev mutual
  pub conv_size : Conversion → ℕ
  conv_size (refl_conv e) = size e
  conv_size (sym_conv c) = 1 + conv_size c
  conv_size (cong_conv t cs) = 1 + convs_size cs
  conv_size (unfold_conv t es ys c) = 1 + trees_size es + length ys + conv_size c
  conv_size (gap_conv l r) = 1 + size l + size r

  pub convs_size : Conversions → ℕ
  convs_size no_convs = 0
  convs_size (more_convs c cs) = conv_size c + convs_size cs

abbrev mutual
  pub proof_size : Proof → ℕ
  proof_size (by_hyp i) = 1
  proof_size (by_name i) = 1
  proof_size (by_citation T es ps) = 1 + trees_size es + proofs_size ps
  proof_size (by_conv e c p) = 1 + size e + conv_size c + proof_size p
  proof_size (by_let p q) = 1 + proof_size p + proof_size q
  proof_size (by_gap e) = 1 + size e

  pub proofs_size : Proofs → ℕ
  proofs_size no_proofs = 0
  proofs_size (more_proofs p ps) = proof_size p + proofs_size ps

abbrev pub stated_size : Option Proof → ℕ
stated_size None = 0
stated_size (Some p) = proof_size p

abbrev pub statement_size : Statement → ℕ
statement_size s = 1 + declaration_weight s.decl + length s.dummies + stated_size s.proof

abbrev pub text_size : List Statement → ℕ
text_size [] = 0
text_size (s ∷ ss) = statement_size s + text_size ss

-- How a list of proofs is stored: as tokens in preorder.
use Rattle.std.specs.Prelude.{ℕ, zero, suc, ◌+◌, ◌≡◌, List, [], ◌∷◌, refl}
use Rattle.std.specs.Coded.{Coded, code_by, coded×, coded_ℕ, coded_list}
use Rattle.std.proofs.Common.{ap, ◌∙◌}
use Rattle.mz_logic_theory.specs.Tree.{Trees, app, none, more, operand}
use Rattle.mz_logic_theory.specs.TreeCode.{trees_code}
use Rattle.mz_logic_theory.specs.Conversions.{Conversion, refl_conv}
use Rattle.mz_mmu_theory.specs.ConvCode.{conv_code}
use Rattle.mz_mmu_theory.specs.Proof.{Proof, Proofs, by_hyp, by_name, by_citation, by_conv, by_let, by_gap, no_proofs, more_proofs}

abbrev pub Mark : Type 0
Mark = (ℕ × ℕ) × (Trees × Conversion)

abbrev pub no_conv : Conversion
no_conv = refl_conv (app 0 none)

abbrev mutual
  pub put_proof : Proof → List Mark → List Mark
  put_proof (by_hyp i) k = ((0, i), (none, no_conv)) ∷ k
  put_proof (by_name i) k = ((1, i), (none, no_conv)) ∷ k
  put_proof (by_citation T es ps) k = ((2, T), (es, no_conv)) ∷ put_proofs ps k
  put_proof (by_conv e c p) k = ((3, 0), (more e none, c)) ∷ put_proof p k
  put_proof (by_let p q) k = ((4, 0), (none, no_conv)) ∷ put_proof p (put_proof q k)
  put_proof (by_gap e) k = ((7, 0), (more e none, no_conv)) ∷ k

  pub put_proofs : Proofs → List Mark → List Mark
  put_proofs no_proofs k = ((5, 0), (none, no_conv)) ∷ k
  put_proofs (more_proofs p ps) k = ((6, 0), (none, no_conv)) ∷ put_proof p (put_proofs ps k)

abbrev pub one_proof : Proof → Proofs
one_proof p = more_proofs p no_proofs

abbrev pub head_proof : Proofs → Proof
head_proof no_proofs = by_hyp 0
head_proof (more_proofs p _) = p

abbrev pub on_top : (Proofs → Proofs) → List Proofs → List Proofs
on_top f [] = []
on_top f (ps ∷ rest) = f ps ∷ rest

abbrev pub join_top : List Proofs → List Proofs
join_top (a ∷ b ∷ rest) = more_proofs (head_proof a) b ∷ rest
join_top _ = []

abbrev pub let_top : List Proofs → List Proofs
let_top (a ∷ b ∷ rest) = one_proof (by_let (head_proof a) (head_proof b)) ∷ rest
let_top _ = []

abbrev pub take_mark : ℕ → ℕ → Trees → Conversion → List Proofs → List Proofs
take_mark zero n es c st = one_proof (by_hyp n) ∷ st
take_mark (suc zero) n es c st = one_proof (by_name n) ∷ st
take_mark (suc (suc zero)) n es c st = on_top (λ ps. one_proof (by_citation n es ps)) st
take_mark (suc (suc (suc zero))) n es c st = on_top (λ ps. one_proof (by_conv (operand es 0) c (head_proof ps))) st
take_mark (suc (suc (suc (suc zero)))) n es c st = let_top st
take_mark (suc (suc (suc (suc (suc zero))))) n es c st = no_proofs ∷ st
take_mark (suc (suc (suc (suc (suc (suc zero)))))) n es c st = join_top st
take_mark (suc (suc (suc (suc (suc (suc (suc _))))))) n es c st = one_proof (by_gap (operand es 0)) ∷ st

abbrev pub read_marks : List Mark → List Proofs
read_marks [] = []
read_marks (m ∷ ms) = take_mark m.0.0 m.0.1 m.1.0 m.1.1 (read_marks ms)

mutual
  pub read_put_proof : (p : Proof) (k : List Mark) → read_marks (put_proof p k) ≡ one_proof p ∷ read_marks k
  read_put_proof (by_hyp i) k = refl
  read_put_proof (by_name i) k = refl
  read_put_proof (by_citation T es ps) k = ap (on_top (λ qs. one_proof (by_citation T es qs))) (read_put_proofs ps k)
  read_put_proof (by_conv e c p) k = ap (on_top (λ qs. one_proof (by_conv e c (head_proof qs)))) (read_put_proof p k)
  read_put_proof (by_let p q) k = ap let_top (read_put_proof p (put_proof q k)) ∙ ap (λ s. let_top (one_proof p ∷ s)) (read_put_proof q k)
  read_put_proof (by_gap e) k = refl

  pub read_put_proofs : (ps : Proofs) (k : List Mark) → read_marks (put_proofs ps k) ≡ ps ∷ read_marks k
  read_put_proofs no_proofs k = refl
  read_put_proofs (more_proofs p ps) k = ap join_top (read_put_proof p (put_proofs ps k)) ∙ ap (λ s. join_top (one_proof p ∷ s)) (read_put_proofs ps k)

abbrev pub top_proofs : List Proofs → Proofs
top_proofs [] = no_proofs
top_proofs (ps ∷ _) = ps

abbrev pub proofs_code : Coded Proofs
proofs_code = code_by (List Mark) (coded_list (coded× (coded× coded_ℕ coded_ℕ) (coded× trees_code conv_code)))
    (λ ps. put_proofs ps []) (λ k. top_proofs (read_marks k)) (λ ps. ap top_proofs (read_put_proofs ps []))

abbrev pub proof_code : Coded Proof
proof_code = code_by Proofs proofs_code (λ p. one_proof p) (λ ps. head_proof ps) (λ _. refl)

-- how many steps it has
abbrev mutual
  pub proof_steps : Proof → ℕ
  proof_steps (by_hyp i) = 1
  proof_steps (by_name i) = 1
  proof_steps (by_citation T es ps) = 1 + proofs_steps ps
  proof_steps (by_conv e c p) = 1 + proof_steps p
  proof_steps (by_let p q) = 1 + proof_steps p + proof_steps q
  proof_steps (by_gap e) = 1

  pub proofs_steps : Proofs → ℕ
  proofs_steps no_proofs = 0
  proofs_steps (more_proofs p ps) = proof_steps p + proofs_steps ps

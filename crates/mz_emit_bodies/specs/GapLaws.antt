-- What is promised of the gaps of a proof: each that is used has its Sorry, and there is no other (this project's own promise;
-- proofs are this project's own, docs/FORMAT.md, section 4, and Sorry is a gap of the .mmb format). The lets in sight are
-- numbered from 0, the outermost first.
use Rattle.std.specs.Prelude.{ℕ, suc, ◌≡◌, ◌+◌, Bool, false, ◌||◌, ◌&&◌, ◌==◌, if◌then◌else◌, List, [], ◌∷◌}
use Rattle.mz_cmd.specs.declared.code.ProofCode.{ProofCode}
use Rattle.mz_logic_theory.specs.Conversions.{Conversion, Conversions, refl_conv, sym_conv, cong_conv, unfold_conv, gap_conv, no_convs, more_convs}
use Rattle.mz_logic_theory.specs.Tree.{Tree}
use Rattle.mz_logic_theory.specs.Declaration.{Declaration}
use Rattle.mz_logic_theory.specs.declared.binder.Binder.{Binder}
use Rattle.mz_mmu_theory.specs.Proof.{Proof, Proofs, by_hyp, by_name, by_citation, by_conv, by_let, by_gap, no_proofs, more_proofs}
use Rattle.mz_emit_theory.specs.Uses.{a_gap, command_uses}
use Rattle.mz_emit_theory.specs.BodyWriting.{theorem_written}

-- ---- gaps of a proof

-- with n lets in sight, the proof comes to name the i-th: by itself, or in the part of a let that it comes to name
abbrev mutual
  pub comes_to : ℕ → ℕ → Proof → Bool
  comes_to n i (by_hyp h) = false
  comes_to n i (by_name k) = i == k
  comes_to n i (by_citation T es ps) = some_comes_to n i ps
  comes_to n i (by_conv e c p) = comes_to n i p
  comes_to n i (by_let p q) = comes_to (suc n) i q || (comes_to (suc n) n q && comes_to n i p)
  comes_to n i (by_gap e) = false

  pub some_comes_to : ℕ → ℕ → Proofs → Bool
  some_comes_to n i no_proofs = false
  some_comes_to n i (more_proofs p ps) = comes_to n i p || some_comes_to n i ps

-- how many gaps a conversion has
abbrev mutual
  pub gaps_in : Conversion → ℕ
  gaps_in (refl_conv e) = 0
  gaps_in (sym_conv c) = gaps_in c
  gaps_in (cong_conv t cs) = gaps_among cs
  gaps_in (unfold_conv t es ys c) = gaps_in c
  gaps_in (gap_conv l r) = 1

  pub gaps_among : Conversions → ℕ
  gaps_among no_convs = 0
  gaps_among (more_convs c cs) = gaps_in c + gaps_among cs

-- how many gaps are used in a proof with n lets in sight: those of a let's part once, where the let is named, and else none
abbrev mutual
  pub used_gaps : ℕ → Proof → ℕ
  used_gaps n (by_hyp h) = 0
  used_gaps n (by_name k) = 0
  used_gaps n (by_citation T es ps) = gaps_used n ps
  used_gaps n (by_conv e c p) = used_gaps n p + gaps_in c
  used_gaps n (by_let p q) = (if comes_to (suc n) n q then used_gaps n p else 0) + used_gaps (suc n) q
  used_gaps n (by_gap e) = 1

  pub gaps_used : ℕ → Proofs → ℕ
  gaps_used n no_proofs = 0
  gaps_used n (more_proofs p ps) = used_gaps n p + gaps_used n ps

-- ---- Sorry

-- how many of the commands use a gap, which are those with Sorry
abbrev pub sorries : List (ProofCode × ℕ) → ℕ
sorries [] = 0
sorries (c ∷ cs) = (if command_uses a_gap c.0 c.1 then 1 else 0) + sorries cs

-- in a theorem's body stand as many as its proof uses gaps, one for each
abbrev pub EachUsedGapHasItsSorry : Type 0
EachUsedGapHasItsSorry = (env : List Declaration) (params dummies : List Binder) (hyps : List Tree) (p : Proof)
    → sorries (theorem_written env params dummies hyps p).commands ≡ used_gaps 0 p

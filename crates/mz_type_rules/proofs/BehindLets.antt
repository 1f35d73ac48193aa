-- Proofs behind the first parts of lets.
use Rattle.std.proofs.Common.{ℕ, zero, suc, ◌≡◌, ◌<◌, ◌≤◌, ◌+◌, List, [], ◌∷◌, ◌++◌, length, take, slice_get, Some, None, refl, sym, ap, ◌∙◌, arith}
use Rattle.std.proofs.lemmas.Option.{same_Some}
use Rattle.mz_logic_theory.specs.Declaration.{Declaration}
use Rattle.mz_logic_theory.specs.Tree.{Trees, app, none, more, listed, operand}
use Rattle.mz_mmu_theory.specs.ProofCode.{proof_steps}
use Rattle.mz_mmu_theory.specs.ProofView.{proof_view}
use Rattle.mz_mmu_theory.specs.Sides.{proved, with_fact}
use Rattle.mz_type_rules.specs.BehindLets.{visible_behind, proved_behind, steps_of}
use Rattle.mz_type_rules.specs.declared.resolving.First.{First}
use Rattle.mz_type_rules.proofs.Claims.{operand_before, operand_behind}
use Rattle.mz_type_rules.proofs.Keeping.{fact_many}

module _ (env : List Declaration) (hyps : Trees) where
  pub behind_push : (lets : Trees) (fs : List First) (f : First)
      → visible_behind env hyps lets (fs ++ f ∷ []) ≡ with_fact (visible_behind env hyps lets fs) (proved_behind env hyps lets fs (proof_view f.proof.now))
  behind_push lets [] f = refl
  behind_push lets (g ∷ fs) f = behind_push (with_fact lets (proved env hyps lets (proof_view g.proof.now))) fs f

  behind_many : (lets : Trees) (fs : List First) → length (listed (visible_behind env hyps lets fs)) ≡ length (listed lets) + length fs
  behind_many lets [] = omega arith
  behind_many lets (f ∷ fs) =
      let x = proved env hyps lets (proof_view f.proof.now) in
      let one = fact_many lets x in
      let rest = behind_many (with_fact lets x) fs in
      omega (arith, one, rest)

  -- a let that is visible
  pub behind_before : (lets : Trees) (fs : List First) (i : ℕ) → i < length (listed lets) → operand (visible_behind env hyps lets fs) i ≡ operand lets i
  behind_before lets [] i below = refl
  behind_before lets (f ∷ fs) i below =
      let x = proved env hyps lets (proof_view f.proof.now) in
      let one = fact_many lets x in
      behind_before (with_fact lets x) fs i (omega (arith, one, below)) ∙ operand_before lets (more x none) i below

  -- one of those behind it
  pub behind_at : (lets : Trees) (fs : List First) (k : ℕ) (f : First) → slice_get fs k ≡ Some f → (i : ℕ) → i ≡ length (listed lets) + k
      → operand (visible_behind env hyps lets fs) i ≡ proved_behind env hyps lets (take k fs) (proof_view f.proof.now)
  behind_at lets [] k f is i at = absurd (let e : None ≡ Some f = is in cc)
  behind_at lets (g ∷ fs) zero f is i at =
      let x = proved env hyps lets (proof_view g.proof.now) in
      let one = fact_many lets x in
      behind_before (with_fact lets x) fs i (omega (arith, one, at)) ∙ operand_behind lets (more x none) i 0 at
      ∙ ap (λ h. proved env hyps lets (proof_view h.proof.now)) (same_Some g f is)
  behind_at lets (g ∷ fs) (suc k) f is i at =
      let x = proved env hyps lets (proof_view g.proof.now) in
      let one = fact_many lets x in
      behind_at (with_fact lets x) fs k f is i (omega (arith, one, at))

  -- past the end there is nothing, with them and without
  pub behind_past : (lets : Trees) (fs : List First) (i : ℕ) → length (listed lets) + length fs ≤ i → operand lets i ≡ operand (visible_behind env hyps lets fs) i
  behind_past lets fs i past =
      let many = behind_many lets fs in
      none_there lets i (omega (arith, past)) ∙ sym (none_there (visible_behind env hyps lets fs) i (omega (arith, many, past)))
    where
      none_there : (es : Trees) (j : ℕ) → length (listed es) ≤ j → operand es j ≡ app 0 none
      none_there none j there = refl
      none_there (more e es) zero there = absurd (omega (arith, there))
      none_there (more e es) (suc j) there = none_there es j (omega (arith, there))

pub steps_push : (fs : List First) (f : First) → steps_of (fs ++ f ∷ []) ≡ steps_of fs + proof_steps (proof_view f.proof.now)
steps_push [] f = omega arith
steps_push (g ∷ fs) f = let rest = steps_push fs f in omega (arith, rest)

pub steps_at : (fs : List First) (k : ℕ) (f : First) → slice_get fs k ≡ Some f → steps_of (take k fs) + proof_steps (proof_view f.proof.now) ≤ steps_of fs
steps_at [] k f is = absurd (let e : None ≡ Some f = is in cc)
steps_at (g ∷ fs) zero f is = let same = ap (λ h. proof_steps (proof_view h.proof.now)) (same_Some g f is) in omega (arith, same)
steps_at (g ∷ fs) (suc k) f is = let rest = steps_at fs k f is in omega (arith, rest)

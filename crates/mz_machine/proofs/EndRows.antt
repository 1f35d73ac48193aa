-- The END of a body in any machine.
use Rattle.std.proofs.Common.{◌≡◌, ◌+◌, ℕ, suc, Bool, true, false, List, [], ◌∷◌, length, map, Result, Ok, Err, refl, ap, ◌∙◌, arith, eq-eqb, ne_eqb}
use Rattle.std.specs.List.{range_with_len}
use Rattle.mz_cmd.specs.declared.rule.K.{K}
use Rattle.mz_cmd.specs.declared.rule.K.TheVariants as k
use Rattle.mz_logic_theory.specs.Sorts.{HasSort}
use Rattle.mz_logic_theory.proofs.Offered.{sort_is}
use Rattle.mz_logic_theory.specs.declared.binder.Binder.{Binder}
use Rattle.mz_machine_theory.specs.Profile.{Profile, Item}
use Rattle.mz_machine_theory.specs.Steps.{◌>>◌, need}
use Rattle.mz_machine_theory.specs.UnifyMachine.{at_end, in_definition, Matching, UnifyState, unify, unify_steps}
use Rattle.mz_machine_theory.specs.MachineState.{RowsBefore, State, Heading, is_axiom, is_definition, signatures_in}
use Rattle.mz_machine_theory.specs.FreeVars.{free_within}
use Rattle.mz_machine_theory.specs.ProofMachine.{as_proofs, has_provable_sort, last_item, own_stream, own_variables, ending, ends_with, proof_end}
use Rattle.mz_machine_theory.specs.Bodies.{match_steps}
use Rattle.mz_machine.specs.OverStore.{Gives, UnlessMem}
use Rattle.mz_machine.specs.Endings.{IsOwnRun}
use Rattle.mz_unify.specs.declared.stop.Stop.{Stop}
use Rattle.mz_unify.specs.declared.stop.Stop.TheVariants.{Rule, Mem}
use Rattle.mz_unify.specs.Rows.{gone_through}
use Rattle.mz_unify.specs.Stored.{IsRun, UnlessMem as UnlessRunMem}
use Rattle.mz_unify.specs.declared.unified.Unified.{Unified}
use Rattle.mz_unify.specs.declared.unified.Unified.TheVariants as said

next-is : (i : ℕ) → suc i ≡ i + 1
next-is i = omega arith

-- the row's own parameters, as expressions
pub own-are : (P : Profile) (i : ℕ) (ps : List Binder) → own_variables P i ps ≡ map P.variable (range_with_len i (length ps))
own-are P i [] = refl
own-are P i (p ∷ ps) = ap (λ (ts : List P.T). P.variable i ∷ ts) (own-are P (suc i) ps ∙ ap (λ (j : ℕ). map P.variable (range_with_len j (length ps))) (next-is i))

-- what the row's own stream comes to is what its END comes to
pub own-run : {T : Type 0} (r : Result (UnifyState T) (ℕ × K)) (run : Unified) (heap : List T) (items : List (Item T)) (result : Result (Unit {0}) Stop)
    → result ≡ gone_through run → IsRun r run heap items → IsOwnRun r result
own-run r (said.Done taken) heap items result same is = rw same (is.0, is.1)
own-run r (said.Refused at d) heap items result same is = rw same (at, is)
own-run r said.Mem heap items result same is = rw same tt

pub own-steps : (X : Type 0) (run : Unified) (result : Result (Unit {0}) Stop) → result ≡ gone_through run → UnlessRunMem run X → UnlessMem result X
own-steps X (said.Done taken) result same x = rw same x
own-steps X (said.Refused at d) result same x = rw same x
own-steps X said.Mem result same x = rw same tt

module _ (P : Profile) (tables : RowsBefore) (h : Heading) (st : State P.T) where
  pub no-last-item : (d : K) → last_item h.kind st.stack ≡ Err d → ends_with P tables h st ≡ Err d
  unfolding ends_with
  no-last-item d e = rw e refl

  pub not-ending : (e : P.T) (d : K) → last_item h.kind st.stack ≡ Ok e → ending P tables h st h.kind e ≡ Err d → ends_with P tables h st ≡ Err d
  unfolding ends_with
  not-ending e d is stopped = rw (is, stopped) refl

  pub is-ending : (e : P.T) (m : Matching P.T) → last_item h.kind st.stack ≡ Ok e → ending P tables h st h.kind e ≡ Ok m → ends_with P tables h st ≡ Ok m
  unfolding ends_with
  is-ending e m is ends = rw (is, ends) refl

  pub stopped-end : (d : K) → ends_with P tables h st ≡ Err d → proof_end P tables h st ≡ Err d
  unfolding proof_end
  stopped-end d e = rw e refl

  pub no-end-steps : (d : K) → ends_with P tables h st ≡ Err d → match_steps P tables st (ends_with P tables h st) ≡ 0
  no-end-steps d e = rw e refl

  pub end-steps : (m : Matching P.T) → ends_with P tables h st ≡ Ok m → match_steps P tables st (ends_with P tables h st) ≡ unify_steps P (signatures_in tables) st.ctx m
  end-steps m e = rw e refl

  pub own-end : {A : Type 0} (m : Matching P.T) (result : Result A Stop) → ends_with P tables h st ≡ Ok m → IsOwnRun (unify P (signatures_in tables) st.ctx m) result
      → Gives (proof_end P tables h st) result (λ _. st)
  unfolding proof_end
  own-end m (Ok x) e (u, is) = rw (e, is) refl
  own-end m (Err (Rule d)) e (at, is) = rw (e, is) refl
  own-end m (Err Mem) e run = tt

  -- ---- what is asked of the expression that is left

  module _ (e : P.T) where
    pub claim-other : has_provable_sort P tables st.ctx e ≡ false → ending P tables h st is_axiom e ≡ Err k.NotProvable
    claim-other is = rw is refl

    pub claim-ends : has_provable_sort P tables st.ctx e ≡ true → ending P tables h st is_axiom e ≡ Ok (own_stream P h at_end e (as_proofs st.hyps))
    claim-ends is = rw is refl

    pub body-sort : (n : ℕ) → HasSort (signatures_in tables) st.ctx (P.tree e) n → (n ≡ h.result.sort → ⊥) → ending P tables h st is_definition e ≡ Err k.DefinitionSort
    body-sort n sorted other = rw (sort_is (signatures_in tables) st.ctx (P.tree e) n sorted, ne_eqb n h.result.sort other) refl

    pub body-free : (n : ℕ) (v : Bool) → HasSort (signatures_in tables) st.ctx (P.tree e) n → n ≡ h.result.sort → free_within (signatures_in tables) st.ctx h.result.deps (P.tree e) (length st.ctx) ≡ v
        → ending P tables h st is_definition e ≡ (need v k.DefinitionDependencies >> Ok (own_stream P h in_definition e []))
    body-free n v sorted same is = rw (sort_is (signatures_in tables) st.ctx (P.tree e) n sorted, eq-eqb n h.result.sort same, is) refl

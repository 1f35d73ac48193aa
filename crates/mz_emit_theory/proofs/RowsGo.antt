-- What runs by the standard machine runs with what is asked beside numbers, where Unfold has its three items and the
-- streams of definitions share.
use Rattle.std.proofs.Common.{◌≡◌, ℕ, suc, Bool, List, [], ◌∷◌, length, Some, Result, Ok, refl, sym, ap, subst, ◌∙◌, ◌⊎◌, inl, inr}
use Rattle.std.specs.Prelude.{slice_get, ◌==◌}
use Rattle.mz_cmd.specs.declared.rule.K.{K}
use Rattle.mz_cmd.specs.declared.rule.K.TheVariants as k
use Rattle.mz_cmd.specs.declared.code.ProofCode.{ProofCode}
use Rattle.mz_cmd.specs.declared.code.ProofCode.TheVariants as code
use Rattle.mz_logic_theory.specs.Tree.{Tree, var, app}
use Rattle.mz_logic_theory.specs.Signature.{Signature}
use Rattle.mz_logic_theory.specs.Legality.{sort_of}
use Rattle.mz_logic_theory.specs.declared.binder.Binder.{Binder}
use Rattle.mz_machine_theory.specs.Steps.{◌>>=◌, ◌>>◌, need, rule_of}
use Rattle.mz_machine_theory.specs.Spells.{trees_of, variables_from, SpelledTerm}
use Rattle.mz_machine_theory.specs.Sorted.{Sorted}
use Rattle.mz_machine_theory.specs.Profile.{strict, Item, expr, obligation}
use Rattle.mz_machine_theory.specs.UnifyMachine.{Matching, UnifyState, unify}
use Rattle.mz_machine_theory.specs.UnifyLaws.{unfolding_by}
use Rattle.mz_machine_theory.proofs.Offered.{length-params, from_bind, from_need, rule_of-ok, taken-is, same_tree-refl, listed-trees_of, own-are}
use Rattle.mz_machine_theory.specs.MachineState.{RowsBefore, signatures_in, State, Kind, is_axiom, is_theorem, is_definition, Heading}
use Rattle.mz_machine_theory.specs.FreeVars.{free_within}
use Rattle.mz_machine_theory.specs.ProofMachine.{push, matched_by, unfolding_of, proof_step, own_variables, ends_with, proof_end}
use Rattle.mz_pmachine_theory.specs.SharedBuilding.{portable_trees}
use Rattle.mz_pmachine_theory.proofs.Offered.{ends-too}
use Rattle.mz_emit_theory.specs.SharedRows.{SharesBody, IsSharedHeading}
use Rattle.mz_emit_theory.proofs.WholeMarks.{shared-stream}

pub is-unfold : (c : ProofCode) → (c ≡ code.Unfold) ⊎ (c ≡ code.Unfold → ⊥)
is-unfold code.Unfold = inl refl
is-unfold c = inr λ is. cc

-- the parameters as variables
pub own-too : (i : ℕ) (ps : List Binder) → own_variables portable_trees i ps ≡ variables_from i ps
own-too i [] = refl
own-too i (p ∷ ps) = ap (λ (z : List Tree). var i ∷ z) (own-too (suc i) ps)

module _ (tables : RowsBefore) where
  abbrev sigs : List Signature
  sigs = signatures_in tables

  -- ---- Unfold

  module _ (at n t : ℕ) (st : State Tree) (es : List Tree) (e r : Tree) (rest : List (Item Tree)) (row : SpelledTerm) (stream : List ℕ) (row-at : slice_get tables.terms t ≡ Some row) (stream-is : row.stream ≡ Some stream)
      (on : st.stack ≡ expr e ∷ expr (app t (trees_of es)) ∷ obligation (app t (trees_of es)) r ∷ rest) where
    by-table : proof_step strict tables at code.Unfold n st ≡ (rule_of (unify strict sigs st.ctx (unfolding_by stream es e)) >>= λ u. Ok (push (obligation e r) rest st))
    unfolding proof_step unfolding_of
    by-table = rw (on, same_tree-refl (app t (trees_of es)), row-at, stream-is, listed-trees_of es) refl

    beside-numbers : proof_step portable_trees tables at code.Unfold n st ≡ (rule_of (unify portable_trees sigs st.ctx (unfolding_by stream es e)) >>= λ u. Ok (push (obligation e r) rest st))
    unfolding proof_step unfolding_of
    beside-numbers = rw (on, same_tree-refl (app t (trees_of es)), row-at, stream-is, listed-trees_of es) refl

    pub unfold-too : SharesBody sigs row.signature.params stream → length es ≡ length row.signature.params → Sorted sigs st.ctx e → (s : State Tree)
        → proof_step strict tables at code.Unfold n st ≡ Ok s → proof_step portable_trees tables at code.Unfold n st ≡ Ok s
    unfold-too shares len sorted s ran =
        from_bind (rule_of (unify strict sigs st.ctx (unfolding_by stream es e))) _ s (sym by-table ∙ ran) λ u matched e1.
        let (v, run) = shared-stream sigs st.ctx row.signature.params stream shares es e u len sorted (rule_of-ok (unify strict sigs st.ctx (unfolding_by stream es e)) u matched) in
        beside-numbers ∙ ap (λ (z : Result (UnifyState Tree) (ℕ × K)). rule_of z >>= λ u. Ok (push (obligation e r) rest st)) run ∙ e1

  -- ---- the END of a definition

  module _ (h : Heading) (st : State Tree) (e : Tree) (kind : h.kind ≡ is_definition) (on : st.stack ≡ expr e ∷ []) where
    abbrev sort_is : Bool
    sort_is = sort_of sigs st.ctx e == h.result.sort

    abbrev is_free : Bool
    is_free = free_within sigs st.ctx h.result.deps e (length st.ctx)

    ends-by-table : ends_with strict tables h st ≡ (need sort_is k.DefinitionSort >> (need is_free k.DefinitionDependencies >> Ok (unfolding_by h.stream (variables_from 0 h.params) e)))
    unfolding ends_with
    ends-by-table = rw (kind, on, own-are 0 h.params) refl

    ends-beside : ends_with portable_trees tables h st ≡ (need sort_is k.DefinitionSort >> (need is_free k.DefinitionDependencies >> Ok (unfolding_by h.stream (variables_from 0 h.params) e)))
    unfolding ends_with
    ends-beside = rw (kind, on, own-too 0 h.params) refl

    definition-too : SharesBody sigs h.params h.stream → Sorted sigs st.ctx e → (s : State Tree) → proof_end strict tables h st ≡ Ok s → proof_end portable_trees tables h st ≡ Ok s
    unfolding proof_end
    definition-too shares sorted s ended =
        from_bind (ends_with strict tables h st) _ s ended λ m m-is e1.
        from_need sort_is k.DefinitionSort _ m (sym ends-by-table ∙ m-is) λ sort e2.
        from_need is_free k.DefinitionDependencies _ m e2 λ free e3.
        let is : unfolding_by h.stream (variables_from 0 h.params) e ≡ m = taken-is (unfolding_by h.stream (variables_from 0 h.params) e) m e3 in
        from_bind (matched_by strict tables st.ctx m) _ s e1 λ u matched e4.
        let ran : unify strict sigs st.ctx (unfolding_by h.stream (variables_from 0 h.params) e) ≡ Ok u =
        subst (λ (z : Matching Tree). unify strict sigs st.ctx z ≡ Ok u) (sym is) (rule_of-ok (unify strict sigs st.ctx m) u matched) in
        let (v, run) = shared-stream sigs st.ctx h.params h.stream shares (variables_from 0 h.params) e u (length-params 0 h.params) sorted ran in
        rw (ends-beside, sort, free, run) e4

  -- a definition's, which leaves one expression, and any other
  pub end-too : (h : Heading) (st s : State Tree) → IsSharedHeading sigs h → (h.kind ≡ is_definition → (e : Tree) × (st.stack ≡ expr e ∷ []) × Sorted sigs st.ctx e)
      → proof_end strict tables h st ≡ Ok s → proof_end portable_trees tables h st ≡ Ok s
  end-too h st s shares leaves ended = elim (is-definition h.kind) [
    | inl kind ↦ (let (e, on, sorted) = leaves kind in definition-too h st e kind on (shares kind) sorted s ended)
    | inr other ↦ ends-too tables h st s other ended
  ]
    where
      is-definition : (kind : Kind) → (kind ≡ is_definition) ⊎ (kind ≡ is_definition → ⊥)
      is-definition is_definition = inl refl
      is-definition _ = inr λ is. cc

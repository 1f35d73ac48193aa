-- Each row but the gap's is the same whether gaps are let through or not.
use Rattle.std.proofs.Common.{◌≡◌, ℕ, suc, Bool, List, [], ◌∷◌, length, Result, Ok, refl, ap, ◌∙◌}
use Rattle.std.specs.Prelude.{◌==◌, slice_get}
use Rattle.mz_cmd.specs.declared.rule.K.{K}
use Rattle.mz_cmd.specs.declared.rule.K.TheVariants as k
use Rattle.mz_cmd.specs.declared.code.ProofCode.{ProofCode}
use Rattle.mz_cmd.specs.declared.code.ProofCode.TheVariants as code
use Rattle.mz_logic_theory.specs.Tree.{Tree, var}
use Rattle.mz_logic_theory.specs.Legality.{sort_of}
use Rattle.mz_logic_theory.specs.declared.binder.Binder.{Binder}
use Rattle.mz_machine_theory.specs.Steps.{◌>>◌, need, want, rule_of}
use Rattle.mz_machine_theory.specs.Profile.{plain, strict, Item, expr, proof, obligation, conversion}
use Rattle.mz_machine_theory.specs.UnifyMachine.{UnifyMode, Matching}
use Rattle.mz_machine_theory.proofs.PlainRuns.{bind-same, bind-first, unify-plain}
use Rattle.mz_machine_theory.specs.MachineState.{RowsBefore, signatures_in, State, Kind, is_axiom, is_theorem, is_definition, Heading}
use Rattle.mz_machine_theory.specs.FreeVars.{free_within}
use Rattle.mz_machine_theory.specs.Premises.{pop_expr, pop_sides, is_conversion}
use Rattle.mz_machine_theory.specs.ProofMachine.{built, citation, matched_by, cited, referred, unfolding_of, has_provable_sort, proof_step, last_item, own_variables, own_stream, ending, ends_with, proof_end}

pub sides-plain : (gaps : Bool) (xs : List (Item Tree)) → pop_sides (plain gaps) xs ≡ pop_sides strict xs
sides-plain gaps [] = refl
sides-plain gaps (expr m ∷ xs) = refl
sides-plain gaps (proof m ∷ xs) = refl
sides-plain gaps (obligation l r ∷ xs) = refl
sides-plain gaps (conversion l r ∷ xs) = refl

pub referred-plain : (gaps : Bool) (x : Item Tree) (st : State Tree) → referred (plain gaps) x st ≡ referred strict x st
referred-plain gaps (expr a) st = refl
referred-plain gaps (proof a) st = refl
referred-plain gaps (obligation l r) st = refl
referred-plain gaps (conversion l r) st = refl

pub own-plain : (gaps : Bool) (i : ℕ) (bs : List Binder) → own_variables (plain gaps) i bs ≡ own_variables strict i bs
own-plain gaps i [] = refl
own-plain gaps i (b ∷ bs) = ap (λ (z : List Tree). var i ∷ z) (own-plain gaps (suc i) bs)

module _ (gaps : Bool) (tables : RowsBefore) where
  pub matched-plain : (ctx : List Binder) (m : Matching Tree) → matched_by (plain gaps) tables ctx m ≡ matched_by strict tables ctx m
  matched-plain ctx m = ap (λ z. rule_of z) (unify-plain gaps (signatures_in tables) ctx m)

  built-plain : (at t : ℕ) (st : State Tree) → built (plain gaps) tables at t st ≡ built strict tables at t st
  unfolding built
  built-plain at t st = refl

  pub citation-plain : (t : ℕ) (st : State Tree) → citation (plain gaps) tables t st ≡ citation strict tables t st
  unfolding citation
  citation-plain t st = refl

  cited-plain : (t : ℕ) (st : State Tree) → cited (plain gaps) tables t st ≡ cited strict tables t st
  unfolding cited
  cited-plain t st =
      bind-first (citation (plain gaps) tables t st) (citation strict tables t st) _ (citation-plain t st)
      ∙ bind-same (citation strict tables t st) _ _ λ m. bind-first (matched_by (plain gaps) tables st.ctx m) (matched_by strict tables st.ctx m) _ (matched-plain st.ctx m)

  pub unfolding-plain : (st : State Tree) → unfolding_of (plain gaps) tables st ≡ unfolding_of strict tables st
  unfolding unfolding_of
  unfolding-plain st = bind-same (pop_expr st.stack) _ _ λ e. bind-first (pop_sides (plain gaps) e.1) (pop_sides strict e.1) _ (sides-plain gaps e.1)

  pub row-plain : (at : ℕ) (c : ProofCode) (n : ℕ) (st : State Tree) → (c ≡ code.Sorry → ⊥) → proof_step (plain gaps) tables at c n st ≡ proof_step strict tables at c n st
  unfolding proof_step
  row-plain at code.Term n st other = bind-first (built (plain gaps) tables at n st) (built strict tables at n st) _ (built-plain at n st)
  row-plain at code.TermSave n st other = bind-first (built (plain gaps) tables at n st) (built strict tables at n st) _ (built-plain at n st)
  row-plain at code.Ref n st other = bind-same (want (slice_get st.heap n) k.HeapIndex) _ _ λ x. referred-plain gaps x st
  row-plain at code.ConvRef n st other = bind-same (want (slice_get st.heap n) k.HeapIndex) _ _ λ x. ap (λ (z : Result (State Tree) K). need (is_conversion x) k.Kind >> z) (referred-plain gaps x st)
  row-plain at code.Dummy n st other = refl
  row-plain at code.Thm n st other = bind-first (cited (plain gaps) tables n st) (cited strict tables n st) _ (cited-plain n st)
  row-plain at code.ThmSave n st other = bind-first (cited (plain gaps) tables n st) (cited strict tables n st) _ (cited-plain n st)
  row-plain at code.Hyp n st other = refl
  row-plain at code.Conv n st other = refl
  row-plain at code.Refl n st other = refl
  row-plain at code.Symm n st other = refl
  row-plain at code.Cong n st other = refl
  row-plain at code.Unfold n st other =
      bind-first (unfolding_of (plain gaps) tables st) (unfolding_of strict tables st) _ (unfolding-plain st)
      ∙ bind-same (unfolding_of strict tables st) _ _ λ m. bind-first (matched_by (plain gaps) tables st.ctx m.0) (matched_by strict tables st.ctx m.0) _ (matched-plain st.ctx m.0)
  row-plain at code.ConvCut n st other = refl
  row-plain at code.ConvSave n st other = refl
  row-plain at code.Save n st other = refl
  row-plain at code.Sorry n st other = absurd (other refl)

  -- ---- the END

  stream-plain : (h : Heading) (mode : UnifyMode) (e : Tree) (items : List (Item Tree)) → own_stream (plain gaps) h mode e items ≡ own_stream strict h mode e items
  stream-plain h mode e items = ap (λ (z : List Tree). record { mode = mode; stream = h.stream; operands = z; target = e; items = items }) (own-plain gaps 0 h.params)

  ending-plain : (h : Heading) (st : State Tree) (kind : Kind) (e : Tree) → ending (plain gaps) tables h st kind e ≡ ending strict tables h st kind e
  ending-plain h st is_axiom e = ap (λ (z : Matching Tree). need (has_provable_sort strict tables st.ctx e) k.NotProvable >> Ok z) (stream-plain h _ e _)
  ending-plain h st is_theorem e = ap (λ (z : Matching Tree). Ok z) (stream-plain h _ e _)
  ending-plain h st is_definition e = ap (λ (z : Matching Tree).
      need (sort_of (signatures_in tables) st.ctx e == h.result.sort) k.DefinitionSort >> (need (free_within (signatures_in tables) st.ctx h.result.deps e (length st.ctx)) k.DefinitionDependencies >> Ok z)) (stream-plain h _ e _)

  pub ends-plain : (h : Heading) (st : State Tree) → ends_with (plain gaps) tables h st ≡ ends_with strict tables h st
  unfolding ends_with
  ends-plain h st = bind-same (last_item h.kind st.stack) _ _ λ e. ending-plain h st h.kind e

  pub end-plain : (h : Heading) (st : State Tree) → proof_end (plain gaps) tables h st ≡ proof_end strict tables h st
  unfolding proof_end
  end-plain h st =
      bind-first (ends_with (plain gaps) tables h st) (ends_with strict tables h st) _ (ends-plain h st)
      ∙ bind-same (ends_with strict tables h st) _ _ λ m. bind-first (matched_by (plain gaps) tables st.ctx m) (matched_by strict tables st.ctx m) _ (matched-plain st.ctx m)

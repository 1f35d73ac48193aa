-- What the row of a command gives in any machine, case by case.
use Rattle.std.proofs.Common.{◌≡◌, ℕ, Bool, true, false, eqb, List, [], ◌∷◌, ◌++◌, Option, Some, None, Ok, Err, refl, sym, ap, ◌∙◌, eq-eqb}
use Rattle.std.specs.Prelude.{slice_get, if◌then◌else◌, ◌==◌, not}
use Rattle.std.specs.Option.{option_eq}
use Rattle.std.proofs.lemmas.Bool.{eqb-true}
use Rattle.mz_cmd.specs.declared.rule.K.{K}
use Rattle.mz_cmd.specs.declared.rule.K.TheVariants as k
use Rattle.mz_logic_theory.specs.Signature.{Signature}
use Rattle.mz_logic_theory.specs.declared.binder.Binder.{Binder}
use Rattle.mz_machine_theory.specs.Streams.{u_term, u_term_save, u_ref, u_dummy, u_hyp, u_end}
use Rattle.mz_machine_theory.specs.Profile.{Profile, Item}
use Rattle.mz_machine_theory.specs.UnifyMachine.{UnifyMode, UnifyState, is_empty, operands_of, is_fresh, nothing_left, next_hypothesis, unify_step}
use Rattle.mz_unify.specs.Rows.{with_targets}
use Rattle.mz_unify.proofs.Parts.{Parts, differ}

module _ (P : Profile) (sigs : List Signature) (ctx : List Binder) (mode : UnifyMode) (st : UnifyState P.T) where
  -- ---- UTerm and UTermSave

  pub term-none : (t : ℕ) → st.targets ≡ [] → unify_step P sigs ctx mode (u_term t) st ≡ Err k.UnifyRest
  unfolding unify_step
  term-none t e = rw e refl

  pub save-none : (t : ℕ) → st.targets ≡ [] → unify_step P sigs ctx mode (u_term_save t) st ≡ Err k.UnifyRest
  unfolding unify_step
  save-none t e = rw e refl

  module _ {head : P.T → Option ℕ} {operands : P.T → List P.T} (parts : Parts P head operands) where
    no-operands : (t : ℕ) (e : P.T) → (head e ≡ Some t → ⊥) → operands_of t (P.parts e) ≡ None
    no-operands t e h = by (head e) refl
      where
        by : (o : Option ℕ) → head e ≡ o → operands_of t (P.parts e) ≡ None
        by None at = ap (operands_of t) (parts.of_none e at)
        by (Some u) at = ap (operands_of t) (parts.of_some u e at) ∙ go (u == t) refl
          where
            go : (b : Bool) → (u == t) ≡ b → (if b then Some (operands e) else None) ≡ None
            go true is = absurd (h (at ∙ ap (λ (n : ℕ). Some n) (eqb-true _ _ is)))
            go false is = refl

    pub term-other : (t : ℕ) (e : P.T) (rest : List P.T) → st.targets ≡ e ∷ rest → (head e ≡ Some t → ⊥) → unify_step P sigs ctx mode (u_term t) st ≡ Err k.UnifyTerm
    unfolding unify_step
    term-other t e rest is h = rw (is, no-operands t e h) refl

    pub save-other : (t : ℕ) (e : P.T) (rest : List P.T) → st.targets ≡ e ∷ rest → (head e ≡ Some t → ⊥) → unify_step P sigs ctx mode (u_term_save t) st ≡ Err k.UnifyTerm
    unfolding unify_step
    save-other t e rest is h = rw (is, no-operands t e h) refl

    its-operands : (t : ℕ) (e : P.T) → head e ≡ Some t → operands_of t (P.parts e) ≡ Some (operands e)
    its-operands t e h = ap (operands_of t) (parts.of_some t e h) ∙ rw (eq-eqb t t refl) refl

    pub term-row : (t : ℕ) (e : P.T) (below targets : List P.T) → st.targets ≡ e ∷ below → head e ≡ Some t → operands e ++ below ≡ targets
        → unify_step P sigs ctx mode (u_term t) st ≡ Ok (with_targets st targets)
    unfolding unify_step
    term-row t e below targets is h put = rw (is, its-operands t e h, put) refl

    pub save-row : (t : ℕ) (e : P.T) (below targets : List P.T) → st.targets ≡ e ∷ below → head e ≡ Some t → operands e ++ below ≡ targets
        → unify_step P sigs ctx mode (u_term_save t) st ≡ Ok (record (with_targets st targets) { heap = st.heap ++ e ∷ []; apart = if P.portable then st.apart ++ e ∷ [] else st.apart })
    unfolding unify_step
    save-row t e below targets is h put = rw (is, its-operands t e h, put) refl

  -- ---- URef

  pub ref-no-target : (i : ℕ) → st.targets ≡ [] → unify_step P sigs ctx mode (u_ref i) st ≡ Err k.UnifyRest
  unfolding unify_step
  ref-no-target i e = rw e refl

  pub ref-no-place : (i : ℕ) (e : P.T) (rest : List P.T) → st.targets ≡ e ∷ rest → slice_get st.heap i ≡ None → unify_step P sigs ctx mode (u_ref i) st ≡ Err k.UnifyReference
  unfolding unify_step
  ref-no-place i e rest is at = rw (is, at) refl

  module _ {head : P.T → Option ℕ} {operands : P.T → List P.T} (parts : Parts P head operands) (i : ℕ) (e f : P.T) (rest : List P.T) (is : st.targets ≡ e ∷ rest) (at : slice_get st.heap i ≡ Some f) where
    pub ref-other : (f ≡ e → ⊥) → unify_step P sigs ctx mode (u_ref i) st ≡ Err k.UnifyReference
    unfolding unify_step
    ref-other h = rw (is, at, differ parts f e h) refl

    pub ref-row : f ≡ e → unify_step P sigs ctx mode (u_ref i) st ≡ Ok (with_targets st rest)
    unfolding unify_step
    ref-row same = rw (is, at, same, parts.itself e) refl

  -- ---- UDummy

  pub dummy-no-target : (s : ℕ) → st.targets ≡ [] → unify_step P sigs ctx mode (u_dummy s) st ≡ Err k.UnifyRest
  unfolding unify_step
  dummy-no-target s e = rw e refl

  pub dummy-other : (s : ℕ) (e : P.T) (rest : List P.T) → st.targets ≡ e ∷ rest → is_fresh P sigs ctx s e st.apart ≡ false → unify_step P sigs ctx mode (u_dummy s) st ≡ Err k.UnifyDummy
  unfolding unify_step
  dummy-other s e rest is h = rw (is, h) refl

  pub dummy-row : (s : ℕ) (e : P.T) (rest : List P.T) → st.targets ≡ e ∷ rest → is_fresh P sigs ctx s e st.apart ≡ true
      → unify_step P sigs ctx mode (u_dummy s) st ≡ Ok (record (with_targets st rest) { heap = st.heap ++ e ∷ []; apart = st.apart ++ e ∷ [] })
  unfolding unify_step
  dummy-row s e rest is h = rw (is, h) refl

  -- ---- UHyp

  pub hyp-target : is_empty st.targets ≡ false → unify_step P sigs ctx mode u_hyp st ≡ Err k.UnifyRest
  unfolding unify_step
  hyp-target h = rw h refl

  pub hyp-stop : (rule : K) → is_empty st.targets ≡ true → next_hypothesis mode st.items ≡ Err rule → unify_step P sigs ctx mode u_hyp st ≡ Err rule
  unfolding unify_step
  hyp-stop rule h is = rw (h, is) refl

  pub hyp-row : (e : P.T) (rest : List (Item P.T)) → is_empty st.targets ≡ true → next_hypothesis mode st.items ≡ Ok (e, rest) → unify_step P sigs ctx mode u_hyp st ≡ Ok (record (with_targets st (e ∷ [])) { items = rest })
  unfolding unify_step
  hyp-row e rest h is = rw (h, is) refl

  -- ---- END

  pub end-target : is_empty st.targets ≡ false → unify_step P sigs ctx mode u_end st ≡ Err k.UnifyRest
  unfolding unify_step
  end-target h = rw h refl

  pub end-left : is_empty st.targets ≡ true → nothing_left mode st.items ≡ false → unify_step P sigs ctx mode u_end st ≡ Err k.UnifyRest
  unfolding unify_step
  end-left h l = rw (h, l) refl

  pub end-row : is_empty st.targets ≡ true → nothing_left mode st.items ≡ true → unify_step P sigs ctx mode u_end st ≡ Ok st
  unfolding unify_step
  end-row h l = rw (h, l) refl

-- ---- whether two heads are the same

pub heads-differ : (o : Option ℕ) (t : ℕ) → not (option_eq eqb o (Some t)) ≡ true → o ≡ Some t → ⊥
heads-differ None t h is = cc
heads-differ (Some n) t h is =
    let same : n ≡ t = cc in
    let eq : eqb n t ≡ true = eq-eqb n t same in
    absurd (true-false (sym h ∙ ap not eq))
  where
    true-false : true ≡ false → ⊥
    true-false e = cc

pub heads-same : (o : Option ℕ) (t : ℕ) → not (option_eq eqb o (Some t)) ≡ false → o ≡ Some t
heads-same None t h = absurd cc
heads-same (Some n) t h = ap (λ (x : ℕ). Some x) (eqb-true n t (back (eqb n t) h))
  where
    back : (b : Bool) → not b ≡ false → b ≡ true
    back true e = refl
    back false e = absurd cc

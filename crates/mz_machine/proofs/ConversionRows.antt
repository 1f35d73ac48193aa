-- The rows on conversions in any machine, case by case.
use Rattle.std.proofs.Common.{◌≡◌, ℕ, Bool, true, false, List, [], ◌∷◌, Option, Some, None, Result, Ok, Err, slice_get, refl, sym, ap, ◌∙◌, eq-eqb}
use Rattle.std.specs.Prelude.{⊤, if◌then◌else◌, ◌==◌, OnOk, MatchResult}
use Rattle.std.proofs.lemmas.Bool.{eqb-true}
use Rattle.mz_cmd.specs.declared.rule.K.{K}
use Rattle.mz_cmd.specs.declared.rule.K.TheVariants as k
use Rattle.mz_cmd.specs.declared.code.ProofCode.TheVariants as code
use Rattle.mz_machine_theory.specs.Steps.{◌>>=◌, want}
use Rattle.mz_machine_theory.specs.Profile.{Profile, Item, proof, obligation}
use Rattle.mz_machine_theory.specs.UnifyMachine.{in_definition, Matching, UnifyState, unify, unify_steps}
use Rattle.mz_unify.specs.Rows.{StopsBy}
use Rattle.mz_unify.specs.declared.stop.Stop.{Stop}
use Rattle.mz_unify.specs.declared.stop.Stop.TheVariants.{Rule, Mem}
use Rattle.mz_unify.proofs.Offered.{Parts, differ}
use Rattle.mz_machine_theory.specs.MachineState.{RowsBefore, State, signatures_in}
use Rattle.mz_machine_theory.specs.Premises.{pop_expr, pop_obligation, pop_proof, pop_sides}
use Rattle.mz_machine_theory.specs.ProofMachine.{proof_step, sides, same_term, stream_of, unfolding_of}
use Rattle.mz_machine_theory.specs.Bodies.{row_steps}
use Rattle.mz_machine.specs.OverStore.{Gives}

-- ---- Refl and Cong

module _ {P : Profile} {head : P.T → Option ℕ} {operands : P.T → List P.T} (parts : Parts P head operands) where
  pub same : (l r : P.T) → l ≡ r → P.same l r ≡ true
  same l r e = rw e (parts.itself r)

  two-terms : (t : ℕ) (e f : P.T) → head e ≡ Some t → (head f ≡ Some t → ⊥) → same_term (P.parts e) (P.parts f) ≡ None
  two-terms t e f h other = ap (λ (p : Option (ℕ × List P.T)). same_term p (P.parts f)) (parts.of_some t e h) ∙ by (head f) refl
    where
      by : (o : Option ℕ) → head f ≡ o → same_term (Some (t, operands e)) (P.parts f) ≡ None
      by None at = ap (λ (p : Option (ℕ × List P.T)). same_term (Some (t, operands e)) p) (parts.of_none f at)
      by (Some v) at = ap (λ (p : Option (ℕ × List P.T)). same_term (Some (t, operands e)) p) (parts.of_some v f at) ∙ go (t == v) refl
        where
          go : (b : Bool) → (t == v) ≡ b → if◌then◌else◌ {A = Option (List P.T × List P.T)} b (Some (operands e, operands f)) None ≡ None
          go true is = absurd (other (at ∙ ap (λ (m : ℕ). Some m) (sym (eqb-true _ _ is))))
          go false is = refl

  one-term : (t : ℕ) (l r : P.T) → head l ≡ Some t → head r ≡ Some t → same_term (P.parts l) (P.parts r) ≡ Some (operands l, operands r)
  one-term t l r h i = rw (parts.of_some t l h, parts.of_some t r i, eq-eqb t t refl) refl

  module _ (tables : RowsBefore) (at n : ℕ) (st : State P.T) (l r : P.T) (xs : List (Item P.T)) (taken : pop_obligation st.stack ≡ Ok (l, r, xs)) where
    pub refl-row : l ≡ r → proof_step P tables at code.Refl n st ≡ Ok (record st { stack = xs })
    unfolding proof_step
    refl-row e = rw (taken, same l r e) refl

    pub refl-other : (l ≡ r → ⊥) → proof_step P tables at code.Refl n st ≡ Err k.Refl
    unfolding proof_step
    refl-other h = rw (taken, differ parts l r h) refl

    pub cong-variable : head l ≡ None → proof_step P tables at code.Cong n st ≡ Err k.Cong
    unfolding proof_step
    cong-variable h = rw (taken, parts.of_none l h) refl

    pub cong-other : (t : ℕ) → head l ≡ Some t → (head r ≡ Some t → ⊥) → proof_step P tables at code.Cong n st ≡ Err k.Cong
    unfolding proof_step
    cong-other t h other = rw (taken, two-terms t l r h other) refl

    pub cong-row : (t : ℕ) → head l ≡ Some t → head r ≡ Some t → proof_step P tables at code.Cong n st ≡ Ok (record st { stack = sides (operands l) (operands r) xs })
    unfolding proof_step
    cong-row t h i = rw (taken, one-term t l r h i) refl

-- ---- Conv and Symm, and obligations that aren't there

module _ (P : Profile) (tables : RowsBefore) (at n : ℕ) (st : State P.T) where
  pub conv-unproved : (d : K) → pop_proof st.stack ≡ Err d → proof_step P tables at code.Conv n st ≡ Err d
  unfolding proof_step
  conv-unproved d none = rw none refl

  pub symm-unowed : (d : K) → pop_obligation st.stack ≡ Err d → proof_step P tables at code.Symm n st ≡ Err d
  unfolding proof_step
  symm-unowed d none = rw none refl

  pub refl-unowed : (d : K) → pop_obligation st.stack ≡ Err d → proof_step P tables at code.Refl n st ≡ Err d
  unfolding proof_step
  refl-unowed d none = rw none refl

  pub cong-unowed : (d : K) → pop_obligation st.stack ≡ Err d → proof_step P tables at code.Cong n st ≡ Err d
  unfolding proof_step
  cong-unowed d none = rw none refl

  module _ (p : P.T) (xs : List (Item P.T)) (proved : pop_proof st.stack ≡ Ok (p, xs)) where
    pub conv-unclaimed : (d : K) → pop_expr xs ≡ Err d → proof_step P tables at code.Conv n st ≡ Err d
    unfolding proof_step
    conv-unclaimed d none = rw (proved, none) refl

    pub conv-row : (e : P.T) (ys : List (Item P.T)) → pop_expr xs ≡ Ok (e, ys) → proof_step P tables at code.Conv n st ≡ Ok (record st { stack = obligation e p ∷ proof e ∷ ys })
    unfolding proof_step
    conv-row e ys claimed = rw (proved, claimed) refl

  pub symm-row : (l r : P.T) (xs : List (Item P.T)) → pop_obligation st.stack ≡ Ok (l, r, xs) → proof_step P tables at code.Symm n st ≡ Ok (record st { stack = obligation r l ∷ xs })
  unfolding proof_step
  symm-row l r xs owed = rw owed refl

-- ---- the sides of operands

pub no-right : {T : Type 0} (es : List T) (xs : List (Item T)) → sides es [] xs ≡ xs
no-right [] xs = refl
no-right (e ∷ es) xs = refl

-- ---- what an unfolding takes

-- what is unfolded to, the sides of the obligation, and the items below
abbrev pub unfolding_taken : (P : Profile) → List (Item P.T) → Result (P.T × P.T × P.T × List (Item P.T)) K
unfolding_taken P xs = pop_expr xs >>= λ e. (pop_sides P e.1 >>= λ o. Ok (e.0, o.0, o.1, o.2))

module _ (P : Profile) (tables : RowsBefore) (st : State P.T) where
  -- the definition's stream and operands, beside what an unfolding has taken
  abbrev unfolds : P.T × P.T × P.T × List (Item P.T) → Result (Matching P.T × P.T × List (Item P.T)) K
  unfolds (e, l, r, xs) =
      want (P.parts l) k.Unfold >>= λ p. (want (stream_of (slice_get tables.terms p.0)) k.Unfold >>= λ stream.
      Ok (record { mode = in_definition; stream = stream; operands = p.1; target = e; items = [] }, r, xs))

  by-taken : unfolding_of P tables st ≡ (unfolding_taken P st.stack >>= unfolds)
  unfolding unfolding_of
  by-taken = go (pop_expr st.stack)
    where
      go : (a : Result (P.T × List (Item P.T)) K)
          → (a >>= λ e. (pop_sides P e.1 >>= λ o. (want (P.parts o.0) k.Unfold >>= λ p. (want (stream_of (slice_get tables.terms p.0)) k.Unfold >>= λ stream.
          Ok (record { mode = in_definition; stream = stream; operands = p.1; target = e.0; items = [] }, o.1, o.2)))))
          ≡ ((a >>= λ e. (pop_sides P e.1 >>= λ o. Ok (e.0, o.0, o.1, o.2))) >>= unfolds)
      go (Err d) = refl
      go (Ok (e, ys)) = on (pop_sides P ys)
        where
          on : (b : Result (P.T × P.T × List (Item P.T)) K)
              → (b >>= λ o. (want (P.parts o.0) k.Unfold >>= λ p. (want (stream_of (slice_get tables.terms p.0)) k.Unfold >>= λ stream.
              Ok (record { mode = in_definition; stream = stream; operands = p.1; target = e; items = [] }, o.1, o.2))))
              ≡ ((b >>= λ o. Ok (e, o.0, o.1, o.2)) >>= unfolds)
          on (Err d) = refl
          on (Ok (l, r, zs)) = refl

  pub not-taken : (d : K) → unfolding_taken P st.stack ≡ Err d → unfolding_of P tables st ≡ Err d
  not-taken d e = by-taken ∙ ap (λ t. t >>= unfolds) e

  module _ {head : P.T → Option ℕ} {operands : P.T → List P.T} (parts : Parts P head operands) (e l r : P.T) (xs : List (Item P.T)) (taken : unfolding_taken P st.stack ≡ Ok (e, l, r, xs)) where
    pub of-variable : head l ≡ None → unfolding_of P tables st ≡ Err k.Unfold
    of-variable h = by-taken ∙ (ap (λ t. t >>= unfolds) taken ∙ rw (parts.of_none l h) refl)

    pub not-defined : (t : ℕ) → head l ≡ Some t → stream_of (slice_get tables.terms t) ≡ None → unfolding_of P tables st ≡ Err k.Unfold
    not-defined t h none = by-taken ∙ (ap (λ t. t >>= unfolds) taken ∙ rw (parts.of_some t l h, none) refl)

    pub is-unfolding : (t : ℕ) (stream : List ℕ) → head l ≡ Some t → stream_of (slice_get tables.terms t) ≡ Some stream
        → unfolding_of P tables st ≡ Ok (record { mode = in_definition; stream = stream; operands = operands l; target = e; items = [] }, r, xs)
    is-unfolding t stream h some = by-taken ∙ (ap (λ t. t >>= unfolds) taken ∙ rw (parts.of_some t l h, some) refl)

  -- ---- Unfold

  pub unfold-stopped : (at n : ℕ) (d : K) → unfolding_of P tables st ≡ Err d → proof_step P tables at code.Unfold n st ≡ Err d
  unfolding proof_step
  unfold-stopped at n d e = rw e refl

  pub stopped-steps : (n : ℕ) (d : K) → unfolding_of P tables st ≡ Err d → row_steps P tables code.Unfold n st ≡ 0
  stopped-steps n d e = rw e refl

  module _ (m : Matching P.T) (r : P.T) (xs : List (Item P.T)) (is : unfolding_of P tables st ≡ Ok (m, r, xs)) where
    pub unfold-refused : (at n place : ℕ) (d : K) → unify P (signatures_in tables) st.ctx m ≡ Err (place, d) → proof_step P tables at code.Unfold n st ≡ Err d
    unfolding proof_step
    unfold-refused at n place d e = rw (is, e) refl

    pub unfold-row : (at n : ℕ) (u : UnifyState P.T) → unify P (signatures_in tables) st.ctx m ≡ Ok u → proof_step P tables at code.Unfold n st ≡ Ok (record st { stack = obligation m.target r ∷ xs })
    unfolding proof_step
    unfold-row at n u e = rw (is, e) refl

    pub unfold-steps : (n : ℕ) → row_steps P tables code.Unfold n st ≡ unify_steps P (signatures_in tables) st.ctx m
    unfold-steps n = rw is refl

-- what is put on the stack, or out of memory
pub gives-stack : {A T : Type 0} (st : State T) (row : Result (State T) K) (ys zs : List (Item T)) (result : Result A Stop)
    → row ≡ Ok (record st { stack = ys }) → OnOk result (zs ≡ ys) → MatchResult result (λ _. ⊤) (λ stop. StopsBy stop (λ _. ⊥)) → Gives row result (λ _. record st { stack = zs })
gives-stack st row ys zs (Ok x) is ok err = rw ok is
gives-stack st row ys zs (Err Mem) is ok err = tt
gives-stack st row ys zs (Err (Rule d)) is ok err = absurd err

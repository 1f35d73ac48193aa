-- The rows on citations in any machine: what is asked, one after another, and what is made of it.
use Rattle.std.proofs.Common.{◌≡◌, ◌<◌, ◌≤◌, ℕ, suc, true, false, List, [], ◌∷◌, ◌++◌, length, map, drop, Some, None, Result, Ok, Err, slice_get, refl, sym, ap, ◌∙◌, arith, le-leb}
use Rattle.std.specs.Prelude.{nat_le}
use Rattle.mz_cmd.specs.declared.rule.K.{K}
use Rattle.mz_cmd.specs.declared.rule.K.TheVariants as k
use Rattle.mz_cmd.specs.declared.code.ProofCode.TheVariants as code
use Rattle.mz_logic_theory.specs.Tree.{Tree}
use Rattle.mz_logic_theory.specs.declared.binder.Binder.{Binder}
use Rattle.mz_logic_theory.specs.Words.{binders_of}
use Rattle.mz_layout_tables.specs.Tables.{thm_row}
use Rattle.mz_machine_theory.specs.Spells.{SpelledThm}
use Rattle.mz_machine_theory.specs.Profile.{Profile, Item, proof}
use Rattle.mz_machine_theory.specs.Steps.{◌>>=◌}
use Rattle.mz_machine_theory.specs.UnifyMachine.{in_citation, Matching, UnifyState, unify, unify_steps}
use Rattle.mz_machine_theory.specs.MachineState.{RowsBefore, State, signatures_in}
use Rattle.mz_machine_theory.specs.Premises.{pop_expr, pop_operands, operands_fit, are_disjoint}
use Rattle.mz_machine_theory.specs.ProofMachine.{proof_step, citation, cited, push, saved}
use Rattle.mz_machine_theory.specs.Bodies.{row_steps}
use Rattle.mz_machine_env.specs.Before.{Before, tables_of, signatures_of}
use Rattle.mz_machine_theory.specs.FileRows.{thm_of_file}
use Rattle.mz_machine_env.proofs.Offered.{thm-before, no-thm-before, binders_many}
use Rattle.mz_machine.proofs.TakenOperands.{too-few}

-- the trees of operands, as the machine's own list of them
module _ (P : Profile) (trees : List P.T → List Tree) (trees-are : (es : List P.T) → map P.tree es ≡ trees es) where
  module _ (tables : RowsBefore) (t : ℕ) (st : State P.T) where
    unknown : slice_get tables.thms t ≡ None → citation P tables t st ≡ Err k.TheoremIndex
    unfolding citation
    unknown h = rw h refl

    module _ (row : SpelledThm) (there : slice_get tables.thms t ≡ Some row) where
      pub few : nat_le (suc (length row.params)) (length st.stack) ≡ false → citation P tables t st ≡ Err k.Underflow
      unfolding citation
      few h = rw (there, h) refl

      module _ (enough : nat_le (suc (length row.params)) (length st.stack) ≡ true) where
        pub no-target : (rule : K) → pop_expr st.stack ≡ Err rule → citation P tables t st ≡ Err rule
        unfolding citation
        no-target rule h = rw (there, enough, h) refl

        module _ (e : P.T) (ys : List (Item P.T)) (popped : pop_expr st.stack ≡ Ok (e, ys)) where
          pub no-operands : (rule : K) → pop_operands (length row.params) ys ≡ Err rule → citation P tables t st ≡ Err rule
          unfolding citation
          no-operands rule h = rw (there, enough, popped, h) refl

          module _ (es : List P.T) (rest : List (Item P.T)) (taken : pop_operands (length row.params) ys ≡ Ok (es, rest)) where
            unfit : (rule : K) → operands_fit (signatures_in tables) st.ctx (trees es) row.params ≡ Err rule → citation P tables t st ≡ Err rule
            unfolding citation
            unfit rule h = rw (there, enough, popped, taken, trees-are es, h) refl

            module _ (fit : operands_fit (signatures_in tables) st.ctx (trees es) row.params ≡ Ok tt) where
              not-apart : are_disjoint st.ctx (trees es) row.params ≡ false → citation P tables t st ≡ Err k.Disjoint
              unfolding citation
              not-apart h = rw (there, enough, popped, taken, trees-are es, fit, h) refl

              all-asked : are_disjoint st.ctx (trees es) row.params ≡ true → citation P tables t st ≡ Ok (record { mode = in_citation; stream = row.stream; operands = es; target = e; items = rest })
              unfolding citation
              all-asked h = rw (there, enough, popped, taken, trees-are es, fit, h) refl

  -- ---- with the rows before a statement

  module _ (b : Before) (t : ℕ) (st : State P.T) where
    pub cites-none : b.rows.thms ≤ t → citation P (tables_of b) t st ≡ Err k.TheoremIndex
    cites-none past = unknown (tables_of b) t st (no-thm-before b t past)

    module _ (xs : List (Item P.T)) (count n : ℕ) (high : length xs ≡ count) (below : t < b.rows.thms) (many : n ≡ length (thm_row b.file t).params) (is : st.stack ≡ xs) where
      as-many : length (binders_of (thm_row b.file t).params) ≡ n
      as-many = binders_many (thm_row b.file t).params ∙ sym many

      so-high : length st.stack ≡ count
      so-high = ap (λ (ys : List (Item P.T)). length ys) is ∙ high

      pub cites-few : count ≤ n → citation P (tables_of b) t st ≡ Err k.Underflow
      cites-few less =
          few (tables_of b) t st (thm_of_file b.file t) (thm-before b t below)
          (too-few (suc (length (binders_of (thm_row b.file t).params))) (length st.stack) (omega (arith, as-many, so-high, less)))

      module _ (more : n < count) where
        enough : nat_le (suc (length (binders_of (thm_row b.file t).params))) (length st.stack) ≡ true
        enough = le-leb (suc (length (binders_of (thm_row b.file t).params))) (length st.stack) (let e : suc (length (binders_of (thm_row b.file t).params)) ≤ length st.stack = omega (arith, as-many, so-high, more) in e)

        pub cites-other : (rule : K) → pop_expr xs ≡ Err rule → citation P (tables_of b) t st ≡ Err rule
        cites-other rule h = no-target (tables_of b) t st (thm_of_file b.file t) (thm-before b t below) enough rule (ap pop_expr is ∙ h)

        module _ (e : P.T) (ys : List (Item P.T)) (popped : pop_expr xs ≡ Ok (e, ys)) where
          pub cites-without : (rule : K) → pop_operands n ys ≡ Err rule → citation P (tables_of b) t st ≡ Err rule
          cites-without rule h =
              no-operands (tables_of b) t st (thm_of_file b.file t) (thm-before b t below) enough e ys (ap pop_expr is ∙ popped) rule (ap (λ m. pop_operands m ys) as-many ∙ h)

          module _ (es : List P.T) (rest : List (Item P.T)) (taken : pop_operands n ys ≡ Ok (es, rest)) (ctx : List Binder) (same : st.ctx ≡ ctx) where
            pub cites-unfit : (rule : K) → operands_fit (signatures_of b) ctx (trees es) (binders_of (thm_row b.file t).params) ≡ Err rule → citation P (tables_of b) t st ≡ Err rule
            cites-unfit rule h =
                unfit (tables_of b) t st (thm_of_file b.file t) (thm-before b t below) enough e ys (ap pop_expr is ∙ popped) es rest (ap (λ m. pop_operands m ys) as-many ∙ taken) rule
                (ap (λ bs. operands_fit (signatures_of b) bs (trees es) (binders_of (thm_row b.file t).params)) same ∙ h)

            module _ (fit : operands_fit (signatures_of b) ctx (trees es) (binders_of (thm_row b.file t).params) ≡ Ok tt) where
              pub cites-meeting : are_disjoint ctx (trees es) (binders_of (thm_row b.file t).params) ≡ false → citation P (tables_of b) t st ≡ Err k.Disjoint
              cites-meeting h =
                  not-apart (tables_of b) t st (thm_of_file b.file t) (thm-before b t below) enough e ys (ap pop_expr is ∙ popped) es rest (ap (λ m. pop_operands m ys) as-many ∙ taken)
                  (ap (λ bs. operands_fit (signatures_of b) bs (trees es) (binders_of (thm_row b.file t).params)) same ∙ fit)
                  (ap (λ bs. are_disjoint bs (trees es) (binders_of (thm_row b.file t).params)) same ∙ h)

              pub cites-so : are_disjoint ctx (trees es) (binders_of (thm_row b.file t).params) ≡ true
                  → citation P (tables_of b) t st ≡ Ok (record { mode = in_citation; stream = drop (thm_row b.file t).stream_at b.file; operands = es; target = e; items = rest })
              cites-so h =
                  all-asked (tables_of b) t st (thm_of_file b.file t) (thm-before b t below) enough e ys (ap pop_expr is ∙ popped) es rest (ap (λ m. pop_operands m ys) as-many ∙ taken)
                  (ap (λ bs. operands_fit (signatures_of b) bs (trees es) (binders_of (thm_row b.file t).params)) same ∙ fit)
                  (ap (λ bs. are_disjoint bs (trees es) (binders_of (thm_row b.file t).params)) same ∙ h)

-- ---- the rows

module _ (P : Profile) (tables : RowsBefore) (at t : ℕ) (st : State P.T) where
  module _ (rule : K) (stopped : citation P tables t st ≡ Err rule) where
    pub thm-stopped : proof_step P tables at code.Thm t st ≡ Err rule
    unfolding proof_step cited
    thm-stopped = rw stopped refl

    pub thm-save-stopped : proof_step P tables at code.ThmSave t st ≡ Err rule
    unfolding proof_step cited
    thm-save-stopped = rw stopped refl

  module _ (m : Matching P.T) (asked : citation P tables t st ≡ Ok m) where
    module _ (place : ℕ) (rule : K) (refused : unify P (signatures_in tables) st.ctx m ≡ Err (place, rule)) where
      pub thm-refused : proof_step P tables at code.Thm t st ≡ Err rule
      unfolding proof_step cited
      thm-refused = rw (asked, refused) refl

      pub thm-save-refused : proof_step P tables at code.ThmSave t st ≡ Err rule
      unfolding proof_step cited
      thm-save-refused = rw (asked, refused) refl

    module _ (u : UnifyState P.T) (done : unify P (signatures_in tables) st.ctx m ≡ Ok u) where
      pub thm-row : proof_step P tables at code.Thm t st ≡ Ok (record st { stack = proof m.target ∷ u.items })
      unfolding proof_step cited
      thm-row = rw (asked, done) refl

      pub thm-save-row : proof_step P tables at code.ThmSave t st ≡ Ok (record (record st { stack = proof m.target ∷ u.items }) { heap = st.heap ++ proof m.target ∷ [] })
      unfolding proof_step cited
      thm-save-row = rw (asked, done) refl

-- what is cited decides
module _ (P : Profile) (tables : RowsBefore) (t : ℕ) (st : State P.T) where
  pub cited-stopped : (rule : K) → citation P tables t st ≡ Err rule → cited P tables t st ≡ Err rule
  unfolding cited
  cited-stopped rule stopped = rw stopped refl

  module _ (m : Matching P.T) (asked : citation P tables t st ≡ Ok m) where
    pub cited-refused : (place : ℕ) (rule : K) → unify P (signatures_in tables) st.ctx m ≡ Err (place, rule) → cited P tables t st ≡ Err rule
    unfolding cited
    cited-refused place rule refused = rw (asked, refused) refl

    pub cited-row : (u : UnifyState P.T) → unify P (signatures_in tables) st.ctx m ≡ Ok u → cited P tables t st ≡ Ok (m.target, u.items)
    unfolding cited
    cited-row u done = rw (asked, done) refl

  module _ (at : ℕ) (r : Result (P.T × List (Item P.T)) K) (is : cited P tables t st ≡ r) where
    pub thm-of : proof_step P tables at code.Thm t st ≡ (r >>= λ e. Ok (push (proof e.0) e.1 st))
    unfolding proof_step
    thm-of = ap (λ (x : Result (P.T × List (Item P.T)) K). x >>= λ e. Ok (push (proof e.0) e.1 st)) is

    pub thm-save-of : proof_step P tables at code.ThmSave t st ≡ (r >>= λ e. Ok (saved (proof e.0) (push (proof e.0) e.1 st)))
    unfolding proof_step
    thm-save-of = ap (λ (x : Result (P.T × List (Item P.T)) K). x >>= λ e. Ok (saved (proof e.0) (push (proof e.0) e.1 st))) is

pub thm-stopped-steps : (P : Profile) (tables : RowsBefore) (t : ℕ) (st : State P.T) (rule : K) → citation P tables t st ≡ Err rule → row_steps P tables code.Thm t st ≡ 0
thm-stopped-steps P tables t st rule stopped = rw stopped refl

pub thm-steps : (P : Profile) (tables : RowsBefore) (t : ℕ) (st : State P.T) (m : Matching P.T) → citation P tables t st ≡ Ok m → row_steps P tables code.Thm t st ≡ unify_steps P (signatures_in tables) st.ctx m
thm-steps P tables t st m asked = rw asked refl

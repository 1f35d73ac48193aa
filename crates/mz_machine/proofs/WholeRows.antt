-- A command on the items that are written out, and on the whole stack for which they stand.
use Rattle.std.proofs.Common.{◌≡◌, ◌≤◌, ◌-◌, ℕ, suc, List, [], ◌∷◌, ◌++◌, length, drop, Option, Some, None, Result, Ok, Err, slice_get, refl, sym, ap, subst, ◌∙◌, arith, length-append}
use Rattle.std.specs.Prelude.{reverse}
use Rattle.std.proofs.lemmas.List.{append_cancel_right, length-take, take-append-drop}
use Rattle.mz_cmd.specs.declared.rule.K.{K}
use Rattle.mz_cmd.specs.declared.code.ProofCode.{ProofCode}
use Rattle.mz_cmd.specs.declared.code.ProofCode.TheVariants as code
use Rattle.mz_store.specs.declared.item.Id.{Id}
use Rattle.mz_machine_theory.specs.Profile.{Profile, Item}
use Rattle.mz_machine_theory.specs.MachineState.{RowsBefore, State, signatures_in}
use Rattle.mz_machine_theory.specs.ProofMachine.{proof_step, citation, unfolding_of, sides}
use Rattle.mz_machine_theory.specs.Bodies.{BodyCommand, ends, proves, match_steps, row_steps, fst_of}
use Rattle.mz_machine_env.specs.OneCommand.{row_in, steps_in}
use Rattle.mz_machine_theory.specs.UnifyMachine.{Matching}
use Rattle.mz_machine.specs.OpenEquations.{EndsBarred, IsBarred, asked_by, AsksNoMore, many_of_thm, Expressions, to_come, above, below, whole_stack, AreOpen, AreSettled, opened_on}
use Rattle.mz_machine.specs.declared.equations.Equation.{Equation}
use Rattle.mz_machine.proofs.Barred.{Above, still-barred}
use Rattle.mz_machine.proofs.UnifyBelow.{unify-steps-over}
use Rattle.mz_machine.proofs.BarredRows.{stacked, lay_state, IsBarredState, lay_match, IsHeldMatch, lay_unfolding, IsBarredUnfolding, on, HasMany, row-above, citation-above, unfolding-above, sides-over}
use Rattle.mz_machine.proofs.OpenStacks.{AreKept, above-is, below-is, below-many, all-kept, whole-kept, whole-long, sides-long, to-come-kept, open-kept}

-- what was opened stood on top
abbrev pub StoodOn : {T : Type 0} → Option (Id × Id) → List (Item T) → List (Item T) → Type 0
StoodOn None before now = Unit {0}
StoodOn {T} (Some e) before now = (o : Item T) × (before ≡ o ∷ now)

pub asks-within : (es : List Equation) (n m : ℕ) → n ≤ m → AsksNoMore es n m
asks-within [] n m le = tt
asks-within (e ∷ es) n m le = le

pub asks-empty : (es : List Equation) (n m : ℕ) → length es ≡ 0 → AsksNoMore es n m
asks-empty [] n m none = tt
asks-empty (e ∷ es) n m none = absurd (omega (arith, none))

pub asks-back : (es : List Equation) (n m : ℕ) → AsksNoMore es n m → AsksNoMore (reverse es) n m
asks-back [] n m asks = tt
asks-back (e ∷ es) n m asks = asks-within (reverse (e ∷ es)) n m asks

module _ (P : Profile) (tables : RowsBefore) (st : State P.T) where
  -- ---- what lies above a barrier

  module _ (x : Item P.T) (xs low high : List (Item P.T)) (barred : EndsBarred x xs) (longer : length low ≤ length high) where
    more-fit : (n : ℕ) → n ≤ length (x ∷ xs ++ low) → n ≤ length (x ∷ xs ++ high)
    more-fit n fits = omega (arith, fits, longer, length-append xs low, length-append xs high)

    -- an answer on the lower ones is the same on the higher ones
    abbrev Same : Result (State P.T) K → Result (State P.T) K → Type 0
    Same (Err d) r = r ≡ Err d
    Same (Ok s) r = (ys : List (Item P.T)) × (s.stack ≡ ys ++ low) × IsBarred ys × (r ≡ Ok (stacked s (ys ++ high)))

    same-row : (at : ℕ) (c : ProofCode) (n : ℕ) → asked_by tables c n ≤ length (x ∷ xs ++ low)
        → Same (proof_step P tables at c n (stacked st (x ∷ xs ++ low))) (proof_step P tables at c n (stacked st (x ∷ xs ++ high)))
    same-row at c n fits = go (row-above P tables st x xs barred at c n)
      where
        go : Above (HasMany P tables st x xs barred (asked_by tables c n)) lay_state IsBarredState (λ zs. proof_step P tables at c n (on P tables st x xs barred zs))
            → Same (proof_step P tables at c n (stacked st (x ∷ xs ++ low))) (proof_step P tables at c n (stacked st (x ∷ xs ++ high)))
        go (Ok s, good, is) = subst (λ (r : Result (State P.T) K). Same r (proof_step P tables at c n (stacked st (x ∷ xs ++ high)))) (sym (is low fits)) (s.stack, refl, good, is high (more-fit (asked_by tables c n) fits))
        go (Err d, good, is) = subst (λ (r : Result (State P.T) K). Same r (proof_step P tables at c n (stacked st (x ∷ xs ++ high)))) (sym (is low fits)) (is high (more-fit (asked_by tables c n) fits))

    same-citation : (n : ℕ) → many_of_thm (slice_get tables.thms n) ≤ length (x ∷ xs ++ low)
        → match_steps P tables st (citation P tables n (stacked st (x ∷ xs ++ high))) ≡ match_steps P tables st (citation P tables n (stacked st (x ∷ xs ++ low)))
    same-citation n fits = go (citation-above P tables st x xs barred n)
      where
        go : Above (HasMany P tables st x xs barred (many_of_thm (slice_get tables.thms n))) lay_match IsHeldMatch (λ zs. citation P tables n (on P tables st x xs barred zs))
            → match_steps P tables st (citation P tables n (stacked st (x ∷ xs ++ high))) ≡ match_steps P tables st (citation P tables n (stacked st (x ∷ xs ++ low)))
        go (Ok m, held, is) =
            ap (match_steps P tables st) (is high (more-fit (many_of_thm (slice_get tables.thms n)) fits))
            ∙ unify-steps-over P (signatures_in tables) st.ctx high m held.1 held.0
            ∙ sym (ap (match_steps P tables st) (is low fits) ∙ unify-steps-over P (signatures_in tables) st.ctx low m held.1 held.0)
        go (Err d, held, is) =
            ap (match_steps P tables st) (is high (more-fit (many_of_thm (slice_get tables.thms n)) fits)) ∙ sym (ap (match_steps P tables st) (is low fits))

    same-unfolding : match_steps P tables st (fst_of (unfolding_of P tables (stacked st (x ∷ xs ++ high)))) ≡ match_steps P tables st (fst_of (unfolding_of P tables (stacked st (x ∷ xs ++ low))))
    same-unfolding = go (unfolding-above P tables st x xs barred (λ zs. Unit {0}))
      where
        go : Above (λ zs. Unit {0}) lay_unfolding IsBarredUnfolding (λ zs. unfolding_of P tables (on P tables st x xs barred zs))
            → match_steps P tables st (fst_of (unfolding_of P tables (stacked st (x ∷ xs ++ high)))) ≡ match_steps P tables st (fst_of (unfolding_of P tables (stacked st (x ∷ xs ++ low))))
        go (Ok u, held, is) =
            ap (λ (r : Result (Matching P.T × P.T × List (Item P.T)) K). match_steps P tables st (fst_of r)) (is high tt) ∙ sym (ap (λ (r : Result (Matching P.T × P.T × List (Item P.T)) K). match_steps P tables st (fst_of r)) (is low tt))
        go (Err d, held, is) =
            ap (λ (r : Result (Matching P.T × P.T × List (Item P.T)) K). match_steps P tables st (fst_of r)) (is high tt) ∙ sym (ap (λ (r : Result (Matching P.T × P.T × List (Item P.T)) K). match_steps P tables st (fst_of r)) (is low tt))

    same-steps : (c : ProofCode) (n : ℕ) → asked_by tables c n ≤ length (x ∷ xs ++ low)
        → row_steps P tables c n (stacked st (x ∷ xs ++ high)) ≡ row_steps P tables c n (stacked st (x ∷ xs ++ low))
    same-steps code.Term n fits = refl
    same-steps code.TermSave n fits = refl
    same-steps code.Ref n fits = refl
    same-steps code.ConvRef n fits = refl
    same-steps code.Dummy n fits = refl
    same-steps code.Thm n fits = same-citation n fits
    same-steps code.ThmSave n fits = same-citation n fits
    same-steps code.Hyp n fits = refl
    same-steps code.Conv n fits = refl
    same-steps code.Refl n fits = refl
    same-steps code.Symm n fits = refl
    same-steps code.Cong n fits = refl
    same-steps code.Unfold n fits = same-unfolding
    same-steps code.ConvCut n fits = refl
    same-steps code.ConvSave n fits = refl
    same-steps code.Save n fits = refl
    same-steps code.Sorry n fits = refl

  -- ---- the whole stack

  -- the parts of a settled stack
  abbrev pub Parted : Equation → List (Item P.T) → Type 0
  Parted e xs = (x : Item P.T) × (up : List (Item P.T)) × EndsBarred x up × (above xs e.height ≡ x ∷ up) × (xs ≡ x ∷ up ++ below xs e.height)

  pub parted : (s : Expressions P.T) (e : Equation) (es : List Equation) (xs : List (Item P.T)) → AreSettled s (e ∷ es) xs → Parted e xs
  parted s e es xs ((is, le, barred, rest), less) = go (above xs e.height) refl
    where
      go : (up : List (Item P.T)) → above xs e.height ≡ up → Parted e xs
      go [] none = absurd (omega (arith, less, length-take (length xs - e.height) xs, ap (λ (ys : List (Item P.T)). length ys) none))
      go (x ∷ up) some = (x, up, subst IsBarred some barred, some, sym (take-append-drop (length xs - e.height) xs) ∙ ap (λ (ys : List (Item P.T)). ys ++ below xs e.height) some)

  module _ (s s' : Expressions P.T) (keeps : AreKept s s') where
    -- the whole stack behind a command that goes through
    abbrev pub WholeAfter : List Equation → List (Item P.T) → Result (State P.T) K → Result (State P.T) K → Type 0
    WholeAfter es xs (Err d) full = full ≡ Err d
    WholeAfter es xs (Ok q) full =
        (o : Option (Id × Id)) (ys : List (Item P.T)) → q.stack ≡ opened_on s' o ys → StoodOn o xs ys
        → AreOpen s' es ys × (full ≡ Ok (stacked q (opened_on s' o (whole_stack s' es ys))))

    module _ (e : Equation) (es : List Equation) (xs : List (Item P.T)) (settled : AreSettled s (e ∷ es) xs) where
      many-low : length (below xs e.height) ≡ e.height
      many-low = below-many xs e.height settled.0.1

      longer : length (below xs e.height) ≤ length (to_come s e (whole_stack s es (below xs e.height)))
      longer =
          let more : length (below xs e.height) ≤ length (whole_stack s es (below xs e.height)) = whole-long s es (below xs e.height) in
          let come = sides-long (drop e.next (s.operands e.left)) (drop e.next (s.operands e.right)) (whole_stack s es (below xs e.height)) in
          omega (arith, more, come)

      stand-over : (zs : List (Item P.T)) → IsBarred zs → AreOpen s' (e ∷ es) (zs ++ below xs e.height)
      stand-over zs barred = (
        open-kept s s' keeps e settled.0.0,
        omega (arith, many-low, length-append zs (below xs e.height)),
        subst IsBarred (sym (above-is zs (below xs e.height) e.height many-low)) barred,
        subst (AreOpen s' es) (sym (below-is zs (below xs e.height) e.height many-low)) (all-kept s s' keeps es (below xs e.height) settled.0.3),
      )

      whole-over : (zs : List (Item P.T)) → whole_stack s' (e ∷ es) (zs ++ below xs e.height) ≡ zs ++ to_come s e (whole_stack s es (below xs e.height))
      whole-over zs =
          ap (λ ys. ys ++ to_come s' e (whole_stack s' es (below (zs ++ below xs e.height) e.height))) (above-is zs (below xs e.height) e.height many-low)
          ∙ ap (λ ys. zs ++ to_come s' e (whole_stack s' es ys)) (below-is zs (below xs e.height) e.height many-low)
          ∙ ap (λ ys. zs ++ to_come s' e ys) (whole-kept s s' keeps es (below xs e.height) settled.0.3)
          ∙ ap (λ ys. zs ++ ys) (to-come-kept s s' keeps e settled.0.0 (whole_stack s es (below xs e.height)))

      module _ (x : Item P.T) (up : List (Item P.T)) (barred : EndsBarred x up) (top : above xs e.height ≡ x ∷ up) (all : xs ≡ x ∷ up ++ below xs e.height) where
        whole-is : whole_stack s (e ∷ es) xs ≡ x ∷ up ++ to_come s e (whole_stack s es (below xs e.height))
        whole-is = ap (λ ys. ys ++ to_come s e (whole_stack s es (below xs e.height))) top

        after-ok : (q : State P.T) (full : Result (State P.T) K) (zs : List (Item P.T)) → q.stack ≡ zs ++ below xs e.height → IsBarred zs
            → full ≡ Ok (stacked q (zs ++ to_come s e (whole_stack s es (below xs e.height)))) → (o : Option (Id × Id)) (ys : List (Item P.T)) → q.stack ≡ opened_on s' o ys → StoodOn o xs ys
            → AreOpen s' (e ∷ es) ys × (full ≡ Ok (stacked q (opened_on s' o (whole_stack s' (e ∷ es) ys))))
        after-ok q full zs left b is None ys now stood =
            let are : ys ≡ zs ++ below xs e.height = sym now ∙ left in (
              subst (AreOpen s' (e ∷ es)) (sym are) (stand-over zs b),
              is ∙ ap (λ ws. Ok (stacked q ws)) (sym (ap (whole_stack s' (e ∷ es)) are ∙ whole-over zs)),
            )
        after-ok q full zs left b is (Some p) ys now (o, before) =
            let both : o ∷ ys ≡ x ∷ up ++ below xs e.height = sym before ∙ all in
            let are : ys ≡ up ++ below xs e.height = ap (λ (ws : List (Item P.T)). drop 1 ws) both in
            let ls = s'.operands p.0 in
            let rs = s'.operands p.1 in
            let parts : sides ls rs up ++ below xs e.height ≡ zs ++ below xs e.height = sym (sides-over ls rs up (below xs e.height)) ∙ ap (λ ws. sides ls rs ws) (sym are) ∙ sym now ∙ left in
            let same : sides ls rs up ≡ zs = append_cancel_right (sides ls rs up) zs (below xs e.height) parts in (
              subst (AreOpen s' (e ∷ es)) (sym are) (stand-over up (still-barred x up barred)),
              is
                  ∙ ap (λ ws. Ok (stacked q ws))
                  (sym (ap (λ ws. sides ls rs ws) (ap (whole_stack s' (e ∷ es)) are ∙ whole-over up) ∙ sides-over ls rs up (to_come s e (whole_stack s es (below xs e.height)))
                  ∙ ap (λ ws. ws ++ to_come s e (whole_stack s es (below xs e.height))) same)),
            )

        after-same : (r full : Result (State P.T) K) → Same x up (below xs e.height) (to_come s e (whole_stack s es (below xs e.height))) barred longer r full → WholeAfter (e ∷ es) xs r full
        after-same (Err d) full is = is
        after-same (Ok q) full (zs, left, b, is) = λ o ys now stood. after-ok q full zs left b is o ys now stood

        whole-row : (at : ℕ) (c : ProofCode) (n : ℕ) → asked_by tables c n ≤ length xs
            → WholeAfter (e ∷ es) xs (proof_step P tables at c n (stacked st xs)) (proof_step P tables at c n (stacked st (whole_stack s (e ∷ es) xs)))
        whole-row at c n fits =
            let few : asked_by tables c n ≤ length (x ∷ up ++ below xs e.height) = subst (λ (ws : List (Item P.T)). asked_by tables c n ≤ length ws) all fits in
            let low-is = ap (λ (ws : List (Item P.T)). proof_step P tables at c n (stacked st ws)) all in
            let high-is = ap (λ (ws : List (Item P.T)). proof_step P tables at c n (stacked st ws)) whole-is in
            subst (λ (r : Result (State P.T) K). WholeAfter (e ∷ es) xs r (proof_step P tables at c n (stacked st (whole_stack s (e ∷ es) xs)))) (sym low-is)
            (subst (λ (r : Result (State P.T) K). WholeAfter (e ∷ es) xs (proof_step P tables at c n (stacked st (x ∷ up ++ below xs e.height))) r) (sym high-is)
            (after-same _ _ (same-row x up (below xs e.height) (to_come s e (whole_stack s es (below xs e.height))) barred longer at c n few)))

        whole-steps : (c : ProofCode) (n : ℕ) → asked_by tables c n ≤ length xs
            → row_steps P tables c n (stacked st (whole_stack s (e ∷ es) xs)) ≡ row_steps P tables c n (stacked st xs)
        whole-steps c n fits =
            let few : asked_by tables c n ≤ length (x ∷ up ++ below xs e.height) = subst (λ (ws : List (Item P.T)). asked_by tables c n ≤ length ws) all fits in
            ap (λ (ws : List (Item P.T)). row_steps P tables c n (stacked st ws)) whole-is
            ∙ same-steps x up (below xs e.height) (to_come s e (whole_stack s es (below xs e.height))) barred longer c n few
            ∙ sym (ap (λ (ws : List (Item P.T)). row_steps P tables c n (stacked st ws)) all)

    -- ---- a command of a body

    pub settled-row : (es : List Equation) (xs : List (Item P.T)) → AreSettled s es xs → (at : ℕ) (c : ProofCode) (n : ℕ) → AsksNoMore es (asked_by tables c n) (length xs)
        → WholeAfter es xs (proof_step P tables at c n (stacked st xs)) (proof_step P tables at c n (stacked st (whole_stack s es xs)))
    settled-row [] xs settled at c n fits = go (proof_step P tables at c n (stacked st xs))
      where
        go : (r : Result (State P.T) K) → WholeAfter [] xs r r
        go (Err d) = refl
        go (Ok q) = λ o ys now stood. (tt, ap (λ ws. Ok (stacked q ws)) now)
    settled-row (e ∷ es) xs settled at c n fits =
        let (x, up, barred, top, all) = parted s e es xs settled in
        whole-row e es xs settled x up barred top all at c n fits

    pub settled-steps : (es : List Equation) (xs : List (Item P.T)) → AreSettled s es xs → (c : ProofCode) (n : ℕ) → AsksNoMore es (asked_by tables c n) (length xs)
        → row_steps P tables c n (stacked st (whole_stack s es xs)) ≡ row_steps P tables c n (stacked st xs)
    settled-steps [] xs settled c n fits = refl
    settled-steps (e ∷ es) xs settled c n fits =
        let (x, up, barred, top, all) = parted s e es xs settled in
        whole-steps e es xs settled x up barred top all c n fits

    module _ (es : List Equation) (xs : List (Item P.T)) (settled : AreSettled s es xs) where
      pub whole-by : (at : ℕ) (u : Option BodyCommand) → ((c : ProofCode) (n : ℕ) → u ≡ Some (proves c n) → AsksNoMore es (asked_by tables c n) (length xs))
          → WholeAfter es xs (row_in P tables at (stacked st xs) u) (row_in P tables at (stacked st (whole_stack s es xs)) u)
      whole-by at None fits = refl
      whole-by at (Some ends) fits = refl
      whole-by at (Some (proves c n)) fits = settled-row es xs settled at c n (fits c n refl)

      pub steps-whole : (u : Option BodyCommand) → ((c : ProofCode) (n : ℕ) → u ≡ Some (proves c n) → AsksNoMore es (asked_by tables c n) (length xs))
          → steps_in P tables (stacked st (whole_stack s es xs)) u ≡ steps_in P tables (stacked st xs) u
      steps-whole None fits = refl
      steps-whole (Some ends) fits = refl
      steps-whole (Some (proves c n)) fits = ap suc (settled-steps es xs settled c n (fits c n refl))

-- What a gap gives where gaps are let through, and what a command gives whether they are or not.
use Rattle.std.proofs.Common.{◌≡◌, ℕ, suc, ◌+◌, arith, Bool, true, false, List, [], ◌∷◌, map, Some, None, Result, Ok, Err, refl, sym, ap, ◌∙◌, subst}
use Rattle.std.specs.Prelude.{slice_get, ◌==◌, ◌&&◌}
use Rattle.mz_cmd.specs.declared.rule.K.{K}
use Rattle.mz_cmd.specs.declared.rule.K.TheVariants as k
use Rattle.mz_cmd.specs.declared.code.ProofCode.{ProofCode}
use Rattle.mz_cmd.specs.declared.code.ProofCode.TheVariants as code
use Rattle.mz_logic_theory.specs.Tree.{Tree}
use Rattle.mz_logic_theory.specs.Sorts.{HasSort}
use Rattle.mz_logic_theory.proofs.Offered.{sort_is}
use Rattle.mz_machine_theory.specs.Profile.{plain, strict, draft, Item, expr, proof, obligation, conversion}
use Rattle.mz_machine_theory.specs.UnifyMachine.{Matching}
use Rattle.mz_machine_theory.proofs.Offered.{unify_steps-plain, citation-plain, unfolding-plain, row-plain, ends-plain, own-plain, command-plain}
use Rattle.mz_machine_theory.specs.MachineState.{RowsBefore, State, signatures_in, Kind, Heading}
use Rattle.mz_machine_theory.specs.Premises.{pop, is_provable_sort}
use Rattle.mz_machine_theory.specs.ProofMachine.{proof_step, citation, unfolding_of, ends_with}
use Rattle.mz_machine_theory.specs.Bodies.{proves, body_command, match_steps, fst_of, row_steps, body_start}
use Rattle.mz_machine.specs.Steps.{row_by, steps_by, is_sorry}
use Rattle.mz_machine_env.specs.Before.{Before, tables_of, signatures_of}
use Rattle.mz_machine.specs.OverStore.{with_stack, Gives, UnlessMem}
use Rattle.mz_unify.specs.declared.stop.Stop.{Stop}
use Rattle.mz_unify.specs.declared.stop.Stop.TheVariants.{Rule, Mem}

module _ (b : Before) (at n : ℕ) (st : State Tree) where
  pub gap-none : (d : K) → pop st.stack ≡ Err d → proof_step draft (tables_of b) at code.Sorry n st ≡ Err d
  unfolding proof_step
  gap-none d is = rw is refl

  module _ (xs : List (Item Tree)) where
    pub gap-proof : (e : Tree) → st.stack ≡ proof e ∷ xs → proof_step draft (tables_of b) at code.Sorry n st ≡ Err k.Kind
    unfolding proof_step
    gap-proof e is = rw is refl

    pub gap-conversion : (l r : Tree) → st.stack ≡ conversion l r ∷ xs → proof_step draft (tables_of b) at code.Sorry n st ≡ Err k.Kind
    unfolding proof_step
    gap-conversion l r is = rw is refl

    module _ (e : Tree) (s : ℕ) (is : st.stack ≡ expr e ∷ xs) (sorted : HasSort (signatures_of b) st.ctx e s) where
      pub gap-claim : is_provable_sort (slice_get (tables_of b).sorts s) ≡ true → proof_step draft (tables_of b) at code.Sorry n st ≡ Ok (with_stack st (proof e ∷ xs))
      unfolding proof_step
      gap-claim provable = rw (is, sort_is (signatures_of b) st.ctx e s sorted, provable) refl

      pub gap-other : is_provable_sort (slice_get (tables_of b).sorts s) ≡ false → proof_step draft (tables_of b) at code.Sorry n st ≡ Err k.NotProvable
      unfolding proof_step
      gap-other provable = rw (is, sort_is (signatures_of b) st.ctx e s sorted, provable) refl

    module _ (l r : Tree) (s t : ℕ) (is : st.stack ≡ obligation l r ∷ xs) (left : HasSort (signatures_of b) st.ctx l s) (right : HasSort (signatures_of b) st.ctx r t) where
      pub gap-sides : (s == t) ≡ true → proof_step draft (tables_of b) at code.Sorry n st ≡ Ok (with_stack st xs)
      unfolding proof_step
      gap-sides same = rw (is, sort_is (signatures_of b) st.ctx l s left, sort_is (signatures_of b) st.ctx r t right, same) refl

      pub gap-sorts : (s == t) ≡ false → proof_step draft (tables_of b) at code.Sorry n st ≡ Err k.Sorry
      unfolding proof_step
      gap-sorts same = rw (is, sort_is (signatures_of b) st.ctx l s left, sort_is (signatures_of b) st.ctx r t right, same) refl

-- ---- steps

module _ (gaps : Bool) (tables : RowsBefore) (st : State Tree) where
  pub match-plain : (r : Result (Matching Tree) K) → match_steps (plain gaps) tables st r ≡ match_steps strict tables st r
  match-plain (Err d) = refl
  match-plain (Ok m) = unify_steps-plain gaps (signatures_in tables) st.ctx m

  by-match : (r q : Result (Matching Tree) K) → r ≡ q → match_steps (plain gaps) tables st r ≡ match_steps strict tables st q
  by-match r q e = match-plain r ∙ ap (match_steps strict tables st) e

  pub steps-plain : (c : ProofCode) (n : ℕ) → row_steps (plain gaps) tables c n st ≡ row_steps strict tables c n st
  steps-plain code.Term n = refl
  steps-plain code.TermSave n = refl
  steps-plain code.Ref n = refl
  steps-plain code.ConvRef n = refl
  steps-plain code.Dummy n = refl
  steps-plain code.Thm n = by-match (citation (plain gaps) tables n st) (citation strict tables n st) (citation-plain gaps tables n st)
  steps-plain code.ThmSave n = by-match (citation (plain gaps) tables n st) (citation strict tables n st) (citation-plain gaps tables n st)
  steps-plain code.Hyp n = refl
  steps-plain code.Conv n = refl
  steps-plain code.Refl n = refl
  steps-plain code.Symm n = refl
  steps-plain code.Cong n = refl
  steps-plain code.Unfold n = by-match (fst_of (unfolding_of (plain gaps) tables st)) (fst_of (unfolding_of strict tables st)) (ap (λ r. fst_of r) (unfolding-plain gaps tables st))
  steps-plain code.ConvCut n = refl
  steps-plain code.ConvSave n = refl
  steps-plain code.Save n = refl
  steps-plain code.Sorry n = refl

  pub ends-steps : (h : Heading) → match_steps (plain gaps) tables st (ends_with (plain gaps) tables h st) ≡ match_steps strict tables st (ends_with strict tables h st)
  ends-steps h = by-match (ends_with (plain gaps) tables h st) (ends_with strict tables h st) (ends-plain gaps tables h st)

-- ---- before the first command

abbrev start_of : Heading → List Tree → State Tree
start_of h xs = record { ctx = h.params; heap = map expr xs; stack = []; hyps = [] }

pub start-plain : (gaps : Bool) (h : Heading) → body_start (plain gaps) h ≡ body_start strict h
start-plain gaps h = ap (start_of h) (own-plain gaps 0 h.params)

-- ---- a command of a body

sorry-is : (c : ProofCode) → is_sorry (Some c) ≡ true → c ≡ code.Sorry
sorry-is code.Term e = absurd cc
sorry-is code.TermSave e = absurd cc
sorry-is code.Ref e = absurd cc
sorry-is code.ConvRef e = absurd cc
sorry-is code.Dummy e = absurd cc
sorry-is code.Thm e = absurd cc
sorry-is code.ThmSave e = absurd cc
sorry-is code.Hyp e = absurd cc
sorry-is code.Conv e = absurd cc
sorry-is code.Refl e = absurd cc
sorry-is code.Symm e = absurd cc
sorry-is code.Cong e = absurd cc
sorry-is code.Unfold e = absurd cc
sorry-is code.ConvCut e = absurd cc
sorry-is code.ConvSave e = absurd cc
sorry-is code.Save e = absurd cc
sorry-is code.Sorry e = refl

-- it is the standard machine's where gaps aren't let through, or where it is no gap
by-table : (gaps : Bool) (tables : RowsBefore) (at : ℕ) (c : ProofCode) (n : ℕ) (st : State Tree) → (gaps && is_sorry (Some c)) ≡ false → proof_step (plain gaps) tables at c n st ≡ proof_step strict tables at c n st
by-table false tables at c n st no_ = refl
by-table true tables at c n st no_ = row-plain true tables at c n st (λ is. let bad : true ≡ false = ap (λ x. is_sorry (Some x)) (sym is) ∙ no_ in cc)

module _ (gaps : Bool) (tables : RowsBefore) (kind : Kind) (byte value : ℕ) (c : ProofCode) (here : body_command strict kind byte value ≡ Some (proves c value)) where
  pub stands-here : body_command (plain gaps) kind byte value ≡ Some (proves c value)
  stands-here = command-plain gaps kind byte value ∙ here

  pub its-row : (at : ℕ) (st : State Tree) → (gaps && is_sorry (Some c)) ≡ false → row_by gaps tables at st (body_command (plain gaps) kind byte value) ≡ proof_step strict tables at c value st
  its-row at st no_ = ap (row_by gaps tables at st) stands-here ∙ by-table gaps tables at c value st no_

  both : (a b : Bool) → (a && b) ≡ true → (a ≡ true) × (b ≡ true)
  both true b e = (refl, e)
  both false b e = absurd cc

  pub its-gap : (at : ℕ) (st : State Tree) → (gaps && is_sorry (Some c)) ≡ true → row_by gaps tables at st (body_command (plain gaps) kind byte value) ≡ proof_step draft tables at code.Sorry value st
  its-gap at st is =
      let (allowed, sorry) = both gaps (is_sorry (Some c)) is in
      ap (row_by gaps tables at st) stands-here ∙ ap (λ g. proof_step (plain g) tables at c value st) allowed ∙ ap (λ x. proof_step draft tables at x value st) (sorry-is c sorry)

  pub its-steps : (st : State Tree) → steps_by gaps tables st (body_command (plain gaps) kind byte value) ≡ suc (row_steps strict tables c value st)
  its-steps st = ap (steps_by gaps tables st) stands-here ∙ ap suc (steps-plain gaps tables st c value)

  pub gap-steps : (st : State Tree) → (gaps && is_sorry (Some c)) ≡ true → steps_by gaps tables st (body_command (plain gaps) kind byte value) ≡ 1
  gap-steps st is = its-steps st ∙ ap (λ x. suc (row_steps strict tables x value st)) (sorry-is c (both gaps (is_sorry (Some c)) is).1)

-- a byte that is no command of the body
module _ (gaps : Bool) (tables : RowsBefore) (kind : Kind) (byte value : ℕ) where
  pub none-here : (at : ℕ) (st : State Tree) → body_command strict kind byte value ≡ None → row_by gaps tables at st (body_command (plain gaps) kind byte value) ≡ Err k.Command
  none-here at st none = ap (row_by gaps tables at st) (command-plain gaps kind byte value ∙ none)

  pub none-counted : (st : State Tree) → body_command strict kind byte value ≡ None → steps_by gaps tables st (body_command (plain gaps) kind byte value) ≡ 1
  none-counted st none = ap (steps_by gaps tables st) (command-plain gaps kind byte value ∙ none)

-- ---- answers

pub rule-not-mem : (d : K) → Rule d ≡ Mem → ⊥
rule-not-mem d is = cc

pub gives-as : {A B : Type 0} (r q : Result B K) (result : Result A Stop) (value : A → B) → r ≡ q → Gives q result value → Gives r result value
gives-as r q result value e h = subst (λ x. Gives x result value) (sym e) h

-- a step more is counted
pub counts-as : {A : Type 0} (result : Result A Stop) (old ticked new n all : ℕ) → ticked ≡ old + 1 → all ≡ suc n → UnlessMem result (new ≡ ticked + n) → UnlessMem result (new ≡ old + all)
counts-as (Ok x) old ticked new n all one is h = omega (arith, one, is, h)
counts-as (Err (Rule d)) old ticked new n all one is h = omega (arith, one, is, h)
counts-as (Err Mem) old ticked new n all one is h = tt

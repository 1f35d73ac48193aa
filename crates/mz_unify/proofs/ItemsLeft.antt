-- What a run leaves of the items: nothing at an assertion's end, everything for a definition.
use Rattle.std.proofs.Common.{◌≡◌, ℕ, zero, suc, ◌+◌, Bool, true, false, List, [], ◌∷◌, drop, Option, Some, None, Result, Ok, Err, refl, sym, ap, ◌∙◌}
use Rattle.std.specs.Prelude.{◌&&◌, ◌==◌, if◌then◌else◌, slice_get}
use Rattle.mz_base.proofs.Offered.{both-true}
use Rattle.mz_cmd.specs.declared.rule.K.{K}
use Rattle.mz_cmd.specs.declared.rule.K.TheVariants as k
use Rattle.mz_cmd.specs.declared.command.Cmd.{Cmd}
use Rattle.mz_cmd.specs.declared.command.CmdFault.{CmdFault}
use Rattle.mz_cmd.specs.declared.code.UnifyCode.{UnifyCode}
use Rattle.mz_cmd.specs.declared.code.UnifyCode.TheVariants as codes
use Rattle.mz_cmd.specs.Codes.{unify_code}
use Rattle.mz_cmd.specs.Reading.{first_command}
use Rattle.mz_logic_theory.specs.Tree.{Tree}
use Rattle.mz_logic_theory.specs.Signature.{Signature}
use Rattle.mz_logic_theory.specs.declared.binder.Binder.{Binder}
use Rattle.mz_machine_theory.specs.Steps.{◌>>=◌, ◌>>◌, need, want, at_place, Turn, over, goes_on, follow}
use Rattle.mz_machine_theory.specs.Streams.{of_definition, UnifyCommand, u_term, u_term_save, u_ref, u_dummy, u_hyp, u_end, command_in, unify_command}
use Rattle.mz_machine_theory.specs.Profile.{strict, Item, tree_parts}
use Rattle.mz_machine_theory.specs.Tests.{same_tree}
use Rattle.mz_machine_theory.specs.UnifyMachine.{at_end, in_definition, kind_of, UnifyState, top_target, operands_of, is_fresh, is_empty, unify_step, unify_turn_by, unify_turn, unify_from}
use Rattle.mz_machine_theory.proofs.Offered.{from_need, taken-is}

module _ (sigs : List Signature) (ctx : List Binder) where
  abbrev turned : Turn (UnifyState Tree) → Result (Turn (UnifyState Tree)) K
  turned x = Ok x

  not-over : (len : ℕ) (s : UnifyState Tree) (r : Result (UnifyState Tree) K) → (r >>= λ x. turned (goes_on len x)) ≡ Ok (over s) → ⊥
  not-over len s (Ok x) e = cc
  not-over len s (Err f) e = cc

  is-over : (s : UnifyState Tree) (r : Result (UnifyState Tree) K) → (r >>= λ x. turned (over x)) ≡ Ok (over s) → r ≡ Ok s
  is-over s (Ok x) e = cc
  is-over s (Err f) e = absurd cc

  none-left : (items : List (Item Tree)) → is_empty items ≡ true → items ≡ []
  none-left [] e = refl
  none-left (x ∷ xs) e = absurd cc

  over-empty : (len : ℕ) (st s : UnifyState Tree) (u : Option UnifyCommand) → unify_turn_by strict sigs ctx at_end len st u ≡ Ok (over s) → s.items ≡ []
  unfolding unify_step
  over-empty len st s None e = absurd cc
  over-empty len st s (Some u_end) e =
      from_need (is_empty st.targets && is_empty st.items) k.UnifyRest _ s (is-over s (unify_step strict sigs ctx at_end u_end st) e) λ left is.
      let same : st ≡ s = taken-is st s is in
      ap (λ (z : UnifyState Tree). z.items) (sym same) ∙ none-left st.items (both-true (is_empty st.targets) (is_empty st.items) left).1
  over-empty len st s (Some u) e = absurd (not-over len s (unify_step strict sigs ctx at_end u st) e)

  turn-empty : (r : Result Cmd CmdFault) (st s : UnifyState Tree) → unify_turn strict sigs ctx at_end st r ≡ Ok (over s) → s.items ≡ []
  turn-empty (Err f) st s e = absurd cc
  turn-empty (Ok c) st s e = over-empty c.len st s (unify_command (kind_of at_end) c.code c.value) e

  -- at an assertion's end all items are taken
  pub ends-empty : (n at : ℕ) (bytes : List ℕ) (st u : UnifyState Tree) → unify_from strict sigs ctx at_end n at bytes st ≡ Ok u → u.items ≡ []
  unfolding unify_from
  ends-empty zero at bytes st u e = absurd cc
  ends-empty (suc n) at bytes st u e = go (unify_turn strict sigs ctx at_end st (first_command bytes)) refl e (λ len s h. ends-empty n (at + len) (drop len bytes) s u h)
    where
      go : (r : Result (Turn (UnifyState Tree)) K) → unify_turn strict sigs ctx at_end st (first_command bytes) ≡ r
          → follow (at_place at r) (λ len s. unify_from strict sigs ctx at_end n (at + len) (drop len bytes) s) ≡ Ok u
          → ((len : ℕ) (s : UnifyState Tree) → unify_from strict sigs ctx at_end n (at + len) (drop len bytes) s ≡ Ok u → u.items ≡ []) → u.items ≡ []
      go (Err f) turn h later = absurd cc
      go (Ok (over s)) turn h later = let same : s ≡ u = cc in ap (λ (z : UnifyState Tree). z.items) (sym same) ∙ turn-empty (first_command bytes) st s turn
      go (Ok (goes_on len s)) turn h later = later len s h

-- ---- a definition's stream takes no items

abbrev pub with_items : List (Item Tree) → UnifyState Tree → UnifyState Tree
with_items xs st = record st { items = xs }

abbrev pub put : {F : Type 0} → List (Item Tree) → Result (UnifyState Tree) F → Result (UnifyState Tree) F
put xs (Ok s) = Ok (with_items xs s)
put xs (Err f) = Err f

abbrev put_turn : List (Item Tree) → Result (Turn (UnifyState Tree)) K → Result (Turn (UnifyState Tree)) K
put_turn xs (Ok (over s)) = Ok (over (with_items xs s))
put_turn xs (Ok (goes_on len s)) = Ok (goes_on len (with_items xs s))
put_turn xs (Err f) = Err f

put-bind : {A : Type 0} (xs : List (Item Tree)) (r : Result A K) (f g : A → Result (UnifyState Tree) K) → ((x : A) → g x ≡ put xs (f x)) → (r >>= g) ≡ put xs (r >>= f)
put-bind xs (Ok x) f g same = same x
put-bind xs (Err k) f g same = refl

put-then : (xs : List (Item Tree)) (r : Result (Unit {0}) K) (a b : Result (UnifyState Tree) K) → b ≡ put xs a → (r >> b) ≡ put xs (r >> a)
put-then xs (Ok x) a b same = same
put-then xs (Err k) a b same = refl

module _ (sigs : List Signature) (ctx : List Binder) (xs : List (Item Tree)) where
  row-items : (u : UnifyCommand) (st : UnifyState Tree) → (u ≡ u_hyp → ⊥) → unify_step strict sigs ctx in_definition u (with_items xs st) ≡ put xs (unify_step strict sigs ctx in_definition u st)
  unfolding unify_step
  row-items (u_term t) st h = put-bind xs (top_target st.targets) _ _ λ top. put-bind xs (want (operands_of t (tree_parts top.0)) k.UnifyTerm) _ _ λ es. refl
  row-items (u_term_save t) st h = put-bind xs (top_target st.targets) _ _ λ top. put-bind xs (want (operands_of t (tree_parts top.0)) k.UnifyTerm) _ _ λ es. refl
  row-items (u_ref i) st h = put-bind xs (top_target st.targets) _ _ λ top. put-bind xs (want (slice_get st.heap i) k.UnifyReference) _ _ λ e. put-then xs (need (same_tree e top.0) k.UnifyReference) _ _ refl
  row-items (u_dummy s) st h = put-bind xs (top_target st.targets) _ _ λ top. put-then xs (need (is_fresh strict sigs ctx s top.0 st.apart) k.UnifyDummy) _ _ refl
  row-items u_hyp st h = absurd (h refl)
  row-items u_end st h = put-then xs (need (is_empty st.targets && true) k.UnifyRest) _ _ refl

  bind-over : (r : Result (UnifyState Tree) K) → (put xs r >>= λ s. Ok (over s)) ≡ put_turn xs (r >>= λ s. Ok (over s))
  bind-over (Ok s) = refl
  bind-over (Err f) = refl

  bind-on : (len : ℕ) (r : Result (UnifyState Tree) K) → (put xs r >>= λ s. Ok (goes_on len s)) ≡ put_turn xs (r >>= λ s. Ok (goes_on len s))
  bind-on len (Ok s) = refl
  bind-on len (Err f) = refl

  turn-by-items : (len : ℕ) (st : UnifyState Tree) (u : Option UnifyCommand) → (u ≡ Some u_hyp → ⊥) → unify_turn_by strict sigs ctx in_definition len (with_items xs st) u ≡ put_turn xs (unify_turn_by strict sigs ctx in_definition len st u)
  turn-by-items len st None h = refl
  turn-by-items len st (Some u_end) h = ap (λ r. r >>= λ s. Ok (over s)) (row-items u_end st (λ e. h (ap (λ u. Some u) e))) ∙ bind-over (unify_step strict sigs ctx in_definition u_end st)
  turn-by-items len st (Some u) h = ap (λ r. r >>= λ s. Ok (goes_on len s)) (row-items u st (λ e. h (ap (λ v. Some v) e))) ∙ bind-on len (unify_step strict sigs ctx in_definition u st)

  no-hyp : (value : ℕ) (o : Option UnifyCode) → command_in of_definition value o ≡ Some u_hyp → ⊥
  no-hyp value None e = cc
  no-hyp value (Some codes.Term) e = cc
  no-hyp value (Some codes.TermSave) e = cc
  no-hyp value (Some codes.Ref) e = cc
  no-hyp value (Some codes.Dummy) e = cc
  no-hyp value (Some codes.Hyp) e = cc

  no-hyp-command : (code value : ℕ) → unify_command of_definition code value ≡ Some u_hyp → ⊥
  no-hyp-command code value e = go (code == 0) e
    where
      go : (b : Bool) → (if b then Some u_end else command_in of_definition value (unify_code code)) ≡ Some u_hyp → ⊥
      go true h = cc
      go false h = no-hyp value (unify_code code) h

  turn-items : (st : UnifyState Tree) (r : Result Cmd CmdFault) → unify_turn strict sigs ctx in_definition (with_items xs st) r ≡ put_turn xs (unify_turn strict sigs ctx in_definition st r)
  turn-items st (Err f) = refl
  turn-items st (Ok c) = turn-by-items c.len st (unify_command (kind_of in_definition) c.code c.value) (no-hyp-command c.code c.value)

  follow-items : (at : ℕ) (r : Result (Turn (UnifyState Tree)) K) (f : ℕ → UnifyState Tree → Result (UnifyState Tree) (ℕ × K)) → ((len : ℕ) (s : UnifyState Tree) → f len (with_items xs s) ≡ put xs (f len s))
      → follow (at_place at (put_turn xs r)) f ≡ put xs (follow (at_place at r) f)
  follow-items at (Err k) f same = refl
  follow-items at (Ok (over s)) f same = refl
  follow-items at (Ok (goes_on len s)) f same = same len s

  pub run-items : (n at : ℕ) (bytes : List ℕ) (st : UnifyState Tree) → unify_from strict sigs ctx in_definition n at bytes (with_items xs st) ≡ put xs (unify_from strict sigs ctx in_definition n at bytes st)
  unfolding unify_from
  run-items zero at bytes st = refl
  run-items (suc n) at bytes st =
      ap (λ r. follow (at_place at r) (λ len s. unify_from strict sigs ctx in_definition n (at + len) (drop len bytes) s)) (turn-items st (first_command bytes))
      ∙ follow-items at (unify_turn strict sigs ctx in_definition st (first_command bytes)) (λ len s. unify_from strict sigs ctx in_definition n (at + len) (drop len bytes) s) (λ len s. run-items n (at + len) (drop len bytes) s)

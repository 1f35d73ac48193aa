-- A citation's stream takes hypotheses above a barrier alone: what lies below it is left, whatever it is.
use Rattle.std.proofs.Common.{◌≡◌, ℕ, zero, suc, ◌+◌, Bool, true, false, List, [], ◌∷◌, ◌++◌, drop, length, Option, Some, None, Result, Ok, Err, slice_get, refl, ap, ◌∙◌}
use Rattle.std.specs.Prelude.{⊤, ◌&&◌}
use Rattle.mz_cmd.specs.declared.rule.K.{K}
use Rattle.mz_cmd.specs.declared.rule.K.TheVariants as k
use Rattle.mz_cmd.specs.declared.command.Cmd.{Cmd}
use Rattle.mz_cmd.specs.declared.command.CmdFault.{CmdFault}
use Rattle.mz_cmd.specs.Reading.{first_command}
use Rattle.mz_logic_theory.specs.Signature.{Signature}
use Rattle.mz_logic_theory.specs.declared.binder.Binder.{Binder}
use Rattle.mz_machine_theory.specs.Steps.{◌>>=◌, ◌>>◌, need, want, at_place, Turn, over, goes_on, follow, goes_to}
use Rattle.mz_machine_theory.specs.Streams.{UnifyCommand, u_term, u_term_save, u_ref, u_dummy, u_hyp, u_end, unify_command}
use Rattle.mz_machine_theory.specs.Profile.{Profile, Item, expr, proof, obligation, conversion}
use Rattle.mz_machine_theory.specs.UnifyMachine.{in_citation, kind_of, Matching, UnifyState, top_target, is_empty, operands_of, is_fresh, next_hypothesis, unify_step, unify_turn_by, unify_turn, unify_from, at_start, unify, unify_steps_from, unify_steps}
use Rattle.mz_machine_theory.proofs.Offered.{if_read-same}
use Rattle.mz_machine.specs.OpenEquations.{EndsBarred}

-- there are items, of which the lowest is a barrier
abbrev pub IsHeld : {T : Type 0} → List (Item T) → Type 0
IsHeld [] = ⊥
IsHeld (x ∷ xs) = EndsBarred x xs

-- the same over items that lie below
abbrev pub over_items : {T : Type 0} → List (Item T) → UnifyState T → UnifyState T
over_items zs st = record st { items = st.items ++ zs }

abbrev pub matched_over : {T : Type 0} → List (Item T) → Matching T → Matching T
matched_over zs m = record m { items = m.items ++ zs }

abbrev pub laid_over : {T F : Type 0} → List (Item T) → Result (UnifyState T) F → Result (UnifyState T) F
laid_over zs (Ok st) = Ok (over_items zs st)
laid_over zs (Err f) = Err f

abbrev pub AreHeld : {T F : Type 0} → Result (UnifyState T) F → Type 0
AreHeld (Ok st) = IsHeld st.items
AreHeld (Err f) = ⊤

abbrev turn_over : {T : Type 0} → List (Item T) → Result (Turn (UnifyState T)) K → Result (Turn (UnifyState T)) K
turn_over zs (Err f) = Err f
turn_over zs (Ok (over st)) = Ok (over (over_items zs st))
turn_over zs (Ok (goes_on len st)) = Ok (goes_on len (over_items zs st))

abbrev TurnHeld : {T : Type 0} → Result (Turn (UnifyState T)) K → Type 0
TurnHeld (Err f) = ⊤
TurnHeld (Ok (over st)) = IsHeld st.items
TurnHeld (Ok (goes_on len st)) = IsHeld st.items

module _ (P : Profile) (sigs : List Signature) (ctx : List Binder) (zs : List (Item P.T)) where
  -- the first is the second over these items
  abbrev pub IsOver : {F : Type 0} → Result (UnifyState P.T) F → Result (UnifyState P.T) F → Type 0
  IsOver f g = (f ≡ laid_over zs g) × AreHeld g

  bind-over : {A : Type 0} (r : Result A K) (f g : A → Result (UnifyState P.T) K) → ((a : A) → IsOver (f a) (g a)) → IsOver (r >>= f) (r >>= g)
  bind-over (Ok a) f g h = h a
  bind-over (Err d) f g h = (refl, tt)

  need-over : (b : Bool) (d : K) (f g : Result (UnifyState P.T) K) → IsOver f g → IsOver (need b d >> f) (need b d >> g)
  need-over true d f g h = h
  need-over false d f g h = (refl, tt)

  hyp-over : (xs : List (Item P.T)) (f : P.T × List (Item P.T) → Result (UnifyState P.T) K) (g : P.T × List (Item P.T) → Result (UnifyState P.T) K) → IsHeld xs
      → ((e : P.T) (ys : List (Item P.T)) → IsHeld ys → IsOver (f (e, ys ++ zs)) (g (e, ys))) → IsOver (next_hypothesis in_citation (xs ++ zs) >>= f) (next_hypothesis in_citation xs >>= g)
  hyp-over [] f g held h = absurd held
  hyp-over (expr e ∷ xs) f g held h = (refl, tt)
  hyp-over (proof e ∷ []) f g held h = absurd held
  hyp-over (proof e ∷ y ∷ ys) f g held h = h e (y ∷ ys) held
  hyp-over (obligation l r ∷ xs) f g held h = (refl, tt)
  hyp-over (conversion l r ∷ xs) f g held h = (refl, tt)

  row-over : (c : UnifyCommand) (st : UnifyState P.T) → IsHeld st.items → IsOver (unify_step P sigs ctx in_citation c (over_items zs st)) (unify_step P sigs ctx in_citation c st)
  unfolding unify_step
  row-over (u_term t) st held = bind-over (top_target st.targets) _ _ λ top. bind-over (want (operands_of t (P.parts top.0)) k.UnifyTerm) _ _ λ es. (refl, held)
  row-over (u_term_save t) st held = bind-over (top_target st.targets) _ _ λ top. bind-over (want (operands_of t (P.parts top.0)) k.UnifyTerm) _ _ λ es. (refl, held)
  row-over (u_ref i) st held =
      bind-over (top_target st.targets) _ _ λ top. bind-over (want (slice_get st.heap i) k.UnifyReference) _ _ λ e. need-over (P.same e top.0) k.UnifyReference _ _ (refl, held)
  row-over (u_dummy s) st held = bind-over (top_target st.targets) _ _ λ top. need-over (is_fresh P sigs ctx s top.0 st.apart) k.UnifyDummy _ _ (refl, held)
  row-over u_hyp st held =
      need-over (is_empty st.targets) k.UnifyRest _ _
      (hyp-over st.items (λ next. Ok (record st { targets = next.0 ∷ []; items = next.1 })) (λ next. Ok (record st { targets = next.0 ∷ []; items = next.1 })) held λ e ys rest. (refl, rest))
  row-over u_end st held = need-over (is_empty st.targets && true) k.UnifyRest _ _ (refl, held)

  -- a turn
  abbrev IsTurnOver : Result (Turn (UnifyState P.T)) K → Result (Turn (UnifyState P.T)) K → Type 0
  IsTurnOver f g = (f ≡ turn_over zs g) × TurnHeld g

  ends-over : (f g : Result (UnifyState P.T) K) → IsOver f g → IsTurnOver (f >>= λ s. Ok (over s)) (g >>= λ s. Ok (over s))
  ends-over f (Ok s) h = (rw (h.0) refl, h.1)
  ends-over f (Err d) h = (rw (h.0) refl, tt)

  goes-over : (len : ℕ) (f g : Result (UnifyState P.T) K) → IsOver f g → IsTurnOver (f >>= λ s. Ok (goes_on len s)) (g >>= λ s. Ok (goes_on len s))
  goes-over len f (Ok s) h = (rw (h.0) refl, h.1)
  goes-over len f (Err d) h = (rw (h.0) refl, tt)

  by-over : (len : ℕ) (st : UnifyState P.T) (o : Option UnifyCommand) → IsHeld st.items → IsTurnOver (unify_turn_by P sigs ctx in_citation len (over_items zs st) o) (unify_turn_by P sigs ctx in_citation len st o)
  by-over len st None held = (refl, tt)
  by-over len st (Some u_end) held = ends-over _ _ (row-over u_end st held)
  by-over len st (Some u) held = goes-over len _ _ (row-over u st held)

  turn-is-over : (st : UnifyState P.T) (r : Result Cmd CmdFault) → IsHeld st.items → IsTurnOver (unify_turn P sigs ctx in_citation (over_items zs st) r) (unify_turn P sigs ctx in_citation st r)
  turn-is-over st (Err f) held = (refl, tt)
  turn-is-over st (Ok c) held = by-over c.len st (unify_command (kind_of in_citation) c.code c.value) held

  -- what follows it
  follow-over : (at : ℕ) (t s : Result (Turn (UnifyState P.T)) K) (rest : ℕ → UnifyState P.T → Result (UnifyState P.T) (ℕ × K)) → IsTurnOver t s
      → ((len : ℕ) (st : UnifyState P.T) → IsHeld st.items → IsOver (rest len (over_items zs st)) (rest len st)) → IsOver (follow (at_place at t) rest) (follow (at_place at s) rest)
  follow-over at t (Err d) rest h next = (ap (λ (z : Result (Turn (UnifyState P.T)) K). follow (at_place at z) rest) h.0, tt)
  follow-over at t (Ok (over st)) rest h next = (ap (λ (z : Result (Turn (UnifyState P.T)) K). follow (at_place at z) rest) h.0, h.1)
  follow-over at t (Ok (goes_on len st)) rest h next =
      let (is, held) = next len st h.1 in
      (ap (λ (z : Result (Turn (UnifyState P.T)) K). follow (at_place at z) rest) h.0 ∙ is, held)

  from-over : (n at : ℕ) (bytes : List ℕ) (st : UnifyState P.T) → IsHeld st.items → IsOver (unify_from P sigs ctx in_citation n at bytes (over_items zs st)) (unify_from P sigs ctx in_citation n at bytes st)
  unfolding unify_from
  from-over zero at bytes st held = (refl, tt)
  from-over (suc n) at bytes st held =
      follow-over at _ _ (λ len s. unify_from P sigs ctx in_citation n (at + len) (drop len bytes) s) (turn-is-over st (first_command bytes) held) λ len s rest. from-over n (at + len) (drop len bytes) s rest

  count-over : (t s : Result (Turn (UnifyState P.T)) K) (rest : ℕ → UnifyState P.T → ℕ) → IsTurnOver t s → ((len : ℕ) (st : UnifyState P.T) → IsHeld st.items → rest len (over_items zs st) ≡ rest len st)
      → goes_to t rest ≡ goes_to s rest
  count-over t (Err d) rest h next = ap (λ (z : Result (Turn (UnifyState P.T)) K). goes_to z rest) h.0
  count-over t (Ok (over st)) rest h next = ap (λ (z : Result (Turn (UnifyState P.T)) K). goes_to z rest) h.0
  count-over t (Ok (goes_on len st)) rest h next = ap (λ (z : Result (Turn (UnifyState P.T)) K). goes_to z rest) h.0 ∙ next len st h.1

  steps-over : (n : ℕ) (bytes : List ℕ) (st : UnifyState P.T) → IsHeld st.items → unify_steps_from P sigs ctx in_citation n bytes (over_items zs st) ≡ unify_steps_from P sigs ctx in_citation n bytes st
  unfolding unify_steps_from
  steps-over zero bytes st held = refl
  steps-over (suc n) bytes st held =
      if_read-same (first_command bytes) _ _ λ c read.
      ap suc (count-over _ _ (λ len s. unify_steps_from P sigs ctx in_citation n (drop len bytes) s) (turn-is-over st (Ok c) held) λ len s rest. steps-over n (drop len bytes) s rest)

  -- ---- whole streams

  module _ (m : Matching P.T) (cited : m.mode ≡ in_citation) (held : IsHeld m.items) where
    pub unify-over : IsOver (unify P sigs ctx (matched_over zs m)) (unify P sigs ctx m)
    unfolding unify
    unify-over = rw cited (from-over (length m.stream) 0 m.stream (at_start m) held)

    pub unify-steps-over : unify_steps P sigs ctx (matched_over zs m) ≡ unify_steps P sigs ctx m
    unify-steps-over = rw cited (steps-over (length m.stream) m.stream (at_start m) held)

-- A body's run doesn't end by its bound, and the commands that it executes are bounded.
use Rattle.std.proofs.Common.{◌≡◌, ℕ, zero, suc, ◌+◌, ◌*◌, ◌≤◌, List, [], ◌∷◌, length, drop, Option, Some, None, Result, Ok, Err, refl, sym, ap, subst, ◌∙◌, arith, suc-mul}
use Rattle.std.specs.Prelude.{slice_get, map, leb, ◌==◌}
use Rattle.mz_cmd.specs.declared.rule.K.{K}
use Rattle.mz_cmd.specs.declared.rule.K.TheVariants as k
use Rattle.mz_cmd.specs.declared.command.Cmd.{Cmd}
use Rattle.mz_cmd.specs.declared.command.CmdFault.{CmdFault}
use Rattle.mz_cmd.specs.declared.code.ProofCode.{ProofCode}
use Rattle.mz_cmd.specs.declared.code.ProofCode.TheVariants as code
use Rattle.mz_cmd.specs.Reading.{first_command}
use Rattle.mz_machine_theory.specs.Steps.{◌>>=◌, ◌>>◌, need, Turn, over, goes_on}
use Rattle.mz_machine_theory.specs.Profile.{Profile, Item}
use Rattle.mz_machine_theory.specs.Spells.{SpelledTerm}
use Rattle.mz_machine_theory.specs.UnifyMachine.{in_citation, at_end, in_definition, Matching, is_empty, at_start}
use Rattle.mz_machine_theory.proofs.Turning.{command-long, follow-same, goes_to-le, if_read-le, goes_to-same, if_read-same, drop-less}
use Rattle.mz_machine_theory.proofs.Inverting.{from_bind, from_then, from_want, taken-is}
use Rattle.mz_machine_theory.proofs.UnifyRuns.{steps-bounded}
use Rattle.mz_machine_theory.specs.MachineState.{RowsBefore, signatures_in, State, Kind, is_axiom, is_theorem, is_definition, Heading}
use Rattle.mz_machine_theory.specs.Bodies.{BodyCommand, ends, proves, fst_of, body_command, body_turn_by, body_turn, body_from, match_steps, row_steps, command_steps, body_steps_from}
use Rattle.mz_machine_theory.specs.ProofMachine.{proof_step, proof_end, citation, unfolding_of, stream_of, last_item, ending, own_stream, as_proofs, has_provable_sort, ends_with}
use Rattle.mz_machine_theory.specs.Premises.{pop_expr, pop_operands, pop_sides, operands_fit, are_disjoint}
use Rattle.mz_machine_theory.specs.FreeVars.{free_within}
use Rattle.mz_logic_theory.specs.Legality.{sort_of}
use Rattle.mz_machine_theory.specs.Laws.{StreamsWithin}

module _ (P : Profile) (tables : RowsBefore) (h : Heading) where
  abbrev turned : Turn (State P.T) → Result (Turn (State P.T)) K
  turned x = Ok x

  row-len : (len len' : ℕ) (s : State P.T) (r : Result (State P.T) K) → (r >>= λ x. turned (goes_on len x)) ≡ Ok (goes_on len' s) → len ≡ len'
  row-len len len' s (Ok x) e = cc
  row-len len len' s (Err f) e = absurd cc

  no-over : (len' : ℕ) (s : State P.T) (r : Result (State P.T) K) → (r >>= λ x. turned (over x)) ≡ Ok (goes_on len' s) → ⊥
  no-over len' s (Ok x) e = cc
  no-over len' s (Err f) e = cc

  by-len : (at len len' : ℕ) (rest : List ℕ) (st s : State P.T) (u : Option BodyCommand) → body_turn_by P tables h at len rest st u ≡ Ok (goes_on len' s) → len ≡ len'
  by-len at len len' rest st s None e = absurd cc
  by-len at len len' rest st s (Some ends) e = absurd (no-over len' s (need (is_empty rest) k.StatementLength >> proof_end P tables h st) e)
  by-len at len len' rest st s (Some (proves c value)) e = row-len len len' s (proof_step P tables at c value st) e

  turn-len : (at : ℕ) (bytes : List ℕ) (r : Result Cmd CmdFault) (st s : State P.T) (len : ℕ) → body_turn P tables h at bytes st r ≡ Ok (goes_on len s) → (c : Cmd) × (r ≡ Ok c) × (c.len ≡ len)
  turn-len at bytes (Err f) st s len e = absurd cc
  turn-len at bytes (Ok c) st s len e = (c, refl, by-len at c.len len (drop c.len bytes) st s (body_command P h.kind c.code c.value) e)

  pub went-on : (at : ℕ) (bytes : List ℕ) (st s : State P.T) (len : ℕ) → body_turn P tables h at bytes st (first_command bytes) ≡ Ok (goes_on len s) → (1 ≤ len) × (len ≤ length bytes)
  went-on at bytes st s len e =
      let (c, read, is) = turn-len at bytes (first_command bytes) st s len e in
      let (one, within) = command-long bytes c read in
      (omega arith, omega arith)

  both-bounds : (n m at : ℕ) (bytes : List ℕ) (st : State P.T) → length bytes ≤ n → length bytes ≤ m → body_from P tables h n at bytes st ≡ body_from P tables h m at bytes st
  unfolding body_from
  both-bounds zero zero at bytes st a b = refl
  both-bounds zero (suc m) at [] st a b = refl
  both-bounds zero (suc m) at (x ∷ bytes) st a b = absurd (omega arith)
  both-bounds (suc n) zero at [] st a b = refl
  both-bounds (suc n) zero at (x ∷ bytes) st a b = absurd (omega arith)
  both-bounds (suc n) (suc m) at bytes st a b =
      follow-same at (body_turn P tables h at bytes st (first_command bytes)) _ _ λ len s turn.
      both-bounds n m (at + len) (drop len bytes) s (drop-less bytes len n (went-on at bytes st s len turn).0 a) (drop-less bytes len m (went-on at bytes st s len turn).0 b)

  pub bound-never-ends : (n at : ℕ) (bytes : List ℕ) (st : State P.T) → length bytes ≤ n → body_from P tables h n at bytes st ≡ body_from P tables h (length bytes) at bytes st
  bound-never-ends n at bytes st le = both-bounds n (length bytes) at bytes st le (omega arith)

  -- ---- steps

  match-le : (st : State P.T) (n : ℕ) (r : Result (Matching P.T) K) → ((m : Matching P.T) → r ≡ Ok m → length m.stream ≤ n) → match_steps P tables st r ≤ n
  match-le st n (Err f) le = omega arith
  match-le st n (Ok m) le = omega (arith, steps-bounded P (signatures_in tables) st.ctx m.mode (length m.stream) m.stream (at_start m), le m refl)

  citation-stream : (n t : ℕ) (st : State P.T) → StreamsWithin tables h n → (m : Matching P.T) → citation P tables t st ≡ Ok m → length m.stream ≤ n
  unfolding citation
  citation-stream n t st within m e =
      from_want (slice_get tables.thms t) k.TheoremIndex _ m e λ row row-at e1.
      from_then (need (leb (suc (length row.params)) (length st.stack)) k.Underflow) _ m e1 λ _ _ e2.
      from_bind (pop_expr st.stack) _ m e2 λ x _ e3.
      from_bind (pop_operands (length row.params) x.1) _ m e3 λ es _ e4.
      from_then (operands_fit (signatures_in tables) st.ctx (map P.tree es.0) row.params) _ m e4 λ _ _ e5.
      from_then (need (are_disjoint st.ctx (map P.tree es.0) row.params) k.Disjoint) _ m e5 λ _ _ e6.
      let is : row.stream ≡ m.stream = ap (λ (z : Matching P.T). z.stream) (taken-is (record { mode = in_citation; stream = row.stream; operands = es.0; target = x.0; items = es.1 }) m e6) in
      subst (λ (z : List ℕ). length z ≤ n) is (within.of_thms t row row-at)

  stream-row : (o : Option SpelledTerm) (stream : List ℕ) → stream_of o ≡ Some stream → (row : SpelledTerm) × (o ≡ Some row) × (row.stream ≡ Some stream)
  stream-row None stream e = absurd cc
  stream-row (Some row) stream e = (row, refl, e)

  unfolding-stream : (n : ℕ) (st : State P.T) → StreamsWithin tables h n → (m : Matching P.T) → fst_of (unfolding_of P tables st) ≡ Ok m → length m.stream ≤ n
  unfolding unfolding_of
  unfolding-stream n st within m e =
      from_bind (unfolding_of P tables st) _ m e λ r un same.
      from_bind (pop_expr st.stack) _ r un λ x _ e1.
      from_bind (pop_sides P x.1) _ r e1 λ o _ e2.
      from_want (P.parts o.0) k.Unfold _ r e2 λ p _ e3.
      from_want (stream_of (slice_get tables.terms p.0)) k.Unfold _ r e3 λ stream stream-at e4.
      let made : Matching P.T × P.T × List (Item P.T) = (record { mode = in_definition; stream = stream; operands = p.1; target = x.0; items = [] }, o.1, o.2) in
      let is : stream ≡ m.stream = ap (λ (z : Matching P.T × P.T × List (Item P.T)). z.0.stream) (taken-is made r e4) ∙ ap (λ (z : Matching P.T). z.stream) (taken-is r.0 m same) in
      let (row, row-at, row-stream) = stream-row (slice_get tables.terms p.0) stream stream-at in
      subst (λ (z : List ℕ). length z ≤ n) is (within.of_terms p.0 row stream row-at row-stream)

  ending-stream : (st : State P.T) (kind : Kind) (e : P.T) (m : Matching P.T) → ending P tables h st kind e ≡ Ok m → h.stream ≡ m.stream
  ending-stream st is_axiom e m done =
      from_then (need (has_provable_sort P tables st.ctx e) k.NotProvable) _ m done λ _ _ d.
      ap (λ (z : Matching P.T). z.stream) (taken-is (own_stream P h at_end e (as_proofs st.hyps)) m d)
  ending-stream st is_theorem e m done = ap (λ (z : Matching P.T). z.stream) (taken-is (own_stream P h at_end e (as_proofs st.hyps)) m done)
  ending-stream st is_definition e m done =
      from_then (need (sort_of (signatures_in tables) st.ctx (P.tree e) == h.result.sort) k.DefinitionSort) _ m done λ _ _ d.
      from_then (need (free_within (signatures_in tables) st.ctx h.result.deps (P.tree e) (length st.ctx)) k.DefinitionDependencies) _ m d λ _ _ d2.
      ap (λ (z : Matching P.T). z.stream) (taken-is (own_stream P h in_definition e []) m d2)

  end-stream : (n : ℕ) (st : State P.T) → StreamsWithin tables h n → (m : Matching P.T) → ends_with P tables h st ≡ Ok m → length m.stream ≤ n
  unfolding ends_with
  end-stream n st within m e =
      from_bind (last_item h.kind st.stack) _ m e λ x _ e1.
      subst (λ (z : List ℕ). length z ≤ n) (ending-stream st h.kind x m e1) within.own

  row-le : (n : ℕ) → StreamsWithin tables h n → (c : ProofCode) (value : ℕ) (st : State P.T) → row_steps P tables c value st ≤ n
  row-le n within code.Thm value st = match-le st n (citation P tables value st) (citation-stream n value st within)
  row-le n within code.ThmSave value st = match-le st n (citation P tables value st) (citation-stream n value st within)
  row-le n within code.Unfold value st = match-le st n (fst_of (unfolding_of P tables st)) (unfolding-stream n st within)
  row-le n within c value st = omega arith

  command-le : (n : ℕ) → StreamsWithin tables h n → (rest : List ℕ) (st : State P.T) (u : Option BodyCommand) → command_steps P tables h rest st u ≤ n + 1
  command-le n within rest st None = omega arith
  command-le n within rest st (Some (proves c value)) = omega (arith, row-le n within c value st)
  command-le n within [] st (Some ends) = omega (arith, match-le st n (ends_with P tables h st) (end-stream n st within))
  command-le n within (b ∷ bs) st (Some ends) = omega arith

  one-more : (n m a b : ℕ) → a ≤ n + 1 → b ≤ m * (n + 1) → a + b ≤ suc m * (n + 1)
  one-more n m a b p q = omega (arith, suc-mul m (n + 1))

  pub steps-le : (n : ℕ) → StreamsWithin tables h n → (fuel m at : ℕ) (bytes : List ℕ) (st : State P.T) → length bytes ≤ m → body_steps_from P tables h fuel at bytes st ≤ m * (n + 1)
  unfolding body_steps_from
  steps-le n within zero m at bytes st le = omega arith
  steps-le n within (suc fuel) zero at bytes st le =
      if_read-le (first_command bytes) _ (0 * (n + 1)) λ c read. absurd (let (one, in-bytes) = command-long bytes c read in omega arith)
  steps-le n within (suc fuel) (suc m) at bytes st le =
      if_read-le (first_command bytes) _ (suc m * (n + 1)) λ c read.
      one-more n m _ _ (command-le n within (drop c.len bytes) st (body_command P h.kind c.code c.value))
      (goes_to-le (body_turn P tables h at bytes st (Ok c)) _ (m * (n + 1)) λ len s turn.
      steps-le n within fuel m (at + len) (drop len bytes) s
      (drop-less bytes len m (went-on at bytes st s len (subst (λ (r : Result Cmd CmdFault). body_turn P tables h at bytes st r ≡ Ok (goes_on len s)) (sym read) turn)).0 le))

  both-counts : (n m at : ℕ) (bytes : List ℕ) (st : State P.T) → length bytes ≤ n → length bytes ≤ m → body_steps_from P tables h n at bytes st ≡ body_steps_from P tables h m at bytes st
  unfolding body_steps_from
  both-counts zero zero at bytes st a b = refl
  both-counts zero (suc m) at [] st a b = refl
  both-counts zero (suc m) at (x ∷ bytes) st a b = absurd (omega arith)
  both-counts (suc n) zero at [] st a b = refl
  both-counts (suc n) zero at (x ∷ bytes) st a b = absurd (omega arith)
  both-counts (suc n) (suc m) at bytes st a b =
      if_read-same (first_command bytes) _ _ λ c read.
      ap (λ (z : ℕ). command_steps P tables h (drop c.len bytes) st (body_command P h.kind c.code c.value) + z)
      (goes_to-same (body_turn P tables h at bytes st (Ok c)) _ _ λ len s turn.
      let longer : 1 ≤ len = (went-on at bytes st s len (subst (λ (r : Result Cmd CmdFault). body_turn P tables h at bytes st r ≡ Ok (goes_on len s)) (sym read) turn)).0 in
      both-counts n m (at + len) (drop len bytes) s (drop-less bytes len n longer a) (drop-less bytes len m longer b))

  pub count-is-whole : (n at : ℕ) (bytes : List ℕ) (st : State P.T) → length bytes ≤ n → body_steps_from P tables h n at bytes st ≡ body_steps_from P tables h (length bytes) at bytes st
  count-is-whole n at bytes st le = both-counts n (length bytes) at bytes st le (omega arith)

-- A body that is underway, in any machine: the run from here is the whole run, and so is the count.
use Rattle.std.proofs.Common.{◌≡◌, ℕ, zero, suc, ◌+◌, ◌≤◌, ◌<◌, Bool, true, false, List, [], ◌∷◌, length, drop, Option, Some, None, Result, Ok, Err, refl, sym, ap, ◌∙◌, arith, nat_eq}
use Rattle.std.specs.Prelude.{if◌then◌else◌}
use Rattle.std.proofs.lemmas.Bool.{eqb-true}
use Rattle.std.proofs.lemmas.List.{drop-drop}
use Rattle.mz_base.proofs.Offered.{drop-past}
use Rattle.mz_cmd.specs.declared.rule.K.{K}
use Rattle.mz_cmd.specs.declared.rule.K.TheVariants as k
use Rattle.mz_cmd.specs.declared.command.Cmd.{Cmd}
use Rattle.mz_cmd.specs.declared.command.CmdFault.{CmdFault}
use Rattle.mz_cmd.specs.declared.code.ProofCode.{ProofCode}
use Rattle.mz_cmd.specs.Codes.{proof_code}
use Rattle.mz_cmd.specs.Reading.{first_command}
use Rattle.mz_machine_theory.specs.Steps.{◌>>=◌, Turn, over, goes_on, goes_to}
use Rattle.mz_machine_theory.specs.Profile.{Profile}
use Rattle.mz_machine_theory.specs.UnifyMachine.{is_empty}
use Rattle.mz_machine_theory.proofs.Offered.{command-long, drop-less, bound-never-ends, count-is-whole}
use Rattle.mz_machine_theory.specs.MachineState.{RowsBefore, State, Kind, Heading}
use Rattle.mz_machine_theory.specs.ProofMachine.{proof_end, ends_with}
use Rattle.mz_machine_theory.specs.Bodies.{BodyCommand, ends, proves, stands_in, if_allowed, body_command, body_turn_by, body_turn, body_from, match_steps, command_steps, body_steps_from}
use Rattle.mz_machine_env.specs.OneCommand.{row_in, steps_in}

plus-zero : (n : ℕ) → n ≡ n + 0
plus-zero n = omega arith

some-left : {A : Type 0} (xs : List A) (n : ℕ) → n < length xs → is_empty (drop n xs) ≡ false
some-left [] n h = absurd (omega (arith, h))
some-left (x ∷ xs) zero h = refl
some-left (x ∷ xs) (suc n) h = some-left xs n (omega (arith, h))

module _ (P : Profile) (tables : RowsBefore) (h : Heading) where
  abbrev ended : State P.T → Result (Turn (State P.T)) K
  ended s = Ok (over s)

  abbrev onward : ℕ → State P.T → Result (Turn (State P.T)) K
  onward len s = Ok (goes_on len s)

  -- the row of a command that is no END, and what it counts
  abbrev pub row_here : ℕ → State P.T → Cmd → Result (State P.T) K
  row_here at st c = row_in P tables at st (body_command P h.kind c.code c.value)

  abbrev pub steps_here : State P.T → Cmd → ℕ
  steps_here st c = steps_in P tables st (body_command P h.kind c.code c.value)

  -- what is left of a body, at a place of the file
  abbrev pub left_run : ℕ → List ℕ → State P.T → Result (State P.T) (ℕ × K)
  left_run at bytes st = body_from P tables h (length bytes) at bytes st

  abbrev pub left_steps : ℕ → List ℕ → State P.T → ℕ
  left_steps at bytes st = body_steps_from P tables h (length bytes) at bytes st

  -- ---- a command that isn't read

  cut-run : (at : ℕ) (bytes : List ℕ) (st : State P.T) (f : CmdFault) → first_command bytes ≡ Err f → left_run at bytes st ≡ Err (at, k.Command)
  unfolding body_from
  cut-run at [] st f e = refl
  cut-run at (x ∷ xs) st f e = rw e refl

  cut-steps : (at : ℕ) (bytes : List ℕ) (st : State P.T) (f : CmdFault) → first_command bytes ≡ Err f → left_steps at bytes st ≡ 0
  unfolding body_steps_from
  cut-steps at [] st f e = refl
  cut-steps at (x ∷ xs) st f e = rw e refl

  -- ---- END

  is-end : (c : Cmd) → c.code ≡ 0 → body_command P h.kind c.code c.value ≡ Some ends
  is-end c z = rw z refl

  module _ (at : ℕ) (c : Cmd) (st : State P.T) where
    long-run : (bytes : List ℕ) → first_command bytes ≡ Ok c → c.code ≡ 0 → is_empty (drop c.len bytes) ≡ false → left_run at bytes st ≡ Err (at, k.StatementLength)
    unfolding body_from
    long-run [] e z more = absurd cc
    long-run (x ∷ xs) e z more = rw (e, is-end c z, more) refl

    rest-steps : (rest : List ℕ) → is_empty rest ≡ false → command_steps P tables h rest st (Some ends) ≡ 0
    rest-steps [] more = absurd cc
    rest-steps (b ∷ bs) more = refl

    rest-none : (rest : List ℕ) → is_empty rest ≡ true → rest ≡ []
    rest-none [] is = refl
    rest-none (b ∷ bs) is = absurd cc

    long-steps : (bytes : List ℕ) → first_command bytes ≡ Ok c → c.code ≡ 0 → is_empty (drop c.len bytes) ≡ false → left_steps at bytes st ≡ 0
    unfolding body_steps_from
    long-steps [] e z more = absurd cc
    long-steps (x ∷ xs) e z more = rw (e, is-end c z, more, rest-steps (drop c.len (x ∷ xs)) more) refl

    end-run : (bytes : List ℕ) (last : State P.T) → first_command bytes ≡ Ok c → c.code ≡ 0 → is_empty (drop c.len bytes) ≡ true → proof_end P tables h st ≡ Ok last → left_run at bytes st ≡ Ok last
    unfolding body_from
    end-run [] last e z none done = absurd cc
    end-run (x ∷ xs) last e z none done = rw (e, is-end c z, none, done) refl

    end-stopped : (bytes : List ℕ) (d : K) → first_command bytes ≡ Ok c → c.code ≡ 0 → is_empty (drop c.len bytes) ≡ true → proof_end P tables h st ≡ Err d → left_run at bytes st ≡ Err (at, d)
    unfolding body_from
    end-stopped [] d e z none done = absurd cc
    end-stopped (x ∷ xs) d e z none done = rw (e, is-end c z, none, done) refl

    no-turn : (r : Result (State P.T) K) (f : ℕ → State P.T → ℕ) → goes_to (r >>= λ s. ended s) f ≡ 0
    no-turn (Ok s) f = refl
    no-turn (Err d) f = refl

    end-steps : (bytes : List ℕ) → first_command bytes ≡ Ok c → c.code ≡ 0 → is_empty (drop c.len bytes) ≡ true
        → left_steps at bytes st ≡ suc (match_steps P tables st (ends_with P tables h st))
    unfolding body_steps_from
    end-steps [] e z none = absurd cc
    end-steps (x ∷ xs) e z none =
        rw (e, is-end c z, rest-none (drop c.len (x ∷ xs)) none, no-turn (proof_end P tables h st) (λ len s. body_steps_from P tables h (length xs) (at + len) (drop len (x ∷ xs)) s)) (omega arith)

  -- ---- another command

  not-ends : (kind : Kind) (value : ℕ) (o : Option ProofCode) → if_allowed P kind value o ≡ Some ends → ⊥
  not-ends kind value None e = cc
  not-ends kind value (Some c) e = go (stands_in P kind c) e
    where
      go : (b : Bool) → (if b then Some (proves c value) else None) ≡ Some ends → ⊥
      go true e = cc
      go false e = cc

  no-end : (c : Cmd) → (c.code ≡ 0 → ⊥) → body_command P h.kind c.code c.value ≡ Some ends → ⊥
  no-end c other = go (nat_eq c.code 0) refl
    where
      go : (b : Bool) → nat_eq c.code 0 ≡ b → (if b then Some ends else if_allowed P h.kind c.value (proof_code c.code)) ≡ Some ends → ⊥
      go true is e = other (eqb-true _ _ is)
      go false is e = not-ends h.kind c.value (proof_code c.code) e

  by-row : (at len : ℕ) (rest : List ℕ) (st : State P.T) (u : Option BodyCommand) → (u ≡ Some ends → ⊥)
      → body_turn_by P tables h at len rest st u ≡ (row_in P tables at st u >>= λ s. onward len s)
  by-row at len rest st None other = refl
  by-row at len rest st (Some ends) other = absurd (other refl)
  by-row at len rest st (Some (proves c value)) other = refl

  by-steps : (rest : List ℕ) (st : State P.T) (u : Option BodyCommand) → (u ≡ Some ends → ⊥) → command_steps P tables h rest st u ≡ steps_in P tables st u
  by-steps rest st None other = refl
  by-steps rest st (Some ends) other = absurd (other refl)
  by-steps rest st (Some (proves c value)) other = refl

  module _ (at : ℕ) (c : Cmd) (st : State P.T) (other : c.code ≡ 0 → ⊥) where
    turned : (bytes : List ℕ) → body_turn P tables h at bytes st (Ok c) ≡ (row_here at st c >>= λ s. onward c.len s)
    turned bytes = by-row at c.len (drop c.len bytes) st (body_command P h.kind c.code c.value) (no-end c other)

    counted : (bytes : List ℕ) → command_steps P tables h (drop c.len bytes) st (body_command P h.kind c.code c.value) ≡ steps_here st c
    counted bytes = by-steps (drop c.len bytes) st (body_command P h.kind c.code c.value) (no-end c other)

    stopped-run : (bytes : List ℕ) (d : K) → first_command bytes ≡ Ok c → row_here at st c ≡ Err d → left_run at bytes st ≡ Err (at, d)
    unfolding body_from
    stopped-run [] d e row = absurd cc
    stopped-run (x ∷ xs) d e row = rw (e, turned (x ∷ xs), row) refl

    stopped-steps : (bytes : List ℕ) (d : K) → first_command bytes ≡ Ok c → row_here at st c ≡ Err d → left_steps at bytes st ≡ steps_here st c
    unfolding body_steps_from
    stopped-steps [] d e row = absurd cc
    stopped-steps (x ∷ xs) d e row = rw (e, turned (x ∷ xs), row, counted (x ∷ xs)) (omega arith)

    went-run : (bytes : List ℕ) (s : State P.T) → first_command bytes ≡ Ok c → row_here at st c ≡ Ok s → left_run at bytes st ≡ left_run (at + c.len) (drop c.len bytes) s
    unfolding body_from
    went-run [] s e row = absurd cc
    went-run (x ∷ xs) s e row =
        let (one, within) = command-long (x ∷ xs) c e in
        rw (e, turned (x ∷ xs), row) (bound-never-ends P tables h (length xs) (at + c.len) (drop c.len (x ∷ xs)) s (drop-less (x ∷ xs) c.len (length xs) one (omega arith)))

    went-steps : (bytes : List ℕ) (s : State P.T) → first_command bytes ≡ Ok c → row_here at st c ≡ Ok s
        → left_steps at bytes st ≡ steps_here st c + left_steps (at + c.len) (drop c.len bytes) s
    unfolding body_steps_from
    went-steps [] s e row = absurd cc
    went-steps (x ∷ xs) s e row =
        let (one, within) = command-long (x ∷ xs) c e in
        rw (e, turned (x ∷ xs), row, counted (x ∷ xs)) (ap (λ n. steps_here st c + n) (count-is-whole P tables h (length xs) (at + c.len) (drop c.len (x ∷ xs)) s (drop-less (x ∷ xs) c.len (length xs) one (omega arith))))

-- ---- underway

-- after so many bytes of a body, which stands at a place, the state is st and so many steps are counted
pub record IsUnderway (P : Profile) (tables : RowsBefore) (h : Heading) (base : ℕ) (bytes : List ℕ) (start : State P.T) (first at : ℕ) (st : State P.T) (steps : ℕ) : Type 0 where
  pub run : left_run P tables h base bytes start ≡ left_run P tables h (base + at) (drop at bytes) st
  pub count : steps + left_steps P tables h (base + at) (drop at bytes) st ≡ first + left_steps P tables h base bytes start

pub at-first : (P : Profile) (tables : RowsBefore) (h : Heading) (base : ℕ) (bytes : List ℕ) (start : State P.T) (first : ℕ) → IsUnderway P tables h base bytes start first 0 start first
at-first P tables h base bytes start first = record {
  run = ap (λ n. left_run P tables h n bytes start) (plus-zero base);
  count = ap (λ n. first + left_steps P tables h n bytes start) (sym (plus-zero base));
}

module _ {P : Profile} {tables : RowsBefore} {h : Heading} {base : ℕ} {bytes : List ℕ} {start : State P.T} {first at : ℕ} {st : State P.T} {steps : ℕ} (on : IsUnderway P tables h base bytes start first at st steps) where
  abbrev pub whole : Result (State P.T) (ℕ × K)
  whole = left_run P tables h base bytes start

  abbrev pub many : ℕ
  many = left_steps P tables h base bytes start

  pub cut-whole : (f : CmdFault) → first_command (drop at bytes) ≡ Err f → (whole ≡ Err (base + at, k.Command)) × (steps ≡ first + many)
  cut-whole f e =
      (on.run ∙ cut-run P tables h (base + at) (drop at bytes) st f e, let none = cut-steps P tables h (base + at) (drop at bytes) st f e in let all = on.count in omega (arith, none, all))

  module _ (c : Cmd) (e : first_command (drop at bytes) ≡ Ok c) where
    pub long-whole : c.code ≡ 0 → is_empty (drop c.len (drop at bytes)) ≡ false → (whole ≡ Err (base + at, k.StatementLength)) × (steps ≡ first + many)
    long-whole z more =
        (on.run ∙ long-run P tables h (base + at) c st (drop at bytes) e z more, let none = long-steps P tables h (base + at) c st (drop at bytes) e z more in let all = on.count in omega (arith, none, all))

    pub end-whole : (last : State P.T) → c.code ≡ 0 → is_empty (drop c.len (drop at bytes)) ≡ true → proof_end P tables h st ≡ Ok last → whole ≡ Ok last
    end-whole last z none done = on.run ∙ end-run P tables h (base + at) c st (drop at bytes) last e z none done

    pub end-refused : (d : K) → c.code ≡ 0 → is_empty (drop c.len (drop at bytes)) ≡ true → proof_end P tables h st ≡ Err d → whole ≡ Err (base + at, d)
    end-refused d z none done = on.run ∙ end-stopped P tables h (base + at) c st (drop at bytes) d e z none done

    pub end-many : (later : ℕ) → c.code ≡ 0 → is_empty (drop c.len (drop at bytes)) ≡ true → later ≡ steps + suc (match_steps P tables st (ends_with P tables h st)) → later ≡ first + many
    end-many later z none is = let one = end-steps P tables h (base + at) c st (drop at bytes) e z none in let all = on.count in omega (arith, one, all, is)

    module _ (other : c.code ≡ 0 → ⊥) where
      pub refused-whole : (d : K) → row_here P tables h (base + at) st c ≡ Err d → whole ≡ Err (base + at, d)
      refused-whole d row = on.run ∙ stopped-run P tables h (base + at) c st other (drop at bytes) d e row

      pub refused-many : (d : K) (later : ℕ) → row_here P tables h (base + at) st c ≡ Err d → later ≡ steps + steps_here P tables h st c → later ≡ first + many
      refused-many d later row is = let one = stopped-steps P tables h (base + at) c st other (drop at bytes) d e row in let all = on.count in omega (arith, one, all, is)

      pub goes-on : (s : State P.T) (later : ℕ) → row_here P tables h (base + at) st c ≡ Ok s → later ≡ steps + steps_here P tables h st c → IsUnderway P tables h base bytes start first (at + c.len) s later
      goes-on s later row is =
          let run = went-run P tables h (base + at) c st other (drop at bytes) s e row in
          let count = went-steps P tables h (base + at) c st other (drop at bytes) s e row in
          let there : drop c.len (drop at bytes) ≡ drop (at + c.len) bytes = drop-drop c.len at bytes in
          let place : base + at + c.len ≡ base + (at + c.len) = omega arith in
          let same : left_steps P tables h (base + at + c.len) (drop c.len (drop at bytes)) s ≡ left_steps P tables h (base + (at + c.len)) (drop (at + c.len) bytes) s = rw (there, place) refl in
          let all = on.count in
          record {
            run = on.run ∙ (run ∙ rw (there, place) refl);
            count = omega (arith, count, all, is, same);
          }

-- ---- reading in place

pub ends-there : (bytes : List ℕ) (at len : ℕ) → length bytes ≡ at + len → is_empty (drop len (drop at bytes)) ≡ true
ends-there bytes at len is = ap is_empty (drop-drop len at bytes ∙ drop-past bytes (at + len) (omega (arith, is)))

pub goes-further : (bytes : List ℕ) (at len : ℕ) → (length bytes ≡ at + len → ⊥) → at + len ≤ length bytes → is_empty (drop len (drop at bytes)) ≡ false
goes-further bytes at len more le = ap is_empty (drop-drop len at bytes) ∙ some-left bytes (at + len) (omega (arith, le, more))

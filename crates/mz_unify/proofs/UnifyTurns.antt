-- A run and its count of steps, one command at a time, in any machine.
use Rattle.std.proofs.Common.{◌≡◌, ℕ, suc, ◌+◌, ◌≤◌, List, [], ◌∷◌, length, drop, Some, None, Result, Ok, Err, refl, sym, ap, subst, ◌∙◌, arith}
use Rattle.mz_cmd.specs.declared.rule.K.{K}
use Rattle.mz_cmd.specs.declared.rule.K.TheVariants as k
use Rattle.mz_cmd.specs.declared.command.Cmd.{Cmd}
use Rattle.mz_cmd.specs.declared.command.CmdFault.{CmdFault}
use Rattle.mz_cmd.specs.Reading.{first_command}
use Rattle.mz_logic_theory.specs.Signature.{Signature}
use Rattle.mz_logic_theory.specs.declared.binder.Binder.{Binder}
use Rattle.mz_machine_theory.specs.Steps.{at_place, over, goes_on, follow, goes_to, if_read}
use Rattle.mz_machine_theory.specs.Streams.{UnifyCommand, u_end, IsEnd, unify_command}
use Rattle.mz_machine_theory.specs.Profile.{Profile}
use Rattle.mz_machine_theory.specs.UnifyMachine.{UnifyMode, kind_of, UnifyState, unify_step, unify_turn_by, unify_turn, unify_from, unify_steps_from}
use Rattle.mz_machine_theory.proofs.Offered.{follow-same, goes_to-same, if_read-same, drop-less, went-on, stream-bound-never-ends, stream-count-is-whole}

module _ (P : Profile) (sigs : List Signature) (ctx : List Binder) (mode : UnifyMode) where
  -- what is left of a run, and of its count
  abbrev pub run_left : ℕ → List ℕ → UnifyState P.T → Result (UnifyState P.T) (ℕ × K)
  run_left at bytes st = unify_from P sigs ctx mode (length bytes) at bytes st

  abbrev pub count_left : List ℕ → UnifyState P.T → ℕ
  count_left bytes st = unify_steps_from P sigs ctx mode (length bytes) bytes st

  one-turn : (at : ℕ) (bytes : List ℕ) (st : UnifyState P.T) → run_left at bytes st ≡ follow (at_place at (unify_turn P sigs ctx mode st (first_command bytes))) (λ len s. run_left (at + len) (drop len bytes) s)
  unfolding unify_from
  one-turn at [] st = refl
  one-turn at (x ∷ xs) st =
      follow-same at (unify_turn P sigs ctx mode st (first_command (x ∷ xs))) _ _ λ len s turn.
      stream-bound-never-ends P sigs ctx mode (length xs) (at + len) (drop len (x ∷ xs)) s (drop-less (x ∷ xs) len (length xs) (went-on P sigs ctx mode (x ∷ xs) st s len turn).0 (omega arith))

  one-count : (bytes : List ℕ) (st : UnifyState P.T) → count_left bytes st ≡ if_read (first_command bytes) (λ c. suc (goes_to (unify_turn P sigs ctx mode st (Ok c)) (λ len s. count_left (drop len bytes) s)))
  unfolding unify_steps_from
  one-count [] st = refl
  one-count (x ∷ xs) st =
      if_read-same (first_command (x ∷ xs)) _ _ λ c read.
      ap suc (goes_to-same (unify_turn P sigs ctx mode st (Ok c)) _ _ λ len s turn.
      let longer : 1 ≤ len = (went-on P sigs ctx mode (x ∷ xs) st s len (subst (λ (r : Result Cmd CmdFault). unify_turn P sigs ctx mode st r ≡ Ok (goes_on len s)) (sym read) turn)).0 in
      stream-count-is-whole P sigs ctx mode (length xs) (drop len (x ∷ xs)) s (drop-less (x ∷ xs) len (length xs) longer (omega arith)))

  -- ---- a command that isn't whole, or unknown

  pub cut-run : (at : ℕ) (bytes : List ℕ) (st : UnifyState P.T) (f : CmdFault) → first_command bytes ≡ Err f → run_left at bytes st ≡ Err (at, k.Command)
  cut-run at bytes st f read = one-turn at bytes st ∙ rw read refl

  pub cut-count : (bytes : List ℕ) (st : UnifyState P.T) (f : CmdFault) → first_command bytes ≡ Err f → count_left bytes st ≡ 0
  cut-count bytes st f read = one-count bytes st ∙ rw read refl

  module _ (bytes : List ℕ) (st : UnifyState P.T) (c : Cmd) (read : first_command bytes ≡ Ok c) where
    -- ---- one of another stream

    pub other-run : (at : ℕ) → unify_command (kind_of mode) c.code c.value ≡ None → run_left at bytes st ≡ Err (at, k.Command)
    other-run at is = one-turn at bytes st ∙ rw (read, is) refl

    pub other-count : unify_command (kind_of mode) c.code c.value ≡ None → count_left bytes st ≡ 1
    other-count is = one-count bytes st ∙ rw (read, is) refl

    module _ (u : UnifyCommand) (is : unify_command (kind_of mode) c.code c.value ≡ Some u) where
      turn-stops : (rule : K) → unify_step P sigs ctx mode u st ≡ Err rule → unify_turn_by P sigs ctx mode c.len st (Some u) ≡ Err rule
      turn-stops rule row = go u row
        where
          go : (v : UnifyCommand) → unify_step P sigs ctx mode v st ≡ Err rule → unify_turn_by P sigs ctx mode c.len st (Some v) ≡ Err rule
          go u_end e = rw e refl
          go v e = rw e refl

      turn-over : (s : UnifyState P.T) → IsEnd u → unify_step P sigs ctx mode u st ≡ Ok s → unify_turn_by P sigs ctx mode c.len st (Some u) ≡ Ok (over s)
      turn-over s end row = go u end row
        where
          go : (v : UnifyCommand) → IsEnd v → unify_step P sigs ctx mode v st ≡ Ok s → unify_turn_by P sigs ctx mode c.len st (Some v) ≡ Ok (over s)
          go u_end tt e = rw e refl
          go v none e = absurd none

      turn-on : (s : UnifyState P.T) → (IsEnd u → ⊥) → unify_step P sigs ctx mode u st ≡ Ok s → unify_turn_by P sigs ctx mode c.len st (Some u) ≡ Ok (goes_on c.len s)
      turn-on s no-end row = go u no-end row
        where
          go : (v : UnifyCommand) → (IsEnd v → ⊥) → unify_step P sigs ctx mode v st ≡ Ok s → unify_turn_by P sigs ctx mode c.len st (Some v) ≡ Ok (goes_on c.len s)
          go u_end none e = absurd (none tt)
          go v none e = rw e refl

      -- ---- a rule stops it

      pub stopped-run : (at : ℕ) (rule : K) → unify_step P sigs ctx mode u st ≡ Err rule → run_left at bytes st ≡ Err (at, rule)
      stopped-run at rule row = one-turn at bytes st ∙ rw (read, is, turn-stops rule row) refl

      pub stopped-count : (rule : K) → unify_step P sigs ctx mode u st ≡ Err rule → count_left bytes st ≡ 1
      stopped-count rule row = one-count bytes st ∙ rw (read, is, turn-stops rule row) refl

      -- ---- the end

      pub ended-run : (at : ℕ) (s : UnifyState P.T) → IsEnd u → unify_step P sigs ctx mode u st ≡ Ok s → run_left at bytes st ≡ Ok s
      ended-run at s end row = one-turn at bytes st ∙ rw (read, is, turn-over s end row) refl

      pub ended-count : (s : UnifyState P.T) → IsEnd u → unify_step P sigs ctx mode u st ≡ Ok s → count_left bytes st ≡ 1
      ended-count s end row = one-count bytes st ∙ rw (read, is, turn-over s end row) refl

      -- ---- it goes on

      pub went-run : (at : ℕ) (s : UnifyState P.T) → (IsEnd u → ⊥) → unify_step P sigs ctx mode u st ≡ Ok s → run_left at bytes st ≡ run_left (at + c.len) (drop c.len bytes) s
      went-run at s no-end row = one-turn at bytes st ∙ rw (read, is, turn-on s no-end row) refl

      pub went-count : (s : UnifyState P.T) → (IsEnd u → ⊥) → unify_step P sigs ctx mode u st ≡ Ok s → count_left bytes st ≡ suc (count_left (drop c.len bytes) s)
      went-count s no-end row = one-count bytes st ∙ rw (read, is, turn-on s no-end row) refl

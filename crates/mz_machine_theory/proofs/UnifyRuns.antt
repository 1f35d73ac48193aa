-- A stream's run doesn't end by its bound, and executes at most a command a byte.
use Rattle.std.proofs.Common.{◌≡◌, ℕ, zero, suc, ◌+◌, ◌-◌, ◌≤◌, List, [], ◌∷◌, length, drop, Option, Some, None, Result, Ok, Err, refl, sym, ap, subst, arith}
use Rattle.std.proofs.lemmas.List.{length-drop}
use Rattle.mz_cmd.specs.declared.rule.K.{K}
use Rattle.mz_cmd.specs.declared.command.Cmd.{Cmd}
use Rattle.mz_cmd.specs.declared.command.CmdFault.{CmdFault}
use Rattle.mz_cmd.specs.Reading.{first_command}
use Rattle.mz_logic_theory.specs.Signature.{Signature}
use Rattle.mz_logic_theory.specs.declared.binder.Binder.{Binder}
use Rattle.mz_machine_theory.specs.Steps.{◌>>=◌, Turn, over, goes_on, goes_to}
use Rattle.mz_machine_theory.specs.Streams.{UnifyCommand, u_end, unify_command}
use Rattle.mz_machine_theory.specs.Profile.{Profile}
use Rattle.mz_machine_theory.specs.UnifyMachine.{UnifyMode, kind_of, UnifyState, unify_step, unify_turn_by, unify_turn, unify_from, unify_steps_from}
use Rattle.mz_machine_theory.proofs.Turning.{command-long, follow-same, goes_to-le, if_read-le, goes_to-same, if_read-same, drop-less}

module _ (P : Profile) (sigs : List Signature) (ctx : List Binder) (mode : UnifyMode) where
  abbrev turned : Turn (UnifyState P.T) → Result (Turn (UnifyState P.T)) K
  turned x = Ok x

  row-len : (len len' : ℕ) (s : UnifyState P.T) (r : Result (UnifyState P.T) K) → (r >>= λ x. turned (goes_on len x)) ≡ Ok (goes_on len' s) → len ≡ len'
  row-len len len' s (Ok x) e = cc
  row-len len len' s (Err k) e = absurd cc

  no-over : (len' : ℕ) (s : UnifyState P.T) (r : Result (UnifyState P.T) K) → (r >>= λ x. turned (over x)) ≡ Ok (goes_on len' s) → ⊥
  no-over len' s (Ok x) e = cc
  no-over len' s (Err k) e = cc

  by-len : (len len' : ℕ) (st s : UnifyState P.T) (u : Option UnifyCommand) → unify_turn_by P sigs ctx mode len st u ≡ Ok (goes_on len' s) → len ≡ len'
  by-len len len' st s None e = absurd cc
  by-len len len' st s (Some u_end) e = absurd (no-over len' s (unify_step P sigs ctx mode u_end st) e)
  by-len len len' st s (Some u) e = row-len len len' s (unify_step P sigs ctx mode u st) e

  turn-len : (r : Result Cmd CmdFault) (st s : UnifyState P.T) (len : ℕ) → unify_turn P sigs ctx mode st r ≡ Ok (goes_on len s) → (c : Cmd) × (r ≡ Ok c) × (c.len ≡ len)
  turn-len (Err f) st s len e = absurd cc
  turn-len (Ok c) st s len e = (c, refl, by-len c.len len st s (unify_command (kind_of mode) c.code c.value) e)

  pub went-on : (bytes : List ℕ) (st s : UnifyState P.T) (len : ℕ) → unify_turn P sigs ctx mode st (first_command bytes) ≡ Ok (goes_on len s) → (1 ≤ len) × (len ≤ length bytes)
  went-on bytes st s len e =
      let (c, read, is) = turn-len (first_command bytes) st s len e in
      let (one, within) = command-long bytes c read in
      (omega arith, omega arith)

  both-bounds : (n m at : ℕ) (bytes : List ℕ) (st : UnifyState P.T) → length bytes ≤ n → length bytes ≤ m → unify_from P sigs ctx mode n at bytes st ≡ unify_from P sigs ctx mode m at bytes st
  unfolding unify_from
  both-bounds zero zero at bytes st a b = refl
  both-bounds zero (suc m) at [] st a b = refl
  both-bounds zero (suc m) at (x ∷ bytes) st a b = absurd (omega arith)
  both-bounds (suc n) zero at [] st a b = refl
  both-bounds (suc n) zero at (x ∷ bytes) st a b = absurd (omega arith)
  both-bounds (suc n) (suc m) at bytes st a b =
      follow-same at (unify_turn P sigs ctx mode st (first_command bytes)) _ _ λ len s turn.
      both-bounds n m (at + len) (drop len bytes) s (drop-less bytes len n (went-on bytes st s len turn).0 a) (drop-less bytes len m (went-on bytes st s len turn).0 b)

  pub stream-bound-never-ends : (n at : ℕ) (bytes : List ℕ) (st : UnifyState P.T) → length bytes ≤ n → unify_from P sigs ctx mode n at bytes st ≡ unify_from P sigs ctx mode (length bytes) at bytes st
  stream-bound-never-ends n at bytes st le = both-bounds n (length bytes) at bytes st le (omega arith)

  pub steps-bounded : (n : ℕ) (bytes : List ℕ) (st : UnifyState P.T) → unify_steps_from P sigs ctx mode n bytes st ≤ length bytes
  unfolding unify_steps_from
  steps-bounded zero bytes st = omega arith
  steps-bounded (suc n) bytes st =
      if_read-le (first_command bytes) (λ c. suc (goes_to (unify_turn P sigs ctx mode st (Ok c)) (λ len s. unify_steps_from P sigs ctx mode n (drop len bytes) s))) (length bytes) λ c read.
      let (one, within) = command-long bytes c read in
      let rest : goes_to (unify_turn P sigs ctx mode st (Ok c)) (λ len s. unify_steps_from P sigs ctx mode n (drop len bytes) s) ≤ length bytes - 1 =
      goes_to-le (unify_turn P sigs ctx mode st (Ok c)) (λ len s. unify_steps_from P sigs ctx mode n (drop len bytes) s) (length bytes - 1) λ len s turn.
      let longer : (1 ≤ len) × (len ≤ length bytes) = went-on bytes st s len (subst (λ (r : Result Cmd CmdFault). unify_turn P sigs ctx mode st r ≡ Ok (goes_on len s)) (sym read) turn) in
      omega (arith, steps-bounded n (drop len bytes) s, length-drop len bytes, longer.0, longer.1) in
      omega arith

  both-counts : (n m : ℕ) (bytes : List ℕ) (st : UnifyState P.T) → length bytes ≤ n → length bytes ≤ m → unify_steps_from P sigs ctx mode n bytes st ≡ unify_steps_from P sigs ctx mode m bytes st
  unfolding unify_steps_from
  both-counts zero zero bytes st a b = refl
  both-counts zero (suc m) [] st a b = refl
  both-counts zero (suc m) (x ∷ bytes) st a b = absurd (omega arith)
  both-counts (suc n) zero [] st a b = refl
  both-counts (suc n) zero (x ∷ bytes) st a b = absurd (omega arith)
  both-counts (suc n) (suc m) bytes st a b =
      if_read-same (first_command bytes) _ _ λ c read.
      ap suc (goes_to-same (unify_turn P sigs ctx mode st (Ok c)) _ _ λ len s turn.
      let longer : 1 ≤ len = (went-on bytes st s len (subst (λ (r : Result Cmd CmdFault). unify_turn P sigs ctx mode st r ≡ Ok (goes_on len s)) (sym read) turn)).0 in
      both-counts n m (drop len bytes) s (drop-less bytes len n longer a) (drop-less bytes len m longer b))

  pub stream-count-is-whole : (n : ℕ) (bytes : List ℕ) (st : UnifyState P.T) → length bytes ≤ n → unify_steps_from P sigs ctx mode n bytes st ≡ unify_steps_from P sigs ctx mode (length bytes) bytes st
  stream-count-is-whole n bytes st le = both-counts n (length bytes) bytes st le (omega arith)

-- What is left of a unify stream that runs, command by command.
use Rattle.std.proofs.Common.{Result, Option, ◌≡◌, ◌⊎◌, inl, inr, ℕ, zero, suc, ◌+◌, List, drop, Some, None, Ok, Err, refl, ap, ◌∙◌}
use Rattle.mz_cmd.specs.declared.rule.K.{K}
use Rattle.mz_cmd.specs.declared.command.Cmd.{Cmd}
use Rattle.mz_cmd.specs.declared.command.CmdFault.{CmdFault}
use Rattle.mz_cmd.specs.Reading.{first_command}
use Rattle.mz_logic_theory.specs.Tree.{Tree}
use Rattle.mz_logic_theory.specs.Signature.{Signature}
use Rattle.mz_logic_theory.specs.declared.binder.Binder.{Binder}
use Rattle.mz_machine_theory.specs.Steps.{◌>>=◌, at_place, over, goes_on, follow}
use Rattle.mz_machine_theory.specs.Streams.{UnifyCommand, u_term, u_term_save, u_ref, u_dummy, u_hyp, u_end, IsEnd, unify_command}
use Rattle.mz_machine_theory.specs.Profile.{strict}
use Rattle.mz_machine_theory.specs.UnifyMachine.{UnifyMode, kind_of, UnifyState, unify_step, unify_turn_by, unify_turn, unify_from}

abbrev left : UnifyState Tree → Result (UnifyState Tree) K
left z = Ok z

module _ (sigs : List Signature) (ctx : List Binder) (mode : UnifyMode) (at : ℕ) (st u : UnifyState Tree) where
  -- the END stands here
  abbrev pub EndsHere : Cmd → Type 0
  EndsHere c = (unify_command (kind_of mode) c.code c.value ≡ Some u_end) × (unify_step strict sigs ctx mode u_end st ≡ Ok u)

  -- or a command that leads on
  abbrev pub GoesOn : Cmd → List ℕ → Type 0
  GoesOn c bytes = (v : UnifyCommand) × (m : ℕ) × (s : UnifyState Tree) × (unify_command (kind_of mode) c.code c.value ≡ Some v) × (IsEnd v → ⊥) × (unify_step strict sigs ctx mode v st ≡ Ok s)
      × (unify_from strict sigs ctx mode m (at + c.len) (drop c.len bytes) s ≡ Ok u)

  leads-on : (c : Cmd) (n : ℕ) (bytes : List ℕ) (v : UnifyCommand) (r : Result (UnifyState Tree) K) → unify_command (kind_of mode) c.code c.value ≡ Some v → (IsEnd v → ⊥) → unify_step strict sigs ctx mode v st ≡ r
      → follow (at_place at (r >>= λ s. Ok (goes_on c.len s))) (λ len s. unify_from strict sigs ctx mode n (at + len) (drop len bytes) s) ≡ Ok u → EndsHere c ⊎ GoesOn c bytes
  leads-on c n bytes v (Err f) is other row run = absurd cc
  leads-on c n bytes v (Ok s) is other row run = inr (v, n, s, is, other, row, run)

  ends-now : (c : Cmd) (n : ℕ) (bytes : List ℕ) (r : Result (UnifyState Tree) K) → unify_command (kind_of mode) c.code c.value ≡ Some u_end → unify_step strict sigs ctx mode u_end st ≡ r
      → follow (at_place at (r >>= λ s. Ok (over s))) (λ len s. unify_from strict sigs ctx mode n (at + len) (drop len bytes) s) ≡ Ok u → EndsHere c ⊎ GoesOn c bytes
  ends-now c n bytes (Err f) is row run = absurd cc
  ends-now c n bytes (Ok s) is row run = let same : s ≡ u = cc in inl (is, row ∙ ap (λ z. left z) same)

  by-command : (c : Cmd) (n : ℕ) (bytes : List ℕ) (o : Option UnifyCommand) → unify_command (kind_of mode) c.code c.value ≡ o
      → follow (at_place at (unify_turn_by strict sigs ctx mode c.len st o)) (λ len s. unify_from strict sigs ctx mode n (at + len) (drop len bytes) s) ≡ Ok u → EndsHere c ⊎ GoesOn c bytes
  by-command c n bytes None is run = absurd cc
  by-command c n bytes (Some u_end) is run = ends-now c n bytes (unify_step strict sigs ctx mode u_end st) is refl run
  by-command c n bytes (Some (u_term t)) is run = leads-on c n bytes (u_term t) (unify_step strict sigs ctx mode (u_term t) st) is (λ e. e) refl run
  by-command c n bytes (Some (u_term_save t)) is run = leads-on c n bytes (u_term_save t) (unify_step strict sigs ctx mode (u_term_save t) st) is (λ e. e) refl run
  by-command c n bytes (Some (u_ref i)) is run = leads-on c n bytes (u_ref i) (unify_step strict sigs ctx mode (u_ref i) st) is (λ e. e) refl run
  by-command c n bytes (Some (u_dummy s)) is run = leads-on c n bytes (u_dummy s) (unify_step strict sigs ctx mode (u_dummy s) st) is (λ e. e) refl run
  by-command c n bytes (Some u_hyp) is run = leads-on c n bytes u_hyp (unify_step strict sigs ctx mode u_hyp st) is (λ e. e) refl run

  pub next-command : (n : ℕ) (bytes : List ℕ) → unify_from strict sigs ctx mode n at bytes st ≡ Ok u → (c : Cmd) × (first_command bytes ≡ Ok c) × (EndsHere c ⊎ GoesOn c bytes)
  unfolding unify_from
  next-command zero bytes run = absurd cc
  next-command (suc n) bytes run = go (first_command bytes) refl run
    where
      go : (r : Result Cmd CmdFault) → first_command bytes ≡ r
          → follow (at_place at (unify_turn strict sigs ctx mode st r)) (λ len s. unify_from strict sigs ctx mode n (at + len) (drop len bytes) s) ≡ Ok u
          → (c : Cmd) × (first_command bytes ≡ Ok c) × (EndsHere c ⊎ GoesOn c bytes)
      go (Err f) read run = absurd cc
      go (Ok c) read run = (c, read, by-command c n bytes (unify_command (kind_of mode) c.code c.value) refl run)

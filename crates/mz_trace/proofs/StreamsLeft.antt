-- What is left of a stream that runs, one command at a time.
use Rattle.std.proofs.Common.{◌≡◌, ℕ, ◌+◌, Bool, true, false, List, drop, Some, None, Option, Result, Ok, Err, refl, sym, ap, subst, ◌∙◌}
use Rattle.std.specs.Prelude.{◌==◌, ◌&&◌}
use Rattle.std.proofs.lemmas.Bool.{eqb-true}
use Rattle.std.proofs.lemmas.List.{drop-drop}
use Rattle.mz_cmd.specs.declared.rule.K.{K}
use Rattle.mz_cmd.specs.declared.rule.K.TheVariants as k
use Rattle.mz_cmd.specs.declared.code.UnifyCode.{UnifyCode}
use Rattle.mz_cmd.specs.declared.code.UnifyCode.TheVariants.{Term, TermSave, Ref, Dummy, Hyp}
use Rattle.mz_cmd.specs.declared.command.Cmd.{Cmd}
use Rattle.mz_cmd.specs.declared.command.CmdFault.{CmdFault}
use Rattle.mz_cmd.specs.Codes.{unify_code}
use Rattle.mz_cmd.specs.Reading.{first_command}
use Rattle.mz_logic_theory.specs.Tree.{Tree}
use Rattle.mz_logic_theory.specs.Signature.{Signature}
use Rattle.mz_logic_theory.specs.declared.binder.Binder.{Binder}
use Rattle.mz_machine_theory.specs.Streams.{StreamKind, of_assertion, of_definition, UnifyCommand, u_term, u_term_save, u_ref, u_dummy, u_hyp, u_end, IsEnd, command_in, unify_command}
use Rattle.mz_machine_theory.specs.Profile.{strict}
use Rattle.mz_machine_theory.specs.UnifyMachine.{UnifyMode, kind_of, is_empty, nothing_left, UnifyState, unify_step}
use Rattle.mz_machine_theory.proofs.Offered.{from_need, taken-is}
use Rattle.mz_unify.proofs.Offered.{run_left, cut-run, other-run, stopped-run, ended-run, went-run}

-- ---- the command by its code

-- none has the code of the END
code-not-zero : (n value : ℕ) (kind : StreamKind) (code : UnifyCode) → unify_code n ≡ Some code → unify_command kind n value ≡ command_in kind value (Some code)
code-not-zero n value kind code is = go (n == 0) refl
  where
    go : (b : Bool) → (n == 0) ≡ b → unify_command kind n value ≡ command_in kind value (Some code)
    go true zero-is = absurd (let no : unify_code 0 ≡ Some code = subst (λ m. unify_code m ≡ Some code) (eqb-true n 0 zero-is) is in cc)
    go false other = rw (other, is) refl

no-code : (n value : ℕ) (kind : StreamKind) (v : UnifyCommand) → unify_code n ≡ None → unify_command kind n value ≡ Some v → v ≡ u_end
no-code n value kind v is at = go (n == 0) refl
  where
    go : (b : Bool) → (n == 0) ≡ b → v ≡ u_end
    go true zero-is = let same : Some u_end ≡ Some v = rw zero-is at at in cc
    go false other = absurd (let none : None ≡ Some v = rw (other, is) at at in cc)

no-end : (kind : StreamKind) (value : ℕ) (code : UnifyCode) (v : UnifyCommand) → command_in kind value (Some code) ≡ Some v → IsEnd v → ⊥
no-end kind value Term u_end is end = cc
no-end kind value TermSave u_end is end = cc
no-end kind value Ref u_end is end = cc
no-end of_assertion value Dummy u_end is end = cc
no-end of_definition value Dummy u_end is end = cc
no-end of_assertion value Hyp u_end is end = cc
no-end of_definition value Hyp u_end is end = cc
no-end kind value code (u_term t) is end = end
no-end kind value code _ is end = end

-- ---- what is left

module _ (sigs : List Signature) (ctx : List Binder) (mode : UnifyMode) where
  abbrev pub Left : ℕ → List ℕ → UnifyState Tree → UnifyState Tree → Type 0
  Left at bytes st u = run_left strict sigs ctx mode at bytes st ≡ Ok u

  -- a command stands there
  pub is-read : (at : ℕ) (bytes : List ℕ) (st u : UnifyState Tree) (f : CmdFault) → first_command bytes ≡ Err f → Left at bytes st u → ⊥
  is-read at bytes st u f read ran = let no = sym (cut-run strict sigs ctx mode at bytes st f read) ∙ ran in cc

  end-row : (st s : UnifyState Tree) → unify_step strict sigs ctx mode u_end st ≡ Ok s → st ≡ s
  unfolding unify_step
  end-row st s e = from_need (is_empty st.targets && nothing_left mode st.items) k.UnifyRest _ s e λ _ e1. taken-is st s e1

  module _ (at : ℕ) (bytes : List ℕ) (st u : UnifyState Tree) (c : Cmd) (read : first_command bytes ≡ Ok c) (ran : Left at bytes st u) where
    abbrev Goes : Type 0
    Goes = (v : UnifyCommand) × (s : UnifyState Tree) × (unify_command (kind_of mode) c.code c.value ≡ Some v) × (unify_step strict sigs ctx mode v st ≡ Ok s)

    -- whose row goes through
    goes : Goes
    goes = by-command (unify_command (kind_of mode) c.code c.value) refl
      where
        by-row : (v : UnifyCommand) → unify_command (kind_of mode) c.code c.value ≡ Some v → (r : Result (UnifyState Tree) K) → unify_step strict sigs ctx mode v st ≡ r → Goes
        by-row v is (Ok s) row = (v, s, is, row)
        by-row v is (Err rule) row = absurd (let no = sym (stopped-run strict sigs ctx mode bytes st c read v is at rule row) ∙ ran in cc)

        by-command : (o : Option UnifyCommand) → unify_command (kind_of mode) c.code c.value ≡ o → Goes
        by-command None is = absurd (let no = sym (other-run strict sigs ctx mode bytes st c read at is) ∙ ran in cc)
        by-command (Some v) is = by-row v is (unify_step strict sigs ctx mode v st) refl

    -- with no code it is the END, where the state is the last one
    pub ends : unify_code c.code ≡ None → st ≡ u
    ends none =
        let (v, s, is, row) = goes in
        let end : v ≡ u_end = no-code c.code c.value (kind_of mode) v none is in
        let last : unify_step strict sigs ctx mode u_end st ≡ Ok s = subst (λ w. unify_step strict sigs ctx mode w st ≡ Ok s) end row in
        let over : unify_command (kind_of mode) c.code c.value ≡ Some u_end = is ∙ ap (λ w. Some w) end in
        let whole : Ok s ≡ Ok u = sym (ended-run strict sigs ctx mode bytes st c read u_end over at s tt last) ∙ ran in
        let same : s ≡ u = cc in
        end-row st s last ∙ same

    -- else it leads to a state from which the rest runs
    abbrev pub Went : UnifyCode → Type 0
    Went code = (v : UnifyCommand) × (s : UnifyState Tree) × (command_in (kind_of mode) c.value (Some code) ≡ Some v)
        × (unify_step strict sigs ctx mode v st ≡ Ok s) × Left (at + c.len) (drop c.len bytes) s u

    pub goes-on : (code : UnifyCode) → unify_code c.code ≡ Some code → Went code
    goes-on code is-code =
        let (v, s, is, row) = goes in
        let in-kind : command_in (kind_of mode) c.value (Some code) ≡ Some v = sym (code-not-zero c.code c.value (kind_of mode) code is-code) ∙ is in
        (v, s, in-kind, row, sym (went-run strict sigs ctx mode bytes st c read v is at s (no-end (kind_of mode) c.value code v in-kind) row) ∙ ran)

  -- the same in place
  pub goes-on-at : (at : ℕ) (stream : List ℕ) (st u : UnifyState Tree) (c : Cmd) (read : first_command (drop at stream) ≡ Ok c)
      → Left at (drop at stream) st u → (code : UnifyCode) → unify_code c.code ≡ Some code
      → (v : UnifyCommand) × (s : UnifyState Tree) × (command_in (kind_of mode) c.value (Some code) ≡ Some v)
      × (unify_step strict sigs ctx mode v st ≡ Ok s) × Left (at + c.len) (drop (at + c.len) stream) s u
  goes-on-at at stream st u c read ran code is-code =
      let (v, s, is, row, on) = goes-on at (drop at stream) st u c read ran code is-code in
      (v, s, is, row, subst (λ bytes. Left (at + c.len) bytes s u) (drop-drop c.len at stream) on)

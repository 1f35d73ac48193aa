-- A stream runs the same whether gaps are let through or not.
use Rattle.std.proofs.Common.{◌≡◌, ℕ, zero, suc, ◌+◌, Bool, List, [], ◌∷◌, length, drop, Option, Some, None, Result, Ok, Err, refl, ap, ◌∙◌}
use Rattle.std.specs.Prelude.{◌||◌, ◌&&◌, ◌++◌, not, ◌==◌}
use Rattle.mz_cmd.specs.declared.rule.K.{K}
use Rattle.mz_cmd.specs.declared.rule.K.TheVariants as k
use Rattle.mz_cmd.specs.declared.command.Cmd.{Cmd}
use Rattle.mz_cmd.specs.declared.command.CmdFault.{CmdFault}
use Rattle.mz_cmd.specs.Reading.{first_command}
use Rattle.mz_logic_theory.specs.Tree.{Tree}
use Rattle.mz_logic_theory.specs.Signature.{Signature}
use Rattle.mz_logic_theory.specs.Legality.{sort_of}
use Rattle.mz_logic_theory.specs.declared.binder.Binder.{Binder}
use Rattle.mz_machine_theory.specs.Steps.{◌>>=◌, ◌>>◌, need, at_place, Turn, follow, goes_to}
use Rattle.mz_machine_theory.specs.Streams.{UnifyCommand, u_term, u_term_save, u_ref, u_dummy, u_hyp, u_end, unify_command}
use Rattle.mz_machine_theory.specs.Tests.{var_within, is_bound_var}
use Rattle.mz_machine_theory.specs.Profile.{plain, strict}
use Rattle.mz_machine_theory.specs.UnifyMachine.{UnifyMode, kind_of, Matching, UnifyState, top_target, within_any, is_fresh, unify_step, unify_turn_by, unify_turn, unify_from, at_start, unify, unify_steps_from, unify_steps}
use Rattle.mz_machine_theory.proofs.Turning.{follow-same, goes_to-same, if_read-same}

pub bind-same : {A B F : Type 0} (r : Result A F) (f g : A → Result B F) → ((x : A) → f x ≡ g x) → (r >>= f) ≡ (r >>= g)
bind-same (Ok x) f g h = h x
bind-same (Err d) f g h = refl

pub bind-first : {A B F : Type 0} (r r' : Result A F) (f : A → Result B F) → r ≡ r' → (r >>= f) ≡ (r' >>= f)
bind-first {A = A} {F = F} r r' f h = ap (λ (z : Result A F). z >>= f) h

module _ (gaps : Bool) (sigs : List Signature) (ctx : List Binder) (mode : UnifyMode) where
  within-plain : (e : Tree) (es : List Tree) → within_any (plain gaps) ctx e es ≡ within_any strict ctx e es
  within-plain e [] = refl
  within-plain e (f ∷ es) = ap (λ (b : Bool). var_within ctx e f || b) (within-plain e es)

  fresh-plain : (s : ℕ) (e : Tree) (es : List Tree) → is_fresh (plain gaps) sigs ctx s e es ≡ is_fresh strict sigs ctx s e es
  fresh-plain s e es = ap (λ (b : Bool). is_bound_var ctx e && sort_of sigs ctx e == s && not b) (within-plain e es)

  row-plain : (c : UnifyCommand) (st : UnifyState Tree) → unify_step (plain gaps) sigs ctx mode c st ≡ unify_step strict sigs ctx mode c st
  unfolding unify_step
  row-plain (u_term t) st = refl
  row-plain (u_term_save t) st = refl
  row-plain (u_ref i) st = refl
  row-plain (u_dummy s) st = bind-same (top_target st.targets) _ _ λ top.
      ap (λ (b : Bool). need b k.UnifyDummy >> Ok (record st { targets = top.1; heap = st.heap ++ top.0 ∷ []; apart = st.apart ++ top.0 ∷ [] })) (fresh-plain s top.0 st.apart)
  row-plain u_hyp st = refl
  row-plain u_end st = refl

  turn_by-plain : (len : ℕ) (st : UnifyState Tree) (o : Option UnifyCommand) → unify_turn_by (plain gaps) sigs ctx mode len st o ≡ unify_turn_by strict sigs ctx mode len st o
  turn_by-plain len st None = refl
  turn_by-plain len st (Some u_end) = bind-first _ _ _ (row-plain u_end st)
  turn_by-plain len st (Some u) = bind-first _ _ _ (row-plain u st)

  turn-plain : (st : UnifyState Tree) (r : Result Cmd CmdFault) → unify_turn (plain gaps) sigs ctx mode st r ≡ unify_turn strict sigs ctx mode st r
  turn-plain st (Err d) = refl
  turn-plain st (Ok c) = turn_by-plain c.len st (unify_command (kind_of mode) c.code c.value)

  pub from-plain : (n at : ℕ) (bytes : List ℕ) (st : UnifyState Tree) → unify_from (plain gaps) sigs ctx mode n at bytes st ≡ unify_from strict sigs ctx mode n at bytes st
  unfolding unify_from
  from-plain zero at bytes st = refl
  from-plain (suc n) at bytes st =
      ap (λ (z : Result (Turn (UnifyState Tree)) K). follow (at_place at z) (λ len s. unify_from (plain gaps) sigs ctx mode n (at + len) (drop len bytes) s)) (turn-plain st (first_command bytes))
      ∙ follow-same at (unify_turn strict sigs ctx mode st (first_command bytes)) _ _ λ len s turn. from-plain n (at + len) (drop len bytes) s

  pub steps-plain : (n : ℕ) (bytes : List ℕ) (st : UnifyState Tree) → unify_steps_from (plain gaps) sigs ctx mode n bytes st ≡ unify_steps_from strict sigs ctx mode n bytes st
  unfolding unify_steps_from
  steps-plain zero bytes st = refl
  steps-plain (suc n) bytes st =
      if_read-same (first_command bytes) _ _ λ c read.
      ap suc
      (ap (λ (z : Result (Turn (UnifyState Tree)) K). goes_to z (λ len s. unify_steps_from (plain gaps) sigs ctx mode n (drop len bytes) s)) (turn-plain st (Ok c))
      ∙ goes_to-same (unify_turn strict sigs ctx mode st (Ok c)) _ _ λ len s turn. steps-plain n (drop len bytes) s)

pub unify-plain : (gaps : Bool) (sigs : List Signature) (ctx : List Binder) (m : Matching Tree) → unify (plain gaps) sigs ctx m ≡ unify strict sigs ctx m
unfolding unify
unify-plain gaps sigs ctx m = from-plain gaps sigs ctx m.mode (length m.stream) 0 m.stream (at_start m)

pub unify_steps-plain : (gaps : Bool) (sigs : List Signature) (ctx : List Binder) (m : Matching Tree) → unify_steps (plain gaps) sigs ctx m ≡ unify_steps strict sigs ctx m
unify_steps-plain gaps sigs ctx m = steps-plain gaps sigs ctx m.mode (length m.stream) m.stream (at_start m)

-- The hypotheses that an assertion's stream takes.
use Rattle.std.proofs.Common.{◌≡◌, ℕ, ◌+◌, ◌≤◌, List, [], ◌∷◌, ◌++◌, length, drop, Some, None, Ok, Err, refl, sym, ap, subst, arith}
use Rattle.std.specs.Prelude.{slice_get}
use Rattle.mz_cmd.specs.declared.rule.K.TheVariants as k
use Rattle.mz_cmd.specs.declared.code.UnifyCode.{UnifyCode}
use Rattle.mz_cmd.specs.declared.code.UnifyCode.TheVariants.{Term, TermSave, Ref, Dummy, Hyp}
use Rattle.mz_cmd.specs.declared.command.Cmd.{Cmd}
use Rattle.mz_cmd.specs.declared.command.CmdFault.{CmdFault}
use Rattle.mz_cmd.specs.Codes.{unify_code}
use Rattle.mz_cmd.specs.Reading.{first_command}
use Rattle.mz_logic_theory.specs.Tree.{Tree}
use Rattle.mz_logic_theory.specs.Signature.{Signature}
use Rattle.mz_logic_theory.specs.declared.binder.Binder.{Binder}
use Rattle.mz_machine_theory.specs.Streams.{of_assertion, UnifyCommand, u_term, u_term_save, u_ref, u_hyp, command_in}
use Rattle.mz_machine_theory.specs.Profile.{strict, tree_parts}
use Rattle.mz_machine_theory.specs.Tests.{same_tree}
use Rattle.mz_machine_theory.specs.UnifyMachine.{in_citation, Matching, UnifyState, at_start, top_target, is_empty, next_hypothesis, operands_of, unify_step, unify}
use Rattle.mz_machine_theory.proofs.Offered.{from_bind, from_need, from_want, taken-is, hypothesis-is}
use Rattle.mz_trace.specs.Commands.{RunsInCitation, TakesHyps}
use Rattle.mz_trace.specs.Streams.{hyps_of}
use Rattle.mz_trace.proofs.StreamsLeft.{Left, is-read, ends, goes-on-at}

-- ---- one command

module _ (sigs : List Signature) (ctx : List Binder) (st s : UnifyState Tree) where
  abbrev Took : ℕ → UnifyState Tree → Type 0
  Took n r = length st.items ≡ length r.items + n

  same-items : (r : UnifyState Tree) → r ≡ s → r.items ≡ st.items → Took 0 s
  same-items r is items = subst (Took 0) is (omega (arith, ap length items))

  took : (value : ℕ) (code : UnifyCode) (v : UnifyCommand) → command_in of_assertion value (Some code) ≡ Some v → unify_step strict sigs ctx in_citation v st ≡ Ok s → Took (hyps_of code) s
  unfolding unify_step
  took value Term v is e =
      let same : u_term value ≡ v = cc in
      from_bind (top_target st.targets) _ s (rw (sym same) at e) λ top _ e1.
      from_want (operands_of value (tree_parts top.0)) k.UnifyTerm _ s e1 λ es _ e2.
      same-items (record st { targets = es ++ top.1 }) (taken-is _ s e2) refl
  took value TermSave v is e =
      let same : u_term_save value ≡ v = cc in
      from_bind (top_target st.targets) _ s (rw (sym same) at e) λ top _ e1.
      from_want (operands_of value (tree_parts top.0)) k.UnifyTerm _ s e1 λ es _ e2.
      same-items (record st { targets = es ++ top.1; heap = st.heap ++ top.0 ∷ [] }) (taken-is _ s e2) refl
  took value Ref v is e =
      let same : u_ref value ≡ v = cc in
      from_bind (top_target st.targets) _ s (rw (sym same) at e) λ top _ e1.
      from_want (slice_get st.heap value) k.UnifyReference _ s e1 λ x _ e2.
      from_need (same_tree x top.0) k.UnifyReference _ s e2 λ _ e3.
      same-items (record st { targets = top.1 }) (taken-is _ s e3) refl
  took value Dummy v is e = absurd cc
  took value Hyp v is e =
      let same : u_hyp ≡ v = cc in
      from_need (is_empty st.targets) k.UnifyRest _ s (rw (sym same) at e) λ _ e1.
      from_bind (next_hypothesis in_citation st.items) _ s e1 λ r next e2.
      subst (Took 1) (taken-is (record st { targets = r.0 ∷ []; items = r.1 }) s e2) (omega (arith, ap length (hypothesis-is st.items r next)))

-- ---- the stream up to a place

-- wherever it runs, so many are taken, and the rest runs from there
abbrev pub TakenSoFar : List ℕ → ℕ → ℕ → Type 0
TakenSoFar stream at n = (sigs : List Signature) (ctx : List Binder) (m : Matching Tree) (u : UnifyState Tree)
    → m.mode ≡ in_citation → m.stream ≡ stream → unify strict sigs ctx m ≡ Ok u
    → (st : UnifyState Tree) × Left sigs ctx in_citation at (drop at stream) st u × (length m.items ≡ length st.items + n)

pub none-taken : (stream : List ℕ) → TakenSoFar stream 0 0
unfolding unify
none-taken stream sigs ctx m u mode is ran = (at_start m, rw (mode, is) at ran, omega arith)

module _ (stream : List ℕ) (at n : ℕ) (so-far : TakenSoFar stream at n) where
  pub reads-on : RunsInCitation stream → (f : CmdFault) → first_command (drop at stream) ≡ Err f → ⊥
  reads-on (sigs, ctx, m, u, mode, is, ran) f read =
      let (st, left, many) = so-far sigs ctx m u mode is ran in
      is-read sigs ctx in_citation at (drop at stream) st u f read left

  pub all-taken : (c : Cmd) → first_command (drop at stream) ≡ Ok c → unify_code c.code ≡ None → TakesHyps stream n
  all-taken c read none sigs ctx m u mode is ran =
      let (st, left, many) = so-far sigs ctx m u mode is ran in
      rw (sym (ends sigs ctx in_citation at (drop at stream) st u c read left none)) many

  pub more-taken : (c : Cmd) → first_command (drop at stream) ≡ Ok c → (code : UnifyCode) → unify_code c.code ≡ Some code → TakenSoFar stream (at + c.len) (n + hyps_of code)
  more-taken c read code is-code sigs ctx m u mode is ran =
      let (st, left, many) = so-far sigs ctx m u mode is ran in
      let (v, s, in-kind, row, on) = goes-on-at sigs ctx in_citation at stream st u c read left code is-code in
      (s, on, omega (arith, many, took sigs ctx st s c.value code v in-kind row))

pub few-taken : (code : UnifyCode) → hyps_of code ≤ 1
few-taken Term = omega arith
few-taken _ = omega arith

-- The variables that a definition's stream meets, up to a place.
use Rattle.std.proofs.Common.{◌≡◌, ℕ, ◌+◌, List, [], ◌∷◌, length, drop, Some, None, Ok, Err, refl, sym, ap, ◌∙◌}
use Rattle.std.proofs.Math.Seq.{drop-append_seam}
use Rattle.std.proofs.lemmas.List.{append-nil}
use Rattle.mz_cmd.specs.declared.code.UnifyCode.{UnifyCode}
use Rattle.mz_cmd.specs.declared.command.Cmd.{Cmd}
use Rattle.mz_cmd.specs.declared.command.CmdFault.{CmdFault}
use Rattle.mz_cmd.specs.Codes.{unify_code}
use Rattle.mz_cmd.specs.Reading.{first_command}
use Rattle.mz_logic_theory.specs.Tree.{Tree}
use Rattle.mz_logic_theory.specs.Signature.{Signature}
use Rattle.mz_logic_theory.specs.declared.binder.Binder.{Binder}
use Rattle.mz_machine_theory.specs.Profile.{strict}
use Rattle.mz_machine_theory.specs.UnifyMachine.{in_definition, UnifyState, at_start, unify}
use Rattle.mz_machine_theory.specs.MachineState.{RowsBefore}
use Rattle.mz_trace.specs.Traces.{variables_in}
use Rattle.mz_trace.specs.Nodes.{values, expression_at, IsExpression, HaveParts}
use Rattle.mz_trace.specs.Commands.{in_body, MayMeet, Meets}
use Rattle.mz_trace.specs.Streams.{IsReached, MayTakeApart, TakesApart}
use Rattle.mz_trace.specs.declared.node.RunNode.{RunNode}
use Rattle.mz_trace.proofs.StreamsLeft.{Left, is-read, ends, goes-on-at}

module _ (nodes : List RunNode) (stream : List ℕ) (target : ℕ) where
  -- wherever it runs, it reaches these targets and variables, and the rest runs from there
  abbrev pub MetSoFar : ℕ → List ℕ → List ℕ → Type 0
  MetSoFar at targets met = (tables : RowsBefore) (sigs : List Signature) (ctx : List Binder) (es : List Tree) (u : UnifyState Tree)
      → HaveParts tables nodes → IsExpression (values nodes) target → unify strict sigs ctx (in_body stream es (expression_at (values nodes) target)) ≡ Ok u
      → (st : UnifyState Tree) × Left sigs ctx in_definition at (drop at stream) st u × IsReached nodes es targets met st

  pub none-met : (targets met : List ℕ) → targets ≡ target ∷ [] → met ≡ [] → MetSoFar 0 targets met
  unfolding unify
  none-met targets met is none tables sigs ctx es u h expression ran =
      (at_start (in_body stream es (expression_at (values nodes) target)), ran, rw (is, none) ((expression, tt), refl, ([], sym (append-nil es), refl)))

  module _ (at : ℕ) (targets met : List ℕ) (so-far : MetSoFar at targets met) where
    pub reads-on : MayMeet nodes stream target → (f : CmdFault) → first_command (drop at stream) ≡ Err f → ⊥
    reads-on (tables, sigs, ctx, es, u, h, expression, ran) f read =
        let (st, left, reached) = so-far tables sigs ctx es u h expression ran in
        is-read sigs ctx in_definition at (drop at stream) st u f read left

    pub all-met : (c : Cmd) → first_command (drop at stream) ≡ Ok c → unify_code c.code ≡ None → Meets nodes stream target met
    all-met c read none tables sigs ctx es u h expression ran =
        let (st, left, (are, is, (more, apart, met-are))) = so-far tables sigs ctx es u h expression ran in
        let last : st ≡ u = ends sigs ctx in_definition at (drop at stream) st u c read left none in
        ap (λ (z : UnifyState Tree). variables_in (drop (length es) z.apart)) (sym last)
        ∙ ap (λ (gs : List Tree). variables_in (drop (length es) gs)) apart ∙ ap variables_in (drop-append_seam es more) ∙ met-are

    module _ (c : Cmd) (read : first_command (drop at stream) ≡ Ok c) (code : UnifyCode) (is-code : unify_code c.code ≡ Some code) where
      pub may-go-on : MayMeet nodes stream target → MayTakeApart nodes code targets met
      may-go-on (tables, sigs, ctx, es, u, h, expression, ran) =
          let (st, left, reached) = so-far tables sigs ctx es u h expression ran in
          let (v, s, in-kind, row, on) = goes-on-at sigs ctx in_definition at stream st u c read left code is-code in
          (tables, sigs, ctx, es, st, s, h, reached, (c.value, v, in-kind, row))

      pub more-met : (targets' met' : List ℕ) → TakesApart nodes code targets met targets' met' → MetSoFar (at + c.len) targets' met'
      more-met targets' met' takes tables sigs ctx es u h expression ran =
          let (st, left, reached) = so-far tables sigs ctx es u h expression ran in
          let (v, s, in-kind, row, on) = goes-on-at sigs ctx in_definition at stream st u c read left code is-code in
          (s, on, takes tables sigs ctx es st s h reached (c.value, v, in-kind, row))

use Rattle.std.proofs.Common.{◌≡◌, ◌+◌, ◌∙◌, length, sym, ap, subst, arith, Ok, Err, List}
use Rattle.std.specs.Prelude.{reverse}
use Rattle.std.proofs.lemmas.List.{length-map}
use Rattle.mz_cmd.specs.declared.rule.K.{K}
use Rattle.mz_pmachine_unify.specs.Numbering.{expr_of}
use Rattle.mz_store.specs.declared.item.Id.{Id}
use Rattle.mz_store.specs.declared.item.Item.{Item as Kept}
use Rattle.mz_pmachine_theory.specs.NodeIdentity.{portable}
use Rattle.mz_machine_theory.specs.MachineState.{Kind}
use Rattle.mz_machine_theory.specs.ProofMachine.{proof_end, ends_with}
use Rattle.mz_machine_theory.specs.Bodies.{match_steps}
use Rattle.mz_machine_env.specs.Before.{tables_of}
use Rattle.mz_machine_env.specs.OwnRow.{byte_of, kind_of, mode_for, IsNextRow}
use Rattle.mz_machine_theory.specs.Headings.{kind_at, heading_by, heading_of}
use Rattle.mz_machine_env.proofs.Offered.{kind-byte}
use Rattle.mz_pmachine_unify.specs.Stored.{items_at}
use Rattle.mz_pmachine.specs.OpenNodes.{of_nodes, whole_state}
use Rattle.mz_pmachine.specs.OverNodes.{state_at, AreFirst}
use Rattle.mz_machine.specs.OverStore.{IsContextOf}
use Rattle.mz_machine.proofs.Offered.{bound-more, context-longer, end-counts, end-refused, end-whole, same-three, stopped}
use Rattle.mz_pmachine.proofs.machine.Setting.finish.Goals as goal

pub end-requires-clause-row : goal.end-requires-clause-row
end-requires-clause-row g c =
    let t = c.args.self.now in
    subst (λ (k : Kind). IsNextRow t.env.file t.env.rows t.row k) (kind-byte t.kind) c.requires.0.may_run.next

pub end-requires-clause-mode : goal.end-requires-clause-mode
end-requires-clause-mode g c = c.requires.0.mode ∙ ap mode_for (kind-byte c.args.self.now.kind)

pub end-requires-clause-context : goal.end-requires-clause-context
end-requires-clause-context g c =
    let t = c.args.self.now in
    subst (λ (k : Kind). IsContextOf (heading_by t.env.file t.row k).params c.args.parts.now.nodes.context) (kind-byte t.kind) c.requires.0.context

pub end-requires-clause-params : goal.end-requires-clause-params
end-requires-clause-params g c =
    let t = c.args.self.now in
    subst (λ (k : Kind). AreFirst c.args.parts.now.nodes (length (heading_by t.env.file t.row k).params)) (kind-byte t.kind) c.requires.0.params

pub counted-requires-clause-bound : goal.counted-requires-clause-bound
counted-requires-clause-bound g c =
    let ps = (heading_of c.args.self.now.env.file (byte_of c.args.self.now.kind) c.args.self.now.row).params in
    omega (
      arith,
      c.requires.1,
      bound-more ps c.args.parts.now.nodes.context c.requires.0.context,
      context-longer ps c.args.parts.now.nodes.context c.requires.0.context,
    )

pub returns-in-Ok-clause-run : goal.returns-in-Ok-clause-run
returns-in-Ok-clause-run g c =
    let s = c.args.parts.now.nodes in
    let heap = c.args.parts.now.heap.items in
    let h = heading_of c.args.self.now.env.file (byte_of c.args.self.now.kind) c.args.self.now.row in
    let st = state_at s heap c.args.parts.now.stack.items c.args.parts.now.hyps.items in
    let ended = same-three (λ (k : Kind) (stack : List Kept) (hyps : List Id). proof_end portable (tables_of c.args.self.now.env) (heading_by c.args.self.now.env.file c.args.self.now.row k) (state_at s heap stack hyps))
    (kind_of c.args.self.now.kind) (kind_at (byte_of c.args.self.now.kind)) c.deref.result.now c.args.parts.now.stack.items c.deref-2.result.now c.args.parts.now.hyps.items
    (sym (kind-byte c.args.self.now.kind)) c.deref.ensures.value c.deref-2.ensures.value in
    let is = ap (λ (stack : List Kept). state_at s heap stack c.deref-2.result.now) c.deref.ensures.value ∙ ap (λ (hyps : List Id). state_at s heap c.args.parts.now.stack.items hyps) c.deref-2.ensures.value in
    let hyps : c.counted.result.hyps ≡ length c.args.parts.now.hyps.items = c.counted.ensures.hyps ∙ ap length c.deref-in-Ok.ensures.value in
    let dummies : c.counted.result.dummies + length h.params ≡ length s.context =
    omega (arith, c.counted.ensures.dummies, c.requires.1, bound-more h.params s.context c.requires.0.context) in
    let whole = end-whole portable (tables_of c.args.self.now.env) h st (of_nodes s) (reverse c.args.parts.now.equations.items) (items_at s c.args.parts.now.stack.items) c.requires.2 (sym ended ∙ c.in-Ok.ensures.row heap ∙ ap Ok is) in
    (whole_state s heap c.args.parts.now.equations.items c.args.parts.now.stack.items c.args.parts.now.hyps.items, whole, record { hyps = hyps ∙ sym (length-map c.args.parts.now.hyps.items (λ (i : Id). expr_of s i.0)); dummies = dummies; sorry = c.counted.ensures.sorry })

pub returns-in-Ok-clause-steps : goal.returns-in-Ok-clause-steps
returns-in-Ok-clause-steps g c =
    let s = c.args.parts.now.nodes in
    let heap = c.args.parts.now.heap.items in
    let many = same-three (λ (k : Kind) (stack : List Kept) (hyps : List Id). match_steps portable (tables_of c.args.self.now.env) (state_at s heap stack hyps) (ends_with portable (tables_of c.args.self.now.env) (heading_by c.args.self.now.env.file c.args.self.now.row k) (state_at s heap stack hyps)))
    (kind_of c.args.self.now.kind) (kind_at (byte_of c.args.self.now.kind)) c.deref.result.now c.args.parts.now.stack.items c.deref-2.result.now c.args.parts.now.hyps.items
    (sym (kind-byte c.args.self.now.kind)) c.deref.ensures.value c.deref-2.ensures.value in
    let h = heading_of c.args.self.now.env.file (byte_of c.args.self.now.kind) c.args.self.now.row in
    let st = state_at s heap c.args.parts.now.stack.items c.args.parts.now.hyps.items in
    omega (arith, c.in-Ok.ensures.steps heap, c.tick.ensures, many, end-counts portable (tables_of c.args.self.now.env) h st (of_nodes s) (reverse c.args.parts.now.equations.items) (items_at s c.args.parts.now.stack.items) c.requires.2)

pub returns-in-Err-Rule-clause-run : goal.returns-in-Err-Rule-clause-run
returns-in-Err-Rule-clause-run g c =
    let s = c.args.parts.now.nodes in
    let heap = c.args.parts.now.heap.items in
    let ended = same-three (λ (k : Kind) (stack : List Kept) (hyps : List Id). proof_end portable (tables_of c.args.self.now.env) (heading_by c.args.self.now.env.file c.args.self.now.row k) (state_at s heap stack hyps))
    (kind_of c.args.self.now.kind) (kind_at (byte_of c.args.self.now.kind)) c.deref.result.now c.args.parts.now.stack.items c.deref-2.result.now c.args.parts.now.hyps.items
    (sym (kind-byte c.args.self.now.kind)) c.deref.ensures.value c.deref-2.ensures.value in
    let h = heading_of c.args.self.now.env.file (byte_of c.args.self.now.kind) c.args.self.now.row in
    let st = state_at s heap c.args.parts.now.stack.items c.args.parts.now.hyps.items in
    end-refused portable (tables_of c.args.self.now.env) h st (of_nodes s) (reverse c.args.parts.now.equations.items) (items_at s c.args.parts.now.stack.items) c.requires.2 c.in-Err-Rule.rule
    (sym ended ∙ stopped c.in-Err-Rule.field-0 c.in-Err-Rule.rule
    (λ (k : K). proof_end portable (tables_of c.args.self.now.env) (heading_by c.args.self.now.env.file c.args.self.now.row (kind_of c.args.self.now.kind)) (state_at s heap c.deref.result.now c.deref-2.result.now) ≡ Err k)
    c.in-Err-Rule.field-0-is (c.in-Err-Rule.ensures.row heap))

pub returns-in-Err-Rule-clause-steps : goal.returns-in-Err-Rule-clause-steps
returns-in-Err-Rule-clause-steps g c =
    let s = c.args.parts.now.nodes in
    let heap = c.args.parts.now.heap.items in
    let many = same-three (λ (k : Kind) (stack : List Kept) (hyps : List Id). match_steps portable (tables_of c.args.self.now.env) (state_at s heap stack hyps) (ends_with portable (tables_of c.args.self.now.env) (heading_by c.args.self.now.env.file c.args.self.now.row k) (state_at s heap stack hyps)))
    (kind_of c.args.self.now.kind) (kind_at (byte_of c.args.self.now.kind)) c.deref.result.now c.args.parts.now.stack.items c.deref-2.result.now c.args.parts.now.hyps.items
    (sym (kind-byte c.args.self.now.kind)) c.deref.ensures.value c.deref-2.ensures.value in
    let so-many = stopped c.in-Err-Rule.field-0 c.in-Err-Rule.rule
    (λ (k : K). c.end.new.steps ≡ c.tick.new.self + match_steps portable (tables_of c.args.self.now.env) (state_at s heap c.deref.result.now c.deref-2.result.now)
    (ends_with portable (tables_of c.args.self.now.env) (heading_by c.args.self.now.env.file c.args.self.now.row (kind_of c.args.self.now.kind)) (state_at s heap c.deref.result.now c.deref-2.result.now)))
    c.in-Err-Rule.field-0-is (c.in-Err-Rule.ensures.steps heap) in
    let h = heading_of c.args.self.now.env.file (byte_of c.args.self.now.kind) c.args.self.now.row in
    let st = state_at s heap c.args.parts.now.stack.items c.args.parts.now.hyps.items in
    omega (arith, so-many, c.tick.ensures, many, end-counts portable (tables_of c.args.self.now.env) h st (of_nodes s) (reverse c.args.parts.now.equations.items) (items_at s c.args.parts.now.stack.items) c.requires.2)

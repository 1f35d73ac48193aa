use Rattle.std.proofs.Common.{◌∙◌, ap, sym, subst, refl}
use Rattle.mz_store.specs.Sharing.{tree_of, AreIn}
use Rattle.mz_unify.specs.Stored.{items_at, trees_at, AreItemsIn, AreVariables}
use Rattle.mz_machine_theory.specs.UnifyMachine.{unify, unify_steps}
use Rattle.mz_machine_env.specs.OwnRow.{first_ids, kind_of}
use Rattle.mz_machine_theory.specs.Headings.{heading_by}
use Rattle.mz_machine_env.specs.Before.{tables_of, signatures_of}
use Rattle.mz_machine_theory.specs.ProofMachine.{last_item, ending}
use Rattle.mz_machine_theory.specs.MachineState.{Kind}
use Rattle.mz_machine.specs.OverStore.{state_at}
use Rattle.mz_machine.specs.Endings.{IsOwnRun}
use Rattle.mz_machine_theory.specs.Profile.{strict}
use Rattle.mz_machine_env.proofs.Offered.{kind-is}
use Rattle.mz_machine.proofs.EndRows.{no-last-item, not-ending, is-ending, stopped-end, no-end-steps, end-steps, own-end}
use Rattle.mz_machine.proofs.Ending.{own-matching, first-trees, first-in, first-variables, own-items, own-items-in}
use Rattle.mz_machine.proofs.Unfoldings.{no-more, unless-more}
use Rattle.mz_machine.proofs.end.end.Goals as goal

pub run_own-requires-clause-operands : goal.run_own-requires-clause-operands
run_own-requires-clause-operands g c =
    let s = c.args.store.now in
    subst (AreIn s) (sym (ap first_ids c.requires.many)) (first-in s _ c.requires.params)

pub run_own-requires-clause-variables : goal.run_own-requires-clause-variables
run_own-requires-clause-variables g c =
    let s = c.args.store.now in
    subst (AreVariables s) (sym (ap first_ids c.requires.many)) (first-variables s _ c.requires.params)

pub run_own-requires-clause-proofs : goal.run_own-requires-clause-proofs
run_own-requires-clause-proofs g c =
    let s = c.args.store.now in
    subst (AreItemsIn s) (sym c.in-Ok-own_proofs.ensures) (own-items-in s (kind_of c.args.kind) c.args.hyps.now c.requires.hyps)

pub returns-in-Err-clause-row : goal.returns-in-Err-clause-row
returns-in-Err-clause-row g c heap =
    let E = c.args.env.now in
    let s = c.args.store.now in
    let kind = kind_of c.args.kind in
    let h = heading_by E.file c.args.row kind in
    let st = state_at s heap c.args.stack.now c.args.hyps.now in
    let is = kind-is E.file c.args.row kind in
    let last = ap (λ (k : Kind). last_item k st.stack) is ∙ c.in-Err.ensures.last in
    stopped-end strict (tables_of E) h st _ (no-last-item strict (tables_of E) h st _ last)

pub returns-in-Err-clause-steps : goal.returns-in-Err-clause-steps
returns-in-Err-clause-steps g c heap =
    let E = c.args.env.now in
    let s = c.args.store.now in
    let kind = kind_of c.args.kind in
    let h = heading_by E.file c.args.row kind in
    let st = state_at s heap c.args.stack.now c.args.hyps.now in
    let is = kind-is E.file c.args.row kind in
    let last = ap (λ (k : Kind). last_item k st.stack) is ∙ c.in-Err.ensures.last in
    no-more _ _ (no-end-steps strict (tables_of E) h st _ (no-last-item strict (tables_of E) h st _ last))

pub returns-in-Err-check_target-clause-row : goal.returns-in-Err-check_target-clause-row
returns-in-Err-check_target-clause-row g c heap =
    let E = c.args.env.now in
    let s = c.args.store.now in
    let kind = kind_of c.args.kind in
    let h = heading_by E.file c.args.row kind in
    let st = state_at s heap c.args.stack.now c.args.hyps.now in
    let is = kind-is E.file c.args.row kind in
    let last = ap (λ (k : Kind). last_item k st.stack) is ∙ c.in-Ok.ensures.last in
    let stopped = ap (λ (k : Kind). ending strict (tables_of E) h st k (tree_of s c.in-Ok.target.0)) is ∙ c.in-Err-check_target.ensures st refl in
    stopped-end strict (tables_of E) h st _ (not-ending strict (tables_of E) h st _ _ last stopped)

pub returns-in-Err-check_target-clause-steps : goal.returns-in-Err-check_target-clause-steps
returns-in-Err-check_target-clause-steps g c heap =
    let E = c.args.env.now in
    let s = c.args.store.now in
    let kind = kind_of c.args.kind in
    let h = heading_by E.file c.args.row kind in
    let st = state_at s heap c.args.stack.now c.args.hyps.now in
    let is = kind-is E.file c.args.row kind in
    let last = ap (λ (k : Kind). last_item k st.stack) is ∙ c.in-Ok.ensures.last in
    let stopped = ap (λ (k : Kind). ending strict (tables_of E) h st k (tree_of s c.in-Ok.target.0)) is ∙ c.in-Err-check_target.ensures st refl in
    no-more _ _ (no-end-steps strict (tables_of E) h st _ (not-ending strict (tables_of E) h st _ _ last stopped))

pub returns-clause-row : goal.returns-clause-row
returns-clause-row g c heap =
    let E = c.args.env.now in
    let s = c.args.store.now in
    let kind = kind_of c.args.kind in
    let h = heading_by E.file c.args.row kind in
    let st = state_at s heap c.args.stack.now c.args.hyps.now in
    let is = kind-is E.file c.args.row kind in
    let last = ap (λ (k : Kind). last_item k st.stack) is ∙ c.in-Ok.ensures.last in
    let ends = ap (λ (k : Kind). ending strict (tables_of E) h st k (tree_of s c.in-Ok.target.0)) is ∙ c.in_default.ensures st refl in
    let m = is-ending strict (tables_of E) h st _ _ last ends in
    let own = own-matching h st kind s c.own_stream-stream.result.now (first_ids c.args.params) c.in-Ok.target c.own_proofs.new.items.items c.own_stream-stream.ensures.stream (ap (trees_at s) (ap first_ids c.requires.many) ∙ first-trees s _ c.requires.params) (ap (items_at s) c.in-Ok-own_proofs.ensures ∙ own-items s kind c.args.hyps.now) in
    own-end strict (tables_of E) h st _ c.run_own.result m (subst (λ n. IsOwnRun (unify strict (signatures_of E) s.context n) c.run_own.result) own c.run_own.ensures.run)

pub returns-clause-steps : goal.returns-clause-steps
returns-clause-steps g c heap =
    let E = c.args.env.now in
    let s = c.args.store.now in
    let kind = kind_of c.args.kind in
    let h = heading_by E.file c.args.row kind in
    let st = state_at s heap c.args.stack.now c.args.hyps.now in
    let is = kind-is E.file c.args.row kind in
    let last = ap (λ (k : Kind). last_item k st.stack) is ∙ c.in-Ok.ensures.last in
    let ends = ap (λ (k : Kind). ending strict (tables_of E) h st k (tree_of s c.in-Ok.target.0)) is ∙ c.in_default.ensures st refl in
    let m = is-ending strict (tables_of E) h st _ _ last ends in
    let own = own-matching h st kind s c.own_stream-stream.result.now (first_ids c.args.params) c.in-Ok.target c.own_proofs.new.items.items c.own_stream-stream.ensures.stream (ap (trees_at s) (ap first_ids c.requires.many) ∙ first-trees s _ c.requires.params) (ap (items_at s) c.in-Ok-own_proofs.ensures ∙ own-items s kind c.args.hyps.now) in
    unless-more c.run_own.result _ _ _ _ c.run_own.ensures.steps (end-steps strict (tables_of E) h st _ m ∙ sym (ap (λ n. unify_steps strict (signatures_of E) s.context n) own))

-- ---- what the calls ask

pub check_target-requires-clause-context : goal.check_target-requires-clause-context
check_target-requires-clause-context g c = c.requires.context

pub check_target-requires-clause-over : goal.check_target-requires-clause-over
check_target-requires-clause-over g c = c.requires.over

pub check_target-requires-clause-row : goal.check_target-requires-clause-row
check_target-requires-clause-row g c = c.requires.row

pub check_target-requires-clause-mode : goal.check_target-requires-clause-mode
check_target-requires-clause-mode g c = c.requires.mode

pub last_item-requires : goal.last_item-requires
last_item-requires g c = c.requires.stack

pub check_target-requires-clause-target : goal.check_target-requires-clause-target
check_target-requires-clause-target g c = c.in-Ok.ensures.ids

pub own_stream-stream-requires : goal.own_stream-stream-requires
own_stream-stream-requires g c = c.requires.row

pub run_own-requires-clause-over : goal.run_own-requires-clause-over
run_own-requires-clause-over g c = c.requires.over

pub run_own-requires-clause-target : goal.run_own-requires-clause-target
run_own-requires-clause-target g c = c.in-Ok.ensures.ids

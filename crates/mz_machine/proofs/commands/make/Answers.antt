use Rattle.std.proofs.Common.{◌≡◌, Err, length, refl}
use Rattle.std.proofs.lemmas.Result.{on_ok_weaker}
use Rattle.mz_cmd.specs.declared.code.ProofCode.TheVariants as code
use Rattle.mz_store.specs.declared.item.Item.TheVariants.{Expr, Proof}
use Rattle.mz_machine_theory.specs.Profile.{strict}
use Rattle.mz_machine_theory.specs.ProofMachine.{proof_step}
use Rattle.mz_machine_env.specs.Before.{signatures_of, tables_of}
use Rattle.mz_machine.specs.OverStore.{state_at}
use Rattle.mz_machine.proofs.CitationRows.{thm-of, thm-save-of}
use Rattle.mz_machine.proofs.Executed.{kept-executes, made, made-saved, pushed-executes, quiet, stopped-executes}
use Rattle.mz_machine.proofs.HandedOn.{grows-not}
use Rattle.mz_machine.proofs.Stopping.{stops-as}
use Rattle.mz_machine.proofs.TermRows.{term-of, term-save-of}
use Rattle.mz_machine.proofs.Unfoldings.{unless-mem}
use Rattle.mz_machine.proofs.commands.make.Goals as goal

-- ---- Term

pub returns-in-Ok-clause-done : goal.returns-in-Ok-clause-done
returns-in-Ok-clause-done g c hyps hyps_in =
    let E = c.args.env.now in
    let s = c.args.store.now in
    let heap = c.args.heap.now.items in
    let stack = c.args.stack.now.items in
    let n = c.args.value in
    let st = state_at s heap stack hyps in
    rw c.in-Term.is (pushed-executes (signatures_of E) (λ at. proof_step strict (tables_of E) at code.Term n st) ⊥ s c.build.new.store heap stack c.push.new.items.items hyps c.args.stack.now.cap c.push.new.items.cap (λ none. none) c.push.result
    (on_ok_weaker c.push.result (λ put. made (signatures_of E) (λ at. proof_step strict (tables_of E) at code.Term n st) s c.build.new.store c.in-Ok.ensures.grows c.build.ensures.context heap stack c.build.new.stack.items hyps c.requires.ready.heap_in hyps_in (Expr c.in-Ok.made) c.in-Ok.ensures.ids.0 c.in-Ok.ensures.ids.1 c.args.stack.now.cap c.push.new.items.cap c.push.new.items.items put (λ at. term-of strict (tables_of E) at n st _ (c.in-Ok.ensures.built at st refl refl))) c.push.ensures.ok)
    c.push.ensures.err)

pub returns-in-Err-clause-done : goal.returns-in-Err-clause-done
returns-in-Err-clause-done g c hyps hyps_in =
    let E = c.args.env.now in
    let s = c.args.store.now in
    let heap = c.args.heap.now.items in
    let stack = c.args.stack.now.items in
    let n = c.args.value in
    let st = state_at s heap stack hyps in
    rw c.in-Term.is (stopped-executes (signatures_of E) (λ at. proof_step strict (tables_of E) at code.Term n st) ⊥ s s heap stack stack hyps 0 0 (λ none. none) c.in-Err.stop
    (λ at. stops-as c.in-Err.stop _ (λ k. proof_step strict (tables_of E) at code.Term n st ≡ Err k) (λ k h. term-of strict (tables_of E) at n st (Err k) h) (c.in-Err.ensures.built at st refl refl)))

pub returns-in-Ok-clause-steps : goal.returns-in-Ok-clause-steps
returns-in-Ok-clause-steps g c hyps = rw c.in-Term.is (quiet c.push.result c.args.steps.now (length c.args.env.now.file))

pub returns-in-Err-clause-steps : goal.returns-in-Err-clause-steps
returns-in-Err-clause-steps g c hyps = rw c.in-Term.is (quiet {A = Unit {0}} (Err c.in-Err.stop) c.args.steps.now (length c.args.env.now.file))

-- ---- TermSave

pub returns-in-Ok-build-clause-done : goal.returns-in-Ok-build-clause-done
returns-in-Ok-build-clause-done g c hyps hyps_in =
    let E = c.args.env.now in
    let s = c.args.store.now in
    let heap = c.args.heap.now.items in
    let stack = c.args.stack.now.items in
    let n = c.args.value in
    let st = state_at s heap stack hyps in
    rw c.in-TermSave.is (kept-executes (signatures_of E) (λ at. proof_step strict (tables_of E) at code.TermSave n st) ⊥ s c.build-in-TermSave.new.store c.push_both.new.heap.items stack c.push_both.new.stack.items hyps c.args.stack.now.cap c.push_both.new.stack.cap (λ none. none) c.push_both.result
    (λ put. made-saved (signatures_of E) (λ at. proof_step strict (tables_of E) at code.TermSave n st) s c.build-in-TermSave.new.store c.in-Ok-build.ensures.grows c.build-in-TermSave.ensures.context heap stack c.build-in-TermSave.new.stack.items hyps c.requires.ready.heap_in hyps_in (Expr c.in-Ok-build.made) c.in-Ok-build.ensures.ids.0 c.in-Ok-build.ensures.ids.1 c.args.stack.now.cap c.push_both.new.stack.cap c.push_both.new.heap.items c.push_both.new.stack.items put.0 put.1 (λ at. term-save-of strict (tables_of E) at n st _ (c.in-Ok-build.ensures.built at st refl refl)))
    c.push_both.ensures)

pub returns-in-Err-build-clause-done : goal.returns-in-Err-build-clause-done
returns-in-Err-build-clause-done g c hyps hyps_in =
    let E = c.args.env.now in
    let s = c.args.store.now in
    let heap = c.args.heap.now.items in
    let stack = c.args.stack.now.items in
    let n = c.args.value in
    let st = state_at s heap stack hyps in
    rw c.in-TermSave.is (stopped-executes (signatures_of E) (λ at. proof_step strict (tables_of E) at code.TermSave n st) ⊥ s s heap stack stack hyps 0 0 (λ none. none) c.in-Err-build.stop
    (λ at. stops-as c.in-Err-build.stop _ (λ k. proof_step strict (tables_of E) at code.TermSave n st ≡ Err k) (λ k h. term-save-of strict (tables_of E) at n st (Err k) h) (c.in-Err-build.ensures.built at st refl refl)))

pub returns-in-Ok-build-clause-steps : goal.returns-in-Ok-build-clause-steps
returns-in-Ok-build-clause-steps g c hyps = rw c.in-TermSave.is (quiet c.push_both.result c.args.steps.now (length c.args.env.now.file))

pub returns-in-Err-build-clause-steps : goal.returns-in-Err-build-clause-steps
returns-in-Err-build-clause-steps g c hyps = rw c.in-TermSave.is (quiet {A = Unit {0}} (Err c.in-Err-build.stop) c.args.steps.now (length c.args.env.now.file))

-- ---- Thm

pub returns-in-Ok-cite-clause-done : goal.returns-in-Ok-cite-clause-done
returns-in-Ok-cite-clause-done g c hyps hyps_in =
    let E = c.args.env.now in
    let s = c.args.store.now in
    let heap = c.args.heap.now.items in
    let stack = c.args.stack.now.items in
    let n = c.args.value in
    let st = state_at s heap stack hyps in
    rw c.in-Thm.is (pushed-executes (signatures_of E) (λ at. proof_step strict (tables_of E) at code.Thm n st) ⊥ s s heap stack c.push-in-Ok-cite.new.items.items hyps c.args.stack.now.cap c.push-in-Ok-cite.new.items.cap (λ none. none) c.push-in-Ok-cite.result
    (on_ok_weaker c.push-in-Ok-cite.result (λ put. made (signatures_of E) (λ at. proof_step strict (tables_of E) at code.Thm n st) s s (grows-not (signatures_of E) s c.requires.ready.over) refl heap stack c.cite.new.stack.items hyps c.requires.ready.heap_in hyps_in (Proof c.in-Ok-cite.proved) c.in-Ok-cite.ensures.ids.0 c.in-Ok-cite.ensures.ids.1 c.args.stack.now.cap c.push-in-Ok-cite.new.items.cap c.push-in-Ok-cite.new.items.items put (λ at. thm-of strict (tables_of E) n st at _ (c.in-Ok-cite.ensures.cited st refl refl))) c.push-in-Ok-cite.ensures.ok)
    c.push-in-Ok-cite.ensures.err)

pub returns-in-Err-cite-clause-done : goal.returns-in-Err-cite-clause-done
returns-in-Err-cite-clause-done g c hyps hyps_in =
    let E = c.args.env.now in
    let s = c.args.store.now in
    let heap = c.args.heap.now.items in
    let stack = c.args.stack.now.items in
    let n = c.args.value in
    let st = state_at s heap stack hyps in
    rw c.in-Thm.is (stopped-executes (signatures_of E) (λ at. proof_step strict (tables_of E) at code.Thm n st) ⊥ s s heap stack stack hyps 0 0 (λ none. none) c.in-Err-cite.stop
    (λ at. stops-as c.in-Err-cite.stop _ (λ k. proof_step strict (tables_of E) at code.Thm n st ≡ Err k) (λ k h. thm-of strict (tables_of E) n st at (Err k) h) (c.in-Err-cite.ensures.cited st refl refl)))

pub returns-in-Ok-cite-clause-steps : goal.returns-in-Ok-cite-clause-steps
returns-in-Ok-cite-clause-steps g c hyps =
    let E = c.args.env.now in
    let s = c.args.store.now in
    let heap = c.args.heap.now.items in
    let stack = c.args.stack.now.items in
    let n = c.args.value in
    let st = state_at s heap stack hyps in
    rw c.in-Thm.is (unless-mem c.push-in-Ok-cite.result (c.in-Ok-cite.ensures.steps st refl refl).0, (c.in-Ok-cite.ensures.steps st refl refl).1)

pub returns-in-Err-cite-clause-steps : goal.returns-in-Err-cite-clause-steps
returns-in-Err-cite-clause-steps g c hyps =
    let E = c.args.env.now in
    let s = c.args.store.now in
    let heap = c.args.heap.now.items in
    let stack = c.args.stack.now.items in
    let n = c.args.value in
    let st = state_at s heap stack hyps in
    rw c.in-Thm.is (c.in-Err-cite.ensures.steps st refl refl)

-- ---- ThmSave

pub returns-in-Ok-cite-2-clause-done : goal.returns-in-Ok-cite-2-clause-done
returns-in-Ok-cite-2-clause-done g c hyps hyps_in =
    let E = c.args.env.now in
    let s = c.args.store.now in
    let heap = c.args.heap.now.items in
    let stack = c.args.stack.now.items in
    let n = c.args.value in
    let st = state_at s heap stack hyps in
    rw c.in-ThmSave.is (kept-executes (signatures_of E) (λ at. proof_step strict (tables_of E) at code.ThmSave n st) ⊥ s s c.push_both-in-Ok-cite-2.new.heap.items stack c.push_both-in-Ok-cite-2.new.stack.items hyps c.args.stack.now.cap c.push_both-in-Ok-cite-2.new.stack.cap (λ none. none) c.push_both-in-Ok-cite-2.result
    (λ put. made-saved (signatures_of E) (λ at. proof_step strict (tables_of E) at code.ThmSave n st) s s (grows-not (signatures_of E) s c.requires.ready.over) refl heap stack c.cite-in-ThmSave.new.stack.items hyps c.requires.ready.heap_in hyps_in (Proof c.in-Ok-cite-2.proved) c.in-Ok-cite-2.ensures.ids.0 c.in-Ok-cite-2.ensures.ids.1 c.args.stack.now.cap c.push_both-in-Ok-cite-2.new.stack.cap c.push_both-in-Ok-cite-2.new.heap.items c.push_both-in-Ok-cite-2.new.stack.items put.0 put.1 (λ at. thm-save-of strict (tables_of E) n st at _ (c.in-Ok-cite-2.ensures.cited st refl refl)))
    c.push_both-in-Ok-cite-2.ensures)

pub returns-in-Err-cite-2-clause-done : goal.returns-in-Err-cite-2-clause-done
returns-in-Err-cite-2-clause-done g c hyps hyps_in =
    let E = c.args.env.now in
    let s = c.args.store.now in
    let heap = c.args.heap.now.items in
    let stack = c.args.stack.now.items in
    let n = c.args.value in
    let st = state_at s heap stack hyps in
    rw c.in-ThmSave.is (stopped-executes (signatures_of E) (λ at. proof_step strict (tables_of E) at code.ThmSave n st) ⊥ s s heap stack stack hyps 0 0 (λ none. none) c.in-Err-cite-2.stop
    (λ at. stops-as c.in-Err-cite-2.stop _ (λ k. proof_step strict (tables_of E) at code.ThmSave n st ≡ Err k) (λ k h. thm-save-of strict (tables_of E) n st at (Err k) h) (c.in-Err-cite-2.ensures.cited st refl refl)))

pub returns-in-Ok-cite-2-clause-steps : goal.returns-in-Ok-cite-2-clause-steps
returns-in-Ok-cite-2-clause-steps g c hyps =
    let E = c.args.env.now in
    let s = c.args.store.now in
    let heap = c.args.heap.now.items in
    let stack = c.args.stack.now.items in
    let n = c.args.value in
    let st = state_at s heap stack hyps in
    rw c.in-ThmSave.is (unless-mem c.push_both-in-Ok-cite-2.result (c.in-Ok-cite-2.ensures.steps st refl refl).0, (c.in-Ok-cite-2.ensures.steps st refl refl).1)

pub returns-in-Err-cite-2-clause-steps : goal.returns-in-Err-cite-2-clause-steps
returns-in-Err-cite-2-clause-steps g c hyps =
    let E = c.args.env.now in
    let s = c.args.store.now in
    let heap = c.args.heap.now.items in
    let stack = c.args.stack.now.items in
    let n = c.args.value in
    let st = state_at s heap stack hyps in
    rw c.in-ThmSave.is (c.in-Err-cite-2.ensures.steps st refl refl)

-- ---- what the calls ask

pub build-requires-clause-over : goal.build-requires-clause-over
build-requires-clause-over g c = c.requires.ready.over

pub build-requires-clause-stack : goal.build-requires-clause-stack
build-requires-clause-stack g c = c.requires.ready.stack_in

pub cite-requires-clause-over : goal.cite-requires-clause-over
cite-requires-clause-over g c = c.requires.ready.over

pub cite-requires-clause-stack : goal.cite-requires-clause-stack
cite-requires-clause-stack g c = c.requires.ready.stack_in

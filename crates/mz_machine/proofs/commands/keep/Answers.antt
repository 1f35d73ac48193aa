use Rattle.std.proofs.Common.{◌∙◌, [], ◌∷◌, Ok, refl, sym, ap, arith}
use Rattle.std.specs.Prelude.{slice_get, IsTrue}
use Rattle.std.proofs.lemmas.Result.{on_ok_weaker}
use Rattle.mz_cmd.specs.declared.code.ProofCode.TheVariants as code
use Rattle.mz_store.specs.declared.item.Item.TheVariants.{Expr, Proof}
use Rattle.mz_machine_theory.specs.Profile.{strict}
use Rattle.mz_unify.proofs.Offered.{items-in-both, are-in-both, are-still-in}
use Rattle.mz_unify.specs.Stored.{items_at}
use Rattle.mz_machine_theory.specs.ProofMachine.{proof_step}
use Rattle.mz_machine_env.specs.Before.{signatures_of, tables_of}
use Rattle.mz_machine.specs.Steps.{takes_none}
use Rattle.mz_machine.specs.OverStore.{state_at, heap_at}
use Rattle.mz_machine.proofs.Converting.{true-false}
use Rattle.mz_machine.proofs.Executed.{given-executes, ruled-executes, kept-executes, pushed-executes, stopped-executes}
use Rattle.mz_machine.proofs.HandedOn.{grows-not, on-three}
use Rattle.mz_machine.proofs.Popping.{assumed-state, heap-pushed, conversion-there}
use Rattle.mz_machine.proofs.TermResults.{dummy-state, items-still}
use Rattle.mz_machine.proofs.commands.keep.Goals as goal

pub returns-in-Ref-clause-done : goal.returns-in-Ref-clause-done
returns-in-Ref-clause-done c =
    let E = c.args.env.now in
    let s = c.args.store.now in
    let heap = c.args.heap.now.items in
    let stack = c.args.stack.now.items in
    let hyps = c.args.hyps.now.items in
    let n = c.args.value in
    let st = state_at s heap stack hyps in
    rw c.in-Ref.is (given-executes (signatures_of E) (λ at. proof_step strict (tables_of E) at code.Ref n st) (IsTrue (takes_none code.Ref n st)) s c.requires.ready.over
    heap stack c.refer.new.stack.items c.requires.ready.heap_in hyps c.requires.hyps c.args.stack.now.cap c.refer.new.stack.cap c.refer.result c.refer.ensures.ids
    (λ at. c.refer.ensures.row (tables_of E) at st (ap (heap_at s) (sym c.as_slice.ensures)) refl)
    (λ none. let there = conversion-there s heap n none in c.refer.ensures.never there.0 there.1 (ap (λ xs. slice_get xs n) c.as_slice.ensures ∙ there.2))
    (λ none. let there = conversion-there s heap n none in c.refer.ensures.capacity there.0 there.1 (ap (λ xs. slice_get xs n) c.as_slice.ensures ∙ there.2)))

pub returns-in-ConvRef-clause-done : goal.returns-in-ConvRef-clause-done
returns-in-ConvRef-clause-done c =
    let E = c.args.env.now in
    let s = c.args.store.now in
    let heap = c.args.heap.now.items in
    let stack = c.args.stack.now.items in
    let hyps = c.args.hyps.now.items in
    let n = c.args.value in
    let st = state_at s heap stack hyps in
    rw c.in-ConvRef.is (ruled-executes (signatures_of E) (λ at. proof_step strict (tables_of E) at code.ConvRef n st) (IsTrue (takes_none code.ConvRef n st)) s c.requires.ready.over
    heap stack c.conv_refer.new.stack.items c.requires.ready.heap_in hyps c.requires.hyps c.args.stack.now.cap c.conv_refer.new.stack.cap c.conv_refer.result c.by_rule.result c.by_rule.ensures c.conv_refer.ensures.ids
    (λ at. c.conv_refer.ensures.row (tables_of E) at st (ap (heap_at s) (sym c.as_slice-in-ConvRef.ensures)) refl)
    (λ none. omega (arith, c.conv_refer.ensures.capacity)))

-- ---- Dummy

pub returns-in-Ok-clause-done : goal.returns-in-Ok-clause-done
returns-in-Ok-clause-done c =
    let E = c.args.env.now in
    let s = c.args.store.now in
    let heap = c.args.heap.now.items in
    let stack = c.args.stack.now.items in
    let hyps = c.args.hyps.now.items in
    let n = c.args.value in
    let st = state_at s heap stack hyps in
    let s' = c.dummy.new.store in
    let made = c.in-Ok.made in
    let keeps = c.in-Ok.ensures.grows.keeps in
    let ready = c.requires.ready in
    rw c.in-Dummy.is (kept-executes (signatures_of E) (λ at. proof_step strict (tables_of E) at code.Dummy n st) (IsTrue (takes_none code.Dummy n st)) s s'
    c.push_both.new.heap.items stack c.push_both.new.stack.items hyps c.args.stack.now.cap c.push_both.new.stack.cap (λ none. true-false (sym none)) c.push_both.result
    (λ put. record {
      grows = c.in-Ok.ensures.grows;
      heap_in = rw put.0 (items-in-both s' heap (Expr made ∷ []) (items-still s s' keeps heap ready.heap_in) (c.in-Ok.ensures.ids, tt));
      stack_in = rw put.1 (items-in-both s' stack (Expr made ∷ []) (items-still s s' keeps stack ready.stack_in) (c.in-Ok.ensures.ids, tt));
      hyps_in = (are-still-in s s' keeps hyps c.requires.hyps.0, c.requires.hyps.1);
      opens = tt;
      row_is = λ at. c.in-Ok.ensures.row at st refl ∙ ap (λ st. Ok st) (dummy-state s s' keeps heap c.push_both.new.heap.items stack c.push_both.new.stack.items hyps made put.0 put.1 ready.heap_in ready.stack_in c.requires.hyps.0);
      no_more = λ none. absurd (true-false (sym none));
    })
    c.push_both.ensures)

pub returns-in-Err-clause-done : goal.returns-in-Err-clause-done
returns-in-Err-clause-done c =
    let E = c.args.env.now in
    let s = c.args.store.now in
    let heap = c.args.heap.now.items in
    let stack = c.args.stack.now.items in
    let hyps = c.args.hyps.now.items in
    let n = c.args.value in
    let st = state_at s heap stack hyps in
    rw c.in-Dummy.is (stopped-executes (signatures_of E) (λ at. proof_step strict (tables_of E) at code.Dummy n st) (IsTrue (takes_none code.Dummy n st)) s s heap stack stack hyps 0 0 (λ none. true-false (sym none)) c.in-Err.stop
    (λ at. c.in-Err.ensures.row at st refl))

-- ---- Hyp

pub returns-in-Ok-hyp-clause-done : goal.returns-in-Ok-hyp-clause-done
returns-in-Ok-hyp-clause-done c =
    let E = c.args.env.now in
    let s = c.args.store.now in
    let heap = c.args.heap.now.items in
    let stack = c.args.stack.now.items in
    let hyps = c.args.hyps.now.items in
    let n = c.args.value in
    let st = state_at s heap stack hyps in
    let claim = c.in-Ok-hyp.claim in
    let ids = c.in-Ok-hyp.ensures.ids in
    rw c.in-Hyp.is (pushed-executes (signatures_of E) (λ at. proof_step strict (tables_of E) at code.Hyp n st) (IsTrue (takes_none code.Hyp n st)) s s
    c.take_hyp.new.heap.items stack c.hyp.new.stack.items c.take_hyp.new.hyps.items c.args.stack.now.cap c.hyp.new.stack.cap (λ none. true-false (sym none)) c.take_hyp.result
    (on-three c.take_hyp.result (λ more also few. record {
      grows = grows-not (signatures_of E) s c.requires.ready.over;
      heap_in = rw more (items-in-both s heap (Proof claim ∷ []) c.requires.ready.heap_in (ids.0, tt));
      stack_in = ids.1;
      hyps_in = (rw also (are-in-both s hyps (claim ∷ []) c.requires.hyps.0 (ids.0, tt)), few);
      opens = tt;
      row_is = λ at. c.in-Ok-hyp.ensures.row at n st refl refl ∙ ap (λ st. Ok st) (assumed-state s heap c.take_hyp.new.heap.items c.hyp.new.stack.items hyps c.take_hyp.new.hyps.items claim more also);
      no_more = λ none. absurd (true-false (sym none));
    }) c.take_hyp.ensures.heap c.take_hyp.ensures.hyps c.take_hyp.ensures.few)
    c.take_hyp.ensures.err)

pub returns-in-Err-hyp-clause-done : goal.returns-in-Err-hyp-clause-done
returns-in-Err-hyp-clause-done c at =
    rw c.in-Hyp.is (c.in-Err-hyp.ensures.row at c.args.value (state_at c.args.store.now c.args.heap.now.items c.args.stack.now.items c.args.hyps.now.items) refl refl)

-- ---- Save

pub returns-in-Ok-save-clause-done : goal.returns-in-Ok-save-clause-done
returns-in-Ok-save-clause-done c =
    let E = c.args.env.now in
    let s = c.args.store.now in
    let heap = c.args.heap.now.items in
    let stack = c.args.stack.now.items in
    let hyps = c.args.hyps.now.items in
    let n = c.args.value in
    let st = state_at s heap stack hyps in
    let item = c.in-Ok-save.item in
    rw c.in-Save.is (pushed-executes (signatures_of E) (λ at. proof_step strict (tables_of E) at code.Save n st) (IsTrue (takes_none code.Save n st)) s s
    c.put.new.heap.items stack stack hyps c.args.stack.now.cap c.args.stack.now.cap (λ none. true-false (sym none)) c.put.result
    (on_ok_weaker c.put.result (λ is. record {
      grows = grows-not (signatures_of E) s c.requires.ready.over;
      heap_in = rw is (items-in-both s heap (item ∷ []) c.requires.ready.heap_in (c.in-Ok-save.ensures.ids, tt));
      stack_in = c.requires.ready.stack_in;
      hyps_in = c.requires.hyps;
      opens = tt;
      row_is = λ at. c.in-Ok-save.ensures.row (tables_of E) at n st (ap (items_at s) (sym c.deref.ensures.value)) ∙ ap (λ more. Ok (record st { heap = more })) (sym (heap-pushed s heap c.put.new.heap.items item is));
      no_more = λ none. absurd (true-false (sym none));
    }) c.put.ensures.ok)
    c.put.ensures.err)

pub returns-in-Err-save-clause-done : goal.returns-in-Err-save-clause-done
returns-in-Err-save-clause-done c at =
    rw c.in-Save.is (c.in-Err-save.ensures.row (tables_of c.args.env.now) at c.args.value (state_at c.args.store.now c.args.heap.now.items c.args.stack.now.items c.args.hyps.now.items)
    (ap (items_at c.args.store.now) (sym c.deref.ensures.value)))

-- ---- what the calls ask

pub refer-requires-clause-heap : goal.refer-requires-clause-heap
refer-requires-clause-heap c = rw c.as_slice.ensures c.requires.ready.heap_in

pub refer-requires-clause-stack : goal.refer-requires-clause-stack
refer-requires-clause-stack c = c.requires.ready.stack_in

pub conv_refer-requires-clause-heap : goal.conv_refer-requires-clause-heap
conv_refer-requires-clause-heap c = rw c.as_slice-in-ConvRef.ensures c.requires.ready.heap_in

pub conv_refer-requires-clause-stack : goal.conv_refer-requires-clause-stack
conv_refer-requires-clause-stack c = c.requires.ready.stack_in

pub dummy-requires : goal.dummy-requires
dummy-requires c = record { over = c.requires.ready.over }

pub hyp-requires-clause-over : goal.hyp-requires-clause-over
hyp-requires-clause-over c = c.requires.ready.over

pub hyp-requires-clause-stack : goal.hyp-requires-clause-stack
hyp-requires-clause-stack c = c.requires.ready.stack_in

pub take_hyp-requires : goal.take_hyp-requires
take_hyp-requires c = record { few = c.requires.hyps.1 }

pub save-requires : goal.save-requires
save-requires c = rw c.deref.ensures.value c.requires.ready.stack_in

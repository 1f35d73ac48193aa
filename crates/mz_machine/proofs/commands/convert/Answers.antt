use Rattle.std.proofs.Common.{◌∙◌, [], ◌∷◌, Err, Ok, length, refl, sym, ap}
use Rattle.std.specs.Prelude.{IsTrue}
use Rattle.std.proofs.lemmas.Result.{on_ok_weaker}
use Rattle.mz_cmd.specs.declared.code.ProofCode.TheVariants as code
use Rattle.mz_cmd.specs.declared.rule.K.TheVariants as k
use Rattle.mz_machine_theory.specs.Profile.{strict}
use Rattle.mz_unify.specs.declared.stop.Stop.TheVariants.{Rule}
use Rattle.mz_unify.proofs.Offered.{items-in-both}
use Rattle.mz_machine_theory.specs.ProofMachine.{proof_step}
use Rattle.mz_machine_env.specs.Before.{signatures_of, tables_of}
use Rattle.mz_machine.specs.Steps.{takes_none}
use Rattle.mz_machine.specs.OverStore.{state_at}
use Rattle.mz_machine.proofs.Converting.{true-false}
use Rattle.mz_machine.proofs.Executed.{given-executes, ruled-executes, pushed-executes, quiet}
use Rattle.mz_machine.proofs.HandedOn.{grows-not}
use Rattle.mz_machine.proofs.Popping.{heap-pushed}
use Rattle.mz_machine.proofs.RowResults.{sorry-row}
use Rattle.mz_machine.proofs.commands.convert.Goals as goal

pub returns-in-Conv-clause-done : goal.returns-in-Conv-clause-done
returns-in-Conv-clause-done g c value hyps hyps_in =
    let E = c.args.env.now in
    let s = c.args.store.now in
    let heap = c.args.heap.now.items in
    let stack = c.args.stack.now.items in
    let st = state_at s heap stack hyps in
    rw c.in-Conv.is (ruled-executes (signatures_of E) (λ at. proof_step strict (tables_of E) at code.Conv value st) (IsTrue (takes_none code.Conv value st)) s c.requires.ready.over
    heap stack c.conv.new.stack.items c.requires.ready.heap_in hyps hyps_in c.args.stack.now.cap c.conv.new.stack.cap c.conv.result c.by_rule.result c.by_rule.ensures c.conv.ensures.ids
    (λ at. c.conv.ensures.row (tables_of E) at value st refl) (λ none. c.conv.ensures.capacity))

pub returns-in-Conv-clause-steps : goal.returns-in-Conv-clause-steps
returns-in-Conv-clause-steps g c value hyps = rw c.in-Conv.is (quiet c.by_rule.result c.args.steps.now (length c.args.env.now.file))

pub returns-in-Refl-clause-done : goal.returns-in-Refl-clause-done
returns-in-Refl-clause-done g c value hyps hyps_in =
    let E = c.args.env.now in
    let s = c.args.store.now in
    let heap = c.args.heap.now.items in
    let stack = c.args.stack.now.items in
    let st = state_at s heap stack hyps in
    rw c.in-Refl.is (ruled-executes (signatures_of E) (λ at. proof_step strict (tables_of E) at code.Refl value st) (IsTrue (takes_none code.Refl value st)) s c.requires.ready.over
    heap stack c.refl.new.stack.items c.requires.ready.heap_in hyps hyps_in c.args.stack.now.cap c.refl.new.stack.cap c.refl.result c.by_rule-in-Refl.result c.by_rule-in-Refl.ensures c.refl.ensures.ids
    (λ at. c.refl.ensures.row (tables_of E) at value st refl) (λ none. c.refl.ensures.capacity))

pub returns-in-Refl-clause-steps : goal.returns-in-Refl-clause-steps
returns-in-Refl-clause-steps g c value hyps = rw c.in-Refl.is (quiet c.by_rule-in-Refl.result c.args.steps.now (length c.args.env.now.file))

pub returns-in-Symm-clause-done : goal.returns-in-Symm-clause-done
returns-in-Symm-clause-done g c value hyps hyps_in =
    let E = c.args.env.now in
    let s = c.args.store.now in
    let heap = c.args.heap.now.items in
    let stack = c.args.stack.now.items in
    let st = state_at s heap stack hyps in
    rw c.in-Symm.is (ruled-executes (signatures_of E) (λ at. proof_step strict (tables_of E) at code.Symm value st) (IsTrue (takes_none code.Symm value st)) s c.requires.ready.over
    heap stack c.symm.new.stack.items c.requires.ready.heap_in hyps hyps_in c.args.stack.now.cap c.symm.new.stack.cap c.symm.result c.by_rule-in-Symm.result c.by_rule-in-Symm.ensures c.symm.ensures.ids
    (λ at. c.symm.ensures.row (tables_of E) at value st refl) (λ none. c.symm.ensures.capacity))

pub returns-in-Symm-clause-steps : goal.returns-in-Symm-clause-steps
returns-in-Symm-clause-steps g c value hyps = rw c.in-Symm.is (quiet c.by_rule-in-Symm.result c.args.steps.now (length c.args.env.now.file))

-- ---- Unfold

pub returns-in-Unfold-clause-done : goal.returns-in-Unfold-clause-done
returns-in-Unfold-clause-done g c value hyps hyps_in =
    let E = c.args.env.now in
    let s = c.args.store.now in
    let heap = c.args.heap.now.items in
    let stack = c.args.stack.now.items in
    let st = state_at s heap stack hyps in
    rw c.in-Unfold.is (given-executes (signatures_of E) (λ at. proof_step strict (tables_of E) at code.Unfold value st) (IsTrue (takes_none code.Unfold value st)) s c.requires.ready.over
    heap stack c.unfold.new.stack.items c.requires.ready.heap_in hyps hyps_in c.args.stack.now.cap c.unfold.new.stack.cap c.unfold.result c.unfold.ensures.ids
    (λ at. c.unfold.ensures.row at value st refl refl) (λ none. absurd (true-false (sym none))) (λ none. absurd (true-false (sym none))))

pub returns-in-Unfold-clause-steps : goal.returns-in-Unfold-clause-steps
returns-in-Unfold-clause-steps g c value hyps =
    rw c.in-Unfold.is (c.unfold.ensures.steps value (state_at c.args.store.now c.args.heap.now.items c.args.stack.now.items hyps) refl refl)

-- ---- ConvCut

pub returns-in-ConvCut-clause-done : goal.returns-in-ConvCut-clause-done
returns-in-ConvCut-clause-done g c value hyps hyps_in =
    let E = c.args.env.now in
    let s = c.args.store.now in
    let heap = c.args.heap.now.items in
    let stack = c.args.stack.now.items in
    let st = state_at s heap stack hyps in
    rw c.in-ConvCut.is (given-executes (signatures_of E) (λ at. proof_step strict (tables_of E) at code.ConvCut value st) (IsTrue (takes_none code.ConvCut value st)) s c.requires.ready.over
    heap stack c.conv_cut.new.stack.items c.requires.ready.heap_in hyps hyps_in c.args.stack.now.cap c.conv_cut.new.stack.cap c.conv_cut.result c.conv_cut.ensures.ids
    (λ at. c.conv_cut.ensures.row (tables_of E) at value st refl) (λ none. absurd (true-false (sym none))) (λ none. absurd (true-false (sym none))))

pub returns-in-ConvCut-clause-steps : goal.returns-in-ConvCut-clause-steps
returns-in-ConvCut-clause-steps g c value hyps = rw c.in-ConvCut.is (quiet c.conv_cut.result c.args.steps.now (length c.args.env.now.file))

-- ---- ConvSave

pub returns-in-Ok-clause-done : goal.returns-in-Ok-clause-done
returns-in-Ok-clause-done g c value hyps hyps_in =
    let E = c.args.env.now in
    let s = c.args.store.now in
    let heap = c.args.heap.now.items in
    let stack = c.args.stack.now.items in
    let st = state_at s heap stack hyps in
    let item = c.in-Ok.item in
    let heap' = c.put.new.heap.items in
    let stack' = c.conv_save.new.stack.items in
    let after = state_at s [] stack' hyps in
    rw c.in-ConvSave.is (pushed-executes (signatures_of E) (λ at. proof_step strict (tables_of E) at code.ConvSave value st) (IsTrue (takes_none code.ConvSave value st)) s s heap' stack stack' hyps
    c.args.stack.now.cap c.conv_save.new.stack.cap (λ none. true-false (sym none)) c.put.result
    (on_ok_weaker c.put.result (λ is. record {
      grows = grows-not (signatures_of E) s c.requires.ready.over;
      heap_in = rw is (items-in-both s heap (item ∷ []) c.requires.ready.heap_in (c.in-Ok.ensures.ids.0, tt));
      stack_in = c.in-Ok.ensures.ids.1;
      hyps_in = hyps_in;
      opens = tt;
      row_is = λ at. c.in-Ok.ensures.row (tables_of E) at value st refl ∙ ap (λ more. Ok (record after { heap = more })) (sym (heap-pushed s heap heap' item is));
      no_more = λ none. absurd (true-false (sym none));
    }) c.put.ensures.ok)
    c.put.ensures.err)

pub returns-in-Ok-clause-steps : goal.returns-in-Ok-clause-steps
returns-in-Ok-clause-steps g c value hyps = rw c.in-ConvSave.is (quiet c.put.result c.args.steps.now (length c.args.env.now.file))

pub returns-in-Err-clause-done : goal.returns-in-Err-clause-done
returns-in-Err-clause-done g c value hyps hyps_in =
    rw c.in-ConvSave.is (λ at. c.in-Err.ensures.row (tables_of c.args.env.now) at value (state_at c.args.store.now c.args.heap.now.items c.args.stack.now.items hyps) refl)

pub returns-in-Err-clause-steps : goal.returns-in-Err-clause-steps
returns-in-Err-clause-steps g c value hyps = rw c.in-ConvSave.is (quiet {A = Unit {0}} (Err (Rule c.in-Err.rule)) c.args.steps.now (length c.args.env.now.file))

-- ---- Sorry

pub returns-in-Sorry-clause-done : goal.returns-in-Sorry-clause-done
returns-in-Sorry-clause-done g c value hyps hyps_in =
    rw c.in-Sorry.is (λ at. sorry-row strict (tables_of c.args.env.now) at value (state_at c.args.store.now c.args.heap.now.items c.args.stack.now.items hyps) refl)

pub returns-in-Sorry-clause-steps : goal.returns-in-Sorry-clause-steps
returns-in-Sorry-clause-steps g c value hyps = rw c.in-Sorry.is (quiet {A = Unit {0}} (Err (Rule k.Sorry)) c.args.steps.now (length c.args.env.now.file))

-- ---- what the calls ask

pub conv-requires : goal.conv-requires
conv-requires g c = c.requires.ready.stack_in

pub refl-requires : goal.refl-requires
refl-requires g c = c.requires.ready.stack_in

pub symm-requires : goal.symm-requires
symm-requires g c = c.requires.ready.stack_in

pub conv_cut-requires : goal.conv_cut-requires
conv_cut-requires g c = c.requires.ready.stack_in

pub conv_save-requires : goal.conv_save-requires
conv_save-requires g c = c.requires.ready.stack_in

pub unfold-requires-clause-over : goal.unfold-requires-clause-over
unfold-requires-clause-over g c = c.requires.ready.over

pub unfold-requires-clause-stack : goal.unfold-requires-clause-stack
unfold-requires-clause-stack g c = c.requires.ready.stack_in

pub unfold-requires-clause-mode : goal.unfold-requires-clause-mode
unfold-requires-clause-mode g c = c.requires.mode

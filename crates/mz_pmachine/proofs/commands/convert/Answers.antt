use Rattle.std.proofs.Common.{◌∙◌, [], ◌∷◌, Ok, refl, sym, ap}
use Rattle.std.proofs.lemmas.Result.{on_ok_weaker}
use Rattle.mz_pmachine_theory.specs.NodeIdentity.{portable}
use Rattle.mz_machine_env.specs.Before.{tables_of}
use Rattle.mz_pmachine_unify.proofs.Offered.{items-in-both}
use Rattle.mz_machine.proofs.Offered.{no-more, pushed-gives, ruled-gives, ruled-ok, sorry-row, unless-mem}
use Rattle.mz_pmachine.specs.OverNodes.{state_at}
use Rattle.mz_pmachine.proofs.Popping.{heap-pushed}
use Rattle.mz_pmachine.proofs.commands.convert.Goals as goal

pub returns-in-Conv-clause-ids : goal.returns-in-Conv-clause-ids
returns-in-Conv-clause-ids g c =
    on_ok_weaker c.by_rule.result (λ stack. (c.requires.heap, stack)) (ruled-ok c.conv.result c.by_rule.result _ c.by_rule.ensures c.conv.ensures.ids)

pub returns-in-Conv-clause-row : goal.returns-in-Conv-clause-row
returns-in-Conv-clause-row g c at value hyps =
    rw c.in-Conv.is (ruled-gives c.conv.result c.by_rule.result _ _ c.by_rule.ensures
    (c.conv.ensures.row (tables_of c.args.env.now) at value (state_at c.args.nodes.now c.args.heap.now.items c.args.stack.now.items hyps) refl))

pub returns-in-Conv-clause-steps : goal.returns-in-Conv-clause-steps
returns-in-Conv-clause-steps g c value hyps = rw c.in-Conv.is (unless-mem c.by_rule.result (no-more _ _ refl))

pub returns-in-Refl-clause-ids : goal.returns-in-Refl-clause-ids
returns-in-Refl-clause-ids g c =
    on_ok_weaker c.by_rule-in-Refl.result (λ stack. (c.requires.heap, stack)) (ruled-ok c.refl.result c.by_rule-in-Refl.result _ c.by_rule-in-Refl.ensures c.refl.ensures.ids)

pub returns-in-Refl-clause-row : goal.returns-in-Refl-clause-row
returns-in-Refl-clause-row g c at value hyps =
    rw c.in-Refl.is (ruled-gives c.refl.result c.by_rule-in-Refl.result _ _ c.by_rule-in-Refl.ensures
    (c.refl.ensures.row (tables_of c.args.env.now) at value (state_at c.args.nodes.now c.args.heap.now.items c.args.stack.now.items hyps) refl))

pub returns-in-Refl-clause-steps : goal.returns-in-Refl-clause-steps
returns-in-Refl-clause-steps g c value hyps = rw c.in-Refl.is (unless-mem c.by_rule-in-Refl.result (no-more _ _ refl))

pub returns-in-Symm-clause-ids : goal.returns-in-Symm-clause-ids
returns-in-Symm-clause-ids g c =
    on_ok_weaker c.by_rule-in-Symm.result (λ stack. (c.requires.heap, stack)) (ruled-ok c.symm.result c.by_rule-in-Symm.result _ c.by_rule-in-Symm.ensures c.symm.ensures.ids)

pub returns-in-Symm-clause-row : goal.returns-in-Symm-clause-row
returns-in-Symm-clause-row g c at value hyps =
    rw c.in-Symm.is (ruled-gives c.symm.result c.by_rule-in-Symm.result _ _ c.by_rule-in-Symm.ensures
    (c.symm.ensures.row (tables_of c.args.env.now) at value (state_at c.args.nodes.now c.args.heap.now.items c.args.stack.now.items hyps) refl))

pub returns-in-Symm-clause-steps : goal.returns-in-Symm-clause-steps
returns-in-Symm-clause-steps g c value hyps = rw c.in-Symm.is (unless-mem c.by_rule-in-Symm.result (no-more _ _ refl))

pub returns-in-Unfold-clause-ids : goal.returns-in-Unfold-clause-ids
returns-in-Unfold-clause-ids g c = on_ok_weaker c.unfold.result (λ stack. (c.requires.heap, stack)) c.unfold.ensures.ids

pub returns-in-Unfold-clause-row : goal.returns-in-Unfold-clause-row
returns-in-Unfold-clause-row g c at value hyps = rw c.in-Unfold.is (c.unfold.ensures.row at value (state_at c.args.nodes.now c.args.heap.now.items c.args.stack.now.items hyps) refl refl)

pub returns-in-Unfold-clause-steps : goal.returns-in-Unfold-clause-steps
returns-in-Unfold-clause-steps g c value hyps = rw c.in-Unfold.is (c.unfold.ensures.steps value (state_at c.args.nodes.now c.args.heap.now.items c.args.stack.now.items hyps) refl refl)

pub returns-in-Unfold-clause-most : goal.returns-in-Unfold-clause-most
returns-in-Unfold-clause-most g c = c.unfold.ensures.most

pub returns-in-ConvCut-clause-ids : goal.returns-in-ConvCut-clause-ids
returns-in-ConvCut-clause-ids g c = on_ok_weaker c.conv_cut.result (λ stack. (c.requires.heap, stack)) c.conv_cut.ensures.ids

pub returns-in-ConvCut-clause-row : goal.returns-in-ConvCut-clause-row
returns-in-ConvCut-clause-row g c at value hyps =
    rw c.in-ConvCut.is (c.conv_cut.ensures.row (tables_of c.args.env.now) at value (state_at c.args.nodes.now c.args.heap.now.items c.args.stack.now.items hyps) refl)

pub returns-in-ConvCut-clause-steps : goal.returns-in-ConvCut-clause-steps
returns-in-ConvCut-clause-steps g c value hyps = rw c.in-ConvCut.is (unless-mem c.conv_cut.result (no-more _ _ refl))

pub returns-in-Ok-clause-ids : goal.returns-in-Ok-clause-ids
returns-in-Ok-clause-ids g c =
    on_ok_weaker c.push.result (λ is. (
      rw is (items-in-both c.args.nodes.now c.args.heap.now.items (c.in-Ok.item ∷ []) c.requires.heap
          (c.in-Ok.ensures.ids.0, tt)),
      c.in-Ok.ensures.ids.1,
    )) c.push.ensures.ok

pub returns-in-Ok-clause-row : goal.returns-in-Ok-clause-row
returns-in-Ok-clause-row g c at value hyps =
    let s = c.args.nodes.now in
    let after = state_at s [] c.conv_save.new.stack.items hyps in
    let row = c.in-Ok.ensures.row (tables_of c.args.env.now) at value (state_at s c.args.heap.now.items c.args.stack.now.items hyps) refl in
    rw c.in-ConvSave.is (pushed-gives c.push.result _ _
    (on_ok_weaker c.push.result (λ is. row ∙ ap (λ heap. Ok (record after { heap = heap }))
    (sym (heap-pushed s c.args.heap.now.items c.push.new.items.items c.in-Ok.item is))) c.push.ensures.ok) c.push.ensures.err)

pub returns-in-Ok-clause-steps : goal.returns-in-Ok-clause-steps
returns-in-Ok-clause-steps g c value hyps = rw c.in-ConvSave.is (unless-mem c.push.result (no-more _ _ refl))

pub returns-in-Err-clause-row : goal.returns-in-Err-clause-row
returns-in-Err-clause-row g c at value hyps =
    rw c.in-ConvSave.is (c.in-Err.ensures.row (tables_of c.args.env.now) at value (state_at c.args.nodes.now c.args.heap.now.items c.args.stack.now.items hyps) refl)

pub returns-in-Err-clause-steps : goal.returns-in-Err-clause-steps
returns-in-Err-clause-steps g c value hyps = rw c.in-ConvSave.is (no-more _ _ refl)

pub returns-in-Sorry-clause-row : goal.returns-in-Sorry-clause-row
returns-in-Sorry-clause-row g c at value hyps =
    rw c.in-Sorry.is (sorry-row portable (tables_of c.args.env.now) at value (state_at c.args.nodes.now c.args.heap.now.items c.args.stack.now.items hyps) refl)

pub returns-in-Sorry-clause-steps : goal.returns-in-Sorry-clause-steps
returns-in-Sorry-clause-steps g c value hyps = rw c.in-Sorry.is (no-more _ _ refl)

-- ---- what the calls ask

pub conv-requires : goal.conv-requires
conv-requires g c = c.requires.stack

pub refl-requires : goal.refl-requires
refl-requires g c = c.requires.stack

pub symm-requires : goal.symm-requires
symm-requires g c = c.requires.stack

pub conv_cut-requires : goal.conv_cut-requires
conv_cut-requires g c = c.requires.stack

pub conv_save-requires : goal.conv_save-requires
conv_save-requires g c = c.requires.stack

pub unfold-requires-clause-over : goal.unfold-requires-clause-over
unfold-requires-clause-over g c = c.requires.over

pub unfold-requires-clause-stack : goal.unfold-requires-clause-stack
unfold-requires-clause-stack g c = c.requires.stack

use Rattle.std.proofs.Common.{◌∙◌, ◌++◌, ◌∷◌, [], Ok, refl, sym, ap, arith}
use Rattle.std.proofs.lemmas.Result.{err_from_is_err_and, on_ok_weaker, MatchResult-weaker}
use Rattle.mz_unify.proofs.Offered.{left-none}
use Rattle.mz_pmachine_unify.specs.Numbering.{expr_of}
use Rattle.mz_unify.specs.Stored.{mode_of}
use Rattle.mz_pmachine_unify.specs.Stored.{exprs_at, stack_at, items_at}
use Rattle.mz_pmachine_unify.specs.Rows.{state_at}
use Rattle.mz_pmachine_unify.proofs.HandedOver.{kept-told}
use Rattle.mz_pmachine_unify.proofs.StoredIds.{are-in-added, exprs-added}
use Rattle.mz_pmachine_unify.proofs.rows.step.Goals as goal

pub returns-in_err-open-in-Term-clause-row : goal.returns-in_err-open-in-Term-clause-row
returns-in_err-open-in-Term-clause-row c sigs es over told =
    let p = err_from_is_err_and c.from_residual.result c.from_residual.ensures.1 in
    rw (p.1, p.2, c.in-Term.is) (c.in_err-open-in-Term.ensures.plain sigs (mode_of c.args.mode) (state_at c.args.nodes.now (c.args.operands.now ++ c.args.saved.now.items) es c.args.targets.now.items c.args.hyps.now.items) refl)

pub returns-in_err-whole-in-TermSave-clause-row : goal.returns-in_err-whole-in-TermSave-clause-row
returns-in_err-whole-in-TermSave-clause-row c sigs es over told =
    let p = err_from_is_err_and c.from_residual-in_err-whole-in-TermSave.result c.from_residual-in_err-whole-in-TermSave.ensures.1 in
    rw (p.1, p.2, c.in-TermSave.is) (c.in_err-whole-in-TermSave.ensures.saved sigs (mode_of c.args.mode) (state_at c.args.nodes.now (c.args.operands.now ++ c.args.saved.now.items) es c.args.targets.now.items c.args.hyps.now.items) refl)

pub returns-in_err-met-in-Dummy-clause-row : goal.returns-in_err-met-in-Dummy-clause-row
returns-in_err-met-in-Dummy-clause-row c sigs es over told =
    let p = err_from_is_err_and c.from_residual-in_err-met-in-Dummy.result c.from_residual-in_err-met-in-Dummy.ensures.1 in
    rw (p.1, p.2, c.in-Dummy.is) (c.in_err-met-in-Dummy.ensures.row sigs (mode_of c.args.mode) (state_at c.args.nodes.now (c.args.operands.now ++ c.args.saved.now.items) es c.args.targets.now.items c.args.hyps.now.items) over told refl)

pub returns-in_ok-open-in-Term-clause-row : goal.returns-in_ok-open-in-Term-clause-row
returns-in_ok-open-in-Term-clause-row c sigs es over told = (es, told, rw (c.in-Term.is) (c.in_ok-open-in-Term.ensures.plain sigs (mode_of c.args.mode) (state_at c.args.nodes.now (c.args.operands.now ++ c.args.saved.now.items) es c.args.targets.now.items c.args.hyps.now.items) refl))

pub returns-in-Ref-clause-ids : goal.returns-in-Ref-clause-ids
returns-in-Ref-clause-ids c = on_ok_weaker c.refer.result (λ targets. (c.requires.heap, targets, c.requires.hyps)) c.refer.ensures.ids

pub returns-in-Ref-clause-left : goal.returns-in-Ref-clause-left
returns-in-Ref-clause-left c = on_ok_weaker c.refer.result (λ _. (0, omega arith, left-none c.args.hyps.now.items)) c.refer.ensures.ids

pub returns-in-Ref-clause-row : goal.returns-in-Ref-clause-row
returns-in-Ref-clause-row c sigs es over told =
    let row = c.refer.ensures.row sigs (mode_of c.args.mode) (state_at c.args.nodes.now (c.args.operands.now ++ c.args.saved.now.items) es c.args.targets.now.items c.args.hyps.now.items)
    (ap (λ is. exprs_at c.args.nodes.now (c.args.operands.now ++ is)) (sym c.deref.ensures.value)) refl in
    rw c.in-Ref.is (MatchResult-weaker c.refer.result row (λ _ is. (es, told, is)) (λ _ stops. stops))

pub returns-in-Hyp-clause-ids : goal.returns-in-Hyp-clause-ids
returns-in-Hyp-clause-ids c = on_ok_weaker c.hypothesis.result (λ ids. (c.requires.heap, ids.0, ids.1)) c.hypothesis.ensures.ids

pub returns-in-Hyp-clause-left : goal.returns-in-Hyp-clause-left
returns-in-Hyp-clause-left c = on_ok_weaker c.hypothesis.result (λ left. (1, omega arith, left)) c.hypothesis.ensures.left

pub returns-in-Hyp-clause-row : goal.returns-in-Hyp-clause-row
returns-in-Hyp-clause-row c sigs es over told =
    let row = c.hypothesis.ensures.row sigs (state_at c.args.nodes.now (c.args.operands.now ++ c.args.saved.now.items) es c.args.targets.now.items c.args.hyps.now.items) refl refl in
    rw c.in-Hyp.is (MatchResult-weaker c.hypothesis.result row (λ _ is. (es, told, is)) (λ _ stops. stops))

pub returns-in-End-clause-row : goal.returns-in-End-clause-row
returns-in-End-clause-row c sigs es over told =
    let targets = ap (stack_at c.args.nodes.now) (sym c.deref-in-End.ensures.value) in
    let items = ap (items_at c.args.nodes.now) (sym c.deref-in-End-2.ensures.value) in
    rw c.in-End.is (MatchResult-weaker c.end.result (c.end.ensures sigs (state_at c.args.nodes.now (c.args.operands.now ++ c.args.saved.now.items) es c.args.targets.now.items c.args.hyps.now.items) targets items)
    (λ _ is. (es, told, is)) (λ _ stops. stops))

pub returns-in_ok-met-in-Dummy-clause-ids : goal.returns-in_ok-met-in-Dummy-clause-ids
returns-in_ok-met-in-Dummy-clause-ids c =
    let ids = c.in_ok-met-in-Dummy.ensures.ids in
    on_ok_weaker c.keep-in-Dummy.result (λ is. (rw is (are-in-added c.args.nodes.now c.args.operands.now c.args.saved.now.items c.in_ok-met-in-Dummy.met c.requires.heap ids.0), ids.1, c.requires.hyps)) c.keep-in-Dummy.ensures.ok

pub returns-in_ok-met-in-Dummy-clause-left : goal.returns-in_ok-met-in-Dummy-clause-left
returns-in_ok-met-in-Dummy-clause-left c = on_ok_weaker c.keep-in-Dummy.result (λ _. (0, omega arith, left-none c.args.hyps.now.items)) c.keep-in-Dummy.ensures.ok

pub returns-in_ok-met-in-Dummy-clause-row : goal.returns-in_ok-met-in-Dummy-clause-row
returns-in_ok-met-in-Dummy-clause-row c sigs es over told =
    let s = c.args.nodes.now in
    let met = c.in_ok-met-in-Dummy.met in
    let fs = es ++ expr_of s met.0 ∷ [] in
    let row = c.in_ok-met-in-Dummy.ensures.row sigs (mode_of c.args.mode) (state_at s (c.args.operands.now ++ c.args.saved.now.items) es c.args.targets.now.items c.args.hyps.now.items) over told refl in
    let after = state_at s [] fs c.dummy.new.targets.items c.args.hyps.now.items in
    rw c.in-Dummy.is (kept-told c.keep-in-Dummy.result _ _
    (λ is kept. (fs, kept, row ∙ ap (λ heap. Ok (record after { heap = heap })) (sym (ap (λ is. exprs_at s (c.args.operands.now ++ is)) is ∙ exprs-added s c.args.operands.now c.args.saved.now.items met))))
    c.keep-in-Dummy.ensures.ok (c.keep-in-Dummy.ensures.told sigs es over told) c.keep-in-Dummy.ensures.err)

pub returns-in_ok-keep-in-TermSave-clause-ids : goal.returns-in_ok-keep-in-TermSave-clause-ids
returns-in_ok-keep-in-TermSave-clause-ids c =
    (rw c.in_ok-keep-in-TermSave.ensures.ok (are-in-added c.args.nodes.now c.args.operands.now c.args.saved.now.items c.in_ok-whole-in-TermSave.whole c.requires.heap c.in_ok-whole-in-TermSave.ensures.ids.0), c.in_ok-whole-in-TermSave.ensures.ids.1, c.requires.hyps)

pub returns-in_ok-keep-in-TermSave-clause-row : goal.returns-in_ok-keep-in-TermSave-clause-row
returns-in_ok-keep-in-TermSave-clause-row c sigs es over told = (
  es ++ expr_of c.args.nodes.now c.in_ok-whole-in-TermSave.whole.0 ∷ [],
  c.in_ok-keep-in-TermSave.ensures.told sigs es over told,
  rw (c.in-TermSave.is, c.in_ok-keep-in-TermSave.ensures.ok, exprs-added c.args.nodes.now c.args.operands.now c.args.saved.now.items c.in_ok-whole-in-TermSave.whole)
      (c.in_ok-whole-in-TermSave.ensures.saved sigs (mode_of c.args.mode) (state_at c.args.nodes.now (c.args.operands.now ++ c.args.saved.now.items) es c.args.targets.now.items c.args.hyps.now.items) refl),
)

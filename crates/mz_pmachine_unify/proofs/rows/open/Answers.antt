use Rattle.std.proofs.Common.{◌≡◌, ◌++◌, Some, ◌∙◌, sym}
use Rattle.std.specs.Prelude.{reverse}
use Rattle.mz_pmachine_unify.specs.Numbering.{expr_of, head_of}
use Rattle.mz_pmachine_unify.specs.Stored.{stack_at}
use Rattle.mz_pmachine_unify.proofs.StoredIds.{are-in-both, are-in-reverse, put-there}
use Rattle.mz_unify.proofs.Offered.{term-none, save-none, term-other, save-other, term-row, save-row, heads-differ, heads-same}
use Rattle.mz_pmachine_theory.specs.NodeIdentity.{portable}
use Rattle.mz_pmachine_unify.proofs.Parts.{of-numbered}
use Rattle.mz_pmachine_unify.proofs.rows.open.Goals as goal

pub returns-in_default-clause-plain : goal.returns-in_default-clause-plain
returns-in_default-clause-plain c sigs mode st is = term-none portable sigs c.args.nodes.now.context mode st c.args.term (is ∙ c.in_default.ensures.none)

pub returns-in_default-clause-saved : goal.returns-in_default-clause-saved
returns-in_default-clause-saved c sigs mode st is = save-none portable sigs c.args.nodes.now.context mode st c.args.term (is ∙ c.in_default.ensures.none)

pub returns-then-ne-clause-plain : goal.returns-then-ne-clause-plain
returns-then-ne-clause-plain c sigs mode st is =
    term-other portable sigs c.args.nodes.now.context mode st of-numbered c.args.term _ _ (is ∙ c.in-Some.ensures.some) (λ h. heads-differ c.head.result c.args.term (sym c.ne.ensures ∙ c.if-ne.true) (c.head.ensures ∙ h))

pub returns-then-ne-clause-saved : goal.returns-then-ne-clause-saved
returns-then-ne-clause-saved c sigs mode st is =
    save-other portable sigs c.args.nodes.now.context mode st of-numbered c.args.term _ _ (is ∙ c.in-Some.ensures.some) (λ h. heads-differ c.head.result c.args.term (sym c.ne.ensures ∙ c.if-ne.true) (c.head.ensures ∙ h))

pub returns-clause-ids : goal.returns-clause-ids
returns-clause-ids c = (c.in-Some.ensures.ids.0, rw c.in_ok-push_operands.ensures.ok (are-in-both c.args.nodes.now _ _ c.in-Some.ensures.ids.1 (are-in-reverse c.args.nodes.now c.args-2.result.now c.args-2.ensures.ids)))

pub returns-clause-plain : goal.returns-clause-plain
returns-clause-plain c sigs mode st is =
    let h : head_of (expr_of c.args.nodes.now c.in-Some.top.0) ≡ Some c.args.term = sym c.head.ensures ∙ heads-same c.head.result c.args.term (sym c.ne.ensures ∙ c.if-ne.false) in
    rw c.in_ok-push_operands.ensures.ok (term-row portable sigs c.args.nodes.now.context mode st of-numbered c.args.term (expr_of c.args.nodes.now c.in-Some.top.0) (stack_at c.args.nodes.now c.take_top.new.targets.items) (stack_at c.args.nodes.now (c.take_top.new.targets.items ++ reverse c.args-2.result.now)) (is ∙ c.in-Some.ensures.some) h (put-there c.args.nodes.now (expr_of c.args.nodes.now c.in-Some.top.0) c.take_top.new.targets.items c.args-2.result.now c.args-2.ensures.exprs))

pub returns-clause-saved : goal.returns-clause-saved
returns-clause-saved c sigs mode st is =
    let h : head_of (expr_of c.args.nodes.now c.in-Some.top.0) ≡ Some c.args.term = sym c.head.ensures ∙ heads-same c.head.result c.args.term (sym c.ne.ensures ∙ c.if-ne.false) in
    rw c.in_ok-push_operands.ensures.ok (save-row portable sigs c.args.nodes.now.context mode st of-numbered c.args.term (expr_of c.args.nodes.now c.in-Some.top.0) (stack_at c.args.nodes.now c.take_top.new.targets.items) (stack_at c.args.nodes.now (c.take_top.new.targets.items ++ reverse c.args-2.result.now)) (is ∙ c.in-Some.ensures.some) h (put-there c.args.nodes.now (expr_of c.args.nodes.now c.in-Some.top.0) c.take_top.new.targets.items c.args-2.result.now c.args-2.ensures.exprs))

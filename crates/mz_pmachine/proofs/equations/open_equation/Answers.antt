use Rattle.std.proofs.Common.{◌≡◌, ◌∙◌, List, [], Some, Ok, refl, sym, ap, subst, arith}
use Rattle.std.specs.Prelude.{reverse}
use Rattle.std.proofs.lemmas.List.{append-nil}
use Rattle.std.proofs.lemmas.Result.{on_ok_weaker}
use Rattle.mz_cmd.specs.declared.code.ProofCode.TheVariants.{Cong}
use Rattle.mz_store.specs.declared.item.Item.{Item as Kept}
use Rattle.mz_machine_theory.specs.Profile.{Item as UnifyItem}
use Rattle.mz_machine.specs.OpenEquations.{AreOpen, AreSettled, opened_on, whole_stack}
use Rattle.mz_machine.proofs.Offered.{all-less, asks-within, memory-stops, pushed-gives}
use Rattle.mz_pmachine_theory.specs.NodeIdentity.{Numbered}
use Rattle.mz_pmachine_unify.specs.Stored.{items_at}
use Rattle.mz_pmachine.specs.OpenNodes.{of_nodes}
use Rattle.mz_pmachine.specs.OverNodes.{state_at, with_stack}
use Rattle.mz_pmachine.proofs.Proceeding.{whole-refused, whole-through}
use Rattle.mz_pmachine.proofs.equations.open_equation.Goals as goal

pub returns-in-Err-clause-row : goal.returns-in-Err-clause-row
returns-in-Err-clause-row c tables at n heap hyps =
    let s = c.args.nodes.now in
    let es = c.args.equations.now.items in
    whole-refused tables s heap c.args.stack.now.items hyps es c.requires.settled Cong n (asks-within es 0 _ (omega arith)) at c.in-Err.rule (c.in-Err.ensures.row tables at n (state_at s heap c.args.stack.now.items hyps) refl)

pub returns-in-Ok-begin-clause-row : goal.returns-in-Ok-begin-clause-row
returns-in-Ok-begin-clause-row c tables at n heap hyps =
    let s = c.args.nodes.now in
    let es = c.args.equations.now.items in
    let taken = c.cong.new.stack.items in
    let st = state_at s heap c.args.stack.now.items hyps in
    let row = c.in-Ok.ensures.row tables at n st refl in
    let through = whole-through tables s heap c.args.stack.now.items hyps es c.requires.settled Cong n (asks-within es 0 _ (omega arith)) s ([], sym (append-nil s.entries), omega arith) heap taken hyps (Some c.in-Ok.sides) (_, c.in-Ok.ensures.owed) at row in
    let begun = subst (λ (xs : List Kept). whole_stack (of_nodes s) (reverse c.begin.new.equations.items) (items_at s xs) ≡ opened_on (of_nodes s) (Some c.in-Ok.sides) (whole_stack (of_nodes s) (reverse es) (items_at s xs))) c.deref.ensures.value c.in-Ok-begin.ensures.done.1 in
    pushed-gives c.settle.result _ _ (on_ok_weaker c.settle.result (λ settled. through.1 ∙ ap (λ (ws : List (UnifyItem Numbered)). Ok (with_stack (state_at s heap taken hyps) ws)) (sym (settled.2 ∙ begun))) c.settle.ensures.done) c.settle.ensures.err

pub returns-in-Ok-begin-clause-done : goal.returns-in-Ok-begin-clause-done
returns-in-Ok-begin-clause-done c = on_ok_weaker c.settle.result (λ settled. (settled.0, settled.1)) c.settle.ensures.done

pub returns-in-Err-begin-clause-row : goal.returns-in-Err-begin-clause-row
returns-in-Err-begin-clause-row c tables at n heap hyps = memory-stops _ _ c.in-Err-begin.ensures.err

-- ---- what the calls ask

pub begin-requires-clause-standing : goal.begin-requires-clause-standing
begin-requires-clause-standing c =
    let s = c.args.nodes.now in
    let es = reverse c.args.equations.now.items in
    subst (λ (xs : List Kept). AreOpen (of_nodes s) es (items_at s xs)) (sym c.deref.ensures.value)
    (all-less (of_nodes s) _ es (items_at s c.cong.new.stack.items) (subst (λ (ys : List (UnifyItem Numbered)). AreSettled (of_nodes s) es ys) c.in-Ok.ensures.owed c.requires.settled))

pub settle-requires-clause-standing : goal.settle-requires-clause-standing
settle-requires-clause-standing c =
    let s = c.args.nodes.now in
    subst (λ (xs : List Kept). AreOpen (of_nodes s) (reverse c.begin.new.equations.items) (items_at s xs)) c.deref.ensures.value c.in-Ok-begin.ensures.done.0

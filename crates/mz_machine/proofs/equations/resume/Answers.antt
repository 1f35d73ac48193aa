use Rattle.std.proofs.Common.{◌∙◌, List, sym, ap, subst}
use Rattle.std.specs.Prelude.{reverse}
use Rattle.std.proofs.lemmas.Result.{MatchResult-weaker}
use Rattle.mz_store.specs.declared.item.Item.{Item as Kept}
use Rattle.mz_unify.specs.Stored.{items_at}
use Rattle.mz_machine.specs.OpenEquations.{stored, AreOpen, IsInHand, opened_on, whole_stack}
use Rattle.mz_machine.specs.declared.equations.Equation.{Equation}
use Rattle.mz_machine.proofs.Executed.{wants-for}
use Rattle.mz_machine.proofs.equations.resume.Goals as goal

pub returns-in-Ok : goal.returns-in-Ok
returns-in-Ok c =
    let s = c.args.store.now in
    let begun = c.in-Ok.ensures in
    let whole = ap (λ (xs : List Kept). whole_stack (stored s) (reverse c.begin.new.equations.items) (items_at s xs)) (sym c.deref.ensures.value) ∙ begun.1
    ∙ ap (λ (xs : List Kept). opened_on (stored s) c.args.opened (whole_stack (stored s) (reverse c.args.equations.now.items) (items_at s xs))) c.deref.ensures.value in
    MatchResult-weaker c.settle.result c.settle.ensures (λ _ h. (h.0, h.1, h.2 ∙ whole))
    (wants-for _ _ λ n. subst (λ (es : List Equation). IsInHand (reverse es) c.args.stack.now.cap) (sym (begun.2 n.0)) n.1)

pub returns-in-Err : goal.returns-in-Err
returns-in-Err c = wants-for _ _ (λ n. n.0) c.in-Err.stop c.in-Err.ensures

pub settle-requires-clause-standing : goal.settle-requires-clause-standing
settle-requires-clause-standing c =
    let s = c.args.store.now in
    subst (λ (xs : List Kept). AreOpen (stored s) (reverse c.begin.new.equations.items) (items_at s xs)) c.deref.ensures.value c.in-Ok.ensures.0

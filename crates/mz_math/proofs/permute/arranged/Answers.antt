use Rattle.std.proofs.Common.{◌≡◌, ◌∙◌, ap, sym, subst}
use Rattle.std.proofs.lemmas.Result.{IfOk-weaker}
use Rattle.mz_logic_theory.specs.View.{trees}
use Rattle.mz_math_theory.specs.Notation.{places}
use Rattle.mz_math.specs.Arrange.{AreDistinct, picked}
use Rattle.mz_math_theory.specs.Grammar.{arranged as in_order}
use Rattle.mz_math.proofs.Picking.{distinct-is, picked-is}
use Rattle.mz_math.proofs.permute.arranged.Goals as goal

pub picked_in_order-requires : goal.picked_in_order-requires
picked_in_order-requires c =
    subst AreDistinct (sym c.deref.ensures.value) (distinct-is (places c.args.elements.now) c.in_ok-order.order.items c.args.many c.in_ok-order.ensures.many c.in_ok-order.ensures.firsts)

pub returns : goal.returns
returns c =
    let js = places c.args.elements.now in
    let own : trees c.deref_mut.result.now ≡ c.args.operands = ap trees c.deref_mut.ensures.value ∙ c.into_vec-items.ensures in
    let all : picked (trees c.deref_mut.result.now) c.deref.result.now ≡ in_order js c.args.operands 0 c.args.many =
    ap (picked (trees c.deref_mut.result.now)) c.deref.ensures.value
    ∙ picked-is js c.in_ok-order.order.items c.args.many c.in_ok-order.ensures.many c.in_ok-order.ensures.firsts (trees c.deref_mut.result.now)
    ∙ ap (λ es. in_order js es 0 c.args.many) own in
    IfOk-weaker c.picked_in_order.result _ _ (λ es is. is ∙ all) c.picked_in_order.ensures

use Rattle.std.proofs.Common.{◌∙◌, None, get_or, length, ap, arith, rules}
use Rattle.std.proofs.lemmas.List.{with_items_is}
use Rattle.mz_math.proofs.Picking.{get_or-alike}
use Rattle.mz_math.proofs.permute.order_of.Goals as goal

pub note_order-requires : goal.note_order-requires
note_order-requires c = λ i. ap (λ os. get_or os i None) (c.deref_mut.ensures.value ∙ c.in_ok-order.ensures.items_if_clones_equal (λ y h. search rules)) ∙ get_or-alike c.args.many i None

pub returns-clause-many : goal.returns-clause-many
returns-clause-many c =
    let written = with_items_is c.in_ok-order.order c.note_order.new.order (c.note_order.ensures.many ∙ c.deref_mut.ensures.len) in
    ap length written ∙ c.note_order.ensures.many ∙ c.deref_mut.ensures.len ∙ c.in_ok-order.ensures.len

pub returns-clause-firsts : goal.returns-clause-firsts
returns-clause-firsts c = λ i below.
    let written = with_items_is c.in_ok-order.order c.note_order.new.order (c.note_order.ensures.many ∙ c.deref_mut.ensures.len) in
    let many = c.deref_mut.ensures.len ∙ c.in_ok-order.ensures.len in
    ap (λ os. get_or os i None) written ∙ c.note_order.ensures.firsts i (omega (arith, below, many))

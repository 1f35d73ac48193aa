use Rattle.std.proofs.Common.{◌∙◌, ap, arith, refl, sym, true≢false}
use Rattle.mz_base.proofs.Offered.{drop-item}
use Rattle.mz_logic_theory.specs.Tree.{app}
use Rattle.mz_mmu_theory.specs.ConvCode.{convs_steps}
use Rattle.mz_mmu_theory.specs.ConvView.{conversions}
use Rattle.mz_type_rules.specs.Claims.{claim_tree, put_in, all_put_in}
use Rattle.mz_mmu_theory.specs.Sides.{sides}
use Rattle.mz_type_rules.proofs.Claims.{put_many, sides_length, lengths_differ}
use Rattle.mz_type_rules.proofs.ClaimSides.{never, no_variable, other_term, same_as, terms_as, put_app, sides_cut, sides_end}
use Rattle.mz_type_rules.proofs.claim.+is_side.Goals as goal

pub is_side-returns-in-Own : goal.is_side-returns-in-Own
is_side-returns-in-Own t c = same_as c.same_claim.result (c.of.ensures ∙ c.in-Own.ensures.same) refl c.same_claim.ensures

pub is_side-returns-in-Term : goal.is_side-returns-in-Term
is_side-returns-in-Term t c = same_as c.same_claim-in-Term.result (ap (app c.in-Term.t) (c.of-es.ensures ∙ c.borrowed.ensures) ∙ c.in-Term.ensures.same) refl c.same_claim-in-Term.ensures

pub is_side-returns-in-Var : goal.is_side-returns-in-Var
is_side-returns-in-Var t c = never (λ e. no_variable (c.in-Under.ensures.same ∙ e ∙ ap claim_tree c.in-Var.is))

pub is_side-returns-then-t-u : goal.is_side-returns-then-t-u
is_side-returns-then-t-u t c = never (λ e. other_term c.if-t-u.true (c.in-Under.ensures.same ∙ e ∙ ap claim_tree c.in-App.is))

pub is_side-returns-else-t-u : goal.is_side-returns-else-t-u
is_side-returns-else-t-u t c = same_as c.are_sides.result c.in-Under.ensures.same (sym (ap claim_tree c.in-App.is))
    (terms_as c.are_sides.result c.if-t-u.false (ap (sides c.in-Under.right) c.as_slice.ensures) (ap (all_put_in c.in-App.put) c.operands.ensures) c.are_sides.ensures)

pub is_side_read-returns : goal.is_side_read-returns
is_side_read-returns t c = same_as c.is_side.result refl (c.with.ensures ∙ ap (put_in c.args.put.now) c.shape.ensures) c.is_side.ensures

pub is_side_with-returns-then-t-u : goal.is_side_with-returns-then-t-u
is_side_with-returns-then-t-u t c = never (λ e. other_term c.if-t-u.true (c.in-Under-App.ensures.same ∙ e
    ∙ ap (put_in c.args.put.now) (sym c.in-Under-App.ensures') ∙ put_app c.args.put.now c.in-Under-App.u c.in-Under-App.es))

pub is_side_with-returns-else-t-u : goal.is_side_with-returns-else-t-u
is_side_with-returns-else-t-u t c =
    let q = ap (put_in c.args.put.now) (sym c.in-Under-App.ensures') ∙ put_app c.args.put.now c.in-Under-App.u c.in-Under-App.es in
    same_as c.are_sides.result c.in-Under-App.ensures.same (sym q)
    (terms_as c.are_sides.result c.if-t-u.false (ap (sides c.in-Under-App.right) c.as_slice.ensures) refl c.are_sides.ensures)

pub is_side_with-returns-in_default : goal.is_side_with-returns-in_default
is_side_with-returns-in_default t c = c.is_side_read.ensures

pub are_sides-returns-then-convs-len : goal.are_sides-returns-then-convs-len
are_sides-returns-then-convs-len t c = never (lengths_differ _ _ _ _ (sides_length c.args.right c.args.convs.now) (put_many c.args.put.now c.args.es.now ∙ sym c.len.ensures) c.if-convs-len.true)

pub are_sides-returns-then-not-is : goal.are_sides-returns-then-not-is
are_sides-returns-then-not-is t c =
    let below = c.loop-i-test.true in
    let cut = sides_cut c.args.right c.args.put.now c.args.convs.now c.args.es.now c.loop-i.i c.index-convs-i.result c.at.result below c.index-convs-i.is c.at.ensures.left in
    never (λ whole. true≢false (sym (c.in_ok-is.ensures.1 (cut.0 (c.loop-i.invariant.so_far.1 whole)).0) ∙ c.if-not-is.true))

pub are_sides-loop-i-preserved : goal.are_sides-loop-i-preserved
are_sides-loop-i-preserved t c =
    let below = c.loop-i-test.true in
    let cut = sides_cut c.args.right c.args.put.now c.args.convs.now c.args.es.now c.loop-i.i c.index-convs-i.result c.at.result below c.index-convs-i.is c.at.ensures.left in
    let sizes = ap (λ l. convs_steps (conversions l)) (drop-item c.args.convs.now c.loop-i.i c.index-convs-i.result below c.index-convs-i.is) in
    let small = c.loop-i.invariant.small in
    record {
      so_far = (λ rest. c.loop-i.invariant.so_far.0 (cut.1 (c.in_ok-is.ensures.0 c.if-not-is.false, rest)), λ whole. (cut.0 (c.loop-i.invariant.so_far.1 whole)).1);
      many = c.loop-i.invariant.many;
      small = omega (arith, sizes, small);
    }

pub are_sides-returns : goal.are_sides-returns
are_sides-returns t c =
    let end = sides_end c.args.right c.args.put.now c.args.convs.now c.args.es.now c.loop-i.i c.loop-i-test.false (omega (arith, c.loop-i-test.false, c.loop-i.invariant.many)) in
    (λ _. c.loop-i.invariant.so_far.0 end, λ _. refl)

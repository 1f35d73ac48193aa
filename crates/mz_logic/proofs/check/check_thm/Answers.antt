use Rattle.std.proofs.Common.{true≢false, refl, sym, ◌∙◌, inl, inr}
use Rattle.mz_logic.proofs.check.check_thm.Goals as goal

pub returns-then-not-claim_sorts_are_right : goal.returns-then-not-claim_sorts_are_right
returns-then-not-claim_sorts_are_right c =
    inr ((c.thm_names_are_there.ensures.0 c.if-not-thm_names_are_there.false), inr ((c.are_params.ensures.0 c.if-not-are_params.false), inr (tt, inl (λ m. true≢false (sym (c.claim_sorts_are_right.ensures.1 m) ∙ c.if-not-claim_sorts_are_right.true), refl))))

pub returns-then-not-claims_have_bound_operands : goal.returns-then-not-claims_have_bound_operands
returns-then-not-claims_have_bound_operands c =
    inr ((c.thm_names_are_there.ensures.0 c.if-not-thm_names_are_there.false), inr ((c.are_params.ensures.0 c.if-not-are_params.false), inr (tt, inr ((c.claim_sorts_are_right.ensures.0 c.if-not-claim_sorts_are_right.false), inl (λ m. true≢false (sym (c.claims_have_bound_operands.ensures.1 m) ∙ c.if-not-claims_have_bound_operands.true), refl)))))

pub returns-then-not-claims_are_provable : goal.returns-then-not-claims_are_provable
returns-then-not-claims_are_provable c =
    inr ((c.thm_names_are_there.ensures.0 c.if-not-thm_names_are_there.false), inr ((c.are_params.ensures.0 c.if-not-are_params.false), inr (tt, inr ((c.claim_sorts_are_right.ensures.0 c.if-not-claim_sorts_are_right.false), inr ((c.claims_have_bound_operands.ensures.0 c.if-not-claims_have_bound_operands.false), inl (λ m. true≢false (sym (c.claims_are_provable.ensures.1 m) ∙ c.if-not-claims_are_provable.true), refl))))))

pub returns : goal.returns
returns c =
    ((c.thm_names_are_there.ensures.0 c.if-not-thm_names_are_there.false), ((c.are_params.ensures.0 c.if-not-are_params.false), (tt, ((c.claim_sorts_are_right.ensures.0 c.if-not-claim_sorts_are_right.false), ((c.claims_have_bound_operands.ensures.0 c.if-not-claims_have_bound_operands.false), ((c.claims_are_provable.ensures.0 c.if-not-claims_are_provable.false), (tt, (tt, tt))))))))

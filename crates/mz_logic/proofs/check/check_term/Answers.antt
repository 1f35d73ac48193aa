use Rattle.std.proofs.Common.{true≢false, refl, sym, ◌∙◌, inl, inr, subst, All}
use Rattle.mz_logic_theory.specs.Declaration.{sorts}
use Rattle.mz_logic_theory.specs.Modifiers.{MayBeDummySort}
use Rattle.mz_logic.proofs.check.check_term.Goals as goal

pub returns-then-not-dummy_sorts_are_right : goal.returns-then-not-dummy_sorts_are_right
returns-then-not-dummy_sorts_are_right c =
    inr ((c.term_names_are_there.ensures.0 c.if-not-term_names_are_there.false), inr ((c.term_binders_are_right.ensures.0 c.if-not-term_binders_are_right.false), inr ((c.may_be_result_sort.ensures.0 c.if-not-may_be_result_sort.false), inr ((c.body_sorts_are_right.ensures.0 c.if-not-body_sorts_are_right.false), inr ((c.body_has_bound_operands.ensures.0 c.if-not-body_has_bound_operands.false), inr (tt, inl (λ m. true≢false (sym (c.dummy_sorts_are_right.ensures.1 (subst (All (λ b. MayBeDummySort (sorts c.args.env.now) b.sort)) (sym c.dummies.ensures) m)) ∙ c.if-not-dummy_sorts_are_right.true), refl)))))))

pub returns-then-not-body_deps_are_right : goal.returns-then-not-body_deps_are_right
returns-then-not-body_deps_are_right c =
    inr ((c.term_names_are_there.ensures.0 c.if-not-term_names_are_there.false), inr ((c.term_binders_are_right.ensures.0 c.if-not-term_binders_are_right.false), inr ((c.may_be_result_sort.ensures.0 c.if-not-may_be_result_sort.false), inr ((c.body_sorts_are_right.ensures.0 c.if-not-body_sorts_are_right.false), inr ((c.body_has_bound_operands.ensures.0 c.if-not-body_has_bound_operands.false), inr (tt, inr ((subst (All (λ b. MayBeDummySort (sorts c.args.env.now) b.sort)) c.dummies.ensures (c.dummy_sorts_are_right.ensures.0 c.if-not-dummy_sorts_are_right.false)), inl (λ m. true≢false (sym (c.body_deps_are_right.ensures.1 m) ∙ c.if-not-body_deps_are_right.true), refl))))))))

pub returns : goal.returns
returns c =
    ((c.term_names_are_there.ensures.0 c.if-not-term_names_are_there.false), ((c.term_binders_are_right.ensures.0 c.if-not-term_binders_are_right.false), ((c.may_be_result_sort.ensures.0 c.if-not-may_be_result_sort.false), ((c.body_sorts_are_right.ensures.0 c.if-not-body_sorts_are_right.false), ((c.body_has_bound_operands.ensures.0 c.if-not-body_has_bound_operands.false), (tt, ((subst (All (λ b. MayBeDummySort (sorts c.args.env.now) b.sort)) c.dummies.ensures (c.dummy_sorts_are_right.ensures.0 c.if-not-dummy_sorts_are_right.false)), ((c.body_deps_are_right.ensures.0 c.if-not-body_deps_are_right.false), tt))))))))

pub body_deps_are_right-requires-clause-binders : goal.body_deps_are_right-requires-clause-binders
body_deps_are_right-requires-clause-binders c = c.term_binders_are_right.ensures.0 c.if-not-term_binders_are_right.false

use Rattle.std.proofs.Common.{◌∙◌, map, ap, sym, subst, refl, inl, inr}
use Rattle.mz_spec_variables.specs.Code.{AreGrouped, variable}
use Rattle.mz_spec_rules.specs.Entries.{state}
use Rattle.mz_spec_theory.specs.Dependencies.{Every}
use Rattle.mz_spec_theory.specs.Rules.{IsDummySort, IsNotPure}
use Rattle.mz_spec_theory.proofs.Offered.{test-in, test-out}
use Rattle.mz_spec_rules.proofs.state.State.check_binders.Goals as goal

pub returns-then-not-have_binders : goal.returns-then-not-have_binders
returns-then-not-have_binders c = λ vs ts rs parts. inl (test-out c.have_binders.result (c.have_binders.ensures vs ts rs parts) c.if-not-have_binders.true, refl)

pub returns-then-not-are_dummy_sorts : goal.returns-then-not-are_dummy_sorts
returns-then-not-are_dummy_sorts c = λ vs ts rs parts.
    let same = ap (map variable) c.deref.ensures.value ∙ parts.dummies in
    let out = test-out c.are_dummy_sorts.result (c.are_dummy_sorts.ensures (subst AreGrouped (sym c.deref.ensures.value) parts.grouped_dummies)) c.if-not-are_dummy_sorts.true in
    inr (test-in c.have_binders.result (c.have_binders.ensures vs ts rs parts) c.if-not-have_binders.false, inl (λ all. out (subst (Every (IsDummySort (state c.args.self.now))) (sym same) all), refl))

pub returns-then-not-is_not_pure : goal.returns-then-not-is_not_pure
returns-then-not-is_not_pure c = λ vs ts rs parts.
    let same = ap (map variable) c.deref.ensures.value ∙ parts.dummies in
    let dummies = test-in c.are_dummy_sorts.result (c.are_dummy_sorts.ensures (subst AreGrouped (sym c.deref.ensures.value) parts.grouped_dummies)) c.if-not-are_dummy_sorts.false in
    let out = test-out c.is_not_pure.result c.is_not_pure.ensures c.if-not-is_not_pure.true in
    inr (
      test-in c.have_binders.result (c.have_binders.ensures vs ts rs parts) c.if-not-have_binders.false,
      inr (subst (Every (IsDummySort (state c.args.self.now))) same dummies, inl (λ all. out (subst (Every (IsNotPure (state c.args.self.now))) (sym parts.result) all), refl)),
    )

pub returns : goal.returns
returns c = λ vs ts rs parts.
    let same = ap (map variable) c.deref.ensures.value ∙ parts.dummies in
    let dummies = test-in c.are_dummy_sorts.result (c.are_dummy_sorts.ensures (subst AreGrouped (sym c.deref.ensures.value) parts.grouped_dummies)) c.if-not-are_dummy_sorts.false in
    let pure = test-in c.is_not_pure.result c.is_not_pure.ensures c.if-not-is_not_pure.false in (
      test-in c.have_binders.result (c.have_binders.ensures vs ts rs parts) c.if-not-have_binders.false,
      (subst (Every (IsDummySort (state c.args.self.now))) same dummies, (subst (Every (IsNotPure (state c.args.self.now))) parts.result pure, tt)),
    )

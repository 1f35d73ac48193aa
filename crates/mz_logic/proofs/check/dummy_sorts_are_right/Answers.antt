use Rattle.std.proofs.Common.{ℕ, refl, sym, ◌∙◌, true≢false}
use Rattle.mz_logic_theory.specs.Declaration.{sorts}
use Rattle.mz_logic_theory.specs.Modifiers.{MayBeDummySort}
use Rattle.mz_logic_theory.specs.declared.binder.Binder.{Binder}
use Rattle.mz_logic_theory.proofs.Offered.{each_so_far_more, not_all}
use Rattle.mz_logic.proofs.check.dummy_sorts_are_right.Goals as goal

pub returns-then-not-may_be_dummy_sort : goal.returns-then-not-may_be_dummy_sort
returns-then-not-may_be_dummy_sort c =
    let P : Binder → Type 0 = λ b. MayBeDummySort (sorts c.args.env.now) b.sort in (
      λ t. absurd (true≢false (sym t)),
      λ all. absurd (not_all P c.args.dummies.now c.loop-b.b-index c.b-item.result c.loop-b-test.true c.b-item.is
          (λ h. true≢false (sym (c.may_be_dummy_sort.ensures.1 h) ∙ c.if-not-may_be_dummy_sort.true)) all),
    )

pub loop-b-preserved : goal.loop-b-preserved
loop-b-preserved c =
    let P : ℕ → Binder → Type 0 = λ _ b. MayBeDummySort (sorts c.args.env.now) b.sort in
    each_so_far_more P c.args.dummies.now c.loop-b.b-index c.b-item.result c.loop-b.invariant c.loop-b-test.true c.b-item.is (c.if-not-may_be_dummy_sort.ensures.0 refl)

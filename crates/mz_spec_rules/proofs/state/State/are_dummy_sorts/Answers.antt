use Rattle.std.proofs.Common.{map, refl, sym, true≢false}
use Rattle.std.proofs.lemmas.Option.{none-some}
use Rattle.mz_spec_theory.specs.StatementCode.{type_text}
use Rattle.mz_spec_theory.specs.Dependencies.{Every}
use Rattle.mz_spec_theory.specs.Rules.{IsDummySort}
use Rattle.mz_spec_theory.proofs.Offered.{test-in, test-out}
use Rattle.mz_spec_variables.specs.Code.{variable}
use Rattle.mz_spec_rules.specs.Entries.{state}
use Rattle.mz_spec_rules.proofs.Binding.{dummy-step, each-end, each-out, each-step, typed-at}
use Rattle.mz_spec_rules.proofs.state.State.are_dummy_sorts.Goals as goal

pub loop-dummy-init : goal.loop-dummy-init
loop-dummy-init c = record { sorts = λ types all. (λ are. are, λ are. are); last = λ types all g t none told. absurd (none-some _ none) }

pub loop-dummy-preserved : goal.loop-dummy-preserved
loop-dummy-preserved c =
    let σ = state c.args.self.now in
    let xs = c.args.dummies.now in
    let i = c.loop-dummy.dummy-index in
    let x = c.dummy-item.result in
    let below = c.loop-dummy-test.true in
    let is = c.dummy-item.is in record {
      sorts = λ types all. each-step (IsDummySort σ) xs i (Every (IsDummySort σ) (map variable xs)) (c.loop-dummy.invariant.sorts types all) x below is
          (test-in c.is_dummy_sort.result (c.is_dummy_sort.ensures (λ g own same. c.loop-dummy.invariant.last types all g (type_text x.ty.now) same (typed-at types xs i x below is all g own))) c.if-not-is_dummy_sort.false);
      last = λ types all. dummy-step types xs i x below is all σ
          (test-in c.is_dummy_sort.result (c.is_dummy_sort.ensures (λ g own same. c.loop-dummy.invariant.last types all g (type_text x.ty.now) same (typed-at types xs i x below is all g own))) c.if-not-is_dummy_sort.false);
    }

pub returns-then-not-is_dummy_sort : goal.returns-then-not-is_dummy_sort
returns-then-not-is_dummy_sort c = λ grouped.
    let (types, all) = grouped in
    let σ = state c.args.self.now in
    let xs = c.args.dummies.now in
    let i = c.loop-dummy.dummy-index in
    let x = c.dummy-item.result in
    let below = c.loop-dummy-test.true in
    let is = c.dummy-item.is in (
      λ no. absurd (true≢false (sym no)),
      λ every. absurd (each-out (IsDummySort σ) xs i (Every (IsDummySort σ) (map variable xs)) (c.loop-dummy.invariant.sorts types all) x below is
          (test-out c.is_dummy_sort.result (c.is_dummy_sort.ensures (λ g own same. c.loop-dummy.invariant.last types all g (type_text x.ty.now) same (typed-at types xs i x below is all g own))) c.if-not-is_dummy_sort.true) every),
    )

pub returns : goal.returns
returns c = λ grouped.
    let (types, all) = grouped in
    let σ = state c.args.self.now in
    let xs = c.args.dummies.now in
    (λ yes. each-end (IsDummySort σ) xs c.loop-dummy.dummy-index (Every (IsDummySort σ) (map variable xs)) (c.loop-dummy.invariant.sorts types all) c.loop-dummy-test.false, λ every. refl)

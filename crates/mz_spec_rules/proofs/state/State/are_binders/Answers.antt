use Rattle.std.proofs.Common.{[], map, subst, sym, take, true≢false}
use Rattle.std.proofs.lemmas.Option.{none-some}
use Rattle.mz_spec_theory.specs.StatementCode.{type_text}
use Rattle.mz_spec_variables.specs.Code.{variable}
use Rattle.mz_spec_rules.specs.Entries.{state}
use Rattle.mz_spec_theory.specs.Rules.{AreBinders}
use Rattle.mz_spec_rules.proofs.Binding.{IsBinderOf, binders-step, binders-out, group-step, typed-at}
use Rattle.mz_spec_theory.proofs.Offered.{test-in, test-out}
use Rattle.mz_spec_rules.proofs.state.State.are_binders.Goals as goal

pub loop-i-init : goal.loop-i-init
loop-i-init c = record { binders = (λ are. are, λ are. are); last = λ types all g t none told. absurd (none-some _ none) }

pub is_binder-requires-clause-last : goal.is_binder-requires-clause-last
is_binder-requires-clause-last c = λ g own behind bound.
    let (types, all) = c.requires.grouped in
    let x = c.index-params-i.result in
    subst (λ b. IsBinderOf (state c.args.self.now) (map variable (take c.loop-i.i c.args.params.now)) b (type_text x.ty.now)) (sym bound)
    (c.loop-i.invariant.last types all g (type_text x.ty.now) behind (typed-at types c.args.params.now c.loop-i.i x c.loop-i-test.true c.index-params-i.is all g own))

pub returns-then-not-is_binder : goal.returns-then-not-is_binder
returns-then-not-is_binder c = (
  λ no. absurd (true≢false (sym no)),
  λ all. absurd (binders-out (state c.args.self.now) c.args.params.now c.loop-i.i c.index-params-i.result c.loop-i-test.true c.index-params-i.is (AreBinders (state c.args.self.now) [] (map variable c.args.params.now)) c.loop-i.invariant.binders
      (test-out c.is_binder.result c.is_binder.ensures c.if-not-is_binder.true) all),
)

pub loop-i-preserved : goal.loop-i-preserved
loop-i-preserved c =
    let x = c.index-params-i.result in
    let here = test-in c.is_binder.result c.is_binder.ensures c.if-not-is_binder.false in record {
      binders = binders-step (state c.args.self.now) c.args.params.now c.loop-i.i x c.loop-i-test.true c.index-params-i.is (AreBinders (state c.args.self.now) [] (map variable c.args.params.now)) c.loop-i.invariant.binders here;
      last = λ types all. group-step types c.args.params.now c.loop-i.i x c.loop-i-test.true c.index-params-i.is all (state c.args.self.now) here;
    }

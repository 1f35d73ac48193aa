use Rattle.std.proofs.Common.{◌++◌, map, ap, refl}
use Rattle.std.proofs.lemmas.Option.{none-some}
use Rattle.mz_spec_variables.specs.Code.{IsOfTypes, typed, variable}
use Rattle.mz_spec_rules.specs.Entries.{state}
use Rattle.mz_spec_theory.specs.State.{binder_of}
use Rattle.mz_spec_rules.proofs.Binding.{every-at}
use Rattle.mz_spec_rules.proofs.Grouping.{last-more}
use Rattle.mz_spec_theory.proofs.Offered.{item-step, items-end}
use Rattle.mz_spec_rules.proofs.state.State.push_binders.Goals as goal

pub loop-variable-init : goal.loop-variable-init
loop-variable-init c =
    let make = binder_of (state c.args.self.now) (map variable c.args.params.now) in record {
      binders = λ types all. ap (λ bs. bs ++ map make (map variable c.args.variables.now)) c.requires.none;
      last = λ types all g t none told. absurd (none-some _ none);
    }

pub loop-variable-preserved : goal.loop-variable-preserved
loop-variable-preserved c =
    let xs = c.args.variables.now in
    let ps = map variable c.args.params.now in
    let i = c.loop-variable.variable-index in
    let x = c.variable-item.result in
    let make = binder_of (state c.args.self.now) ps in record {
      binders = λ types all.
          let is = every-at typed (IsOfTypes types) xs i x c.loop-variable-test.true c.variable-item.is all in
          item-step variable make xs i x c.loop-variable-test.true c.variable-item.is c.loop-variable.binders c.push_binder.new.binders (map make (map variable xs)) (make (variable x))
          (c.in_ok-push_binder.ensures types is (c.loop-variable.invariant.last types all)) refl (c.loop-variable.invariant.binders types all);
      last = λ types all.
          let is = every-at typed (IsOfTypes types) xs i x c.loop-variable-test.true c.variable-item.is all in
          last-more types x is (state c.args.self.now) ps c.loop-variable.binders c.push_binder.new.binders (c.in_ok-push_binder.ensures types is (c.loop-variable.invariant.last types all));
    }

pub returns : goal.returns
returns c =
    let (types, all) = c.requires.grouped in
    let make = binder_of (state c.args.self.now) (map variable c.args.params.now) in
    items-end variable make c.args.variables.now c.loop-variable.variable-index c.loop-variable.binders (map make (map variable c.args.variables.now)) c.loop-variable-test.false (c.loop-variable.invariant.binders types all)

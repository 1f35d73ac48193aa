use Rattle.std.proofs.Common.{◌+◌, ◌∙◌, ◌++◌, ◌∷◌, length, map, drop, ap, sym, refl, subst, arith, length-append}
use Rattle.std.proofs.lemmas.List.{length-map}
use Rattle.std.proofs.lemmas.Option.{none-some}
use Rattle.mz_base.proofs.Offered.{drop-item}
use Rattle.mz_math_theory.specs.Kept.{AreVariables}
use Rattle.mz_spec_variables.specs.Code.{IsOfTypes, typed, variable}
use Rattle.mz_spec_rules.specs.Entries.{state}
use Rattle.mz_spec_theory.specs.State.{binder_of, variable_bytes}
use Rattle.mz_spec_rules.proofs.Binding.{every-at}
use Rattle.mz_spec_rules.proofs.Grouping.{last-more}
use Rattle.mz_spec_theory.proofs.Offered.{item-step, items-end, next-named, next-other}
use Rattle.mz_spec_rules.proofs.state.State.push_variables.Goals as goal

pub push_variable-requires-clause-name : goal.push_variable-requires-clause-name
push_variable-requires-clause-name c =
    let names = c.loop-variable.scope.names in
    let rest = map variable_bytes (map variable (drop (c.loop-variable.variable-index + 1) c.args.variables.now)) in
    let at = ap (λ xs. names ++ map variable_bytes (map variable xs)) (drop-item c.args.variables.now c.loop-variable.variable-index c.variable-item.result c.loop-variable-test.true c.variable-item.is) in
    let are = subst AreVariables (sym (sym at ∙ c.loop-variable.invariant.names)) c.requires.names in
    next-named names (variable_bytes (variable c.variable-item.result)) rest are

pub push_variable-requires-clause-other : goal.push_variable-requires-clause-other
push_variable-requires-clause-other c =
    let names = c.loop-variable.scope.names in
    let rest = map variable_bytes (map variable (drop (c.loop-variable.variable-index + 1) c.args.variables.now)) in
    let at = ap (λ xs. names ++ map variable_bytes (map variable xs)) (drop-item c.args.variables.now c.loop-variable.variable-index c.variable-item.result c.loop-variable-test.true c.variable-item.is) in
    let are = subst AreVariables (sym (sym at ∙ c.loop-variable.invariant.names)) c.requires.names in
    next-other names (variable_bytes (variable c.variable-item.result)) rest are

pub push_variable-requires-clause-room : goal.push_variable-requires-clause-room
push_variable-requires-clause-room c =
    let names = c.loop-variable.scope.names in
    let rest = map variable_bytes (map variable (drop (c.loop-variable.variable-index + 1) c.args.variables.now)) in
    let at = ap (λ xs. length (names ++ map variable_bytes (map variable xs))) (drop-item c.args.variables.now c.loop-variable.variable-index c.variable-item.result c.loop-variable-test.true c.variable-item.is) in
    let whole = sym at ∙ ap length c.loop-variable.invariant.names ∙ length-append c.args.scope.now.names (map variable_bytes (map variable c.args.variables.now)) in
    let front = length-append names (variable_bytes (variable c.variable-item.result) ∷ rest) in
    let many = length-map (map variable c.args.variables.now) variable_bytes in
    let more = length-map c.args.variables.now variable in
    omega (arith, whole, front, many, more, c.requires.room)

pub loop-variable-init : goal.loop-variable-init
loop-variable-init c = record { names = refl; binders = λ types all. refl; last = λ types all g t none told. absurd (none-some _ none) }

pub loop-variable-preserved : goal.loop-variable-preserved
loop-variable-preserved c =
    let xs = c.args.variables.now in
    let ps = map variable c.args.params.now in
    let i = c.loop-variable.variable-index in
    let x = c.variable-item.result in
    let scope = c.loop-variable.scope in
    let new = c.push_variable.new.scope in
    let make = binder_of (state c.args.self.now) ps in record {
      names = item-step variable variable_bytes xs i x c.loop-variable-test.true c.variable-item.is scope.names new.names (c.args.scope.now.names ++ map variable_bytes (map variable xs)) (variable_bytes (variable x))
          c.in_ok-push_variable.ensures.names refl c.loop-variable.invariant.names;
      binders = λ types all.
          let is = every-at typed (IsOfTypes types) xs i x c.loop-variable-test.true c.variable-item.is all in
          item-step variable make xs i x c.loop-variable-test.true c.variable-item.is scope.binders new.binders (c.args.scope.now.binders ++ map make (map variable xs)) (make (variable x))
          (c.in_ok-push_variable.ensures.binders types is (c.loop-variable.invariant.last types all)) refl (c.loop-variable.invariant.binders types all);
      last = λ types all.
          let is = every-at typed (IsOfTypes types) xs i x c.loop-variable-test.true c.variable-item.is all in
          last-more types x is (state c.args.self.now) ps scope.binders new.binders (c.in_ok-push_variable.ensures.binders types is (c.loop-variable.invariant.last types all));
    }

pub returns-clause-binders : goal.returns-clause-binders
returns-clause-binders c =
    let (types, all) = c.requires.grouped in
    let make = binder_of (state c.args.self.now) (map variable c.args.params.now) in
    items-end variable make c.args.variables.now c.loop-variable.variable-index c.loop-variable.scope.binders (c.args.scope.now.binders ++ map make (map variable c.args.variables.now)) c.loop-variable-test.false
    (c.loop-variable.invariant.binders types all)

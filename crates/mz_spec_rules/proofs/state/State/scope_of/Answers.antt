use Rattle.std.proofs.Common.{◌≡◌, ◌∙◌, ◌++◌, map, ap, sym, subst}
use Rattle.mz_math_theory.specs.Kept.{AreVariables}
use Rattle.mz_spec_variables.specs.Code.{AreGrouped, variable}
use Rattle.mz_spec_theory.specs.State.{variable_bytes}
use Rattle.mz_spec_theory.proofs.Offered.{front-variables}
use Rattle.mz_spec_rules.proofs.state.State.scope_of.Goals as goal

pub push_variables-requires-clause-names : goal.push_variables-requires-clause-names
push_variables-requires-clause-names c =
    let names = map variable_bytes (map variable c.args.parts.now.params.items) in
    let none = ap (λ x. x.names) c.new-scope.ensures in
    let same : c.new-scope.result.names ++ map variable_bytes (map variable c.deref-2.result.now) ≡ names = ap (λ xs. xs ++ map variable_bytes (map variable c.deref-2.result.now)) none ∙ ap (λ xs. map variable_bytes (map variable xs)) c.deref-2.ensures.value in
    subst AreVariables (sym same) (front-variables names _ c.requires.names)

pub push_variables-requires-clause-grouped : goal.push_variables-requires-clause-grouped
push_variables-requires-clause-grouped c = subst AreGrouped (sym c.deref-2.ensures.value) c.requires.grouped_params

pub push_variables-requires-2-clause-grouped : goal.push_variables-requires-2-clause-grouped
push_variables-requires-2-clause-grouped c = subst AreGrouped (sym c.deref-4.ensures.value) c.requires.grouped_dummies

use Rattle.std.proofs.Common.{◌↔◌, List, map, sym, subst}
use Rattle.std.specs.Prelude.{IsTrue, option_map}
use Rattle.std.proofs.Math.Seq.{take-length}
use Rattle.mz_spec_theory.specs.StatementCode.{lexeme, type_text}
use Rattle.mz_spec_variables.specs.Code.{all_of, variable}
use Rattle.mz_spec_theory.specs.Dependencies.{Every, IsBoundAmong}
use Rattle.mz_spec_theory.specs.Rules.{IsResult}
use Rattle.mz_spec_variables.specs.declared.variables.Variable.{Variable as VariableRead}
use Rattle.mz_spec_rules.proofs.rules.depends_on_bound.Goals as goal

pub returns-in-Some : goal.returns-in-Some
returns-in-Some c =
    let whole = take-length c.args.params.now in
    let result = c.are_bound_before.result in
    let all = subst (λ (ps : List VariableRead). IsTrue result ↔ Every (IsBoundAmong (map variable ps)) (map lexeme c.deref.result.now)) whole c.are_bound_before.ensures in
    let deps = subst (λ ds. IsTrue result ↔ Every (IsBoundAmong (map variable c.args.params.now)) (map lexeme ds)) c.deref.ensures.value all in
    subst (λ r. IsTrue result ↔ Every (IsResult (map variable c.args.params.now)) (all_of (option_map (λ t. type_text t.now) r))) (sym c.in-Some.is)
    (λ yes. (deps.0 yes, tt), λ every. deps.1 every.0)

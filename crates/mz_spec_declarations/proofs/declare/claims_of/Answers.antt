use Rattle.std.proofs.Common.{◌∙◌, [], map, ap}
use Rattle.std.proofs.lemmas.Result.{IfOk-weaker}
use Rattle.mz_spec_theory.specs.StatementCode.{assertion}
use Rattle.mz_spec_theory.specs.SpecCode.{stated}
use Rattle.mz_spec_rules.specs.Entries.{state}
use Rattle.mz_spec_theory.specs.View.{view}
use Rattle.mz_spec_rules.proofs.Offered.{few-sorts}
use Rattle.mz_spec_declarations.proofs.declare.claims_of.Goals as goal

pub scope_of-requires-clause-few : goal.scope_of-requires-clause-few
scope_of-requires-clause-few c = few-sorts (state c.args.state.now) c.requires.kept c.requires.few

pub claims_in-requires-clause-stated : goal.claims_in-requires-clause-stated
claims_in-requires-clause-stated c = ap (map stated) c.deref.ensures.value ∙ c.in_ok-stated.ensures

pub returns-clause-judged : goal.returns-clause-judged
returns-clause-judged c = λ parts. let v = view (assertion c.args.assertion.now) in c.claims_in.ensures.judged (c.in_ok-scope.ensures v.variables v.types [] parts)

pub returns-clause-claims : goal.returns-clause-claims
returns-clause-claims c =
    let v = view (assertion c.args.assertion.now) in
    IfOk-weaker c.claims_in.result _ _ (λ claims meant parts. meant (c.in_ok-scope.ensures v.variables v.types [] parts)) c.claims_in.ensures.claims

use Rattle.mz_spec_rules.specs.Entries.{state}
use Rattle.mz_spec_rules.proofs.Offered.{few-sorts}
use Rattle.mz_spec_declarations.proofs.declare.body_of.Goals as goal

pub scope_of-requires-clause-few : goal.scope_of-requires-clause-few
scope_of-requires-clause-few c = few-sorts (state c.args.state.now) c.requires.kept c.requires.few

pub scope_of-requires-clause-grouped_params : goal.scope_of-requires-clause-grouped_params
scope_of-requires-clause-grouped_params c = c.requires.parts.3.grouped_params

pub scope_of-requires-clause-grouped_dummies : goal.scope_of-requires-clause-grouped_dummies
scope_of-requires-clause-grouped_dummies c = c.requires.parts.3.grouped_dummies

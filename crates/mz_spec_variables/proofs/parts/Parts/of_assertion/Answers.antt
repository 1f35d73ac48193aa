use Rattle.std.proofs.Common.{map}
use Rattle.mz_spec_theory.specs.StatementCode.{group, source}
use Rattle.mz_spec_theory.specs.View.{types_of}
use Rattle.mz_spec_variables.proofs.Grouped.{grouped-alone}
use Rattle.mz_spec_variables.proofs.parts.Parts.of_assertion.Goals as goal

pub new-requires : goal.new-requires
new-requires c = grouped-alone _ (map group c.args.assertion.now.head.groups.items) (types_of (map source c.args.assertion.now.premises.items)) c.in_ok-push_assertion.ensures.groups

use Rattle.std.proofs.Common.{map, rules}
use Rattle.mz_spec_theory.specs.StatementCode.{group}
use Rattle.mz_spec_variables.proofs.Grouped.{grouped}
use Rattle.mz_spec_variables.proofs.parts.Parts.of_groups.Goals as goal

pub new-requires : goal.new-requires
new-requires c = grouped _ (map group c.args.groups.now) (search rules)

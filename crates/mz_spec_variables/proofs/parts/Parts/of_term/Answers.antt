use Rattle.std.proofs.Common.{map}
use Rattle.mz_spec_theory.specs.StatementCode.{group, type_text}
use Rattle.mz_spec_variables.proofs.Grouped.{grouped-alone}
use Rattle.mz_spec_variables.proofs.parts.Parts.of_term.Goals as goal

pub new-requires : goal.new-requires
new-requires c = grouped-alone _ (map group c.args.term.now.head.groups.items) (map type_text c.args.term.now.arguments.items) c.in_ok-push_term.ensures.groups

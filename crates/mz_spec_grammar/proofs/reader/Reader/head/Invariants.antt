use Rattle.std.proofs.Common.{map}
use Rattle.mz_spec_theory.specs.StatementCode.{group, lexeme}
use Rattle.mz_spec_theory.specs.Progress.{head_opened, headed}
use Rattle.mz_spec_grammar.specs.Standing.{Reads, behind, left}
use Rattle.mz_spec_grammar.proofs.reader.Reader.head.Given as goal

abbrev pub invariant-groups : goal.invariant-groups
invariant-groups l = Reads (behind (head_opened l.kind)) (behind (headed l.kind (record { name = lexeme l.name; groups = map group l.groups.items }))) l.fn.self l.self

abbrev pub decreases-groups : goal.decreases-groups
decreases-groups l = left l.self

use Rattle.std.proofs.Common.{map}
use Rattle.mz_spec_theory.specs.declared.kind.Kind.TheVariants.{Term}
use Rattle.mz_spec_theory.specs.StatementCode.{head, type_text}
use Rattle.mz_spec_theory.specs.Progress.{argument_slot, head_opened, wanted}
use Rattle.mz_spec_grammar.specs.Standing.{Reads, behind, left}
use Rattle.mz_spec_grammar.proofs.reader.Reader.term.Given as goal

abbrev pub invariant-arguments : goal.invariant-arguments
invariant-arguments l = Reads (behind (head_opened Term)) (behind (wanted (argument_slot (head l.head) (map type_text l.arguments.items)))) l.fn.self l.self

abbrev pub decreases-arguments : goal.decreases-arguments
decreases-arguments l = left l.self

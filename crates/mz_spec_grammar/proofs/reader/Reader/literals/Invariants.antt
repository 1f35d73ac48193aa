use Rattle.std.proofs.Common.{◌≡◌, [], map}
use Rattle.mz_spec_theory.specs.StatementCode.{literal}
use Rattle.mz_spec_theory.specs.Statement.{Head, TypeText}
use Rattle.mz_spec_theory.specs.Progress.{literal_read, literal_wanted, open_notation}
use Rattle.mz_spec_grammar.specs.Standing.{Reads, behind, left}
use Rattle.mz_spec_grammar.proofs.reader.Reader.literals.Given as goal

abbrev pub invariant-literals : goal.invariant-literals
invariant-literals l = (h : Head) (t : TypeText) → l.fn.literals.items ≡ [] → Reads (behind (literal_wanted (open_notation h t))) (behind (literal_read (record { head = h; result = t; literals = map literal l.literals.items }) (literal l.last))) l.fn.self l.self

abbrev pub decreases-literals : goal.decreases-literals
decreases-literals l = left l.self

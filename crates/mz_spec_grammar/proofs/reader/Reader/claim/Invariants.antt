use Rattle.std.proofs.Common.{◌≡◌, [], map}
use Rattle.mz_spec_theory.specs.declared.kind.AssertKind.{AssertKind}
use Rattle.mz_spec_theory.specs.StatementCode.{source}
use Rattle.mz_spec_theory.specs.Statement.{Head}
use Rattle.mz_spec_theory.specs.Progress.{premise_slot, wanted}
use Rattle.mz_spec_grammar.specs.Standing.{Reads, behind, left}
use Rattle.mz_spec_grammar.proofs.reader.Reader.claim.Given as goal

abbrev pub invariant-premises : goal.invariant-premises
invariant-premises l = (a : AssertKind) (h : Head) → l.fn.premises.items ≡ [] → Reads (behind (wanted (premise_slot a h []))) (behind (wanted (premise_slot a h (map source l.premises.items)))) l.fn.self l.self

abbrev pub decreases-premises : goal.decreases-premises
decreases-premises l = left l.self

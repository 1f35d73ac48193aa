use Rattle.std.proofs.Common.{◌≤◌, Bool, map}
use Rattle.mz_spec_theory.specs.StatementCode.{name_text}
use Rattle.mz_spec_theory.specs.Statement.{Head}
use Rattle.mz_spec_theory.specs.Progress.{group_opened, open_group}
use Rattle.mz_spec_grammar.specs.Standing.{Reads, behind, left}
use Rattle.mz_spec_grammar.proofs.reader.Reader.names.Given as goal

abbrev pub invariant-names : goal.invariant-names
invariant-names l = record {
  reads : (h : Head) (is_bound : Bool) → Reads (behind (group_opened (open_group l.kind h is_bound))) (behind (group_opened (record { kind = l.kind; head = h; is_bound = is_bound; names = map name_text l.names.items }))) l.fn.self l.self;
  shrinks : left l.self ≤ left l.fn.self;
}

abbrev pub decreases-names : goal.decreases-names
decreases-names l = left l.self

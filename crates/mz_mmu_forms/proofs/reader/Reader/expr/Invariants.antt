use Rattle.mz_sexpr.specs.Number.{node_at}
use Rattle.mz_mmu_forms.specs.ScopeView.{scope}
use Rattle.mz_mmu_forms.proofs.Nesting.{IsReading, turns_left}
use Rattle.mz_mmu_forms.proofs.reader.Reader.expr.Given as goal

abbrev pub invariant-reading : goal.invariant-reading
invariant-reading l = IsReading (scope l.sc) l.self.nodes.now (node_at l.self.nodes.now l.n) l.outers.items l.step

abbrev pub decreases-reading : goal.decreases-reading
decreases-reading l = turns_left l.self.nodes.now l.outers.items l.step

use Rattle.std.proofs.Common.{◌+◌}
use Rattle.mz_sexpr.specs.Number.{node_at}
use Rattle.mz_mmu_forms.specs.ConvSteps.{conv_turns}
use Rattle.mz_mmu_forms.specs.ScopeView.{scope}
use Rattle.mz_mmu_forms.proofs.ConvNesting.{WaitsAt, SaysAt, conv_behind}
use Rattle.mz_mmu_forms.proofs.Enclosing.{IsReading, turns_around}
use Rattle.mz_mmu_forms.proofs.reader.Reader.conv.Given as goal

abbrev pub invariant-reading : goal.invariant-reading
invariant-reading l =
    let all = l.self.nodes.now in
    IsReading (WaitsAt (scope l.sc) all) (SaysAt (scope l.sc) all) (node_at all l.n) l.outers.items l.step

abbrev pub decreases-reading : goal.decreases-reading
decreases-reading l = turns_around (conv_behind l.self.nodes.now) l.outers.items + conv_turns l.self.nodes.now l.step

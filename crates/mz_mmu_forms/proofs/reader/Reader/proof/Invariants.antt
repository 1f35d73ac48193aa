use Rattle.std.proofs.Common.{◌+◌}
use Rattle.mz_sexpr.specs.Number.{node_at}
use Rattle.mz_mmu_forms.specs.ProofSteps.{size_behind, proof_turns}
use Rattle.mz_mmu_forms.specs.ScopeView.{scope}
use Rattle.mz_mmu_forms.proofs.Enclosing.{IsReading, turns_around}
use Rattle.mz_mmu_forms.proofs.ProofNesting.{ProofWaitsAt, ProofSaysAt}
use Rattle.mz_mmu_forms.proofs.reader.Reader.proof.Given as goal

abbrev pub invariant-reading : goal.invariant-reading
invariant-reading l =
    let all = l.self.nodes.now in
    IsReading (ProofWaitsAt (scope l.sc) l.hyps all) (ProofSaysAt (scope l.sc) l.hyps all) (record { here = node_at all l.n; lets = l.fn.lets }) l.outers.items (l.lets, l.step)

abbrev pub decreases-reading : goal.decreases-reading
decreases-reading l = turns_around (size_behind l.self.nodes.now) l.outers.items + proof_turns l.self.nodes.now l.step

use Rattle.std.proofs.Common.{◌≡◌, ◌++◌, drop}
use Rattle.mz_trace.specs.Sides.{paired}
use Rattle.mz_trace.proofs.state.pairs.Given as goal

abbrev pub invariant-operands : goal.invariant-operands
invariant-operands l = l.sides.items ++ paired (drop l.i l.ls) (drop l.i l.rs) ≡ paired l.ls l.rs

use Rattle.std.proofs.Common.{◌↔◌, drop}
use Rattle.mz_logic_theory.specs.Legality.{EachTree, IsClaim}
use Rattle.mz_logic_theory.specs.View.{trees}
use Rattle.mz_logic.proofs.sorts.all_are_claims.Given as goal

abbrev pub invariant-loop-e : goal.invariant-loop-e
invariant-loop-e l = EachTree (IsClaim l.env l.ctx) (trees (drop l.e-index l.e-items)) ↔ EachTree (IsClaim l.env l.ctx) l.hyps

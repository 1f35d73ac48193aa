use Rattle.std.proofs.Common.{◌↔◌, drop, length}
use Rattle.mz_logic_theory.specs.Declaration.{signatures}
use Rattle.mz_logic_theory.specs.Legality.{AllInRange, EachTree, HasOperandSorts}
use Rattle.mz_logic_theory.specs.View.{trees}
use Rattle.mz_logic.proofs.sorts.all_have_operand_sorts.Given as goal

abbrev pub invariant-loop-e : goal.invariant-loop-e
invariant-loop-e l =
    AllInRange (signatures l.env) (length l.ctx) (trees (drop l.e-index l.e-items))
    × (EachTree (HasOperandSorts (signatures l.env) l.ctx) (trees (drop l.e-index l.e-items)) ↔ EachTree (HasOperandSorts (signatures l.env) l.ctx) l.hyps)

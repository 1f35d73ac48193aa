use Rattle.std.proofs.Common.{◌≡◌, ◌++◌, map, drop}
use Rattle.mz_spec_theory.specs.StatementCode.{source}
use Rattle.mz_spec_theory.specs.SpecCode.{stated}
use Rattle.mz_spec_theory.specs.View.{premise_stated}
use Rattle.mz_spec_declarations.proofs.formulas.push_premise_stated.Given as goal

abbrev pub invariant-loop-premise : goal.invariant-loop-premise
invariant-loop-premise l = map stated l.stated.items ++ premise_stated (map source (drop l.premise-index l.premises)) ≡ map stated l.initial.stated.items ++ premise_stated (map source l.premises)

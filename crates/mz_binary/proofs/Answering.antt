-- What the run of a body comes to, on the machine over trees.
use Rattle.std.proofs.Common.{ℕ, List, Result}
use Rattle.mz_cmd.specs.declared.rule.K.{K}
use Rattle.mz_base.specs.declared.mode.Mode.{Mode}
use Rattle.mz_logic_theory.specs.Tree.{Tree}
use Rattle.mz_machine_theory.specs.MachineState.{State, Heading}
use Rattle.mz_machine.specs.BodyAnswers.{IsBodyRun as IsRunOverTrees}
use Rattle.mz_machine.specs.declared.body.BodyChecked.{BodyChecked}
use Rattle.mz_machine.specs.declared.body.BodyChecked.TheVariants.{Good, Refused, Mem}
use Rattle.mz_binary_theory.specs.Standards.{published}
use Rattle.mz_binary.specs.BodyRuns.{IsBodyRun}

pub by-trees : (mode : Mode) (h : Heading) (bytes : List ℕ) (r : Result (State Tree) (ℕ × K)) (b : BodyChecked) → IsRunOverTrees h bytes r b → IsBodyRun (published mode) bytes r b
by-trees mode h bytes r (Good end) (last, is, counts, gap) = (last, is, λ lets. gap)
by-trees mode h bytes r (Refused at rule) is = is
by-trees mode h bytes r Mem is = tt

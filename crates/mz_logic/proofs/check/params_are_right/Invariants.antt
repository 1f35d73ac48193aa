use Rattle.std.proofs.Common.{ℕ, ◌<◌, get_or}
use Rattle.mz_logic_theory.specs.Declaration.{sorts}
use Rattle.mz_logic_theory.specs.Legality.{IsParam}
use Rattle.mz_logic_theory.specs.declared.binder.Binder.{Binder}
use Rattle.mz_logic.proofs.check.params_are_right.Given as goal

abbrev pub invariant-loop-i : goal.invariant-loop-i
invariant-loop-i l = (k : ℕ) (d : Binder) → k < l.i → IsParam (sorts l.env) l.params k (get_or l.params k d)

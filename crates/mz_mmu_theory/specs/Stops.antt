-- Why reading a part of a text stops.
use Rattle.std.specs.Prelude.{⊤}
use Rattle.mz_base.specs.Checks.{Checks, FailsFirst}
use Rattle.mz_mmu_theory.specs.declared.fault.Fault.{Fault}
use Rattle.mz_mmu_theory.specs.declared.fault.Stop.{Stop}
use Rattle.mz_mmu_theory.specs.declared.fault.Stop.TheVariants.{Refused, Mem}

-- with the first of these that doesn't hold, or out of memory
abbrev pub Stops : Stop → Checks Fault → Type 0
Stops (Refused f) cs = FailsFirst cs f
Stops Mem cs = ⊤

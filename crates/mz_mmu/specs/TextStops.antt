-- Why reading or checking a text stops.
use Rattle.std.specs.Prelude.{ℕ, ◌≡◌, ⊤}
use Rattle.mz_base.specs.Checks.{Checks, FailsFirst}
use Rattle.mz_sexpr.specs.declared.rule.TextRefusal.{TextRefusal}
use Rattle.mz_mmu_theory.specs.StatementOrder.{in_statement}
use Rattle.mz_mmu_theory.specs.declared.fault.Stop.{Stop}
use Rattle.mz_mmu_theory.specs.declared.fault.Stop.TheVariants as stop
use Rattle.mz_mmu.specs.declared.text.TextStop.{TextStop}
use Rattle.mz_mmu.specs.declared.text.TextStop.TheVariants as text_stop
use Rattle.mz_mmu.specs.declared.text.TextRead.{TextRead}
use Rattle.mz_mmu.specs.declared.text.TextRead.TheVariants as read

-- with the first of these that doesn't hold, or out of memory
abbrev pub TextStops : TextStop → Checks TextRefusal → Type 0
TextStops (text_stop.Refused r) cs = FailsFirst cs r
TextStops text_stop.Mem cs = ⊤

-- a statement's stop, as the text's
abbrev pub IsStopped : ℕ → Stop → TextStop → Type 0
IsStopped k (stop.Refused f) r = r ≡ text_stop.Refused (in_statement k f)
IsStopped k stop.Mem r = r ≡ text_stop.Mem

-- the text's stop, as its answer
abbrev pub IsRefusal : TextStop → TextRead → Type 0
IsRefusal (text_stop.Refused r) a = a ≡ read.Refused r
IsRefusal text_stop.Mem a = a ≡ read.Mem

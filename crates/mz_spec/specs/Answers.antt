-- What reading a specification answers.
use Rattle.std.specs.Prelude.{⊤, ℕ, List}
use Rattle.mz_spec_theory.specs.declared.refusal.Halt.{Halt}
use Rattle.mz_spec_theory.specs.declared.refusal.Halt.TheVariants as halts
use Rattle.mz_spec.specs.declared.reader.SpecRead.{SpecRead}
use Rattle.mz_spec.specs.declared.reader.SpecRead.TheVariants.{Spec, Refused, Mem}
use Rattle.mz_spec_theory.specs.Spec.{SpecMakes, SpecFault}

-- the declarations of the text, or its first fault
abbrev pub IsAnswer : List ℕ → SpecRead → Type 0
IsAnswer text (Spec entries) = SpecMakes text entries
IsAnswer text (Refused refusal) = SpecFault text refusal
IsAnswer text Mem = ⊤

-- what a fault of a statement, or out of memory, makes of the whole text
abbrev pub halted : ℕ → Halt → SpecRead
halted statement (halts.Fault fault) = Refused (record { statement = statement; at = fault.at; rule = fault.rule })
halted statement halts.Mem = Mem

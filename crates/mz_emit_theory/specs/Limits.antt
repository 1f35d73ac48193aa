-- The limits by the codes that are printed (this project's own).
use Rattle.std.specs.Prelude.{ℕ}
use Rattle.mz_mmu_theory.specs.Weight.{Limit, sort_limit, parameter_limit, bound_limit, byte_limit, Passed}
use Rattle.mz_emit_theory.specs.declared.rule.L.{L}
use Rattle.mz_emit_theory.specs.declared.rule.L.TheVariants as rules
use Rattle.mz_emit_theory.specs.declared.passed.Passed.{Passed as Counted}

abbrev pub limit : L → Limit
limit rules.Sorts = sort_limit
limit rules.Parameters = parameter_limit
limit rules.BoundVariables = bound_limit
limit rules.Bytes = byte_limit

-- a limit is passed by this count
abbrev pub over : Limit → ℕ → Passed
over l n = record { limit = l; count = n }

abbrev pub passed : Counted → Passed
passed p = over (limit p.rule) p.count

use Rattle.std.proofs.Common.{◌≡◌, map, drop}
use Rattle.std.specs.Prelude.{bytes_eq}
use Rattle.std.specs.List.{list_any}
use Rattle.mz_spec_theory.specs.StatementCode.{lexeme}
use Rattle.mz_spec_variables.proofs.variables.has_name.Given as goal

abbrev pub invariant-loop-dep : goal.invariant-loop-dep
invariant-loop-dep l = list_any (λ d. bytes_eq d.text l.name) (map lexeme (drop l.dep-index l.deps)) ≡ list_any (λ d. bytes_eq d.text l.name) (map lexeme l.deps)

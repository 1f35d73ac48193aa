use Rattle.std.proofs.Common.{◌≡◌, None, map, drop}
use Rattle.mz_base.specs.Names.{number_of}
use Rattle.mz_base.proofs.Offered.{or_later}
use Rattle.mz_spec_variables.proofs.names.number_among.Given as goal

abbrev pub invariant-loop-i : goal.invariant-loop-i
invariant-loop-i l = or_later None l.i (number_of (map (λ other. other.now) (drop l.i l.names)) l.name) ≡ number_of (map (λ other. other.now) l.names) l.name

use Rattle.std.proofs.Common.{◌≡◌, ◌≤◌, take}
use Rattle.std.specs.Str.Parse.{digits_value}
use Rattle.mz_spec_theory.specs.Forms.{highest_level}
use Rattle.mz_spec_rules.proofs.levels.digits_level.Given as goal

abbrev pub invariant-loop-digit : goal.invariant-loop-digit
invariant-loop-digit l = record {
  value : l.value ≡ digits_value 10 (take l.digit-index l.digits);
  most : l.value ≤ highest_level;
}

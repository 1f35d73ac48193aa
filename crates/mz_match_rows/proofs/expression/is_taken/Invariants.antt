use Rattle.std.proofs.Common.{◌≡◌, drop}
use Rattle.std.specs.List.{list_any}
use Rattle.mz_spec_proved_theory.specs.Comparison.{is_number}
use Rattle.mz_match_rows.proofs.expression.is_taken.Given as goal

abbrev pub invariant-loop-pair : goal.invariant-loop-pair
invariant-loop-pair l = list_any (is_number l.p) (drop l.pair-index l.pairs) ≡ list_any (is_number l.p) l.pairs

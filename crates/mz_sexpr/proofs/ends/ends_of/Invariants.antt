use Rattle.std.proofs.Common.{ℕ, List, ◌≡◌, ◌≤◌, map, length}
use Rattle.mz_sexpr.specs.Rows.{entry, EndFrom}
use Rattle.mz_sexpr.proofs.ends.ends_of.Given as goal

abbrev pub invariant-loop-n : goal.invariant-loop-n
invariant-loop-n l = record {
  within : l.n ≤ length l.rows;
  many : length l.ends.items ≡ length l.rows;
  known : (text : List ℕ) → EndFrom (map (entry text) l.rows) l.ends.items l.n;
}

abbrev pub decreases-loop-n : goal.decreases-loop-n
decreases-loop-n l = l.n

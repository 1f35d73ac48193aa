use Rattle.std.proofs.Common.{ℕ, List, ◌≡◌, ◌≤◌, ◌<◌, ◌+◌, ◌-◌, drop, map, length}
use Rattle.mz_sexpr.specs.Rows.{entry, level}
use Rattle.mz_sexpr.proofs.ends.end_of.Given as goal

abbrev pub invariant-loop-end : goal.invariant-loop-end
invariant-loop-end l = record {
  later : l.n < l.end;
  within : l.end ≤ length l.rows;
  same : (text : List ℕ) (k : ℕ) → k ≤ l.depth → level (drop l.end (map (entry text) l.rows)) k ≡ level (drop (l.n + 1) (map (entry text) l.rows)) k;
}

abbrev pub decreases-loop-end : goal.decreases-loop-end
decreases-loop-end l = length l.rows - l.end

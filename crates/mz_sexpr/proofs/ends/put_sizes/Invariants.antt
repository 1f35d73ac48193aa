use Rattle.std.proofs.Common.{ℕ, List, ◌≡◌, ◌≤◌, map, length}
use Rattle.mz_sexpr.specs.Rows.{entry, sized, EndFrom}
use Rattle.mz_sexpr.proofs.ends.put_sizes.Given as goal

abbrev pub invariant-loop-n : goal.invariant-loop-n
invariant-loop-n l = record {
  within : l.n ≤ length l.rows.items;
  many : length l.rows.items ≡ length l.fn.rows.items;
  same : (text : List ℕ) → map (entry text) l.rows.items ≡ map (entry text) l.fn.rows.items;
  known : (text : List ℕ) → EndFrom (map (entry text) l.rows.items) (sized 0 l.rows.items) l.n;
}

abbrev pub decreases-loop-n : goal.decreases-loop-n
decreases-loop-n l = l.n

use Rattle.std.proofs.Common.{◌≡◌, drop}
use Rattle.std.specs.Prelude.{bytes_eq}
use Rattle.indexmap.specs.IndexSet.{insert_all as inserted}
use Rattle.mz_spec_variables.proofs.names.insert_all.Given as goal

abbrev pub invariant-loop-name : goal.invariant-loop-name
invariant-loop-name l = inserted (λ a b. bytes_eq a.now b.now) l.set.keys (drop l.name-index l.names) ≡ l.names

use Rattle.std.proofs.Common.{◌≡◌, ◌++◌, drop}
use Rattle.mz_prefix.specs.Names.{spoken}
use Rattle.mz_prefix.proofs.Parts.{deps_text}
use Rattle.mz_prefix.proofs.names.Names.put_deps.Given as goal

abbrev pub invariant-loop-x : goal.invariant-loop-x
invariant-loop-x l = l.out.items ++ deps_text (spoken l.self) l.x-index (drop l.x-index l.deps) ≡ l.initial.out.items ++ deps_text (spoken l.self) 0 l.deps

use Rattle.std.proofs.Common.{◌≡◌, ◌++◌, drop}
use Rattle.mz_prefix.specs.Names.{spoken}
use Rattle.mz_prefix.proofs.Parts.{params_text}
use Rattle.mz_prefix.proofs.names.Names.put_params.Given as goal

abbrev pub invariant-loop-x : goal.invariant-loop-x
invariant-loop-x l = l.out.items ++ params_text (spoken l.self) l.x (drop l.x l.params) ≡ l.initial.out.items ++ params_text (spoken l.self) 0 l.params

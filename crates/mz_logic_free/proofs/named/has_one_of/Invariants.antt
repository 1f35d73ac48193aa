use Rattle.std.proofs.Common.{◌↔◌, drop}
use Rattle.mz_logic_free.proofs.Sharing.{HasAny, IsAtOther}
use Rattle.mz_logic_free.proofs.named.has_one_of.Given as goal

abbrev pub invariant-loop-x : goal.invariant-loop-x
invariant-loop-x l = HasAny (IsAtOther l.places l.own) (drop l.x-index l.variables) ↔ HasAny (IsAtOther l.places l.own) l.variables

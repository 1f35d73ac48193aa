use Rattle.std.proofs.Common.{◌↔◌, drop}
use Rattle.mz_logic_free.proofs.Sharing.{HasAny, IsOther}
use Rattle.mz_logic_free.proofs.named.has_other.Given as goal

abbrev pub invariant-loop-place : goal.invariant-loop-place
invariant-loop-place l = HasAny (IsOther l.variables l.own) (drop l.place-index l.place-items) ↔ HasAny (IsOther l.variables l.own) l.places

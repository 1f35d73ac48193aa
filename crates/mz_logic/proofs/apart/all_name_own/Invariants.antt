use Rattle.std.proofs.Common.{ℕ, ◌<◌}
use Rattle.mz_logic_free.specs.Narrowed.{AreNarrowed}
use Rattle.mz_logic.proofs.Owning.{NamesOwn}
use Rattle.mz_logic.proofs.apart.all_name_own.Given as goal

abbrev pub invariant-loop-i : goal.invariant-loop-i
invariant-loop-i l = ((k : ℕ) → k < l.i → NamesOwn l.params l.es l.ctx l.owned k) × AreNarrowed l.ctx l.owned l.narrowed

-- What a sink in memory holds, and what a call on it leaves as it was.
use Rattle.std.specs.Prelude.{◌≡◌, ℕ, List}
use Rattle.mz_io.specs.Plan.{IsListed, SamePlan}
use Rattle.mz_io.specs.declared.memory_sink.MemSink.{MemSink}

-- the bytes written so far
abbrev pub written : MemSink → List ℕ
written sink = sink.bytes.items

-- how many bytes it still takes, and how many a call takes at most
abbrev pub room : MemSink → ℕ
room sink = sink.room

abbrev pub most : MemSink → ℕ
most sink = sink.most

-- the next trait call is listed to fail
abbrev pub NextIsListed : MemSink → Type 0
NextIsListed sink = IsListed sink.plan

-- what is held stays, and how much is taken
pub record SameContents (old new : MemSink) : Type 0 where
  pub written : written new ≡ written old
  pub room : room new ≡ room old
  pub most : most new ≡ most old

-- what models the trait calls stays
pub record SameCalls (old new : MemSink) : Type 0 where
  pub log : new.log ≡ old.log
  pub plan : SamePlan old.plan new.plan
  pub faults : new.faults ≡ old.faults

use Rattle.std.proofs.Common.{◌≡◌, length, reverse, take}
use Rattle.mz_type.specs.StatedView.{statements_of}
use Rattle.mz_emit.specs.Emitting.{HasEmitted}
use Rattle.mz_emit.proofs.Looping.{AreLeft}
use Rattle.mz_emit.proofs.compile.emit_all.Given as goal

abbrev pub invariant-loop-beside : goal.invariant-loop-beside
invariant-loop-beside l = record {
  left : AreLeft (statements_of l.fn.env l.fn.besides.items) l.fn.env (reverse l.besides.items) l.place;
  written : HasEmitted (take l.place (statements_of l.fn.env l.fn.besides.items)) l.emitter;
  front : l.emitter.env ≡ take l.place l.fn.env;
}

abbrev pub decreases-loop-beside : goal.decreases-loop-beside
decreases-loop-beside l = length l.besides.items

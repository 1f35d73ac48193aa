use Rattle.std.proofs.Common.{length}
use Rattle.mz_math.specs.Steps.{IsAhead}
use Rattle.mz_math.proofs.Waiting.{IsReading, left}
use Rattle.mz_math.proofs.parser.parse.Given as goal

abbrev pub invariant-reading : goal.invariant-reading
invariant-reading l = IsReading l.words l.tokens l.outers.items l.step × IsAhead l.words l.tokens l.ahead

abbrev pub decreases-reading : goal.decreases-reading
decreases-reading l = left (length l.tokens) l.outers.items l.step

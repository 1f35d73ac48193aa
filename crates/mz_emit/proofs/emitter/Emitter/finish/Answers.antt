use Rattle.std.proofs.Common.{arith}
use Rattle.mz_emit.proofs.emitter.Emitter.finish.Goals as goal

pub finish-requires-clause-short : goal.finish-requires-clause-short
finish-requires-clause-short c = rw c.into_writer-writer.ensures (let short = c.requires.short in omega (arith, short))

pub finish-requires-clause-sorts : goal.finish-requires-clause-sorts
finish-requires-clause-sorts c = rw c.into_writer-writer.ensures c.requires.few_sorts

pub returns : goal.returns
returns c = rw c.into_writer-writer.ensures at c.in_ok-bytes.ensures.written

use Rattle.mz_portable.proofs.Tables.{accepted-by-table, sound}
use Rattle.mz_portable.proofs.portable.portable_bytes.Goals as goal

pub returns-clause-table : goal.returns-clause-table
returns-clause-table g c = accepted-by-table c.args.spec.now c.args.bin.now c.verify_by.result c.verify_by.ensures.verdict

pub returns-clause-sound : goal.returns-clause-sound
returns-clause-sound g c = sound c.args.spec.now c.args.bin.now c.verify_by.result c.verify_by.ensures.verdict

use Rattle.std.proofs.Common.{arith}
use Rattle.mz_io.proofs.Files.{left_at-read}
use Rattle.mz_io.proofs.memory_folder.MemFolderFolder.pull.Goals as goal

pub returns-clause-bytes : goal.returns-clause-bytes
returns-clause-bytes c = left_at-read c.args.self.now.files.items c.args.self.now.started c.args.self.now.offset _ _ c.left.result.now c.copy_front-taken.new.buf
    (rw c.deref.ensures.value at c.left.ensures.bytes) c.left.ensures.fits c.copy_front-taken.ensures.count c.copy_front-taken.ensures.front c.saturating_add-self-2.ensures (omega arith)

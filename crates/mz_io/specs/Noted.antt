-- The call that a note stands for.
use Rattle.mz_io.specs.Calls.{Call, starts, pulls, pull_fails, puts, writes, write_fails}
use Rattle.mz_io.specs.declared.log.Note.{Note}
use Rattle.mz_io.specs.declared.log.Note.TheVariants as notes

abbrev pub call_of : Note → Call
call_of (notes.Start name done) = starts name.now done
call_of (notes.Pull asked bytes) = pulls asked bytes.now
call_of notes.PullFails = pull_fails
call_of (notes.Put name bytes done) = puts name.now bytes.now done
call_of (notes.Write bytes) = writes bytes.now
call_of (notes.WriteFails piece) = write_fails piece.now

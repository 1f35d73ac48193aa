use Rattle.std.proofs.Common.{◌≤◌, ◌++◌, ◌∙◌, [], None, length, ap, sym, subst, append_assoc, is_ok}
use Rattle.std.proofs.lemmas.List.{append-nil}
use Rattle.mz_tool_engine.specs.Inputs.{names_of, name_of, contents_of, bytes_of}
use Rattle.mz_tool_engine.specs.Run.{AreRead}
use Rattle.mz_tool_engine.specs.declared.outcome.Outcome.TheVariants as outcomes
use Rattle.mz_tool_engine.specs.declared.status.Status.TheVariants as statuses
use Rattle.mz_tool_engine.proofs.Endings.{read-and_nothing_put, read-and_put, read-not_put, ends-in_yes, ends-in_no, fits-given, answer-same, left-same, then-quiet}
use Rattle.mz_tool_engine.proofs.Faults.{ends-otherwise, ends-in_fault, done-fault, refused-fault, done-read, refused-read, fault-read, done-write, refused-write, fault-write}
use Rattle.mz_tool_engine.proofs.Telling.{reads-tell, put-tells}
use Rattle.mz_tool_engine.proofs.engine.answer.Goals as goal

pub returns-in_default-clause-log : goal.returns-in_default-clause-log
returns-in_default-clause-log g c =
    let said = g.C.Command.says c.args.command.now in
    let contents = contents_of c.in-Contents.contents in
    let reads = c.in-Contents.ensures.log in
    let writes = c.in_default.ensures.log in
    let read = subst (λ names. AreRead names contents reads.0) c.inputs.ensures reads.2 in
    (reads.0, writes.0, reads.1, writes.1, (contents, None, writes.2.0, writes.2.1, read-and_nothing_put said.reads contents said.puts reads.0 read, writes.2.2))

pub returns-in_default-clause-only_full : goal.returns-in_default-clause-only_full
returns-in_default-clause-only_full g c = λ file gives clear fits.
    c.answer.ensures.only_full clear (fits-given file _ _ _ [] (g.C.Command.says c.args.command.now)
    (names_of c.inputs.result) (contents_of c.in-Contents.contents) (g.O.Sink.room c.args.out.now) c.inputs.ensures c.in-Contents.ensures.log (sym (append-nil (g.F.Folder.calls c.read.new.folder))) gives fits)

pub returns-in_default-put_file-clause-log : goal.returns-in_default-put_file-clause-log
returns-in_default-put_file-clause-log g c =
    let said = g.C.Command.says c.args.command.now in
    let contents = contents_of c.in-Contents.contents in
    let writes = c.in-Ok.ensures.log in
    let answer = answer-same said contents writes.0 c.in-Ok.outcome (outcomes.Yes c.in-Yes.put c.in-Yes.text) c.in-Yes.is writes.2 in
    let fails = c.in_default-put_file.ensures.fails in
    let did = read-not_put _ _ _ (names_of c.inputs.result) said.reads contents (name_of c.output.result) said.puts (bytes_of c.in-Yes.put) c.inputs.ensures c.output.ensures
    fails.0 fails.1 fails.2 fails.3 c.in-Contents.ensures.log c.in_default-put_file.ensures.log in (
      did.0,
      writes.0,
      did.1,
      writes.1,
      (contents, bytes_of c.in-Yes.put, answer.0 ++ c.in-Yes.text.items, answer.3, did.2, then-quiet (bytes_of c.in-Yes.put) fails.1 writes.0 fails.3 answer.2),
    )

pub returns-in-Yes-clause-log : goal.returns-in-Yes-clause-log
returns-in-Yes-clause-log g c =
    let said = g.C.Command.says c.args.command.now in
    let contents = contents_of c.in-Contents.contents in
    let first = c.in-Ok.ensures.log in
    let second = c.write_answer.ensures.log in
    let answer = answer-same said contents first.0 c.in-Ok.outcome (outcomes.Yes c.in-Yes.put c.in-Yes.text) c.in-Yes.is first.2 in
    let did = read-and_put _ _ _ (names_of c.inputs.result) said.reads contents (name_of c.output.result) said.puts (bytes_of c.in-Yes.put) c.inputs.ensures c.output.ensures
    c.in-Contents.ensures.log c.in-Ok-put_file.ensures.log in (
      did.0,
      first.0 ++ second.0,
      did.1,
      second.1 ∙ ap (λ front. front ++ second.0) first.1 ∙ append_assoc (g.O.Sink.calls c.args.out.now) first.0 second.0,
      ends-in_yes c.args.limit said contents answer.0 c.in-Yes.text.items c.deref.result.now c.deref.ensures.value c.write_answer.result did.0 first.0 second.0 answer.1
          (bytes_of c.in-Yes.put) answer.3 answer.4 did.2 second.2,
    )

pub returns-in-No-clause-log : goal.returns-in-No-clause-log
returns-in-No-clause-log g c =
    let said = g.C.Command.says c.args.command.now in
    let contents = contents_of c.in-Contents.contents in
    let reads = c.in-Contents.ensures.log in
    let first = c.in-Ok.ensures.log in
    let second = c.write_answer-in-No.ensures.log in
    let answer = answer-same said contents first.0 c.in-Ok.outcome (outcomes.No c.in-No.text) c.in-No.is first.2 in (
      reads.0,
      first.0 ++ second.0,
      reads.1,
      second.1 ∙ ap (λ front. front ++ second.0) first.1 ∙ append_assoc (g.O.Sink.calls c.args.out.now) first.0 second.0,
      ends-in_no c.args.limit said contents answer.0 c.in-No.text.items c.deref-in-No.result.now c.deref-in-No.ensures.value c.write_answer-in-No.result reads.0 first.0 second.0 answer.1
          answer.2 (subst (λ names. AreRead names contents reads.0) c.inputs.ensures reads.2) second.2,
    )

pub returns-in_default-put_file-clause-only_full : goal.returns-in_default-put_file-clause-only_full
returns-in_default-put_file-clause-only_full g c = λ file gives clear fits.
    c.in-Ok.ensures.only_full clear (fits-given file _ _ _ c.in_default-put_file.ensures.log.0 (g.C.Command.says c.args.command.now)
    (names_of c.inputs.result) (contents_of c.in-Contents.contents) (g.O.Sink.room c.args.out.now) c.inputs.ensures c.in-Contents.ensures.log c.in_default-put_file.ensures.log.1 gives fits)

pub returns-in-Yes-clause-only_full : goal.returns-in-Yes-clause-only_full
returns-in-Yes-clause-only_full g c = λ file gives clear fits.
    let here = fits-given file _ _ _ c.in-Ok-put_file.ensures.log.0 (g.C.Command.says c.args.command.now)
    (names_of c.inputs.result) (contents_of c.in-Contents.contents) (g.O.Sink.room c.args.out.now) c.inputs.ensures c.in-Contents.ensures.log c.in-Ok-put_file.ensures.log.1 gives fits in
    let left = c.in-Ok.ensures.left clear here in
    let rest = left-same (λ text. length text ≤ g.O.Sink.room c.answer.new.out) c.in-Ok.outcome (outcomes.Yes c.in-Yes.put c.in-Yes.text) c.in-Yes.is left.1 in
    c.write_answer.ensures.only_full left.0 (subst (λ text. length text ≤ g.O.Sink.room c.answer.new.out) (sym c.deref.ensures.value) rest) ∙ c.in-Ok.ensures.only_full clear here

pub returns-in-No-clause-only_full : goal.returns-in-No-clause-only_full
returns-in-No-clause-only_full g c = λ file gives clear fits.
    let here = fits-given file _ _ _ [] (g.C.Command.says c.args.command.now)
    (names_of c.inputs.result) (contents_of c.in-Contents.contents) (g.O.Sink.room c.args.out.now) c.inputs.ensures c.in-Contents.ensures.log (sym (append-nil (g.F.Folder.calls c.read.new.folder))) gives fits in
    let left = c.in-Ok.ensures.left clear here in
    let rest = left-same (λ text. length text ≤ g.O.Sink.room c.answer.new.out) c.in-Ok.outcome (outcomes.No c.in-No.text) c.in-No.is left.1 in
    c.write_answer-in-No.ensures.only_full left.0 (subst (λ text. length text ≤ g.O.Sink.room c.answer.new.out) (sym c.deref-in-No.ensures.value) rest) ∙ c.in-Ok.ensures.only_full clear here

pub returns-clause-only_full : goal.returns-clause-only_full
returns-clause-only_full g c = λ file gives clear fits.
    c.answer.ensures.only_full clear (fits-given file _ _ _ [] (g.C.Command.says c.args.command.now)
    (names_of c.inputs.result) (contents_of c.in-Contents.contents) (g.O.Sink.room c.args.out.now) c.inputs.ensures c.in-Contents.ensures.log (sym (append-nil (g.F.Folder.calls c.read.new.folder))) gives fits)

pub returns-in-TooLong-clause-files : goal.returns-in-TooLong-clause-files
returns-in-TooLong-clause-files g c = λ told.
    reads-tell (g.F.Folder.file c.args.folder.now) (g.F.Folder.file c.read.new.folder) (g.F.Folder.left c.args.folder.now) (g.F.Folder.left c.read.new.folder) _ _ (c.read.ensures.answered told) (c.read.ensures.files told)

pub returns-in-Fault-clause-files : goal.returns-in-Fault-clause-files
returns-in-Fault-clause-files g c = λ told.
    reads-tell (g.F.Folder.file c.args.folder.now) (g.F.Folder.file c.read.new.folder) (g.F.Folder.left c.args.folder.now) (g.F.Folder.left c.read.new.folder) _ _ (c.read.ensures.answered told) (c.read.ensures.files told)

pub returns-in-Mem-clause-files : goal.returns-in-Mem-clause-files
returns-in-Mem-clause-files g c = λ told.
    reads-tell (g.F.Folder.file c.args.folder.now) (g.F.Folder.file c.read.new.folder) (g.F.Folder.left c.args.folder.now) (g.F.Folder.left c.read.new.folder) _ _ (c.read.ensures.answered told) (c.read.ensures.files told)

pub returns-in_default-clause-files : goal.returns-in_default-clause-files
returns-in_default-clause-files g c = λ told.
    reads-tell (g.F.Folder.file c.args.folder.now) (g.F.Folder.file c.read.new.folder) (g.F.Folder.left c.args.folder.now) (g.F.Folder.left c.read.new.folder) _ _ (c.read.ensures.answered told) (c.read.ensures.files told)

pub returns-in-No-clause-files : goal.returns-in-No-clause-files
returns-in-No-clause-files g c = λ told.
    reads-tell (g.F.Folder.file c.args.folder.now) (g.F.Folder.file c.read.new.folder) (g.F.Folder.left c.args.folder.now) (g.F.Folder.left c.read.new.folder) _ _ (c.read.ensures.answered told) (c.read.ensures.files told)

pub returns-clause-files : goal.returns-clause-files
returns-clause-files g c = λ told.
    reads-tell (g.F.Folder.file c.args.folder.now) (g.F.Folder.file c.read.new.folder) (g.F.Folder.left c.args.folder.now) (g.F.Folder.left c.read.new.folder) _ _ (c.read.ensures.answered told) (c.read.ensures.files told)

pub returns-in_default-put_file-clause-files : goal.returns-in_default-put_file-clause-files
returns-in_default-put_file-clause-files g c = λ told.
    put-tells (g.F.Folder.file c.args.folder.now) (g.F.Folder.file c.read.new.folder) (g.F.Folder.file c.put_file.new.folder) (g.F.Folder.left c.args.folder.now) (g.F.Folder.left c.read.new.folder) _ _ _
    (is_ok c.put_file.result) (name_of c.output.result) (bytes_of c.in-Yes.put) (c.read.ensures.answered told) (c.read.ensures.files told) c.put_file.ensures.log (c.put_file.ensures.files told)

pub returns-in-Yes-clause-files : goal.returns-in-Yes-clause-files
returns-in-Yes-clause-files g c = λ told.
    put-tells (g.F.Folder.file c.args.folder.now) (g.F.Folder.file c.read.new.folder) (g.F.Folder.file c.put_file.new.folder) (g.F.Folder.left c.args.folder.now) (g.F.Folder.left c.read.new.folder) _ _ _
    (is_ok c.put_file.result) (name_of c.output.result) (bytes_of c.in-Yes.put) (c.read.ensures.answered told) (c.read.ensures.files told) c.put_file.ensures.log (c.put_file.ensures.files told)

pub returns-in-TooLong-clause-apart : goal.returns-in-TooLong-clause-apart
returns-in-TooLong-clause-apart g c = λ none nothing. c.read.ensures.none (c.inputs.ensures ∙ none)

pub returns-in-Fault-clause-apart : goal.returns-in-Fault-clause-apart
returns-in-Fault-clause-apart g c = λ none nothing. c.read.ensures.none (c.inputs.ensures ∙ none)

pub returns-in-Mem-clause-apart : goal.returns-in-Mem-clause-apart
returns-in-Mem-clause-apart g c = λ none nothing. c.read.ensures.none (c.inputs.ensures ∙ none)

pub returns-in_default-clause-apart : goal.returns-in_default-clause-apart
returns-in_default-clause-apart g c = λ none nothing. c.read.ensures.none (c.inputs.ensures ∙ none)

pub returns-in-No-clause-apart : goal.returns-in-No-clause-apart
returns-in-No-clause-apart g c = λ none nothing. c.read.ensures.none (c.inputs.ensures ∙ none)

pub returns-clause-apart : goal.returns-clause-apart
returns-clause-apart g c = λ none nothing. c.read.ensures.none (c.inputs.ensures ∙ none)

pub returns-in_default-put_file-clause-apart : goal.returns-in_default-put_file-clause-apart
returns-in_default-put_file-clause-apart g c = λ none nothing. c.put_file.ensures.none (c.output.ensures ∙ nothing) ∙ c.read.ensures.none (c.inputs.ensures ∙ none)

pub returns-in_default-put_file-clause-put_faults : goal.returns-in_default-put_file-clause-put_faults
returns-in_default-put_file-clause-put_faults g c = λ nothing. ap (λ folder. g.F.Folder.put_faults folder) (c.put_file.ensures.none (c.output.ensures ∙ nothing)) ∙ c.read.ensures.put_faults

pub returns-in-Yes-clause-apart : goal.returns-in-Yes-clause-apart
returns-in-Yes-clause-apart g c = λ none nothing. c.put_file.ensures.none (c.output.ensures ∙ nothing) ∙ c.read.ensures.none (c.inputs.ensures ∙ none)

pub returns-in-Yes-clause-put_faults : goal.returns-in-Yes-clause-put_faults
returns-in-Yes-clause-put_faults g c = λ nothing. ap (λ folder. g.F.Folder.put_faults folder) (c.put_file.ensures.none (c.output.ensures ∙ nothing)) ∙ c.read.ensures.put_faults

pub returns-in-Yes-clause-read_fault : goal.returns-in-Yes-clause-read_fault
returns-in-Yes-clause-read_fault g c = λ is. absurd (ends-otherwise statuses.Done c.write_answer.result _ _ c.write_answer.ensures.ends statuses.ReadFault done-read fault-read is)

pub returns-in-Yes-clause-write_fault : goal.returns-in-Yes-clause-write_fault
returns-in-Yes-clause-write_fault g c = λ is. absurd (ends-otherwise statuses.Done c.write_answer.result _ _ c.write_answer.ensures.ends statuses.WriteFault done-write fault-write is)

pub returns-in-Yes-clause-out_fault : goal.returns-in-Yes-clause-out_fault
returns-in-Yes-clause-out_fault g c = λ is. ends-in_fault statuses.Done c.write_answer.result _ _ c.write_answer.ensures.ends (g.O.Sink.faults c.args.out.now) c.answer.ensures.cause.later done-fault is

pub returns-in-No-clause-read_fault : goal.returns-in-No-clause-read_fault
returns-in-No-clause-read_fault g c = λ is. absurd (ends-otherwise statuses.Refused c.write_answer-in-No.result _ _ c.write_answer-in-No.ensures.ends statuses.ReadFault refused-read fault-read is)

pub returns-in-No-clause-write_fault : goal.returns-in-No-clause-write_fault
returns-in-No-clause-write_fault g c = λ is. absurd (ends-otherwise statuses.Refused c.write_answer-in-No.result _ _ c.write_answer-in-No.ensures.ends statuses.WriteFault refused-write fault-write is)

pub returns-in-No-clause-out_fault : goal.returns-in-No-clause-out_fault
returns-in-No-clause-out_fault g c = λ is. ends-in_fault statuses.Refused c.write_answer-in-No.result _ _ c.write_answer-in-No.ensures.ends (g.O.Sink.faults c.args.out.now) c.answer.ensures.cause.later refused-fault is

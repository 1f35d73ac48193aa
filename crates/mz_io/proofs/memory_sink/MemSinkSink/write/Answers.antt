use Rattle.std.proofs.Common.{rules, ◌∙◌}
use Rattle.mz_io.proofs.Answered.{taken-more, taken-none}
use Rattle.mz_io.proofs.memory_sink.MemSinkSink.write.Goals as goal

pub invariant_of-self : goal.invariant_of-self
invariant_of-self c = record {
  spare = search rules;
  takes = search rules;
  holds = taken-none c.args.self.now.bytes.items c.args.piece.now c.args.self.now.log.calls c.note.new.self.calls c.args.self.now.holds c.note.ensures;
}

pub invariant_of-self-in-Ok : goal.invariant_of-self-in-Ok
invariant_of-self-in-Ok c = record {
  spare = search rules;
  takes = search rules;
  holds = c.in-Ok.ensures.items ∙ taken-more c.args.self.now.bytes.items _ c.args.self.now.log.calls c.note-in-Ok.new.self.calls c.args.self.now.holds c.note-in-Ok.ensures;
}

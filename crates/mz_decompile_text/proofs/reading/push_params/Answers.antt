use Rattle.mz_decompile_text.specs.Naming.{vocabulary_by}
use Rattle.mz_decompile_text.proofs.RowNumbers.{more_variables}
use Rattle.mz_decompile_text.proofs.LongerProofs.{grows-on}
use Rattle.mz_decompile_text.proofs.reading.push_params.Goals as goal

pub loop-i-preserved : goal.loop-i-preserved
loop-i-preserved c = record {
  grows = grows-on c.args.phrases.now c.loop-i.phrases c.push_variable.new.phrases c.loop-i.invariant.grows c.in_ok-word.ensures.grows;
  words = more_variables (vocabulary_by c.args.names.now) c.loop-i.phrases c.push_variable.new.phrases c.loop-i.words.items c.push.new.self.items c.loop-i.i c.in_ok-word.word c.loop-i.invariant.words
      c.in_ok-word.ensures.grows c.in_ok-word.ensures.is c.in_ok-push.ensures.items;
}

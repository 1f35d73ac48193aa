use Rattle.mz_decompile_text.specs.Phrases.{a_word}
use Rattle.mz_decompile_text.proofs.LongerProofs.{adds-one}
use Rattle.mz_decompile_text.proofs.parts.put_word.Goals as goal

pub returns : goal.returns
returns c =
    adds-one c.args.phrases.now c.word.new.phrases c.args.parts.now.items c.push.new.self.items (a_word c.args.bytes.now) c.in_ok-n.n
    c.in_ok-n.ensures c.in_ok-push.ensures.items c.requires

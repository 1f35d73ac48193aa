use Rattle.std.proofs.Common.{refl, sym, ◌∙◌, append-nil}
use Rattle.mz_layout_tables.specs.Normal.{words_bytes}
use Rattle.mz_layout_tables.proofs.Offered.{appended, all-written, words-more}
use Rattle.mz_layout.proofs.sections.put_words.Goals as goal

pub loop-word-init : goal.loop-word-init
loop-word-init c = refl

pub loop-word-preserved : goal.loop-word-preserved
loop-word-preserved c =
    appended _ _ _ _ _ _ c.loop-word.invariant (words-more c.args.words.now c.loop-word.word-index _ c.loop-word-test.true) c.in_ok-put_u64.ensures

pub returns : goal.returns
returns c =
    sym (append-nil c.loop-word.out.items) ∙ all-written words_bytes c.args.words.now c.loop-word.word-index _ c.loop-word.out.items c.loop-word-test.false c.loop-word.invariant

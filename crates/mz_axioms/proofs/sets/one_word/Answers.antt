use Rattle.std.proofs.Common.{refl, subst, slice_index_or}
use Rattle.std.proofs.lemmas.List.{take_all}
use Rattle.mz_axioms.proofs.Halving.{IsAll, all-first, all-more}
use Rattle.mz_axioms.proofs.sets.one_word.Goals as goal

pub words-init : goal.words-init
words-init c = record { so_far = all-first }

pub words-preserved : goal.words-preserved
words-preserved c = record { so_far = all-more c.args.words.now c.words.word-index c.words.all (slice_index_or c.args.words.now c.words.word-index 0) c.words-test.true refl c.words.invariant.so_far }

pub returns : goal.returns
returns c = subst (λ ws. IsAll ws c.words.all) (take_all c.words.word-index c.args.words.now c.words-test.false) c.words.invariant.so_far

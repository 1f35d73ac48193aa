use Rattle.std.proofs.Common.{arith}
use Rattle.mz_layout_tables.proofs.TableLists.{length-term_words}
use Rattle.mz_layout_tables.proofs.word.is_result.Goals as goal

pub result-word-requires : goal.result-word-requires
result-word-requires c = omega (arith, c.requires.row, length-term_words c.args.mmb.now)

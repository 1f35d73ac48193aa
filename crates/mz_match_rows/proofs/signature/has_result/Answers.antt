use Rattle.std.proofs.Common.{arith}
use Rattle.mz_layout_tables.proofs.Offered.{length-term_words}
use Rattle.mz_match_rows.proofs.signature.has_result.Goals as goal

pub result-word-requires : goal.result-word-requires
result-word-requires c = omega (arith, c.requires.row, length-term_words c.args.mmb.now)

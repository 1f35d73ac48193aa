use Rattle.mz_prefix.proofs.Lexing.{words-are-lexemes}
use Rattle.mz_prefix.proofs.PlainLines.{lines-lex}
use Rattle.mz_prefix.proofs.print_laws.words_are_lexemes.Goals as goal

pub returns : goal.returns
returns c = record { words = words-are-lexemes; lines = lines-lex }

use Rattle.mz_lex.proofs.MathStrings.{has-inside, inside-stands}
use Rattle.mz_lex.proofs.laws.math_strings_have_an_inside.Goals as goal

pub returns : goal.returns
returns c = record { bytes = has-inside; in_text = inside-stands }

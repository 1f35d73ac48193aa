use Rattle.std.proofs.Common.{[], subst}
use Rattle.std.proofs.lemmas.List.{append-nil}
use Rattle.mz_lex.specs.MathTokens.{MathTokens}
use Rattle.mz_lex.proofs.tokens.Delimiters.tokens.Goals as goal

pub returns : goal.returns
returns c = subst (MathTokens c.args.self.now c.args.text.now) (append-nil c.tokens.pieces.items) (c.tokens.invariant.0 [] c.in_default.ensures)

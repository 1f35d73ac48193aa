use Rattle.mz_lex.proofs.Strings.{no-constant}
use Rattle.mz_lex.proofs.tokens.Delimiters.constant.Goals as goal

pub returns-then-is_parenthesis : goal.returns-then-is_parenthesis
returns-then-is_parenthesis c =
    no-constant c.args.self.now c.args.text.now c.in_ok-piece.piece c.in_ok-piece.ensures.only.1 (c.is_parenthesis.ensures.0 c.if-is_parenthesis.true)

use Rattle.mz_prefix.proofs.TokenLists.{tokens-are-math_tokens}
use Rattle.mz_prefix.proofs.print_laws.tokens_are_math_tokens.Goals as goal

pub returns : goal.returns
returns c = tokens-are-math_tokens

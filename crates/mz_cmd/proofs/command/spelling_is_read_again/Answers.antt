use Rattle.mz_cmd.proofs.SpellingLaws.{Spells-again}
use Rattle.mz_cmd.proofs.command.spelling_is_read_again.Goals as goal

pub returns : goal.returns
returns c = Spells-again

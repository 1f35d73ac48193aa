use Rattle.mz_cmd.proofs.SpellingLaws.{Spells-one}
use Rattle.mz_cmd.proofs.command.one_spelling_at_the_front.Goals as goal

pub returns-clause-front : goal.returns-clause-front
returns-clause-front c = Spells-one

use Rattle.std.proofs.Common.{◌∙◌, sym}
use Rattle.mz_math_operators.proofs.Noting.{noted-before, noted-new}
use Rattle.mz_math_operators.proofs.ambiguity.note_level_of.Goals as goal

pub returns-in-Some : goal.returns-in-Some
returns-in-Some c = noted-before c.args.levels.now c.args.word.now c.args.level c.in-Some.other (sym c.get.ensures ∙ c.in-Some.is)

pub returns-in_ok-insert-in-None : goal.returns-in_ok-insert-in-None
returns-in_ok-insert-in-None c =
    noted-new c.args.levels.now c.args.word.now c.args.level c.insert.new.self (sym c.get.ensures ∙ c.in-None.is) c.in_ok-insert-in-None.ensures.ok

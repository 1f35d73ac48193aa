use Rattle.std.proofs.Common.{map, take}
use Rattle.mz_decompile_text.specs.Phrases.{a_word}
use Rattle.mz_decompile_text.specs.Naming.{vocabulary_by}
use Rattle.mz_decompile_text.specs.Growing.{Adds}
use Rattle.mz_decompile_text.proofs.parts.put_variables.Given as goal

abbrev pub invariant-variables : goal.invariant-variables
invariant-variables l =
    Adds l.initial.phrases l.phrases l.initial.parts.items l.parts.items
    (map (λ x. a_word ((vocabulary_by l.names).variable x)) (take l.x-index l.variables))

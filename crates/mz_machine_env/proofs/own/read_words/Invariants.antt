use Rattle.std.proofs.Common.{◌≡◌, take}
use Rattle.mz_machine_env.specs.OwnRow.{kind_of, own_words}
use Rattle.mz_machine_env.proofs.own.read_words.Given as goal

abbrev pub invariant-params : goal.invariant-params
invariant-params l = l.words.items ≡ take l.j (own_words l.env.file l.row (kind_of l.kind))

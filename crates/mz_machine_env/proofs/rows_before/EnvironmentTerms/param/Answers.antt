use Rattle.std.proofs.Common.{◌<◌, length, sym, subst}
use Rattle.mz_machine_env.specs.Before.{words_before}
use Rattle.mz_machine_env.proofs.BeforeLaws.{words-in-file}
use Rattle.mz_machine_env.proofs.rows_before.EnvironmentTerms.param.Goals as goal

pub param-requires-clause-term : goal.param-requires-clause-term
param-requires-clause-term c =
    words-in-file (record { file = c.self.inside.mmb.now; rows = c.self.inside.rows }) c.args.t c.self.invariant.1
    (subst (λ b. c.args.t < length (words_before b)) (sym c.self.view_is) c.requires.term)

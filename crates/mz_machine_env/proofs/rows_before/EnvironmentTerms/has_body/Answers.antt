use Rattle.std.proofs.Common.{◌<◌, length, sym, subst}
use Rattle.mz_machine_env.specs.Before.{words_before}
use Rattle.mz_machine_env.proofs.BeforeLaws.{words-in-file}
use Rattle.mz_machine_env.proofs.rows_before.EnvironmentTerms.has_body.Goals as goal

pub has_body-requires : goal.has_body-requires
has_body-requires c =
    words-in-file (record { file = c.self.inside.mmb.now; rows = c.self.inside.rows }) c.args.t c.self.invariant.1
    (subst (λ b. c.args.t < length (words_before b)) (sym c.self.view_is) c.requires)

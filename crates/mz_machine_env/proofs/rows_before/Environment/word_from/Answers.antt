use Rattle.std.proofs.Common.{sym, subst}
use Rattle.mz_machine_env.specs.OperandRows.{IsBefore}
use Rattle.mz_machine_env.proofs.BeforeLaws.{row-there}
use Rattle.mz_machine_env.proofs.rows_before.Environment.word_from.Goals as goal

pub param_from-requires-clause-row : goal.param_from-requires-clause-row
param_from-requires-clause-row c =
    row-there (record { file = c.self.inside.mmb.now; rows = c.self.inside.rows }) c.args.row c.self.invariant.1
    (subst (λ b. IsBefore b c.args.row) (sym c.self.view_is) c.requires.row)

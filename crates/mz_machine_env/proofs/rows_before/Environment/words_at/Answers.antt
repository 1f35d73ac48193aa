use Rattle.std.proofs.Common.{sym, subst}
use Rattle.mz_machine_env.specs.OperandRows.{IsBefore}
use Rattle.mz_machine_env.proofs.BeforeLaws.{row-there}
use Rattle.mz_machine_env.proofs.rows_before.Environment.words_at.Goals as goal

pub words_at-requires : goal.words_at-requires
words_at-requires c =
    row-there (record { file = c.self.inside.mmb.now; rows = c.self.inside.rows }) c.args.row c.self.invariant.1
    (subst (λ b. IsBefore b c.args.row) (sym c.self.view_is) c.requires)

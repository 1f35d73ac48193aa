use Rattle.std.proofs.Common.{◌<◌, sym, subst}
use Rattle.mz_layout_tables.specs.Tables.{term_count}
use Rattle.mz_machine_env.specs.Before.{Before}
use Rattle.mz_machine_env.proofs.BeforeLaws.{row-in-file}
use Rattle.mz_machine_env.proofs.rows_before.Environment.own_term_arity.Goals as goal

pub arity-requires : goal.arity-requires
arity-requires c = row-in-file _ _ (subst (λ (b : Before). c.args.row < term_count b.file) (sym c.self.view_is) c.requires)

use Rattle.std.proofs.Common.{length, sym, ◌∙◌, eqb-true}
use Rattle.mz_machine_env.specs.Before.{tables_of}
use Rattle.mz_machine_env.specs.OwnRow.{kind_of}
use Rattle.mz_machine.proofs.LackRows.{no-lack-empty}
use Rattle.mz_machine.proofs.lack.lack.Goals as goal

pub returns-then-is_empty-clause-none : goal.returns-then-is_empty-clause-none
returns-then-is_empty-clause-none c =
    no-lack-empty (tables_of c.args.env.now) (kind_of c.args.kind) c.args.cmd c.args.written c.args.equations.now (eqb-true (length c.args.equations.now) 0 (sym c.is_empty.ensures ∙ c.if-is_empty.true))

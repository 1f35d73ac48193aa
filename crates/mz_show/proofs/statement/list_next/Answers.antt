use Rattle.std.proofs.Common.{sym, subst, inl}
use Rattle.mz_base.proofs.Offered.{retold-fails}
use Rattle.mz_base.specs.Checks.{FailsFirst}
use Rattle.mz_cmd.specs.declared.rule.Refusal.{Refusal}
use Rattle.mz_layout_tables.specs.Heads.{head_checks}
use Rattle.mz_show.specs.Statements.{place_checks, refusal_at}
use Rattle.mz_show.proofs.statement.list_next.Goals as goal

pub returns-in-Err : goal.returns-in-Err
returns-in-Err c =
    inl (subst (λ (r : Refusal). FailsFirst (place_checks c.args.mmb.now c.args.place) r) (sym c.refusal.ensures)
    (retold-fails (λ fault. refusal_at c.args.place fault.0 fault.1) (head_checks c.args.mmb.now c.args.place.rows c.args.place.at) (c.in-Err.at, c.in-Err.rule) c.in-Err.ensures.judged))

use Rattle.std.proofs.Common.{ℕ, List, [], sym, subst}
use Rattle.mz_layout_tables.specs.Heads.{body_bytes}
use Rattle.mz_machine_theory.specs.Headings.{heading_of}
use Rattle.mz_machine_env.specs.Before.{tables_before}
use Rattle.mz_trace.specs.Runs.{RunsOver, IsRunOf}
use Rattle.mz_trace.proofs.Claimed.{have-claims}
use Rattle.mz_trace.proofs.run.trace_body.Goals as goal

pub made_of-requires-clause-runs : goal.made_of-requires-clause-runs
made_of-requires-clause-runs g c =
    let (before, own) = c.requires.runs in (
      before,
      c.args.body.0,
      subst (λ (f : List ℕ). RunsOver c.args.mmb.now c.args.row c.args.body.0 (body_bytes f c.args.body.0 c.args.body.1) before) (sym c.file.ensures.file) own,
    )

pub returns-in-Ok-clause-made : goal.returns-in-Ok-clause-made
returns-in-Ok-clause-made g c before own =
    subst (λ (f : List ℕ). IsRunOf (tables_before c.args.mmb.now before) (heading_of c.args.mmb.now 0x06 c.args.row) (body_bytes f c.args.body.0 c.args.body.1) c.in-Ok.run') c.file.ensures.file
    (c.in-Ok.ensures.made before c.args.body.0
    (subst (λ (f : List ℕ). RunsOver c.args.mmb.now c.args.row c.args.body.0 (body_bytes f c.args.body.0 c.args.body.1) before) (sym c.file.ensures.file) own))

pub returns-in-Ok-clause-claims : goal.returns-in-Ok-clause-claims
returns-in-Ok-clause-claims g c before own env declares =
    have-claims (tables_before c.args.mmb.now before) env declares [] c.in-Ok.run'.nodes (returns-in-Ok-clause-made g c before own).nodes

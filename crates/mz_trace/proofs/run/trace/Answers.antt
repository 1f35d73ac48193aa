use Rattle.std.proofs.Common.{List, ℕ, Ok, sym, ap, subst, ◌∙◌}
use Rattle.mz_machine_theory.specs.Headings.{heading_of}
use Rattle.mz_machine_env.specs.Before.{tables_before}
use Rattle.mz_trace.specs.Runs.{IsTraced}
use Rattle.mz_trace.proofs.StatementAt.{stands-in, in-order, within, runs-there, bytes-are}
use Rattle.mz_trace.proofs.run.trace.Goals as goal

pub trace_body-requires-clause-order : goal.trace_body-requires-clause-order
trace_body-requires-clause-order g c =
    let here = stands-in c.file.result.now c.args.mmb.now c.args.statement.now.at c.in-Ok-Head.field-0-0 c.in-Ok-Head.body c.in-Ok-Head.next c.file.ensures.file
    (sym c.in-Ok-Head.ensures.computed ∙ ap (λ s. Ok s) c.in-Ok-Head.field-0-is) in
    in-order c.args.mmb.now c.args.statement.now.at c.args.statement.now.row c.in-Ok-Head.field-0-0 c.in-Ok-Head.body c.in-Ok-Head.next here

pub trace_body-requires-clause-within : goal.trace_body-requires-clause-within
trace_body-requires-clause-within g c =
    let here = stands-in c.file.result.now c.args.mmb.now c.args.statement.now.at c.in-Ok-Head.field-0-0 c.in-Ok-Head.body c.in-Ok-Head.next c.file.ensures.file
    (sym c.in-Ok-Head.ensures.computed ∙ ap (λ s. Ok s) c.in-Ok-Head.field-0-is) in
    within c.args.mmb.now c.args.statement.now.at c.args.statement.now.row c.in-Ok-Head.field-0-0 c.in-Ok-Head.body c.in-Ok-Head.next here

pub trace_body-requires-clause-runs : goal.trace_body-requires-clause-runs
trace_body-requires-clause-runs g c =
    let here = stands-in c.file.result.now c.args.mmb.now c.args.statement.now.at c.in-Ok-Head.field-0-0 c.in-Ok-Head.body c.in-Ok-Head.next c.file.ensures.file
    (sym c.in-Ok-Head.ensures.computed ∙ ap (λ s. Ok s) c.in-Ok-Head.field-0-is) in
    let (before, t) = c.requires in
    (before, runs-there c.args.mmb.now c.args.statement.now.at c.args.statement.now.row c.in-Ok-Head.field-0-0 c.in-Ok-Head.body c.in-Ok-Head.next here before t)

pub returns-clause-made : goal.returns-clause-made
returns-clause-made g c before t =
    let here = stands-in c.file.result.now c.args.mmb.now c.args.statement.now.at c.in-Ok-Head.field-0-0 c.in-Ok-Head.body c.in-Ok-Head.next c.file.ensures.file
    (sym c.in-Ok-Head.ensures.computed ∙ ap (λ s. Ok s) c.in-Ok-Head.field-0-is) in
    subst (λ (bytes : List ℕ). IsTraced (tables_before c.args.mmb.now before) (heading_of c.args.mmb.now 0x06 c.args.statement.now.row) bytes c.trace_body.result)
    (bytes-are c.args.mmb.now c.args.statement.now.at c.args.statement.now.row c.in-Ok-Head.field-0-0 c.in-Ok-Head.body c.in-Ok-Head.next here before t)
    (c.trace_body.ensures.made before (runs-there c.args.mmb.now c.args.statement.now.at c.args.statement.now.row c.in-Ok-Head.field-0-0 c.in-Ok-Head.body c.in-Ok-Head.next here before t))

pub returns-clause-claims : goal.returns-clause-claims
returns-clause-claims g c before t =
    let here = stands-in c.file.result.now c.args.mmb.now c.args.statement.now.at c.in-Ok-Head.field-0-0 c.in-Ok-Head.body c.in-Ok-Head.next c.file.ensures.file
    (sym c.in-Ok-Head.ensures.computed ∙ ap (λ s. Ok s) c.in-Ok-Head.field-0-is) in
    c.trace_body.ensures.claims before (runs-there c.args.mmb.now c.args.statement.now.at c.args.statement.now.row c.in-Ok-Head.field-0-0 c.in-Ok-Head.body c.in-Ok-Head.next here before t)

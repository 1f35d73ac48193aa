use Rattle.std.proofs.Common.{false, ◌≤◌, ◌++◌, List, ap, take, drop, sym, subst, [], length, arith}
use Rattle.std.proofs.lemmas.Result.{IfOk-weaker}
use Rattle.mz_logic_theory.specs.declared.binder.Binder.{Binder}
use Rattle.mz_machine_theory.specs.MachineState.{is_definition}
use Rattle.mz_machine_theory.specs.Premises.{bound_count}
use Rattle.mz_store.specs.Sharing.{tree_of}
use Rattle.mz_emit_theory.specs.SharedBodies.{IsSharedBody}
use Rattle.mz_emit_bodies.specs.Going.{IsAfter}
use Rattle.mz_emit_bodies.specs.TaskInvariant.{to_do}
use Rattle.mz_emit_bodies.specs.Stages.{job}
use Rattle.mz_emit_bodies.proofs.Ends.{cut_at, definition_ended, definition_fits, fine_behind, first_begins, sorted_there, take_long}
use Rattle.mz_emit_bodies.proofs.Spending.{definitions_short}
use Rattle.mz_emit_bodies.proofs.WholeBodies.{definitions_are_written}
use Rattle.mz_emit_bodies.proofs.statement.definition_body.Goals as goal

pub put_expr-requires-clause-before : goal.put_expr-requires-clause-before
put_expr-requires-clause-before c = subst IsAfter (sym c.in_ok-written.ensures.before) c.requires.before

pub put_expr-requires-clause-can : goal.put_expr-requires-clause-can
put_expr-requires-clause-can c =
    let s = c.args.shared.store in
    let ps = take c.args.params s.context in
    let long = take_long Binder s.context c.args.params c.requires.behind.many in
    let o = job false ps s [] in
    (o, (c.in_ok-written.ensures.begins o (first_begins false s [] ps c.args.params long), c.requires.inside, definition_fits false ps s [] c.args.params long c.args.body.0 c.requires.room))

pub returns-clause-written : goal.returns-clause-written
returns-clause-written c = IfOk-weaker c.end.result _ _ (λ b end ps ds is long.
    let s = c.args.shared.store in
    (definition_ended false ps ds s c.args.body.0 c.put_expr.new.self b.items (ap to_do c.in_ok-put_expr.ensures.done) end is
    (c.in_ok-put_expr.ensures.does (job false ps s []) (
      c.in_ok-written.ensures.begins (job false ps s []) (first_begins false s [] ps c.args.params long),
      c.requires.inside,
      definition_fits false ps s [] c.args.params long c.args.body.0 c.requires.room,
    ))).0)
    c.end.ensures

pub returns-clause-body : goal.returns-clause-body
returns-clause-body c = IfOk-weaker c.end.result _ _ (λ b end gaps ps ds is long.
    let s = c.args.shared.store in
    let e = tree_of s c.args.body.0 in
    let env = c.args.before.env.now in
    let done = definition_ended false ps ds s c.args.body.0 c.put_expr.new.self b.items (ap to_do c.in_ok-put_expr.ensures.done) end is
    (c.in_ok-put_expr.ensures.does (job false ps s []) (
      c.in_ok-written.ensures.begins (job false ps s []) (first_begins false s [] ps c.args.params long),
      c.requires.inside,
      definition_fits false ps s [] c.args.params long c.args.body.0 c.requires.room,
    )) in
    subst (IsSharedBody gaps env is_definition ps ds e []) (sym done.0)
    (definitions_are_written gaps env ps ds e (subst (λ (ctx : List Binder). bound_count ctx ≤ 55) is c.requires.few) (fine_behind env c.args.params s c.args.shared.variables.items ps ds c.requires.behind is long)
    (sorted_there env c.args.params s c.args.shared.variables.items (ps ++ ds) c.args.body.0 c.requires.behind is c.requires.inside) done.1))
    c.end.ensures

pub returns-clause-short : goal.returns-clause-short
returns-clause-short c = IfOk-weaker c.end.result _ _ (λ b written.
    let ctx = c.args.shared.store.context in
    let n = c.args.params in
    let same = written (take n ctx) (drop n ctx) (cut_at ctx n) (take_long Binder ctx n c.requires.behind.many) in
    omega (arith, ap length same, definitions_short (take n ctx) (drop n ctx) (tree_of c.args.shared.store c.args.body.0)))
    (returns-clause-written c)

use Rattle.std.proofs.Common.{false, ◌≤◌, ◌++◌, List, length, ap, take, drop, sym, subst, arith}
use Rattle.std.proofs.lemmas.Result.{IfOk-weaker}
use Rattle.mz_logic_theory.specs.Tree.{listed}
use Rattle.mz_logic_theory.specs.Sorts.{AreProvable}
use Rattle.mz_logic_theory.specs.declared.binder.Binder.{Binder}
use Rattle.mz_machine_theory.specs.MachineState.{is_axiom}
use Rattle.mz_machine_theory.specs.Premises.{bound_count}
use Rattle.mz_store.specs.Sharing.{tree_of, trees_of}
use Rattle.mz_emit_theory.specs.SharedBodies.{IsSharedBody}
use Rattle.mz_emit_bodies.specs.Going.{IsAfter}
use Rattle.mz_emit_bodies.specs.TaskInvariant.{to_do}
use Rattle.mz_emit_bodies.specs.Stages.{job}
use Rattle.mz_emit_bodies.proofs.Ends.{axiom_ended, cut_at, fine_behind, first_begins, sorted_there, take_long, writes_from}
use Rattle.mz_emit_bodies.proofs.Spending.{axioms_short}
use Rattle.mz_emit_bodies.proofs.WholeBodies.{axioms_are_written}
use Rattle.mz_emit_bodies.proofs.statement.axiom_body.Goals as goal

pub put_axiom-requires-clause-before : goal.put_axiom-requires-clause-before
put_axiom-requires-clause-before c = subst IsAfter (sym c.in_ok-written.ensures.before) c.requires.before

pub put_axiom-requires-clause-can : goal.put_axiom-requires-clause-can
put_axiom-requires-clause-can c =
    let s = c.args.shared.store in
    let is = c.args.hyps.now in
    let ps = take c.args.params s.context in
    let long = take_long Binder s.context c.args.params c.requires.behind.many in
    let o = job false ps s (listed (trees_of s is)) in (
      o,
      writes_from false ps s is c.args.params long c.args.conclusion.0 c.in_ok-written.written c.requires.room
          (c.in_ok-written.ensures.begins o (first_begins false s (listed (trees_of s is)) ps c.args.params long)) c.requires.hyps c.requires.inside,
    )

pub returns-clause-written : goal.returns-clause-written
returns-clause-written c = IfOk-weaker c.end.result _ _ (λ b end ps ds cut long.
    let s = c.args.shared.store in
    let is = c.args.hyps.now in
    let o = job false ps s (listed (trees_of s is)) in
    (axiom_ended false ps ds s is c.args.conclusion.0 c.put_axiom.new.self b.items (ap to_do c.in_ok-put_axiom.ensures.done) end cut
    (c.in_ok-put_axiom.ensures.does o (writes_from false ps s is c.args.params long c.args.conclusion.0 c.in_ok-written.written c.requires.room
    (c.in_ok-written.ensures.begins o (first_begins false s (listed (trees_of s is)) ps c.args.params long)) c.requires.hyps c.requires.inside))).0)
    c.end.ensures

pub returns-clause-body : goal.returns-clause-body
returns-clause-body c = IfOk-weaker c.end.result _ _ (λ b end gaps ps ds cut long.
    let s = c.args.shared.store in
    let is = c.args.hyps.now in
    let env = c.args.before.env.now in
    let hyps = listed (trees_of s is) in
    let e = tree_of s c.args.conclusion.0 in
    let o = job false ps s hyps in
    let done = axiom_ended false ps ds s is c.args.conclusion.0 c.put_axiom.new.self b.items (ap to_do c.in_ok-put_axiom.ensures.done) end cut
    (c.in_ok-put_axiom.ensures.does o (writes_from false ps s is c.args.params long c.args.conclusion.0 c.in_ok-written.written c.requires.room
    (c.in_ok-written.ensures.begins o (first_begins false s hyps ps c.args.params long)) c.requires.hyps c.requires.inside)) in
    subst (IsSharedBody gaps env is_axiom ps ds e hyps) (sym done.0)
    (axioms_are_written gaps env ps ds hyps e (subst (λ (ctx : List Binder). bound_count ctx ≤ 55) cut c.requires.few) (fine_behind env c.args.params s c.args.shared.variables.items ps ds c.requires.behind cut long)
    (subst (λ (ctx : List Binder). AreProvable env ctx (trees_of s is)) cut c.requires.provable)
    (sorted_there env c.args.params s c.args.shared.variables.items (ps ++ ds) c.args.conclusion.0 c.requires.behind cut c.requires.inside) done.1))
    c.end.ensures

pub returns-clause-short : goal.returns-clause-short
returns-clause-short c = IfOk-weaker c.end.result _ _ (λ b written.
    let s = c.args.shared.store in
    let n = c.args.params in
    let same = written (take n s.context) (drop n s.context) (cut_at s.context n) (take_long Binder s.context n c.requires.behind.many) in
    omega (arith, ap length same, axioms_short (take n s.context) (drop n s.context) (trees_of s c.args.hyps.now) (tree_of s c.args.conclusion.0)))
    (returns-clause-written c)

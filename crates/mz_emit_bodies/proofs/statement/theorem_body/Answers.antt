use Rattle.std.proofs.Common.{ℕ, ◌≤◌, List, length, ap, take, drop, sym, subst, [], arith}
use Rattle.std.proofs.lemmas.Result.{IfOk-weaker}
use Rattle.mz_logic_theory.specs.Tree.{listed}
use Rattle.mz_logic_theory.specs.Sorts.{AreProvable}
use Rattle.mz_logic_theory.specs.declared.binder.Binder.{Binder}
use Rattle.mz_machine_theory.specs.MachineState.{is_theorem}
use Rattle.mz_machine_theory.specs.Premises.{bound_count}
use Rattle.mz_mmu_theory.specs.ProofView.{proof_view}
use Rattle.mz_store.specs.Sharing.{trees_of}
use Rattle.mz_emit_theory.specs.Claims.{IsSound, proved}
use Rattle.mz_emit_theory.specs.Uses.{uses, IsBodyUsing}
use Rattle.mz_emit_bodies.specs.Going.{IsAfter}
use Rattle.mz_emit_bodies.specs.TaskInvariant.{to_do}
use Rattle.mz_emit_bodies.specs.Stages.{job}
use Rattle.mz_emit_bodies.proofs.Ends.{cut_at, fine_behind, first_begins, proves_from, take_long, theorem_ended}
use Rattle.mz_emit_bodies.proofs.Spending.{theorems_short}
use Rattle.mz_emit_bodies.proofs.WholeBodies.{theorem_bodies_use}
use Rattle.mz_emit_bodies.proofs.statement.theorem_body.Goals as goal

pub put_theorem-requires-clause-before : goal.put_theorem-requires-clause-before
put_theorem-requires-clause-before c = subst IsAfter (sym c.in_ok-written.ensures.before) c.requires.before

pub put_theorem-requires-clause-can : goal.put_theorem-requires-clause-can
put_theorem-requires-clause-can c =
    let s = c.args.shared.store in
    let is = c.args.hyps.now in
    let gaps = c.requires.sound.0 in
    let ps = take c.args.params s.context in
    let long = take_long Binder s.context c.args.params c.requires.behind.many in
    let o = job gaps ps s (listed (trees_of s is)) in (
      o,
      proves_from gaps ps s is c.args.params long c.args.before c.in_ok-written.written (proof_view c.args.proof.now) c.in_ok-written.ensures.before c.requires.room
          (c.in_ok-written.ensures.begins o (first_begins gaps s (listed (trees_of s is)) ps c.args.params long)) c.requires.hyps c.requires.sound.1,
    )

pub returns-clause-written : goal.returns-clause-written
returns-clause-written c = IfOk-weaker c.end.result _ _ (λ b end ps ds cut long.
    let s = c.args.shared.store in
    let is = c.args.hyps.now in
    let gaps = c.requires.sound.0 in
    let p = proof_view c.args.proof.now in
    let same = c.in_ok-written.ensures.before in
    let o = job gaps ps s (listed (trees_of s is)) in
    (theorem_ended gaps c.args.before c.in_ok-written.written.before ps ds s is p c.put_theorem.new.self b.items same (ap to_do c.in_ok-put_theorem.ensures.done) end cut
    (c.in_ok-put_theorem.ensures.does o (proves_from gaps ps s is c.args.params long c.args.before c.in_ok-written.written p same c.requires.room
    (c.in_ok-written.ensures.begins o (first_begins gaps s (listed (trees_of s is)) ps c.args.params long)) c.requires.hyps c.requires.sound.1))).0)
    c.end.ensures

pub returns-clause-uses : goal.returns-clause-uses
returns-clause-uses c = IfOk-weaker c.end.result _ _ (λ b end mode sound ps ds cut long.
    let s = c.args.shared.store in
    let is = c.args.hyps.now in
    let env = c.args.before.env.now in
    let hyps = listed (trees_of s is) in
    let gaps = c.requires.sound.0 in
    let p = proof_view c.args.proof.now in
    let same = c.in_ok-written.ensures.before in
    let o = job gaps ps s hyps in
    let done = theorem_ended gaps c.args.before c.in_ok-written.written.before ps ds s is p c.put_theorem.new.self b.items same (ap to_do c.in_ok-put_theorem.ensures.done) end cut
    (c.in_ok-put_theorem.ensures.does o (proves_from gaps ps s is c.args.params long c.args.before c.in_ok-written.written p same c.requires.room
    (c.in_ok-written.ensures.begins o (first_begins gaps s hyps ps c.args.params long)) c.requires.hyps c.requires.sound.1)) in
    subst (λ (bs : List ℕ). IsBodyUsing mode env is_theorem ps ds (proved env hyps [] p) hyps bs (λ u. uses u [] p)) (sym done.0)
    (theorem_bodies_use mode env ps ds hyps p (subst (λ (ctx : List Binder). bound_count ctx ≤ 55) cut c.requires.few) (fine_behind env c.args.params s c.args.shared.variables.items ps ds c.requires.behind cut long)
    (subst (λ (ctx : List Binder). AreProvable env ctx (trees_of s is)) cut c.requires.provable)
    (subst (λ (ctx : List Binder). IsSound mode env ctx hyps [] p) cut sound) done.1))
    c.end.ensures

pub returns-clause-body : goal.returns-clause-body
returns-clause-body c = IfOk-weaker c.end.result _ _ (λ b used mode sound ps ds cut long. (used mode sound ps ds cut long).0) (returns-clause-uses c)

pub returns-clause-short : goal.returns-clause-short
returns-clause-short c = IfOk-weaker c.end.result _ _ (λ b written.
    let s = c.args.shared.store in
    let n = c.args.params in
    let same = written (take n s.context) (drop n s.context) (cut_at s.context n) (take_long Binder s.context n c.requires.behind.many) in
    omega (arith, ap length same, theorems_short c.args.before.env.now (take n s.context) (drop n s.context) (trees_of s c.args.hyps.now) (proof_view c.args.proof.now)))
    (returns-clause-written c)

use Rattle.std.proofs.Common.{sym, ap, ◌∙◌, ◌∷◌, ◌++◌, subst, List}
use Rattle.std.proofs.lemmas.Result.{on_ok_weaker}
use Rattle.mz_cmd.specs.declared.code.ProofCode.TheVariants as code
use Rattle.mz_logic_theory.specs.Signature.{Signature}
use Rattle.mz_logic_theory.specs.Tree.{instance}
use Rattle.mz_logic_theory.specs.DeclView.{assertion_view}
use Rattle.mz_logic_theory.specs.View.{tree}
use Rattle.mz_store.specs.Sharing.{trees_of}
use Rattle.mz_emit_theory.specs.InReach.{AreSorted}
use Rattle.mz_emit_bodies.specs.Pushing.{pushes}
use Rattle.mz_emit_bodies.specs.TaskInvariant.{push, give, to_do}
use Rattle.mz_emit_bodies.proofs.Making.{fits_sorted, grows_on, are_in_grown, trees_grown}
use Rattle.mz_emit_bodies.proofs.Growing.{cite_done, cite_cost, cite_reach, concl_is, shared_as, vars_as}
use Rattle.mz_emit_bodies.proofs.Kept.{instances_grown}
use Rattle.mz_emit_bodies.proofs.body.Body.cite.Goals as goal

pub ids-requires-clause-sorted : goal.ids-requires-clause-sorted
ids-requires-clause-sorted c = (let k = c.requires.can.1.can.0.1 in
    subst (λ (sigs : List Signature). AreSorted sigs c.args.self.now.shared.store.context c.args.es.now) (sym c.requires.before.1) (fits_sorted _ _ c.args.es.now _ k.2))

pub conclusion_id-requires-clause-there : goal.conclusion_id-requires-clause-there
conclusion_id-requires-clause-there c = cite_reach c.args.self.now.before.env.now _ c.args.number c.args.es.now _ (assertion_view c.in-Some.thm.now) c.ids.new.self.store c.in_ok-operands.operands.items c.deref.result.now
    c.requires.can.1.can.0.1 (c.in-Some.ensures c.requires.can.1.can.0.1.0 c.requires.can.1.can.0.1.1 ∙ sym c.requires.can.1.can.0.1.1) c.deref.ensures.value c.in_ok-operands.ensures.trees

pub returns-clause-does : goal.returns-clause-does
returns-clause-does c = on_ok_weaker c.add_citation.result (λ tasks-are o d.
    let gr = grows_on c.args.self.now.shared.store c.ids.new.self.store c.conclusion_id.new.shared.store c.in_ok-operands.ensures.grows c.in_ok-conclusion.ensures.grows in
    let v-is = c.in_ok-conclusion.ensures.variables ∙ c.in_ok-operands.ensures.variables in
    vars_as _ o c.conclusion_id.new.shared.store _ _ _ _ _ _ _ _ v-is
    (cite_done _ o _ c.conclusion_id.new.shared.store gr _ _ _ _ _ c.args.number c.args.es.now c.in_ok-operands.operands.items c.in_ok-conclusion.conclusion.0
    (to_do c.args.self.now.tasks.items) (to_do c.add_citation.new.tasks.items) _
    (shared_as c.args.self.now.before.env.now _ c.conclusion_id.new.shared.store _ _ c.requires.before.1 v-is c.in_ok-conclusion.ensures.shared)
    (are_in_grown c.ids.new.self.store c.conclusion_id.new.shared.store c.in_ok-conclusion.ensures.grows c.in_ok-operands.operands.items c.in_ok-operands.ensures.ids)
    (trees_grown c.ids.new.self.store c.conclusion_id.new.shared.store c.in_ok-conclusion.ensures.grows c.in_ok-operands.operands.items c.in_ok-operands.ensures.ids ∙ c.in_ok-operands.ensures.trees) (
      c.in_ok-conclusion.ensures.holds.0,
      c.in_ok-conclusion.ensures.holds.1
          ∙ ap (λ is. instance (trees_of c.ids.new.self.store is) (tree c.in-Some.thm.now.conclusion)) c.deref.ensures.value
          ∙ ap (λ es. instance es (tree c.in-Some.thm.now.conclusion)) c.in_ok-operands.ensures.trees
          ∙ ap (instance c.args.es.now) (concl_is c.args.self.now.before.env.now c.args.number (assertion_view c.in-Some.thm.now) (c.in-Some.ensures c.requires.can.1.can.0.1.0 c.requires.can.1.can.0.1.1 ∙ sym c.requires.can.1.can.0.1.1)),
    )
    (tasks-are ∙ ap (λ is. pushes is ++ push c.in_ok-conclusion.conclusion.0 ∷ give code.Thm c.args.number ∷ to_do c.args.self.now.tasks.items) c.deref-2.ensures.value) d))
    c.add_citation.ensures

pub returns-clause-less : goal.returns-clause-less
returns-clause-less c = on_ok_weaker c.add_citation.result (λ tasks-are.
    let gr = grows_on c.args.self.now.shared.store c.ids.new.self.store c.conclusion_id.new.shared.store c.in_ok-operands.ensures.grows c.in_ok-conclusion.ensures.grows in
    cite_cost c.args.self.now.before.env.now c.requires.can.0 c.args.self.now.shared.store c.conclusion_id.new.shared.store gr c.args.self.now.shared.variables.items
    c.args.self.now.heap.places.items c.args.self.now.heap.len c.args.self.now.hyps.items c.args.self.now.cells.cells.items
    c.args.number c.args.es.now c.in_ok-operands.operands.items c.in_ok-conclusion.conclusion.0
    (to_do c.args.self.now.tasks.items) (to_do c.add_citation.new.tasks.items) c.args.self.now.out.items
    (trees_grown c.ids.new.self.store c.conclusion_id.new.shared.store c.in_ok-conclusion.ensures.grows c.in_ok-operands.operands.items c.in_ok-operands.ensures.ids ∙ c.in_ok-operands.ensures.trees)
    (c.in_ok-conclusion.ensures.holds.1
    ∙ ap (λ is. instance (trees_of c.ids.new.self.store is) (tree c.in-Some.thm.now.conclusion)) c.deref.ensures.value
    ∙ ap (λ es. instance es (tree c.in-Some.thm.now.conclusion)) c.in_ok-operands.ensures.trees
    ∙ ap (instance c.args.es.now) (concl_is c.args.self.now.before.env.now c.args.number (assertion_view c.in-Some.thm.now) (c.in-Some.ensures c.requires.can.1.can.0.1.0 c.requires.can.1.can.0.1.1 ∙ sym c.requires.can.1.can.0.1.1)))
    (tasks-are ∙ ap (λ is. pushes is ++ push c.in_ok-conclusion.conclusion.0 ∷ give code.Thm c.args.number ∷ to_do c.args.self.now.tasks.items) c.deref-2.ensures.value) c.requires.can.1)
    c.add_citation.ensures

pub conclusion_id-requires-clause-instances : goal.conclusion_id-requires-clause-instances
conclusion_id-requires-clause-instances c = (
  c.args.self.now.before.env.now,
  instances_grown c.args.self.now.before.env.now c.args.self.now.shared.store c.ids.new.self.store c.args.instances.now.items.items c.in_ok-operands.ensures.grows c.requires.instances,
  concl_is c.args.self.now.before.env.now c.args.number (assertion_view c.in-Some.thm.now) (c.in-Some.ensures c.requires.can.1.can.0.1.0 c.requires.can.1.can.0.1.1 ∙ sym c.requires.can.1.can.0.1.1),
)

pub returns-clause-instances : goal.returns-clause-instances
returns-clause-instances c = on_ok_weaker c.add_citation.result (λ tasks-are. c.in_ok-conclusion.ensures.instances c.args.self.now.before.env.now
    (instances_grown c.args.self.now.before.env.now c.args.self.now.shared.store c.ids.new.self.store c.args.instances.now.items.items c.in_ok-operands.ensures.grows c.requires.instances)
    (concl_is c.args.self.now.before.env.now c.args.number (assertion_view c.in-Some.thm.now) (c.in-Some.ensures c.requires.can.1.can.0.1.0 c.requires.can.1.can.0.1.1 ∙ sym c.requires.can.1.can.0.1.1)))
    c.add_citation.ensures

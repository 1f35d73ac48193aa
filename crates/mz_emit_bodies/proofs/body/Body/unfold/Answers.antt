use Rattle.std.proofs.Common.{ℕ, ◌<◌, ◌+◌, List, length, sym, ap, ◌∙◌, subst, slice_index_or}
use Rattle.std.proofs.lemmas.Result.{on_ok_weaker}
use Rattle.mz_logic_theory.specs.Signature.{Signature}
use Rattle.mz_logic_theory.specs.DeclView.{term_view}
use Rattle.mz_logic_theory.specs.Tree.{app, listed, instance, followed_by, variables}
use Rattle.mz_logic_theory.specs.View.{tree}
use Rattle.mz_mmu_theory.specs.ConvView.{conversion}
use Rattle.mz_store.specs.Sharing.{AreIn, trees_of}
use Rattle.mz_emit_bodies.specs.Variables.{IsShared}
use Rattle.mz_emit_theory.specs.InReach.{InReach, AreSorted}
use Rattle.mz_emit_bodies.specs.TaskInvariant.{to_do}
use Rattle.mz_emit_bodies.proofs.Making.{fits_sorted, grows_on, in_grown, tree_grown, are_in_grown, trees_grown}
use Rattle.mz_emit_bodies.proofs.Growing.{many_ids, shared_as, vars_as}
use Rattle.mz_emit_bodies.proofs.Paying.{body_found, fresh_below, unfold_reach, left_sorted, unfolded_sorted, sorted_as, unfold_done, unfold_cost}
use Rattle.mz_emit_bodies.proofs.body.Body.unfold.Goals as goal

pub ids-requires-clause-sorted : goal.ids-requires-clause-sorted
ids-requires-clause-sorted c =
    subst (λ (sigs : List Signature). AreSorted sigs c.args.self.now.shared.store.context c.args.es.now) (sym c.requires.before.1) (fits_sorted _ _ c.args.es.now _ c.requires.can.1.can.0.2.0.3.4)

pub app-requires-clause-sorted : goal.app-requires-clause-sorted
app-requires-clause-sorted c =
    let can = c.requires.can.1.can.0 in
    sorted_as _ _ c.args.self.now.shared.store.context _ (app c.args.number c.args.es.now) _ c.requires.before.1 c.in_ok-operands.ensures.grows.0
    (ap (app c.args.number) (ap (trees_of c.ids.new.self.store) c.deref.ensures.value ∙ c.in_ok-operands.ensures.trees))
    (left_sorted c.args.self.now.before.env.now c.args.self.now.shared.store.context c.args.number c.args.es.now c.args.vars.now (conversion c.args.part.now) can.0 can.1 can.2.0)

pub push_variables-requires-clause-ids : goal.push_variables-requires-clause-ids
push_variables-requires-clause-ids c = are_in_grown c.ids.new.self.store c.app.new.self.store c.in_ok-left.ensures.grows c.in_ok-operands.operands.items c.in_ok-operands.ensures.ids

pub push_variables-requires-clause-there : goal.push_variables-requires-clause-there
push_variables-requires-clause-there c = λ k d lt.
    subst (λ (n : ℕ). slice_index_or c.args.vars.now k d < n) (ap length (sym (c.in_ok-left.ensures.grows.0 ∙ c.in_ok-operands.ensures.grows.0)))
    (fresh_below c.args.self.now.shared.store.context c.args.es.now c.args.vars.now _ c.requires.can.1.can.0.2.0.3.5 k d lt)

pub instance-requires-clause-there : goal.instance-requires-clause-there
instance-requires-clause-there c =
    let can = c.requires.can.1.can.0 in
    let env = c.args.self.now.before.env.now in
    subst (InReach (length c.deref-2.result.now)) (body_found env c.args.number (term_view c.in-Some.term.now) (tree c.in-Some-body.body.now) (c.in-Some.ensures c.requires.can.1.can.0.2.0.3.0 c.requires.can.1.can.0.2.0.3.3.0 ∙ sym c.requires.can.1.can.0.2.0.3.3.0) c.in-Some-body.ensures)
    (unfold_reach env c.args.self.now.shared.store.context c.args.number c.args.es.now c.args.vars.now (conversion c.args.part.now) can.0 can.1 (length c.deref-2.result.now) c.requires.before.0 can.2.0
    (ap length c.deref-2.ensures.value ∙ c.in_ok-push_variables.ensures.many
    ∙ ap (λ (n : ℕ). n + length c.args.vars.now) (many_ids c.ids.new.self.store c.in_ok-operands.operands.items ∙ ap (λ es. length (listed es)) c.in_ok-operands.ensures.trees)))

pub instance-requires-clause-sorted : goal.instance-requires-clause-sorted
instance-requires-clause-sorted c =
    let can = c.requires.can.1.can.0 in
    let env = c.args.self.now.before.env.now in
    sorted_as _ _ c.args.self.now.shared.store.context _ _ _ c.requires.before.1 (c.in_ok-left.ensures.grows.0 ∙ c.in_ok-operands.ensures.grows.0)
    (ap (λ es. instance es (tree c.in-Some-body.body.now)) (ap (trees_of c.app.new.self.store) c.deref-2.ensures.value ∙ c.in_ok-push_variables.ensures.trees
    ∙ ap (λ es. followed_by es (variables c.args.vars.now))
    (trees_grown c.ids.new.self.store c.app.new.self.store c.in_ok-left.ensures.grows c.in_ok-operands.operands.items c.in_ok-operands.ensures.ids ∙ c.in_ok-operands.ensures.trees))
    ∙ ap (instance (followed_by c.args.es.now (variables c.args.vars.now)))
    (sym (body_found env c.args.number (term_view c.in-Some.term.now) (tree c.in-Some-body.body.now) (c.in-Some.ensures c.requires.can.1.can.0.2.0.3.0 c.requires.can.1.can.0.2.0.3.3.0 ∙ sym c.requires.can.1.can.0.2.0.3.3.0) c.in-Some-body.ensures)))
    (unfolded_sorted env c.args.self.now.shared.store.context c.args.number c.args.es.now c.args.vars.now (conversion c.args.part.now) can.0 can.1 can.2.0)

pub returns-clause-does : goal.returns-clause-does
returns-clause-does c = on_ok_weaker c.add_unfolding.result (λ tasks-are o d.
    let s₁ = c.ids.new.self.store in
    let s₂ = c.app.new.self.store in
    let s₃ = c.instance.new.self.store in
    let env = c.args.self.now.before.env.now in
    let g₂ = c.in_ok-left.ensures.grows in
    let g₃ = c.in_ok-unfolded.ensures.grows in
    let gr = grows_on c.args.self.now.shared.store s₂ s₃ (grows_on c.args.self.now.shared.store s₁ s₂ c.in_ok-operands.ensures.grows g₂) g₃ in
    let left-is = tree_grown s₂ s₃ g₃ c.in_ok-left.left.0 c.in_ok-left.ensures.holds.0 ∙ c.in_ok-left.ensures.holds.1
    ∙ ap (app c.args.number) (ap (trees_of s₁) c.deref.ensures.value ∙ c.in_ok-operands.ensures.trees) in
    let unfolded-is = c.in_ok-unfolded.ensures.holds.1
    ∙ ap (λ es. instance es (tree c.in-Some-body.body.now)) (ap (trees_of s₂) c.deref-2.ensures.value ∙ c.in_ok-push_variables.ensures.trees
    ∙ ap (λ es. followed_by es (variables c.args.vars.now)) (trees_grown s₁ s₂ g₂ c.in_ok-operands.operands.items c.in_ok-operands.ensures.ids ∙ c.in_ok-operands.ensures.trees))
    ∙ ap (instance (followed_by c.args.es.now (variables c.args.vars.now)))
    (sym (body_found env c.args.number (term_view c.in-Some.term.now) (tree c.in-Some-body.body.now) (c.in-Some.ensures c.requires.can.1.can.0.2.0.3.0 c.requires.can.1.can.0.2.0.3.3.0 ∙ sym c.requires.can.1.can.0.2.0.3.3.0) c.in-Some-body.ensures)) in
    let v-is = c.in_ok-unfolded.ensures.variables ∙ c.in_ok-left.ensures.variables ∙ c.in_ok-operands.ensures.variables in
    vars_as _ o s₃ _ _ _ _ _ _ _ _ v-is
    (unfold_done env o _ s₃ gr _ _ _ _ _ c.args.number c.args.es.now c.args.vars.now (conversion c.args.part.now) c.in_ok-left.left.0 c.in_ok-unfolded.unfolded.0
    (to_do c.args.self.now.tasks.items) (to_do c.add_unfolding.new.tasks.items) _ tasks-are
    (shared_as env _ s₃ _ _ c.requires.before.1 v-is c.in_ok-unfolded.ensures.shared)
    (in_grown s₂ s₃ g₃ c.in_ok-left.left.0 c.in_ok-left.ensures.holds.0, left-is) (c.in_ok-unfolded.ensures.holds.0, unfolded-is) d))
    c.add_unfolding.ensures

pub returns-clause-less : goal.returns-clause-less
returns-clause-less c = on_ok_weaker c.add_unfolding.result (λ tasks-are.
    let s₁ = c.ids.new.self.store in
    let s₂ = c.app.new.self.store in
    let s₃ = c.instance.new.self.store in
    let env = c.args.self.now.before.env.now in
    let g₂ = c.in_ok-left.ensures.grows in
    let g₃ = c.in_ok-unfolded.ensures.grows in
    let gr = grows_on c.args.self.now.shared.store s₂ s₃ (grows_on c.args.self.now.shared.store s₁ s₂ c.in_ok-operands.ensures.grows g₂) g₃ in
    let left-is = tree_grown s₂ s₃ g₃ c.in_ok-left.left.0 c.in_ok-left.ensures.holds.0 ∙ c.in_ok-left.ensures.holds.1
    ∙ ap (app c.args.number) (ap (trees_of s₁) c.deref.ensures.value ∙ c.in_ok-operands.ensures.trees) in
    let unfolded-is = c.in_ok-unfolded.ensures.holds.1
    ∙ ap (λ es. instance es (tree c.in-Some-body.body.now)) (ap (trees_of s₂) c.deref-2.ensures.value ∙ c.in_ok-push_variables.ensures.trees
    ∙ ap (λ es. followed_by es (variables c.args.vars.now)) (trees_grown s₁ s₂ g₂ c.in_ok-operands.operands.items c.in_ok-operands.ensures.ids ∙ c.in_ok-operands.ensures.trees))
    ∙ ap (instance (followed_by c.args.es.now (variables c.args.vars.now)))
    (sym (body_found env c.args.number (term_view c.in-Some.term.now) (tree c.in-Some-body.body.now) (c.in-Some.ensures c.requires.can.1.can.0.2.0.3.0 c.requires.can.1.can.0.2.0.3.3.0 ∙ sym c.requires.can.1.can.0.2.0.3.3.0) c.in-Some-body.ensures)) in
    unfold_cost env c.requires.can.0 c.args.self.now.shared.store s₃ gr c.args.self.now.shared.variables.items c.args.self.now.heap.places.items c.args.self.now.heap.len c.args.self.now.hyps.items
    c.args.self.now.cells.cells.items c.args.number c.args.es.now c.args.vars.now (conversion c.args.part.now) c.in_ok-left.left.0 c.in_ok-unfolded.unfolded.0
    (to_do c.args.self.now.tasks.items) (to_do c.add_unfolding.new.tasks.items) c.args.self.now.out.items tasks-are left-is unfolded-is c.requires.can.1)
    c.add_unfolding.ensures

pub ids-requires-clause-shared : goal.ids-requires-clause-shared
ids-requires-clause-shared c = subst (λ sigs. IsShared sigs c.args.self.now.shared.store c.args.self.now.shared.variables.items) (sym c.requires.before.1) c.requires.can.1.shared

pub app-requires-clause-ids : goal.app-requires-clause-ids
app-requires-clause-ids c = subst (AreIn c.ids.new.self.store) (sym c.deref.ensures.value) c.in_ok-operands.ensures.ids

pub app-requires-clause-shared : goal.app-requires-clause-shared
app-requires-clause-shared c = c.in_ok-operands.ensures.shared

pub push_variables-requires-clause-sigs : goal.push_variables-requires-clause-sigs
push_variables-requires-clause-sigs c = (_, c.in_ok-left.ensures.shared)

pub instance-requires-clause-ids : goal.instance-requires-clause-ids
instance-requires-clause-ids c = subst (AreIn c.app.new.self.store) (sym c.deref-2.ensures.value) c.in_ok-push_variables.ensures.ids

pub instance-requires-clause-shared : goal.instance-requires-clause-shared
instance-requires-clause-shared c = c.in_ok-left.ensures.shared

use Rattle.std.proofs.Common.{ℕ, All, ◌<◌, ◌+◌, ◌∷◌, [], List, length, drop, ap, sym, subst, ◌∙◌, arith}
use Rattle.std.proofs.lemmas.List.{length-append, drop_more, drop_all}
use Rattle.mz_logic_theory.specs.Tree.{Tree, Trees, more, followed_by, variables}
use Rattle.mz_logic_theory.proofs.Offered.{followed_by_none, followed_by_push}
use Rattle.mz_store.specs.declared.item.Id.{Id}
use Rattle.mz_store.specs.Sharing.{AreIn, tree_of, trees_of}
use Rattle.mz_emit_bodies.proofs.Making.{trees_push, in_push}
use Rattle.mz_emit_bodies.proofs.Owned.{variable_at, variable_is}
use Rattle.mz_emit_bodies.proofs.shared.Shared.push_variables.Goals as goal

pub index-requires : goal.index-requires
index-requires c =
    let self = c.args.self.now in
    let lt = subst (λ (xs : List ℕ). All (λ y. y < length self.store.context) xs) (sym c.as_slice-place-items.ensures) c.requires.there c.loop-place.place-index 0 c.loop-place-test.true in
    let there = (variable_at _ self.store self.variables.items _ (record { 0 = 0 }) c.requires.sigs.1 lt).0 in
    omega (arith, there, self.variables.ok.0)

pub loop-place-preserved : goal.loop-place-preserved
loop-place-preserved c =
    let self = c.args.self.now in
    let xs : List ℕ = c.as_slice-place-items.result.now in
    let i : ℕ = c.loop-place.place-index in
    let lt = subst (λ (ys : List ℕ). All (λ y. y < length self.store.context) ys) (sym c.as_slice-place-items.ensures) c.requires.there i 0 c.loop-place-test.true in
    let v : Id = c.index.result.now in
    let x = variable_is _ self.store self.variables.items _ v _ c.index.ensures c.requires.sigs.1 lt in
    let ids : List Id = c.loop-place.ids.items in
    let more_ids = c.in_ok-push.ensures.items in
    let rest : Trees = variables (drop (i + 1) xs) in
    let cut = drop_more xs i 0 c.loop-place-test.true in (
      subst (AreIn self.store) (sym more_ids) (in_push self.store ids v c.loop-place.invariant.0 x.0),
      ap (λ (is : List Id). followed_by (trees_of self.store is) rest) more_ids ∙ ap (λ (ts : Trees). followed_by ts rest) (trees_push self.store ids v)
          ∙ followed_by_push (trees_of self.store ids) rest (tree_of self.store v.0) ∙ ap (λ (t : Tree). followed_by (trees_of self.store ids) (more t rest)) x.1
          ∙ ap (λ (ys : List ℕ). followed_by (trees_of self.store ids) (variables ys)) (sym cut) ∙ c.loop-place.invariant.1,
      (let long = ap length more_ids ∙ length-append ids (v ∷ []) in let fewer = ap length cut in let many = c.loop-place.invariant.2 in omega (arith, long, fewer, many)),
    )

pub returns-clause-trees : goal.returns-clause-trees
returns-clause-trees c =
    let store = c.args.self.now.store in
    let built = trees_of store c.loop-place.ids.items in
    sym (followed_by_none built) ∙ ap (λ (xs : List ℕ). followed_by built (variables xs)) (sym (drop_all c.loop-place.place-index c.as_slice-place-items.result.now c.loop-place-test.false)) ∙ c.loop-place.invariant.1
    ∙ ap (λ (xs : List ℕ). followed_by (trees_of store c.args.ids.now.items) (variables xs)) c.as_slice-place-items.ensures

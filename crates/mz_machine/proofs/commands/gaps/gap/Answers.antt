use Rattle.std.proofs.Common.{◌∙◌, ◌∷◌, List, Ok, sym, ap, subst, eq-eqb, inl, inr}
use Rattle.std.proofs.lemmas.Bool.{ne_eqb}
use Rattle.std.proofs.lemmas.Result.{err_from_is_err_and}
use Rattle.mz_logic_theory.specs.declared.binder.Binder.{Binder}
use Rattle.mz_logic_theory.specs.Sorts.{HasSort}
use Rattle.mz_store.specs.Sharing.{tree_of}
use Rattle.mz_unify.specs.Stored.{items_at, item_at, IsItemIn}
use Rattle.mz_machine_env.specs.Before.{signatures_of}
use Rattle.mz_machine_theory.specs.Premises.{pop}
use Rattle.mz_machine.proofs.Converting.{pop-is, put_in}
use Rattle.mz_store.specs.declared.item.Item.TheVariants.{Proof}
use Rattle.mz_machine.specs.OverStore.{with_stack}
use Rattle.mz_unify.proofs.Offered.{items-push}
use Rattle.mz_machine.proofs.GapRows.{gap-none, gap-proof, gap-conversion, gap-claim, gap-other, gap-sides, gap-sorts}
use Rattle.mz_machine.proofs.commands.gaps.gap.Goals as goal

pub returns-in_err-claim-clause-row : goal.returns-in_err-claim-clause-row
returns-in_err-claim-clause-row c at n st ctx is =
    let p = err_from_is_err_and c.from_residual.result c.from_residual.ensures.1 in
    rw (p.1, p.2) (gap-none c.args.env.now at n st _ (ap pop is ∙ c.in_err-claim.ensures.taken))

pub returns-then-not-is_provable-clause-row : goal.returns-then-not-is_provable-clause-row
returns-then-not-is_provable-clause-row c at n st ctx is =
    let top = pop-is _ _ _ c.in_ok-claim.ensures.taken ∙ ap (λ x. item_at c.args.store.now x ∷ items_at c.args.store.now c.pop.new.stack.items) c.in-Expr.is in
    gap-other c.args.env.now at n st _ (tree_of c.args.store.now c.in-Expr.claim.0) c.sort_of.result (is ∙ top)
    (subst (λ (x : List Binder). HasSort (signatures_of c.args.env.now) x (tree_of c.args.store.now c.in-Expr.claim.0) c.sort_of.result) (sym ctx) (c.sort_of.ensures.sort _ c.requires.over)) (sym c.is_provable.ensures ∙ c.if-not-is_provable.true)

pub returns-else-not-is_provable-clause-ids : goal.returns-else-not-is_provable-clause-ids
returns-else-not-is_provable-clause-ids c = put_in c.args.store.now c.pop.new.stack.items _ _ c.put_back.ensures.items (subst (λ x. IsItemIn c.args.store.now x) c.in-Expr.is c.in_ok-claim.ensures.ids.0) c.in_ok-claim.ensures.ids.1

pub returns-else-not-is_provable-clause-row : goal.returns-else-not-is_provable-clause-row
returns-else-not-is_provable-clause-row c at n st ctx is =
    let top = pop-is _ _ _ c.in_ok-claim.ensures.taken ∙ ap (λ x. item_at c.args.store.now x ∷ items_at c.args.store.now c.pop.new.stack.items) c.in-Expr.is in
    gap-claim c.args.env.now at n st _ (tree_of c.args.store.now c.in-Expr.claim.0) c.sort_of.result (is ∙ top)
    (subst (λ (x : List Binder). HasSort (signatures_of c.args.env.now) x (tree_of c.args.store.now c.in-Expr.claim.0) c.sort_of.result) (sym ctx) (c.sort_of.ensures.sort _ c.requires.over))
    (sym c.is_provable.ensures ∙ c.if-not-is_provable.false)
    ∙ ap (λ xs. Ok (with_stack st xs)) (sym (ap (items_at c.args.store.now) c.put_back.ensures.items ∙ items-push c.args.store.now c.pop.new.stack.items (Proof c.in-Expr.claim)))

pub returns-then-sort_of-clause-row : goal.returns-then-sort_of-clause-row
returns-then-sort_of-clause-row c at n st ctx is =
    let top = pop-is _ _ _ c.in_ok-claim.ensures.taken ∙ ap (λ x. item_at c.args.store.now x ∷ items_at c.args.store.now c.pop.new.stack.items) c.in-Obligation.is in
    gap-sides c.args.env.now at n st _ (tree_of c.args.store.now c.in-Obligation.left.0) (tree_of c.args.store.now c.in-Obligation.right.0) c.sort_of-in-Obligation.result c.sort_of-in-Obligation-2.result (is ∙ top)
    (subst (λ (x : List Binder). HasSort (signatures_of c.args.env.now) x (tree_of c.args.store.now c.in-Obligation.left.0) c.sort_of-in-Obligation.result) (sym ctx) (c.sort_of-in-Obligation.ensures.sort _ c.requires.over))
    (subst (λ (x : List Binder). HasSort (signatures_of c.args.env.now) x (tree_of c.args.store.now c.in-Obligation.right.0) c.sort_of-in-Obligation-2.result) (sym ctx) (c.sort_of-in-Obligation-2.ensures.sort _ c.requires.over))
    (eq-eqb _ _ c.if-sort_of.true)

pub returns-else-sort_of-clause-row : goal.returns-else-sort_of-clause-row
returns-else-sort_of-clause-row c at n st ctx is =
    let top = pop-is _ _ _ c.in_ok-claim.ensures.taken ∙ ap (λ x. item_at c.args.store.now x ∷ items_at c.args.store.now c.pop.new.stack.items) c.in-Obligation.is in
    gap-sorts c.args.env.now at n st _ (tree_of c.args.store.now c.in-Obligation.left.0) (tree_of c.args.store.now c.in-Obligation.right.0) c.sort_of-in-Obligation.result c.sort_of-in-Obligation-2.result (is ∙ top)
    (subst (λ (x : List Binder). HasSort (signatures_of c.args.env.now) x (tree_of c.args.store.now c.in-Obligation.left.0) c.sort_of-in-Obligation.result) (sym ctx) (c.sort_of-in-Obligation.ensures.sort _ c.requires.over))
    (subst (λ (x : List Binder). HasSort (signatures_of c.args.env.now) x (tree_of c.args.store.now c.in-Obligation.right.0) c.sort_of-in-Obligation-2.result) (sym ctx) (c.sort_of-in-Obligation-2.ensures.sort _ c.requires.over))
    (ne_eqb _ _ c.if-sort_of.false)

pub returns-in-Proof-clause-row : goal.returns-in-Proof-clause-row
returns-in-Proof-clause-row c at n st ctx is =
    let all = pop-is _ _ _ c.in_ok-claim.ensures.taken in
    elim c.in-Proof.is [
      | inl (e, p) ↦ gap-proof c.args.env.now at n st _ (tree_of c.args.store.now e.0) (is ∙ all ∙ ap (λ x. item_at c.args.store.now x ∷ items_at c.args.store.now c.pop.new.stack.items) p)
      | inr (l, r, p) ↦ gap-conversion c.args.env.now at n st _ (tree_of c.args.store.now l.0) (tree_of c.args.store.now r.0) (is ∙ all ∙ ap (λ x. item_at c.args.store.now x ∷ items_at c.args.store.now c.pop.new.stack.items) p)
    ]

use Rattle.std.proofs.Common.{◌≡◌, ◌∙◌, ◌∷◌, [], ◌++◌, ◌<◌, ◌≤◌, length, sym, ap, arith, lt-ltb, le-ltb}
use Rattle.mz_pmachine_theory.specs.NodeIdentity.{a_variable, portable}
use Rattle.mz_store.specs.Sharing.{dummy_binder}
use Rattle.mz_pmachine_unify.specs.Numbering.{expr_of}
use Rattle.mz_machine_theory.specs.Spells.{dummy_of}
use Rattle.mz_machine_theory.specs.Premises.{bound_count}
use Rattle.mz_machine_env.specs.Before.{tables_of}
use Rattle.mz_machine.proofs.Offered.{dummy-sort-fails, dummy-many, dummy-row, count-is, a-dummy}
use Rattle.mz_pmachine.proofs.commands.heap.dummy.Goals as goal

pub returns-then-not-may_be_dummy-clause-row : goal.returns-then-not-may_be_dummy-clause-row
returns-then-not-may_be_dummy-clause-row c at st ctx = dummy-sort-fails portable (tables_of c.args.env.now) at c.args.sort st (sym c.may_be_dummy.ensures ∙ c.if-not-may_be_dummy.true)

pub returns-then-bound_count-ge55-clause-row : goal.returns-then-bound_count-ge55-clause-row
returns-then-bound_count-ge55-clause-row c at st ctx =
    dummy-many portable (tables_of c.args.env.now) at c.args.sort st (sym c.may_be_dummy.ensures ∙ c.if-not-may_be_dummy.false)
    (le-ltb _ _ (let many : 55 ≤ bound_count st.ctx = omega (arith, ap bound_count ctx, count-is c.args.nodes.now.context, c.bound_count.ensures.many, c.if-bound_count-ge55.true) in many))

pub returns-in-Ok-clause-grows : goal.returns-in-Ok-clause-grows
returns-in-Ok-clause-grows c = record {
  keeps = c.in-Ok.ensures.kept;
  over = c.in-Ok.ensures.over _ c.requires.over;
  mode = c.in-Ok.ensures.mode;
  context = (dummy_binder c.args.sort ∷ [], c.in-Ok.ensures.context, a-dummy c.args.sort);
}

pub returns-in-Ok-clause-row : goal.returns-in-Ok-clause-row
returns-in-Ok-clause-row c at st ctx =
    let few : bound_count st.ctx < 55 = omega (arith, ap bound_count ctx, count-is c.args.nodes.now.context, c.bound_count.ensures.many, c.if-bound_count-ge55.false) in
    let made : expr_of c.dummy.new.self c.in-Ok.id.0 ≡ a_variable (length st.ctx) = c.in-Ok.ensures.holds.1 ∙ ap (λ x. a_variable (length x)) (sym ctx) in
    let context : c.dummy.new.self.context ≡ st.ctx ++ dummy_of c.args.sort ∷ [] = c.in-Ok.ensures.context ∙ ap (λ x. x ++ dummy_binder c.args.sort ∷ []) (sym ctx) in
    rw (made, context) (dummy-row portable (tables_of c.args.env.now) at c.args.sort st (sym c.may_be_dummy.ensures ∙ c.if-not-may_be_dummy.false) (lt-ltb _ _ few))

use Rattle.std.proofs.Common.{ℕ, ◌+◌, ◌++◌, ◌∷◌, [], List, length, take, ap, sym, subst, ◌∙◌, arith}
use Rattle.std.proofs.lemmas.List.{length-append, take_more, drop_more, take_all, append_assoc, append-nil}
use Rattle.mz_logic_theory.specs.Legality.{IsDummy}
use Rattle.mz_logic_theory.specs.declared.binder.Binder.{Binder}
use Rattle.mz_store.specs.Bits.{bound_vars}
use Rattle.mz_emit_bodies.specs.Variables.{IsShared}
use Rattle.mz_emit_bodies.proofs.Entering.{dummy_shared, dummy_is, one_bound_more}
use Rattle.mz_emit_bodies.proofs.shared.add_dummies.Goals as goal

pub loop-dummy-init : goal.loop-dummy-init
loop-dummy-init c = (c.requires.shared, c.requires.alone, sym (append-nil c.args.store.now.context), c.requires.few)

pub dummy-requires : goal.dummy-requires
dummy-requires c =
    let few = c.loop-dummy.invariant.3 in
    let cut = ap length (drop_more c.args.dummies.now c.loop-dummy.dummy-index c.dummy-item.result c.loop-dummy-test.true) in
    omega (arith, few, cut)

pub loop-dummy-preserved : goal.loop-dummy-preserved
loop-dummy-preserved c =
    let ds : List Binder = c.args.dummies.now in
    let i : ℕ = c.loop-dummy.dummy-index in
    let b : Binder = c.dummy-item.result in
    let context = c.in_ok-id.ensures.context ∙ ap (λ (d : Binder). c.loop-dummy.store.context ++ d ∷ []) (dummy_is b (subst IsDummy (sym c.dummy-item.is) (c.requires.dummies i b c.loop-dummy-test.true))) in
    let few = c.loop-dummy.invariant.3 in
    let cut = ap length (drop_more ds i b c.loop-dummy-test.true) in
    let bound = ap (λ ctx. length (bound_vars ctx)) c.in_ok-id.ensures.context ∙ one_bound_more c.loop-dummy.store.context b.sort in
    let ids = c.in_ok-push.ensures.items in (
      (λ sigs. subst (IsShared sigs c.dummy.new.self) (sym ids)
          (dummy_shared c.loop-dummy.store c.dummy.new.self c.loop-dummy.variables.items c.in_ok-id.id b.sort c.loop-dummy.invariant.0 c.loop-dummy.invariant.1
          c.in_ok-id.ensures.id c.in_ok-id.ensures.holds c.in_ok-id.ensures.context c.in_ok-id.ensures.mode c.in_ok-id.ensures.kept c.in_ok-id.ensures.over sigs)),
      c.in_ok-id.ensures.many ∙ ap (λ (n : ℕ). n + 1) c.loop-dummy.invariant.1 ∙ sym (ap length ids ∙ length-append c.loop-dummy.variables.items (c.in_ok-id.id ∷ [])),
      context ∙ ap (λ (ctx : List Binder). ctx ++ b ∷ []) c.loop-dummy.invariant.2 ∙ append_assoc c.args.store.now.context (take i ds) (b ∷ [])
          ∙ ap (λ (ys : List Binder). c.args.store.now.context ++ ys) (sym (take_more ds i b c.loop-dummy-test.true ∙ ap (λ (d : Binder). take i ds ++ d ∷ []) (sym c.dummy-item.is))),
      omega (arith, few, cut, bound),
    )

pub returns-clause-context : goal.returns-clause-context
returns-clause-context c = c.loop-dummy.invariant.2 ∙ ap (λ (ys : List Binder). c.args.store.now.context ++ ys) (take_all c.loop-dummy.dummy-index c.args.dummies.now c.loop-dummy-test.false)

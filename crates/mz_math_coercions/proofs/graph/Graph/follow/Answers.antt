use Rattle.std.proofs.Common.{◌≡◌, ◌-◌, ◌+◌, ◌∙◌, ℕ, List, Some, ap, sym, subst, arith, get_or, slice_get}
use Rattle.std.proofs.lemmas.Option.{none-some}
use Rattle.mz_math_theory.specs.declared.coercion.Coercion.{Coercion}
use Rattle.mz_math_coercions.specs.Graph.{AreChained}
use Rattle.mz_math_coercions.proofs.Walks.{all-followed, followed-only, none-followed, one-followed, place-there}
use Rattle.mz_math_coercions.proofs.graph.Graph.follow.Goals as goal

pub chain-init : goal.chain-init
chain-init c =
    let chained : AreChained c.args.self.now c.self.inside.last.items c.self.inside.before.items = subst (λ (cs : List Coercion). AreChained cs c.self.inside.last.items c.self.inside.before.items) c.self.view_is c.self.invariant in
    none-followed c.args.self.now c.self.inside.last.items c.self.inside.before.items c.args.sort c.link_at-next.result c.args.reached.now chained
    (c.link_at-next.ensures ∙ ap (λ (xs : List ℕ). get_or xs c.args.sort 0) c.deref.ensures.value)

pub unreachable-requires : goal.unreachable-requires
unreachable-requires c =
    let chained : AreChained c.args.self.now c.self.inside.last.items c.self.inside.before.items = subst (λ (cs : List Coercion). AreChained cs c.self.inside.last.items c.self.inside.before.items) c.self.view_is c.self.invariant in
    let is : c.chain.next ≡ (c.chain.next - 1) + 1 = (let some = c.chain-test.true in omega (arith, some)) in
    let (d, at, begins) = place-there c.args.self.now c.self.inside.last.items c.self.inside.before.items chained c.args.sort c.args.reached.now c.chain.reached c.chain.reached c.chain.next (c.chain.next - 1) c.chain.invariant is in
    none-some _ (c.in_default.ensures ∙ ap (λ (cs : List Coercion). slice_get cs (c.chain.next - 1)) (c.deref-in-chain.ensures.value ∙ c.self.view_is) ∙ at)

pub returns-in_err-add-clause-only : goal.returns-in_err-add-clause-only
returns-in_err-add-clause-only c =
    let chained : AreChained c.args.self.now c.self.inside.last.items c.self.inside.before.items = subst (λ (cs : List Coercion). AreChained cs c.self.inside.last.items c.self.inside.before.items) c.self.view_is c.self.invariant in
    let is : c.chain.next ≡ (c.chain.next - 1) + 1 = (let some = c.chain-test.true in omega (arith, some)) in
    let here : slice_get c.args.self.now (c.chain.next - 1) ≡ Some c.in-Some.coercion =
    ap (λ (cs : List Coercion). slice_get cs (c.chain.next - 1)) (sym (c.deref-in-chain.ensures.value ∙ c.self.view_is)) ∙ sym c.in-Some.ensures in
    followed-only c.args.self.now c.self.inside.last.items c.self.inside.before.items chained c.args.sort c.args.reached.now c.chain.reached c.add.new.self c.chain.next (c.chain.next - 1) c.chain.invariant is
    c.in-Some.coercion here c.add.ensures.kept c.add.ensures.only

pub chain-smaller : goal.chain-smaller
chain-smaller c =
    let chained : AreChained c.args.self.now c.self.inside.last.items c.self.inside.before.items = subst (λ (cs : List Coercion). AreChained cs c.self.inside.last.items c.self.inside.before.items) c.self.view_is c.self.invariant in
    let is : c.chain.next ≡ (c.chain.next - 1) + 1 = (let some = c.chain-test.true in omega (arith, some)) in
    let (d, at, begins) = place-there c.args.self.now c.self.inside.last.items c.self.inside.before.items chained c.args.sort c.args.reached.now c.chain.reached c.chain.reached c.chain.next (c.chain.next - 1) c.chain.invariant is in
    let le = (chained.1 (c.chain.next - 1) d at).0 in
    let e = c.link_at-next-in-chain.ensures ∙ ap (λ (xs : List ℕ). get_or xs (c.chain.next - 1) 0) c.deref-in-chain-2.ensures.value in
    omega (arith, le, e, is)

pub chain-preserved : goal.chain-preserved
chain-preserved c =
    let chained : AreChained c.args.self.now c.self.inside.last.items c.self.inside.before.items = subst (λ (cs : List Coercion). AreChained cs c.self.inside.last.items c.self.inside.before.items) c.self.view_is c.self.invariant in
    let is : c.chain.next ≡ (c.chain.next - 1) + 1 = (let some = c.chain-test.true in omega (arith, some)) in
    let here : slice_get c.args.self.now (c.chain.next - 1) ≡ Some c.in-Some.coercion =
    ap (λ (cs : List Coercion). slice_get cs (c.chain.next - 1)) (sym (c.deref-in-chain.ensures.value ∙ c.self.view_is)) ∙ sym c.in-Some.ensures in
    one-followed c.args.self.now c.self.inside.last.items c.self.inside.before.items chained c.args.sort c.args.reached.now c.chain.reached c.add.new.self c.chain.next (c.chain.next - 1) c.chain.invariant is
    c.in-Some.coercion here c.add.ensures.kept c.add.ensures.only
    c.link_at-next-in-chain.result (c.link_at-next-in-chain.ensures ∙ ap (λ (xs : List ℕ). get_or xs (c.chain.next - 1) 0) c.deref-in-chain-2.ensures.value) c.in_ok-add.ensures.ok

pub returns-clause-ok : goal.returns-clause-ok
returns-clause-ok c = all-followed c.args.self.now c.args.sort c.args.reached.now c.chain.reached c.chain.next c.chain.invariant c.chain-test.false

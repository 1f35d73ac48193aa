use Rattle.std.proofs.Common.{ℕ, ◌≡◌, ◌<◌, length, get_or, sym, ap, ◌∙◌, arith, add-one}
use Rattle.std.specs.Prelude.{bit_and, if◌then◌else◌}
use Rattle.std.proofs.lemmas.List.{length-map}
use Rattle.std.proofs.lemmas.Option.{slice_get-get_or}
use Rattle.mz_base.proofs.Offered.{slice_get-some}
use Rattle.mz_logic_theory.specs.Words.{word_bound, word_deps}
use Rattle.mz_logic_theory.specs.declared.word.Word.{Word}
use Rattle.mz_store.specs.Sharing.{tree_of, deps_of}
use Rattle.mz_store.specs.declared.item.Id.{Id}
use Rattle.mz_unify.specs.Stored.{trees_at}
use Rattle.mz_unify.proofs.Offered.{is-in-at, tree-at}
use Rattle.mz_machine_theory.proofs.Offered.{some_is}
use Rattle.mz_machine_env.specs.Before.{signatures_of}
use Rattle.mz_layout_tables.specs.Rows.{params_of}
use Rattle.mz_machine_env.proofs.Offered.{apart-at-once, place-below, place-fits, decides-first, decides-end, decides-not, decides-next, row-asked}
use Rattle.mz_machine.proofs.Disjointness.{tells-v}
use Rattle.mz_machine.proofs.disjoint.is_apart.Goals as goal

pub deps-requires : goal.deps-requires
deps-requires c =
    is-in-at c.args.store.now c.args.operands.now c.args.i _ c.requires.ids
    (slice_get-get_or _ _ _ (let e : c.args.i < length c.args.operands.now = omega (arith, c.requires.many, c.requires.place) in e))

pub returns-then-deps-all-eq0 : goal.returns-then-deps-all-eq0
returns-then-deps-all-eq0 c e p eat pat =
    let s = c.args.store.now in
    let es = trees_at s c.args.operands.now in
    let ws = params_of c.args.env.now.file c.args.row in
    let there : c.args.i < length c.args.operands.now = omega (arith, c.requires.many, c.requires.place) in
    let at = slice_get-get_or c.args.operands.now c.args.i _ there in
    let (w, wat) = slice_get-some ws c.args.i c.requires.place in
    let none = ap (λ (n : ℕ). bit_and n c.args.all) (sym c.deps.ensures.kept) ∙ c.if-deps-all-eq0.true in
    let sigs = signatures_of c.args.env.now in
    let many : length es ≡ length ws = length-map c.args.operands.now (λ (i : Id). tree_of s i.0) ∙ c.requires.many in
    sym (apart-at-once sigs s.context c.args.operands.now es (λ id. tree_of s id.0) (λ id. deps_of s id.0) (tree-at s c.args.operands.now)
    (λ k id kat. tells-v sigs s id.0 c.requires.over c.requires.mode (is-in-at s c.args.operands.now k id c.requires.ids kat))
    ws c.requires.many many c.requires.fit c.args.bound.now c.requires.bound c.args.all c.requires.all c.args.i _ w at wat none)
    ∙ row-asked s.context es ws c.args.i w _ e p wat (tree-at s c.args.operands.now c.args.i _ at) eat pat

pub places-init : goal.places-init
places-init c w wat =
    let s = c.args.store.now in
    let es = trees_at s c.args.operands.now in
    let ws = params_of c.args.env.now.file c.args.row in
    let many : length es ≡ length ws = length-map c.args.operands.now (λ (i : Id). tree_of s i.0) ∙ c.requires.many in
    decides-first s.context es ws many c.args.i w _ c.dependencies-bits.result c.args.bound.now c.requires.bound
    (c.dependencies-bits.ensures ∙ ap (λ (v : Word). if word_bound v then 0 else word_deps v) (some_is c.word_of-word.ensures wat))

pub bounds-operands-place : goal.bounds-operands-place
bounds-operands-place c =
    let low = place-below (params_of c.args.env.now.file c.args.row) c.args.bound.now c.requires.bound c.places.place-index _ (slice_get-get_or _ _ 0 c.places-test.true) in
    omega (arith, low, c.requires.many)

pub stands_beside-requires-clause-id : goal.stands_beside-requires-clause-id
stands_beside-requires-clause-id c =
    is-in-at c.args.store.now c.args.operands.now c.args.i _ c.requires.ids
    (slice_get-get_or _ _ _ (let e : c.args.i < length c.args.operands.now = omega (arith, c.requires.many, c.requires.place) in e))

pub stands_beside-requires-clause-bound : goal.stands_beside-requires-clause-bound
stands_beside-requires-clause-bound c =
    let low = place-below (params_of c.args.env.now.file c.args.row) c.args.bound.now c.requires.bound c.places.place-index _ (slice_get-get_or _ _ 0 c.places-test.true) in
    is-in-at c.args.store.now c.args.operands.now _ _ c.requires.ids
    (slice_get-get_or _ _ _ (let e : get_or c.args.bound.now c.places.place-index 0 < length c.args.operands.now = omega (arith, low, c.requires.many) in e))

pub returns-then-not-stands_beside : goal.returns-then-not-stands_beside
returns-then-not-stands_beside c e p eat pat =
    let s = c.args.store.now in
    let es = trees_at s c.args.operands.now in
    let ws = params_of c.args.env.now.file c.args.row in
    let there : c.args.i < length c.args.operands.now = omega (arith, c.requires.many, c.requires.place) in
    let k = c.places.place-index in
    let at = slice_get-get_or c.args.bound.now k 0 c.places-test.true in
    let low = place-below ws c.args.bound.now c.requires.bound k _ at in
    let inside : get_or c.args.bound.now k 0 < length c.args.operands.now = omega (arith, low, c.requires.many) in
    let f = tree-at s c.args.operands.now _ _ (slice_get-get_or c.args.operands.now _ _ inside) in
    let fits = place-fits s.context es ws (signatures_of c.args.env.now) tt c.requires.fit c.args.bound.now c.requires.bound k _ at _ f in
    sym (decides-not s.context es ws c.args.i c.word_of-word.result _ c.places.bits c.args.bound.now k (c.places.invariant c.word_of-word.result c.word_of-word.ensures) _ _ at f
    c.may_meet-exempt.result c.stands_beside.result c.may_meet-exempt.ensures (c.stands_beside.ensures (signatures_of c.args.env.now) c.requires.over c.requires.mode fits) c.if-not-stands_beside.true)
    ∙ row-asked s.context es ws c.args.i c.word_of-word.result _ e p c.word_of-word.ensures (tree-at s c.args.operands.now c.args.i _ (slice_get-get_or _ _ _ there)) eat pat

pub places-preserved : goal.places-preserved
places-preserved c w wat =
    let s = c.args.store.now in
    let es = trees_at s c.args.operands.now in
    let ws = params_of c.args.env.now.file c.args.row in
    let k = c.places.place-index in
    let at = slice_get-get_or c.args.bound.now k 0 c.places-test.true in
    let low = place-below ws c.args.bound.now c.requires.bound k _ at in
    let inside : get_or c.args.bound.now k 0 < length c.args.operands.now = omega (arith, low, c.requires.many) in
    let f = tree-at s c.args.operands.now _ _ (slice_get-get_or c.args.operands.now _ _ inside) in
    let fits = place-fits s.context es ws (signatures_of c.args.env.now) tt c.requires.fit c.args.bound.now c.requires.bound k _ at _ f in
    rw (add-one k)
    (decides-next s.context es ws c.args.i w _ c.places.bits c.args.bound.now k (c.places.invariant w wat) _ _ at f
    c.may_meet-exempt.result c.stands_beside.result c.may_meet-exempt.ensures (c.stands_beside.ensures (signatures_of c.args.env.now) c.requires.over c.requires.mode fits) c.if-not-stands_beside.false)

pub returns : goal.returns
returns c e p eat pat =
    let s = c.args.store.now in
    let es = trees_at s c.args.operands.now in
    let ws = params_of c.args.env.now.file c.args.row in
    let there : c.args.i < length c.args.operands.now = omega (arith, c.requires.many, c.requires.place) in
    sym (decides-end s.context es ws c.args.i c.word_of-word.result _ c.places.bits c.args.bound.now c.places.place-index (c.places.invariant c.word_of-word.result c.word_of-word.ensures) (omega (arith, c.places-test.false)))
    ∙ row-asked s.context es ws c.args.i c.word_of-word.result _ e p c.word_of-word.ensures (tree-at s c.args.operands.now c.args.i _ (slice_get-get_or _ _ _ there)) eat pat

use Rattle.std.proofs.Common.{◌∙◌, ◌<◌, ℕ, List, map, All, length, get_or, sym, ap, subst, arith}
use Rattle.std.proofs.lemmas.Result.{IfOk-weaker}
use Rattle.mz_axioms.specs.Members.{IsUnion, left_of, right_of}
use Rattle.mz_axioms.proofs.Halving.{IsAll, above-zero, kept-sets, kept-within, lefts-sets, rights-sets, union-made}
use Rattle.mz_axioms.proofs.Joining.{union-once, union-short, union-words, still-store}
use Rattle.mz_axioms.proofs.sets.Sets.+union.Goals as goal

pub returns-then-len-lt2 : goal.returns-then-len-lt2
returns-then-len-lt2 t c =
    let nodes = c.args.self.now.nodes.items in
    let height = c.args.height in
    let ids = c.args.ids.items in
    let kept = c.in_ok-kept.kept.items in
    let once = c.in_ok-kept.ensures in
    let short : length kept < 2 = (let e = c.len.ensures in let lt = c.if-len-lt2.true in omega (arith, e, lt)) in
    union-once nodes nodes height ids kept c.first_of.result c.requires.starts once
    (union-short nodes height kept c.first_of.result c.requires.starts (kept-sets nodes height ids kept once c.requires.sets) short
    (c.first_of.ensures ∙ ap (λ (xs : List ℕ). get_or xs 0 0) c.deref.ensures.value))

pub returns-then-height-eq0 : goal.returns-then-height-eq0
returns-then-height-eq0 t c =
    let nodes = c.args.self.now.nodes.items in
    let ids = c.args.ids.items in
    let kept = c.in_ok-kept.kept.items in
    let word = c.one_word.result in
    subst (λ k. IsUnion nodes nodes k ids word) (sym c.if-height-eq0.true)
    (union-once nodes nodes 0 ids kept word c.requires.starts c.in_ok-kept.ensures
    (union-words nodes kept word (subst (λ (xs : List ℕ). IsAll xs word) c.deref-then-height-eq0.ensures.value c.one_word.ensures)))

pub halves-requires : goal.halves-requires
halves-requires t c =
    subst (λ (xs : List ℕ). All (λ id. id < length c.args.self.now.nodes.items) xs) (sym c.deref-2.ensures.value)
    (kept-within c.args.self.now.nodes.items c.args.height c.args.ids.items c.in_ok-kept.kept.items c.if-height-eq0.false c.in_ok-kept.ensures c.requires.sets)

pub union-requires : goal.union-requires
union-requires t c =
    let nodes = c.args.self.now.nodes.items in
    let lower = above-zero c.args.height c.if-height-eq0.false in (
      (let d = c.decreases in omega (arith, d, lower)),
      (
        c.requires.starts,
        lefts-sets nodes c.args.height c.args.ids.items c.in_ok-kept.kept.items c.if-height-eq0.false c.in_ok-kept.ensures c.requires.sets c.in_ok-lefts.lefts.items
            (c.in_ok-lefts.ensures.lefts ∙ ap (λ xs. map (left_of nodes) xs) c.deref-2.ensures.value),
      ),
    )

pub union-requires-2 : goal.union-requires-2
union-requires-2 t c =
    let nodes = c.args.self.now.nodes.items in
    let lower = above-zero c.args.height c.if-height-eq0.false in
    let grows = c.in_ok-left.ensures.grows in (
      (let d = c.decreases in omega (arith, d, lower)),
      (
        still-store nodes _ grows c.requires.starts,
        rights-sets nodes c.args.height c.args.ids.items c.in_ok-kept.kept.items c.if-height-eq0.false c.in_ok-kept.ensures c.requires.sets _ c.in_ok-lefts.rights.items grows
            (c.in_ok-lefts.ensures.rights ∙ ap (λ xs. map (right_of nodes) xs) c.deref-2.ensures.value),
      ),
    )

pub returns : goal.returns
returns t c =
    let nodes = c.args.self.now.nodes.items in
    IfOk-weaker c.join.result _ _
    (λ id joined. union-made nodes c.args.height c.args.ids.items c.in_ok-kept.kept.items c.if-height-eq0.false c.in_ok-kept.ensures c.requires.sets _ _ _ c.in_ok-lefts.lefts.items c.in_ok-lefts.rights.items
    c.in_ok-left.left c.in_ok-right.right id c.requires.starts (c.in_ok-lefts.ensures.lefts ∙ ap (λ xs. map (left_of nodes) xs) c.deref-2.ensures.value)
    (c.in_ok-lefts.ensures.rights ∙ ap (λ xs. map (right_of nodes) xs) c.deref-2.ensures.value) c.in_ok-left.ensures c.in_ok-right.ensures joined)
    c.join.ensures

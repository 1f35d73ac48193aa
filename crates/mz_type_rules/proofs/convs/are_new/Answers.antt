use Rattle.std.proofs.Common.{◌↔◌, ◌≡◌, ◌∙◌, ◌+◌, ℕ, suc, List, ◌∷◌, drop, get_or, sym, ap, subst, true≢false, arith, drop-cons}
use Rattle.std.proofs.lemmas.List.{drop_all}
use Rattle.mz_mmu_theory.specs.Rules.{AreNew}
use Rattle.mz_type_rules.proofs.Differing.{AreNewTo, new-first, new-not, new-more, new-by}
use Rattle.mz_type_rules.proofs.convs.are_new.Goals as goal

pub loop-place-init : goal.loop-place-init
loop-place-init c =
    subst (λ (ys : List ℕ). AreNewTo c.args.ctx.now c.args.es.now c.new-seen.result c.as_slice-place-items.result.now ↔ AreNew c.args.ctx.now c.args.es.now ys) c.as_slice-place-items.ensures
    (new-first c.args.ctx.now c.args.es.now c.new-seen.result c.as_slice-place-items.result.now c.new-seen.ensures)

pub returns-then-has : goal.returns-then-has
returns-then-has c =
    let items : List ℕ = c.as_slice-place-items.result.now in
    let i = c.loop-place.place-index in
    let on : suc i ≡ i + 1 = omega arith in
    let cut : drop i items ≡ get_or items i 0 ∷ drop (i + 1) items = drop-cons items i 0 c.loop-place-test.true ∙ ap (λ n. get_or items i 0 ∷ drop n items) on in (
      λ no. absurd (true≢false (sym no)),
      λ new. absurd (new-not c.args.ctx.now c.args.es.now c.loop-place.seen (drop i items) (drop (i + 1) items) (get_or items i 0) cut (AreNew c.args.ctx.now c.args.es.now c.args.vars.now) c.loop-place.invariant (c.has.ensures.0 c.if-has.true) new),
    )

pub loop-place-preserved : goal.loop-place-preserved
loop-place-preserved c =
    let items : List ℕ = c.as_slice-place-items.result.now in
    let i = c.loop-place.place-index in
    let on : suc i ≡ i + 1 = omega arith in
    let cut : drop i items ≡ get_or items i 0 ∷ drop (i + 1) items = drop-cons items i 0 c.loop-place-test.true ∙ ap (λ n. get_or items i 0 ∷ drop n items) on in
    new-more c.args.ctx.now c.args.es.now c.loop-place.seen (drop i items) (drop (i + 1) items) (get_or items i 0) cut (AreNew c.args.ctx.now c.args.es.now c.args.vars.now) c.loop-place.invariant
    c.add.new.self c.in_ok-add.ensures.has (λ has. true≢false (sym (c.has.ensures.1 has) ∙ c.if-has.false))

pub returns : goal.returns
returns c =
    new-by c.args.ctx.now c.args.es.now c.loop-place.seen (drop c.loop-place.place-index c.as_slice-place-items.result.now)
    (drop_all c.loop-place.place-index c.as_slice-place-items.result.now c.loop-place-test.false) (AreNew c.args.ctx.now c.args.es.now c.args.vars.now) c.loop-place.invariant
    c.some_name_any.result c.some_name_any.ensures

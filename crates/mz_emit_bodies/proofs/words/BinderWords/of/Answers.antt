use Rattle.std.proofs.Common.{ℕ, ◌%◌, ◌*◌, ◌^◌, List, length, take, arith, ap, sym, ◌∙◌, refl, subst}
use Rattle.std.proofs.lemmas.List.{take_all, length-take-le}
use Rattle.mz_logic_theory.specs.Words.{BitsRight, binders_of}
use Rattle.mz_logic_theory.specs.WordsWritten.{bound_from, words_of}
use Rattle.mz_logic_theory.specs.declared.binder.Binder.{Binder}
use Rattle.mz_emit_bodies.specs.Bits.{place_bits}
use Rattle.mz_emit_bodies.proofs.Bits.{after_bound, after_regular, one_more, few_here, fewer_here, deps_before, bits_right, binders_back, few_bound, bit_below, bits_below, place_bits_long}
use Rattle.mz_emit_bodies.proofs.words.BinderWords.of.Goals.{then-binder+in_ok-push+in_ok-push-2, else-binder+in_ok-push-3+in_ok-push-4}
use Rattle.mz_emit_bodies.proofs.words.BinderWords.of.Goals as goal

pub loop-binder-init : goal.loop-binder-init
loop-binder-init c = (c.new-params.ensures.items, c.new-bits.ensures.items, refl)

pub overflow_shl-bit : goal.overflow_shl-bit
overflow_shl-bit c =
    let few = fewer_here _ c.args.binders.now c.requires.1 c.loop-binder.binder-index c.binder-item.result c.loop-binder-test.true c.binder-item.is c.if-binder.true in
    let count = c.loop-binder.invariant.2 in
    omega (arith, few, count)

pub word-requires-clause-deps : goal.word-requires-clause-deps
word-requires-clause-deps c =
    let few = fewer_here _ c.args.binders.now c.requires.1 c.loop-binder.binder-index c.binder-item.result c.loop-binder-test.true c.binder-item.is c.if-binder.true in
    let count = c.loop-binder.invariant.2 in
    let small = bit_below c.loop-binder.bound (omega (arith, few, count)) in
    omega (arith, small)

pub overflow_add-bound : goal.overflow_add-bound
overflow_add-bound c =
    let few = fewer_here _ c.args.binders.now c.requires.1 c.loop-binder.binder-index c.binder-item.result c.loop-binder-test.true c.binder-item.is c.if-binder.true in
    let count = c.loop-binder.invariant.2 in
    omega (arith, few, count)

pub deps_bits-deps-requires : goal.deps_bits-deps-requires
deps_bits-deps-requires c = λ k d lt.
    let less = deps_before _ c.args.binders.now c.requires.1 c.loop-binder.binder-index c.binder-item.result c.loop-binder-test.true c.binder-item.is c.if-binder.false k d lt in
    let long = ap length (c.deref.ensures.value ∙ c.loop-binder.invariant.1) ∙ place_bits_long 0 (take c.loop-binder.binder-index c.args.binders.now) ∙ length-take-le c.loop-binder.binder-index c.args.binders.now (omega (arith, c.loop-binder-test.true)) in
    omega (arith, less, long)

pub word-requires-else-binder-clause-deps : goal.word-requires-else-binder-clause-deps
word-requires-else-binder-clause-deps c =
    let is = c.deps_bits-deps.ensures (take c.loop-binder.binder-index c.args.binders.now) (c.deref.ensures.value ∙ c.loop-binder.invariant.1) in
    let few = few_here _ c.args.binders.now c.requires.1 c.loop-binder.binder-index c.binder-item.result c.loop-binder-test.true c.binder-item.is in
    let small = bits_below (bound_from 0 (take c.loop-binder.binder-index c.args.binders.now)) c.binder-item.result.deps few in
    omega (arith, is, small)

pub loop-binder-preserved : goal.loop-binder-preserved
loop-binder-preserved c =
    let xs : List Binder = c.args.binders.now in
    let i : ℕ = c.loop-binder.binder-index in
    let more = one_more _ xs c.requires.1 i c.binder-item.result c.loop-binder-test.true c.binder-item.is in
    let here = c.loop-binder.invariant in
    elim c.if-binder.branch [
      | then-binder+in_ok-push+in_ok-push-2 w ↦
          (let few = fewer_here _ xs c.requires.1 i c.binder-item.result c.loop-binder-test.true c.binder-item.is w.if-binder.true in
          let small = bit_below c.loop-binder.bound (let count = here.2 in omega (arith, few, count)) in
          let next = after_bound (take i xs) c.binder-item.result c.loop-binder.params.items c.loop-binder.bits.items c.loop-binder.bound w.word.result here.0 here.1 here.2
          (1 * 2 ^ c.loop-binder.bound % 18446744073709551616) w.if-binder.true (omega (arith, small)) w.word.ensures in (
            ap (λ v. v.items) w.params-is ∙ w.in_ok-push.ensures.items ∙ next.0 ∙ ap words_of (sym more),
            ap (λ v. v.items) w.bits-is ∙ w.in_ok-push-2.ensures.items ∙ next.1 ∙ ap (place_bits 0) (sym more),
            w.bound-is ∙ next.2 ∙ ap (λ (ys : List Binder). length (bound_from 0 ys)) (sym more),
          ))
      | else-binder+in_ok-push-3+in_ok-push-4 w ↦
          (let next = after_regular (take i xs) c.binder-item.result c.loop-binder.params.items c.loop-binder.bits.items c.loop-binder.bound w.word-else-binder.result here.0 here.1 here.2
          w.deps_bits-deps.result w.if-binder.false (w.deps_bits-deps.ensures (take i xs) (w.deref.ensures.value ∙ here.1)) w.word-else-binder.ensures in (
            ap (λ v. v.items) w.params-is ∙ w.in_ok-push-3.ensures.items ∙ next.0 ∙ ap words_of (sym more),
            ap (λ v. v.items) w.bits-is ∙ w.in_ok-push-4.ensures.items ∙ next.1 ∙ ap (place_bits 0) (sym more),
            w.bound-is ∙ next.2 ∙ ap (λ (ys : List Binder). length (bound_from 0 ys)) (sym more),
          ))
    ]

pub returns-clause-words : goal.returns-clause-words
returns-clause-words c =
    let all = take_all c.loop-binder.binder-index c.args.binders.now (omega (arith, c.loop-binder-test.false)) in
    record {
      words = c.loop-binder.invariant.0 ∙ ap words_of all;
      bits = c.loop-binder.invariant.1 ∙ ap (place_bits 0) all;
      few = few_bound _ c.args.binders.now c.requires.1;
    }

pub returns-clause-binders : goal.returns-clause-binders
returns-clause-binders c =
    let all = take_all c.loop-binder.binder-index c.args.binders.now (omega (arith, c.loop-binder-test.false)) in
    ap binders_of (c.loop-binder.invariant.0 ∙ ap words_of all) ∙ binders_back _ c.args.binders.now c.requires.1

pub returns-clause-right : goal.returns-clause-right
returns-clause-right c =
    let all = take_all c.loop-binder.binder-index c.args.binders.now (omega (arith, c.loop-binder-test.false)) in
    subst BitsRight (sym (c.loop-binder.invariant.0 ∙ ap words_of all)) (bits_right _ c.args.binders.now c.requires.1)

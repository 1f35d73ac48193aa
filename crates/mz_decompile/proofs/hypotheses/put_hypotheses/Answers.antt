use Rattle.std.proofs.Common.{◌+◌, [], ◌∷◌, drop, get_or, refl, subst}
use Rattle.std.proofs.lemmas.Result.{on_ok_weaker}
use Rattle.mz_decompile_text.specs.Phrases.{Phrase, a_word}
use Rattle.mz_decompile_text.specs.Phrasing.{list_of}
use Rattle.mz_decompile_text.specs.Naming.{vocabulary_by}
use Rattle.mz_decompile_text.specs.ByNumber.{phrase_at, phrases_at}
use Rattle.mz_decompile_text.proofs.Offered.{same-phrase}
use Rattle.mz_decompile.specs.Adding.{Adds}
use Rattle.mz_decompile.specs.Hypotheses.{named}
use Rattle.mz_decompile.proofs.Adding.{added-first, added-more, added-there, added-last, one-there}
use Rattle.mz_decompile.proofs.Lists.{named-step, named-end}
use Rattle.mz_decompile.proofs.hypotheses.put_hypotheses.Goals as goal

pub hypotheses-init : goal.hypotheses-init
hypotheses-init c =
    let whole = named (vocabulary_by c.args.names.now) 0 (phrases_at c.args.phrases.now c.args.hypotheses.now) in
    added-first c.args.phrases.now c.new-inner.result.items whole whole c.new-inner.ensures.items refl

pub put_named-requires : goal.put_named-requires
put_named-requires c =
    one-there c.args.phrases.now c.hypotheses.phrases c.args.hypotheses.now c.hypotheses.number c.requires c.hypotheses.invariant.adds.grows c.hypotheses-test.true

pub hypotheses-preserved : goal.hypotheses-preserved
hypotheses-preserved c =
    let v = vocabulary_by c.args.names.now in
    let a = c.args.phrases.now in
    let b = c.hypotheses.phrases in
    let hyps = c.args.hypotheses.now in
    let i = c.hypotheses.number in
    let h = get_or hyps i 0 in
    let named-one = λ (p : Phrase). list_of (a_word (v.hypothesis i) ∷ p ∷ []) in
    let same = same-phrase a b h c.hypotheses.invariant.adds.grows (c.requires i 0 c.hypotheses-test.true) in
    let adds = subst (λ (p : Phrase). Adds b c.put_named.new.phrases c.hypotheses.inner.items c.put_named.new.parts.items (named-one p ∷ [])) same c.in_ok-put_named.ensures in
    added-more a b c.put_named.new.phrases c.hypotheses.inner.items c.put_named.new.parts.items (named v 0 (phrases_at a hyps)) (named v i (phrases_at a (drop i hyps)))
    (named v (i + 1) (phrases_at a (drop (i + 1) hyps))) (named-one (phrase_at a h) ∷ []) c.hypotheses.invariant (named-step v a hyps i c.hypotheses-test.true) adds

pub put_list-requires : goal.put_list-requires
put_list-requires c =
    let v = vocabulary_by c.args.names.now in
    let a = c.args.phrases.now in
    let hyps = c.args.hypotheses.now in
    added-there a c.hypotheses.phrases c.deref.result.now c.hypotheses.inner.items (named v 0 (phrases_at a hyps)) (named v c.hypotheses.number (phrases_at a (drop c.hypotheses.number hyps)))
    c.deref.ensures.value c.hypotheses.invariant

pub returns : goal.returns
returns c =
    let v = vocabulary_by c.args.names.now in
    let a = c.args.phrases.now in
    let hyps = c.args.hypotheses.now in
    let i = c.hypotheses.number in
    on_ok_weaker c.put_list.result
    (added-last a c.hypotheses.phrases c.put_list.new.phrases c.deref.result.now c.hypotheses.inner.items c.args.parts.now.items c.put_list.new.parts.items (named v 0 (phrases_at a hyps))
    (named v i (phrases_at a (drop i hyps))) c.deref.ensures.value c.hypotheses.invariant (named-end v a hyps i c.hypotheses-test.false))
    c.put_list.ensures

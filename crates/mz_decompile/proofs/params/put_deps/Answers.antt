use Rattle.std.proofs.Common.{◌/◌, ◌+◌, ◌%◌, [], ◌∷◌, drop, get_or, refl}
use Rattle.std.specs.Prelude.{◌==◌, if◌then◌else◌}
use Rattle.std.proofs.lemmas.Result.{on_ok_weaker}
use Rattle.mz_decompile_text.specs.Phrases.{a_word}
use Rattle.mz_decompile_text.specs.Naming.{vocabulary_by}
use Rattle.mz_decompile.proofs.Adding.{added-first, added-more, added-there, added-last}
use Rattle.mz_decompile.proofs.Lists.{deps-from, deps-step, deps-end}
use Rattle.mz_decompile.proofs.params.put_deps.Goals as goal

pub places-init : goal.places-init
places-init c =
    let whole = deps-from (vocabulary_by c.args.names.now) c.args.deps c.args.places.now in
    added-first c.args.phrases.now c.new-inner.result.items whole whole c.new-inner.ensures.items refl

pub places-preserved : goal.places-preserved
places-preserved c =
    let v = vocabulary_by c.args.names.now in
    let places = c.args.places.now in
    let k = c.places.place-index in
    let bits = c.places.bits in
    added-more c.args.phrases.now c.places.phrases c.put_variable_if.new.phrases c.places.inner.items c.put_variable_if.new.parts.items (deps-from v c.args.deps places)
    (deps-from v bits (drop k places)) (deps-from v (bits / 2) (drop (k + 1) places)) (if (bits % 2 == 1) then a_word (v.variable (get_or places k 0)) ∷ [] else [])
    c.places.invariant (deps-step v bits places k c.places-test.true) c.in_ok-put_variable_if.ensures

pub put_list-requires : goal.put_list-requires
put_list-requires c =
    let v = vocabulary_by c.args.names.now in
    let places = c.args.places.now in
    added-there c.args.phrases.now c.places.phrases c.deref.result.now c.places.inner.items (deps-from v c.args.deps places) (deps-from v c.places.bits (drop c.places.place-index places))
    c.deref.ensures.value c.places.invariant

pub returns : goal.returns
returns c =
    let v = vocabulary_by c.args.names.now in
    let places = c.args.places.now in
    let k = c.places.place-index in
    on_ok_weaker c.put_list.result
    (added-last c.args.phrases.now c.places.phrases c.put_list.new.phrases c.deref.result.now c.places.inner.items c.args.parts.now.items c.put_list.new.parts.items (deps-from v c.args.deps places)
    (deps-from v c.places.bits (drop k places)) c.deref.ensures.value c.places.invariant (deps-end v c.places.bits places k c.places-test.false))
    c.put_list.ensures

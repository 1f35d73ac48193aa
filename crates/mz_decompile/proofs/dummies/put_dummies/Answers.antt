use Rattle.std.proofs.Common.{◌+◌, [], ◌∷◌, drop, get_or, map}
use Rattle.std.proofs.lemmas.Result.{on_ok_weaker}
use Rattle.mz_machine_theory.specs.Spells.{dummy_of}
use Rattle.mz_decompile_text.specs.Phrasing.{binder, binders}
use Rattle.mz_decompile_text.specs.Naming.{vocabulary_by}
use Rattle.mz_decompile.proofs.Adding.{added-first, added-more, added-there, added-last}
use Rattle.mz_decompile.proofs.Lists.{dummies-first, dummies-step, dummies-end}
use Rattle.mz_decompile.proofs.dummies.put_dummies.Goals as goal

pub sorts-init : goal.sorts-init
sorts-init c =
    let v = vocabulary_by c.args.names.now in
    let n = c.args.params in
    let sorts = c.args.sorts.now in
    added-first c.args.phrases.now c.new-inner.result.items (binders v n (map dummy_of sorts)) (binders v (n + 0) (map dummy_of sorts)) c.new-inner.ensures.items (dummies-first v n sorts)

pub sorts-preserved : goal.sorts-preserved
sorts-preserved c =
    let v = vocabulary_by c.args.names.now in
    let n = c.args.params in
    let sorts = c.args.sorts.now in
    let i = c.sorts.i in
    added-more c.args.phrases.now c.sorts.phrases c.put_dummy.new.phrases c.sorts.inner.items c.put_dummy.new.parts.items (binders v n (map dummy_of sorts))
    (binders v (n + i) (map dummy_of (drop i sorts))) (binders v (n + (i + 1)) (map dummy_of (drop (i + 1) sorts))) (binder v (n + i) (dummy_of (get_or sorts i 0)) ∷ [])
    c.sorts.invariant (dummies-step v n sorts i c.sorts-test.true) c.in_ok-put_dummy.ensures

pub put_list-requires : goal.put_list-requires
put_list-requires c =
    let v = vocabulary_by c.args.names.now in
    let n = c.args.params in
    let sorts = c.args.sorts.now in
    added-there c.args.phrases.now c.sorts.phrases c.deref.result.now c.sorts.inner.items (binders v n (map dummy_of sorts)) (binders v (n + c.sorts.i) (map dummy_of (drop c.sorts.i sorts)))
    c.deref.ensures.value c.sorts.invariant

pub returns : goal.returns
returns c =
    let v = vocabulary_by c.args.names.now in
    let n = c.args.params in
    let sorts = c.args.sorts.now in
    on_ok_weaker c.put_list.result
    (added-last c.args.phrases.now c.sorts.phrases c.put_list.new.phrases c.deref.result.now c.sorts.inner.items c.args.parts.now.items c.put_list.new.parts.items (binders v n (map dummy_of sorts))
    (binders v (n + c.sorts.i) (map dummy_of (drop c.sorts.i sorts))) c.deref.ensures.value c.sorts.invariant (dummies-end v (n + c.sorts.i) sorts c.sorts.i c.sorts-test.false))
    c.put_list.ensures

use Rattle.std.proofs.Common.{[], ◌∷◌}
use Rattle.std.proofs.lemmas.Result.{on_ok_weaker}
use Rattle.mz_decompile_text.specs.Phrases.{a_word}
use Rattle.mz_decompile_text.specs.Naming.{vocabulary_by}
use Rattle.mz_decompile.proofs.Adding.{there, closed, begun, adds-then, word-is}
use Rattle.mz_decompile.proofs.dummies.put_dummy.Goals as goal

pub put_list-requires : goal.put_list-requires
put_list-requires c =
    let v = vocabulary_by c.args.names.now in
    let a = c.args.phrases.now in
    let b = c.put_variable.new.phrases in
    let d = c.put_word.new.phrases in
    let qs = a_word (v.variable c.args.variable) ∷ a_word (v.sort c.args.sort) ∷ [] in
    there a d c.deref.result.now c.put_word.new.parts.items qs c.deref.ensures.value
    (begun a d c.new-inner.result.items c.put_word.new.parts.items qs c.new-inner.ensures.items
    (adds-then a b d c.new-inner.result.items c.put_variable.new.parts.items c.put_word.new.parts.items (a_word (v.variable c.args.variable) ∷ []) (a_word (v.sort c.args.sort) ∷ [])
    c.in_ok-put_variable.ensures
    (word-is b d c.put_variable.new.parts.items c.put_word.new.parts.items c.sort.result.now (v.sort c.args.sort) c.sort.ensures c.in_ok-put_word.ensures)))

pub returns : goal.returns
returns c =
    let v = vocabulary_by c.args.names.now in
    let a = c.args.phrases.now in
    let b = c.put_variable.new.phrases in
    let d = c.put_word.new.phrases in
    let qs = a_word (v.variable c.args.variable) ∷ a_word (v.sort c.args.sort) ∷ [] in
    on_ok_weaker c.put_list.result
    (closed a d c.put_list.new.phrases c.deref.result.now c.put_word.new.parts.items c.args.parts.now.items c.put_list.new.parts.items qs c.deref.ensures.value
    (begun a d c.new-inner.result.items c.put_word.new.parts.items qs c.new-inner.ensures.items
    (adds-then a b d c.new-inner.result.items c.put_variable.new.parts.items c.put_word.new.parts.items (a_word (v.variable c.args.variable) ∷ []) (a_word (v.sort c.args.sort) ∷ [])
    c.in_ok-put_variable.ensures
    (word-is b d c.put_variable.new.parts.items c.put_word.new.parts.items c.sort.result.now (v.sort c.args.sort) c.sort.ensures c.in_ok-put_word.ensures))))
    c.put_list.ensures

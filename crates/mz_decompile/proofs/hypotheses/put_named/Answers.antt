use Rattle.std.proofs.Common.{[], ◌∷◌}
use Rattle.std.proofs.lemmas.Result.{on_ok_weaker}
use Rattle.mz_decompile_text.specs.Phrases.{a_word}
use Rattle.mz_decompile_text.specs.Naming.{vocabulary_by}
use Rattle.mz_decompile_text.specs.ByNumber.{phrase_at}
use Rattle.mz_decompile.proofs.Adding.{there, closed, named-one}
use Rattle.mz_decompile.proofs.hypotheses.put_named.Goals as goal

pub put_list-requires : goal.put_list-requires
put_list-requires c =
    let name = a_word ((vocabulary_by c.args.names.now).hypothesis c.args.number) in
    let a = c.args.phrases.now in
    let b = c.put_hypothesis.new.phrases in
    there a b c.deref.result.now c.push.new.self.items (name ∷ phrase_at a c.args.hypothesis ∷ []) c.deref.ensures.value
    (named-one a b c.new-inner.result.items c.put_hypothesis.new.parts.items c.push.new.self.items c.args.hypothesis name c.new-inner.ensures.items c.requires
    c.in_ok-put_hypothesis.ensures c.in_ok-push.ensures.items)

pub returns : goal.returns
returns c =
    let name = a_word ((vocabulary_by c.args.names.now).hypothesis c.args.number) in
    let a = c.args.phrases.now in
    let b = c.put_hypothesis.new.phrases in
    on_ok_weaker c.put_list.result
    (closed a b c.put_list.new.phrases c.deref.result.now c.push.new.self.items c.args.parts.now.items c.put_list.new.parts.items (name ∷ phrase_at a c.args.hypothesis ∷ []) c.deref.ensures.value
    (named-one a b c.new-inner.result.items c.put_hypothesis.new.parts.items c.push.new.self.items c.args.hypothesis name c.new-inner.ensures.items c.requires
    c.in_ok-put_hypothesis.ensures c.in_ok-push.ensures.items))
    c.put_list.ensures

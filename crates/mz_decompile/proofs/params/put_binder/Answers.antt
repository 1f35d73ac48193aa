use Rattle.std.proofs.Common.{◌∙◌, ◌++◌, [], ◌∷◌, ap, subst}
use Rattle.std.specs.Prelude.{if◌then◌else◌}
use Rattle.std.proofs.lemmas.Result.{on_ok_weaker}
use Rattle.mz_logic_theory.specs.Words.{places_set, word_bound, word_deps, word_sort}
use Rattle.mz_decompile_text.specs.Phrases.{Phrase, a_word}
use Rattle.mz_decompile_text.specs.Phrasing.{variable_names}
use Rattle.mz_decompile_text.specs.Naming.{vocabulary_by}
use Rattle.mz_decompile.specs.Adding.{Adds}
use Rattle.mz_decompile.proofs.Adding.{there, closed, begun, adds-then, word-is}
use Rattle.mz_decompile.proofs.Lists.{binder-is}
use Rattle.mz_decompile.proofs.params.put_binder.Goals as goal

pub put_list-requires : goal.put_list-requires
put_list-requires c =
    let v = vocabulary_by c.args.names.now in
    let w = c.args.word in
    let a = c.args.phrases.now in
    let b = c.put_variable.new.phrases in
    let d = c.put_word.new.phrases in
    let e = c.put_deps_of.new.phrases in
    let x = a_word (v.variable c.args.variable) ∷ [] in
    let y = a_word (v.sort (word_sort w)) ∷ [] in
    let z = if word_bound w then [] else variable_names v (places_set (word_deps w) c.args.places.now) ∷ [] in
    there a e c.deref.result.now c.put_deps_of.new.parts.items (x ++ y ++ z) c.deref.ensures.value
    (begun a e c.new-inner.result.items c.put_deps_of.new.parts.items (x ++ y ++ z) c.new-inner.ensures.items
    (adds-then a d e c.new-inner.result.items c.put_word.new.parts.items c.put_deps_of.new.parts.items (x ++ y) z
    (adds-then a b d c.new-inner.result.items c.put_variable.new.parts.items c.put_word.new.parts.items x y c.in_ok-put_variable.ensures
    (word-is b d c.put_variable.new.parts.items c.put_word.new.parts.items c.sort-2.result.now (v.sort (word_sort w)) (c.sort-2.ensures ∙ ap v.sort c.sort.ensures) c.in_ok-put_word.ensures))
    c.in_ok-put_deps_of.ensures))

pub returns : goal.returns
returns c =
    let v = vocabulary_by c.args.names.now in
    let w = c.args.word in
    let a = c.args.phrases.now in
    let b = c.put_variable.new.phrases in
    let d = c.put_word.new.phrases in
    let e = c.put_deps_of.new.phrases in
    let x = a_word (v.variable c.args.variable) ∷ [] in
    let y = a_word (v.sort (word_sort w)) ∷ [] in
    let z = if word_bound w then [] else variable_names v (places_set (word_deps w) c.args.places.now) ∷ [] in
    let all = begun a e c.new-inner.result.items c.put_deps_of.new.parts.items (x ++ y ++ z) c.new-inner.ensures.items
    (adds-then a d e c.new-inner.result.items c.put_word.new.parts.items c.put_deps_of.new.parts.items (x ++ y) z
    (adds-then a b d c.new-inner.result.items c.put_variable.new.parts.items c.put_word.new.parts.items x y c.in_ok-put_variable.ensures
    (word-is b d c.put_variable.new.parts.items c.put_word.new.parts.items c.sort-2.result.now (v.sort (word_sort w)) (c.sort-2.ensures ∙ ap v.sort c.sort.ensures) c.in_ok-put_word.ensures))
    c.in_ok-put_deps_of.ensures) in
    on_ok_weaker c.put_list.result
    (λ last. subst (λ (p : Phrase). Adds a c.put_list.new.phrases c.args.parts.now.items c.put_list.new.parts.items (p ∷ [])) (binder-is v c.args.variable w c.args.places.now)
    (closed a e c.put_list.new.phrases c.deref.result.now c.put_deps_of.new.parts.items c.args.parts.now.items c.put_list.new.parts.items (x ++ y ++ z) c.deref.ensures.value all last))
    c.put_list.ensures

use Rattle.std.proofs.Common.{◌∙◌, [], ◌∷◌, ℕ, ap, subst}
use Rattle.std.proofs.lemmas.Result.{on_ok_weaker}
use Rattle.mz_logic_theory.specs.Words.{places_set, word_deps, word_sort}
use Rattle.mz_decompile_text.specs.Phrases.{a_word}
use Rattle.mz_decompile_text.specs.Phrasing.{variable_names}
use Rattle.mz_decompile_text.specs.Naming.{vocabulary_by}
use Rattle.mz_decompile.specs.Adding.{Adds}
use Rattle.mz_decompile.proofs.Adding.{there, closed, begun, adds-then, word-is}
use Rattle.mz_decompile.proofs.params.put_result.Goals as goal

pub put_list-requires : goal.put_list-requires
put_list-requires c =
    let v = vocabulary_by c.args.names.now in
    let w = c.args.word in
    let a = c.args.phrases.now in
    let b = c.put_word.new.phrases in
    let d = c.put_deps.new.phrases in
    let x = a_word (v.sort (word_sort w)) in
    let y = variable_names v (places_set (word_deps w) c.args.places.now) in
    there a d c.deref.result.now c.put_deps.new.parts.items (x ∷ y ∷ []) c.deref.ensures.value
    (begun a d c.new-inner.result.items c.put_deps.new.parts.items (x ∷ y ∷ []) c.new-inner.ensures.items
    (adds-then a b d c.new-inner.result.items c.put_word.new.parts.items c.put_deps.new.parts.items (x ∷ []) (y ∷ [])
    (word-is a b c.new-inner.result.items c.put_word.new.parts.items c.sort-2.result.now (v.sort (word_sort w)) (c.sort-2.ensures ∙ ap v.sort c.sort.ensures) c.in_ok-put_word.ensures)
    (subst (λ (n : ℕ). Adds b d c.put_word.new.parts.items c.put_deps.new.parts.items (variable_names v (places_set n c.args.places.now) ∷ [])) c.deps.ensures c.in_ok-put_deps.ensures)))

pub returns : goal.returns
returns c =
    let v = vocabulary_by c.args.names.now in
    let w = c.args.word in
    let a = c.args.phrases.now in
    let b = c.put_word.new.phrases in
    let d = c.put_deps.new.phrases in
    let x = a_word (v.sort (word_sort w)) in
    let y = variable_names v (places_set (word_deps w) c.args.places.now) in
    on_ok_weaker c.put_list.result
    (closed a d c.put_list.new.phrases c.deref.result.now c.put_deps.new.parts.items c.args.parts.now.items c.put_list.new.parts.items (x ∷ y ∷ []) c.deref.ensures.value
    (begun a d c.new-inner.result.items c.put_deps.new.parts.items (x ∷ y ∷ []) c.new-inner.ensures.items
    (adds-then a b d c.new-inner.result.items c.put_word.new.parts.items c.put_deps.new.parts.items (x ∷ []) (y ∷ [])
    (word-is a b c.new-inner.result.items c.put_word.new.parts.items c.sort-2.result.now (v.sort (word_sort w)) (c.sort-2.ensures ∙ ap v.sort c.sort.ensures) c.in_ok-put_word.ensures)
    (subst (λ (n : ℕ). Adds b d c.put_word.new.parts.items c.put_deps.new.parts.items (variable_names v (places_set n c.args.places.now) ∷ [])) c.deps.ensures c.in_ok-put_deps.ensures))))
    c.put_list.ensures

use Rattle.std.proofs.Common.{◌∙◌, [], ◌∷◌, ℕ, List, subst, arith}
use Rattle.std.proofs.lemmas.Result.{on_ok_weaker}
use Rattle.mz_layout_tables.specs.Tables.{term_row}
use Rattle.mz_layout_tables.proofs.Offered.{length-term_words}
use Rattle.mz_logic_theory.specs.Words.{binders_of, places_set, result_of, word_deps, word_sort}
use Rattle.mz_logic_theory.specs.declared.word.Word.{Word}
use Rattle.mz_decompile_text.specs.Phrases.{a_word, a_list}
use Rattle.mz_decompile_text.specs.Phrasing.{binders, result}
use Rattle.mz_decompile_text.specs.Naming.{vocabulary_by}
use Rattle.mz_decompile.specs.Adding.{Adds}
use Rattle.mz_decompile.proofs.Adding.{adds-then, word-is}
use Rattle.mz_decompile.proofs.term.put_signature.Goals as goal

pub result-requires : goal.result-requires
result-requires c = let there = c.requires in omega (arith, there, length-term_words c.args.mmb.now)

pub returns : goal.returns
returns c =
    let v = vocabulary_by c.args.names.now in
    let a = c.args.phrases.now in
    let b = c.put_word.new.phrases in
    let d = c.put_word-2.new.phrases in
    let e = c.put_params.new.phrases in
    let l = c.args.parts.now.items in
    let m = c.put_params.new.parts.items in
    let name = v.term c.args.row in
    let words = (term_row c.args.mmb.now c.args.row).words in
    let params = a_list (binders v 0 (binders_of words.params)) in
    let three = adds-then a d e l c.put_word-2.new.parts.items m (a_word c.args.word.now ∷ a_word name ∷ []) (params ∷ [])
    (adds-then a b d l c.put_word.new.parts.items c.put_word-2.new.parts.items (a_word c.args.word.now ∷ []) (a_word name ∷ []) c.in_ok-put_word.ensures
    (word-is b d c.put_word.new.parts.items c.put_word-2.new.parts.items c.term.result.now name c.term.ensures c.in_ok-put_word-2.ensures))
    c.in_ok-places.ensures.adds in
    on_ok_weaker c.put_result.result
    (λ last. adds-then a e c.put_result.new.phrases l m c.put_result.new.parts.items (a_word c.args.word.now ∷ a_word name ∷ params ∷ []) (result v (result_of words) ∷ []) three
    (subst (λ (ps : List ℕ). Adds e c.put_result.new.phrases m c.put_result.new.parts.items (result v (record { sort = word_sort words.result; deps = places_set (word_deps words.result) ps }) ∷ []))
    (c.deref.ensures.value ∙ c.in_ok-places.ensures.places)
    (subst (λ (w : Word). Adds e c.put_result.new.phrases m c.put_result.new.parts.items (result v (record { sort = word_sort w; deps = places_set (word_deps w) c.deref.result.now }) ∷ []))
    c.result.ensures.row last)))
    c.put_result.ensures

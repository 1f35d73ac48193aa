use Rattle.std.proofs.Common.{◌∙◌, ◌∷◌, [], ap}
use Rattle.mz_decompile_text.specs.Phrases.{a_word, a_list, one_more}
use Rattle.mz_decompile_text.specs.ByNumber.{phrases_at}
use Rattle.mz_decompile_text.specs.Growing.{those_at}
use Rattle.mz_decompile_text.proofs.LongerProofs.{empty-there, from-none, still-there, then-list, then-chosen, told-whole, as-parts}
use Rattle.mz_decompile_text.proofs.tell.citation.Goals as goal

pub put_word-requires : goal.put_word-requires
put_word-requires c = empty-there c.args.phrases.now c.new-parts.result.items c.new-parts.ensures.items

pub put_list-requires-clause-told : goal.put_list-requires-clause-told
put_list-requires-clause-told c = still-there c.args.phrases.now c.put_word.new.phrases c.args.told.now c.in_ok-put_word.ensures.grows c.requires.told

pub put_list-requires-clause-parts : goal.put_list-requires-clause-parts
put_list-requires-clause-parts c = c.in_ok-put_word.ensures.there

pub list-requires : goal.list-requires
list-requires c =
    let a = c.args.phrases.now in
    let told = c.args.told.now in
    let w = a_word c.args.assertion.now in
    let g = from-none a c.put_word.new.phrases c.new-parts.result.items c.put_word.new.parts.items (w ∷ []) c.new-parts.ensures.items c.in_ok-put_word.ensures in
    let h =
    then-list a c.put_word.new.phrases c.put_list.new.phrases told [] c.put_word.new.parts.items c.put_list.new.parts.items c.args.operands.now (w ∷ [])
    g c.requires.told c.in_ok-put_list.ensures in
    let o = a_list (phrases_at (those_at a told) c.args.operands.now) in
    (
    then-chosen a c.put_list.new.phrases told [] c.put_list.new.parts.items c.deref.result.now c.args.proofs.now (w ∷ o ∷ [])
    h c.requires.told c.requires.proofs (c.deref.ensures.value ∙ c.in_ok-put_told.ensures)
    ).there

pub returns : goal.returns
returns c =
    let a = c.args.phrases.now in
    let told = c.args.told.now in
    let w = a_word c.args.assertion.now in
    let g = from-none a c.put_word.new.phrases c.new-parts.result.items c.put_word.new.parts.items (w ∷ []) c.new-parts.ensures.items c.in_ok-put_word.ensures in
    let h =
    then-list a c.put_word.new.phrases c.put_list.new.phrases told [] c.put_word.new.parts.items c.put_list.new.parts.items c.args.operands.now (w ∷ [])
    g c.requires.told c.in_ok-put_list.ensures in
    let qs = those_at a told in
    let o = a_list (phrases_at qs c.args.operands.now) in
    let all =
    then-chosen a c.put_list.new.phrases told [] c.put_list.new.parts.items c.deref.result.now c.args.proofs.now (w ∷ o ∷ [])
    h c.requires.told c.requires.proofs (c.deref.ensures.value ∙ c.in_ok-put_told.ensures) in
    told-whole a c.put_list.new.phrases c.list.new.phrases c.deref.result.now (w ∷ o ∷ those_at qs c.args.proofs.now)
    (a_list (one_more w (one_more o (phrases_at qs c.args.proofs.now)))) c.list.result all
    (ap (λ x. a_list (one_more w (one_more o x))) (as-parts qs c.args.proofs.now)) c.list.ensures

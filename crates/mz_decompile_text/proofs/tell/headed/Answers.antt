use Rattle.std.proofs.Common.{◌∙◌, ◌∷◌, [], ap}
use Rattle.mz_decompile_text.specs.Phrases.{a_word, a_list, one_more}
use Rattle.mz_decompile_text.specs.ByNumber.{phrases_at}
use Rattle.mz_decompile_text.specs.Growing.{those_at}
use Rattle.mz_decompile_text.proofs.LongerProofs.{empty-there, from-none, then-chosen, told-whole, as-parts}
use Rattle.mz_decompile_text.proofs.tell.headed.Goals as goal

pub put_word-requires : goal.put_word-requires
put_word-requires c = empty-there c.args.phrases.now c.new-parts.result.items c.new-parts.ensures.items

pub list-requires : goal.list-requires
list-requires c =
    let a = c.args.phrases.now in
    let b = c.put_word.new.phrases in
    let ms = c.put_word.new.parts.items in
    let w = a_word c.args.head.now in
    (
    then-chosen a b c.args.told.now [] ms c.deref.result.now c.args.nodes.now (w ∷ [])
    (from-none a b c.new-parts.result.items ms (w ∷ []) c.new-parts.ensures.items c.in_ok-put_word.ensures)
    c.requires.told c.requires.nodes (c.deref.ensures.value ∙ c.in_ok-put_told.ensures)
    ).there

pub returns : goal.returns
returns c =
    let a = c.args.phrases.now in
    let b = c.put_word.new.phrases in
    let ms = c.put_word.new.parts.items in
    let w = a_word c.args.head.now in
    let qs = those_at a c.args.told.now in
    let g =
    then-chosen a b c.args.told.now [] ms c.deref.result.now c.args.nodes.now (w ∷ [])
    (from-none a b c.new-parts.result.items ms (w ∷ []) c.new-parts.ensures.items c.in_ok-put_word.ensures)
    c.requires.told c.requires.nodes (c.deref.ensures.value ∙ c.in_ok-put_told.ensures) in
    told-whole a b c.list.new.phrases c.deref.result.now (w ∷ those_at qs c.args.nodes.now) (a_list (one_more w (phrases_at qs c.args.nodes.now))) c.list.result g
    (ap (λ x. a_list (one_more w x)) (as-parts qs c.args.nodes.now)) c.list.ensures

use Rattle.std.proofs.Common.{ℕ, ◌≡◌, ◌<◌, ◌++◌, ◌∙◌, ◌∷◌, [], List, ap, length, get_or, codes}
use Rattle.mz_decompile_text.specs.Phrases.{Phrase, a_word, a_list}
use Rattle.mz_decompile_text.specs.Phrasing.{list_of, variable_names}
use Rattle.mz_decompile_text.specs.Naming.{vocabulary_by}
use Rattle.mz_decompile_text.specs.ByNumber.{phrase_at, phrases_at}
use Rattle.mz_decompile_text.specs.Growing.{AreThere, those_at, Adds}
use Rattle.mz_decompile_text.proofs.LongerProofs.{empty-there, from-none, still-there, adds-on, all-of, no-numbers, then-list, then-chosen, told-whole}
use Rattle.mz_decompile_text.proofs.tell.unfolding.Goals as goal

pub put_word-requires : goal.put_word-requires
put_word-requires c = empty-there c.args.phrases.now c.new-parts.result.items c.new-parts.ensures.items

pub put_word-requires-2 : goal.put_word-requires-2
put_word-requires-2 c = c.in_ok-put_word.ensures.there

pub put_list-requires-clause-told : goal.put_list-requires-clause-told
put_list-requires-clause-told c =
    let a = c.args.phrases.now in
    let b = c.put_word.new.phrases in
    still-there b c.put_word-2.new.phrases c.args.told.now c.in_ok-put_word-2.ensures.grows
    (still-there a b c.args.told.now c.in_ok-put_word.ensures.grows c.requires.told)

pub put_list-requires-clause-parts : goal.put_list-requires-clause-parts
put_list-requires-clause-parts c = c.in_ok-put_word-2.ensures.there

pub put_variable_list-requires : goal.put_variable_list-requires
put_variable_list-requires c = c.in_ok-put_list.ensures.there

-- the parts, one after another
parts-are : (a b d e f : List Phrase) (told none ms ls ks js is ops : List ℕ) (at : ℕ) (u t vs : Phrase)
    → none ≡ [] → AreThere a told → at < length told
    → Adds a b none ms (u ∷ []) → Adds b d ms ls (t ∷ []) → Adds d e ls ks (a_list (phrases_at (those_at d told) ops) ∷ []) → Adds e f ks js (vs ∷ [])
    → is ≡ js ++ get_or told at 0 ∷ []
    → Adds a f [] is (u ∷ t ∷ a_list (phrases_at (those_at a told) ops) ∷ vs ∷ phrase_at (those_at a told) at ∷ [])
parts-are a b d e f told none ms ls ks js is ops at u t vs empty there low first second third fourth last =
    let o = a_list (phrases_at (those_at a told) ops) in
    let g = adds-on a b d [] ms ls (u ∷ []) (t ∷ []) (from-none a b none ms (u ∷ []) empty first) second in
    let h = then-list a d e told [] ls ks ops (u ∷ t ∷ []) g there third in
    let k = adds-on a e f [] ks js (u ∷ t ∷ o ∷ []) (vs ∷ []) h fourth in
    then-chosen a f told [] js is (at ∷ []) (u ∷ t ∷ o ∷ vs ∷ []) k there (all-of (length told) at [] low (no-numbers (length told))) last

pub list-requires : goal.list-requires
list-requires c =
    let v = vocabulary_by c.args.names.now in
    (
    parts-are c.args.phrases.now c.put_word.new.phrases c.put_word-2.new.phrases c.put_list.new.phrases c.put_variable_list.new.phrases
    c.args.told.now c.new-parts.result.items c.put_word.new.parts.items c.put_word-2.new.parts.items c.put_list.new.parts.items c.put_variable_list.new.parts.items
    c.deref.result.now c.args.operands.now c.args.conversion _ _ (variable_names v c.args.variables.now)
    c.new-parts.ensures.items c.requires.told c.requires.conversion
    c.in_ok-put_word.ensures c.in_ok-put_word-2.ensures c.in_ok-put_list.ensures c.in_ok-put_variable_list.ensures
    (c.deref.ensures.value ∙ c.in_ok-push.ensures.items)
    ).there

pub returns : goal.returns
returns c =
    let v = vocabulary_by c.args.names.now in
    let qs = those_at c.args.phrases.now c.args.told.now in
    let word = ap a_word c.term.ensures in
    let rest = λ (w : Phrase). a_word (codes ":unfold") ∷ w ∷ a_list (phrases_at qs c.args.operands.now) ∷ variable_names v c.args.variables.now ∷ phrase_at qs c.args.conversion ∷ [] in
    told-whole c.args.phrases.now c.put_variable_list.new.phrases c.list.new.phrases c.deref.result.now
    (rest (a_word c.term.result.now)) (list_of (rest (a_word (v.term c.args.term)))) c.list.result
    (
    parts-are c.args.phrases.now c.put_word.new.phrases c.put_word-2.new.phrases c.put_list.new.phrases c.put_variable_list.new.phrases
    c.args.told.now c.new-parts.result.items c.put_word.new.parts.items c.put_word-2.new.parts.items c.put_list.new.parts.items c.put_variable_list.new.parts.items
    c.deref.result.now c.args.operands.now c.args.conversion (a_word (codes ":unfold")) (a_word c.term.result.now) (variable_names v c.args.variables.now)
    c.new-parts.ensures.items c.requires.told c.requires.conversion
    c.in_ok-put_word.ensures c.in_ok-put_word-2.ensures c.in_ok-put_list.ensures c.in_ok-put_variable_list.ensures
    (c.deref.ensures.value ∙ c.in_ok-push.ensures.items)
    )
    (ap (λ w. list_of (rest w)) word) c.list.ensures

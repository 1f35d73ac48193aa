use Rattle.std.proofs.Common.{◌≡◌, ◌++◌, ◌/◌, ◌%◌, List, sym, subst}
use Rattle.std.specs.Prelude.{◌==◌, codes, map}
use Rattle.std.proofs.lemmas.Result.{on_ok_weaker}
use Rattle.mz_decompile_text.specs.Phrases.{Phrase, a_word}
use Rattle.mz_decompile_text.specs.Phrasing.{modifiers}
use Rattle.mz_decompile.specs.Adding.{Adds}
use Rattle.mz_decompile.proofs.Adding.{adds-then}
use Rattle.mz_decompile.proofs.Lists.{word-if, four-words}
use Rattle.mz_decompile.proofs.sort.put_modifiers.Goals as goal

pub returns : goal.returns
returns c =
    let m = c.args.mods.0 in
    let p = word-if (m % 2 == 1) (codes "pure") in
    let q = word-if (m / 2 % 2 == 1) (codes "strict") in
    let r = word-if (m / 4 % 2 == 1) (codes "provable") in
    let s = word-if (m / 8 % 2 == 1) (codes "free") in
    let a = c.args.phrases.now in
    let l = c.args.parts.now.items in
    let two = adds-then a c.put_word_if.new.phrases c.put_word_if-2.new.phrases l c.put_word_if.new.parts.items c.put_word_if-2.new.parts.items p q c.in_ok-put_word_if.ensures
    c.in_ok-put_word_if-2.ensures in
    let three = adds-then a c.put_word_if-2.new.phrases c.put_word_if-3.new.phrases l c.put_word_if-2.new.parts.items c.put_word_if-3.new.parts.items (p ++ q) r two c.in_ok-put_word_if-3.ensures in
    let same : p ++ q ++ r ++ s ≡ map a_word (modifiers c.args.mods) =
    sym (four-words (m % 2 == 1) (m / 2 % 2 == 1) (m / 4 % 2 == 1) (m / 8 % 2 == 1) (codes "pure") (codes "strict") (codes "provable") (codes "free")) in
    on_ok_weaker c.put_word_if-4.result
    (λ last. subst (λ (qs : List Phrase). Adds a c.put_word_if-4.new.phrases l c.put_word_if-4.new.parts.items qs) same
    (adds-then a c.put_word_if-3.new.phrases c.put_word_if-4.new.phrases l c.put_word_if-3.new.parts.items c.put_word_if-4.new.parts.items (p ++ q ++ r) s three last))
    c.put_word_if-4.ensures

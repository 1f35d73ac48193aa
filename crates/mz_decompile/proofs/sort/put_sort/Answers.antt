use Rattle.std.proofs.Common.{◌∙◌, [], ◌∷◌, sym, subst}
use Rattle.std.specs.Prelude.{codes, map}
use Rattle.std.proofs.lemmas.Result.{on_ok_weaker}
use Rattle.std.proofs.lemmas.Option.{same_Some}
use Rattle.mz_logic_theory.specs.declared.binder.SortMods.{SortMods}
use Rattle.mz_decompile_text.specs.Phrases.{a_word}
use Rattle.mz_decompile_text.specs.Phrasing.{modifiers}
use Rattle.mz_decompile_text.specs.Naming.{vocabulary_by}
use Rattle.mz_decompile.specs.Adding.{Adds}
use Rattle.mz_decompile.proofs.Adding.{adds-then, word-is}
use Rattle.mz_decompile.proofs.sort.put_sort.Goals as goal

pub returns : goal.returns
returns c =
    let v = vocabulary_by c.args.names.now in
    let a = c.args.phrases.now in
    let b = c.put_word.new.phrases in
    let d = c.put_word-2.new.phrases in
    let e = c.put_modifiers.new.phrases in
    let l = c.args.parts.now.items in
    let name = v.sort c.args.row in
    let two = adds-then a b d l c.put_word.new.parts.items c.put_word-2.new.parts.items (a_word (codes "sort") ∷ []) (a_word name ∷ []) c.in_ok-put_word.ensures
    (word-is b d c.put_word.new.parts.items c.put_word-2.new.parts.items c.sort.result.now name c.sort.ensures c.in_ok-put_word-2.ensures) in
    on_ok_weaker c.put_modifiers.result
    (λ last mods is. adds-then a d e l c.put_word-2.new.parts.items c.put_modifiers.new.parts.items (a_word (codes "sort") ∷ a_word name ∷ []) (map a_word (modifiers mods)) two
    (subst (λ (m : SortMods). Adds d e c.put_word-2.new.parts.items c.put_modifiers.new.parts.items (map a_word (modifiers m))) (same_Some c.mods.result mods (sym c.mods.ensures.all ∙ is)) last))
    c.put_modifiers.ensures

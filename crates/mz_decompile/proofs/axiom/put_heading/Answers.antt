use Rattle.std.proofs.Common.{[], ◌∷◌}
use Rattle.mz_layout_tables.specs.Tables.{thm_row}
use Rattle.mz_logic_theory.specs.Words.{binders_of}
use Rattle.mz_decompile_text.specs.Phrases.{a_word, a_list}
use Rattle.mz_decompile_text.specs.Phrasing.{binders}
use Rattle.mz_decompile_text.specs.Naming.{vocabulary_by}
use Rattle.mz_decompile.proofs.Adding.{adds-then, word-is}
use Rattle.mz_decompile.proofs.axiom.put_heading.Goals as goal

pub returns : goal.returns
returns c =
    let v = vocabulary_by c.args.names.now in
    let a = c.args.phrases.now in
    let b = c.put_word.new.phrases in
    let d = c.put_word-2.new.phrases in
    let l = c.args.parts.now.items in
    let name = v.assertion c.args.row in
    adds-then a d c.put_params.new.phrases l c.put_word-2.new.parts.items c.put_params.new.parts.items (a_word c.args.word.now ∷ a_word name ∷ [])
    (a_list (binders v 0 (binders_of (thm_row c.args.mmb.now c.args.row).params)) ∷ [])
    (adds-then a b d l c.put_word.new.parts.items c.put_word-2.new.parts.items (a_word c.args.word.now ∷ []) (a_word name ∷ []) c.in_ok-put_word.ensures
    (word-is b d c.put_word.new.parts.items c.put_word-2.new.parts.items c.assertion.result.now name c.assertion.ensures c.in_ok-put_word-2.ensures))
    c.in_ok-_places.ensures.adds

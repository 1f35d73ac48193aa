use Rattle.std.proofs.Common.{◌≡◌, ◌∙◌, ◌++◌, Bool, sym, ap, subst}
use Rattle.std.specs.Prelude.{codes}
use Rattle.mz_decompile_text.specs.Phrases.{Phrase}
use Rattle.mz_decompile_text.specs.Phrasing.{declared_parts, list_of}
use Rattle.mz_decompile_text.specs.Naming.{vocabulary_by}
use Rattle.mz_decompile_text.specs.Rows.{IsPhrase}
use Rattle.mz_decompile.proofs.Adding.{there, begun, adds-then, told-phrase}
use Rattle.mz_decompile.proofs.Lists.{word-if, marked-is}
use Rattle.mz_decompile.proofs.statement.statement.Goals as goal

pub list-requires : goal.list-requires
list-requires c =
    let v = vocabulary_by c.args.names.now in
    let t = c.requires.1 in
    let a = c.args.phrases.now in
    let b = c.put_word_if.new.phrases in
    let d = c.put_parts.new.phrases in
    let mark = word-if c.is_local.result (codes "local") in
    let parts = declared_parts v t.name t.decl t.dummies t.proof in
    there a d c.deref.result.now c.put_parts.new.parts.items (mark ++ parts) c.deref.ensures.value
    (begun a d c.new-parts.result.items c.put_parts.new.parts.items (mark ++ parts) c.new-parts.ensures.items
    (adds-then a b d c.new-parts.result.items c.put_word_if.new.parts.items c.put_parts.new.parts.items mark parts c.in_ok-put_word_if.ensures
    (c.in_ok-weight.ensures c.requires.0 t c.requires.2).adds))

pub returns : goal.returns
returns c env t stands =
    let v = vocabulary_by c.args.names.now in
    let a = c.args.phrases.now in
    let b = c.put_word_if.new.phrases in
    let d = c.put_parts.new.phrases in
    let mark = word-if c.is_local.result (codes "local") in
    let parts = declared_parts v t.name t.decl t.dummies t.proof in
    let told = c.in_ok-weight.ensures env t stands in
    let phrase = told-phrase a d c.list.new.self c.deref.result.now c.put_parts.new.parts.items c.in_ok-phrase.phrase (mark ++ parts) c.deref.ensures.value
    (begun a d c.new-parts.result.items c.put_parts.new.parts.items (mark ++ parts) c.new-parts.ensures.items
    (adds-then a b d c.new-parts.result.items c.put_word_if.new.parts.items c.put_parts.new.parts.items mark parts c.in_ok-put_word_if.ensures told.adds))
    c.in_ok-phrase.ensures.number c.in_ok-phrase.ensures.ok in
    let local : c.is_local.result ≡ t.is_local = c.is_local.ensures ∙ sym stands.mark in
    record {
      phrase = subst (λ (p : Phrase). IsPhrase c.list.new.self c.in_ok-phrase.phrase p)
          (ap (λ (m : Bool). list_of (word-if m (codes "local") ++ parts)) local ∙ ap list_of (marked-is t.is_local parts)) phrase;
      weight = told.weight_is;
    }

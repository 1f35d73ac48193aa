use Rattle.std.proofs.Common.{◌∷◌, [], ℕ, List, subst, arith, map}
use Rattle.mz_layout_tables.proofs.Offered.{length-term_words}
use Rattle.mz_machine_theory.specs.Spells.{dummy_of}
use Rattle.mz_decompile_text.specs.Phrases.{a_list}
use Rattle.mz_decompile_text.specs.Phrasing.{binders}
use Rattle.mz_decompile_text.specs.Naming.{vocabulary_by}
use Rattle.mz_decompile.specs.Adding.{Adds}
use Rattle.mz_decompile.proofs.Statements.{definition-told, body-there}
use Rattle.mz_decompile.proofs.term.put_definition.Goals as goal

pub arity-params-requires : goal.arity-params-requires
arity-params-requires c = let there = c.requires.row in omega (arith, there, length-term_words c.args.mmb.now)

pub words-requires : goal.words-requires
words-requires c =
    let spells = c.requires.spells in
    body-there (vocabulary_by c.args.names.now) c.args.mmb.now c.args.row spells.0 spells.2.0 c.definition.new.phrases c.put_dummies.new.phrases c.in_ok-defined.defined c.requires.body spells.2.1
    (λ ds body. λ form. c.in_ok-defined.ensures.defined spells.0 spells.2.0 ds body spells.1 spells.2.1 form) c.in_ok-put_dummies.ensures.grows

pub returns : goal.returns
returns c sigs d arities spells =
    let v = vocabulary_by c.args.names.now in
    let n = c.arity-params.result in
    let s = c.in_ok-defined.defined in
    let e = c.put_dummies.new.phrases in
    let dummies = subst (λ (xs : List ℕ). Adds c.definition.new.phrases e c.put_signature.new.parts.items c.put_dummies.new.parts.items (a_list (binders v n (map dummy_of xs)) ∷ []))
    c.deref.ensures.value
    c.in_ok-put_dummies.ensures in
    let added = c.saturating_add.ensures in
    let x = c.from.ensures in
    let y = c.len.ensures in
    let z = c.words.ensures in
    definition-told v c.args.mmb.now c.args.row (v.term c.args.row) sigs n c.args.phrases.now c.put_signature.new.phrases c.definition.new.phrases e c.args.parts.now.items
    c.put_signature.new.parts.items
    c.put_dummies.new.parts.items c.push.new.self.items d s c.saturating_add.result c.requires.body spells c.in_ok-put_signature.ensures c.in_ok-defined.ensures.grows
    (λ ds body form. c.in_ok-defined.ensures.defined sigs d ds body arities spells form) dummies c.in_ok-push.ensures.items c.arity-params.ensures.row
    (omega (arith, added, x, y, z))

use Rattle.std.proofs.Common.{◌∙◌, sym, arith}
use Rattle.mz_layout_tables.proofs.Offered.{length-term_words}
use Rattle.mz_decompile_text.specs.Naming.{vocabulary_by}
use Rattle.mz_decompile.proofs.Statements.{plain-told}
use Rattle.mz_decompile.proofs.term.put_term.Goals as goal

pub has_body-requires : goal.has_body-requires
has_body-requires c = let there = c.requires.row in omega (arith, there, length-term_words c.args.mmb.now)

pub arity-requires : goal.arity-requires
arity-requires c = let there = c.requires.row in omega (arith, there, length-term_words c.args.mmb.now)

pub returns : goal.returns
returns c sigs d arities spells =
    plain-told (vocabulary_by c.args.names.now) c.args.mmb.now c.args.row ((vocabulary_by c.args.names.now).term c.args.row) sigs c.from.result c.args.phrases.now c.put_signature.new.phrases
    c.args.parts.now.items c.put_signature.new.parts.items d (sym c.has_body.ensures.row ∙ c.if-has_body.false) spells c.in_ok-put_signature.ensures (c.from.ensures ∙ c.arity.ensures.row)
    (let x = c.arity.type_inv in let y = c.from.ensures in omega (arith, x, y))

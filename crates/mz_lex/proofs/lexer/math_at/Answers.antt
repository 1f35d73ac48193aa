use Rattle.std.proofs.Common.{◌∙◌, ◌+◌, sym, ap, arith}
use Rattle.std.specs.Prelude.{slice_range}
use Rattle.std.specs.List.{list_all}
use Rattle.mz_lex.specs.Kinds.{is_math_byte}
use Rattle.mz_lex.proofs.Blanks.{retold}
use Rattle.mz_lex.proofs.OtherKinds.{math-open, math-next}
use Rattle.mz_lex.proofs.lexer.math_at.Goals as goal

pub returns-then-end-text-clause-fault : goal.returns-then-end-text-clause-fault
returns-then-end-text-clause-fault c = math-open c.args.text.now c.args.from c.args.at c.requires.within c.requires.blank c.requires.start c.requires.first
    (ap (λ n. list_all is_math_byte (slice_range c.args.text.now (c.args.at + 1) n)) (sym c.if-end-text.true) ∙ c.run_end-end.ensures.all)

pub returns-clause-next : goal.returns-clause-next
returns-clause-next c =
    let le = c.run_end-end.ensures.within in
    retold c.args.text.now c.args.from c.token.result _ c.token.ensures
    (math-next c.args.text.now c.args.from c.args.at c.run_end-end.result c.run_end-end.ensures.later (omega (arith, le, c.if-end-text.false)) c.requires.blank c.requires.first
    c.run_end-end.ensures.all c.if-text-end-ne36.false)

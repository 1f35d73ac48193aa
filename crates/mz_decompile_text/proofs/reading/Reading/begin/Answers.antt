use Rattle.std.proofs.Common.{None, arith, subst}
use Rattle.std.proofs.lemmas.Result.{IfOk-weaker}
use Rattle.mz_layout_tables.proofs.Offered.{length-term_words}
use Rattle.mz_decompile_text.specs.Naming.{vocabulary_by}
use Rattle.mz_decompile_text.specs.Reading.{IsOpened}
use Rattle.mz_decompile_text.proofs.RowSteps.{begin_done, term_there}
use Rattle.mz_decompile_text.proofs.reading.Reading.begin.Goals as goal

pub arity-requires : goal.arity-requires
arity-requires c =
    let r = c.requires.can in
    let there = term_there c.args.mmb.now r.0 (vocabulary_by c.args.names.now) c.args.phrases.now c.args.self.now r.1 c.args.term r.2 in
    omega (arith, there, length-term_words c.args.mmb.now)

pub returns-clause-does : goal.returns-clause-does
returns-clause-does c = IfOk-weaker c.push_open.result _ _ (λ _ opened o t g.
    begin_done c.args.mmb.now o (vocabulary_by c.args.names.now) c.args.phrases.now c.push_term.new.phrases c.args.self.now c.push_open.new.self t c.args.term c.in_ok-word.word g
    c.in_ok-word.ensures.grows c.in_ok-word.ensures.is c.push_open.ensures.same
    (subst (λ n. IsOpened c.args.self.now c.push_open.new.self c.in_ok-word.word n None) c.arity.ensures.row opened)) c.push_open.ensures.ok

use Rattle.std.proofs.Common.{◌≡◌, Some, arith, length, refl, subst}
use Rattle.std.proofs.lemmas.Result.{IfOk-weaker}
use Rattle.mz_layout_tables.specs.Tables.{term_row}
use Rattle.mz_layout_tables.proofs.Offered.{length-term_words}
use Rattle.mz_decompile_text.specs.Naming.{vocabulary_by}
use Rattle.mz_decompile_text.specs.Reading.{IsOpened}
use Rattle.mz_decompile_text.proofs.RowSteps.{save_done, save_there}
use Rattle.mz_decompile_text.proofs.reading.Reading.begin_saved.Goals as goal

pub arity-requires : goal.arity-requires
arity-requires c =
    let r = c.requires.can in
    let there = save_there c.args.mmb.now r.0 (vocabulary_by c.args.names.now) c.args.phrases.now c.args.self.now r.1 c.args.term r.2 in
    omega (arith, there, length-term_words c.args.mmb.now)

pub returns-clause-does : goal.returns-clause-does
returns-clause-does c =
    let self = c.args.self.now in
    let saved = record self { marks = c.push.new.self } in
    let made = c.push_open.new.self in
    let word = c.in_ok-word.word in
    let mark : c.len-mark.result ≡ length self.marks.items = let is = c.len-mark.ensures in omega (arith, is, self.marks.ok.0) in
    IfOk-weaker c.push_open.result _ _ (λ _ opened o t g.
    save_done c.args.mmb.now o (vocabulary_by c.args.names.now) c.args.phrases.now c.push_term.new.phrases self saved made t c.args.term word g
    c.in_ok-word.ensures.grows c.in_ok-word.ensures.is refl refl c.in_ok-push.ensures.items refl refl refl c.push_open.ensures.same
    (subst (λ m. IsOpened saved made word (length (term_row c.args.mmb.now c.args.term).words.params) (Some m)) mark
    (subst (λ n. IsOpened saved made word n (Some c.len-mark.result)) c.arity.ensures.row opened))) c.push_open.ensures.ok

use Rattle.std.proofs.Common.{[], ◌∷◌}
use Rattle.mz_io.proofs.Offered.{grows-none}
use Rattle.mz_tool_engine.specs.Inputs.{contents_of}
use Rattle.mz_tool_engine.proofs.Offered.{answers-of, at_once-log, at_once-fits, none-short}
use Rattle.mz_tool.specs.Draft.{draft_says, IsDraftPrinted}
use Rattle.mz_tool.proofs.draft.DraftCommandCommand.answer.Goals as goal

pub returns-clause-log : goal.returns-clause-log
returns-clause-log g c =
    let said = draft_says c.args.self.now.spec.now c.args.self.now.bin.now in
    let contents = contents_of c.args.contents.now in
    let answers = answers-of said contents (c.two.result.0.now ∷ c.two.result.1.now ∷ []) c.two.ensures.is c.draft.result
    c.draft.ensures.yes c.draft.ensures.no c.draft.ensures.sound (λ put text is. c.draft.ensures.only_yes text is.1) c.draft.ensures.only_no
    (none-short (λ text. IsDraftPrinted c.two.result.0.now c.two.result.1.now text) c.draft.result c.draft.ensures.yes) in
    grows-none _ _ (at_once-log said contents c.draft.result answers)

pub returns-clause-left : goal.returns-clause-left
returns-clause-left g c = λ clear fits.
    let said = draft_says c.args.self.now.spec.now c.args.self.now.bin.now in
    let contents = contents_of c.args.contents.now in
    let answers = answers-of said contents (c.two.result.0.now ∷ c.two.result.1.now ∷ []) c.two.ensures.is c.draft.result
    c.draft.ensures.yes c.draft.ensures.no c.draft.ensures.sound (λ put text is. c.draft.ensures.only_yes text is.1) c.draft.ensures.only_no
    (none-short (λ text. IsDraftPrinted c.two.result.0.now c.two.result.1.now text) c.draft.result c.draft.ensures.yes) in
    (clear, at_once-fits said contents c.draft.result (g.O.Sink.room c.args.out.now) answers fits)

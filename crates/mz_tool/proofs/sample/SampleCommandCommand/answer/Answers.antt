use Rattle.std.proofs.Common.{[]}
use Rattle.mz_io.proofs.Offered.{grows-none}
use Rattle.mz_tool_engine.specs.Inputs.{contents_of}
use Rattle.mz_tool_engine.proofs.Offered.{answers-of, at_once-log, at_once-fits, none-short}
use Rattle.mz_tool.specs.Sample.{sample_says, IsSampleUpheld}
use Rattle.mz_tool.proofs.Sampled.{none-read}
use Rattle.mz_tool.proofs.sample.SampleCommandCommand.answer.Goals as goal

pub returns-clause-log : goal.returns-clause-log
returns-clause-log g c =
    let said = sample_says c.args.self.now.size.number in
    let contents = contents_of c.args.contents.now in
    let answers = answers-of said contents ([]) (none-read contents c.requires.files) c.sample.result
    c.sample.ensures.yes c.sample.ensures.never_no c.sample.ensures.proved (λ put text is. c.sample.ensures.never_no) (λ text is. absurd is)
    (none-short (λ text. IsSampleUpheld c.args.self.now.size.number text) c.sample.result c.sample.ensures.yes) in
    grows-none _ _ (at_once-log said contents c.sample.result answers)

pub returns-clause-left : goal.returns-clause-left
returns-clause-left g c = λ clear fits.
    let said = sample_says c.args.self.now.size.number in
    let contents = contents_of c.args.contents.now in
    let answers = answers-of said contents ([]) (none-read contents c.requires.files) c.sample.result
    c.sample.ensures.yes c.sample.ensures.never_no c.sample.ensures.proved (λ put text is. c.sample.ensures.never_no) (λ text is. absurd is)
    (none-short (λ text. IsSampleUpheld c.args.self.now.size.number text) c.sample.result c.sample.ensures.yes) in
    (clear, at_once-fits said contents c.sample.result (g.O.Sink.room c.args.out.now) answers fits)

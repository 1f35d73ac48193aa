use Rattle.std.proofs.Common.{[], ◌∷◌}
use Rattle.mz_io.proofs.Offered.{grows-none}
use Rattle.mz_tool_engine.specs.Inputs.{contents_of}
use Rattle.mz_tool_engine.proofs.Offered.{answers-of, at_once-log, at_once-fits}
use Rattle.mz_tool.specs.Specify.{specify_says}
use Rattle.mz_tool.proofs.spec.SpecifyCommandCommand.answer.Goals as goal

pub returns-clause-log : goal.returns-clause-log
returns-clause-log g c =
    let said = specify_says c.args.self.now.text.now c.args.self.now.out.now in
    let contents = contents_of c.args.contents.now in
    let answers = answers-of said contents (c.one.result.now ∷ []) c.one.ensures.is c.specify.result
    c.specify.ensures.yes c.specify.ensures.no c.specify.ensures.sound c.specify.ensures.only_yes c.specify.ensures.only_no c.specify.ensures.short in
    grows-none _ _ (at_once-log said contents c.specify.result answers)

pub returns-clause-left : goal.returns-clause-left
returns-clause-left g c = λ clear fits.
    let said = specify_says c.args.self.now.text.now c.args.self.now.out.now in
    let contents = contents_of c.args.contents.now in
    let answers = answers-of said contents (c.one.result.now ∷ []) c.one.ensures.is c.specify.result
    c.specify.ensures.yes c.specify.ensures.no c.specify.ensures.sound c.specify.ensures.only_yes c.specify.ensures.only_no c.specify.ensures.short in
    (clear, at_once-fits said contents c.specify.result (g.O.Sink.room c.args.out.now) answers fits)

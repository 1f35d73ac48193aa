use Rattle.std.proofs.Common.{[], ◌∷◌}
use Rattle.mz_io.proofs.Offered.{grows-none}
use Rattle.mz_tool_engine.specs.Inputs.{contents_of}
use Rattle.mz_tool_engine.proofs.Offered.{answers-of, at_once-log, at_once-fits}
use Rattle.mz_base.specs.Gaps.{gaps_of}
use Rattle.mz_tool.specs.Compile.{compile_says}
use Rattle.mz_tool.proofs.Compiles.{none-promised}
use Rattle.mz_tool.proofs.compile.CompileCommandCommand.answer.Goals as goal

pub returns-clause-log : goal.returns-clause-log
returns-clause-log g c =
    let said = compile_says (gaps_of c.args.self.now.mode) c.args.self.now.text.now c.args.self.now.out.now in
    let contents = contents_of c.args.contents.now in
    let answers = answers-of said contents (c.one.result.now ∷ []) c.one.ensures.is c.compile.result
    c.compile.ensures.yes c.compile.ensures.no (none-promised c.compile.result) c.compile.ensures.only_yes c.compile.ensures.only_no c.compile.ensures.short in
    grows-none _ _ (at_once-log said contents c.compile.result answers)

pub returns-clause-left : goal.returns-clause-left
returns-clause-left g c = λ clear fits.
    let said = compile_says (gaps_of c.args.self.now.mode) c.args.self.now.text.now c.args.self.now.out.now in
    let contents = contents_of c.args.contents.now in
    let answers = answers-of said contents (c.one.result.now ∷ []) c.one.ensures.is c.compile.result
    c.compile.ensures.yes c.compile.ensures.no (none-promised c.compile.result) c.compile.ensures.only_yes c.compile.ensures.only_no c.compile.ensures.short in
    (clear, at_once-fits said contents c.compile.result (g.O.Sink.room c.args.out.now) answers fits)

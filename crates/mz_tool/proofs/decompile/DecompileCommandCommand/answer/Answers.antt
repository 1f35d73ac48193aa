use Rattle.std.proofs.Common.{[], ◌∷◌}
use Rattle.mz_io.proofs.Offered.{grows-none}
use Rattle.mz_tool_engine.specs.Inputs.{contents_of}
use Rattle.mz_tool_engine.proofs.Offered.{answers-of, at_once-log, at_once-fits}
use Rattle.mz_tool.specs.Decompile.{decompile_says}
use Rattle.mz_tool.proofs.decompile.DecompileCommandCommand.answer.Goals as goal

pub returns-clause-log : goal.returns-clause-log
returns-clause-log g c =
    let said = decompile_says c.args.self.now.spec.now c.args.self.now.bin.now c.args.self.now.out.now in
    let contents = contents_of c.args.contents.now in
    let answers = answers-of said contents (c.two.result.0.now ∷ c.two.result.1.now ∷ []) c.two.ensures.is c.decompile.result
    c.decompile.ensures.yes c.decompile.ensures.no c.decompile.ensures.sound c.decompile.ensures.only_yes c.decompile.ensures.only_no c.decompile.ensures.short in
    grows-none _ _ (at_once-log said contents c.decompile.result answers)

pub returns-clause-left : goal.returns-clause-left
returns-clause-left g c = λ clear fits.
    let said = decompile_says c.args.self.now.spec.now c.args.self.now.bin.now c.args.self.now.out.now in
    let contents = contents_of c.args.contents.now in
    let answers = answers-of said contents (c.two.result.0.now ∷ c.two.result.1.now ∷ []) c.two.ensures.is c.decompile.result
    c.decompile.ensures.yes c.decompile.ensures.no c.decompile.ensures.sound c.decompile.ensures.only_yes c.decompile.ensures.only_no c.decompile.ensures.short in
    (clear, at_once-fits said contents c.decompile.result (g.O.Sink.room c.args.out.now) answers fits)

use Rattle.std.proofs.Common.{ℕ, List, [], ◌∷◌}
use Rattle.mz_io.proofs.Offered.{grows-none}
use Rattle.mz_tool_engine.specs.Inputs.{contents_of}
use Rattle.mz_tool_engine.proofs.Offered.{answers-of, at_once-log, at_once-fits}
use Rattle.mz_tool.specs.Assemble.{assemble_says, IsNotAssembled, IsListingOfNormal}
use Rattle.mz_tool.proofs.Assemblies.{no-both}
use Rattle.mz_tool.proofs.assemble.AssembleCommandCommand.answer.Goals as goal

pub returns-clause-log : goal.returns-clause-log
returns-clause-log g c =
    let said = assemble_says c.args.self.now.listing.now c.args.self.now.out.now in
    let contents = contents_of c.args.contents.now in
    let answers = answers-of said contents (c.one.result.now ∷ []) c.one.ensures.is c.assemble.result
    c.assemble.ensures.yes (no-both (λ line. IsNotAssembled c.one.result.now line) ((file : List ℕ) → IsListingOfNormal c.one.result.now file → ⊥) c.assemble.result c.assemble.ensures.no c.assemble.ensures.lists_none)
    c.assemble.ensures.sound c.assemble.ensures.only_yes (λ line is. c.assemble.ensures.only_no line is.0) c.assemble.ensures.short in
    grows-none _ _ (at_once-log said contents c.assemble.result answers)

pub returns-clause-left : goal.returns-clause-left
returns-clause-left g c = λ clear fits.
    let said = assemble_says c.args.self.now.listing.now c.args.self.now.out.now in
    let contents = contents_of c.args.contents.now in
    let answers = answers-of said contents (c.one.result.now ∷ []) c.one.ensures.is c.assemble.result
    c.assemble.ensures.yes (no-both (λ line. IsNotAssembled c.one.result.now line) ((file : List ℕ) → IsListingOfNormal c.one.result.now file → ⊥) c.assemble.result c.assemble.ensures.no c.assemble.ensures.lists_none)
    c.assemble.ensures.sound c.assemble.ensures.only_yes (λ line is. c.assemble.ensures.only_no line is.0) c.assemble.ensures.short in
    (clear, at_once-fits said contents c.assemble.result (g.O.Sink.room c.args.out.now) answers fits)

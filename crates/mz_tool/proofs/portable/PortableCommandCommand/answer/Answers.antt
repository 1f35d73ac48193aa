use Rattle.std.proofs.Common.{[], ◌∷◌}
use Rattle.mz_io.proofs.Offered.{grows-none}
use Rattle.mz_tool_engine.specs.Inputs.{contents_of}
use Rattle.mz_tool_engine.proofs.Offered.{answers-of, at_once-log, at_once-fits, none-short}
use Rattle.mz_pmachine_theory.specs.FilesByIdentity.{portable_standard}
use Rattle.mz_tool_verify.specs.Verify.{IsVerifiedBy}
use Rattle.mz_tool.specs.Portable.{portable_says}
use Rattle.mz_tool.proofs.portable.PortableCommandCommand.answer.Goals as goal

pub returns-clause-log : goal.returns-clause-log
returns-clause-log g c =
    let said = portable_says c.args.self.now.spec.now c.args.self.now.bin.now in
    let contents = contents_of c.args.contents.now in
    let answers = answers-of said contents (c.two.result.0.now ∷ c.two.result.1.now ∷ []) c.two.ensures.is c.portable.result
    c.portable.ensures.yes c.portable.ensures.no c.portable.ensures.sound (λ put text is. c.portable.ensures.only_yes text is.1) c.portable.ensures.only_no
    (none-short (λ text. IsVerifiedBy portable_standard c.two.result.0.now c.two.result.1.now text) c.portable.result c.portable.ensures.yes) in
    grows-none _ _ (at_once-log said contents c.portable.result answers)

pub returns-clause-left : goal.returns-clause-left
returns-clause-left g c = λ clear fits.
    let said = portable_says c.args.self.now.spec.now c.args.self.now.bin.now in
    let contents = contents_of c.args.contents.now in
    let answers = answers-of said contents (c.two.result.0.now ∷ c.two.result.1.now ∷ []) c.two.ensures.is c.portable.result
    c.portable.ensures.yes c.portable.ensures.no c.portable.ensures.sound (λ put text is. c.portable.ensures.only_yes text is.1) c.portable.ensures.only_no
    (none-short (λ text. IsVerifiedBy portable_standard c.two.result.0.now c.two.result.1.now text) c.portable.result c.portable.ensures.yes) in
    (clear, at_once-fits said contents c.portable.result (g.O.Sink.room c.args.out.now) answers fits)

use Rattle.std.proofs.Common.{refl}
use Rattle.mz_spec_theory.specs.StatementCode.{lexeme}
use Rattle.mz_spec_theory.specs.Progress.{level_read}
use Rattle.mz_spec_grammar.proofs.reader.Reader.operator.Goals as goal

pub returns : goal.returns
returns c = λ s w.
    c.take-3.ensures.reads _ _ refl s (
    c.level-level.ensures.reads _ (level_read c.args.fixity (lexeme c.take-name.result) (lexeme c.take-constant.result)) refl s (
    c.take-2.ensures.reads _ _ refl s (
    c.take-constant.ensures.reads _ _ refl s (
    c.take.ensures.reads _ _ refl s (
    c.take-name.ensures.reads _ _ refl s w)))))

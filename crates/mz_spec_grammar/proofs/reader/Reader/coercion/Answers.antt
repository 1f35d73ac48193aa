use Rattle.std.proofs.Common.{refl}
use Rattle.mz_spec_grammar.proofs.reader.Reader.coercion.Goals as goal

pub returns : goal.returns
returns c = λ s w.
    c.take-3.ensures.reads _ _ refl s (
    c.take-to.ensures.reads _ _ refl s (
    c.take-2.ensures.reads _ _ refl s (
    c.take-from.ensures.reads _ _ refl s (
    c.take.ensures.reads _ _ refl s (
    c.take-name.ensures.reads _ _ refl s w)))))

use Rattle.std.proofs.Common.{◌∙◌, ◌++◌, ap, sym}
use Rattle.mz_lex.proofs.Marking.{tells-more}
use Rattle.mz_lex.proofs.set.ByteSet.append.Goals as goal

pub invariant_of-self-2 : goal.invariant_of-self-2
invariant_of-self-2 c =
    tells-more c.self.inside.there c.mark.new.there c.self.inside.bytes.items c.deref-2.result.now c.extend_from_slice.new.self.items c.self.invariant c.mark.ensures
    (c.in_ok-extend_from_slice.ensures.items ∙ ap (λ ys. c.self.inside.bytes.items ++ ys) (c.deref.ensures.value ∙ sym c.deref-2.ensures.value))

use Rattle.std.proofs.Common.{◌∙◌, Some, ap, slice_get}
use Rattle.mz_base.proofs.Offered.{slice_get-last}
use Rattle.mz_decompile_text.proofs.RowNumbers.{alone, gathered}
use Rattle.mz_decompile_text.proofs.gathered.gather.Goals as goal

pub returns-then-parts-eq1-clause-is : goal.returns-then-parts-eq1-clause-is
returns-then-parts-eq1-clause-is c = λ v t es h. alone v c.args.phrases.now c.args.parts.now t es h c.if-parts-eq1.true

pub returns-clause-is : goal.returns-clause-is
returns-clause-is c = λ v t es h.
    ap (λ ps. slice_get ps c.in_ok-pushed.pushed) c.in_ok-pushed.ensures.ok ∙ ap (slice_get _) c.in_ok-pushed.ensures.number ∙ slice_get-last c.args.phrases.now _
    ∙ ap (λ p. Some p) (gathered v c.args.phrases.now c.args.parts.now t es h c.if-parts-eq1.false)

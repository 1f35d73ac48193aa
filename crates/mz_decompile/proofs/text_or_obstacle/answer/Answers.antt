use Rattle.std.proofs.Common.{subst, length}
use Rattle.mz_decompile_text.specs.Naming.{vocabulary_by}
use Rattle.mz_decompile_text.specs.Phrasing.{text_of}
use Rattle.mz_mmu_theory.specs.Weight.{weight_of}
use Rattle.mz_decompile.specs.Passes.{IsMeasured}
use Rattle.mz_decompile.specs.declared.measure.Measured.{Measured}
use Rattle.mz_decompile.proofs.Sizing.{too-deep, too-long, short-enough}
use Rattle.mz_decompile.proofs.text_or_obstacle.answer.Goals as goal

pub returns-in-Deep : goal.returns-in-Deep
returns-in-Deep c all are =
    let v = vocabulary_by c.args.names.now in
    too-deep v all c.in-Deep.number (subst (λ (m : Measured). IsMeasured v all m) c.in-Deep.is (c.in_ok-number.ensures all are))

pub returns-then-count-gt-LONGEST : goal.returns-then-count-gt-LONGEST
returns-then-count-gt-LONGEST c all are =
    let v = vocabulary_by c.args.names.now in
    let m = subst (λ (m : Measured). IsMeasured v all m) c.in-Whole.is (c.in_ok-number.ensures all are) in
    too-long v all m.0 c.greater-count.result (c.greater-count.ensures (length (text_of v all)) (weight_of all) m.1 m.2) c.if-count-gt-LONGEST.true

pub returns-in_ok-text-in-Whole : goal.returns-in_ok-text-in-Whole
returns-in_ok-text-in-Whole c all are =
    let v = vocabulary_by c.args.names.now in
    let m = subst (λ (m : Measured). IsMeasured v all m) c.in-Whole.is (c.in_ok-number.ensures all are) in (
      short-enough v all m.0 c.greater-count.result (c.greater-count.ensures (length (text_of v all)) (weight_of all) m.1 m.2) c.if-count-gt-LONGEST.false,
      c.in_ok-text-in-Whole.ensures all are,
    )

use Rattle.std.proofs.lemmas.Result.{IfOk-weaker}
use Rattle.mz_decompile_text.specs.Naming.{vocabulary_by}
use Rattle.mz_decompile_text.proofs.RowNumbers.{not_true}
use Rattle.mz_decompile_text.proofs.RowSteps.{next_of}
use Rattle.mz_decompile_text.proofs.reading.Reading.go_on.Goals as goal

pub step-requires : goal.step-requires
step-requires c =
    let r = c.requires.can in
    record {
      can = (
        r.0,
        r.1,
        next_of c.args.mmb.now r.0 (vocabulary_by c.args.names.now) c.args.phrases.now c.args.self.now r.1 r.2 c.requires.some
            (λ h. not_true c.is_complete.result c.if-is_complete.false (c.is_complete.ensures.1 h)),
      );
    }

pub returns-else-is_complete-clause-does : goal.returns-else-is_complete-clause-does
returns-else-is_complete-clause-does c = IfOk-weaker c.step.result _ _ (λ _ does o t g.
    does o t (next_of c.args.mmb.now o (vocabulary_by c.args.names.now) c.args.phrases.now c.args.self.now t g c.requires.some
    (λ h. not_true c.is_complete.result c.if-is_complete.false (c.is_complete.ensures.1 h)))) c.step.ensures.does

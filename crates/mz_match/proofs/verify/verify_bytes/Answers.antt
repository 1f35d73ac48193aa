use Rattle.std.proofs.Common.{subst}
use Rattle.mz_match_theory.specs.Verdict.{IsVerdict}
use Rattle.mz_match_theory.proofs.Offered.{accepted-proves}
use Rattle.mz_match.proofs.Pairing.{sound}
use Rattle.mz_match.proofs.verify.verify_bytes.Goals as goal

pub returns-clause-headline : goal.returns-clause-headline
returns-clause-headline g c = λ counts is. accepted-proves c.args.spec.now c.args.bin.now (subst (IsVerdict c.args.spec.now c.args.bin.now) is c.verify_by.ensures.verdict).0

pub returns-clause-sound : goal.returns-clause-sound
returns-clause-sound g c = sound c.args.spec.now c.args.bin.now c.verify_by.result c.verify_by.ensures.verdict

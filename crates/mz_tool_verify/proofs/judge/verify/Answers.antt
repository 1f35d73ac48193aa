use Rattle.mz_binary_theory.specs.Standards.{strict_standard}
use Rattle.mz_tool_verify.proofs.Judged.{judged-yes, judged-no, judged-sound, judged-only_yes, judged-only_no}
use Rattle.mz_tool_verify.proofs.judge.verify.Goals as goal

pub returns : goal.returns
returns c = record {
  yes = judged-yes strict_standard c.args.spec.now c.args.bin.now c.counted_verdict-verdict.result c.answered_by.result c.counted_verdict-verdict.ensures.verdict c.answered_by.ensures.yes;
  no = judged-no strict_standard c.args.spec.now c.args.bin.now c.counted_verdict-verdict.result c.answered_by.result c.counted_verdict-verdict.ensures.verdict c.answered_by.ensures.no;
  sound = judged-sound c.args.spec.now c.args.bin.now c.counted_verdict-verdict.result c.answered_by.result c.counted_verdict-verdict.ensures.sound c.answered_by.ensures.yes;
  only_yes = judged-only_yes strict_standard c.args.spec.now c.args.bin.now c.counted_verdict-verdict.result c.answered_by.result c.counted_verdict-verdict.ensures.accepted c.answered_by.ensures.no;
  only_no = judged-only_no strict_standard c.args.spec.now c.args.bin.now c.counted_verdict-verdict.result c.answered_by.result c.counted_verdict-verdict.ensures.refused c.answered_by.ensures.yes;
}

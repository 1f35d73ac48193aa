use Rattle.mz_pmachine_theory.specs.FilesByIdentity.{portable_standard}
use Rattle.mz_tool_verify.proofs.Offered.{judged-yes, judged-no, judged-only_yes, judged-only_no}
use Rattle.mz_tool.proofs.Tables.{judged-portable}
use Rattle.mz_tool.proofs.portable.portable.Goals as goal

pub returns : goal.returns
returns c = record {
  yes = judged-yes portable_standard c.args.spec.now c.args.bin.now c.counted_verdict-verdict.result c.answered_by.result c.counted_verdict-verdict.ensures.verdict c.answered_by.ensures.yes;
  no = judged-no portable_standard c.args.spec.now c.args.bin.now c.counted_verdict-verdict.result c.answered_by.result c.counted_verdict-verdict.ensures.verdict c.answered_by.ensures.no;
  sound = judged-portable c.args.spec.now c.args.bin.now c.counted_verdict-verdict.result c.answered_by.result c.counted_verdict-verdict.ensures.sound c.counted_verdict-verdict.ensures.table c.answered_by.ensures.yes;
  only_yes = judged-only_yes portable_standard c.args.spec.now c.args.bin.now c.counted_verdict-verdict.result c.answered_by.result c.counted_verdict-verdict.ensures.accepted c.answered_by.ensures.no;
  only_no = judged-only_no portable_standard c.args.spec.now c.args.bin.now c.counted_verdict-verdict.result c.answered_by.result c.counted_verdict-verdict.ensures.refused c.answered_by.ensures.yes;
}

use Rattle.mz_match_theory.specs.declared.verdict.Verdict.TheVariants as verdicts
use Rattle.mz_match.specs.Drafts.{verdict_of}
use Rattle.mz_match.proofs.GapPlaces.{draft-verdict, draft-sound}
use Rattle.mz_match_theory.proofs.Offered.{verdict-says, refusal-says}
use Rattle.mz_match.proofs.draft.draft_bytes.Goals as goal
use Rattle.mz_binary_theory.specs.Standards.{draft_standard}

pub returns-clause-accepted : goal.returns-clause-accepted
returns-clause-accepted g c = λ counts accepts.
    verdict-says draft_standard c.args.spec.now c.args.bin.now (verdict_of c.judge_draft.result) (verdicts.Accepted counts) (draft-verdict c.args.spec.now c.args.bin.now c.judge_draft.result c.judge_draft.ensures.draft) accepts

pub returns-clause-refused : goal.returns-clause-refused
returns-clause-refused g c = λ verdict first.
    verdict-says draft_standard c.args.spec.now c.args.bin.now (verdict_of c.judge_draft.result) verdict (draft-verdict c.args.spec.now c.args.bin.now c.judge_draft.result c.judge_draft.ensures.draft)
    (refusal-says draft_standard c.args.spec.now c.args.bin.now verdict first)

pub returns-clause-sound : goal.returns-clause-sound
returns-clause-sound g c = draft-sound c.args.spec.now c.args.bin.now c.judge_draft.result c.judge_draft.ensures.draft

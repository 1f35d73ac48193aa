use Rattle.mz_emit_theory.proofs.Gaps.{bodies-say-gaps, only-drafts-leave-gaps}
use Rattle.mz_emit_theory.proofs.file_laws.bodies_say_their_gaps.Goals as goal

pub returns-clause-gaps : goal.returns-clause-gaps
returns-clause-gaps c = bodies-say-gaps

pub returns-clause-only : goal.returns-clause-only
returns-clause-only c = only-drafts-leave-gaps

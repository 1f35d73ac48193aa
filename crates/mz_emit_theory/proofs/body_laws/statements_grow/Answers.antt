use Rattle.mz_emit_theory.proofs.Joining.{contexts-depend, same-at-first, same-with-sort, same-with-term, same-with-assertion}
use Rattle.mz_emit_theory.proofs.BodySameLists.{envs-same}
use Rattle.mz_emit_theory.proofs.body_laws.statements_grow.Goals as goal

pub returns : goal.returns
returns c = record { contexts = contexts-depend; at_first = same-at-first; sorts = same-with-sort; terms = same-with-term; assertions = same-with-assertion; lists = envs-same }

use Rattle.mz_machine_theory.proofs.OneSpelling.{one-assertion, one-term}
use Rattle.mz_machine_theory.proofs.unify_laws.one_spelling.Goals as goal

pub returns : goal.returns
returns c = record { assertions = one-assertion; terms = one-term }

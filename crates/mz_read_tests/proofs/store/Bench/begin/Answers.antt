use Rattle.mz_logic_theory.specs.Words.{signatures_of}
use Rattle.mz_store.proofs.Offered.{over-begun}
use Rattle.mz_read_tests.proofs.store.Bench.begin.Goals as goal

pub invariant_of-self : goal.invariant_of-self
invariant_of-self g c = over-begun c.begin.new.self c.begin.result c.begin.ensures.over c.begin.ensures.err (signatures_of (g.T.Terms.all_terms c.self.inside.terms))

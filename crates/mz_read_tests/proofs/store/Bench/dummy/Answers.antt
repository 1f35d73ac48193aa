use Rattle.mz_logic_theory.specs.Words.{signatures_of}
use Rattle.mz_store.proofs.Offered.{over-grown}
use Rattle.mz_read_tests.proofs.store.Bench.dummy.Goals as goal

pub invariant_of-self : goal.invariant_of-self
invariant_of-self g c = over-grown (signatures_of (g.T.Terms.all_terms c.self.inside.terms)) c.self.inside.store c.dummy.new.self c.dummy.result c.dummy.ensures.over c.dummy.ensures.err c.self.invariant

use Rattle.mz_sexpr.specs.Node.{place}
use Rattle.mz_sexpr.specs.Number.{node_at}
use Rattle.mz_mmu_theory.specs.Cursor.{nodes_from}
use Rattle.mz_mmu_forms.proofs.ConvNesting.{sym_waits, sym_fewer}
use Rattle.mz_mmu_forms.proofs.reader.Reader.sym.Goals as goal

pub returns-in-Some-clause-says : goal.returns-in-Some-clause-says
returns-in-Some-clause-says c = λ sc h.
    let all = c.args.self.now.nodes.now in
    (c.in-Some.ensures.0, sym_waits sc all (nodes_from all c.args.rest) (place (node_at all c.args.n)) h (node_at all c.in-Some.part) c.in-Some.ensures.1)

pub returns-in-Some-clause-less : goal.returns-in-Some-clause-less
returns-in-Some-clause-less c =
    let all = c.args.self.now.nodes.now in
    sym_fewer (nodes_from all c.args.rest) (node_at all c.in-Some.part) c.in-Some.ensures.1

use Rattle.std.proofs.Common.{refl}
use Rattle.mz_sexpr.specs.Node.{place}
use Rattle.mz_sexpr.specs.Number.{node_at}
use Rattle.mz_mmu_theory.specs.Cursor.{nodes_from}
use Rattle.mz_mmu_forms.proofs.ProofNesting.{let_waits, second_fewer, second_few}
use Rattle.mz_mmu_forms.proofs.reader.Reader.let_proof.Goals as goal

pub returns-clause-says : goal.returns-clause-says
returns-clause-says c = λ sc h.
    let all = c.args.self.now.nodes.now in
    let lets = c.args.lets.now in
    let x = node_at all c.in-Some.name in
    let y = node_at all c.in-Some.first in
    let ns = nodes_from all c.args.rest in (
      c.in-Some.ensures.1,
      second_few ns x y (node_at all c.in-Some.second) c.in-Some.ensures.3 lets c.requires.few,
      (refl, let_waits sc c.args.hyps.now all lets ns (place (node_at all c.args.n)) h x y c.in-Some.second c.in_ok-name.name.now c.in-Some.ensures.3 c.in-Some.ensures.2 c.requires.few c.in_ok-name.ensures.read),
    )

pub returns-clause-less : goal.returns-clause-less
returns-clause-less c =
    let node = node_at c.args.self.now.nodes.now in
    second_fewer (nodes_from c.args.self.now.nodes.now c.args.rest) (node c.in-Some.name) (node c.in-Some.first) (node c.in-Some.second) c.in-Some.ensures.3

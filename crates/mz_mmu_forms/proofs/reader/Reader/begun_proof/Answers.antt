use Rattle.std.proofs.Common.{◌∙◌, sym, refl, arith}
use Rattle.mz_sexpr.specs.Number.{node_at}
use Rattle.mz_mmu_theory.specs.FormOrder.{proof_asked}
use Rattle.mz_mmu_forms.specs.ScopeView.{scope}
use Rattle.mz_mmu_theory.specs.Stops.{Stops}
use Rattle.mz_mmu_theory.proofs.Offered.{opened, node_size_positive}
use Rattle.mz_mmu_forms.proofs.ProofNesting.{proof_list_says, proof_list_stops, proof_list_fewer, proof_list_few}
use Rattle.mz_mmu_forms.proofs.Stopping.{failed}
use Rattle.mz_mmu_forms.proofs.reader.Reader.begun_proof.Goals as goal

pub returns-then-is_atom-clause-says : goal.returns-then-is_atom-clause-says
returns-then-is_atom-clause-says c = (refl, c.in_ok-fact.ensures.read (scope c.args.sc.now))

pub returns-then-is_atom-clause-less : goal.returns-then-is_atom-clause-less
returns-then-is_atom-clause-less c = let one = node_size_positive (node_at c.args.self.now.nodes.now c.args.n) in omega (arith, one)

pub returns-in_err-fact-clause-stops : goal.returns-in_err-fact-clause-stops
returns-in_err-fact-clause-stops c =
    let sc = scope c.args.sc.now in
    failed c.from_residual.result c.in_err-fact.field-0.0 (λ stop. Stops stop (proof_asked sc c.args.hyps.now c.args.lets.now (node_at c.args.self.now.nodes.now c.args.n))) c.from_residual.ensures.1
    (c.in_err-fact.ensures.stops sc)

pub proof_by-requires-clause-few : goal.proof_by-requires-clause-few
proof_by-requires-clause-few c =
    let all = c.args.self.now.nodes.now in
    let m = node_at all c.args.n in
    let shape = opened all m c.in-Some.head c.next.result (sym c.is_atom.ensures ∙ c.if-is_atom.false) c.in-Some.ensures.1 c.next.ensures in
    proof_list_few all c.args.lets.now m (node_at all c.in-Some.head) c.next.result shape c.requires.few

pub returns-clause-says : goal.returns-clause-says
returns-clause-says c =
    let all = c.args.self.now.nodes.now in
    let m = node_at all c.args.n in
    let shape = opened all m c.in-Some.head c.next.result (sym c.is_atom.ensures ∙ c.if-is_atom.false) c.in-Some.ensures.1 c.next.ensures in
    proof_list_says (scope c.args.sc.now) c.args.hyps.now all c.args.lets.now m (node_at all c.in-Some.head) c.next.result c.proof_by.result shape c.proof_by.ensures.says

pub returns-clause-stops : goal.returns-clause-stops
returns-clause-stops c =
    let all = c.args.self.now.nodes.now in
    let m = node_at all c.args.n in
    let shape = opened all m c.in-Some.head c.next.result (sym c.is_atom.ensures ∙ c.if-is_atom.false) c.in-Some.ensures.1 c.next.ensures in
    proof_list_stops (scope c.args.sc.now) c.args.hyps.now all c.args.lets.now m (node_at all c.in-Some.head) c.next.result c.proof_by.result shape c.proof_by.ensures.stops

pub returns-clause-less : goal.returns-clause-less
returns-clause-less c =
    let all = c.args.self.now.nodes.now in
    let m = node_at all c.args.n in
    let shape = opened all m c.in-Some.head c.next.result (sym c.is_atom.ensures ∙ c.if-is_atom.false) c.in-Some.ensures.1 c.next.ensures in
    proof_list_fewer (scope c.args.sc.now) c.args.hyps.now all c.args.lets.now m (node_at all c.in-Some.head) c.next.result c.proof_by.result shape c.proof_by.ensures.less

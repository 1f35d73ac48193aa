use Rattle.std.proofs.Common.{ap, sym, subst, []}
use Rattle.mz_base.specs.Checks.{◌>>◌}
use Rattle.mz_sexpr.specs.Node.{place}
use Rattle.mz_sexpr.specs.Number.{node_at, nodes_after}
use Rattle.mz_mmu_theory.specs.Cursor.{nodes_from}
use Rattle.mz_mmu_theory.specs.Proofs.{IsProofBy}
use Rattle.mz_mmu_theory.specs.declared.keyword.Keyword.TheVariants.{Other as no_word}
use Rattle.mz_mmu_theory.specs.FormOrder.{known_asked, expr_list_asked, proofs_asked, proof_asked_by}
use Rattle.mz_mmu_forms.specs.ProofSteps.{IsNextProof, proof_turns}
use Rattle.mz_mmu_forms.specs.ScopeView.{scope}
use Rattle.mz_mmu_theory.specs.Stops.{Stops}
use Rattle.mz_mmu_theory.proofs.Offered.{stepped, stands_there, known_holds}
use Rattle.mz_mmu_forms.proofs.ProofNesting.{cited_so_far, next_proof_says, next_proof_fewer, fewer_behind, few_behind}
use Rattle.mz_mmu_forms.proofs.Stopping.{failed, stops_before, stops_after}
use Rattle.mz_mmu_forms.proofs.reader.Reader.citation.Goals as goal

pub returns-in_err-exprs-clause-stops : goal.returns-in_err-exprs-clause-stops
returns-in_err-exprs-clause-stops c = λ hyps lets.
    let all = c.args.self.now.nodes.now in
    let sc = scope c.args.sc.now in
    let a = place (node_at all c.args.n) in
    let x = node_at all c.args.head in
    let y = node_at all c.in-Some.operands in
    let ns = nodes_after all c.in-Some.operands in
    let s = c.in_err-exprs.field-0.0 in
    failed c.from_residual-in_err-exprs.result s (λ stop. Stops stop (proof_asked_by sc hyps lets no_word a x (nodes_from all c.args.rest))) c.from_residual-in_err-exprs.ensures.1
    (subst (λ l. Stops s (proof_asked_by sc hyps lets no_word a x l)) (sym (ap (nodes_from all) c.in-Some.is))
    (stops_after s (known_asked sc.names.assertions x) (expr_list_asked sc y >> proofs_asked sc hyps lets ns) (known_holds sc.names.assertions x c.in_ok-assertion.assertion c.in_ok-assertion.ensures.read)
    (stops_before s (expr_list_asked sc y) (proofs_asked sc hyps lets ns) c.in_err-exprs.ensures.stops)))

pub returns-clause-says : goal.returns-clause-says
returns-clause-says c = λ hyps lets few.
    let all = c.args.self.now.nodes.now in
    let sc = scope c.args.sc.now in
    let h = node_at all c.args.head in
    let y = node_at all c.in-Some.operands in
    let ns = nodes_from all c.args.rest in
    let at = place (node_at all c.args.n) in
    let left = c.next-left.result in
    let T = c.in_ok-assertion.assertion in
    let es = c.in_ok-exprs.exprs in
    let step = stepped all c.args.rest c.in-Some.operands left c.in-Some.is c.next-left.ensures in
    next_proof_says sc hyps all lets (IsProofBy sc hyps lets no_word h ns) (proof_asked_by sc hyps lets no_word at h ns) T es [] left c.next_proof.result
    (cited_so_far sc hyps all lets ns at h y T es left step c.in_ok-assertion.ensures.read c.in_ok-exprs.ensures.read)
    (stands_there all left (nodes_after all c.in-Some.operands) c.next-left.ensures)
    (few_behind ns (nodes_from all left) y step lets few)
    (subst (λ ps. IsNextProof all T es ps left c.next_proof.result) c.new-proofs.ensures.items c.next_proof.ensures)

pub returns-clause-less : goal.returns-clause-less
returns-clause-less c =
    let all = c.args.self.now.nodes.now in
    let left = c.next-left.result in
    fewer_behind (nodes_from all c.args.rest) (nodes_from all left) (node_at all c.in-Some.operands) (stepped all c.args.rest c.in-Some.operands left c.in-Some.is c.next-left.ensures)
    (proof_turns all c.next_proof.result) (next_proof_fewer all c.in_ok-assertion.assertion c.in_ok-exprs.exprs c.new-proofs.result.items left c.next_proof.result c.next_proof.ensures)

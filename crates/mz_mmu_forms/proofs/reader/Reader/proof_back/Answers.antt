use Rattle.std.proofs.Common.{ap, subst, arith}
use Rattle.mz_logic_theory.specs.View.{tree}
use Rattle.mz_mmu_theory.specs.Proof.{by_conv}
use Rattle.mz_mmu_theory.specs.ProofView.{proof_view}
use Rattle.mz_mmu_theory.specs.Proofs.{IsProof}
use Rattle.mz_mmu_theory.specs.FormOrder.{proof_asked}
use Rattle.mz_mmu_forms.specs.ProofSteps.{CanGoOn, ProofWaits, size_behind}
use Rattle.mz_mmu_forms.proofs.ProofNesting.{conv_done, let_done, scope_done, cite_done, next_proof_fewer}
use Rattle.mz_mmu_forms.proofs.reader.Reader.proof_back.Goals as goal

pub push-requires-clause-name : goal.push-requires-clause-name
push-requires-clause-name c = (subst (CanGoOn c.args.self.now.nodes.now c.args.lets.now) c.in-Let.is c.requires).0

pub push-requires-clause-new : goal.push-requires-clause-new
push-requires-clause-new c = (subst (CanGoOn c.args.self.now.nodes.now c.args.lets.now) c.in-Let.is c.requires).1

pub push-requires-clause-few : goal.push-requires-clause-few
push-requires-clause-few c = (subst (CanGoOn c.args.self.now.nodes.now c.args.lets.now) c.in-Let.is c.requires).2

pub next_proof-requires : goal.next_proof-requires
next_proof-requires c = subst (CanGoOn c.args.self.now.nodes.now c.args.lets.now) c.in-Cite.is c.requires

pub returns-in_ok-part-in-Conv-clause-says : goal.returns-in_ok-part-in-Conv-clause-says
returns-in_ok-part-in-Conv-clause-says c = λ sc hyps around m inner waits read.
    let all = c.args.self.now.nodes.now in
    let w = subst (ProofWaits sc hyps all (IsProof sc hyps around m) (proof_asked sc hyps around m) around inner c.args.lets.now) c.in-Conv.is waits in
    conv_done sc hyps all around (IsProof sc hyps around m) (proof_asked sc hyps around m) inner c.args.lets.now (by_conv (tree c.in-Conv.expr) c.in-Conv.conv) (proof_view c.args.proof) c.in_ok-part-in-Conv.part c.in_ok-part-in-Conv.ensures w read

pub returns-in_ok-push-in-Let-clause-says : goal.returns-in_ok-push-in-Let-clause-says
returns-in_ok-push-in-Let-clause-says c = λ sc hyps around m inner waits read.
    let all = c.args.self.now.nodes.now in
    let w = subst (ProofWaits sc hyps all (IsProof sc hyps around m) (proof_asked sc hyps around m) around inner c.args.lets.now) c.in-Let.is waits in
    let_done sc hyps all around (IsProof sc hyps around m) (proof_asked sc hyps around m) inner c.args.lets.now c.push.new.self c.in-Let.name.now c.in-Let.second (proof_view c.args.proof) c.in_ok-first-in-Let.first c.in_ok-first-in-Let.ensures
    c.in_ok-push-in-Let.ensures w read

pub returns-in_ok-second-in-Scope-clause-says : goal.returns-in_ok-second-in-Scope-clause-says
returns-in_ok-second-in-Scope-clause-says c = λ sc hyps around m inner waits read.
    let all = c.args.self.now.nodes.now in
    let w = subst (ProofWaits sc hyps all (IsProof sc hyps around m) (proof_asked sc hyps around m) around inner c.args.lets.now) c.in-Scope.is waits in
    scope_done sc hyps all around (IsProof sc hyps around m) (proof_asked sc hyps around m) inner c.args.lets.now c.pop.new.self c.in-Scope.first (proof_view c.args.proof) c.in_ok-second-in-Scope.second c.in_ok-second-in-Scope.ensures
    c.pop.ensures w read

pub returns-in_ok-push_tightly-in-Cite-clause-says : goal.returns-in_ok-push_tightly-in-Cite-clause-says
returns-in_ok-push_tightly-in-Cite-clause-says c = λ sc hyps around m inner waits read.
    let all = c.args.self.now.nodes.now in
    let w = subst (ProofWaits sc hyps all (IsProof sc hyps around m) (proof_asked sc hyps around m) around inner c.args.lets.now) c.in-Cite.is waits in
    cite_done sc hyps all around (IsProof sc hyps around m) (proof_asked sc hyps around m) inner c.args.lets.now c.in-Cite.assertion c.in-Cite.exprs c.in-Cite.proofs.items c.push_tightly.new.items.items c.in-Cite.left c.args.proof
    c.next_proof.result c.in_ok-push_tightly-in-Cite.ensures.ok c.next_proof.ensures w read

pub returns-in_ok-push-in-Let-clause-less : goal.returns-in_ok-push-in-Let-clause-less
returns-in_ok-push-in-Let-clause-less c =
    let all = c.args.self.now.nodes.now in
    let behind = ap (size_behind all) c.in-Let.is in
    omega (arith, behind)

pub returns-in_ok-push_tightly-in-Cite-clause-less : goal.returns-in_ok-push_tightly-in-Cite-clause-less
returns-in_ok-push_tightly-in-Cite-clause-less c =
    let all = c.args.self.now.nodes.now in
    let behind = ap (size_behind all) c.in-Cite.is in
    let less = next_proof_fewer all c.in-Cite.assertion c.in-Cite.exprs c.push_tightly.new.items.items c.in-Cite.left c.next_proof.result c.next_proof.ensures in
    omega (arith, behind, less)

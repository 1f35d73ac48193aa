use Rattle.std.proofs.Common.{◌∙◌, ap, sym, subst, refl, arith}
use Rattle.std.proofs.lemmas.List.{append-nil, nil_from_length}
use Rattle.mz_sexpr.specs.Number.{node_at}
use Rattle.mz_mmu_theory.specs.Cursor.{node_size}
use Rattle.mz_mmu_theory.specs.FormOrder.{proof_asked}
use Rattle.mz_mmu_forms.specs.ProofSteps.{CanGoOn, SaysOfProof, size_behind, proof_turns}
use Rattle.mz_mmu_forms.specs.ScopeView.{scope}
use Rattle.mz_mmu_theory.specs.Stops.{Stops}
use Rattle.mz_mmu_forms.proofs.Enclosing.{Around, opened_fewer, closed_fewer, goes_in, goes_back, last_waits, outermost, at_top}
use Rattle.mz_mmu_forms.proofs.ProofNesting.{Form, ProofWaitsAt, ProofSaysAt, waits_stops, can_go_on, goes_on_behind}
use Rattle.mz_mmu_forms.proofs.Stopping.{failed}
use Rattle.mz_mmu_forms.proofs.reader.Reader.proof.Goals as goal

pub reading-init : goal.reading-init
reading-init c =
    let all = c.args.self.now.nodes.now in
    let top : Form = record { here = node_at all c.args.n; lets = c.args.lets.now } in
    (top, subst (λ os. Around (ProofWaitsAt (scope c.args.sc.now) c.args.hyps.now all) top os top) (sym c.new-outers.ensures.items) refl, c.in_ok-step.ensures.says)

pub begun_proof-requires-in-Inner-clause-within : goal.begun_proof-requires-in-Inner-clause-within
begun_proof-requires-in-Inner-clause-within c =
    let all = c.args.self.now.nodes.now in
    let reading = c.reading.invariant in
    (subst (SaysOfProof (scope c.args.sc.now) c.args.hyps.now all reading.0.lets reading.0.here c.reading.lets) c.in-Inner.is reading.2).0

pub begun_proof-requires-in-Inner-clause-few : goal.begun_proof-requires-in-Inner-clause-few
begun_proof-requires-in-Inner-clause-few c =
    let all = c.args.self.now.nodes.now in
    let reading = c.reading.invariant in
    (subst (SaysOfProof (scope c.args.sc.now) c.args.hyps.now all reading.0.lets reading.0.here c.reading.lets) c.in-Inner.is reading.2).1

pub returns-in_err-step-in-Inner-clause-stops : goal.returns-in_err-step-in-Inner-clause-stops
returns-in_err-step-in-Inner-clause-stops c =
    let all = c.args.self.now.nodes.now in
    let sc = scope c.args.sc.now in
    let hyps = c.args.hyps.now in
    let top : Form = record { here = node_at all c.args.n; lets = c.args.lets.now } in
    let s = c.in_err-step-in-Inner.field-0.0 in
    let inner : Form = record { here = node_at all c.in-Inner.inner; lets = c.reading.lets } in
    failed c.from_residual-in_err-step-in-Inner.result s (λ stop. Stops stop (proof_asked sc hyps top.lets top.here)) c.from_residual-in_err-step-in-Inner.ensures.1
    (outermost (ProofWaitsAt sc hyps all) (ProofSaysAt sc hyps all) top c.reading.outers.items (c.reading.lets, c.reading.step) c.reading.invariant (λ m. Stops s (proof_asked sc hyps m.lets m.here))
    (λ m i o w h. waits_stops sc hyps all m i o s w h)
    (λ m says. waits_stops sc hyps all m inner c.in-Inner.outer s (subst (SaysOfProof sc hyps all m.lets m.here c.reading.lets) c.in-Inner.is says).2 c.in_err-step-in-Inner.ensures.stops))

pub reading-preserved-in-Inner : goal.reading-preserved-in-Inner
reading-preserved-in-Inner c =
    let all = c.args.self.now.nodes.now in
    let sc = scope c.args.sc.now in
    let hyps = c.args.hyps.now in
    let top : Form = record { here = node_at all c.args.n; lets = c.args.lets.now } in
    goes_in (ProofWaitsAt sc hyps all) (ProofSaysAt sc hyps all) top c.reading.outers.items (c.reading.lets, c.reading.step) c.reading.invariant c.push.new.self.items c.in-Inner.outer
    (record { here = node_at all c.in-Inner.inner; lets = c.reading.lets }) (c.reading.lets, c.in_ok-step-in-Inner.step) c.in_ok-push-in-Inner.ensures.items
    (λ m says. (subst (SaysOfProof sc hyps all m.lets m.here c.reading.lets) c.in-Inner.is says).2) c.in_ok-step-in-Inner.ensures.says

pub reading-smaller-in-Inner : goal.reading-smaller-in-Inner
reading-smaller-in-Inner c =
    let all = c.args.self.now.nodes.now in
    opened_fewer (size_behind all) c.reading.outers.items c.push.new.self.items c.in-Inner.outer (node_size (node_at all c.in-Inner.inner)) (proof_turns all c.reading.step) (proof_turns all c.in_ok-step-in-Inner.step)
    c.in_ok-push-in-Inner.ensures.items (ap (proof_turns all) c.in-Inner.is) c.in_ok-step-in-Inner.ensures.less

pub proof_back-requires : goal.proof_back-requires
proof_back-requires c =
    let all = c.args.self.now.nodes.now in
    let sc = scope c.args.sc.now in
    let hyps = c.args.hyps.now in
    let top : Form = record { here = node_at all c.args.n; lets = c.args.lets.now } in
    last_waits (ProofWaitsAt sc hyps all) (ProofSaysAt sc hyps all) top c.reading.outers.items (c.reading.lets, c.reading.step) c.reading.invariant c.pop.new.self.items c.in-Some.outer
    (CanGoOn all c.reading.lets c.in-Some.outer) c.in-Some.ensures.items
    (λ m inner w says. can_go_on sc hyps all m inner c.in-Some.outer c.reading.lets (subst (SaysOfProof sc hyps all inner.lets inner.here c.reading.lets) c.in-Whole.is says).0 w)

pub reading-preserved : goal.reading-preserved
reading-preserved c =
    let all = c.args.self.now.nodes.now in
    let sc = scope c.args.sc.now in
    let hyps = c.args.hyps.now in
    let top : Form = record { here = node_at all c.args.n; lets = c.args.lets.now } in
    goes_back (ProofWaitsAt sc hyps all) (ProofSaysAt sc hyps all) top c.reading.outers.items (c.reading.lets, c.reading.step) c.reading.invariant c.pop.new.self.items c.in-Some.outer
    (c.proof_back.new.lets, c.in_ok-step-in-Some.step) c.in-Some.ensures.items
    (λ m inner w says. goes_on_behind sc hyps all m inner c.in-Some.outer c.reading.lets c.proof_back.new.lets c.reading.step c.in-Whole.proof c.in_ok-step-in-Some.step c.in-Whole.is
    (c.in_ok-step-in-Some.ensures.says sc hyps m.lets m.here inner.here) w says)

pub reading-smaller : goal.reading-smaller
reading-smaller c =
    let all = c.args.self.now.nodes.now in
    closed_fewer (size_behind all) c.reading.outers.items c.pop.new.self.items c.in-Some.outer (proof_turns all c.reading.step) (proof_turns all c.in_ok-step-in-Some.step)
    c.in-Some.ensures.items c.in_ok-step-in-Some.ensures.less

pub returns-in-None-clause-read : goal.returns-in-None-clause-read
returns-in-None-clause-read c =
    let all = c.args.self.now.nodes.now in
    let sc = scope c.args.sc.now in
    let hyps = c.args.hyps.now in
    let top : Form = record { here = node_at all c.args.n; lets = c.args.lets.now } in
    let rest = c.pop.new.self in
    let none = c.in-None.ensures.cases.1 in
    let empty = c.in-None.ensures.items ∙ append-nil rest.items ∙ nil_from_length rest.items (omega (arith, none, rest.ok.0)) in
    (subst (SaysOfProof sc hyps all top.lets top.here c.reading.lets) c.in-Whole.is
    (at_top (ProofWaitsAt sc hyps all) (ProofSaysAt sc hyps all) top c.reading.outers.items (c.reading.lets, c.reading.step) c.reading.invariant empty)).1

pub returns-in-None-clause-same : goal.returns-in-None-clause-same
returns-in-None-clause-same c =
    let all = c.args.self.now.nodes.now in
    let sc = scope c.args.sc.now in
    let hyps = c.args.hyps.now in
    let top : Form = record { here = node_at all c.args.n; lets = c.args.lets.now } in
    let rest = c.pop.new.self in
    let none = c.in-None.ensures.cases.1 in
    let empty = c.in-None.ensures.items ∙ append-nil rest.items ∙ nil_from_length rest.items (omega (arith, none, rest.ok.0)) in
    (subst (SaysOfProof sc hyps all top.lets top.here c.reading.lets) c.in-Whole.is
    (at_top (ProofWaitsAt sc hyps all) (ProofSaysAt sc hyps all) top c.reading.outers.items (c.reading.lets, c.reading.step) c.reading.invariant empty)).0

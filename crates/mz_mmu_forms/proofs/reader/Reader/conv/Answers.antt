use Rattle.std.proofs.Common.{◌∙◌, ap, sym, subst, refl, arith}
use Rattle.std.proofs.lemmas.List.{append-nil, nil_from_length}
use Rattle.mz_sexpr.specs.Number.{node_at}
use Rattle.mz_mmu_theory.specs.Cursor.{node_size, IsThere}
use Rattle.mz_mmu_theory.specs.FormOrder.{conv_asked}
use Rattle.mz_mmu_forms.specs.ConvSteps.{conv_turns, conv_left}
use Rattle.mz_mmu_forms.specs.ScopeView.{scope}
use Rattle.mz_mmu_theory.specs.Stops.{Stops}
use Rattle.mz_mmu_forms.proofs.ConvNesting.{WaitsAt, SaysAt, conv_behind}
use Rattle.mz_mmu_forms.proofs.Enclosing.{Around, opened_fewer, closed_fewer, goes_in, goes_back, last_waits, outermost, at_top}
use Rattle.mz_mmu_forms.proofs.Stopping.{failed}
use Rattle.mz_mmu_forms.proofs.reader.Reader.conv.Goals as goal

pub reading-init : goal.reading-init
reading-init c =
    let all = c.args.self.now.nodes.now in
    let top = node_at all c.args.n in
    (top, subst (λ os. Around (WaitsAt (scope c.args.sc.now) all) top os top) (sym c.new-outers.ensures.items) refl, c.in_ok-step.ensures.says)

pub begun_conv-requires-in-Inner : goal.begun_conv-requires-in-Inner
begun_conv-requires-in-Inner c =
    let all = c.args.self.now.nodes.now in
    let reading = c.reading.invariant in
    (subst (SaysAt (scope c.args.sc.now) all reading.0) c.in-Inner.is reading.2).0

pub returns-in_err-step-in-Inner-clause-stops : goal.returns-in_err-step-in-Inner-clause-stops
returns-in_err-step-in-Inner-clause-stops c =
    let all = c.args.self.now.nodes.now in
    let sc = scope c.args.sc.now in
    let top = node_at all c.args.n in
    let s = c.in_err-step-in-Inner.field-0.0 in
    failed c.from_residual-in_err-step-in-Inner.result s (λ stop. Stops stop (conv_asked sc top)) c.from_residual-in_err-step-in-Inner.ensures.1
    (outermost (WaitsAt sc all) (SaysAt sc all) top c.reading.outers.items c.reading.step c.reading.invariant (λ m. Stops s (conv_asked sc m)) (λ m inner o w h. w.stops s h)
    (λ m says. (subst (SaysAt sc all m) c.in-Inner.is says).1.stops s c.in_err-step-in-Inner.ensures.stops))

pub reading-preserved-in-Inner : goal.reading-preserved-in-Inner
reading-preserved-in-Inner c =
    let all = c.args.self.now.nodes.now in
    let sc = scope c.args.sc.now in
    goes_in (WaitsAt sc all) (SaysAt sc all) (node_at all c.args.n) c.reading.outers.items c.reading.step c.reading.invariant c.push.new.self.items c.in-Inner.outer (node_at all c.in-Inner.inner) c.in_ok-step-in-Inner.step
    c.in_ok-push-in-Inner.ensures.items (λ m says. (subst (SaysAt sc all m) c.in-Inner.is says).1) c.in_ok-step-in-Inner.ensures.says

pub reading-smaller-in-Inner : goal.reading-smaller-in-Inner
reading-smaller-in-Inner c =
    let all = c.args.self.now.nodes.now in
    opened_fewer (conv_behind all) c.reading.outers.items c.push.new.self.items c.in-Inner.outer (node_size (node_at all c.in-Inner.inner)) (conv_turns all c.reading.step) (conv_turns all c.in_ok-step-in-Inner.step)
    c.in_ok-push-in-Inner.ensures.items (ap (conv_turns all) c.in-Inner.is) c.in_ok-step-in-Inner.ensures.less

pub conv_back-requires : goal.conv_back-requires
conv_back-requires c =
    let all = c.args.self.now.nodes.now in
    let sc = scope c.args.sc.now in
    last_waits (WaitsAt sc all) (SaysAt sc all) (node_at all c.args.n) c.reading.outers.items c.reading.step c.reading.invariant c.pop.new.self.items c.in-Some.outer (IsThere all (conv_left c.in-Some.outer))
    c.in-Some.ensures.items (λ m inner w says. w.there)

pub reading-preserved : goal.reading-preserved
reading-preserved c =
    let all = c.args.self.now.nodes.now in
    let sc = scope c.args.sc.now in
    goes_back (WaitsAt sc all) (SaysAt sc all) (node_at all c.args.n) c.reading.outers.items c.reading.step c.reading.invariant c.pop.new.self.items c.in-Some.outer c.in_ok-step-in-Some.step
    c.in-Some.ensures.items (λ m inner w says. c.in_ok-step-in-Some.ensures.says sc m inner w (subst (SaysAt sc all inner) c.in-Whole.is says))

pub reading-smaller : goal.reading-smaller
reading-smaller c =
    let all = c.args.self.now.nodes.now in
    closed_fewer (conv_behind all) c.reading.outers.items c.pop.new.self.items c.in-Some.outer (conv_turns all c.reading.step) (conv_turns all c.in_ok-step-in-Some.step)
    c.in-Some.ensures.items c.in_ok-step-in-Some.ensures.less

pub returns-in-None-clause-read : goal.returns-in-None-clause-read
returns-in-None-clause-read c =
    let all = c.args.self.now.nodes.now in
    let sc = scope c.args.sc.now in
    let rest = c.pop.new.self in
    let none = c.in-None.ensures.cases.1 in
    let empty = c.in-None.ensures.items ∙ append-nil rest.items ∙ nil_from_length rest.items (omega (arith, none, rest.ok.0)) in
    subst (SaysAt sc all (node_at all c.args.n)) c.in-Whole.is (at_top (WaitsAt sc all) (SaysAt sc all) (node_at all c.args.n) c.reading.outers.items c.reading.step c.reading.invariant empty)

use Rattle.std.proofs.Common.{◌∙◌, sym, subst, refl, arith}
use Rattle.std.proofs.lemmas.List.{append-nil, nil_from_length}
use Rattle.mz_sexpr.specs.Number.{node_at}
use Rattle.mz_logic_theory.specs.View.{tree}
use Rattle.mz_mmu_theory.specs.FormOrder.{expr_asked}
use Rattle.mz_mmu_forms.specs.ScopeView.{scope}
use Rattle.mz_mmu_theory.specs.Stops.{Stops}
use Rattle.mz_mmu_forms.proofs.Nesting.{Nested, ended_read, ended_fewer, atom_read, atom_fewer, inner_read, inner_fewer, inner_stops, back_read, back_fewer, whole_read}
use Rattle.mz_mmu_forms.proofs.Stopping.{failed}
use Rattle.mz_mmu_forms.proofs.reader.Reader.expr.Goals as goal

pub reading-init : goal.reading-init
reading-init c =
    let all = c.args.self.now.nodes.now in
    let top = node_at all c.args.n in
    (top, subst (λ os. Nested (scope c.args.sc.now) all top os top) (sym c.new-outers.ensures.items) refl, c.in_ok-step.ensures.says)

pub reading-preserved-in-None : goal.reading-preserved-in-None
reading-preserved-in-None c =
    let all = c.args.self.now.nodes.now in
    ended_read (scope c.args.sc.now) all (node_at all c.args.n) c.reading.outers.items c.reading.step c.in-Operands.outer c.app.result c.app.ensures c.in-Operands.is c.in-None.is c.reading.invariant

pub returns-in_err-operand-in-Some-clause-stops : goal.returns-in_err-operand-in-Some-clause-stops
returns-in_err-operand-in-Some-clause-stops c =
    let all = c.args.self.now.nodes.now in
    let sc = scope c.args.sc.now in
    let top = node_at all c.args.n in
    let s = c.in_err-operand-in-Some.field-0.0 in
    failed c.from_residual-in_err-operand-in-Some.result s (λ stop. Stops stop (expr_asked sc top)) c.from_residual-in_err-operand-in-Some.ensures.1
    (inner_stops sc all top c.reading.outers.items c.reading.step c.in-Operands.outer c.in-Some.inner s c.in-Operands.is c.in-Some.is c.in_err-operand-in-Some.ensures.stops c.reading.invariant)

pub reading-preserved-then-is_atom : goal.reading-preserved-then-is_atom
reading-preserved-then-is_atom c =
    let all = c.args.self.now.nodes.now in
    atom_read (scope c.args.sc.now) all (node_at all c.args.n) c.reading.outers.items c.reading.step c.in-Operands.outer c.in_ok-outer-in-Some.outer
    c.in-Some.inner c.next-left.result (tree c.in_ok-operand-in-Some.operand) c.in_ok-outer-in-Some.ensures c.in-Operands.is c.in-Some.is c.next-left.ensures
    c.in_ok-operand-in-Some.ensures.read c.reading.invariant

pub returns-in_err-step-in-Some-clause-stops : goal.returns-in_err-step-in-Some-clause-stops
returns-in_err-step-in-Some-clause-stops c =
    let all = c.args.self.now.nodes.now in
    let sc = scope c.args.sc.now in
    let top = node_at all c.args.n in
    let s = c.in_err-step-in-Some.field-0.0 in
    failed c.from_residual-in_err-step-in-Some.result s (λ stop. Stops stop (expr_asked sc top)) c.from_residual-in_err-step-in-Some.ensures.1
    (inner_stops sc all top c.reading.outers.items c.reading.step c.in-Operands.outer c.in-Some.inner s c.in-Operands.is c.in-Some.is c.in_err-step-in-Some.ensures.stops c.reading.invariant)

pub reading-smaller-else-is_atom : goal.reading-smaller-else-is_atom
reading-smaller-else-is_atom c =
    let all = c.args.self.now.nodes.now in
    inner_fewer (scope c.args.sc.now) all (node_at all c.args.n) c.reading.outers.items c.reading.step c.push.new.self.items c.in_ok-step-in-Some.step
    c.in-Operands.outer c.in-Some.inner c.next-left.result c.in_ok-push-in-Some.ensures.items c.in-Operands.is c.in-Some.is c.next-left.ensures c.in_ok-step-in-Some.ensures.less

pub reading-preserved-else-is_atom : goal.reading-preserved-else-is_atom
reading-preserved-else-is_atom c =
    let all = c.args.self.now.nodes.now in
    inner_read (scope c.args.sc.now) all (node_at all c.args.n) c.reading.outers.items c.reading.step c.push.new.self.items c.in_ok-step-in-Some.step
    c.in-Operands.outer c.in-Some.inner c.next-left.result c.in_ok-push-in-Some.ensures.items c.in-Operands.is c.in-Some.is c.next-left.ensures c.in_ok-step-in-Some.ensures.says c.reading.invariant

pub reading-smaller : goal.reading-smaller
reading-smaller c =
    let all = c.args.self.now.nodes.now in
    back_fewer (scope c.args.sc.now) all (node_at all c.args.n) c.pop.new.self.items c.reading.step c.reading.outers.items
    c.in-Some-pop.outer c.in_ok-outer-in-Some-pop.outer c.in-Whole.expr c.in-Some-pop.ensures.items c.in-Whole.is c.in_ok-outer-in-Some-pop.ensures

pub reading-preserved : goal.reading-preserved
reading-preserved c =
    let all = c.args.self.now.nodes.now in
    back_read (scope c.args.sc.now) all (node_at all c.args.n) c.pop.new.self.items c.reading.step c.reading.outers.items
    c.in-Some-pop.outer c.in_ok-outer-in-Some-pop.outer c.in-Whole.expr c.in-Some-pop.ensures.items c.in-Whole.is c.in_ok-outer-in-Some-pop.ensures c.reading.invariant

pub reading-smaller-in-None : goal.reading-smaller-in-None
reading-smaller-in-None c =
    ended_fewer (scope c.args.sc.now) c.args.self.now.nodes.now (node_at c.args.self.now.nodes.now c.args.n) c.reading.outers.items c.reading.step c.in-Operands.outer c.app.result c.in-Operands.is

pub reading-smaller-then-is_atom : goal.reading-smaller-then-is_atom
reading-smaller-then-is_atom c =
    let all = c.args.self.now.nodes.now in
    atom_fewer (scope c.args.sc.now) all (node_at all c.args.n) c.reading.outers.items c.reading.step c.in-Operands.outer c.in_ok-outer-in-Some.outer
    c.in-Some.inner c.next-left.result (tree c.in_ok-operand-in-Some.operand) c.in_ok-outer-in-Some.ensures c.in-Operands.is c.in-Some.is c.next-left.ensures

pub returns-in-None-pop-clause-read : goal.returns-in-None-pop-clause-read
returns-in-None-pop-clause-read c =
    let all = c.args.self.now.nodes.now in
    let rest = c.pop.new.self in
    let none = c.in-None-pop.ensures.cases.1 in
    let empty = c.in-None-pop.ensures.items ∙ append-nil rest.items ∙ nil_from_length rest.items (omega (arith, none, rest.ok.0)) in
    whole_read (scope c.args.sc.now) all (node_at all c.args.n) c.reading.outers.items c.reading.step c.in-Whole.expr empty c.in-Whole.is c.reading.invariant

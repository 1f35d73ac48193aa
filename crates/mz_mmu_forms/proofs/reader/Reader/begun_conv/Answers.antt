use Rattle.std.proofs.Common.{◌∙◌, sym, arith}
use Rattle.mz_logic_theory.specs.View.{tree}
use Rattle.mz_sexpr.specs.Number.{node_at}
use Rattle.mz_mmu_theory.specs.FormOrder.{conv_asked}
use Rattle.mz_mmu_forms.specs.ScopeView.{scope}
use Rattle.mz_mmu_theory.specs.Stops.{Stops}
use Rattle.mz_mmu_theory.proofs.Offered.{opened, node_size_positive}
use Rattle.mz_mmu_forms.proofs.ConvNesting.{atom_conv, atom_conv_stops, list_says, list_stops, list_fewer}
use Rattle.mz_mmu_forms.proofs.Stopping.{failed}
use Rattle.mz_mmu_forms.proofs.reader.Reader.begun_conv.Goals as goal

pub returns-then-is_atom-clause-says : goal.returns-then-is_atom-clause-says
returns-then-is_atom-clause-says c =
    let all = c.args.self.now.nodes.now in
    atom_conv (scope c.args.sc.now) (node_at all c.args.n) (tree c.in_ok-expr.expr) (sym c.is_atom.ensures ∙ c.if-is_atom.true) c.in_ok-expr.ensures.read

pub returns-then-is_atom-clause-less : goal.returns-then-is_atom-clause-less
returns-then-is_atom-clause-less c = let one = node_size_positive (node_at c.args.self.now.nodes.now c.args.n) in omega (arith, one)

pub returns-in_err-expr-clause-stops : goal.returns-in_err-expr-clause-stops
returns-in_err-expr-clause-stops c =
    let sc = scope c.args.sc.now in
    let m = node_at c.args.self.now.nodes.now c.args.n in
    let s = c.in_err-expr.field-0.0 in
    failed c.from_residual.result s (λ stop. Stops stop (conv_asked sc m)) c.from_residual.ensures.1
    (atom_conv_stops sc m s (sym c.is_atom.ensures ∙ c.if-is_atom.true) c.in_err-expr.ensures.stops)

pub returns-clause-says : goal.returns-clause-says
returns-clause-says c =
    let all = c.args.self.now.nodes.now in
    let m = node_at all c.args.n in
    let shape = opened all m c.in-Some.head c.next.result (sym c.is_atom.ensures ∙ c.if-is_atom.false) c.in-Some.ensures.1 c.next.ensures in
    list_says (scope c.args.sc.now) all m (node_at all c.in-Some.head) c.next.result c.conv_by.result shape c.conv_by.ensures.says

pub returns-clause-stops : goal.returns-clause-stops
returns-clause-stops c =
    let all = c.args.self.now.nodes.now in
    let m = node_at all c.args.n in
    let shape = opened all m c.in-Some.head c.next.result (sym c.is_atom.ensures ∙ c.if-is_atom.false) c.in-Some.ensures.1 c.next.ensures in
    list_stops (scope c.args.sc.now) all m (node_at all c.in-Some.head) c.next.result c.conv_by.result shape c.conv_by.ensures.stops

pub returns-clause-less : goal.returns-clause-less
returns-clause-less c =
    let all = c.args.self.now.nodes.now in
    let m = node_at all c.args.n in
    let shape = opened all m c.in-Some.head c.next.result (sym c.is_atom.ensures ∙ c.if-is_atom.false) c.in-Some.ensures.1 c.next.ensures in
    list_fewer all m (node_at all c.in-Some.head) c.next.result c.conv_by.result shape c.conv_by.ensures.less

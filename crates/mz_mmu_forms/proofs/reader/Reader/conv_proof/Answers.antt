use Rattle.std.proofs.Common.{sym, subst, refl}
use Rattle.mz_base.specs.Checks.{◌>>◌}
use Rattle.mz_logic_theory.specs.View.{tree}
use Rattle.mz_sexpr.specs.Node.{place}
use Rattle.mz_sexpr.specs.Number.{node_at}
use Rattle.mz_mmu_theory.specs.Cursor.{nodes_from}
use Rattle.mz_mmu_theory.specs.FormOrder.{expr_asked, conv_asked, proof_asked, proof_asked_by}
use Rattle.mz_mmu_theory.specs.Proofs.{IsConv}
use Rattle.mz_mmu_theory.specs.declared.keyword.Keyword.TheVariants.{Conv as conv_word}
use Rattle.mz_mmu_forms.specs.ScopeView.{scope}
use Rattle.mz_mmu_theory.specs.Stops.{Stops}
use Rattle.mz_mmu_theory.proofs.Offered.{expr_holds}
use Rattle.mz_mmu_forms.proofs.ProofNesting.{conv_waits, third_fewer, third_few}
use Rattle.mz_mmu_forms.proofs.Stopping.{failed, stops_before, stops_after}
use Rattle.mz_mmu_forms.proofs.reader.Reader.conv_proof.Goals as goal

pub returns-in_err-expr-clause-stops : goal.returns-in_err-expr-clause-stops
returns-in_err-expr-clause-stops c = λ hyps lets h.
    let all = c.args.self.now.nodes.now in
    let sc = scope c.args.sc.now in
    let a = place (node_at all c.args.n) in
    let x = node_at all c.in-Some.expr in
    let y = node_at all c.in-Some.conv in
    let z = node_at all c.in-Some.part in
    let s = c.in_err-expr.field-0.0 in
    failed c.from_residual.result s (λ stop. Stops stop (proof_asked_by sc hyps lets conv_word a h (nodes_from all c.args.rest))) c.from_residual.ensures.1
    (subst (λ l. Stops s (proof_asked_by sc hyps lets conv_word a h l)) (sym c.in-Some.ensures.3)
    (stops_before s (expr_asked sc x) (conv_asked sc y >> proof_asked sc hyps lets z) c.in_err-expr.ensures.stops))

pub returns-in_err-read-clause-stops : goal.returns-in_err-read-clause-stops
returns-in_err-read-clause-stops c = λ hyps lets h.
    let all = c.args.self.now.nodes.now in
    let sc = scope c.args.sc.now in
    let a = place (node_at all c.args.n) in
    let x = node_at all c.in-Some.expr in
    let y = node_at all c.in-Some.conv in
    let z = node_at all c.in-Some.part in
    let s = c.in_err-read.field-0.0 in
    failed c.from_residual-in_err-read.result s (λ stop. Stops stop (proof_asked_by sc hyps lets conv_word a h (nodes_from all c.args.rest))) c.from_residual-in_err-read.ensures.1
    (subst (λ l. Stops s (proof_asked_by sc hyps lets conv_word a h l)) (sym c.in-Some.ensures.3)
    (stops_after s (expr_asked sc x) (conv_asked sc y >> proof_asked sc hyps lets z) (expr_holds sc x (tree c.in_ok-expr.expr) c.in_ok-expr.ensures.read)
    (stops_before s (conv_asked sc y) (proof_asked sc hyps lets z) c.in_err-read.ensures.stops)))

pub returns-clause-says : goal.returns-clause-says
returns-clause-says c = λ hyps lets h few.
    let all = c.args.self.now.nodes.now in
    let sc = scope c.args.sc.now in
    let x = node_at all c.in-Some.expr in
    let y = node_at all c.in-Some.conv in
    let z = node_at all c.in-Some.part in
    let ns = nodes_from all c.args.rest in (
      c.in-Some.ensures.2,
      third_few ns x y z c.in-Some.ensures.3 lets few,
      (
        refl,
        conv_waits sc hyps all lets ns (place (node_at all c.args.n)) h x y z (tree c.in_ok-expr.expr) c.in_ok-boxed.boxed c.in-Some.ensures.3 c.in_ok-expr.ensures.read
            (subst (IsConv sc y) (sym c.in_ok-boxed.ensures) c.in_ok-read.ensures.read),
      ),
    )

pub returns-clause-less : goal.returns-clause-less
returns-clause-less c =
    let node = node_at c.args.self.now.nodes.now in
    third_fewer (nodes_from c.args.self.now.nodes.now c.args.rest) (node c.in-Some.expr) (node c.in-Some.conv) (node c.in-Some.part) c.in-Some.ensures.3

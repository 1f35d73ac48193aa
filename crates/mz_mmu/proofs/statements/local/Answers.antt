use Rattle.std.proofs.Common.{Bool, sym, subst, IfOk}
use Rattle.std.specs.Prelude.{IfErr}
use Rattle.mz_sexpr.specs.Node.{place}
use Rattle.mz_sexpr.specs.Number.{node_at}
use Rattle.mz_mmu_theory.specs.Cursor.{nodes_from}
use Rattle.mz_mmu_forms.specs.ScopeView.{names}
use Rattle.mz_mmu_theory.specs.StatementView.{stated}
use Rattle.mz_mmu_theory.specs.Statements.{IsLocal}
use Rattle.mz_mmu_theory.specs.StatementOrder.{local_asked}
use Rattle.mz_mmu_theory.specs.Stops.{Stops}
use Rattle.mz_mmu.proofs.statements.local.Goals as goal

pub returns-in-Def-clause-read : goal.returns-in-Def-clause-read
returns-in-Def-clause-read c =
    let rest = nodes_from c.args.reader.now.nodes.now c.args.rest in
    subst (λ k. IfOk c.def.result (λ d. (mark : Bool) → IsLocal (names c.args.names.now) k rest (stated mark d))) (sym c.in-Def.is) c.def.ensures.read

pub returns-in-Def-clause-stops : goal.returns-in-Def-clause-stops
returns-in-Def-clause-stops c =
    let rest = nodes_from c.args.reader.now.nodes.now c.args.rest in
    let a = place (node_at c.args.reader.now.nodes.now c.args.n) in
    subst (λ k. IfErr c.def.result (λ stop. Stops stop (local_asked k a (names c.args.names.now) rest))) (sym c.in-Def.is) c.def.ensures.stops

pub returns-in-Theorem-clause-read : goal.returns-in-Theorem-clause-read
returns-in-Theorem-clause-read c =
    let rest = nodes_from c.args.reader.now.nodes.now c.args.rest in
    subst (λ k. IfOk c.theorem.result (λ d. (mark : Bool) → IsLocal (names c.args.names.now) k rest (stated mark d))) (sym c.in-Theorem.is) c.theorem.ensures.read

pub returns-in-Theorem-clause-stops : goal.returns-in-Theorem-clause-stops
returns-in-Theorem-clause-stops c =
    let rest = nodes_from c.args.reader.now.nodes.now c.args.rest in
    let a = place (node_at c.args.reader.now.nodes.now c.args.n) in
    subst (λ k. IfErr c.theorem.result (λ stop. Stops stop (local_asked k a (names c.args.names.now) rest))) (sym c.in-Theorem.is) c.theorem.ensures.stops

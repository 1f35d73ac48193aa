use Rattle.std.proofs.Common.{◌≡◌, ◌-◌, ◌∙◌, ap, sym, arith}
use Rattle.mz_sexpr.specs.Number.{nodes_after}
use Rattle.mz_mmu_theory.specs.Cursor.{nodes_from}
use Rattle.mz_mmu_theory.specs.Parts.{after}
use Rattle.mz_mmu_theory.proofs.Offered.{stands_there}
use Rattle.mz_type_rules.proofs.Passing.{passed_one, passed_all}
use Rattle.mz_type_rules.proofs.cursor.Cursor.after.Goals.{else-passing-test, then-passing-test+in_default}
use Rattle.mz_type_rules.proofs.cursor.Cursor.after.Goals as goal

pub passing-preserved : goal.passing-preserved
passing-preserved c =
    let all = c.self.inside.nodes.now in
    record {
      there = stands_there all c.next-first.result (nodes_after all c.in-Some.n) c.next-first.ensures;
      passed = passed_one all c.passing.first c.in-Some.n c.next-first.result c.passing.left (c.passing.left - 1) c.in-Some.is c.next-first.ensures (omega (arith, c.passing-test.true))
          ∙ c.passing.invariant.passed;
    }

pub returns : goal.returns
returns c =
    let all = c.self.inside.nodes.now in
    (elim c.passing-test.branch [
      | else-passing-test w ↦ (let none : c.passing.left ≡ 0 = omega (arith, w.passing-test.false) in ap (λ k. after k (nodes_from all c.passing.first)) (sym none))
      | then-passing-test+in_default w ↦ passed_all all c.passing.first c.passing.left w.in_default.is
    ])
    ∙ c.passing.invariant.passed

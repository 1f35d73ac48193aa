use Rattle.std.proofs.Common.{◌∙◌, sym, ap, arith}
use Rattle.mz_mmu_theory.specs.ProofCode.{proof_steps}
use Rattle.mz_mmu_theory.specs.ProofView.{proof_view}
use Rattle.mz_mmu_theory.specs.Sides.{proved}
use Rattle.mz_type_rules.specs.BehindLets.{visible_behind, proved_behind, steps_of}
use Rattle.mz_type_rules.proofs.BehindLets.{behind_push, steps_push}
use Rattle.mz_type_rules.proofs.ProofSteps.{let_is}
use Rattle.mz_type_rules.proofs.resolving.step.Goals as goal

pub returns-in_ok-push-in-Let-clause-same : goal.returns-in_ok-push-in-Let-clause-same
returns-in_ok-push-in-Let-clause-same c = λ env hyps lets many.
    let fs = c.args.firsts.now.items in
    let q = proof_view c.get-in-Let.result.now in
    ap (λ xs. proved_behind env hyps lets xs q) c.in_ok-push-in-Let.ensures.items
    ∙ ap (λ ls. proved env hyps ls q) (behind_push env hyps lets fs (record { proof = c.get.result }))
    ∙ ap (proved env hyps (visible_behind env hyps lets fs)) (sym (let_is c.args.left.now c.in-Let.first c.in-Let.second _ _ c.in-Let.is c.get.ensures c.get-in-Let.ensures))

pub returns-in_ok-push-in-Let-clause-less : goal.returns-in_ok-push-in-Let-clause-less
returns-in_ok-push-in-Let-clause-less c =
    let pushed = ap steps_of c.in_ok-push-in-Let.ensures.items ∙ steps_push c.args.firsts.now.items (record { proof = c.get.result }) in
    let sizes = ap proof_steps (let_is c.args.left.now c.in-Let.first c.in-Let.second _ _ c.in-Let.is c.get.ensures c.get-in-Let.ensures) in
    omega (arith, pushed, sizes)

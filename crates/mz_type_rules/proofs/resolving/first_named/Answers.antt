use Rattle.std.proofs.Common.{◌≤◌, ◌+◌, ◌-◌, ◌∙◌, slice_get, sym, ap, subst, arith}
use Rattle.mz_mmu_theory.specs.ProofCode.{proof_steps}
use Rattle.mz_mmu_theory.specs.ProofView.{proof_view}
use Rattle.mz_type_rules.specs.BehindLets.{proved_behind, steps_of}
use Rattle.mz_type_rules.proofs.Claims.{none_past}
use Rattle.mz_type_rules.proofs.BehindLets.{behind_before, behind_at, behind_past, steps_at}
use Rattle.mz_type_rules.proofs.resolving.first_named.Goals as goal

pub returns-then-place-visible-clause-same : goal.returns-then-place-visible-clause-same
returns-then-place-visible-clause-same c = λ env hyps lets many.
    sym (behind_before env hyps lets c.args.firsts.now.items c.args.place (let below = c.if-place-visible.true in omega (arith, many, below)))

pub returns-in-None-clause-same : goal.returns-in-None-clause-same
returns-in-None-clause-same c = λ env hyps lets many.
    let fs = c.args.firsts.now.items in
    let own = c.args.place - c.args.visible in
    let past = none_past fs own (c.in-None.ensures ∙ ap (λ xs. slice_get xs own) c.deref.ensures.value) in
    let behind = c.if-place-visible.false in
    behind_past env hyps lets fs c.args.place (omega (arith, past, many, behind))

pub returns-in-Some-clause-same : goal.returns-in-Some-clause-same
returns-in-Some-clause-same c = λ env hyps lets many.
    let fs = c.args.firsts.now.items in
    let p = proof_view c.in-Some.first.proof.now in
    let own = c.args.place - c.args.visible in
    let is = sym (c.in-Some.ensures ∙ ap (λ xs. slice_get xs own) c.deref.ensures.value) in
    let behind = c.if-place-visible.false in
    ap (λ xs. proved_behind env hyps lets xs p) c.truncate.ensures.items ∙ sym (behind_at env hyps lets fs own c.in-Some.first is c.args.place (omega (arith, many, behind)))

pub returns-in-Some-clause-less : goal.returns-in-Some-clause-less
returns-in-Some-clause-less c =
    let fs = c.args.firsts.now.items in
    let n = proof_steps (proof_view c.in-Some.first.proof.now) in
    let own = c.args.place - c.args.visible in
    let is = sym (c.in-Some.ensures ∙ ap (λ xs. slice_get xs own) c.deref.ensures.value) in
    subst (λ xs. steps_of xs + n ≤ steps_of fs) (sym c.truncate.ensures.items) (steps_at fs own c.in-Some.first is)

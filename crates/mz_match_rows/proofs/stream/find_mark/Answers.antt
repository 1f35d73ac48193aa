use Rattle.std.proofs.Common.{◌≡◌, ◌+◌, ◌-◌, ◌∙◌, ℕ, suc, Some, sym, subst, arith}
use Rattle.mz_match_rows.specs.Streams.{mark_from, dummies_in}
use Rattle.mz_match_rows.proofs.Steps.{step-takes, dummies-fewer, no-mark-at-end, mark-first, mark-next, mark-past}
use Rattle.mz_match_rows.proofs.stream.find_mark.Goals.{then-makes_mark+else-left-eq0, else-makes_mark}
use Rattle.mz_match_rows.proofs.stream.find_mark.Goals as goal

pub returns-in_default : goal.returns-in_default
returns-in_default c = λ n place found.
    let (m, later) = c.commands.invariant.goes_on n place found in
    absurd (no-mark-at-end c.args.file.now m c.commands.at c.commands.dummies c.commands.left place (sym c.in_default.ensures) later)

pub returns-then-left-eq0 : goal.returns-then-left-eq0
returns-then-left-eq0 c = λ n place found.
    let (m, later) = c.commands.invariant.goes_on n place found in
    mark-first c.args.file.now m c.commands.at c.commands.dummies c.in-Some.step place (sym c.in-Some.ensures) (sym c.makes_mark.ensures ∙ c.if-makes_mark.true)
    (subst (λ (j : ℕ). mark_from c.args.file.now m c.commands.at c.commands.dummies j ≡ Some place) c.if-left-eq0.true later)

pub commands-smaller : goal.commands-smaller
commands-smaller c =
    let t = step-takes c.args.file.now c.commands.at c.in-Some.step (sym c.in-Some.ensures) in
    omega (arith, t.0, t.1)

pub commands-preserved : goal.commands-preserved
commands-preserved c =
    let t = step-takes c.args.file.now c.commands.at c.in-Some.step (sym c.in-Some.ensures) in
    let few = dummies-fewer c.in-Some.step.code in
    let counted = c.dummies_in-dummies.ensures in
    record {
      within = t.1;
      few = omega (arith, t.0, few, counted, c.commands.invariant.few);
      goes_on = λ n place found.
          let (m, later) = c.commands.invariant.goes_on n place found in
          subst (λ (d : ℕ). (x : ℕ) × (mark_from c.args.file.now x c.in-Some.step.next (c.commands.dummies + d) c.if-makes_mark.left ≡ Some place)) (sym counted)
          (elim c.if-makes_mark.branch [
            | then-makes_mark+else-left-eq0 w ↦ (
                let some : c.commands.left ≡ suc (c.commands.left - 1) = omega (arith, w.if-left-eq0.false) in
                subst (λ (j : ℕ). (x : ℕ) × (mark_from c.args.file.now x c.in-Some.step.next (c.commands.dummies + dummies_in c.in-Some.step.code) j ≡ Some place)) (sym w.left-is)
                (mark-next c.args.file.now m c.commands.at c.commands.dummies (c.commands.left - 1) c.in-Some.step place (sym c.in-Some.ensures) (sym c.makes_mark.ensures ∙ w.if-makes_mark.true)
                (subst (λ (j : ℕ). mark_from c.args.file.now m c.commands.at c.commands.dummies j ≡ Some place) some later)))
            | else-makes_mark w ↦ subst (λ (j : ℕ). (x : ℕ) × (mark_from c.args.file.now x c.in-Some.step.next (c.commands.dummies + dummies_in c.in-Some.step.code) j ≡ Some place)) (sym w.left-is)
                (mark-past c.args.file.now m c.commands.at c.commands.dummies c.commands.left c.in-Some.step place (sym c.in-Some.ensures) (sym c.makes_mark.ensures ∙ w.if-makes_mark.false) later)
          ]);
    }

use Rattle.std.proofs.Common.{◌≤◌, ◌+◌, ◌∙◌, ℕ, List, length, ap, sym, subst, arith}
use Rattle.mz_match_rows.specs.declared.stream.Cursor.{Cursor}
use Rattle.mz_match_rows.specs.Streams.{dummies_in}
use Rattle.mz_match_rows.specs.Marks.{AreKept}
use Rattle.mz_match_rows.proofs.Steps.{step-takes, dummies-fewer}
use Rattle.mz_match_rows.proofs.KeptMarks.{Follow, none-kept, kept-more, kept-same}
use Rattle.mz_match_rows.proofs.heap.kept_marks.Goals.{then-makes_mark+in-Ok, else-makes_mark}
use Rattle.mz_match_rows.proofs.heap.kept_marks.Goals as goal

pub commands-init : goal.commands-init
commands-init c = record {
  within = subst (λ (xs : List ℕ). c.args.start ≤ length xs) (sym c.file-file.ensures.file) c.requires;
  few = omega arith;
  marks = none-kept c.file-file.result.now c.args.start c.new-places.result.items c.new-places.ensures.items;
}

pub commands-smaller : goal.commands-smaller
commands-smaller c =
    let t = step-takes c.file-file.result.now c.commands.at c.in-Some.step (sym c.in-Some.ensures) in
    omega (arith, t.0, t.1)

pub commands-preserved : goal.commands-preserved
commands-preserved c =
    let t = step-takes c.file-file.result.now c.commands.at c.in-Some.step (sym c.in-Some.ensures) in
    let few = dummies-fewer c.in-Some.step.code in
    let counted = c.dummies_in-dummies.ensures in
    let Both : List Cursor → Type 0 = λ ps. AreKept c.file-file.result.now c.args.start ps × Follow c.file-file.result.now c.args.start c.in-Some.step.next (c.commands.dummies + dummies_in c.in-Some.step.code) ps in
    let both : Both c.if-makes_mark.places.items = elim c.if-makes_mark.branch [
      | then-makes_mark+in-Ok w ↦ subst Both (sym (ap (λ v. v.items) w.places-is ∙ w.in-Ok.ensures.items))
          (kept-more c.file-file.result.now c.args.start c.commands.at c.commands.dummies c.in-Some.step c.commands.places.items (sym c.in-Some.ensures) c.commands.invariant.marks.1 (sym c.makes_mark.ensures ∙ w.if-makes_mark.true) c.commands.invariant.marks.0)
      | else-makes_mark w ↦ subst Both (sym (ap (λ v. v.items) w.places-is))
          (c.commands.invariant.marks.0, kept-same c.file-file.result.now c.args.start c.commands.at c.commands.dummies c.in-Some.step c.commands.places.items (sym c.in-Some.ensures) c.commands.invariant.marks.1 (sym c.makes_mark.ensures ∙ w.if-makes_mark.false))
    ] in
    record {
      within = t.1;
      few = omega (arith, t.0, few, counted, c.commands.invariant.few);
      marks = subst (λ (d : ℕ). AreKept c.file-file.result.now c.args.start c.if-makes_mark.places.items × Follow c.file-file.result.now c.args.start c.in-Some.step.next (c.commands.dummies + d) c.if-makes_mark.places.items) (sym counted) both;
    }

use Rattle.std.proofs.Common.{◌∙◌, ◌+◌, ℕ, refl, drop, sym, ap, arith, subst, List}
use Rattle.std.specs.Prelude.{◌↔◌}
use Rattle.std.proofs.lemmas.List.{drop-drop}
use Rattle.mz_machine_theory.proofs.Offered.{further}
use Rattle.mz_binary_theory.specs.Gapped.{CitesMarked}
use Rattle.mz_binary.proofs.CitedMarks.{cited-here, cited-later, none-then}
use Rattle.mz_binary.proofs.gaps.cites_marked.Goals as goal

pub commands-init : goal.commands-init
commands-init c = record { in_range = omega arith; same = (λ h. h, λ h. h) }

pub returns-in_default : goal.returns-in_default
returns-in_default c = none-then c.args.marks.now c.args.bytes.now (drop c.commands.at c.args.bytes.now) c.in_default.field-0 (sym c.in_default.ensures.computed) c.commands.invariant.same

pub overflow_add-at : goal.overflow_add-at
overflow_add-at c =
    let ahead = further c.args.bytes.now c.commands.at c.in-Ok.cmd (sym c.in-Ok.ensures.computed) c.commands.invariant.in_range in
    rw c.from-at.ensures (omega (arith, ahead.1, c.requires))

pub returns-then-is_marked : goal.returns-then-is_marked
returns-then-is_marked c =
    (λ _. c.commands.invariant.same.1 (cited-here c.args.marks.now (drop c.commands.at c.args.bytes.now) c.in-Ok.cmd (sym c.in-Ok.ensures.computed) (sym c.is_marked.ensures ∙ c.if-is_marked.true)), λ _. refl)

pub commands-smaller : goal.commands-smaller
commands-smaller c =
    let ahead = further c.args.bytes.now c.commands.at c.in-Ok.cmd (sym c.in-Ok.ensures.computed) c.commands.invariant.in_range in
    rw c.from-at.ensures (omega (arith, ahead.0, ahead.1))

pub commands-preserved : goal.commands-preserved
commands-preserved c =
    let cmd = c.in-Ok.cmd in
    let bytes = c.args.bytes.now in
    let ahead = further bytes c.commands.at cmd (sym c.in-Ok.ensures.computed) c.commands.invariant.in_range in
    let later = cited-later c.args.marks.now (drop c.commands.at bytes) cmd (sym c.in-Ok.ensures.computed) (sym c.is_marked.ensures ∙ c.if-is_marked.false) in
    let rest = drop-drop cmd.len c.commands.at bytes ∙ ap (λ n. drop (c.commands.at + n) bytes) (sym c.from-at.ensures) in
    record {
      in_range = rw c.from-at.ensures ahead.1;
      same = subst (λ (bs : List ℕ). CitesMarked bytes c.args.marks.now ↔ CitesMarked bs c.args.marks.now) rest (λ h. later.0 (c.commands.invariant.same.0 h), λ h. c.commands.invariant.same.1 (later.1 h));
    }

use Rattle.std.proofs.Common.{rules, ◌+◌, sym, subst, arith, ℕ}
use Rattle.mz_machine_theory.proofs.Offered.{further}
use Rattle.mz_axioms.specs.Citations.{IsFirstCitation}
use Rattle.mz_axioms.proofs.Citing.{Passed, passed-first, passed-more, passed-here, passed-none}
use Rattle.mz_axioms.proofs.citations.first_cited.Goals as goal

pub commands-init : goal.commands-init
commands-init c = record { in_range = omega arith; passed = passed-first c.args.bytes.now }

pub returns-in_default : goal.returns-in_default
returns-in_default c = passed-none c.args.bytes.now c.commands.at c.in_default.field-0 c.commands.invariant.passed (sym c.in_default.ensures.computed)

pub overflow_add-next : goal.overflow_add-next
overflow_add-next c =
    let ahead = further c.args.bytes.now c.commands.at c.in-Ok.cmd (sym c.in-Ok.ensures.computed) c.commands.invariant.in_range in
    rw c.from.ensures (omega (arith, ahead.1, c.requires))

pub overflow_add-result : goal.overflow_add-result
overflow_add-result c =
    let ahead = further c.args.bytes.now c.commands.at c.in-Ok.cmd (sym c.in-Ok.ensures.computed) c.commands.invariant.in_range in
    rw c.from.ensures (omega (arith, ahead.1, c.requires))

pub returns-then-is_citation : goal.returns-then-is_citation
returns-then-is_citation c =
    subst (λ (n : ℕ). IsFirstCitation c.args.bytes.now c.args.from c.in-Ok.cmd.value (c.args.from + (c.commands.at + n))) (sym c.from.ensures)
    (passed-here c.args.bytes.now c.args.from c.commands.at c.in-Ok.cmd c.commands.invariant.passed (sym c.in-Ok.ensures.computed) (c.is_citation.ensures.0 (search rules)))

pub commands-smaller : goal.commands-smaller
commands-smaller c =
    let ahead = further c.args.bytes.now c.commands.at c.in-Ok.cmd (sym c.in-Ok.ensures.computed) c.commands.invariant.in_range in
    rw c.from.ensures (omega (arith, ahead.0, ahead.1))

pub commands-preserved : goal.commands-preserved
commands-preserved c =
    let cmd = c.in-Ok.cmd in
    let bytes = c.args.bytes.now in
    let ahead = further bytes c.commands.at cmd (sym c.in-Ok.ensures.computed) c.commands.invariant.in_range in
    record {
      in_range = rw c.from.ensures ahead.1;
      passed = subst (λ (n : ℕ). Passed bytes (c.commands.at + n)) (sym c.from.ensures)
          (passed-more bytes c.commands.at cmd c.commands.invariant.passed (sym c.in-Ok.ensures.computed) (λ citing. search rules));
    }

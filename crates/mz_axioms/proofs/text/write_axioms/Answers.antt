use Rattle.std.proofs.Common.{◌∙◌, List, All, ap, sym, subst, arith}
use Rattle.mz_axioms.specs.declared.lists.Support.{Support}
use Rattle.mz_axioms.specs.Kept.{IsSupport, supports_told}
use Rattle.mz_axioms.specs.Text.{supports_text}
use Rattle.mz_axioms.proofs.Texting.{text-of, written-added}
use Rattle.mz_axioms.proofs.text.write_axioms.Goals as goal

pub write_lines-requires-clause-each : goal.write_lines-requires-clause-each
write_lines-requires-clause-each g c = subst (λ (ss : List Support). All (IsSupport c.lists.inside.table) ss) (sym c.deref.ensures.value) c.lists.invariant.each

pub returns-clause-log : goal.returns-clause-log
returns-clause-log g c = λ text named.
    let told = supports_told c.lists.inside.table c.deref.result.now in
    let line = supports_text c.args.spec.now.text.now c.args.spec.now.declared told in
    let log = c.write_lines.ensures.log in (
      log.0,
      log.1,
      (
        line,
        text-of text c.args.spec.now c.args.lists.now told named (sym c.lists.view_is ∙ ap (supports_told c.lists.inside.table) (sym c.deref.ensures.value)),
        written-added c.write_lines.result line log.0 log.2,
      ),
    )

pub returns-clause-only_full : goal.returns-clause-only_full
returns-clause-only_full g c = λ text named clear fits.
    let told = supports_told c.lists.inside.table c.deref.result.now in
    let line = supports_text c.args.spec.now.text.now c.args.spec.now.declared told in
    let room = fits line (text-of text c.args.spec.now c.args.lists.now told named (sym c.lists.view_is ∙ ap (supports_told c.lists.inside.table) (sym c.deref.ensures.value))) in
    c.write_lines.ensures.only_full clear (omega (arith, room))

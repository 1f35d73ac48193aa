use Rattle.std.proofs.Common.{Bool, false, List, inl, sym, subst}
use Rattle.mz_base.specs.Gaps.{gaps_of}
use Rattle.mz_mmu_theory.specs.Statements.{Statement, Reads}
use Rattle.mz_mmu_theory.specs.TextOf.{TextOf, TextFault}
use Rattle.mz_emit.proofs.Alike.{finished_same, never_faulty}
use Rattle.mz_emit.proofs.compile.compile_read.Goals as goal

pub returns-in-Typed-clause-answer : goal.returns-in-Typed-clause-answer
returns-in-Typed-clause-answer c =
    let text = c.in-Text.text in
    let reads = subst (λ (gaps : Bool). Reads gaps c.args.text.now text.nodes text.statements) (sym c.in-Text.ensures.0) c.in-Text.ensures.1 in
    let typed = c.in-Typed.ensures.bytes c.args.text.now reads in
    c.compile_typed.ensures (gaps_of c.args.mode) c.args.text.now
    (subst (λ (ss : List Statement). TextOf (gaps_of c.args.mode) c.args.text.now ss) (sym c.in-Typed.ensures.answer.1)
    (subst (λ (gaps : Bool). TextOf gaps c.args.text.now text.statements) c.in-Text.ensures.0 typed))

pub returns-in-Typed-clause-finished : goal.returns-in-Typed-clause-finished
returns-in-Typed-clause-finished c = λ ss is.
    let text = c.in-Text.text in
    let reads = subst (λ (gaps : Bool). Reads gaps c.args.text.now text.nodes text.statements) (sym c.in-Text.ensures.0) c.in-Text.ensures.1 in
    let typed = c.in-Typed.ensures.bytes c.args.text.now reads in
    c.compile_typed.ensures false c.args.text.now
    (subst (λ (ss : List Statement). TextOf false c.args.text.now ss) (sym c.in-Typed.ensures.answer.1) (finished_same c.typed_or_faulty.ensures text.gaps c.args.text.now ss text.statements is typed))

pub returns-in-Refused-clause-finished : goal.returns-in-Refused-clause-finished
returns-in-Refused-clause-finished c = λ ss is. never_faulty c.typed_or_faulty.ensures (gaps_of c.args.mode) c.args.text.now ss c.in-Refused.refusal is (inl c.in-Refused.ensures)

pub returns-in-Refused-check_text-clause-answer : goal.returns-in-Refused-check_text-clause-answer
returns-in-Refused-check_text-clause-answer c =
    let text = c.in-Text.text in
    let reads = subst (λ (gaps : Bool). Reads gaps c.args.text.now text.nodes text.statements) (sym c.in-Text.ensures.0) c.in-Text.ensures.1 in
    subst (λ (gaps : Bool). TextFault gaps c.args.text.now c.in-Refused-check_text.refusal) c.in-Text.ensures.0 (c.in-Refused-check_text.ensures.bytes c.args.text.now reads)

pub returns-in-Refused-check_text-clause-finished : goal.returns-in-Refused-check_text-clause-finished
returns-in-Refused-check_text-clause-finished c = λ ss is.
    let text = c.in-Text.text in
    let reads = subst (λ (gaps : Bool). Reads gaps c.args.text.now text.nodes text.statements) (sym c.in-Text.ensures.0) c.in-Text.ensures.1 in
    never_faulty c.typed_or_faulty.ensures text.gaps c.args.text.now ss c.in-Refused-check_text.refusal is (c.in-Refused-check_text.ensures.bytes c.args.text.now reads)

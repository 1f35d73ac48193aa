use Rattle.std.proofs.Common.{List, false, sym, subst}
use Rattle.mz_mmu_theory.specs.Statements.{Statement, Reads}
use Rattle.mz_mmu_theory.specs.TextOf.{TextOf}
use Rattle.mz_prefix.proofs.spec_text.spec_within.Goals as goal

pub returns-in-Typed : goal.returns-in-Typed
returns-in-Typed c =
    let typed = c.in-Typed.ensures.bytes c.args.text.now (subst (λ gaps. Reads gaps c.args.text.now c.in-Text.text.nodes c.in-Text.text.statements) (sym c.in-Text.ensures.0) c.in-Text.ensures.1) in
    c.answer.ensures c.args.text.now
    (subst (λ (ss : List Statement). TextOf false c.args.text.now ss) (sym c.in-Typed.ensures.answer.1)
    (subst (λ gaps. TextOf gaps c.args.text.now c.in-Text.text.statements) c.in-Text.ensures.0 typed))

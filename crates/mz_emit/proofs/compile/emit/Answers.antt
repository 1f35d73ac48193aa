use Rattle.std.proofs.Common.{length, sym, ap, subst, arith, ◌∙◌}
use Rattle.mz_layout_tables.specs.Normal.{file_of}
use Rattle.mz_layout_tables.specs.Standing.{Fit}
use Rattle.mz_mmu_theory.specs.Meaning.{LegalAsStated}
use Rattle.mz_type.specs.StatedView.{AreRead}
use Rattle.mz_mmu_theory.specs.Weight.{IsWithinLimits}
use Rattle.mz_type.proofs.Offered.{statements_many}
use Rattle.mz_emit_theory.specs.CompiledFile.{compiled_parts}
use Rattle.mz_emit.proofs.Existing.{fits, has_binary}
use Rattle.mz_emit.proofs.Looping.{own_mode}
use Rattle.mz_emit.proofs.compile.emit.Goals as goal

pub emit_all-requires-clause-few : goal.emit_all-requires-clause-few
emit_all-requires-clause-few c =
    let same = ap length c.into_parts-env.ensures.statements in
    let all = statements_many c.into_parts-env.result.0 c.into_parts-env.result.1.items c.into_parts-env.ensures.many in
    omega (arith, same, all, c.len-count.ensures.many, c.len-count.type_inv)

pub emit_all-requires-clause-legal : goal.emit_all-requires-clause-legal
emit_all-requires-clause-legal c =
    let is = sym c.into_parts-env.ensures.statements in
    let gaps = c.args.text.gaps in
    (gaps, subst (AreRead gaps) is c.len-count.ensures.read, subst (LegalAsStated gaps) is c.len-count.ensures.legal)

pub emit_all-requires-clause-within : goal.emit_all-requires-clause-within
emit_all-requires-clause-within c = subst IsWithinLimits (sym c.into_parts-env.ensures.statements) c.requires

pub finish-requires : goal.finish-requires
finish-requires c =
    let gaps = c.args.text.gaps in
    let ss = c.args.text.statements in
    let read = c.len-count.ensures.read in
    let fit = fits c.words_are_read_back.ensures.fit c.words_are_read_back.ensures.results_fit c.stated_proofs_are_sound.ensures c.statements_can_be_words.ensures
    gaps ss read c.requires gaps (own_mode gaps ss read c.len-count.ensures.legal) in
    subst Fit (sym (c.in_ok-emitter.ensures.written ∙ ap compiled_parts c.into_parts-env.ensures.statements)) fit

pub returns : goal.returns
returns c = λ gaps legal.
    let written = c.in_ok-emitter.ensures.written ∙ ap compiled_parts c.into_parts-env.ensures.statements in
    has_binary c.words_are_read_back.ensures.fit c.words_are_read_back.ensures.results_fit c.stated_proofs_are_sound.ensures c.statements_can_be_words.ensures
    c.args.text.gaps c.args.text.statements c.len-count.ensures.read c.requires gaps legal c.in_ok-bytes.bytes.items (c.in_ok-bytes.ensures ∙ ap file_of written)

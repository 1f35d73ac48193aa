use Rattle.std.proofs.Common.{◌∙◌, ◌<◌, All, sym, ap, subst, slice_range, arith}
use Rattle.mz_decompile_text.specs.Phrases.{a_word, a_list}
use Rattle.mz_decompile_text.specs.ByNumber.{phrases_at}
use Rattle.mz_decompile_text.specs.declared.node.Form.TheVariants.{Word, Parts}
use Rattle.mz_decompile_text.proofs.Fields.{count, found}
use Rattle.mz_decompile_text.proofs.Finding.{within, phrase}
use Rattle.mz_decompile_text.proofs.phrases.Phrases.shape.Goals as goal

pub index-requires : goal.index-requires
index-requires c = let many = count c.self.inside c.args.self.now c.self.view_is in omega arith

pub range-requires : goal.range-requires
range-requires c =
    let here = found c.self.inside c.args.self.now c.args.n c.index.result.now (record { is = c.self.view_is; kept = c.self.invariant }) c.requires c.index.ensures in
    let w = within (Word c.in-Word.from c.in-Word.to) here c.in-Word.is in
    (w.0, omega (arith, w.1, c.deref.ensures.len, c.self.inside.bytes.ok.0))

pub range-requires-in-Parts : goal.range-requires-in-Parts
range-requires-in-Parts c =
    let here = found c.self.inside c.args.self.now c.args.n c.index.result.now (record { is = c.self.view_is; kept = c.self.invariant }) c.requires c.index.ensures in
    let w = within (Parts c.in-Parts.from c.in-Parts.to) here c.in-Parts.is in
    (w.0, omega (arith, w.1, c.deref-in-Parts.ensures.len, c.self.inside.parts.ok.0))

pub returns-in-Word : goal.returns-in-Word
returns-in-Word c =
    let here = found c.self.inside c.args.self.now c.args.n c.index.result.now (record { is = c.self.view_is; kept = c.self.invariant }) c.requires c.index.ensures in
    let same = c.range.ensures ∙ ap (λ xs. slice_range xs c.in-Word.from c.in-Word.to) c.deref.ensures.value in
    phrase (Word c.in-Word.from c.in-Word.to) here c.in-Word.is ∙ ap a_word (sym same)

pub returns-in-Parts : goal.returns-in-Parts
returns-in-Parts c =
    let here = found c.self.inside c.args.self.now c.args.n c.index.result.now (record { is = c.self.view_is; kept = c.self.invariant }) c.requires c.index.ensures in
    let same = c.range-in-Parts.ensures ∙ ap (λ xs. slice_range xs c.in-Parts.from c.in-Parts.to) c.deref-in-Parts.ensures.value in (
      subst (All (λ m. m < c.args.n)) (sym same) (within (Parts c.in-Parts.from c.in-Parts.to) here c.in-Parts.is).2,
      phrase (Parts c.in-Parts.from c.in-Parts.to) here c.in-Parts.is ∙ ap (λ ns. a_list (phrases_at c.args.self.now ns)) (sym same),
    )

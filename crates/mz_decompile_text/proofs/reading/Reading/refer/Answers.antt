use Rattle.std.proofs.Common.{◌∙◌, ap, refl, slice_get, sym}
use Rattle.mz_decompile_text.proofs.RowNumbers.{some_none}
use Rattle.mz_decompile_text.proofs.RowSteps.{refer_done, referred}
use Rattle.mz_decompile_text.proofs.reading.Reading.refer.Goals as goal

pub unreachable-requires : goal.unreachable-requires
unreachable-requires c =
    let r = c.requires.can in
    let there = referred r.0 r.3 r.1 r.2 c.args.self.now r.4 c.args.mark r.5 in
    some_none there.0 (sym there.1 ∙ ap (λ ms. slice_get ms c.args.mark) (sym c.deref.ensures.value) ∙ sym c.in_default.ensures)

pub returns-clause-does : goal.returns-clause-does
returns-clause-does c = λ file v ps o t g.
    refer_done file o v ps c.args.self.now _ t c.args.mark c.in-Some.number g
    (ap (λ ms. slice_get ms c.args.mark) (sym c.deref.ensures.value) ∙ sym c.in-Some.ensures) refl refl refl refl c.in_ok-push.ensures.items refl

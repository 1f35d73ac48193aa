use Rattle.std.proofs.Common.{◌<◌, ◌∙◌, sym, ap, subst, length, slice_get, option_map, refl}
use Rattle.std.proofs.lemmas.Option.{slice_get_read}
use Rattle.mz_spec_theory.proofs.NameSpans.{entry-span, span-within}
use Rattle.mz_spec_theory.proofs.spec.Spec.name.Goals as goal

pub index-span-requires : goal.index-span-requires
index-span-requires c =
    let spans = c.self.inside.spans in
    subst (λ n. c.args.i < n) (sym spans.ok.0) (span-within c.self.inside.env spans.items c.args.i c.self.invariant.0 (subst (λ es. c.args.i < length es) (sym c.self.view_is) c.requires))

pub returns : goal.returns
returns c =
    let spans = c.self.inside.spans in
    let within = span-within c.self.inside.env spans.items c.args.i c.self.invariant.0 (subst (λ es. c.args.i < length es) (sym c.self.view_is) c.requires) in
    ap (λ es. option_map (λ e. (e.from, e.to)) (slice_get es c.args.i)) (sym c.self.view_is)
    ∙ entry-span (λ e. (e.from, e.to)) (λ m. (m.from, m.to)) (λ _ _. refl) c.self.inside.env spans.items c.args.i c.self.invariant.0
    ∙ ap (option_map (λ m. (m.from, m.to))) (slice_get_read spans.items _ c.args.i c.index-span.result.now refl within c.index-span.ensures)

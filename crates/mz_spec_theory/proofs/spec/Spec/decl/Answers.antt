use Rattle.std.proofs.Common.{◌<◌, ◌∙◌, sym, ap, subst, length, slice_get, option_map}
use Rattle.mz_logic_theory.specs.DeclView.{declaration}
use Rattle.mz_spec_theory.proofs.NameSpans.{entries-length, entry-decl, within-not}
use Rattle.mz_spec_theory.proofs.spec.Spec.decl.Goals as goal

pub unreachable-requires : goal.unreachable-requires
unreachable-requires c =
    let within = subst (λ es. c.args.i < length es) (sym c.self.view_is) c.requires in
    let count = entries-length c.self.inside.env c.self.inside.spans.items c.self.invariant.0 ∙ c.self.invariant.0 in
    within-not c.self.inside.env c.args.i (subst (λ n. c.args.i < n) count within) (sym c.get.ensures ∙ ap (option_map (λ d. declaration d.now)) c.in-None.is)

pub returns : goal.returns
returns c =
    ap (λ es. option_map (λ e. e.decl) (slice_get es c.args.i)) (sym c.self.view_is)
    ∙ entry-decl c.self.inside.env c.self.inside.spans.items c.args.i c.self.invariant.0
    ∙ sym c.get.ensures ∙ ap (option_map (λ d. declaration d.now)) c.in-Some.is

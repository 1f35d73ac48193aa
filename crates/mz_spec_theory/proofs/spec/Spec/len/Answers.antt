use Rattle.std.proofs.Common.{◌∙◌, sym, ap, length}
use Rattle.mz_spec_theory.proofs.NameSpans.{entries-length}
use Rattle.mz_spec_theory.proofs.spec.Spec.len.Goals as goal

pub returns : goal.returns
returns c = c.len.ensures ∙ c.self.inside.spans.ok.0 ∙ sym (entries-length c.self.inside.env c.self.inside.spans.items c.self.invariant.0) ∙ ap length c.self.view_is

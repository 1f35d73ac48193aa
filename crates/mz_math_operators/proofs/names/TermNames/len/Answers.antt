use Rattle.std.proofs.Common.{◌∙◌, length, ap, sym}
use Rattle.std.proofs.lemmas.List.{length-map}
use Rattle.mz_math_operators.specs.Names.{name_with}
use Rattle.mz_math_operators.proofs.names.TermNames.len.Goals as goal

pub returns : goal.returns
returns c = c.len.ensures.len ∙ sym (length-map c.self.inside.terms.entries (λ e. name_with e.0.items e.1)) ∙ ap length c.self.view_is

use Rattle.std.proofs.Common.{◌∙◌, length, ap}
use Rattle.mz_math_theory.specs.Notation.{Table}
use Rattle.mz_math_notation.proofs.table.Notations.name_count.Goals as goal

pub returns : goal.returns
returns c = c.len.ensures ∙ ap (λ (t : Table). length t.names) c.self.view_is

use Rattle.std.specs.Prelude.{eqb}
use Rattle.std.proofs.Common.{◌∙◌, ap, sym}
use Rattle.std.proofs.lemmas.Bool.{eqb-true}
use Rattle.mz_logic_free.proofs.variables.VariableSet.is_empty.Goals as goal

pub returns : goal.returns
returns c = (
  λ is. sym c.len.ensures ∙ eqb-true c.len.result 0 is,
  λ none. ap (λ n. eqb n 0) (c.len.ensures ∙ none),
)

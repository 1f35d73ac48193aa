use Rattle.std.proofs.Common.{◌∙◌, ap, Some, sym, true≢false}
use Rattle.std.proofs.lemmas.Option.{none-some}
use Rattle.mz_logic_theory.proofs.Offered.{one_at}
use Rattle.mz_spec_variables.proofs.variables.Variable.is_of.Goals as goal

pub returns-in-None : goal.returns-in-None
returns-in-None c = (λ no. absurd (true≢false (sym no)), λ (g, own, other). absurd (none-some _ (sym c.in-None.is ∙ own)))

pub returns-in-Some : goal.returns-in-Some
returns-in-Some c = (
  λ is. (c.in-Some.own, c.in-Some.is, c.is_number.ensures.0 is),
  λ (g, own, other). c.is_number.ensures.1 (other ∙ ap Some (one_at own c.in-Some.is)),
)

use Rattle.std.proofs.Common.{◌≡◌, subst, Contains}
use Rattle.std.specs.Prelude.{MatchOption}
use Rattle.mz_math_operators.specs.Names.{IsFoundAs}
use Rattle.mz_math_theory.specs.Notation.{Table, TermName}
use Rattle.mz_math_notation.proofs.table.Notations.named.Goals as goal

pub returns : goal.returns
returns c =
    let w = c.args.name.now in
    subst (λ (t : Table). MatchOption c.get.result ((n : TermName) → Contains t.names n → n.name ≡ w → ⊥) (λ x. (n : TermName) × IsFoundAs t.names w n × (n.term ≡ x))) c.self.view_is c.get.ensures

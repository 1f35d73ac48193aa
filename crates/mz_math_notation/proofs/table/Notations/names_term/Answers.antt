use Rattle.std.proofs.Common.{◌≡◌, ◌↔◌, subst, Contains}
use Rattle.std.specs.Prelude.{IsTrue}
use Rattle.mz_math_theory.specs.Notation.{Table, TermName}
use Rattle.mz_math_operators.proofs.Offered.{found-decides}
use Rattle.mz_math_notation.proofs.table.Notations.names_term.Goals as goal

pub returns : goal.returns
returns c =
    subst (λ (t : Table). IsTrue c.is_some.result ↔ ((n : TermName) × Contains t.names n × (n.name ≡ c.args.name.now))) c.self.view_is
    (found-decides c.self.inside.names c.args.name.now c.get.result c.get.ensures c.is_some.result c.is_some.ensures)

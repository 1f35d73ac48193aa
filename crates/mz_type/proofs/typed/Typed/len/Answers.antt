use Rattle.std.proofs.Common.{length, ap, arith}
use Rattle.mz_type.proofs.StatedSteps.{statements_many}
use Rattle.mz_type.proofs.typed.Typed.len.Goals as goal

pub returns-clause-many : goal.returns-clause-many
returns-clause-many c =
    let all = statements_many c.self.inside.env c.self.inside.beside.items c.self.invariant.many in
    let same = ap (λ s. length s.statements) c.self.view_is in
    omega (arith, all, same, c.len.ensures, c.self.invariant.few)

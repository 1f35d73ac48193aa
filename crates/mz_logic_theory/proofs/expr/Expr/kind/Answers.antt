use Rattle.std.proofs.Common.{subst}
use Rattle.mz_logic_theory.specs.Kinds.{HasSmaller}
use Rattle.mz_logic_theory.proofs.Under.{kind-smaller}
use Rattle.mz_logic_theory.proofs.expr.Expr.kind.Goals as goal

pub returns-clause-smaller : goal.returns-clause-smaller
returns-clause-smaller c = subst (λ e. HasSmaller e c.self.inside.kind) c.self.view_is (kind-smaller c.self.inside.kind c.self.invariant)

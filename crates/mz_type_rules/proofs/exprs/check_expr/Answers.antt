use Rattle.std.proofs.Common.{subst}
use Rattle.mz_base.specs.Checks.{Judges}
use Rattle.mz_sexpr.specs.Number.{first}
use Rattle.mz_logic_theory.specs.Declaration.{signatures}
use Rattle.mz_mmu_theory.specs.Rules.{expr_rules}
use Rattle.mz_type_rules.proofs.exprs.check_expr.Goals as goal

pub returns : goal.returns
returns c =
    subst (λ e. Judges c.check_borrowed_expr.result (expr_rules (signatures c.args.env.now) c.args.ctx.now e (first c.args.nodes.now))) c.borrowed.ensures c.check_borrowed_expr.ensures

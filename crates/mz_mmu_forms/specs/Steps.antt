-- The steps in which an expression is read: how far it has been read.
use Rattle.std.specs.Prelude.{ℕ, ◌+◌, ◌*◌}
use Rattle.mz_sexpr.specs.Node.{Node, Nodes}
use Rattle.mz_logic_theory.specs.Tree.{Trees, app, followed_by}
use Rattle.mz_logic_theory.specs.View.{tree}
use Rattle.mz_mmu_theory.specs.Name.{Scope}
use Rattle.mz_mmu_theory.specs.Cursor.{nodes_from, nodes_size, IsThere}
use Rattle.mz_mmu_theory.specs.Expressions.{IsExpr, AreExprs}
use Rattle.mz_mmu_theory.specs.FormOrder.{expr_asked, exprs_asked}
use Rattle.mz_mmu_theory.specs.Stops.{Stops}
use Rattle.mz_mmu_theory.specs.declared.fault.Stop.{Stop}
use Rattle.mz_mmu_forms.specs.declared.exprs.Application.{Application}
use Rattle.mz_mmu_forms.specs.declared.exprs.Step.{Step}
use Rattle.mz_mmu_forms.specs.declared.exprs.Step.TheVariants as steps

-- with what is left the application is the node, and what stops reading that stops reading the node
abbrev pub IsUnderWay : Scope → Nodes → Node → Application → Type 0
IsUnderWay sc all m o =
    IsThere all o.left
    × ((es : Trees) → AreExprs sc (nodes_from all o.left) es → IsExpr sc m (app o.term (followed_by o.operands es)))
    × ((stop : Stop) → Stops stop (exprs_asked sc (nodes_from all o.left)) → Stops stop (expr_asked sc m))

-- what a step says of the node
abbrev pub Says : Scope → Nodes → Node → Step → Type 0
Says sc all m (steps.Operands o) = IsUnderWay sc all m o
Says sc all m (steps.Whole e) = IsExpr sc m (tree e)

-- more than the turns that are left, but for those behind the expressions around
abbrev pub turns : Nodes → Step → ℕ
turns all (steps.Operands o) = 2 * nodes_size (nodes_from all o.left) + 1
turns all (steps.Whole e) = 0

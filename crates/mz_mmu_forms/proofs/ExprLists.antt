-- Expressions, one after another.
use Rattle.std.proofs.Common.{◌≡◌, ◌∙◌, sym, ap, refl, subst}
use Rattle.mz_base.proofs.Offered.{Decides, decides-after}
use Rattle.mz_sexpr.specs.Node.{Node, Nodes, node}
use Rattle.mz_logic_theory.specs.Tree.{Tree, Trees, more, none, followed_by}
use Rattle.mz_logic_theory.proofs.Offered.{followed_by_push}
use Rattle.mz_mmu_theory.specs.Name.{Scope}
use Rattle.mz_mmu_theory.specs.Expressions.{IsExpr, AreExprs}
use Rattle.mz_mmu_theory.specs.FormOrder.{expr_asked, exprs_asked}
use Rattle.mz_mmu_theory.proofs.Offered.{expr_holds}

module _ (sc : Scope) (left whole ns : Nodes) (n : Node) (is : left ≡ node n ns) (e : Tree) (h : IsExpr sc n e) where
  pub exprs_read_more : (sofar now : Trees) → now ≡ followed_by sofar (more e none) → ((es : Trees) → AreExprs sc left es → AreExprs sc whole (followed_by sofar es))
      → (es : Trees) → AreExprs sc ns es → AreExprs sc whole (followed_by now es)
  exprs_read_more sofar now pushed read es r =
      subst (AreExprs sc whole) (sym (ap (λ x. followed_by x es) pushed ∙ followed_by_push sofar es e))
      (read (more e es) (subst (λ l. AreExprs sc l (more e es)) (sym is) (e, es, h, r, refl)))

  pub exprs_asked_more : Decides (exprs_asked sc left) (exprs_asked sc whole) → Decides (exprs_asked sc ns) (exprs_asked sc whole)
  exprs_asked_more d =
      decides-after (expr_asked sc n) (exprs_asked sc ns) (exprs_asked sc whole) (expr_holds sc n e h) (subst (λ l. Decides (exprs_asked sc l) (exprs_asked sc whole)) is d)

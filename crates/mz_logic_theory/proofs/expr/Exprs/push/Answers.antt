use Rattle.std.proofs.Common.{◌≡◌, ◌∙◌, ap, List, [], ◌∷◌, ◌++◌, Result, Ok, Err, OnOk}
use Rattle.mz_logic_theory.specs.Tree.{Trees, more, none, followed_by}
use Rattle.mz_logic_theory.specs.View.{tree, trees}
use Rattle.mz_logic_theory.specs.declared.expr.Expr.{Expr}
use Rattle.mz_logic_theory.proofs.Trees.{trees-append}
use Rattle.mz_logic_theory.proofs.expr.Exprs.push.Goals as goal

pushed : {A E : Type 0} (r : Result A E) (old new : List Expr) (e : Expr) (es : Trees) → trees old ≡ es → OnOk r (new ≡ old ++ e ∷ [])
    → OnOk r (trees new ≡ followed_by es (more (tree e) none))
pushed (Ok _) old new e es was is = ap trees is ∙ trees-append old (e ∷ []) ∙ ap (λ fs. followed_by fs (more (tree e) none)) was
pushed (Err _) old new e es was is = tt

pub returns-clause-ok : goal.returns-clause-ok
returns-clause-ok c = pushed c.push_tightly.result c.self.inside.items.items _ c.args.expr c.args.self.now c.self.view_is c.push_tightly.ensures.ok

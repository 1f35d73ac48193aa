-- Steps of the checks of expressions.
use Rattle.std.proofs.Common.{ℕ, ◌≡◌, ◌<◌, ◌≤◌, ◌+◌, List, [], ◌∷◌, length, get_or, drop, sym, ap, ◌∙◌, subst, arith}
use Rattle.std.proofs.lemmas.List.{drop_more, drop_all}
use Rattle.mz_base.specs.Checks.{Checks, AllHold, demand, ◌>>◌}
use Rattle.mz_base.proofs.Offered.{Decides, decides-after}
use Rattle.mz_sexpr.specs.Node.{Nodes}
use Rattle.mz_sexpr.specs.Number.{first, rest}
use Rattle.mz_sexpr.specs.declared.rule.U.{U}
use Rattle.mz_logic_theory.specs.Tree.{Tree, Trees, none, more, listed, past}
use Rattle.mz_logic_theory.specs.Legality.{signature_at}
use Rattle.mz_logic_theory.specs.Signature.{Signature}
use Rattle.mz_logic_theory.specs.View.{tree, trees}
use Rattle.mz_logic_theory.specs.declared.expr.Expr.{Expr}
use Rattle.mz_logic_theory.specs.declared.binder.Binder.{Binder}
use Rattle.mz_logic_theory.proofs.Offered.{at-end}
use Rattle.mz_mmu_theory.specs.declared.fault.Fault.{Fault}
use Rattle.mz_mmu_theory.specs.FormOrder.{fault}
use Rattle.mz_logic_theory.specs.Conversions.{Conversions, no_convs, more_convs}
use Rattle.mz_mmu_theory.specs.ConvView.{conversion, conversions}
use Rattle.mz_mmu_theory.specs.declared.conv.Conv.{Conv}
use Rattle.mz_mmu_theory.specs.Rules.{expr_rules, exprs_rules, operand_rules, own_operand_rules, side_rules, own_side_rules, variable_rules}

-- the rules of an application of t at a place, where the nodes of its operands are ns
abbrev pub app_rules : List Signature → List Binder → ℕ → Trees → ℕ → Nodes → Checks Fault
app_rules sigs ctx t es at ns =
    exprs_rules sigs ctx es ns
    >> demand (fault at U.Arity) (length (listed es) ≡ length (signature_at sigs t).params)
    >> operand_rules sigs ctx es ns (signature_at sigs t).params

-- one expression more of a list
module _ (xs : List Expr) (i : ℕ) (e : Expr) (below : i < length xs) (is : e ≡ get_or xs i e) where
  pub trees_cut : trees (drop i xs) ≡ more (tree e) (trees (drop (i + 1) xs))
  trees_cut = ap trees (drop_more xs i e below) ∙ ap (λ x. more (tree x) (trees (drop (i + 1) xs))) (sym is)

-- one expression more of what is left of a list
module _ (es : Trees) (i : ℕ) (e : Tree) (cut : past i es ≡ more e (past (i + 1) es)) (sigs : List Signature) (ctx : List Binder) (ns : Nodes) (cs : Checks Fault) where
  pub exprs_left : Decides (exprs_rules sigs ctx (past i es) ns) cs
      → Decides (expr_rules sigs ctx e (first ns) >> exprs_rules sigs ctx (past (i + 1) es) (rest ns)) cs
  exprs_left d = subst (λ fs. Decides (exprs_rules sigs ctx fs ns) cs) cut d

  pub exprs_step : AllHold (expr_rules sigs ctx e (first ns)) → Decides (exprs_rules sigs ctx (past i es) ns) cs
      → Decides (exprs_rules sigs ctx (past (i + 1) es) (rest ns)) cs
  exprs_step h d = decides-after (expr_rules sigs ctx e (first ns)) (exprs_rules sigs ctx (past (i + 1) es) (rest ns)) cs h (exprs_left d)

  -- one operand more
  module _ (ps : List Binder) (p : Binder) (within : i < length ps) (same : p ≡ get_or ps i p) where
    operands_cut : operand_rules sigs ctx (past i es) ns (drop i ps)
        ≡ (own_operand_rules sigs ctx e (first ns) p >> operand_rules sigs ctx (past (i + 1) es) (rest ns) (drop (i + 1) ps))
    operands_cut = ap (λ fs. operand_rules sigs ctx fs ns (drop i ps)) cut
        ∙ ap (λ qs. operand_rules sigs ctx (more e (past (i + 1) es)) ns qs) (drop_more ps i p within ∙ ap (λ q. q ∷ drop (i + 1) ps) (sym same))

    pub operands_left : Decides (operand_rules sigs ctx (past i es) ns (drop i ps)) cs
        → Decides (own_operand_rules sigs ctx e (first ns) p >> operand_rules sigs ctx (past (i + 1) es) (rest ns) (drop (i + 1) ps)) cs
    operands_left d = subst (λ bs. Decides bs cs) operands_cut d

    pub operands_step : AllHold (own_operand_rules sigs ctx e (first ns) p)
        → Decides (operand_rules sigs ctx (past i es) ns (drop i ps)) cs → Decides (operand_rules sigs ctx (past (i + 1) es) (rest ns) (drop (i + 1) ps)) cs
    operands_step h d = decides-after (own_operand_rules sigs ctx e (first ns) p) _ cs h (operands_left d)

-- nothing is asked past the last parameter, or past the last operand
pub no_params_left : (sigs : List Signature) (ctx : List Binder) (es : Trees) (ns : Nodes) (ps : List Binder) (i : ℕ) → i ≡ length ps → AllHold (operand_rules sigs ctx es ns (drop i ps))
no_params_left sigs ctx es ns ps i end = subst (λ qs. AllHold (operand_rules sigs ctx es ns qs)) (sym (drop_all i ps (omega arith))) (go es)
  where
    go : (es : Trees) → AllHold (operand_rules sigs ctx es ns [])
    go none = tt
    go (more e es) = tt

pub no_operands_left : (sigs : List Signature) (ctx : List Binder) (es : Trees) (ns : Nodes) (ps : List Binder) (i : ℕ) → length (listed es) ≤ i → AllHold (operand_rules sigs ctx (past i es) ns ps)
no_operands_left sigs ctx es ns ps i end = at-end (λ fs. AllHold (operand_rules sigs ctx fs ns ps)) es i end tt

-- ---- conversions

pub convs_cut : (xs : List Conv) (i : ℕ) (c : Conv) → i < length xs → c ≡ get_or xs i c → conversions (drop i xs) ≡ more_convs (conversion c) (conversions (drop (i + 1) xs))
convs_cut xs i c below is = ap conversions (drop_more xs i c below) ∙ ap (λ x. more_convs (conversion x) (conversions (drop (i + 1) xs))) (sym is)

module _ (sigs : List Signature) (ctx : List Binder) (xs : List Conv) (i : ℕ) (c : Conv) (below : i < length xs) (is : c ≡ get_or xs i c)
    (ps : List Binder) (p : Binder) (within : i < length ps) (same : p ≡ get_or ps i p) (ns : Nodes) where
  pub sides_cut : side_rules sigs ctx (conversions (drop i xs)) ns (drop i ps)
      ≡ (own_side_rules sigs ctx (conversion c) (first ns) p >> side_rules sigs ctx (conversions (drop (i + 1) xs)) (rest ns) (drop (i + 1) ps))
  sides_cut = ap (λ cs. side_rules sigs ctx cs ns (drop i ps)) (convs_cut xs i c below is)
      ∙ ap (λ qs. side_rules sigs ctx (more_convs (conversion c) (conversions (drop (i + 1) xs))) ns qs) (drop_more ps i p within ∙ ap (λ q. q ∷ drop (i + 1) ps) (sym same))

pub no_sides_left : (sigs : List Signature) (ctx : List Binder) (cs : Conversions) (ns : Nodes) (ps : List Binder) (i : ℕ) → i ≡ length ps → AllHold (side_rules sigs ctx cs ns (drop i ps))
no_sides_left sigs ctx cs ns ps i end = subst (λ qs. AllHold (side_rules sigs ctx cs ns qs)) (sym (drop_all i ps (omega arith))) (go cs)
  where
    go : (cs : Conversions) → AllHold (side_rules sigs ctx cs ns [])
    go no_convs = tt
    go (more_convs c cs) = tt

pub no_dummies_left : (ctx : List Binder) (ys : List ℕ) (ns : Nodes) (bs : List Binder) (i : ℕ) → i ≡ length bs → AllHold (variable_rules ctx ys ns (drop i bs))
no_dummies_left ctx ys ns bs i end = subst (λ qs. AllHold (variable_rules ctx ys ns qs)) (sym (drop_all i bs (omega arith))) (go ys)
  where
    go : (ys : List ℕ) → AllHold (variable_rules ctx ys ns [])
    go [] = tt
    go (y ∷ ys) = tt

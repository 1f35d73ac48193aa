-- Steps of the checks of statements.
use Rattle.std.proofs.Common.{ℕ, ◌≡◌, ◌<◌, ◌+◌, Bool, List, ◌∷◌, length, get_or, drop, ap, sym, ◌∙◌, add-one}
use Rattle.std.proofs.lemmas.List.{drop_more}
use Rattle.mz_base.specs.Checks.{demand, ◌>>◌}
use Rattle.mz_sexpr.specs.declared.rule.U.{U}
use Rattle.mz_sexpr.specs.Node.{Nodes, place}
use Rattle.mz_sexpr.specs.Number.{first, rest}
use Rattle.mz_logic_theory.specs.Declaration.{Declaration, sorts}
use Rattle.mz_logic_theory.specs.Legality.{IsParam}
use Rattle.mz_logic_theory.specs.View.{tree, trees}
use Rattle.mz_logic_theory.specs.declared.binder.Binder.{Binder}
use Rattle.mz_logic_theory.specs.declared.expr.Expr.{Expr}
use Rattle.mz_mmu_theory.specs.FormOrder.{fault}
use Rattle.mz_mmu_theory.specs.Rules.{param_rules, claim_rules, claims_rules, hyp_node}
use Rattle.mz_type_rules.proofs.Steps.{trees_cut}

pub params_cut : (env : List Declaration) (ps : List Binder) (i : ℕ) (b : Binder) → i < length ps → b ≡ get_or ps i b → (ns : Nodes)
    → param_rules env ps i (drop i ps) ns
    ≡ (demand (fault (place (first ns)) U.Declaration) (IsParam (sorts env) ps i b) >> param_rules env ps (i + 1) (drop (i + 1) ps) (rest ns))
params_cut env ps i b below is ns =
    ap (λ bs. param_rules env ps i bs ns) (drop_more ps i b below ∙ ap (λ x. x ∷ drop (i + 1) ps) (sym is))
    ∙ ap (λ k. demand (fault (place (first ns)) U.Declaration) (IsParam (sorts env) ps i b) >> param_rules env ps k (drop (i + 1) ps) (rest ns)) (sym (add-one i))

pub claims_cut : (env : List Declaration) (ctx : List Binder) (ax : Bool) (xs : List Expr) (i : ℕ) (e : Expr) → i < length xs → e ≡ get_or xs i e → (ns : Nodes)
    → claims_rules env ctx ax (trees (drop i xs)) ns
    ≡ (claim_rules env ctx (tree e) (hyp_node ax (first ns)) >> claims_rules env ctx ax (trees (drop (i + 1) xs)) (rest ns))
claims_cut env ctx ax xs i e below is ns = ap (λ es. claims_rules env ctx ax es ns) (trees_cut xs i e below is)

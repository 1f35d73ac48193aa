-- The rules of an expression hold exactly where it has a sort, and those of a claim where this is provable.
use Rattle.std.proofs.Common.{ℕ, ◌≡◌, List, [], ◌∷◌, length, refl, sym, subst, arith, suc, ap}
use Rattle.std.proofs.lemmas.Option.{slice_get-get_or}
use Rattle.mz_base.specs.Checks.{AllHold, demand, ◌>>◌}
use Rattle.mz_sexpr.specs.Node.{Node, Nodes, place, parts}
use Rattle.mz_sexpr.specs.Number.{first, rest}
use Rattle.mz_sexpr.specs.declared.rule.U.{U}
use Rattle.mz_base.proofs.Offered.{all_hold-first, all_hold-rest, all_hold-both}
use Rattle.mz_logic_theory.specs.Tree.{Tree, Trees, var, app, none, more, listed, instances}
use Rattle.mz_logic_theory.specs.Signature.{Signature}
use Rattle.mz_logic_theory.specs.Declaration.{Declaration, sorts, signatures}
use Rattle.mz_logic_theory.specs.Modifiers.{MayBeClaimSort}
use Rattle.mz_logic_theory.specs.Sorts.{HasSort, Fits, HasProvable}
use Rattle.mz_logic_theory.specs.Legality.{binder_at, signature_at, sort_of}
use Rattle.mz_logic_theory.specs.declared.binder.Binder.{Binder}
use Rattle.mz_logic_theory.proofs.Offered.{sort_is, signature_is, many_of_fits}
use Rattle.mz_mmu_theory.specs.FormOrder.{fault}
use Rattle.mz_mmu_theory.specs.Rules.{expr_rules, exprs_rules, operand_rules, claim_rules}
use Rattle.mz_mmu_theory.specs.Names.{ExprThere, ExprsThere}

module _ (sigs : List Signature) (ctx : List Binder) where
  abbrev pub IsThere : Tree → Type 0
  IsThere e = ExprThere (length sigs) (length ctx) e

  abbrev pub AreThere : Trees → Type 0
  AreThere es = ExprsThere (length sigs) (length ctx) es

  mutual
    pub sort_by_checks : (e : Tree) (n : Node) → IsThere e → AllHold (expr_rules sigs ctx e n) → HasSort sigs ctx e (sort_of sigs ctx e)
    sort_by_checks (var x) n below all = (binder_at ctx x, slice_get-get_or ctx x _ below, refl)
    sort_by_checks (app t es) n (there, inner) all =
        let d = signature_at sigs t in
        let own = all_hold-rest (exprs_rules sigs ctx es (rest (parts n))) _ all in
        (d, slice_get-get_or sigs t _ there, refl, fits_by_checks es (rest (parts n)) (rest (parts n)) d.params inner (all_hold-first (exprs_rules sigs ctx es (rest (parts n))) _ all) own.0 own.1)

    pub fits_by_checks : (es : Trees) (ns ms : Nodes) (ps : List Binder) → AreThere es → AllHold (exprs_rules sigs ctx es ns)
        → length (listed es) ≡ length ps → AllHold (operand_rules sigs ctx es ms ps) → Fits sigs ctx es ps
    fits_by_checks none ns ms [] inner all many own = tt
    fits_by_checks (more e es) ns ms (p ∷ ps) (here, inner) all many (is, (bd, own)) = (
      subst (HasSort sigs ctx e) is (sort_by_checks e (first ns) here (all_hold-first (expr_rules sigs ctx e (first ns)) _ all)),
      bd,
      fits_by_checks es (rest ns) (rest ms) ps inner (all_hold-rest (expr_rules sigs ctx e (first ns)) _ all) (omega arith) own,
    )
    fits_by_checks _ ns ms _ inner all many own = absurd (omega arith)

  mutual
    pub checks_by_sort : (e : Tree) (n : Node) (s : ℕ) → HasSort sigs ctx e s → AllHold (expr_rules sigs ctx e n)
    checks_by_sort (var x) n s h = tt
    checks_by_sort (app t es) n s (d, at, is, fits) =
        let same : signature_at sigs t ≡ d = signature_is sigs t d at in
        all_hold-both (exprs_rules sigs ctx es (rest (parts n))) _ (checks_by_fits es (rest (parts n)) d.params fits)
        (subst (λ c. AllHold (demand (fault (place n) U.Arity) (length (listed es) ≡ length c.params) >> operand_rules sigs ctx es (rest (parts n)) c.params)) (sym same)
        (many_of_fits sigs ctx es d.params fits, operands_by_fits es (rest (parts n)) d.params fits))

    pub checks_by_fits : (es : Trees) (ns : Nodes) (ps : List Binder) → Fits sigs ctx es ps → AllHold (exprs_rules sigs ctx es ns)
    checks_by_fits none ns ps fits = tt
    checks_by_fits (more e es) ns [] fits = absurd fits
    checks_by_fits (more e es) ns (p ∷ ps) (h, bd, fits) =
        all_hold-both (expr_rules sigs ctx e (first ns)) _ (checks_by_sort e (first ns) p.sort h) (checks_by_fits es (rest ns) ps fits)

    pub operands_by_fits : (es : Trees) (ns : Nodes) (ps : List Binder) → Fits sigs ctx es ps → AllHold (operand_rules sigs ctx es ns ps)
    operands_by_fits (more e es) ns (p ∷ ps) (h, bd, fits) = (sort_is sigs ctx e p.sort h, (bd, operands_by_fits es (rest ns) ps fits))
    operands_by_fits _ ns _ fits = tt

-- ---- hypotheses, conclusions and gaps

module _ (env : List Declaration) (ctx : List Binder) where
  pub claim_from : (e : Tree) (n : Node) → ExprThere (length (signatures env)) (length ctx) e → AllHold (claim_rules env ctx e n) → HasProvable env ctx e
  claim_from e n there all =
      let A = expr_rules (signatures env) ctx e n in
      (sort_of (signatures env) ctx e, sort_by_checks (signatures env) ctx e n there (all_hold-first A _ all), (all_hold-rest A _ all).0)

  pub claim_to : (e : Tree) (n : Node) → HasProvable env ctx e → AllHold (claim_rules env ctx e n)
  claim_to e n (s, h, provable) =
      all_hold-both (expr_rules (signatures env) ctx e n) _ (checks_by_sort (signatures env) ctx e n s h)
      (subst (MayBeClaimSort (sorts env)) (sym (sort_is (signatures env) ctx e s h)) provable, tt)

pub instances_many : (fs es : Trees) → length (listed (instances fs es)) ≡ length (listed es)
instances_many fs none = refl
instances_many fs (more e es) = ap suc (instances_many fs es)

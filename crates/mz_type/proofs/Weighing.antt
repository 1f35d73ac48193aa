-- One part more of what is weighed.
use Rattle.std.proofs.Common.{ℕ, zero, suc, ◌≡◌, ◌<◌, ◌≤◌, ◌+◌, List, [], ◌∷◌, length, get_or, drop, refl, sym, ap, ◌∙◌, arith}
use Rattle.std.proofs.lemmas.List.{drop_more}
use Rattle.mz_logic_theory.specs.Declaration.{Form, plain_form, abstract_form, defined, Declaration, body_of, body_tree}
use Rattle.mz_logic_theory.specs.Tree.{Tree, Trees, var, app, none, more, operand, followed_by, variables, size, trees_size, instance, instances}
use Rattle.mz_logic_theory.specs.View.{tree, trees}
use Rattle.mz_logic_theory.specs.declared.expr.Expr.{Expr}
use Rattle.mz_mmu_theory.specs.ConvView.{conversion, conversions}
use Rattle.mz_mmu_theory.specs.Proof.{more_proofs}
use Rattle.mz_mmu_theory.specs.ProofCode.{proof_steps, proofs_steps}
use Rattle.mz_mmu_theory.specs.ProofView.{proof_view, proofs_view}
use Rattle.mz_mmu_theory.specs.declared.conv.Conv.{Conv}
use Rattle.mz_mmu_theory.specs.declared.proof.Proof.{Proof}
use Rattle.mz_type_rules.proofs.Offered.{convs_cut, trees_cut}
use Rattle.mz_mmu_theory.specs.Weight.{conv_weight, convs_weight, proof_weight, proofs_weight}

module _ (xs : List Expr) (i : ℕ) (e : Expr) (below : i < length xs) (is : e ≡ get_or xs i e) where
  pub size_cut : trees_size (trees (drop i xs)) ≡ size (tree e) + trees_size (trees (drop (i + 1) xs))
  size_cut = ap trees_size (trees_cut xs i e below is)

pub convs_weight_cut : (env : List Declaration) (xs : List Conv) (i : ℕ) (c : Conv) → i < length xs → c ≡ get_or xs i c
    → convs_weight env (conversions (drop i xs)) ≡ conv_weight env (conversion c) + convs_weight env (conversions (drop (i + 1) xs))
convs_weight_cut env xs i c below is = ap (convs_weight env) (convs_cut xs i c below is)

pub proofs_cut : (xs : List Proof) (i : ℕ) (p : Proof) → i < length xs → p ≡ get_or xs i p → proofs_view (drop i xs) ≡ more_proofs (proof_view p) (proofs_view (drop (i + 1) xs))
proofs_cut xs i p below is = ap proofs_view (drop_more xs i p below) ∙ ap (λ x. more_proofs (proof_view x) (proofs_view (drop (i + 1) xs))) (sym is)

pub proofs_weight_cut : (env : List Declaration) (xs : List Proof) (i : ℕ) (p : Proof) → i < length xs → p ≡ get_or xs i p
    → proofs_weight env (proofs_view (drop i xs)) ≡ proof_weight env (proof_view p) + proofs_weight env (proofs_view (drop (i + 1) xs))
proofs_weight_cut env xs i p below is = ap (proofs_weight env) (proofs_cut xs i p below is)

pub proofs_size_step : (xs : List Proof) (i : ℕ) (p : Proof) → i < length xs → p ≡ get_or xs i p → (m : ℕ) → proofs_steps (proofs_view (drop i xs)) ≤ m
    → (proof_steps (proof_view p) ≤ m) × (proofs_steps (proofs_view (drop (i + 1) xs)) ≤ m)
proofs_size_step xs i p below is m h = (omega (arith, ap proofs_steps (proofs_cut xs i p below is)), omega (arith, ap proofs_steps (proofs_cut xs i p below is)))

-- ---- instances of bodies and conclusions

-- a variable weighs as much as what stands for a missing operand
operand_same : (es : Trees) (ys : List ℕ) (x : ℕ) → size (operand (followed_by es (variables ys)) x) ≡ size (operand es x)
operand_same none (y ∷ ys) (suc x) = operand_same none ys x
operand_same (more e es) ys (suc x) = operand_same es ys x
operand_same _ _ _ = refl

mutual
  pub same_size : (es : Trees) (ys : List ℕ) (e : Tree) → size (instance (followed_by es (variables ys)) e) ≡ size (instance es e)
  same_size es ys (var x) = operand_same es ys x
  same_size es ys (app t fs) = ap suc (all_same_size es ys fs)

  pub all_same_size : (es : Trees) (ys : List ℕ) (fs : Trees) → trees_size (instances (followed_by es (variables ys)) fs) ≡ trees_size (instances es fs)
  all_same_size es ys none = refl
  all_same_size es ys (more f fs) = ap (λ n. n + trees_size (instances (followed_by es (variables ys)) fs)) (same_size es ys f) ∙ ap (λ n. size (instance es f) + n) (all_same_size es ys fs)

pub body_none : (f : Form) → body_of f ≡ none → body_tree f ≡ app 0 none
body_none (defined ds e) h = absurd (let k : more e none ≡ none = h in cc)
body_none _ h = refl

-- How many steps a proof takes, its lets written out at each name: for the end of the loop alone (this project's own).
use Rattle.std.specs.Prelude.{ℕ, ◌+◌, ◌*◌, List, [], ◌∷◌, ◌++◌, get_or}
use Rattle.mz_logic_theory.specs.Tree.{Tree, app, instance, followed_by, variables, size, trees_size}
use Rattle.mz_logic_theory.specs.Declaration.{plain_form, Declaration, terms, body_tree}
use Rattle.mz_logic_theory.specs.Conversions.{Conversion, Conversions, refl_conv, sym_conv, cong_conv, unfold_conv, gap_conv, no_convs, more_convs}
use Rattle.mz_mmu_theory.specs.Proof.{Proof, Proofs, by_hyp, by_name, by_citation, by_conv, by_let, by_gap, no_proofs, more_proofs}
use Rattle.mz_emit_theory.specs.Claims.{conclusion_of}

abbrev pub body_at : List Declaration → ℕ → Tree
body_at env t = body_tree (get_or (terms env) t (record { signature = record { params = []; result = record { sort = 0; deps = [] } }; form = plain_form })).form

abbrev mutual
  pub pay_cost : List Declaration → Conversion → ℕ
  pay_cost env (refl_conv e) = 1
  pay_cost env (sym_conv c) = 1 + pay_cost env c
  pay_cost env (cong_conv t cs) = 1 + pay_costs env cs
  pay_cost env (unfold_conv t es ys c) = 2 + 2 * size (app t es) + 2 * size (instance (followed_by es (variables ys)) (body_at env t)) + pay_cost env c
  pay_cost env (gap_conv l r) = 1

  pub pay_costs : List Declaration → Conversions → ℕ
  pay_costs env no_convs = 1
  pay_costs env (more_convs c cs) = 1 + pay_cost env c + pay_costs env cs

abbrev mutual
  pub cost : List Declaration → List ℕ → Proof → ℕ
  cost env lets (by_hyp i) = 1
  cost env lets (by_name i) = 2 + get_or lets i 0
  cost env lets (by_citation T es ps) = 3 + 2 * trees_size es + 2 * size (instance es (conclusion_of env T)) + costs env lets ps
  cost env lets (by_conv e c p) = 2 + 2 * size e + pay_cost env c + cost env lets p
  cost env lets (by_let p q) = 1 + cost env (lets ++ cost env lets p ∷ []) q
  cost env lets (by_gap e) = 2 + 2 * size e

  pub costs : List Declaration → List ℕ → Proofs → ℕ
  costs env lets no_proofs = 1
  costs env lets (more_proofs p ps) = 1 + cost env lets p + costs env lets ps

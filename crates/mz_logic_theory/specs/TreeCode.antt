-- How a list of trees is stored: as tokens in preorder.
use Rattle.std.specs.Prelude.{ℕ, zero, suc, ◌≡◌, List, [], ◌∷◌, refl}
use Rattle.std.specs.Coded.{Coded, code_by, coded×, coded_ℕ, coded_list}
use Rattle.std.proofs.Common.{ap, ◌∙◌}
use Rattle.mz_logic_theory.specs.Tree.{Tree, Trees, var, app, none, more}

abbrev mutual
  pub put_tree : Tree → List (ℕ × ℕ) → List (ℕ × ℕ)
  put_tree (var x) k = (0, x) ∷ k
  put_tree (app t es) k = (1, t) ∷ put_trees es k

  pub put_trees : Trees → List (ℕ × ℕ) → List (ℕ × ℕ)
  put_trees none k = (2, 0) ∷ k
  put_trees (more e es) k = (3, 0) ∷ put_tree e (put_trees es k)

abbrev pub head_onto : Trees → Trees → Trees
head_onto none es = es
head_onto (more e _) es = more e es

abbrev pub join_two : List Trees → List Trees
join_two (a ∷ b ∷ rest) = head_onto a b ∷ rest
join_two _ = []

abbrev pub apply_top : ℕ → List Trees → List Trees
apply_top t (es ∷ rest) = more (app t es) none ∷ rest
apply_top t _ = []

abbrev pub take_token : ℕ → ℕ → List Trees → List Trees
take_token zero n stack = more (var n) none ∷ stack
take_token (suc zero) n stack = apply_top n stack
take_token (suc (suc zero)) n stack = none ∷ stack
take_token (suc (suc (suc _))) n stack = join_two stack

abbrev pub read_tokens : List (ℕ × ℕ) → List Trees
read_tokens [] = []
read_tokens (x ∷ xs) = take_token x.0 x.1 (read_tokens xs)

mutual
  pub read_put_tree : (e : Tree) (k : List (ℕ × ℕ)) → read_tokens (put_tree e k) ≡ more e none ∷ read_tokens k
  read_put_tree (var x) k = refl
  read_put_tree (app t es) k = ap (apply_top t) (read_put_trees es k)

  pub read_put_trees : (es : Trees) (k : List (ℕ × ℕ)) → read_tokens (put_trees es k) ≡ es ∷ read_tokens k
  read_put_trees none k = refl
  read_put_trees (more e es) k =
      ap join_two (read_put_tree e (put_trees es k) ∙ ap (λ s. more e none ∷ s) (read_put_trees es k))

abbrev pub head_trees : List Trees → Trees
head_trees [] = none
head_trees (es ∷ _) = es

abbrev pub trees_code : Coded Trees
trees_code =
    code_by (List (ℕ × ℕ)) (coded_list (coded× coded_ℕ coded_ℕ)) (λ es. put_trees es []) (λ k. head_trees (read_tokens k)) (λ es. ap head_trees (read_put_trees es []))

abbrev pub head_tree : List Trees → Tree
head_tree (more e _ ∷ _) = e
head_tree _ = var 0

abbrev pub tree_code : Coded Tree
tree_code =
    code_by (List (ℕ × ℕ)) (coded_list (coded× coded_ℕ coded_ℕ)) (λ e. put_tree e []) (λ k. head_tree (read_tokens k)) (λ e. ap head_tree (read_put_tree e []))

-- How operands are stored: as tokens in preorder, each application with its number.
use Rattle.std.specs.Prelude.{ℕ, zero, suc, ◌≡◌, List, [], ◌∷◌, refl}
use Rattle.std.specs.Coded.{Coded, code_by, coded×, coded_ℕ, coded_list}
use Rattle.std.proofs.Common.{ap, ◌∙◌}
use Rattle.mz_pmachine_theory.specs.NodeIdentity.{Numbered, Operands, a_variable, an_application, no_more, one_more}

abbrev mutual
  pub put_expr : Numbered → List (ℕ × (ℕ × ℕ)) → List (ℕ × (ℕ × ℕ))
  put_expr (a_variable x) k = (0, (x, 0)) ∷ k
  put_expr (an_application n t es) k = (1, (n, t)) ∷ put_exprs es k

  pub put_exprs : Operands → List (ℕ × (ℕ × ℕ)) → List (ℕ × (ℕ × ℕ))
  put_exprs no_more k = (2, (0, 0)) ∷ k
  put_exprs (one_more e es) k = (3, (0, 0)) ∷ put_expr e (put_exprs es k)

abbrev pub head_onto : Operands → Operands → Operands
head_onto no_more es = es
head_onto (one_more e _) es = one_more e es

abbrev pub join_two : List Operands → List Operands
join_two (a ∷ b ∷ rest) = head_onto a b ∷ rest
join_two _ = []

abbrev pub apply_top : ℕ → ℕ → List Operands → List Operands
apply_top n t (es ∷ rest) = one_more (an_application n t es) no_more ∷ rest
apply_top n t _ = []

abbrev pub take_token : ℕ → ℕ → ℕ → List Operands → List Operands
take_token zero n t stack = one_more (a_variable n) no_more ∷ stack
take_token (suc zero) n t stack = apply_top n t stack
take_token (suc (suc zero)) n t stack = no_more ∷ stack
take_token (suc (suc (suc _))) n t stack = join_two stack

abbrev pub read_tokens : List (ℕ × (ℕ × ℕ)) → List Operands
read_tokens [] = []
read_tokens (x ∷ xs) = take_token x.0 x.1.0 x.1.1 (read_tokens xs)

mutual
  pub read_put_expr : (e : Numbered) (k : List (ℕ × (ℕ × ℕ))) → read_tokens (put_expr e k) ≡ one_more e no_more ∷ read_tokens k
  read_put_expr (a_variable x) k = refl
  read_put_expr (an_application n t es) k = ap (apply_top n t) (read_put_exprs es k)

  pub read_put_exprs : (es : Operands) (k : List (ℕ × (ℕ × ℕ))) → read_tokens (put_exprs es k) ≡ es ∷ read_tokens k
  read_put_exprs no_more k = refl
  read_put_exprs (one_more e es) k =
      ap join_two (read_put_expr e (put_exprs es k) ∙ ap (λ s. one_more e no_more ∷ s) (read_put_exprs es k))

abbrev pub head_exprs : List Operands → Operands
head_exprs [] = no_more
head_exprs (es ∷ _) = es

abbrev pub operands_code : Coded Operands
operands_code =
    code_by (List (ℕ × (ℕ × ℕ))) (coded_list (coded× coded_ℕ (coded× coded_ℕ coded_ℕ))) (λ es. put_exprs es []) (λ k. head_exprs (read_tokens k)) (λ es. ap head_exprs (read_put_exprs es []))

abbrev pub first_expr : Operands → Numbered
first_expr no_more = a_variable 0
first_expr (one_more e es) = e

abbrev pub expr_code : Coded Numbered
expr_code = code_by Operands operands_code (λ e. one_more e no_more) first_expr (λ _. refl)

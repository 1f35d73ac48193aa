-- How a list of conversions is stored: as tokens in preorder.
use Rattle.std.specs.Prelude.{ℕ, zero, suc, ◌+◌, ◌≡◌, List, [], ◌∷◌, refl}
use Rattle.std.specs.Coded.{Coded, code_by, coded×, coded_ℕ, coded_list}
use Rattle.std.proofs.Common.{ap, ◌∙◌}
use Rattle.mz_logic_theory.specs.Tree.{Trees, app, none, more, operand}
use Rattle.mz_logic_theory.specs.TreeCode.{trees_code}
use Rattle.mz_logic_theory.specs.Conversions.{Conversion, Conversions, refl_conv, sym_conv, cong_conv, unfold_conv, gap_conv, no_convs, more_convs}

abbrev pub Mark : Type 0
Mark = (ℕ × ℕ) × (Trees × List ℕ)

abbrev mutual
  pub put_conv : Conversion → List Mark → List Mark
  put_conv (refl_conv e) k = ((0, 0), (more e none, [])) ∷ k
  put_conv (sym_conv c) k = ((1, 0), (none, [])) ∷ put_conv c k
  put_conv (cong_conv t cs) k = ((2, t), (none, [])) ∷ put_convs cs k
  put_conv (unfold_conv t es ys c) k = ((3, t), (es, ys)) ∷ put_conv c k
  put_conv (gap_conv l r) k = ((6, 0), (more l (more r none), [])) ∷ k

  pub put_convs : Conversions → List Mark → List Mark
  put_convs no_convs k = ((4, 0), (none, [])) ∷ k
  put_convs (more_convs c cs) k = ((5, 0), (none, [])) ∷ put_conv c (put_convs cs k)

abbrev pub one_conv : Conversion → Conversions
one_conv c = more_convs c no_convs

abbrev pub head_conv : Conversions → Conversion
head_conv no_convs = refl_conv (app 0 none)
head_conv (more_convs c _) = c

abbrev pub on_top : (Conversions → Conversions) → List Conversions → List Conversions
on_top f [] = []
on_top f (cs ∷ rest) = f cs ∷ rest

abbrev pub join_top : List Conversions → List Conversions
join_top (a ∷ b ∷ rest) = more_convs (head_conv a) b ∷ rest
join_top _ = []

abbrev pub take_mark : ℕ → ℕ → Trees → List ℕ → List Conversions → List Conversions
take_mark zero t es ys st = one_conv (refl_conv (operand es 0)) ∷ st
take_mark (suc zero) t es ys st = on_top (λ cs. one_conv (sym_conv (head_conv cs))) st
take_mark (suc (suc zero)) t es ys st = on_top (λ cs. one_conv (cong_conv t cs)) st
take_mark (suc (suc (suc zero))) t es ys st = on_top (λ cs. one_conv (unfold_conv t es ys (head_conv cs))) st
take_mark (suc (suc (suc (suc zero)))) t es ys st = no_convs ∷ st
take_mark (suc (suc (suc (suc (suc zero))))) t es ys st = join_top st
take_mark (suc (suc (suc (suc (suc (suc _)))))) t es ys st = one_conv (gap_conv (operand es 0) (operand es 1)) ∷ st

abbrev pub read_marks : List Mark → List Conversions
read_marks [] = []
read_marks (m ∷ ms) = take_mark m.0.0 m.0.1 m.1.0 m.1.1 (read_marks ms)

mutual
  pub read_put_conv : (c : Conversion) (k : List Mark) → read_marks (put_conv c k) ≡ one_conv c ∷ read_marks k
  read_put_conv (refl_conv e) k = refl
  read_put_conv (sym_conv c) k = ap (on_top (λ cs. one_conv (sym_conv (head_conv cs)))) (read_put_conv c k)
  read_put_conv (cong_conv t cs) k = ap (on_top (λ cs. one_conv (cong_conv t cs))) (read_put_convs cs k)
  read_put_conv (unfold_conv t es ys c) k = ap (on_top (λ cs. one_conv (unfold_conv t es ys (head_conv cs)))) (read_put_conv c k)
  read_put_conv (gap_conv l r) k = refl

  pub read_put_convs : (cs : Conversions) (k : List Mark) → read_marks (put_convs cs k) ≡ cs ∷ read_marks k
  read_put_convs no_convs k = refl
  read_put_convs (more_convs c cs) k = ap join_top (read_put_conv c (put_convs cs k)) ∙ ap (λ s. join_top (one_conv c ∷ s)) (read_put_convs cs k)

abbrev pub top_convs : List Conversions → Conversions
top_convs [] = no_convs
top_convs (cs ∷ _) = cs

abbrev pub convs_code : Coded Conversions
convs_code = code_by (List Mark) (coded_list (coded× (coded× coded_ℕ coded_ℕ) (coded× trees_code (coded_list coded_ℕ))))
    (λ cs. put_convs cs []) (λ k. top_convs (read_marks k)) (λ cs. ap top_convs (read_put_convs cs []))

abbrev pub conv_code : Coded Conversion
conv_code = code_by Conversions convs_code (λ c. one_conv c) (λ cs. head_conv cs) (λ _. refl)

-- how many steps it has
abbrev mutual
  pub conv_steps : Conversion → ℕ
  conv_steps (refl_conv e) = 1
  conv_steps (sym_conv c) = 1 + conv_steps c
  conv_steps (cong_conv t cs) = 1 + convs_steps cs
  conv_steps (unfold_conv t es ys c) = 1 + conv_steps c
  conv_steps (gap_conv l r) = 1

  pub convs_steps : Conversions → ℕ
  convs_steps no_convs = 0
  convs_steps (more_convs c cs) = conv_steps c + convs_steps cs

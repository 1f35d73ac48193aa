-- How large an expression becomes where operands are put in, from what is counted of it once.
use Rattle.std.specs.Prelude.{ℕ, zero, suc, ◌≡◌, ◌+◌, ◌*◌, ⊤, List, [], ◌∷◌, map}
use Rattle.mz_logic_theory.specs.Tree.{Tree, Trees, var, app, none, more, instance, size, trees_size}
use Rattle.mz_logic_theory.specs.Declaration.{Declaration, terms, assertions, body_tree}
use Rattle.mz_type.specs.declared.instance_sizes.Shape.{Shape}

-- one more use of the variable at the place; none past the end
abbrev pub one_more : List ℕ → ℕ → List ℕ
one_more [] x = []
one_more (u ∷ us) zero = (u + 1) ∷ us
one_more (u ∷ us) (suc x) = u ∷ one_more us x

-- the uses of each variable, added to those so far
abbrev mutual
  pub counted : List ℕ → Tree → List ℕ
  counted us (var x) = one_more us x
  counted us (app t es) = all_counted us es

  pub all_counted : List ℕ → Trees → List ℕ
  all_counted us none = us
  all_counted us (more e es) = all_counted (counted us e) es

-- what stands under the first sign
abbrev pub beneath : Tree → ℕ
beneath (var x) = 0
beneath (app t es) = trees_size es

-- by how much the operands are larger than the variables in whose place they stand
abbrev pub put_on : Trees → List ℕ → ℕ
put_on none us = 0
put_on (more e es) [] = 0
put_on (more e es) (u ∷ us) = u * beneath e + put_on es us

-- the shape says how large the expression becomes
abbrev pub IsShapeOf : Shape → Tree → Type 0
IsShapeOf shape e = (es : Trees) → size (instance es e) ≡ shape.own + put_on es shape.uses.items

-- the shapes of these expressions, in order
abbrev pub AreShapes : List Shape → List Tree → Type 0
AreShapes [] [] = ⊤
AreShapes [] (e ∷ es) = ⊥
AreShapes (s ∷ ss) [] = ⊥
AreShapes (s ∷ ss) (e ∷ es) = IsShapeOf s e × AreShapes ss es

-- the bodies of an environment's terms, and its conclusions
abbrev pub bodies_of : List Declaration → List Tree
bodies_of env = map (λ d. body_tree d.form) (terms env)

abbrev pub conclusions_of : List Declaration → List Tree
conclusions_of env = map (λ a. a.conclusion) (assertions env)

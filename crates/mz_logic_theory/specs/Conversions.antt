-- Conversions: that two expressions are equal by unfolding definitions (Carneiro, the rules of
-- conversion).
use Rattle.std.specs.Prelude.{ℕ, ◌≡◌, ⊤, true, List, [], ◌∷◌, slice_get, Contains, Some}
use Rattle.mz_logic_theory.specs.Tree.{Tree, Trees, app, none, more, instance, followed_by, variables}
use Rattle.mz_logic_theory.specs.Declaration.{Term, defined, Declaration, terms, signatures}
use Rattle.mz_logic_theory.specs.Sorts.{HasSort, Fits, IsSorted}
use Rattle.mz_logic_theory.specs.Variables.{InSomeV}
use Rattle.mz_logic_theory.specs.declared.binder.Binder.{Binder}

-- e is e; the sides turned; under a term; and a definition's unfolding, with the operands es for its
-- parameters and the variables ys for its dummies, followed by a conversion of the body; and a gap, from
-- l to r
mutual
  pub data Conversion : Type 0 where
    refl_conv : Tree → Conversion
    sym_conv : Conversion → Conversion
    cong_conv : ℕ → Conversions → Conversion
    unfold_conv : ℕ → Trees → List ℕ → Conversion → Conversion
    gap_conv : Tree → Tree → Conversion

  pub data Conversions : Type 0 where
    no_convs : Conversions
    more_convs : Conversion → Conversions → Conversions

-- the term t has this declaration, dummies and body
abbrev pub IsDefined : List Declaration → ℕ → Term → List Binder → Tree → Type 0
IsDefined env t d dummies body = (slice_get (terms env) t ≡ Some d) × (d.form ≡ defined dummies body)

-- y is a bound variable of the sort s
abbrev pub IsBoundOf : List Binder → ℕ → ℕ → Type 0
IsBoundOf ctx y s = (b : Binder) × (slice_get ctx y ≡ Some b) × (b.bound ≡ true) × (b.sort ≡ s)

-- the ys are distinct bound variables of the dummies' sorts, none in V of an operand
abbrev pub AreFresh : List Binder → Trees → List ℕ → List Binder → Type 0
AreFresh ctx es [] [] = ⊤
AreFresh ctx es [] (b ∷ bs) = ⊥
AreFresh ctx es (y ∷ ys) [] = ⊥
AreFresh ctx es (y ∷ ys) (b ∷ bs) = IsBoundOf ctx y b.sort × (InSomeV ctx y es → ⊥) × (Contains ys y → ⊥) × AreFresh ctx es ys bs

-- c goes from l to r, and both have a sort
abbrev mutual
  pub Between : List Declaration → List Binder → Conversion → Tree → Tree → Type 0
  Between env ctx (refl_conv e) l r = IsSorted env ctx l × IsSorted env ctx r × (l ≡ e) × (r ≡ e)
  Between env ctx (sym_conv c) l r = IsSorted env ctx l × IsSorted env ctx r × Between env ctx c r l
  Between env ctx (cong_conv t cs) l r = IsSorted env ctx l × IsSorted env ctx r
      × ((ls : Trees) × (rs : Trees) × (l ≡ app t ls) × (r ≡ app t rs) × AllBetween env ctx cs ls rs)
  Between env ctx (unfold_conv t es ys c) l r = IsSorted env ctx l × IsSorted env ctx r × (l ≡ app t es)
      × ((d : Term) × (dummies : List Binder) × (body : Tree) × IsDefined env t d dummies body
      × Fits (signatures env) ctx es d.signature.params × AreFresh ctx es ys dummies
      × Between env ctx c (instance (followed_by es (variables ys)) body) r)
  Between env ctx (gap_conv a b) l r = IsSorted env ctx l × IsSorted env ctx r × (l ≡ a) × (r ≡ b)
      × ((s : ℕ) × HasSort (signatures env) ctx l s × HasSort (signatures env) ctx r s)

  pub AllBetween : List Declaration → List Binder → Conversions → Trees → Trees → Type 0
  AllBetween env ctx no_convs none none = ⊤
  AllBetween env ctx no_convs none (more r rs) = ⊥
  AllBetween env ctx no_convs (more l ls) rs = ⊥
  AllBetween env ctx (more_convs c cs) none rs = ⊥
  AllBetween env ctx (more_convs c cs) (more l ls) none = ⊥
  AllBetween env ctx (more_convs c cs) (more l ls) (more r rs) = Between env ctx c l r × AllBetween env ctx cs ls rs

-- a gap stands in the conversion only where G holds
abbrev mutual
  pub GapsOnly : Type 0 → Conversion → Type 0
  GapsOnly G (refl_conv e) = ⊤
  GapsOnly G (sym_conv c) = GapsOnly G c
  GapsOnly G (cong_conv t cs) = AllGapsOnly G cs
  GapsOnly G (unfold_conv t es ys c) = GapsOnly G c
  GapsOnly G (gap_conv l r) = G

  pub AllGapsOnly : Type 0 → Conversions → Type 0
  AllGapsOnly G no_convs = ⊤
  AllGapsOnly G (more_convs c cs) = GapsOnly G c × AllGapsOnly G cs

-- Parameters, one after another, each behind those before it.
use Rattle.std.proofs.Common.{◌≡◌, ◌∙◌, ◌++◌, ◌<◌, ◌≤◌, ◌+◌, ◌↔◌, ◌⊎◌, ℕ, zero, suc, Bool, true, List, [], ◌∷◌, length, map, take, drop, get_or, Option, Some, ap, sym, subst, inl, inr, arith}
use Rattle.mz_lex.specs.Lexemes.{Lexeme}
use Rattle.mz_spec_theory.specs.StatementCode.{type_text}
use Rattle.mz_spec_theory.specs.Statement.{TypeText}
use Rattle.mz_logic_theory.proofs.Offered.{one_at}
use Rattle.mz_spec_variables.specs.Code.{IsOfTypes, IsTypedBy, typed, variable}
use Rattle.mz_spec_variables.specs.declared.variables.Variable.{Variable as VariableRead}
use Rattle.mz_spec_theory.specs.Dependencies.{Every, IsBoundAmong}
use Rattle.mz_spec_theory.specs.View.{Variable}
use Rattle.mz_logic_theory.specs.Modifiers.{IsFree, IsStrict}
use Rattle.mz_spec_theory.specs.Rules.{HasSortThat, IsBinder, AreBinders, IsDummySort}
use Rattle.mz_spec_theory.specs.State.{State}
use Rattle.std.proofs.lemmas.List.{map-append}
use Rattle.mz_base.proofs.Offered.{drop-item, drop-past}

take-next : {X : Type 0} → (xs : List X) (i : ℕ) (x : X) → i < length xs → x ≡ get_or xs i x → take (suc i) xs ≡ take i xs ++ x ∷ []
take-next [] i x below is = absurd (omega (arith, below))
take-next (y ∷ []) zero x below is = ap (λ z. z ∷ []) (sym is)
take-next (y ∷ z ∷ zs) zero x below is = ap (λ z. z ∷ []) (sym is)
take-next (y ∷ ys) (suc i) x below is = ap (λ zs. y ∷ zs) (take-next ys i x (omega (arith, below)) is)

seen-next : (xs : List VariableRead) (i : ℕ) (x : VariableRead) → i < length xs → x ≡ get_or xs i x → map variable (take i xs) ++ variable x ∷ [] ≡ map variable (take (i + 1) xs)
seen-next xs i x below is = sym (map-append variable (take i xs) (x ∷ [])) ∙ ap (map variable) (sym (take-next xs i x below is) ∙ (let on : suc i ≡ i + 1 = omega arith in ap (λ n. take n xs) on))

module _ (σ : State) (xs : List VariableRead) (i : ℕ) (x : VariableRead) (below : i < length xs) (is : x ≡ get_or xs i x) (W : Type 0)
    (left : AreBinders σ (map variable (take i xs)) (map variable (drop i xs)) ↔ W) where
  cut : AreBinders σ (map variable (take i xs)) (variable x ∷ map variable (drop (i + 1) xs)) ↔ W
  cut = subst (λ ys. AreBinders σ (map variable (take i xs)) (map variable ys) ↔ W) (drop-item xs i x below is) left

  pub binders-step : IsBinder σ (map variable (take i xs)) (variable x) → AreBinders σ (map variable (take (i + 1) xs)) (map variable (drop (i + 1) xs)) ↔ W
  binders-step here = subst (λ ys. AreBinders σ ys (map variable (drop (i + 1) xs)) ↔ W) (seen-next xs i x below is) ((λ rest. cut.0 (here, rest)), (λ w. (cut.1 w).1))

  pub binders-out : (IsBinder σ (map variable (take i xs)) (variable x) → ⊥) → W → ⊥
  binders-out out w = out (cut.1 w).0

-- ---- within a group

pub every-at : {X Y : Type 0} → (f : X → Y) (P : Y → Type 0) (xs : List X) (i : ℕ) (x : X) → i < length xs → x ≡ get_or xs i x → Every P (map f xs) → P (f x)
every-at f P [] i x below is all = absurd (omega (arith, below))
every-at f P (y ∷ ys) zero x below is (p, all) = subst (λ z. P (f z)) (sym is) p
every-at f P (y ∷ ys) (suc i) x below is (p, all) = every-at f P ys i x (omega (arith, below)) is all

every-weaker : {A : Type 0} → (P Q : A → Type 0) → ((x : A) → P x → Q x) → (xs : List A) → Every P xs → Every Q xs
every-weaker P Q weaker [] all = tt
every-weaker P Q weaker (x ∷ xs) (p, all) = (weaker x p, every-weaker P Q weaker xs all)

bound-longer : (vs us : List Variable) (l : Lexeme) → IsBoundAmong vs l → IsBoundAmong (vs ++ us) l
bound-longer [] us l one = absurd one
bound-longer (v ∷ vs) us l (inl here) = inl here
bound-longer (v ∷ vs) us l (inr one) = inr (bound-longer vs us l one)

-- a variable of the type is a binder behind these, where it is bound or not
abbrev pub IsBinderOf : State → List Variable → Bool → TypeText → Type 0
IsBinderOf σ vs b t = (b ≡ true → (t.deps ≡ []) × (HasSortThat σ IsStrict t → ⊥)) × Every (IsBoundAmong vs) t.deps

-- the group's variables, where there is one, are binders behind these
abbrev pub IsGroupBehind : State → (ℕ → Option TypeText) → List Variable → Option ℕ → Bool → Type 0
IsGroupBehind σ types vs o b = (g : ℕ) (t : TypeText) → o ≡ Some g → types g ≡ Some t → IsBinderOf σ vs b t

-- the group's sort, where there is one, is one of dummies
abbrev pub IsGroupDummy : State → (ℕ → Option TypeText) → Option ℕ → Type 0
IsGroupDummy σ types o = (g : ℕ) (t : TypeText) → o ≡ Some g → types g ≡ Some t → HasSortThat σ (λ m. IsStrict m ⊎ IsFree m) t → ⊥

module _ (types : ℕ → Option TypeText) (xs : List VariableRead) (i : ℕ) (x : VariableRead) (below : i < length xs) (is : x ≡ get_or xs i x) (all : Every (IsOfTypes types) (map typed xs)) where
  -- the variable has its group's type
  pub typed-at : (g : ℕ) → x.group ≡ Some g → types g ≡ Some (type_text x.ty.now)
  typed-at g own = subst (λ o. IsTypedBy types o (type_text x.ty.now)) own (every-at typed (IsOfTypes types) xs i x below is all)

  -- so what holds of it is known of its group
  pub group-step : (σ : State) → IsBinder σ (map variable (take i xs)) (variable x) → IsGroupBehind σ types (map variable (take (i + 1) xs)) x.group x.is_bound
  group-step σ here = λ g t own told.
      let longer : (l : Lexeme) → IsBoundAmong (map variable (take i xs)) l → IsBoundAmong (map variable (take (i + 1) xs)) l = λ l one.
      subst (λ vs. IsBoundAmong vs l) (seen-next xs i x below is) (bound-longer (map variable (take i xs)) (variable x ∷ []) l one) in
      subst (IsBinderOf σ (map variable (take (i + 1) xs)) x.is_bound) (one_at (typed-at g own) told)
      (here.0, every-weaker (IsBoundAmong (map variable (take i xs))) (IsBoundAmong (map variable (take (i + 1) xs))) longer (type_text x.ty.now).deps here.1)

  -- and so of its sort, where it is a dummy's
  pub dummy-step : (σ : State) → IsDummySort σ (variable x) → IsGroupDummy σ types x.group
  dummy-step σ here = λ g t own told. subst (λ u. HasSortThat σ (λ m. IsStrict m ⊎ IsFree m) u → ⊥) (one_at (typed-at g own) told) here

-- ---- dummies, one after another

module _ (P : Variable → Type 0) (xs : List VariableRead) (i : ℕ) (W : Type 0) (left : Every P (map variable (drop i xs)) ↔ W) where
  module _ (x : VariableRead) (below : i < length xs) (is : x ≡ get_or xs i x) where
    whole : Every P (variable x ∷ map variable (drop (i + 1) xs)) ↔ W
    whole = subst (λ ys. Every P (map variable ys) ↔ W) (drop-item xs i x below is) left

    pub each-step : P (variable x) → Every P (map variable (drop (i + 1) xs)) ↔ W
    each-step here = ((λ rest. whole.0 (here, rest)), (λ w. (whole.1 w).1))

    pub each-out : (P (variable x) → ⊥) → W → ⊥
    each-out out w = out (whole.1 w).0

  pub each-end : length xs ≤ i → W
  each-end past = left.0 (subst (λ ys. Every P (map variable ys)) (sym (drop-past xs i past)) tt)

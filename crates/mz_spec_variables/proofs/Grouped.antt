-- Groups, whose variables have one type.
use Rattle.std.proofs.Common.{◌≡◌, ◌+◌, ◌++◌, ℕ, suc, List, [], ◌∷◌, map, Bool, true, false, Option, Some, None, slice_get, sym, refl, subst, arith}
use Rattle.std.specs.Prelude.{⊤, if◌then◌else◌}
use Rattle.mz_spec_theory.specs.Statement.{Group, NameText, Source, type_source, formula_source, TypeText}
use Rattle.mz_spec_variables.specs.Code.{AreGrouped, IsOfTypes, Typed, dummies_read, params_read, typed, typed_alone, typed_group, typed_groups, typed_in, typed_names}
use Rattle.mz_spec_variables.specs.declared.variables.Variable.{Variable as VariableRead}
use Rattle.mz_spec_theory.specs.Dependencies.{Every}
use Rattle.mz_spec_theory.proofs.Offered.{every-join-Places as every-join}

-- ---- the types of groups, by their numbers

abbrev source_type : Source → Option TypeText
source_type (type_source t) = Some t
source_type (formula_source f) = None

abbrev group_type : Option Group → Option TypeText
group_type None = None
group_type (Some g) = source_type g.source

abbrev types_by : List Group → ℕ → Option TypeText
types_by gs i = group_type (slice_get gs i)

-- it is the type that stands there, where one does
abbrev IsTypeOf : Source → Option TypeText → Type 0
IsTypeOf (type_source t) o = o ≡ Some t
IsTypeOf (formula_source f) o = ⊤

own-type : (s : Source) → IsTypeOf s (source_type s)
own-type (type_source t) = refl
own-type (formula_source f) = tt

module _ (types : ℕ → Option TypeText) where
  of-names : (i : ℕ) (t : TypeText) → types i ≡ Some t → (ns : List NameText) → Every (IsOfTypes types) (map (λ n. typed_in i t) ns)
  of-names i t is [] = tt
  of-names i t is (n ∷ ns) = (is, of-names i t is ns)

  of-source : (i : ℕ) (ns : List NameText) (s : Source) → IsTypeOf s (types i) → Every (IsOfTypes types) (typed_names i ns s)
  of-source i ns (type_source t) is = of-names i t is ns
  of-source i ns (formula_source f) is = tt

  of-groups : (i : ℕ) (gs : List Group) → ((k : ℕ) (g : Group) → slice_get gs k ≡ Some g → IsTypeOf g.source (types (i + k))) → Every (IsOfTypes types) (typed_groups i gs)
  of-groups i [] each = tt
  of-groups i (g ∷ gs) each =
      every-join (IsOfTypes types) (typed_group i g) (typed_groups (i + 1) gs)
      (of-source i g.names g.source (subst (λ j. IsTypeOf g.source (types j)) (let e : i + 0 ≡ i = omega arith in e) (each 0 g refl)))
      (of-groups (i + 1) gs (λ k h at. subst (λ j. IsTypeOf h.source (types j)) (let e : i + suc k ≡ (i + 1) + k = omega arith in e) (each (suc k) h at)))

  of-alone : (ts : List TypeText) → Every (IsOfTypes types) (map typed_alone ts)
  of-alone [] = tt
  of-alone (t ∷ ts) = (tt, of-alone ts)

of-own : (gs : List Group) → Every (IsOfTypes (types_by gs)) (typed_groups 0 gs)
of-own gs = of-groups (types_by gs) 0 gs (λ k g at. subst (λ j. IsTypeOf g.source (types_by gs j)) (let e : k ≡ 0 + k = omega arith in e) (subst (λ o. IsTypeOf g.source (group_type o)) (sym at) (own-type g.source)))

-- ---- the variables of a statement

pub grouped : (vs : List VariableRead) (gs : List Group) → map typed vs ≡ typed_groups 0 gs → AreGrouped vs
grouped vs gs are = (types_by gs, subst (Every (IsOfTypes (types_by gs))) (sym are) (of-own gs))

pub grouped-alone : (vs : List VariableRead) (gs : List Group) (ts : List TypeText) → map typed vs ≡ typed_groups 0 gs ++ map typed_alone ts → AreGrouped vs
grouped-alone vs gs ts are = (
  types_by gs,
  subst (Every (IsOfTypes (types_by gs))) (sym are) (every-join (IsOfTypes (types_by gs)) (typed_groups 0 gs) (map typed_alone ts) (of-own gs) (of-alone (types_by gs) ts)),
)

-- ---- its parameters and its dummies

every-params : (P : Typed → Type 0) (vs : List VariableRead) → Every P (map typed vs) → Every P (map typed (params_read vs))
every-params P [] all = tt
every-params P (v ∷ vs) (p, all) = go v.is_dummy (every-params P vs all)
  where
    go : (b : Bool) → Every P (map typed (params_read vs)) → Every P (map typed (if b then params_read vs else v ∷ params_read vs))
    go true rest = rest
    go false rest = (p, rest)

every-dummies : (P : Typed → Type 0) (vs : List VariableRead) → Every P (map typed vs) → Every P (map typed (dummies_read vs))
every-dummies P [] all = tt
every-dummies P (v ∷ vs) (p, all) = go v.is_dummy (every-dummies P vs all)
  where
    go : (b : Bool) → Every P (map typed (dummies_read vs)) → Every P (map typed (if b then v ∷ dummies_read vs else dummies_read vs))
    go true rest = (p, rest)
    go false rest = rest

pub grouped-params : (vs ps : List VariableRead) → ps ≡ params_read vs → AreGrouped vs → AreGrouped ps
grouped-params vs ps are (types, all) = (types, subst (λ xs. Every (IsOfTypes types) (map typed xs)) (sym are) (every-params (IsOfTypes types) vs all))

pub grouped-dummies : (vs ds : List VariableRead) → ds ≡ dummies_read vs → AreGrouped vs → AreGrouped ds
grouped-dummies vs ds are (types, all) = (types, subst (λ xs. Every (IsOfTypes types) (map typed xs)) (sym are) (every-dummies (IsOfTypes types) vs all))

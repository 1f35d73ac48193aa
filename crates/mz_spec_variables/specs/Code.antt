-- What the code's variables and parts of statements stand for.
use Rattle.std.specs.Prelude.{◌≡◌, ◌+◌, ◌++◌, ⊤, ℕ, List, [], ◌∷◌, map, option_map, Option, Some, None, if◌then◌else◌}
use Rattle.mz_spec_theory.specs.StatementCode.{lexeme, type_text}
use Rattle.mz_spec_theory.specs.Statement.{Group, NameText, Source, type_source, formula_source, TypeText}
use Rattle.mz_spec_variables.specs.declared.variables.Variable.{Variable as VariableRead}
use Rattle.mz_spec_variables.specs.declared.parts.Parts.{Parts}
use Rattle.mz_spec_theory.specs.Dependencies.{Every}
use Rattle.mz_spec_theory.specs.View.{Variable, params_of, dummies_of}

abbrev pub variable : VariableRead → Variable
variable v = record { name = option_map lexeme v.name; is_dummy = v.is_dummy; is_bound = v.is_bound; type = type_text v.ty.now }

-- ---- groups, whose variables have one type

-- the number of a group, where there is one, and a type
pub record Typed : Type 0 where
  pub group : Option ℕ
  pub type : TypeText

abbrev pub typed : VariableRead → Typed
typed v = record { group = v.group; type = type_text v.ty.now }

abbrev pub typed_in : ℕ → TypeText → Typed
typed_in i t = record { group = Some i; type = t }

abbrev pub typed_alone : TypeText → Typed
typed_alone t = record { group = None; type = t }

abbrev pub typed_names : ℕ → List NameText → Source → List Typed
typed_names i ns (type_source t) = map (λ n. typed_in i t) ns
typed_names i ns (formula_source f) = []

abbrev pub typed_group : ℕ → Group → List Typed
typed_group i g = typed_names i g.names g.source

-- groups are numbered from i on
abbrev pub typed_groups : ℕ → List Group → List Typed
typed_groups i [] = []
typed_groups i (g ∷ gs) = typed_group i g ++ typed_groups (i + 1) gs

-- where it stands in a group, its type is that of the group
abbrev pub IsTypedBy : (ℕ → Option TypeText) → Option ℕ → TypeText → Type 0
IsTypedBy types None t = ⊤
IsTypedBy types (Some i) t = types i ≡ Some t

abbrev pub IsOfTypes : (ℕ → Option TypeText) → Typed → Type 0
IsOfTypes types k = IsTypedBy types k.group k.type

-- variables of one group have one type
abbrev pub AreGrouped : List VariableRead → Type 0
AreGrouped vs = (types : ℕ → Option TypeText) × Every (IsOfTypes types) (map typed vs)

-- ---- parameters and dummies, as they were read

abbrev pub params_read : List VariableRead → List VariableRead
params_read [] = []
params_read (v ∷ vs) = if v.is_dummy then params_read vs else v ∷ params_read vs

abbrev pub dummies_read : List VariableRead → List VariableRead
dummies_read [] = []
dummies_read (v ∷ vs) = if v.is_dummy then v ∷ dummies_read vs else dummies_read vs

-- ---- parts

abbrev pub all_of : {A : Type 0} → Option A → List A
all_of None = []
all_of (Some x) = x ∷ []

-- the parts have these variables, types and results
pub record AreParts (p : Parts) (vs : List Variable) (ts results : List TypeText) : Type 0 where
  pub variables : map variable p.variables.items ≡ vs
  pub params : map variable p.params.items ≡ params_of vs
  pub dummies : map variable p.dummies.items ≡ dummies_of vs
  pub types : map (λ t. type_text t.ty.now) p.types.items ≡ ts
  pub result : all_of (option_map (λ t. type_text t.now) p.result) ≡ results
  pub grouped_params : AreGrouped p.params.items
  pub grouped_dummies : AreGrouped p.dummies.items

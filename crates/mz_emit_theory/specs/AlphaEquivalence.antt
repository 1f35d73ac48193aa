-- Two environments that are one but for the dummies of definitions' bodies (mm0.md, on definitions: the names of dummies
-- don't matter).
use Rattle.std.specs.Prelude.{◌≡◌, ◌<◌, ◌+◌, ℕ, ⊤, List, ◌++◌, length}
use Rattle.mz_logic_theory.specs.Tree.{Tree, Trees, instance, followed_by, variables}
use Rattle.mz_logic_theory.specs.Declaration.{Form, plain_form, abstract_form, defined, Term, Declaration, sorts, terms, assertions}
use Rattle.mz_logic_theory.specs.Conversions.{AreFresh}
use Rattle.mz_logic_theory.specs.Variables.{Occurs}
use Rattle.mz_logic_theory.specs.declared.binder.Binder.{Binder}
use Rattle.mz_machine_theory.specs.Spells.{trees_of, variables_from}
use Rattle.mz_machine_theory.specs.MachineState.{Pairwise}

-- the parameters as expressions
abbrev pub own : List Binder → Trees
own params = trees_of (variables_from 0 params)

-- the body has only variables of the parameters and of these dummies
abbrev pub IsInside : List Binder → List Binder → Tree → Type 0
IsInside params dummies body = (y : ℕ) → Occurs y body → y < length params + length dummies

-- the first body is the second with distinct variables, of the first's dummies, for its dummies
abbrev pub IsSameForm : List Binder → Form → Form → Type 0
IsSameForm params plain_form plain_form = ⊤
IsSameForm params abstract_form abstract_form = ⊤
IsSameForm params (defined dummies body) (defined dummies' body') =
    (ys : List ℕ) × AreFresh (params ++ dummies) (own params) ys dummies' × (body ≡ instance (followed_by (own params) (variables ys)) body')
    × IsInside params dummies' body'
IsSameForm params plain_form abstract_form = ⊥
IsSameForm params plain_form (defined dummies' body') = ⊥
IsSameForm params abstract_form plain_form = ⊥
IsSameForm params abstract_form (defined dummies' body') = ⊥
IsSameForm params (defined dummies body) plain_form = ⊥
IsSameForm params (defined dummies body) abstract_form = ⊥

abbrev pub IsSameTerm : Term → Term → Type 0
IsSameTerm d d' = (d.signature ≡ d'.signature) × IsSameForm d.signature.params d.form d'.form

pub record IsSameEnv (env env' : List Declaration) : Type 0 where
  pub sorts_are : sorts env ≡ sorts env'
  pub terms_are : Pairwise IsSameTerm (terms env) (terms env')
  pub assertions_are : assertions env ≡ assertions env'

-- What holds between nodes and the expressions that they stand for.
use Rattle.std.specs.Prelude.{ℕ, ◌≡◌, ◌<◌, ◌≤◌, ◌+◌, ⊤, Contains, List, length, slice_get, Some}
use Rattle.mz_logic_theory.specs.Legality.{Each}
use Rattle.mz_logic_theory.specs.declared.binder.Binder.{Binder}
use Rattle.mz_store.specs.Bits.{bound_vars}
use Rattle.mz_store.specs.declared.item.DepsMode.{DepsMode}
use Rattle.mz_store.specs.declared.item.Id.{Id}
use Rattle.mz_pmachine_theory.specs.NodeIdentity.{a_variable, an_application}
use Rattle.mz_pmachine_unify.specs.Numbering.{Numbering, IsIn, AreIn, expr_of, exprs_of, sort_of, vars_of, deps_of, IsMadeBefore}
use Rattle.mz_pmachine_unify.specs.Entering.{Made, MadeOf, variable, application, all_made, numbering_of}
use Rattle.mz_pmachine_unify.specs.declared.node.Node.{Node}
use Rattle.mz_pmachine_unify.specs.declared.node.Form.{Form}
use Rattle.mz_pmachine_unify.specs.declared.node.Form.TheVariants.{Variable, Application}

-- the form is that of the i-th expression: a variable of the context, or a term over expressions with ids
abbrev pub Forms : Numbering → ℕ → MadeOf → Type 0
Forms s i (variable bound) = (x : ℕ) × (b : Binder) × (expr_of s i ≡ a_variable x) × (slice_get s.context x ≡ Some b) × (b.bound ≡ bound)
Forms s i (application number head operands) = AreIn s operands × (expr_of s i ≡ an_application number head (exprs_of s operands))

pub record Shows (s : Numbering) (i : ℕ) (n : Made) : Type 0 where
  pub sort : sort_of s i ≡ n.sort
  pub vars : vars_of s i ≡ n.vars
  pub deps : deps_of s i ≡ n.deps
  pub form : Forms s i n.form

pub record IsKept (s : Numbering) (bound_count : ℕ) (nodes : List Made) : Type 0 where
  pub many : length s.entries ≡ length nodes
  pub count : bound_count ≡ length (bound_vars s.context)
  pub small : bound_count ≤ 55
  -- variables depend on variables of the context
  pub inside : Each s.context (λ _ b. (x : ℕ) → Contains b.deps x → x < length s.context)
  -- each node is its expression
  pub shown : (i : ℕ) (n : Made) → slice_get nodes i ≡ Some n → Shows s i n
  -- the commands that made expressions have lower numbers than those to come
  pub before : (i : ℕ) → IsIn s i → IsMadeBefore s.next (expr_of s i)
  -- different ids have different expressions
  pub once : (i j : ℕ) → IsIn s i → IsIn s j → expr_of s i ≡ expr_of s j → i ≡ j

-- the operands of each node lie within the list
abbrev pub Lies : List Id → Form → Type 0
Lies operands (Variable bound) = ⊤
Lies operands (Application a) = a.from + a.many ≤ length operands

abbrev pub AllLie : List Id → List Node → Type 0
AllLie operands nodes = (i : ℕ) (n : Node) → slice_get nodes i ≡ Some n → Lies operands n.form

-- what these nodes and operands keep
abbrev pub Keeps : DepsMode → ℕ → List Id → List Node → Type 0
Keeps mode bound_count operands nodes = IsKept (numbering_of mode (all_made operands nodes)) bound_count (all_made operands nodes) × AllLie operands nodes

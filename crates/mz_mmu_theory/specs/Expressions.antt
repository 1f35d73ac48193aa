-- Which expressions, variables and binders nodes are (this project's own profile of the s-expression form of
-- mm0.md's expressions and binders).
use Rattle.std.specs.Prelude.{ℕ, ◌≡◌, ◌⊎◌, ◌↔◌, true, false, List, [], ◌∷◌, ◌++◌, Contains, Some}
use Rattle.std.specs.List.Sorted.{IsStrictlyIncreasing}
use Rattle.mz_sexpr.specs.Node.{Node, Nodes, atom, list, no_nodes, node}
use Rattle.mz_logic_theory.specs.Tree.{Tree, Trees, var, app, none, more}
use Rattle.mz_logic_theory.specs.declared.binder.Binder.{Binder}
use Rattle.mz_logic_theory.specs.declared.binder.ResultType.{ResultType}
use Rattle.mz_base.specs.Names.{number_of, IsNew}
use Rattle.mz_mmu_theory.specs.Name.{Names, Scope, IsName, HasNumber, IsNewName, IsParamName}

-- ---- expressions

-- an atom is a visible variable
abbrev pub IsVariable : Scope → List ℕ → Tree → Type 0
IsVariable sc w e = (x : ℕ) × (number_of sc.vars w ≡ Some x) × (e ≡ var x)

-- or, where none has this name, a term without parameters
abbrev pub IsConstant : Scope → List ℕ → Tree → Type 0
IsConstant sc w e = IsNew sc.vars w × ((t : ℕ) × (number_of sc.names.constants w ≡ Some t) × (e ≡ app t none))

-- a list is a term's name and its operands
abbrev mutual
  pub IsExpr : Scope → Node → Tree → Type 0
  IsExpr sc (atom _ w) e = IsName w × (IsVariable sc w e ⊎ IsConstant sc w e)
  IsExpr sc (list _ no_nodes) e = ⊥
  IsExpr sc (list _ (node h ns)) e = (t : ℕ) × (es : Trees) × HasNumber sc.names.terms h t × AreExprs sc ns es × (e ≡ app t es)

  pub AreExprs : Scope → Nodes → Trees → Type 0
  AreExprs sc no_nodes es = es ≡ none
  AreExprs sc (node n ns) es = (f : Tree) × (fs : Trees) × IsExpr sc n f × AreExprs sc ns fs × (es ≡ more f fs)

-- the node is a list of these expressions
abbrev pub IsExprList : Scope → Node → Trees → Type 0
IsExprList sc (atom _ _) es = ⊥
IsExprList sc (list _ ns) es = AreExprs sc ns es

-- ---- variables and dependencies

-- each node is a visible variable's name, and the variables have these places
abbrev pub AreVariables : List (List ℕ) → Nodes → List ℕ → Type 0
AreVariables vars no_nodes xs = xs ≡ []
AreVariables vars (node n ns) xs = (y : ℕ) × (ys : List ℕ) × HasNumber vars n y × AreVariables vars ns ys × (xs ≡ y ∷ ys)

abbrev pub IsVariableList : List (List ℕ) → Node → List ℕ → Type 0
IsVariableList vars (atom _ _) xs = ⊥
IsVariableList vars (list _ ns) xs = AreVariables vars ns xs

-- the same places in ascending order, each once
abbrev pub IsAscending : List ℕ → List ℕ → Type 0
IsAscending xs deps = IsStrictlyIncreasing deps × ((x : ℕ) → Contains deps x ↔ Contains xs x)

-- a list of dependencies; a repeated one counts once
abbrev pub AreDeps : List (List ℕ) → Node → List ℕ → Type 0
AreDeps vars n deps = (xs : List ℕ) × IsVariableList vars n xs × IsAscending xs deps

-- ---- binders

-- (x s) is bound, and (a s (dep ..)) regular; `vars` are the names of the variables before, and `x`
-- is the name of this one
abbrev pub IsParam : Names → List (List ℕ) → Node → List ℕ → Binder → Type 0
IsParam names vars (list _ (node x (node s no_nodes))) name b =
    IsParamName vars x name × HasNumber names.sorts s b.sort × (b.bound ≡ true) × (b.deps ≡ [])
IsParam names vars (list _ (node x (node s (node ds no_nodes)))) name b =
    IsParamName vars x name × HasNumber names.sorts s b.sort × (b.bound ≡ false) × AreDeps vars ds b.deps
IsParam names vars _ name b = ⊥

-- a dummy is written (x s)
abbrev pub IsDummy : Names → List (List ℕ) → Node → List ℕ → Binder → Type 0
IsDummy names vars (list _ (node x (node s no_nodes))) name b =
    IsNewName vars x name × HasNumber names.sorts s b.sort × (b.bound ≡ true) × (b.deps ≡ [])
IsDummy names vars _ name b = ⊥

-- binders one after another: each is visible after itself, and `after` are the names of all
-- variables in the end
abbrev pub AreBinders : (List (List ℕ) → Node → List ℕ → Binder → Type 0) → List (List ℕ) → Nodes → List Binder → List (List ℕ) → Type 0
AreBinders Is vars no_nodes bs after = (bs ≡ []) × (after ≡ vars)
AreBinders Is vars (node n ns) bs after = (x : List ℕ) × (c : Binder) × (cs : List Binder)
    × Is vars n x c × AreBinders Is (vars ++ x ∷ []) ns cs after × (bs ≡ c ∷ cs)

abbrev pub AreParams : Names → Node → List Binder → List (List ℕ) → Type 0
AreParams names (atom _ _) bs after = ⊥
AreParams names (list _ ns) bs after = AreBinders (IsParam names) [] ns bs after

abbrev pub AreDummies : Names → List (List ℕ) → Node → List Binder → List (List ℕ) → Type 0
AreDummies names vars (atom _ _) bs after = ⊥
AreDummies names vars (list _ ns) bs after = AreBinders (IsDummy names) vars ns bs after

-- a result is written (s (dep ..))
abbrev pub IsResult : Names → List (List ℕ) → Node → ResultType → Type 0
IsResult names vars (list _ (node s (node ds no_nodes))) r = HasNumber names.sorts s r.sort × AreDeps vars ds r.deps
IsResult names vars _ r = ⊥

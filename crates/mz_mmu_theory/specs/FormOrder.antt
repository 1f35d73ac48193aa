-- What is asked of the forms and names of expressions, binders, conversions and proofs, in order: from left
-- to right, a node's form before its parts. At the first that doesn't hold the text is refused (this project's
-- own order).
use Rattle.std.specs.Prelude.{ℕ, ◌≡◌, ◌⊎◌, true, false, List, [], ◌∷◌, ◌++◌}
use Rattle.mz_base.specs.Checks.{Checks, nothing, demand, ◌>>◌}
use Rattle.mz_sexpr.specs.declared.rule.U.{U}
use Rattle.mz_sexpr.specs.Node.{Node, Nodes, atom, list, no_nodes, node, place, word, parts, is_atom}
use Rattle.mz_mmu_theory.specs.declared.fault.Fault.{Fault}
use Rattle.mz_base.specs.Names.{IsNew, IsKnown}
use Rattle.mz_mmu_theory.specs.Name.{Names, Scope, hidden, IsName}
use Rattle.mz_mmu_theory.specs.Proofs.{Keyword, conv_word, let_word, refl_word, sym_word, unfold_word, sorry_word, no_word, conv_keyword, proof_keyword}

abbrev pub fault : ℕ → U → Fault
fault at rule = record { at = at; rule = rule }

-- what no text meets
abbrev pub never : ℕ → U → Checks Fault
never at rule = demand (fault at rule) ⊥

-- ---- an atom in the place of a name

abbrev pub name_asked : Node → Checks Fault
name_asked n = demand (fault (place n) U.Form) (IsName (word n))

abbrev pub known_asked : List (List ℕ) → Node → Checks Fault
known_asked xs n = name_asked n >> demand (fault (place n) U.UnknownName) (IsKnown xs (word n))

abbrev pub new_asked : List (List ℕ) → Node → Checks Fault
new_asked xs n = name_asked n >> demand (fault (place n) U.NameTwice) (IsNew xs (word n))

abbrev pub param_name_asked : List (List ℕ) → Node → Checks Fault
param_name_asked xs n =
    demand (fault (place n) U.Form) ((word n ≡ hidden) ⊎ IsName (word n))
    >> demand (fault (place n) U.NameTwice) ((word n ≡ hidden) ⊎ IsNew xs (word n))

-- a list, whatever is in it
abbrev pub list_asked : Node → Checks Fault
list_asked n = demand (fault (place n) U.Form) (is_atom n ≡ false)

-- ---- expressions

abbrev mutual
  pub expr_asked : Scope → Node → Checks Fault
  expr_asked sc (atom at w) =
      name_asked (atom at w)
      >> demand (fault at U.UnknownName) (IsKnown sc.vars w ⊎ IsKnown sc.names.constants w)
  expr_asked sc (list at no_nodes) = never at U.Form
  expr_asked sc (list at (node h ns)) = known_asked sc.names.terms h >> exprs_asked sc ns

  pub exprs_asked : Scope → Nodes → Checks Fault
  exprs_asked sc no_nodes = nothing
  exprs_asked sc (node n ns) = expr_asked sc n >> exprs_asked sc ns

abbrev pub expr_list_asked : Scope → Node → Checks Fault
expr_list_asked sc (atom at _) = never at U.Form
expr_list_asked sc (list _ ns) = exprs_asked sc ns

-- ---- variables and binders

abbrev pub variables_asked : List (List ℕ) → Nodes → Checks Fault
variables_asked vars no_nodes = nothing
variables_asked vars (node n ns) = known_asked vars n >> variables_asked vars ns

abbrev pub variable_list_asked : List (List ℕ) → Node → Checks Fault
variable_list_asked vars (atom at _) = never at U.Form
variable_list_asked vars (list _ ns) = variables_asked vars ns

abbrev pub param_asked : Names → List (List ℕ) → Node → Checks Fault
param_asked names vars (list _ (node x (node s no_nodes))) = param_name_asked vars x >> known_asked names.sorts s
param_asked names vars (list _ (node x (node s (node ds no_nodes)))) =
    param_name_asked vars x >> known_asked names.sorts s >> variable_list_asked vars ds
param_asked names vars n = never (place n) U.Form

abbrev pub dummy_asked : Names → List (List ℕ) → Node → Checks Fault
dummy_asked names vars (list _ (node x (node s no_nodes))) = new_asked vars x >> known_asked names.sorts s
dummy_asked names vars n = never (place n) U.Form

abbrev pub first_word : Nodes → List ℕ
first_word no_nodes = []
first_word (node x _) = word x

-- the names of binders, or of hypotheses
abbrev pub names_of : Nodes → List (List ℕ)
names_of no_nodes = []
names_of (node n ns) = first_word (parts n) ∷ names_of ns

abbrev pub binders_asked : (List (List ℕ) → Node → Checks Fault) → List (List ℕ) → Nodes → Checks Fault
binders_asked asked vars no_nodes = nothing
binders_asked asked vars (node n ns) = asked vars n >> binders_asked asked (vars ++ first_word (parts n) ∷ []) ns

abbrev pub params_asked : Names → Node → Checks Fault
params_asked names (atom at _) = never at U.Form
params_asked names (list _ ns) = binders_asked (param_asked names) [] ns

abbrev pub dummies_asked : Names → List (List ℕ) → Node → Checks Fault
dummies_asked names vars (atom at _) = never at U.Form
dummies_asked names vars (list _ ns) = binders_asked (dummy_asked names) vars ns

abbrev pub result_asked : Names → List (List ℕ) → Node → Checks Fault
result_asked names vars (list _ (node s (node ds no_nodes))) = known_asked names.sorts s >> variable_list_asked vars ds
result_asked names vars n = never (place n) U.Form

-- ---- conversions and proofs

-- a gap is refused, whatever it holds, unless proofs may have gaps
abbrev pub gap_asked : Scope → ℕ → Checks Fault
gap_asked sc at = demand (fault at U.Sorry) (sc.names.gaps ≡ true)

-- it holds one expression in the place of a proof, and two in that of a conversion
abbrev pub one_expr_asked : Scope → ℕ → Nodes → Checks Fault
one_expr_asked sc at (node e no_nodes) = expr_asked sc e
one_expr_asked sc at _ = never at U.Form

abbrev pub two_exprs_asked : Scope → ℕ → Nodes → Checks Fault
two_exprs_asked sc at (node l (node r no_nodes)) = expr_asked sc l >> expr_asked sc r
two_exprs_asked sc at _ = never at U.Form

abbrev mutual
  pub conv_asked : Scope → Node → Checks Fault
  conv_asked sc (atom at w) = expr_asked sc (atom at w)
  conv_asked sc (list at no_nodes) = never at U.Form
  conv_asked sc (list at (node h ns)) = conv_asked_by sc (conv_keyword h) at h ns

  pub conv_asked_by : Scope → Keyword → ℕ → Node → Nodes → Checks Fault
  conv_asked_by sc refl_word at h (node n no_nodes) = expr_asked sc n
  conv_asked_by sc sym_word at h (node n no_nodes) = conv_asked sc n
  conv_asked_by sc unfold_word at h (node t (node es (node ys (node n no_nodes)))) =
      known_asked sc.names.terms t >> expr_list_asked sc es >> variable_list_asked sc.vars ys >> conv_asked sc n
  conv_asked_by sc sorry_word at h ns = gap_asked sc at >> two_exprs_asked sc at ns
  conv_asked_by sc no_word at h no_nodes = known_asked sc.names.terms h
  conv_asked_by sc no_word at h (node n ns) = known_asked sc.names.terms h >> conv_asked sc n >> convs_asked sc ns
  conv_asked_by sc _ at h ns = never at U.Form

  pub convs_asked : Scope → Nodes → Checks Fault
  convs_asked sc no_nodes = nothing
  convs_asked sc (node n ns) = conv_asked sc n >> convs_asked sc ns

abbrev mutual
  pub proof_asked : Scope → List (List ℕ) → List (List ℕ) → Node → Checks Fault
  proof_asked sc hyps lets (atom at w) =
      name_asked (atom at w)
      >> demand (fault at U.UnknownName) (IsKnown hyps w ⊎ IsKnown lets w)
  proof_asked sc hyps lets (list at no_nodes) = never at U.Form
  proof_asked sc hyps lets (list at (node h ns)) = proof_asked_by sc hyps lets (proof_keyword h) at h ns

  pub proof_asked_by : Scope → List (List ℕ) → List (List ℕ) → Keyword → ℕ → Node → Nodes → Checks Fault
  proof_asked_by sc hyps lets conv_word at h (node e (node c (node q no_nodes))) = expr_asked sc e >> conv_asked sc c >> proof_asked sc hyps lets q
  proof_asked_by sc hyps lets let_word at h (node x (node q (node q' no_nodes))) =
      new_asked (hyps ++ lets) x >> proof_asked sc hyps lets q >> proof_asked sc hyps (lets ++ word x ∷ []) q'
  proof_asked_by sc hyps lets sorry_word at h ns = gap_asked sc at >> one_expr_asked sc at ns
  proof_asked_by sc hyps lets no_word at h (node es ns) = known_asked sc.names.assertions h >> expr_list_asked sc es >> proofs_asked sc hyps lets ns
  proof_asked_by sc hyps lets _ at h ns = never at U.Form

  pub proofs_asked : Scope → List (List ℕ) → List (List ℕ) → Nodes → Checks Fault
  proofs_asked sc hyps lets no_nodes = nothing
  proofs_asked sc hyps lets (node n ns) = proof_asked sc hyps lets n >> proofs_asked sc hyps lets ns

-- What is asked of the statements of a text, in order: from left to right, a node's form before its parts.
-- At the first that doesn't hold the text is refused (this project's own order).
use Rattle.std.specs.Prelude.{ℕ, suc, ◌≡◌, ◌⊎◌, Bool, true, false, List, [], ◌∷◌, ◌++◌, Some, unwrap_or}
use Rattle.mz_base.specs.Checks.{Checks, nothing, demand, ◌>>◌, retold, FailsFirst}
use Rattle.mz_sexpr.specs.declared.rule.U.{U}
use Rattle.mz_sexpr.specs.declared.rule.TextRefusal.{TextRefusal}
use Rattle.mz_sexpr.specs.Node.{Node, Nodes, atom, list, no_nodes, node, place, word, parts}
use Rattle.mz_sexpr.specs.Grammar.{Reads as Spells}
use Rattle.mz_sexpr.specs.Order.{Refuses as IsMisspelled}
use Rattle.mz_mmu_theory.specs.declared.fault.Fault.{Fault}
use Rattle.mz_mmu_theory.specs.Name.{Names, Scope, scope_of, no_names}
use Rattle.mz_mmu_theory.specs.Statements.{Kind, sort_kind, term_kind, axiom_kind, def_kind, theorem_kind, kind_of, is_local_word, Modifiers, no_modifiers, with_modifier}
use Rattle.mz_mmu_theory.specs.FormOrder.{fault, never, new_asked, expr_asked, expr_list_asked, names_of, binders_asked, params_asked, dummies_asked, result_asked, proof_asked}

-- ---- one statement

-- each is a modifier that isn't one of those before it
abbrev pub modifiers_asked : Modifiers → Nodes → Checks Fault
modifiers_asked m no_nodes = nothing
modifiers_asked m (node n ns) =
    demand (fault (place n) U.Form) ((next : Modifiers) × (with_modifier m (word n) ≡ Some next))
    >> modifiers_asked (unwrap_or (with_modifier m (word n)) m) ns

abbrev pub hyp_asked : Scope → List (List ℕ) → Node → Checks Fault
hyp_asked sc taken (list _ (node x (node e no_nodes))) = new_asked taken x >> expr_asked sc e
hyp_asked sc taken n = never (place n) U.Form

abbrev pub hyps_asked : Scope → Node → Checks Fault
hyps_asked sc (atom at _) = never at U.Form
hyps_asked sc (list _ ns) = binders_asked (hyp_asked sc) [] ns

abbrev pub declared_asked : Kind → ℕ → Names → Nodes → Checks Fault
declared_asked sort_kind at names (node x ms) = new_asked names.sorts x >> modifiers_asked no_modifiers ms
declared_asked term_kind at names (node x (node ps (node r no_nodes))) =
    new_asked names.terms x >> params_asked names ps >> result_asked names (names_of (parts ps)) r
declared_asked axiom_kind at names (node x (node ps (node hs (node e no_nodes)))) =
    let sc = scope_of names (names_of (parts ps)) in
    new_asked names.assertions x >> params_asked names ps >> expr_list_asked sc hs >> expr_asked sc e
declared_asked def_kind at names (node x (node ps (node r (node ds (node e no_nodes))))) =
    let vars = names_of (parts ps) in
    new_asked names.terms x >> params_asked names ps >> result_asked names vars r >> dummies_asked names vars ds
    >> expr_asked (scope_of names (vars ++ names_of (parts ds))) e
declared_asked theorem_kind at names (node x (node ps (node hs (node e (node ds (node q no_nodes)))))) =
    let vars = names_of (parts ps) in
    new_asked names.assertions x >> params_asked names ps >> hyps_asked (scope_of names vars) hs
    >> expr_asked (scope_of names vars) e >> dummies_asked names vars ds
    >> proof_asked (scope_of names (vars ++ names_of (parts ds))) (names_of (parts hs)) [] q
declared_asked _ at names ns = never at U.Form

-- the last parts of an axiom, of a definition and of a theorem
abbrev pub plain_claims_asked : Scope → Node → Node → Checks Fault
plain_claims_asked sc h e = expr_list_asked sc h >> expr_asked sc e

abbrev pub defined_asked : Names → List (List ℕ) → Node → Node → Checks Fault
defined_asked names vars d e = dummies_asked names vars d >> expr_asked (scope_of names (vars ++ names_of (parts d))) e

abbrev pub claims_asked : Scope → Node → Node → Checks Fault
claims_asked sc h e = hyps_asked sc h >> expr_asked sc e

abbrev pub proved_asked : Names → List (List ℕ) → List (List ℕ) → Node → Node → Checks Fault
proved_asked names vars labels d q = dummies_asked names vars d >> proof_asked (scope_of names (vars ++ names_of (parts d))) labels [] q

abbrev pub local_asked : Kind → ℕ → Names → Nodes → Checks Fault
local_asked def_kind at names ns = declared_asked def_kind at names ns
local_asked theorem_kind at names ns = declared_asked theorem_kind at names ns
local_asked _ at names ns = never at U.Form

abbrev pub marked_asked : Bool → ℕ → Names → Node → Nodes → Checks Fault
marked_asked false at names k ns = declared_asked (kind_of k) at names ns
marked_asked true at names k no_nodes = never at U.Form
marked_asked true at names k (node k' ns) = local_asked (kind_of k') at names ns

abbrev pub statement_asked : Names → Node → Checks Fault
statement_asked names (atom at _) = never at U.Form
statement_asked names (list at no_nodes) = never at U.Form
statement_asked names (list at (node k ns)) = marked_asked (is_local_word k) at names k ns

-- ---- the names that a statement adds

abbrev pub name_of_constant : Nodes → List ℕ → List ℕ
name_of_constant no_nodes w = w
name_of_constant (node _ _) w = []

abbrev pub with_term : Names → Nodes → List ℕ → Names
with_term names params w = record names { terms = names.terms ++ w ∷ []; constants = names.constants ++ name_of_constant params w ∷ [] }

abbrev pub named_by : Kind → Names → Nodes → Names
named_by sort_kind names (node x _) = record names { sorts = names.sorts ++ word x ∷ [] }
named_by term_kind names (node x (node ps _)) = with_term names (parts ps) (word x)
named_by def_kind names (node x (node ps _)) = with_term names (parts ps) (word x)
named_by axiom_kind names (node x _) = record names { assertions = names.assertions ++ word x ∷ [] }
named_by theorem_kind names (node x _) = record names { assertions = names.assertions ++ word x ∷ [] }
named_by _ names ns = names

abbrev pub marked_names : Bool → Names → Node → Nodes → Names
marked_names false names k ns = named_by (kind_of k) names ns
marked_names true names k no_nodes = names
marked_names true names k (node k' ns) = named_by (kind_of k') names ns

abbrev pub names_after : Names → Node → Names
names_after names (atom _ _) = names
names_after names (list _ no_nodes) = names
names_after names (list _ (node k ns)) = marked_names (is_local_word k) names k ns

-- ---- the whole text: its k-th statement and those behind it

abbrev pub in_statement : ℕ → Fault → TextRefusal
in_statement k f = record { statement = k; at = f.at; rule = f.rule }

abbrev pub statements_asked : ℕ → Names → Nodes → Checks TextRefusal
statements_asked k names no_nodes = nothing
statements_asked k names (node n ns) = retold (in_statement k) (statement_asked names n) >> statements_asked (suc k) (names_after names n) ns

-- the first of its bytes or parentheses that may not stand where it does, or, where there is none, of
-- its forms and names
abbrev pub Refuses : Bool → List ℕ → TextRefusal → Type 0
Refuses gaps text r = IsMisspelled text r ⊎ ((ns : Nodes) × Spells text ns × FailsFirst (statements_asked 1 (no_names gaps) ns) r)

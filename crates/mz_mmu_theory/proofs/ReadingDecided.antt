-- Each fact that is asked of a text's forms and names holds or fails.
use Rattle.std.proofs.Common.{ℕ, suc, ◌≡◌, inl, inr, Bool, true, false, true≢false, List, [], ◌∷◌, ◌++◌, Option, Some, None, refl, sym}
use Rattle.std.specs.Prelude.{⊤, IsTrue, unwrap_or}
use Rattle.mz_base.proofs.Offered.{either-decided, some-decided, Decided, are_decided-both, bytes-decided, retold-decided}
use Rattle.mz_base.specs.Checks.{Checks, ◌>>◌, retold, AreDecided}
use Rattle.mz_sexpr.specs.Node.{Node, Nodes, atom, list, no_nodes, node, word, parts}
use Rattle.mz_mmu_theory.specs.declared.fault.Fault.{Fault}
use Rattle.mz_base.specs.Names.{number_of}
use Rattle.mz_base.specs.Identifiers.{is_name}
use Rattle.mz_mmu_theory.specs.Name.{Names, Scope, hidden, scope_of}
use Rattle.mz_mmu_theory.specs.declared.keyword.Keyword.{Keyword}
use Rattle.mz_mmu_theory.specs.declared.keyword.Keyword.TheVariants.{Conv as conv_word, Let as let_word, Refl as refl_word, Sym as sym_word, Unfold as unfold_word, Sorry as sorry_word, Other as no_word}
use Rattle.mz_mmu_theory.specs.Proofs.{conv_keyword, proof_keyword}
use Rattle.mz_mmu_theory.specs.declared.kind.Kind.{Kind}
use Rattle.mz_mmu_theory.specs.declared.kind.Kind.TheVariants.{Sort as sort_kind, Term as term_kind, Axiom as axiom_kind, Def as def_kind, Theorem as theorem_kind, Other as no_kind}
use Rattle.mz_mmu_theory.specs.Statements.{kind_of, is_local_word, Modifiers, no_modifiers, with_modifier}
use Rattle.mz_mmu_theory.specs.FormOrder.{known_asked, new_asked, param_name_asked, expr_asked, exprs_asked, expr_list_asked, variables_asked, variable_list_asked, param_asked, dummy_asked, names_of, first_word, binders_asked, params_asked, dummies_asked, result_asked, conv_asked, conv_asked_by, convs_asked, proof_asked, proof_asked_by, proofs_asked}
use Rattle.mz_mmu_theory.specs.StatementOrder.{modifiers_asked, hyp_asked, hyps_asked, declared_asked, local_asked, marked_asked, statement_asked, in_statement, names_after, statements_asked}

-- ---- facts

true-decided : (b : Bool) → Decided (IsTrue b)
true-decided true = inl refl
true-decided false = inr (λ h. true≢false (sym h))

none-decided : {A : Type 0} (o : Option A) → Decided (o ≡ None)
none-decided None = inl refl
none-decided (Some x) = inr (λ h. let f : Some x ≡ None = h in cc)

-- what no text meets
no-decided : Decided ⊥ × (⊥ → ⊤)
no-decided = (inr (λ h. h), λ _. tt)

-- ---- names

known : (xs : List (List ℕ)) (n : Node) → AreDecided (known_asked xs n)
known xs n = (true-decided (is_name (word n)), λ _. (some-decided (number_of xs (word n)), λ _. tt))

new : (xs : List (List ℕ)) (n : Node) → AreDecided (new_asked xs n)
new xs n = (true-decided (is_name (word n)), λ _. (none-decided (number_of xs (word n)), λ _. tt))

param_name : (xs : List (List ℕ)) (n : Node) → AreDecided (param_name_asked xs n)
param_name xs n = (
  either-decided (bytes-decided (word n) hidden) (true-decided (is_name (word n))),
  λ _. (either-decided (bytes-decided (word n) hidden) (none-decided (number_of xs (word n))), λ _. tt),
)

-- ---- expressions

mutual
  expr : (sc : Scope) (n : Node) → AreDecided (expr_asked sc n)
  expr sc (atom at w) = (
    true-decided (is_name w),
    λ _. (either-decided (some-decided (number_of sc.vars w)) (some-decided (number_of sc.names.constants w)), λ _. tt),
  )
  expr sc (list at no_nodes) = no-decided
  expr sc (list at (node h ns)) = are_decided-both (known_asked sc.names.terms h) (exprs_asked sc ns) (known sc.names.terms h) (λ _. exprs sc ns)

  exprs : (sc : Scope) (ns : Nodes) → AreDecided (exprs_asked sc ns)
  exprs sc no_nodes = tt
  exprs sc (node n ns) = are_decided-both (expr_asked sc n) (exprs_asked sc ns) (expr sc n) (λ _. exprs sc ns)

expr_list : (sc : Scope) (n : Node) → AreDecided (expr_list_asked sc n)
expr_list sc (atom at w) = no-decided
expr_list sc (list at ns) = exprs sc ns

-- ---- variables and binders

variables : (vars : List (List ℕ)) (ns : Nodes) → AreDecided (variables_asked vars ns)
variables vars no_nodes = tt
variables vars (node n ns) = are_decided-both (known_asked vars n) (variables_asked vars ns) (known vars n) (λ _. variables vars ns)

variable_list : (vars : List (List ℕ)) (n : Node) → AreDecided (variable_list_asked vars n)
variable_list vars (atom at w) = no-decided
variable_list vars (list at ns) = variables vars ns

param : (names : Names) (vars : List (List ℕ)) (n : Node) → AreDecided (param_asked names vars n)
param names vars (list at (node x (node s no_nodes))) = are_decided-both (param_name_asked vars x) (known_asked names.sorts s) (param_name vars x) (λ _. known names.sorts s)
param names vars (list at (node x (node s (node ds no_nodes)))) =
    are_decided-both (param_name_asked vars x) (known_asked names.sorts s >> variable_list_asked vars ds) (param_name vars x)
    (λ _. are_decided-both (known_asked names.sorts s) (variable_list_asked vars ds) (known names.sorts s) (λ _. variable_list vars ds))
param names vars _ = no-decided

dummy : (names : Names) (vars : List (List ℕ)) (n : Node) → AreDecided (dummy_asked names vars n)
dummy names vars (list at (node x (node s no_nodes))) = are_decided-both (new_asked vars x) (known_asked names.sorts s) (new vars x) (λ _. known names.sorts s)
dummy names vars _ = no-decided

hyp : (sc : Scope) (taken : List (List ℕ)) (n : Node) → AreDecided (hyp_asked sc taken n)
hyp sc taken (list at (node x (node e no_nodes))) = are_decided-both (new_asked taken x) (expr_asked sc e) (new taken x) (λ _. expr sc e)
hyp sc taken _ = no-decided

module _ (asked : List (List ℕ) → Node → Checks Fault) (one : (vars : List (List ℕ)) (n : Node) → AreDecided (asked vars n)) where
  binders : (vars : List (List ℕ)) (ns : Nodes) → AreDecided (binders_asked asked vars ns)
  binders vars no_nodes = tt
  binders vars (node n ns) =
      are_decided-both (asked vars n) (binders_asked asked (vars ++ first_word (parts n) ∷ []) ns) (one vars n) (λ _. binders (vars ++ first_word (parts n) ∷ []) ns)

params : (names : Names) (n : Node) → AreDecided (params_asked names n)
params names (atom at w) = no-decided
params names (list at ns) = binders (param_asked names) (param names) [] ns

dummies : (names : Names) (vars : List (List ℕ)) (n : Node) → AreDecided (dummies_asked names vars n)
dummies names vars (atom at w) = no-decided
dummies names vars (list at ns) = binders (dummy_asked names) (dummy names) vars ns

hyps_of : (sc : Scope) (n : Node) → AreDecided (hyps_asked sc n)
hyps_of sc (atom at w) = no-decided
hyps_of sc (list at ns) = binders (hyp_asked sc) (hyp sc) [] ns

result : (names : Names) (vars : List (List ℕ)) (n : Node) → AreDecided (result_asked names vars n)
result names vars (list at (node s (node ds no_nodes))) = are_decided-both (known_asked names.sorts s) (variable_list_asked vars ds) (known names.sorts s) (λ _. variable_list vars ds)
result names vars _ = no-decided

-- ---- conversions

module _ (sc : Scope) where
  mutual
    conv : (n : Node) → AreDecided (conv_asked sc n)
    conv (atom at w) = expr sc (atom at w)
    conv (list at no_nodes) = no-decided
    conv (list at (node h ns)) = conv_by (conv_keyword h) at h ns

    conv_by : (k : Keyword) (at : ℕ) (h : Node) (ns : Nodes) → AreDecided (conv_asked_by sc k at h ns)
    conv_by refl_word at h (node n no_nodes) = expr sc n
    conv_by sym_word at h (node n no_nodes) = conv n
    conv_by unfold_word at h (node t (node es (node ys (node n no_nodes)))) =
        are_decided-both (known_asked sc.names.terms t) (expr_list_asked sc es >> variable_list_asked sc.vars ys >> conv_asked sc n) (known sc.names.terms t)
        (λ _. are_decided-both (expr_list_asked sc es) (variable_list_asked sc.vars ys >> conv_asked sc n) (expr_list sc es)
        (λ _. are_decided-both (variable_list_asked sc.vars ys) (conv_asked sc n) (variable_list sc.vars ys) (λ _. conv n)))
    conv_by sorry_word at h (node l (node r no_nodes)) = (true-decided sc.names.gaps, λ _. are_decided-both (expr_asked sc l) (expr_asked sc r) (expr sc l) (λ _. expr sc r))
    conv_by no_word at h no_nodes = known sc.names.terms h
    conv_by no_word at h (node n ns) =
        are_decided-both (known_asked sc.names.terms h) (conv_asked sc n >> convs_asked sc ns) (known sc.names.terms h)
        (λ _. are_decided-both (conv_asked sc n) (convs_asked sc ns) (conv n) (λ _. convs ns))
    conv_by sorry_word at h _ = (true-decided sc.names.gaps, λ _. no-decided)
    conv_by _ at h _ = no-decided

    convs : (ns : Nodes) → AreDecided (convs_asked sc ns)
    convs no_nodes = tt
    convs (node n ns) = are_decided-both (conv_asked sc n) (convs_asked sc ns) (conv n) (λ _. convs ns)

-- ---- proofs

module _ (sc : Scope) (hyps : List (List ℕ)) where
  mutual
    proof : (lets : List (List ℕ)) (n : Node) → AreDecided (proof_asked sc hyps lets n)
    proof lets (atom at w) = (
      true-decided (is_name w),
      λ _. (either-decided (some-decided (number_of hyps w)) (some-decided (number_of lets w)), λ _. tt),
    )
    proof lets (list at no_nodes) = no-decided
    proof lets (list at (node h ns)) = proof_by lets (proof_keyword h) at h ns

    proof_by : (lets : List (List ℕ)) (k : Keyword) (at : ℕ) (h : Node) (ns : Nodes) → AreDecided (proof_asked_by sc hyps lets k at h ns)
    proof_by lets conv_word at h (node e (node c (node q no_nodes))) =
        are_decided-both (expr_asked sc e) (conv_asked sc c >> proof_asked sc hyps lets q) (expr sc e)
        (λ _. are_decided-both (conv_asked sc c) (proof_asked sc hyps lets q) (conv sc c) (λ _. proof lets q))
    proof_by lets let_word at h (node x (node q (node q' no_nodes))) =
        are_decided-both (new_asked (hyps ++ lets) x) (proof_asked sc hyps lets q >> proof_asked sc hyps (lets ++ word x ∷ []) q') (new (hyps ++ lets) x)
        (λ _. are_decided-both (proof_asked sc hyps lets q) (proof_asked sc hyps (lets ++ word x ∷ []) q') (proof lets q) (λ _. proof (lets ++ word x ∷ []) q'))
    proof_by lets sorry_word at h (node e no_nodes) = (true-decided sc.names.gaps, λ _. expr sc e)
    proof_by lets no_word at h (node es ns) =
        are_decided-both (known_asked sc.names.assertions h) (expr_list_asked sc es >> proofs_asked sc hyps lets ns) (known sc.names.assertions h)
        (λ _. are_decided-both (expr_list_asked sc es) (proofs_asked sc hyps lets ns) (expr_list sc es) (λ _. proofs lets ns))
    proof_by lets sorry_word at h _ = (true-decided sc.names.gaps, λ _. no-decided)
    proof_by lets _ at h _ = no-decided

    proofs : (lets : List (List ℕ)) (ns : Nodes) → AreDecided (proofs_asked sc hyps lets ns)
    proofs lets no_nodes = tt
    proofs lets (node n ns) = are_decided-both (proof_asked sc hyps lets n) (proofs_asked sc hyps lets ns) (proof lets n) (λ _. proofs lets ns)

-- ---- statements

modifiers : (m : Modifiers) (ns : Nodes) → AreDecided (modifiers_asked m ns)
modifiers m no_nodes = tt
modifiers m (node n ns) = (some-decided (with_modifier m (word n)), λ _. modifiers (unwrap_or (with_modifier m (word n)) m) ns)

declared : (k : Kind) (at : ℕ) (names : Names) (ns : Nodes) → AreDecided (declared_asked k at names ns)
declared sort_kind at names (node x ms) = are_decided-both (new_asked names.sorts x) (modifiers_asked no_modifiers ms) (new names.sorts x) (λ _. modifiers no_modifiers ms)
declared term_kind at names (node x (node ps (node r no_nodes))) =
    let V = names_of (parts ps) in
    are_decided-both (new_asked names.terms x) (params_asked names ps >> result_asked names V r) (new names.terms x)
    (λ _. are_decided-both (params_asked names ps) (result_asked names V r) (params names ps) (λ _. result names V r))
declared axiom_kind at names (node x (node ps (node hs (node e no_nodes)))) =
    let sc = scope_of names (names_of (parts ps)) in
    are_decided-both (new_asked names.assertions x) (params_asked names ps >> expr_list_asked sc hs >> expr_asked sc e) (new names.assertions x)
    (λ _. are_decided-both (params_asked names ps) (expr_list_asked sc hs >> expr_asked sc e) (params names ps)
    (λ _. are_decided-both (expr_list_asked sc hs) (expr_asked sc e) (expr_list sc hs) (λ _. expr sc e)))
declared def_kind at names (node x (node ps (node r (node ds (node e no_nodes))))) =
    let V = names_of (parts ps) in
    let D = dummies_asked names V ds in
    let B = expr_asked (scope_of names (V ++ names_of (parts ds))) e in
    are_decided-both (new_asked names.terms x) (params_asked names ps >> result_asked names V r >> D >> B) (new names.terms x)
    (λ _. are_decided-both (params_asked names ps) (result_asked names V r >> D >> B) (params names ps)
    (λ _. are_decided-both (result_asked names V r) (D >> B) (result names V r)
    (λ _. are_decided-both D B (dummies names V ds) (λ _. expr (scope_of names (V ++ names_of (parts ds))) e))))
declared theorem_kind at names (node x (node ps (node hs (node e (node ds (node q no_nodes)))))) =
    let V = names_of (parts ps) in
    let sc = scope_of names V in
    let all = scope_of names (V ++ names_of (parts ds)) in
    let D = dummies_asked names V ds in
    let Q = proof_asked all (names_of (parts hs)) [] q in
    are_decided-both (new_asked names.assertions x) (params_asked names ps >> hyps_asked sc hs >> expr_asked sc e >> D >> Q) (new names.assertions x)
    (λ _. are_decided-both (params_asked names ps) (hyps_asked sc hs >> expr_asked sc e >> D >> Q) (params names ps)
    (λ _. are_decided-both (hyps_asked sc hs) (expr_asked sc e >> D >> Q) (hyps_of sc hs)
    (λ _. are_decided-both (expr_asked sc e) (D >> Q) (expr sc e)
    (λ _. are_decided-both D Q (dummies names V ds) (λ _. proof all (names_of (parts hs)) [] q)))))
declared _ at names _ = no-decided

local_decided : (k : Kind) (at : ℕ) (names : Names) (ns : Nodes) → AreDecided (local_asked k at names ns)
local_decided def_kind at names ns = declared def_kind at names ns
local_decided theorem_kind at names ns = declared theorem_kind at names ns
local_decided _ at names ns = no-decided

marked : (b : Bool) (at : ℕ) (names : Names) (k : Node) (ns : Nodes) → AreDecided (marked_asked b at names k ns)
marked false at names k ns = declared (kind_of k) at names ns
marked true at names k no_nodes = no-decided
marked true at names k (node k' ns) = local_decided (kind_of k') at names ns

statement : (names : Names) (n : Node) → AreDecided (statement_asked names n)
statement names (list at (node k ns)) = marked (is_local_word k) at names k ns
statement names _ = no-decided

-- ---- the whole text

pub statements-decided : (k : ℕ) (names : Names) (ns : Nodes) → AreDecided (statements_asked k names ns)
statements-decided k names no_nodes = tt
statements-decided k names (node n ns) =
    are_decided-both (retold (in_statement k) (statement_asked names n)) (statements_asked (suc k) (names_after names n) ns)
    (retold-decided (in_statement k) (statement_asked names n) (statement names n)) (λ _. statements-decided (suc k) (names_after names n) ns)

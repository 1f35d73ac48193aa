-- What a statement's reading says of what is asked of it, and of the names that it adds.
use Rattle.std.proofs.Common.{ℕ, ◌≡◌, Bool, true, false, List, [], ◌∷◌, ◌++◌, sym, ap, ◌∙◌, subst, ◌-◌, Some, None, refl}
use Rattle.mz_base.specs.Checks.{◌>>◌, AllHold}
use Rattle.mz_base.proofs.Offered.{all_hold-both, new-both, new-parts}
use Rattle.mz_sexpr.specs.Node.{Node, Nodes, atom, list, no_nodes, node, parts}
use Rattle.mz_logic_theory.specs.declared.binder.Binder.{Binder}
use Rattle.mz_base.specs.Names.{IsNew}
use Rattle.mz_mmu_theory.specs.Name.{Names, IsName, scope_of, names_with, constant_name, no_names}
use Rattle.mz_mmu_theory.specs.NamesMore.{IsUnused}
use Rattle.mz_mmu_theory.specs.Expressions.{AreParams}
use Rattle.mz_mmu_theory.specs.Statements.{Statement, kind_of, is_local_word, no_modifiers, IsDeclared, IsLocal, IsMarked, IsStatement}
use Rattle.mz_mmu_theory.specs.declared.kind.Kind.{Kind}
use Rattle.mz_mmu_theory.specs.declared.kind.Kind.TheVariants.{Sort as sort_kind, Term as term_kind, Axiom as axiom_kind, Def as def_kind, Theorem as theorem_kind, Other as no_kind}
use Rattle.mz_mmu_theory.specs.FormOrder.{new_asked, expr_asked, expr_list_asked, names_of, params_asked, dummies_asked, result_asked, proof_asked}
use Rattle.mz_mmu_theory.specs.StatementOrder.{modifiers_asked, hyps_asked, declared_asked, local_asked, marked_asked, statement_asked, name_of_constant, named_by, marked_names, names_after, with_term}
use Rattle.mz_mmu_theory.proofs.Hold.{dummies_hold, expr_holds, expr_list_holds, new_holds, new_name_is, new_name_word, params_hold, proof_holds, result_holds}
use Rattle.mz_mmu_theory.proofs.HoldStatements.{hyps_hold, modifiers_hold}
use Rattle.std.specs.Prelude.{bytes_eq, if◌then◌else◌}
use Rattle.mz_logic_theory.specs.Declaration.{Declaration, sort_decl, term_decl, assertion_decl}

pub declared_holds : (names : Names) (k : Kind) (at : ℕ) (ns : Nodes) (s : Statement) → IsDeclared names k ns s → AllHold (declared_asked k at names ns)
declared_holds names sort_kind at (node x ms) s (m, n, r, e, i, j) = all_hold-both (new_asked names.sorts x) (modifiers_asked no_modifiers ms) (new_holds names.sorts x s.name n) (modifiers_hold no_modifiers m ms r)
declared_holds names term_kind at (node x (node ps (node r no_nodes))) s (params, vars, result, n, p, q, e, i, j) =
    let named = params_hold names ps params vars p in
    let V = names_of (parts ps) in
    all_hold-both (new_asked names.terms x) (params_asked names ps >> result_asked names V r) (new_holds names.terms x s.name n)
    (all_hold-both (params_asked names ps) (result_asked names V r) named.0 (subst (λ vs. AllHold (result_asked names vs r)) named.1 (result_holds names vars r result q)))
declared_holds names axiom_kind at (node x (node ps (node hs (node c no_nodes)))) s (params, vars, hyps, conclusion, n, p, q, r, e, i, j) =
    let named = params_hold names ps params vars p in
    let V = names_of (parts ps) in
    let H = expr_list_asked (scope_of names V) hs in
    let C = expr_asked (scope_of names V) c in
    all_hold-both (new_asked names.assertions x) (params_asked names ps >> H >> C) (new_holds names.assertions x s.name n)
    (all_hold-both (params_asked names ps) (H >> C) named.0
    (all_hold-both H C (subst (λ vs. AllHold (expr_list_asked (scope_of names vs) hs)) named.1 (expr_list_holds (scope_of names vars) hs hyps q))
    (subst (λ vs. AllHold (expr_asked (scope_of names vs) c)) named.1 (expr_holds (scope_of names vars) c conclusion r))))
declared_holds names def_kind at (node x (node ps (node r (node ds (node b no_nodes))))) s (params, vars, result, dummies, all, body, n, p, q, d, i, e, j, l) =
    let named = params_hold names ps params vars p in
    let dummied = dummies_hold names vars ds dummies all d in
    let V = names_of (parts ps) in
    let W = V ++ names_of (parts ds) in
    let all_named = dummied.1 ∙ ap (λ vs. vs ++ names_of (parts ds)) named.1 in
    let D = dummies_asked names V ds in
    let B = expr_asked (scope_of names W) b in
    all_hold-both (new_asked names.terms x) (params_asked names ps >> result_asked names V r >> D >> B) (new_holds names.terms x s.name n)
    (all_hold-both (params_asked names ps) (result_asked names V r >> D >> B) named.0
    (all_hold-both (result_asked names V r) (D >> B) (subst (λ vs. AllHold (result_asked names vs r)) named.1 (result_holds names vars r result q))
    (all_hold-both D B (subst (λ vs. AllHold (dummies_asked names vs ds)) named.1 dummied.0) (subst (λ vs. AllHold (expr_asked (scope_of names vs) b)) all_named (expr_holds (scope_of names all) b body i)))))
declared_holds names theorem_kind at (node x (node ps (node hs (node c (node ds (node q no_nodes)))))) s (params, vars, hyps, labels, conclusion, all, proof, n, p, h, i, d, r, e, j) =
    let named = params_hold names ps params vars p in
    let dummied = dummies_hold names vars ds s.dummies all d in
    let labelled = hyps_hold (scope_of names vars) hs hyps labels h in
    let V = names_of (parts ps) in
    let W = V ++ names_of (parts ds) in
    let all_named = dummied.1 ∙ ap (λ vs. vs ++ names_of (parts ds)) named.1 in
    let H = hyps_asked (scope_of names V) hs in
    let C = expr_asked (scope_of names V) c in
    let D = dummies_asked names V ds in
    let Q = proof_asked (scope_of names W) (names_of (parts hs)) [] q in
    all_hold-both (new_asked names.assertions x) (params_asked names ps >> H >> C >> D >> Q) (new_holds names.assertions x s.name n)
    (all_hold-both (params_asked names ps) (H >> C >> D >> Q) named.0
    (all_hold-both H (C >> D >> Q) (subst (λ vs. AllHold (hyps_asked (scope_of names vs) hs)) named.1 labelled.0)
    (all_hold-both C (D >> Q) (subst (λ vs. AllHold (expr_asked (scope_of names vs) c)) named.1 (expr_holds (scope_of names vars) c conclusion i))
    (all_hold-both D Q (subst (λ vs. AllHold (dummies_asked names vs ds)) named.1 dummied.0)
    (subst (λ vs. AllHold (proof_asked (scope_of names vs) (names_of (parts hs)) [] q)) all_named
    (subst (λ ls. AllHold (proof_asked (scope_of names all) ls [] q)) labelled.1 (proof_holds (scope_of names all) labels [] q proof r)))))))
declared_holds names _ at _ s h = absurd h

-- ---- the names that it adds

params_empty : (names : Names) (m : Node) (params : List Binder) (vars : List (List ℕ)) (w : List ℕ) → AreParams names m params vars → name_of_constant (parts m) w ≡ constant_name params w
params_empty names (atom at v) params vars w h = absurd h
params_empty names (list at no_nodes) params vars w h = sym (ap (λ bs. constant_name bs w) h.0)
params_empty names (list at (node n ns)) params vars w (x, c, cs, h, r, is) = sym (ap (λ bs. constant_name bs w) is)

pub declared_named : (names : Names) (k : Kind) (ns : Nodes) (s : Statement) → IsDeclared names k ns s → named_by k names ns ≡ names_with names s.name s.decl
declared_named names sort_kind (node x ms) s (m, n, r, e, i, j) =
    ap (λ w. record names { sorts = names.sorts ++ w ∷ [] }) (sym (new_name_word names.sorts x s.name n)) ∙ sym (ap (names_with names s.name) e)
declared_named names term_kind (node x (node ps (node r no_nodes))) s (params, vars, result, n, p, q, e, i, j) =
    ap (with_term names (parts ps)) (sym (new_name_word names.terms x s.name n))
    ∙ ap (λ c. record names { terms = names.terms ++ s.name ∷ []; constants = names.constants ++ c ∷ [] }) (params_empty names ps params vars s.name p) ∙ sym (ap (names_with names s.name) e)
declared_named names axiom_kind (node x (node ps (node hs (node c no_nodes)))) s (params, vars, hyps, conclusion, n, p, q, r, e, i, j) =
    ap (λ w. record names { assertions = names.assertions ++ w ∷ [] }) (sym (new_name_word names.assertions x s.name n)) ∙ sym (ap (names_with names s.name) e)
declared_named names def_kind (node x (node ps (node r (node ds (node b no_nodes))))) s (params, vars, result, dummies, all, body, n, p, q, d, b', e, i, j) =
    ap (with_term names (parts ps)) (sym (new_name_word names.terms x s.name n))
    ∙ ap (λ c. record names { terms = names.terms ++ s.name ∷ []; constants = names.constants ++ c ∷ [] }) (params_empty names ps params vars s.name p) ∙ sym (ap (names_with names s.name) e)
declared_named names theorem_kind (node x (node ps (node hs (node c (node ds (node q no_nodes)))))) s (params, vars, hyps, labels, conclusion, all, proof, n, p, h, c', d, r, e, i) =
    ap (λ w. record names { assertions = names.assertions ++ w ∷ [] }) (sym (new_name_word names.assertions x s.name n)) ∙ sym (ap (names_with names s.name) e)
declared_named names _ _ s h = absurd h

-- ---- a name that is declared was unused

-- a name that no term has is no term's without parameters
abbrev pub Agrees : Names → Type 0
Agrees names = (w : List ℕ) → IsName w → IsNew names.terms w → IsNew names.constants w

pub declared_new : (names : Names) (k : Kind) (ns : Nodes) (s : Statement) → Agrees names → IsDeclared names k ns s → IsName s.name × IsUnused names s.name s.decl
declared_new names sort_kind (node x ms) s g (m, n, r, e, i, j) = let new = new_name_is names.sorts x s.name n in (new.0, subst (IsUnused names s.name) (sym e) new.1)
declared_new names term_kind (node x (node ps (node r no_nodes))) s g (params, vars, result, n, p, q, e, i, j) =
    let new = new_name_is names.terms x s.name n in (new.0, subst (IsUnused names s.name) (sym e) (new.1, g s.name new.0 new.1))
declared_new names axiom_kind (node x (node ps (node hs (node c no_nodes)))) s g (params, vars, hyps, conclusion, n, p, q, r, e, i, j) =
    let new = new_name_is names.assertions x s.name n in (new.0, subst (IsUnused names s.name) (sym e) new.1)
declared_new names def_kind (node x (node ps (node r (node ds (node b no_nodes))))) s g (params, vars, result, dummies, all, body, n, p, q, d, b', e, i, j) =
    let new = new_name_is names.terms x s.name n in (new.0, subst (IsUnused names s.name) (sym e) (new.1, g s.name new.0 new.1))
declared_new names theorem_kind (node x (node ps (node hs (node c (node ds (node q no_nodes)))))) s g (params, vars, hyps, labels, conclusion, all, proof, n, p, h, c', d, r, e, i) =
    let new = new_name_is names.assertions x s.name n in (new.0, subst (IsUnused names s.name) (sym e) new.1)
declared_new names _ _ s g h = absurd h

-- ---- whole statements

local_parts : (names : Names) (k : Kind) (ns : Nodes) (s : Statement) → IsLocal names k ns s → IsDeclared names k ns s × ((at : ℕ) → AllHold (declared_asked k at names ns) → AllHold (local_asked k at names ns))
local_parts names def_kind ns s h = (h, λ at a. a)
local_parts names theorem_kind ns s h = (h, λ at a. a)
local_parts names _ ns s h = absurd h

marked : (b : Bool) (names : Names) (at : ℕ) (k : Node) (ns : Nodes) (s : Statement) → IsMarked b names k ns s
    → AllHold (marked_asked b at names k ns) × (marked_names b names k ns ≡ names_with names s.name s.decl) × (Agrees names → IsName s.name × IsUnused names s.name s.decl)
marked false names at k ns s (e, h) = (declared_holds names (kind_of k) at ns s h, declared_named names (kind_of k) ns s h, λ g. declared_new names (kind_of k) ns s g h)
marked true names at k no_nodes s h = absurd h
marked true names at k (node l ns) s (e, h) =
    let p = local_parts names (kind_of l) ns s h in
    (p.1 at (declared_holds names (kind_of l) at ns s p.0), declared_named names (kind_of l) ns s p.0, λ g. declared_new names (kind_of l) ns s g p.0)

pub statement_says : (names : Names) (m : Node) (s : Statement) → IsStatement names m s
    → AllHold (statement_asked names m) × (names_after names m ≡ names_with names s.name s.decl) × (Agrees names → IsName s.name × IsUnused names s.name s.decl)
statement_says names (list at (node k ns)) s h = marked (is_local_word k) names at k ns s h
statement_says names _ s h = absurd h

name_not_empty : (w : List ℕ) → IsName w → bytes_eq w [] ≡ false
name_not_empty [] h = absurd (let f : false ≡ true = h in cc)
name_not_empty (b ∷ w) h = refl

-- a name that is another than a term's is another than that of a constant
constant_differs : (params : List Binder) (x w : List ℕ) → IsName w → IsNew (x ∷ []) w → IsNew (constant_name params x ∷ []) w
constant_differs [] x w h new = new
constant_differs (p ∷ ps) x w h new = ap (λ b. if b then Some 0 else None) (name_not_empty w h)

agrees_with : (names : Names) (x : List ℕ) (d : Declaration) → Agrees names → Agrees (names_with names x d)
agrees_with names x (term_decl t) g = λ w h new.
    let k = new-parts names.terms (x ∷ []) w new in
    new-both names.constants (constant_name t.signature.params x ∷ []) w (g w h k.0) (constant_differs t.signature.params x w h k.1)
agrees_with names x _ g = g

pub agrees_more : (names later : Names) (x : List ℕ) (d : Declaration) → later ≡ names_with names x d → Agrees names → Agrees later
agrees_more names later x d after g = subst Agrees (sym after) (agrees_with names x d g)

pub agrees_first : (gaps : Bool) → Agrees (no_names gaps)
agrees_first gaps w h new = refl

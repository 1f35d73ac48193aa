-- What each statement that nodes are has.
use Rattle.std.proofs.Common.{ℕ, ◌≡◌, Bool, true, false, true≢false, List, [], ◌∷◌, ◌++◌, All, refl, sym, ◌∙◌, subst, not-suc-le-zero}
use Rattle.std.specs.List.Sorted.{IsStrictlyIncreasing}
use Rattle.std.proofs.lemmas.List.Elements.{All-nil, All-cons}
use Rattle.mz_sexpr.specs.Node.{Node, Nodes, atom, list, no_nodes, node}
use Rattle.mz_logic_theory.specs.Tree.{none, more}
use Rattle.mz_logic_theory.specs.Declaration.{DepsAscend}
use Rattle.mz_logic_theory.specs.LegalLists.{MayBeLocal}
use Rattle.mz_logic_theory.specs.declared.binder.Binder.{Binder}
use Rattle.mz_logic_theory.specs.declared.binder.ResultType.{ResultType}
use Rattle.mz_mmu_theory.specs.Name.{Names, names_with}
use Rattle.mz_mmu_theory.specs.Expressions.{AreDeps, IsParam, IsDummy, AreBinders, AreParams, AreDummies, IsResult}
use Rattle.mz_mmu_theory.specs.Statements.{Statement, kind_of, is_local_word, IsDeclared, IsLocal, IsMarked, IsStatement}
use Rattle.mz_mmu_theory.specs.declared.kind.Kind.{Kind}
use Rattle.mz_mmu_theory.specs.declared.kind.Kind.TheVariants.{Sort as sort_kind, Term as term_kind, Axiom as axiom_kind, Def as def_kind, Theorem as theorem_kind, Other as no_kind}
use Rattle.mz_mmu_theory.specs.ReadingLaws.{Ascends, HasItsProof, IsWhole, AreWhole}

-- ---- dependencies

none_ascends : (xs : List ℕ) → xs ≡ [] → IsStrictlyIncreasing xs
none_ascends xs is = subst IsStrictlyIncreasing (sym is) (λ k there. absurd (not-suc-le-zero there))

deps_ascend : (vars : List (List ℕ)) (n : Node) (xs : List ℕ) → AreDeps vars n xs → IsStrictlyIncreasing xs
deps_ascend vars n xs (zs, h, rise) = rise.0

param_ascends : (names : Names) (vars : List (List ℕ)) (n : Node) (w : List ℕ) (b : Binder) → IsParam names vars n w b → IsStrictlyIncreasing b.deps
param_ascends names vars (list at (node x (node s no_nodes))) w b h = none_ascends b.deps h.3
param_ascends names vars (list at (node x (node s (node ds no_nodes)))) w b h = deps_ascend vars ds b.deps h.3
param_ascends names vars _ w b h = absurd h

dummy_ascends : (names : Names) (vars : List (List ℕ)) (n : Node) (w : List ℕ) (b : Binder) → IsDummy names vars n w b → IsStrictlyIncreasing b.deps
dummy_ascends names vars (list at (node x (node s no_nodes))) w b h = none_ascends b.deps h.3
dummy_ascends names vars _ w b h = absurd h

module _ (Is : List (List ℕ) → Node → List ℕ → Binder → Type 0)
    (one : (vars : List (List ℕ)) (n : Node) (w : List ℕ) (b : Binder) → Is vars n w b → IsStrictlyIncreasing b.deps) where
  binders_ascend : (vars : List (List ℕ)) (ns : Nodes) (bs : List Binder) (after : List (List ℕ)) → AreBinders Is vars ns bs after → DepsAscend bs
  binders_ascend vars no_nodes bs after h = subst DepsAscend (sym h.0) (All-nil (λ b. IsStrictlyIncreasing b.deps))
  binders_ascend vars (node n ns) bs after (w, b, bs', h, hs, is) =
      subst DepsAscend (sym is) (All-cons (λ c. IsStrictlyIncreasing c.deps) b bs' (one vars n w b h) (binders_ascend (vars ++ w ∷ []) ns bs' after hs))

params_ascend : (names : Names) (n : Node) (bs : List Binder) (after : List (List ℕ)) → AreParams names n bs after → DepsAscend bs
params_ascend names (atom at w) bs after h = absurd h
params_ascend names (list at ns) bs after h = binders_ascend (IsParam names) (param_ascends names) [] ns bs after h

dummies_ascend : (names : Names) (vars : List (List ℕ)) (n : Node) (bs : List Binder) (after : List (List ℕ)) → AreDummies names vars n bs after → DepsAscend bs
dummies_ascend names vars (atom at w) bs after h = absurd h
dummies_ascend names vars (list at ns) bs after h = binders_ascend (IsDummy names) (dummy_ascends names) vars ns bs after h

result_ascends : (names : Names) (vars : List (List ℕ)) (n : Node) (r : ResultType) → IsResult names vars n r → IsStrictlyIncreasing r.deps
result_ascends names vars (list at (node s (node ds no_nodes))) r h = deps_ascend vars ds r.deps h.1
result_ascends names vars _ r h = absurd h

-- ---- statements

abbrev HasParts : Statement → Type 0
HasParts s = Ascends s.decl × DepsAscend s.dummies × HasItsProof s.decl s

no_dummies : (s : Statement) → s.dummies ≡ [] → DepsAscend s.dummies
no_dummies s is = subst DepsAscend (sym is) (All-nil (λ b. IsStrictlyIncreasing b.deps))

declared_parts : (names : Names) (k : Kind) (ns : Nodes) (s : Statement) → IsDeclared names k ns s → HasParts s
declared_parts names sort_kind (node x ms) s (m, n, r, e, i, j) = (subst Ascends (sym e) tt, no_dummies s i, subst (λ d. HasItsProof d s) (sym e) (i, j))
declared_parts names term_kind (node x (node ps (node r no_nodes))) s (params, vars, result, n, p, q, e, i, j) = (
  subst Ascends (sym e) (params_ascend names ps params vars p, result_ascends names vars r result q, All-nil (λ b. IsStrictlyIncreasing b.deps)),
  no_dummies s i,
  subst (λ d. HasItsProof d s) (sym e) (i, j),
)
declared_parts names axiom_kind (node x (node ps (node hs (node c no_nodes)))) s (params, vars, hyps, conclusion, n, p, q, r, e, i, j) =
    (subst Ascends (sym e) (params_ascend names ps params vars p), no_dummies s i, subst (λ d. HasItsProof d s) (sym e) (i, j))
declared_parts names def_kind (node x (node ps (node r (node ds (node b no_nodes))))) s (params, vars, result, dummies, all, body, n, p, q, d, f, e, i, j) = (
  subst Ascends (sym e) (params_ascend names ps params vars p, result_ascends names vars r result q, dummies_ascend names vars ds dummies all d),
  no_dummies s i,
  subst (λ c. HasItsProof c s) (sym e) (i, j),
)
declared_parts names theorem_kind (node x (node ps (node hs (node c (node ds (node q no_nodes)))))) s (params, vars, hyps, labels, conclusion, all, proof, n, p, h, f, d, r, e, j) =
    (subst Ascends (sym e) (params_ascend names ps params vars p), dummies_ascend names vars ds s.dummies all d, subst (λ c. HasItsProof c s) (sym e) (proof, j))
declared_parts names _ _ s h = absurd h

def_is_local : (names : Names) (ns : Nodes) (s : Statement) → IsDeclared names def_kind ns s → MayBeLocal s.decl
def_is_local names (node x (node ps (node r (node ds (node b no_nodes))))) s (params, vars, result, dummies, all, body, n, p, q, d, f, e, i, j) =
    subst MayBeLocal (sym e) (λ no. let g : more body none ≡ none = no in cc)
def_is_local names _ s h = absurd h

theorem_is_local : (names : Names) (ns : Nodes) (s : Statement) → IsDeclared names theorem_kind ns s → MayBeLocal s.decl
theorem_is_local names (node x (node ps (node hs (node c (node ds (node q no_nodes)))))) s (params, vars, hyps, labels, conclusion, all, proof, n, p, h, f, d, r, e, j) =
    subst MayBeLocal (sym e) refl
theorem_is_local names _ s h = absurd h

local_parts : (names : Names) (k : Kind) (ns : Nodes) (s : Statement) → IsLocal names k ns s → HasParts s × MayBeLocal s.decl
local_parts names def_kind ns s h = (declared_parts names def_kind ns s h, def_is_local names ns s h)
local_parts names theorem_kind ns s h = (declared_parts names theorem_kind ns s h, theorem_is_local names ns s h)
local_parts names _ ns s h = absurd h

whole : (s : Statement) → HasParts s → (s.is_local ≡ true → MayBeLocal s.decl) → IsWhole s
whole s (a, d, p) mark = record { ascend = a; dummies_ascend = d; has_proof = p; mark = mark }

marked_whole : (b : Bool) (names : Names) (k : Node) (ns : Nodes) (s : Statement) → IsMarked b names k ns s → IsWhole s
marked_whole false names k ns s (unset, h) = whole s (declared_parts names (kind_of k) ns s h) (λ set. absurd (true≢false (sym set ∙ unset)))
marked_whole true names k no_nodes s h = absurd h
marked_whole true names k (node l ns) s (is, h) = let p = local_parts names (kind_of l) ns s h in whole s p.0 (λ _. p.1)

statement_whole : (names : Names) (n : Node) (s : Statement) → IsStatement names n s → IsWhole s
statement_whole names (list at (node k ns)) s h = marked_whole (is_local_word k) names k ns s h
statement_whole names _ s h = absurd h

pub are_whole : (names : Names) (ns : Nodes) → AreWhole names ns
are_whole names no_nodes ss h = subst (All IsWhole) (sym h) (All-nil IsWhole)
are_whole names (node n ns) ss (s, ss', h, hs, is) =
    subst (All IsWhole) (sym is) (All-cons IsWhole s ss' (statement_whole names n s h) (are_whole (names_with names s.name s.decl) ns ss' hs))

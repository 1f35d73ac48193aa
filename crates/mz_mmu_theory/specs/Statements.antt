-- Which statements nodes are, and which list of statements a text is (this project's own profile of the
-- s-expression forms of mm0.md's sorts, terms, axioms, definitions and theorems).
use Rattle.std.specs.Prelude.{ℕ, ◌+◌, ◌≡◌, Bool, true, false, List, [], ◌∷◌, ◌++◌, Option, Some, None, bytes_eq, codes, if◌then◌else◌}
pub use Rattle.mz_mmu_theory.specs.declared.kind.Kind.{Kind}
pub use Rattle.mz_mmu_theory.specs.declared.kind.Kind.TheVariants.{Sort as sort_kind, Term as term_kind, Axiom as axiom_kind, Def as def_kind, Theorem as theorem_kind, Other as no_kind}
use Rattle.mz_sexpr.specs.Node.{Node, Nodes, atom, list, no_nodes, node, word}
use Rattle.mz_sexpr.specs.Grammar.{Reads as Spells}
use Rattle.mz_logic_theory.specs.Tree.{Tree, Trees, none, more}
use Rattle.mz_logic_theory.specs.Declaration.{Declaration, sort_decl, term_decl, assertion_decl, plain_form, defined}
use Rattle.mz_logic_theory.specs.declared.binder.Binder.{Binder}
use Rattle.mz_logic_theory.specs.declared.binder.ResultType.{ResultType}
use Rattle.mz_mmu_theory.specs.Name.{Names, Scope, IsNewName, scope_of, no_names, names_with}
use Rattle.mz_mmu_theory.specs.Expressions.{IsExpr, IsExprList, AreParams, AreDummies, IsResult}
use Rattle.mz_mmu_theory.specs.Proof.{Proof}
use Rattle.mz_mmu_theory.specs.Proofs.{IsProof}
use Rattle.mz_mmu_theory.specs.Gaps.{SomeLeavesOnly}

-- a statement of a text, with its visibility and its name; a theorem has dummies and a proof
pub record Statement : Type 0 where
  pub is_local : Bool
  pub name : List ℕ
  pub decl : Declaration
  pub dummies : List Binder
  pub proof : Option Proof

-- ---- the keywords of statements

abbrev pub kind_of_word : List ℕ → Kind
kind_of_word w =
    if bytes_eq w (codes "sort") then sort_kind else
    (if bytes_eq w (codes "term") then term_kind else
    (if bytes_eq w (codes "axiom") then axiom_kind else
    (if bytes_eq w (codes "def") then def_kind else
    (if bytes_eq w (codes "theorem") then theorem_kind else no_kind))))

abbrev pub kind_of : Node → Kind
kind_of n = kind_of_word (word n)

abbrev pub is_local_word : Node → Bool
is_local_word n = bytes_eq (word n) (codes "local")

-- ---- modifiers of a sort, each once

pub record Modifiers : Type 0 where
  pub is_pure : Bool
  pub is_strict : Bool
  pub is_provable : Bool
  pub is_free : Bool

abbrev pub no_modifiers : Modifiers
no_modifiers = record { is_pure = false; is_strict = false; is_provable = false; is_free = false }

-- those and one more, unless it is one of them already
abbrev pub once : Bool → Modifiers → Option Modifiers
once true m = None
once false m = Some m

abbrev pub with_modifier : Modifiers → List ℕ → Option Modifiers
with_modifier m w =
    if bytes_eq w (codes "pure") then once m.is_pure (record m { is_pure = true }) else
    (if bytes_eq w (codes "strict") then once m.is_strict (record m { is_strict = true }) else
    (if bytes_eq w (codes "provable") then once m.is_provable (record m { is_provable = true }) else
    (if bytes_eq w (codes "free") then once m.is_free (record m { is_free = true }) else None)))

abbrev pub AreModifiers : Modifiers → Nodes → Modifiers → Type 0
AreModifiers before no_nodes m = m ≡ before
AreModifiers before (node (atom _ w) ns) m = (next : Modifiers) × (with_modifier before w ≡ Some next) × AreModifiers next ns m
AreModifiers before (node (list _ _) ns) m = ⊥

-- 1 for pure, 2 for strict, 4 for provable, 8 for free
abbrev pub bit : Bool → ℕ → ℕ
bit true n = n
bit false n = 0

abbrev pub modifier_bits : Modifiers → ℕ
modifier_bits m = bit m.is_pure 1 + bit m.is_strict 2 + bit m.is_provable 4 + bit m.is_free 8

-- ---- hypotheses of a theorem, each written (h expr)

abbrev pub IsHyp : Scope → List (List ℕ) → Node → List ℕ → Tree → Type 0
IsHyp sc taken (list _ (node x (node e no_nodes))) h f = IsNewName taken x h × IsExpr sc e f
IsHyp sc taken _ h f = ⊥

-- `taken` are the names before, and `after` those of all of them in the end
abbrev pub AreHyps : Scope → List (List ℕ) → Nodes → Trees → List (List ℕ) → Type 0
AreHyps sc taken no_nodes es after = (es ≡ none) × (after ≡ taken)
AreHyps sc taken (node n ns) es after = (h : List ℕ) × (f : Tree) × (fs : Trees)
    × IsHyp sc taken n h f × AreHyps sc (taken ++ h ∷ []) ns fs after × (es ≡ more f fs)

abbrev pub AreNamedHyps : Scope → Node → Trees → List (List ℕ) → Type 0
AreNamedHyps sc (atom _ _) es after = ⊥
AreNamedHyps sc (list _ ns) es after = AreHyps sc [] ns es after

-- ---- statements

-- the parts behind the keyword of the kind are those of this statement, whose visibility isn't looked at
abbrev pub IsDeclared : Names → Kind → Nodes → Statement → Type 0
IsDeclared names sort_kind (node x ms) s = (m : Modifiers)
    × IsNewName names.sorts x s.name × AreModifiers no_modifiers ms m
    × (s.decl ≡ sort_decl (record { 0 = modifier_bits m })) × (s.dummies ≡ []) × (s.proof ≡ None)
IsDeclared names term_kind (node x (node ps (node r no_nodes))) s = (params : List Binder) × (vars : List (List ℕ)) × (result : ResultType)
    × IsNewName names.terms x s.name × AreParams names ps params vars × IsResult names vars r result
    × (s.decl ≡ term_decl (record { signature = record { params = params; result = result }; form = plain_form }))
    × (s.dummies ≡ []) × (s.proof ≡ None)
IsDeclared names axiom_kind (node x (node ps (node hs (node e no_nodes)))) s =
    (params : List Binder) × (vars : List (List ℕ)) × (hyps : Trees) × (conclusion : Tree)
    × IsNewName names.assertions x s.name × AreParams names ps params vars
    × IsExprList (scope_of names vars) hs hyps × IsExpr (scope_of names vars) e conclusion
    × (s.decl ≡ assertion_decl (record { is_axiom = true; params = params; hyps = hyps; conclusion = conclusion }))
    × (s.dummies ≡ []) × (s.proof ≡ None)
IsDeclared names def_kind (node x (node ps (node r (node ds (node e no_nodes))))) s =
    (params : List Binder) × (vars : List (List ℕ)) × (result : ResultType) × (dummies : List Binder) × (all : List (List ℕ)) × (body : Tree)
    × IsNewName names.terms x s.name × AreParams names ps params vars × IsResult names vars r result
    × AreDummies names vars ds dummies all × IsExpr (scope_of names all) e body
    × (s.decl ≡ term_decl (record { signature = record { params = params; result = result }; form = defined dummies body }))
    × (s.dummies ≡ []) × (s.proof ≡ None)
IsDeclared names theorem_kind (node x (node ps (node hs (node e (node ds (node q no_nodes)))))) s =
    (params : List Binder) × (vars : List (List ℕ)) × (hyps : Trees) × (labels : List (List ℕ)) × (conclusion : Tree)
    × (all : List (List ℕ)) × (proof : Proof)
    × IsNewName names.assertions x s.name × AreParams names ps params vars
    × AreNamedHyps (scope_of names vars) hs hyps labels × IsExpr (scope_of names vars) e conclusion
    × AreDummies names vars ds s.dummies all × IsProof (scope_of names all) labels [] q proof
    × (s.decl ≡ assertion_decl (record { is_axiom = false; params = params; hyps = hyps; conclusion = conclusion }))
    × (s.proof ≡ Some proof)
IsDeclared names _ _ s = ⊥

-- only definitions and theorems are local
abbrev pub IsLocal : Names → Kind → Nodes → Statement → Type 0
IsLocal names def_kind ns s = IsDeclared names def_kind ns s
IsLocal names theorem_kind ns s = IsDeclared names theorem_kind ns s
IsLocal names _ ns s = ⊥

abbrev pub IsMarked : Bool → Names → Node → Nodes → Statement → Type 0
IsMarked false names k ns s = (s.is_local ≡ false) × IsDeclared names (kind_of k) ns s
IsMarked true names k no_nodes s = ⊥
IsMarked true names k (node k' ns) s = (s.is_local ≡ true) × IsLocal names (kind_of k') ns s

abbrev pub IsStatement : Names → Node → Statement → Type 0
IsStatement names (atom _ _) s = ⊥
IsStatement names (list _ no_nodes) s = ⊥
IsStatement names (list _ (node k ns)) s = IsMarked (is_local_word k) names k ns s

-- ---- all statements, each over the names of those before it

abbrev pub AreStatements : Names → Nodes → List Statement → Type 0
AreStatements names no_nodes ss = ss ≡ []
AreStatements names (node n ns) ss = (s : Statement) × (rest : List Statement)
    × IsStatement names n s × AreStatements (names_with names s.name s.decl) ns rest × (ss ≡ s ∷ rest)

-- the text's nodes are these, and its statements these; proofs may have gaps, or none may
abbrev pub Reads : Bool → List ℕ → Nodes → List Statement → Type 0
Reads gaps text ns ss = Spells text ns × AreStatements (no_names gaps) ns ss

-- ---- gaps

-- gaps stand in the proof that a statement has only where G holds
abbrev pub HasGapsOnly : Type 0 → Statement → Type 0
HasGapsOnly G s = SomeLeavesOnly G s.proof

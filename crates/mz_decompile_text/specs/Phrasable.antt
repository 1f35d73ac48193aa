-- Which statements can be read of the phrases that state them (this project's own form).
use Rattle.std.specs.Prelude.{◌≡◌, ◌<◌, ◌≤◌, ⊤, ℕ, suc, Bool, true, false, List, [], ◌∷◌, ◌++◌, length, Option, Some, None}
use Rattle.std.specs.List.Sorted.{IsStrictlyIncreasing}
use Rattle.mz_sexpr.specs.Node.{depth_limit}
use Rattle.mz_logic_theory.specs.Tree.{listed}
use Rattle.mz_logic_theory.specs.Declaration.{Form, plain_form, abstract_form, defined, context_of, Declaration, sort_decl, term_decl, assertion_decl, sorts, signatures, assertions, DepsAscend}
use Rattle.mz_logic_theory.specs.declared.binder.Binder.{Binder}
use Rattle.mz_base.specs.Names.{IsNew}
use Rattle.mz_mmu_theory.specs.Name.{Names, IsName, no_names, names_with}
use Rattle.mz_mmu_theory.specs.Statements.{HasGapsOnly, Statement}
use Rattle.mz_mmu_theory.specs.Proof.{Proof, Proofs, by_hyp, by_name, by_citation, by_conv, by_let, by_gap, no_proofs, more_proofs}
use Rattle.mz_mmu_theory.specs.Meaning.{IsLegalAsStated}
use Rattle.mz_decompile_text.specs.Phrases.{depth}
use Rattle.mz_decompile_text.specs.Phrasing.{Vocabulary, statement}

-- The first n variables, hypotheses and lets have names, each its own; no hypothesis is named as a let.
pub record HasNames (v : Vocabulary) (n : ℕ) : Type 0 where
  pub variables : (x : ℕ) → x < n → IsName (v.variable x)
  pub hypotheses : (i : ℕ) → i < n → IsName (v.hypothesis i)
  pub lets : (k : ℕ) → k < n → IsName (v.let_name k)
  pub own_variables : (x y : ℕ) → x < n → y < n → v.variable x ≡ v.variable y → x ≡ y
  pub own_hypotheses : (i j : ℕ) → i < n → j < n → v.hypothesis i ≡ v.hypothesis j → i ≡ j
  pub own_lets : (k l : ℕ) → k < n → l < n → v.let_name k ≡ v.let_name l → k ≡ l
  pub apart : (i k : ℕ) → i < n → k < n → v.hypothesis i ≡ v.let_name k → ⊥

-- the name is that of the vocabulary, and new in its space; no variable is named as a term
abbrev pub HasNewName : Vocabulary → ℕ → List Declaration → Names → List ℕ → Declaration → Type 0
HasNewName v n env names name (sort_decl m) = (name ≡ v.sort (length (sorts env))) × IsNew names.sorts name
HasNewName v n env names name (term_decl d) = (name ≡ v.term (length (signatures env))) × IsNew names.terms name × ((x : ℕ) → x < n → v.variable x ≡ name → ⊥)
HasNewName v n env names name (assertion_decl a) = (name ≡ v.assertion (length (assertions env))) × IsNew names.assertions name

-- each let that is mentioned is visible where k are, and no more than n are visible at one place
abbrev mutual
  pub SeesLets : ℕ → ℕ → Proof → Type 0
  SeesLets n k (by_hyp i) = ⊤
  SeesLets n k (by_name i) = i < k
  SeesLets n k (by_citation T es ps) = AllSeeLets n k ps
  SeesLets n k (by_conv e c p) = SeesLets n k p
  SeesLets n k (by_let p q) = (k < n) × SeesLets n k p × SeesLets n (suc k) q
  SeesLets n k (by_gap e) = ⊤

  pub AllSeeLets : ℕ → ℕ → Proofs → Type 0
  AllSeeLets n k no_proofs = ⊤
  AllSeeLets n k (more_proofs p ps) = SeesLets n k p × AllSeeLets n k ps

abbrev pub HasForm : Form → Type 0
HasForm plain_form = ⊤
HasForm abstract_form = ⊥
HasForm (defined ds body) = ⊤

-- beside a sort, a term or an axiom stands no proof; a theorem has one
abbrev pub HasProofIfTheorem : ℕ → Bool → List Binder → Option Proof → Type 0
HasProofIfTheorem n is_axiom dummies None = (is_axiom ≡ true) × (dummies ≡ [])
HasProofIfTheorem n is_axiom dummies (Some p) = (is_axiom ≡ false) × SeesLets n 0 p

-- there are names for all of it, and it has a form
abbrev pub IsWithin : ℕ → Declaration → List Binder → Option Proof → Type 0
IsWithin n (sort_decl m) dummies p = (m.0 < 16) × (dummies ≡ []) × (p ≡ None)
IsWithin n (term_decl d) dummies p = (length (context_of d) ≤ n) × DepsAscend d.signature.params × IsStrictlyIncreasing d.signature.result.deps × HasForm d.form
    × (dummies ≡ []) × (p ≡ None)
IsWithin n (assertion_decl a) dummies p = (length (a.params ++ dummies) ≤ n) × (length (listed a.hyps) ≤ n) × DepsAscend a.params × HasProofIfTheorem n a.is_axiom dummies p

pub record IsPhrasable (v : Vocabulary) (n : ℕ) (env : List Declaration) (names : Names) (s : Statement) : Type 0 where
  pub identifier : IsName s.name
  pub new : HasNewName v n env names s.name s.decl
  pub legal : IsLegalAsStated false env s
  pub finished : HasGapsOnly ⊥ s
  pub within : IsWithin n s.decl s.dummies s.proof
  pub low : depth (statement v s) ≤ depth_limit

-- each over those before it
abbrev pub ArePhrasableAfter : Vocabulary → ℕ → List Declaration → Names → List Statement → Type 0
ArePhrasableAfter v n env names [] = ⊤
ArePhrasableAfter v n env names (s ∷ ss) = IsPhrasable v n env names s × ArePhrasableAfter v n (env ++ s.decl ∷ []) (names_with names s.name s.decl) ss

abbrev pub ArePhrasable : Vocabulary → ℕ → List Statement → Type 0
ArePhrasable v n ss = ArePhrasableAfter v n [] (no_names false) ss

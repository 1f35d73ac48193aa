-- Laws on the statements of texts.
use Rattle.std.specs.Prelude.{ℕ, ◌≡◌, ◌⊎◌, ⊤, Bool, true, List, [], All, Some, None, MatchBool}
use Rattle.std.specs.List.Sorted.{IsStrictlyIncreasing}
use Rattle.mz_logic_theory.specs.Declaration.{Declaration, sort_decl, term_decl, assertion_decl, dummies_of, DepsAscend}
use Rattle.mz_logic_theory.specs.LegalLists.{MayBeLocal}
use Rattle.mz_sexpr.specs.declared.rule.TextRefusal.{TextRefusal}
use Rattle.mz_sexpr.specs.Node.{Nodes}
use Rattle.mz_mmu_theory.specs.Statements.{HasGapsOnly, Statement, AreStatements, Reads}
use Rattle.mz_mmu_theory.specs.Proof.{Proof}
use Rattle.mz_mmu_theory.specs.Name.{Names}
use Rattle.mz_mmu_theory.specs.StatementOrder.{Refuses}

-- a text that is read isn't refused, and no text is refused in two ways, where proofs may have gaps and
-- where none may
pub record IsReadOrRefusedOnce (gaps : Bool) (text : List ℕ) : Type 0 where
  pub never_both : (ns : Nodes) (ss : List Statement) (r : TextRefusal) → Reads gaps text ns ss → Refuses gaps text r → ⊥
  pub one_refusal : (q r : TextRefusal) → Refuses gaps text q → Refuses gaps text r → q ≡ r

-- a text is no two lists of nodes, and its nodes no two lists of statements
abbrev pub HasOneReading : Bool → List ℕ → Type 0
HasOneReading gaps text = (ns ms : Nodes) (ss ts : List Statement) → Reads gaps text ns ss → Reads gaps text ms ts → (ns ≡ ms) × (ss ≡ ts)

-- over these names, too, nodes are no two lists of statements
abbrev pub AreOneList : Names → Nodes → Type 0
AreOneList names ns = (ss ts : List Statement) → AreStatements names ns ss → AreStatements names ns ts → ss ≡ ts

-- a text has statements or a refusal, and never both or two refusals
pub record IsReadOrRefused (gaps : Bool) (text : List ℕ) : Type 0 where
  pub one_of_both : ((ns : Nodes) × (ss : List Statement) × Reads gaps text ns ss) ⊎ ((r : TextRefusal) × Refuses gaps text r)
  pub never_both : (ns : Nodes) (ss : List Statement) (r : TextRefusal) → Reads gaps text ns ss → Refuses gaps text r → ⊥
  pub one_refusal : (q r : TextRefusal) → Refuses gaps text q → Refuses gaps text r → q ≡ r

-- ---- what each statement of a text has

abbrev pub Ascends : Declaration → Type 0
Ascends (sort_decl _) = ⊤
Ascends (term_decl d) = DepsAscend d.signature.params × IsStrictlyIncreasing d.signature.result.deps × DepsAscend (dummies_of d.form)
Ascends (assertion_decl a) = DepsAscend a.params

abbrev pub HasNoProof : Statement → Type 0
HasNoProof s = (s.dummies ≡ []) × (s.proof ≡ None)

-- a theorem has a proof; nothing else has one, or dummies beside its declaration
abbrev pub HasItsProof : Declaration → Statement → Type 0
HasItsProof (sort_decl _) s = HasNoProof s
HasItsProof (term_decl _) s = HasNoProof s
HasItsProof (assertion_decl a) s = MatchBool a.is_axiom (HasNoProof s) ((p : Proof) × (s.proof ≡ Some p))

pub record IsWhole (s : Statement) : Type 0 where
  pub ascend : Ascends s.decl
  pub dummies_ascend : DepsAscend s.dummies
  pub has_proof : HasItsProof s.decl s
  pub mark : s.is_local ≡ true → MayBeLocal s.decl

abbrev pub AreWhole : Names → Nodes → Type 0
AreWhole names ns = (ss : List Statement) → AreStatements names ns ss → All IsWhole ss

-- where no proof may have a gap, none has one
abbrev pub OnlyDraftsHaveGaps : Names → Nodes → Type 0
OnlyDraftsHaveGaps names ns = (ss : List Statement) → AreStatements names ns ss → All (HasGapsOnly (names.gaps ≡ true)) ss

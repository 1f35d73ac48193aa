-- What follows from the definitions: the statements of the laws that `laws.rt` proves.
use Rattle.std.specs.Prelude.{ℕ, ◌≡◌, ◌<◌, ◌↔◌, Bool, true, false, List, [], ◌++◌, All, Contains, length, slice_get, Some}
use Rattle.std.specs.Int.{bit_at}
use Rattle.mz_logic_theory.specs.Tree.{Tree, Trees, operand, instance, instances}
use Rattle.mz_logic_theory.specs.Signature.{Signature}
use Rattle.mz_logic_theory.specs.Declaration.{Term, Assertion, Declaration, term_decl, assertion_decl, dummies_of, body_of, context_of, sorts, signatures}
use Rattle.mz_logic_theory.specs.Modifiers.{MayBeResultSort, MayBeBoundSort, MayBeDummySort}
use Rattle.mz_logic_theory.specs.Sorts.{HasSort, Fits, HasProvable, AreProvable}
use Rattle.mz_logic_theory.specs.Variables.{Occurs, InV, InFV, IsBoundAt, AreDisjoint}
use Rattle.mz_logic_theory.specs.Legality.{Each, EachTree, IsDummy, AreParams, IsLegalDecl, IsLegalEnv}
use Rattle.mz_logic_theory.specs.Conversions.{Conversion, Between}
use Rattle.mz_logic_theory.specs.Derivations.{Derivation, Derives}
use Rattle.mz_logic_theory.specs.LegalLists.{Statement, Legal, LegalBy, declarations}
use Rattle.mz_logic_theory.specs.Closed.{AreSupports, by_number, on_support, CitesAxioms, TheoremsClosed}
use Rattle.mz_logic_theory.specs.Words.{TermWords, word_bound, word_sort, word_deps, bound_places, binders_of, result_of}
use Rattle.mz_logic_theory.specs.declared.word.Word.{Word}
use Rattle.mz_logic_theory.specs.declared.binder.Binder.{Binder}
use Rattle.mz_logic_theory.specs.declared.binder.SortMods.{SortMods}

-- an expression has one sort
abbrev pub SortsAreUnique : Type 0
SortsAreUnique = (sigs : List Signature) (ctx : List Binder) (e : Tree) (s s' : ℕ) → HasSort sigs ctx e s → HasSort sigs ctx e s' → s ≡ s'

-- ---- substitution

-- an instance under operands that fit has the sort that the expression has
abbrev pub InstancesKeepSorts : Type 0
InstancesKeepSorts = (sigs : List Signature) (ctx params : List Binder) (f : Trees) → Fits sigs ctx f params
    → (e : Tree) (s : ℕ) → HasSort sigs params e s → HasSort sigs ctx (instance f e) s

-- and instances of operands that fit do
abbrev pub InstancesFit : Type 0
InstancesFit = (sigs : List Signature) (ctx params : List Binder) (f : Trees) → Fits sigs ctx f params
    → (es : Trees) (ps : List Binder) → Fits sigs params es ps → Fits sigs ctx (instances f es) ps

-- V of an instance is the union of the V of what is put in for the variables that occur
abbrev pub InstancesHaveWhatIsPutIn : Type 0
InstancesHaveWhatIsPutIn = (ctx : List Binder) (x : ℕ) (f : Trees) (e : Tree)
    → InV ctx x (instance f e) ↔ ((y : ℕ) × Occurs y e × InV ctx x (operand f y))

-- bound variables depend on nothing
abbrev pub BoundArePlain : List Binder → Type 0
BoundArePlain ctx = Each ctx (λ _ b. b.bound ≡ true → b.deps ≡ [])

-- operands that are disjoint stay so under a substitution whose own operands are disjoint
abbrev pub InstancesStayDisjoint : Type 0
InstancesStayDisjoint = (sigs : List Signature) (ctx params : List Binder) → BoundArePlain params
    → (f : Trees) → AreDisjoint ctx f params
    → (es : Trees) (ps : List Binder) → Fits sigs params es ps → AreDisjoint params es ps
    → AreDisjoint ctx (instances f es) ps

-- ---- longer environments and contexts

abbrev pub LongerKeepSorts : Type 0
LongerKeepSorts = (env more : List Declaration) (ctx further : List Binder) (e : Tree) (s : ℕ)
    → HasSort (signatures env) ctx e s → HasSort (signatures (env ++ more)) (ctx ++ further) e s

abbrev pub LongerKeepFits : Type 0
LongerKeepFits = (env more : List Declaration) (ctx further : List Binder) (es : Trees) (ps : List Binder)
    → Fits (signatures env) ctx es ps → Fits (signatures (env ++ more)) (ctx ++ further) es ps

-- V of an expression of the shorter context is the same in the longer one
abbrev pub LongerKeepVariables : Type 0
LongerKeepVariables = (sigs : List Signature) (ctx further : List Binder) (x : ℕ) (e : Tree) (s : ℕ)
    → HasSort sigs ctx e s → InV (ctx ++ further) x e ↔ InV ctx x e

abbrev pub LongerKeepDisjoint : Type 0
LongerKeepDisjoint = (sigs : List Signature) (ctx further : List Binder) (es : Trees) (ps : List Binder)
    → Fits sigs ctx es ps → AreDisjoint ctx es ps → AreDisjoint (ctx ++ further) es ps

abbrev pub LongerKeepConversions : Type 0
LongerKeepConversions = (env more : List Declaration) (ctx further : List Binder) (c : Conversion) (l r : Tree)
    → Between env ctx c l r → Between (env ++ more) (ctx ++ further) c l r

abbrev pub LongerKeepDerivations : Type 0
LongerKeepDerivations = (env more : List Declaration) (ctx further : List Binder) (hyps : Trees) (d : Derivation) (e : Tree)
    → Derives env ctx hyps d e → Derives (env ++ more) (ctx ++ further) hyps d e

-- ---- what legality gives

abbrev pub SortsThere : List SortMods → List Binder → Type 0
SortsThere ss bs = All (λ b. b.sort < length ss) bs

-- an axiom or theorem is legal exactly where its parameters are right, and its hypotheses and its
-- conclusion have provable sorts over them
abbrev pub LegalAssertionsAreSorted : Type 0
LegalAssertionsAreSorted = (env : List Declaration) (a : Assertion) → IsLegalDecl env (assertion_decl a)
    ↔ (SortsThere (sorts env) a.params × AreParams (sorts env) a.params
    × AreProvable env a.params a.hyps × HasProvable env a.params a.conclusion)

-- a term is legal exactly where its parameters, dummies and result are right, and its body has the
-- result's sort and no free variable on which the result doesn't depend
abbrev pub LegalTermsAreSorted : Type 0
LegalTermsAreSorted = (env : List Declaration) (d : Term) → IsLegalDecl env (term_decl d)
    ↔ (SortsThere (sorts env) d.signature.params × AreParams (sorts env) d.signature.params
    × All (λ b. IsDummy b × MayBeDummySort (sorts env) b.sort) (dummies_of d.form)
    × MayBeResultSort (sorts env) d.signature.result.sort
    × All (IsBoundAt d.signature.params) d.signature.result.deps
    × EachTree (λ e. HasSort (signatures env) (context_of d) e d.signature.result.sort
    × ((x : ℕ) → InFV (signatures env) (context_of d) x e → Contains d.signature.result.deps x)) (body_of d.form))

-- in a legal environment both sides of a conversion have one sort
abbrev pub ConversionsKeepSorts : Type 0
ConversionsKeepSorts = (env : List Declaration) → IsLegalEnv env → (ctx : List Binder) (c : Conversion) (l r : Tree) (s : ℕ)
    → Between env ctx c l r → HasSort (signatures env) ctx l s → HasSort (signatures env) ctx r s

-- and what is derived from hypotheses of provable sorts has one
abbrev pub DerivedIsProvable : Type 0
DerivedIsProvable = (env : List Declaration) → IsLegalEnv env → (ctx : List Binder) (hyps : Trees) → AreProvable env ctx hyps
    → (d : Derivation) (e : Tree) → Derives env ctx hyps d e → HasProvable env ctx e

-- ---- legal lists

-- the declarations of a legal list are a legal environment
abbrev pub LegalListsAreLegalEnvs : Type 0
LegalListsAreLegalEnvs = (list : List Statement) → Legal list → IsLegalEnv (declarations list)

-- a list that is legal is so by derivations that cite axioms alone
abbrev pub LegalByAxioms : Type 0
LegalByAxioms = (list : List Statement) → Legal list → LegalBy CitesAxioms list

-- A list that is legal by what each theorem cites is so by the axioms of the theorem's support. Tests say what is cited, and
-- what is in a support.
abbrev pub LegalBySupports : Type 0
LegalBySupports = (list : List Statement) (cited support : ℕ → ℕ → Bool)
    → AreSupports (declarations list) (λ T U. cited T U ≡ true) (λ T A. support T A ≡ true)
    → LegalBy (by_number (λ T U. cited T U ≡ true)) list → LegalBy (on_support (λ T A. support T A ≡ true)) list

-- each theorem of a legal list has a derivation from axioms alone over the statements before it
abbrev pub LegalListsAreClosed : Type 0
LegalListsAreClosed = (list : List Statement) → Legal list → TheoremsClosed list

-- ---- words of a table

-- the sorts of the bound words are there and not strict
abbrev pub BoundWordsMayBeBound : List SortMods → List Word → Type 0
BoundWordsMayBeBound ss ws = (i : ℕ) (w : Word) → slice_get ws i ≡ Some w → word_bound w ≡ true → MayBeBoundSort ss (word_sort w)

-- then the binders that the words say are right as parameters: what is read depends on earlier bound
-- ones alone
abbrev pub WordsSayParameters : Type 0
WordsSayParameters = (ss : List SortMods) (ws : List Word) → BoundWordsMayBeBound ss ws → AreParams ss (binders_of ws)

-- and a result that words say depends on bound parameters
abbrev pub WordsSayResults : Type 0
WordsSayResults = (t : TermWords) → All (IsBoundAt (binders_of t.params)) (result_of t).deps

-- a regular parameter depends on the k-th bound parameter, one before it, exactly where bit k of its
-- word is set
abbrev pub WordsSayDependencies : Type 0
WordsSayDependencies = (ws : List Word) (i : ℕ) (w : Word) (b : Binder)
    → slice_get ws i ≡ Some w → word_bound w ≡ false → slice_get (binders_of ws) i ≡ Some b
    → (k p : ℕ) → slice_get (bound_places 0 ws) k ≡ Some p → p < i → (bit_at (word_deps w) k ≡ 1) ↔ Contains b.deps p

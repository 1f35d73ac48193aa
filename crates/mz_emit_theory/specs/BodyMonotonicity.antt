-- What carries right steps from one statement to the next.
use Rattle.std.specs.Prelude.{◌≡◌, ℕ, Bool, List, [], ◌∷◌, ◌++◌, length, slice_get, Some}
use Rattle.mz_cmd.specs.declared.code.ProofCode.{ProofCode}
use Rattle.mz_logic_theory.specs.Tree.{Tree}
use Rattle.mz_logic_theory.specs.Declaration.{Term, Assertion, Declaration, sort_decl, term_decl, assertion_decl}
use Rattle.mz_logic_theory.specs.Legality.{AreParams, Each}
use Rattle.mz_logic_theory.specs.declared.binder.Binder.{Binder}
use Rattle.mz_logic_theory.specs.declared.binder.SortMods.{SortMods}
use Rattle.mz_machine_theory.specs.Profile.{Item}
use Rattle.mz_emit_theory.specs.SymbolicState.{Work}
use Rattle.mz_emit_theory.specs.Steps.{Steps}
use Rattle.mz_emit_theory.specs.AlphaEquivalence.{IsSameTerm, IsSameEnv}
use Rattle.mz_emit_theory.specs.BodyLaws.{DependOnFirst}

-- steps one after another are steps
abbrev pub StepsJoin : Type 0
StepsJoin = (gaps : Bool) (env : List Declaration) (ctx : List Binder) (cs ds : List (ProofCode × ℕ)) (w mid w' : Work)
    → Steps gaps env ctx w cs mid → Steps gaps env ctx mid ds w' → Steps gaps env ctx w (cs ++ ds) w'

-- what is in the heap stays at its place
abbrev pub StepsKeepTheHeap : Type 0
StepsKeepTheHeap = (gaps : Bool) (env : List Declaration) (ctx : List Binder) (cs : List (ProofCode × ℕ)) (w w' : Work) → Steps gaps env ctx w cs w'
    → (i : ℕ) (x : Item Tree) → slice_get w.heap i ≡ Some x → slice_get w'.heap i ≡ Some x

-- parameters that are right and dummies without dependencies depend on the parameters alone
abbrev pub ContextsDependOnParams : Type 0
ContextsDependOnParams = (ss : List SortMods) (params dummies : List Binder) → AreParams ss params → Each dummies (λ _ b. b.deps ≡ []) → DependOnFirst (length params) (params ++ dummies)

-- environments that are the same stay so
abbrev pub SameAtFirst : Type 0
SameAtFirst = IsSameEnv [] []

abbrev pub SameWithSort : Type 0
SameWithSort = (env env' : List Declaration) (m : SortMods) → IsSameEnv env env' → IsSameEnv (env ++ sort_decl m ∷ []) (env' ++ sort_decl m ∷ [])

abbrev pub SameWithTerm : Type 0
SameWithTerm = (env env' : List Declaration) (d d' : Term) → IsSameEnv env env' → IsSameTerm d d' → IsSameEnv (env ++ term_decl d ∷ []) (env' ++ term_decl d' ∷ [])

abbrev pub SameWithAssertion : Type 0
SameWithAssertion = (env env' : List Declaration) (a : Assertion) → IsSameEnv env env' → IsSameEnv (env ++ assertion_decl a ∷ []) (env' ++ assertion_decl a ∷ [])

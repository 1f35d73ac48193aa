-- Worked examples of the rules on variables, each beside a neighbour that fails.
use Rattle.std.specs.Prelude.{◌≡◌, true, false, ℕ, List, [], ◌∷◌, ◌++◌}
use Rattle.mz_logic_theory.specs.Tree.{Tree, var, app, none, more}
use Rattle.mz_logic_theory.specs.Signature.{Signature}
use Rattle.mz_logic_theory.specs.Declaration.{plain_form, defined, Assertion, Declaration, sort_decl, term_decl, assertion_decl, assertions}
use Rattle.mz_logic_theory.specs.Variables.{InV, InFV, AreDisjoint}
use Rattle.mz_logic_theory.specs.Conversions.{refl_conv, unfold_conv, gap_conv, Between}
use Rattle.mz_logic_theory.specs.Derivations.{Derivation, hypothesis, cite, convert, no_derivs, more_derivs, Derives, IsGapFree}
use Rattle.mz_logic_theory.specs.LegalLists.{AreDummies, Legal}
use Rattle.mz_logic_theory.specs.Examples.{wff, wff_sort, nat, wff_x, quantifier, y_and_q, all_y_q, public}
use Rattle.mz_logic_theory.specs.declared.binder.Binder.{Binder}

-- q and y are not disjoint for (p: wff) {x: nat}: that the bound one comes later doesn't matter
abbrev pub NotDisjointThoughLater : Type 0
NotDisjointThoughLater = AreDisjoint y_and_q (more (var 1) (more (var 0) none)) (wff ∷ nat ∷ []) → ⊥

-- ---- a bound operand is free where the result depends on it

-- {x: nat}: wff x, or wff
abbrev pub of_nat : List ℕ → Signature
of_nat deps = record { params = nat ∷ []; result = record { sort = 0; deps = deps } }

abbrev pub at_y : Tree
at_y = app 0 (more (var 0) none)

abbrev pub FreeByTheResult : Type 0
FreeByTheResult = InFV (of_nat (0 ∷ []) ∷ []) (nat ∷ []) 0 at_y

abbrev pub BoundByTheTerm : Type 0
BoundByTheTerm = (InFV (of_nat [] ∷ []) (nat ∷ []) 0 at_y → ⊥) × InV (nat ∷ []) 0 at_y

-- ---- a citation: from q follows (all y q), by the axiom p > (all x p) for {x: nat} (p: wff x)

abbrev pub generalized : Binder → Assertion
generalized p = record { is_axiom = true; params = nat ∷ p ∷ []; hyps = more (var 1) none; conclusion = all_y_q }

-- cited with y and q
abbrev pub Generalizes : Binder → Type 0
Generalizes p = Derives (quantifier ++ assertion_decl (generalized p) ∷ []) y_and_q (more (var 1) none)
    (cite 0 (more (var 0) (more (var 1) none)) (more_derivs (hypothesis 0) no_derivs)) all_y_q

abbrev pub CitesWhereItDepends : Type 0
CitesWhereItDepends = Generalizes wff_x

-- by the axiom for (p: wff) it doesn't
abbrev pub CitesNotDisjoint : Type 0
CitesNotDisjoint = Generalizes wff → ⊥

-- ---- an unfolding with dummies

-- two sorts, the term (rel x y) for {x y: nat}, and the definitions (one z) as (rel z x) with the dummy
-- x and (two) as (rel x y) with the dummies x and y
abbrev pub result_wff : List ℕ → List Binder → Signature
result_wff deps params = record { params = params; result = record { sort = 0; deps = deps } }

abbrev pub rel : ℕ → ℕ → Tree
rel x y = app 0 (more (var x) (more (var y) none))

abbrev pub relation : List Declaration
relation = wff_sort ∷ sort_decl (record { 0 = 0 })
    ∷ term_decl (record { signature = result_wff [] (nat ∷ nat ∷ []); form = plain_form })
    ∷ term_decl (record { signature = result_wff [] (nat ∷ []); form = defined (nat ∷ []) (rel 0 1) })
    ∷ term_decl (record { signature = result_wff [] []; form = defined (nat ∷ nat ∷ []) (rel 0 1) })
    ∷ []

-- in the context of two bound variables, (one y) unfolds to (rel y z)
abbrev pub UnfoldsWithFresh : Type 0
UnfoldsWithFresh = Between relation (nat ∷ nat ∷ []) (unfold_conv 1 (more (var 0) none) (1 ∷ []) (refl_conv (rel 0 1))) (app 1 (more (var 0) none)) (rel 0 1)

-- but not to (rel y y): y is in V of the operand
abbrev pub UnfoldsWithOperand : Type 0
UnfoldsWithOperand = Between relation (nat ∷ nat ∷ []) (unfold_conv 1 (more (var 0) none) (0 ∷ []) (refl_conv (rel 0 0))) (app 1 (more (var 0) none)) (rel 0 0) → ⊥

-- nor does (two) unfold to (rel y y): one variable can't stand for two dummies
abbrev pub UnfoldsWithOneForTwo : Type 0
UnfoldsWithOneForTwo = Between relation (nat ∷ nat ∷ []) (unfold_conv 2 none (0 ∷ 0 ∷ []) (refl_conv (rel 0 0))) (app 2 none) (rel 0 0) → ⊥

-- ---- other things that don't hold

-- an expression without a sort doesn't convert to itself
abbrev pub NoSortNoConversion : Type 0
NoSortNoConversion = Between relation [] (refl_conv (var 0)) (var 0) (var 0) → ⊥

-- a dummy of a free sort
abbrev pub FreeDummy : Type 0
FreeDummy = AreDummies (record { 0 = 8 } ∷ []) (record { sort = 0; bound = true; deps = [] } ∷ []) → ⊥

-- a theorem that says its own conclusion from nothing, with no statement before it that it could cite
abbrev pub CitesItself : Type 0
CitesItself = Legal (public wff_sort ∷ public (assertion_decl (record { is_axiom = false; params = wff ∷ []; hyps = none; conclusion = var 0 })) ∷ []) → ⊥

-- ---- gaps

-- from a follows b, for (a b: wff)
abbrev pub any_from_any : Assertion
any_from_any = record { is_axiom = false; params = wff ∷ wff ∷ []; hyps = more (var 0) none; conclusion = var 1 }

-- a conversion with a gap leads from the one to the other
abbrev pub GapConverts : Type 0
GapConverts = Derives (wff_sort ∷ []) (wff ∷ wff ∷ []) (more (var 0) none) (convert (var 1) (gap_conv (var 1) (var 0)) (hypothesis 0)) (var 1)

-- but a list in which nothing else proves it isn't legal
abbrev pub GapIsIllegal : Type 0
GapIsIllegal = Legal (public wff_sort ∷ public (assertion_decl any_from_any) ∷ []) → ⊥

-- without axioms, theorems and hypotheses nothing has a derivation without gaps
abbrev pub NothingFromNothing : Type 0
NothingFromNothing = (env : List Declaration) (ctx : List Binder) (d : Derivation) (e : Tree) → assertions env ≡ [] → IsGapFree d → Derives env ctx none d e → ⊥

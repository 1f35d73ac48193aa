-- Worked examples of the definitions: two small logics, and what holds and fails in them.
use Rattle.std.specs.Prelude.{true, false, List, [], ◌∷◌}
use Rattle.mz_base.specs.Checks.{FailsFirst}
use Rattle.mz_logic_theory.specs.Tree.{Tree, var, app, none, more}
use Rattle.mz_logic_theory.specs.Signature.{Signature}
use Rattle.mz_logic_theory.specs.Declaration.{plain_form, defined, Term, Assertion, Declaration, sort_decl, term_decl, assertion_decl, signatures}
use Rattle.mz_logic_theory.specs.Variables.{InV, InFV, AreDisjoint}
use Rattle.mz_logic_theory.specs.Legality.{decl_checks}
use Rattle.mz_logic_theory.specs.Conversions.{refl_conv, unfold_conv, Between}
use Rattle.mz_logic_theory.specs.Derivations.{Derivation, hypothesis, cite, no_derivs, more_derivs, Derives}
use Rattle.mz_logic_theory.specs.LegalLists.{Statement, Legal}
use Rattle.mz_logic_theory.specs.declared.binder.Binder.{Binder}
use Rattle.mz_logic_theory.specs.declared.decl.DeclFault.{DeclFault}

-- ---- implication: one provable sort, (im a b), and two axioms

-- (a: wff)
abbrev pub wff : Binder
wff = record { sort = 0; bound = false; deps = [] }

abbrev pub two : List Binder
two = wff ∷ wff ∷ []

abbrev pub wff_sort : Declaration
wff_sort = sort_decl (record { 0 = 4 })

abbrev pub im_declared : Term
im_declared = record { signature = record { params = two; result = record { sort = 0; deps = [] } }; form = plain_form }

abbrev pub im_term : Declaration
im_term = term_decl im_declared

abbrev pub im : Tree → Tree → Tree
im a b = app 0 (more a (more b none))

-- (im a (im b a))
abbrev pub ax_1 : Assertion
ax_1 = record { is_axiom = true; params = two; hyps = none; conclusion = im (var 0) (im (var 1) (var 0)) }

-- from (im a b) and a, b
abbrev pub ax_mp : Assertion
ax_mp = record { is_axiom = true; params = two; hyps = more (im (var 0) (var 1)) (more (var 0) none); conclusion = var 1 }

abbrev pub implication : List Declaration
implication = wff_sort ∷ im_term ∷ assertion_decl ax_1 ∷ assertion_decl ax_mp ∷ []

-- from a, (im b a): by modus ponens from ax_1 and the hypothesis
abbrev pub a1i : Derivation
a1i = cite 1 (more (var 0) (more (im (var 1) (var 0)) none))
    (more_derivs (cite 0 (more (var 0) (more (var 1) none)) no_derivs) (more_derivs (hypothesis 0) no_derivs))

abbrev pub A1iDerives : Type 0
A1iDerives = Derives implication two (more (var 0) none) a1i (im (var 1) (var 0))

-- with its subproofs exchanged it derives nothing
abbrev pub a1i_turned : Derivation
a1i_turned = cite 1 (more (var 0) (more (im (var 1) (var 0)) none))
    (more_derivs (hypothesis 0) (more_derivs (cite 0 (more (var 0) (more (var 1) none)) no_derivs) no_derivs))

abbrev pub A1iTurnedFails : Type 0
A1iTurnedFails = Derives implication two (more (var 0) none) a1i_turned (im (var 1) (var 0)) → ⊥

-- ---- a legal list of four statements: the sort, the term, ax_1, and (im a (im a a)) by ax_1

abbrev pub public : Declaration → Statement
public d = record { is_local = false; decl = d }

abbrev pub same_twice : Assertion
same_twice = record { is_axiom = false; params = wff ∷ []; hyps = none; conclusion = im (var 0) (im (var 0) (var 0)) }

abbrev pub four : List Statement
four = public wff_sort ∷ public im_term ∷ public (assertion_decl ax_1) ∷ public (assertion_decl same_twice) ∷ []

abbrev pub FourAreLegal : Type 0
FourAreLegal = Legal four

-- with ax_1 declared local, or not there, they aren't
abbrev pub LocalAxiomFails : Type 0
LocalAxiomFails = Legal (public wff_sort ∷ public im_term ∷ record { is_local = true; decl = assertion_decl ax_1 } ∷ []) → ⊥

-- ---- a quantifier: (all x p) for {x: nat} (p: wff x)

abbrev pub nat : Binder
nat = record { sort = 1; bound = true; deps = [] }

-- (p: wff x), x being the first parameter
abbrev pub wff_x : Binder
wff_x = record { sort = 0; bound = false; deps = 0 ∷ [] }

abbrev pub all_signature : Signature
all_signature = record { params = nat ∷ wff_x ∷ []; result = record { sort = 0; deps = [] } }

abbrev pub quantifier : List Declaration
quantifier = wff_sort ∷ sort_decl (record { 0 = 0 }) ∷ term_decl (record { signature = all_signature; form = plain_form }) ∷ []

-- {y: nat} (q: wff y)
abbrev pub y_and_q : List Binder
y_and_q = nat ∷ wff_x ∷ []

-- y and q are not disjoint for {x: nat} (p: wff), since q depends on y and p doesn't depend on x
abbrev pub NotDisjoint : Type 0
NotDisjoint = AreDisjoint y_and_q (more (var 0) (more (var 1) none)) (nat ∷ wff ∷ []) → ⊥

-- but for {x: nat} (p: wff x) they are
abbrev pub DisjointWhereItDepends : Type 0
DisjointWhereItDepends = AreDisjoint y_and_q (more (var 0) (more (var 1) none)) (nat ∷ wff_x ∷ [])

abbrev pub all_y_q : Tree
all_y_q = app 0 (more (var 0) (more (var 1) none))

-- nor are y and (all y q) for {x: nat} (p: wff): y is in V of (all y q), though not in FV
abbrev pub NotDisjointThoughNotFree : Type 0
NotDisjointThoughNotFree = (AreDisjoint y_and_q (more (var 0) (more all_y_q none)) (nat ∷ wff ∷ []) → ⊥)
    × InV y_and_q 0 all_y_q × (InFV (signatures quantifier) y_and_q 0 all_y_q → ⊥)

-- ---- the first fault of a declaration

-- a parameter of the sort wff that depends on the second
abbrev pub wff_y : Binder
wff_y = record { sort = 0; bound = false; deps = 1 ∷ [] }

abbrev pub plain_term : List Binder → Declaration
plain_term params = term_decl (record { signature = record { params = params; result = record { sort = 0; deps = [] } }; form = plain_form })

-- (p: wff y) alone: a missing name
abbrev pub MissingDependency : Type 0
MissingDependency = FailsFirst (decl_checks quantifier (plain_term (wff_y ∷ []))) DeclFault.Index

-- (p: wff y) {y: nat}, where y comes later: a wrong binder
abbrev pub LaterDependency : Type 0
LaterDependency = FailsFirst (decl_checks quantifier (plain_term (wff_y ∷ nat ∷ []))) DeclFault.Binder

-- ---- a definition that unfolds: (nn a) is (not (not a))

abbrev pub neg : Tree → Tree
neg e = app 0 (more e none)

abbrev pub one_param : Signature
one_param = record { params = wff ∷ []; result = record { sort = 0; deps = [] } }

abbrev pub negation : List Declaration
negation = wff_sort ∷ term_decl (record { signature = one_param; form = plain_form })
    ∷ term_decl (record { signature = one_param; form = defined [] (neg (neg (var 0))) }) ∷ []

abbrev pub NnUnfolds : Type 0
NnUnfolds = Between negation (wff ∷ []) (unfold_conv 1 (more (var 0) none) [] (refl_conv (neg (neg (var 0))))) (app 1 (more (var 0) none)) (neg (neg (var 0)))

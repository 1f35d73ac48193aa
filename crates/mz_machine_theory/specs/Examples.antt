-- Bodies whose outcome is known from outside, with the rows before them.
use Rattle.std.specs.Prelude.{◌≡◌, ℕ, true, false, List, [], ◌∷◌, Option, Some, None, Result, Ok, Err}
use Rattle.mz_cmd.specs.declared.rule.K.{K}
use Rattle.mz_cmd.specs.declared.rule.K.TheVariants as k
use Rattle.mz_logic_theory.specs.declared.binder.Binder.{Binder}
use Rattle.mz_logic_theory.specs.declared.binder.ResultType.{ResultType}
use Rattle.mz_machine_theory.specs.Profile.{strict, draft}
use Rattle.mz_machine_theory.specs.Spells.{SpelledTerm, SpelledThm}
use Rattle.mz_machine_theory.specs.MachineState.{RowsBefore, is_axiom, is_theorem, is_definition, Heading}
use Rattle.mz_machine_theory.specs.Bodies.{body_run}

-- nothing where the body runs, else where it stops and by which rule
abbrev pub outcome : {A : Type 0} → Result A (ℕ × K) → Option (ℕ × K)
outcome (Ok x) = None
outcome (Err f) = Some f

abbrev pub verdict : RowsBefore → Heading → ℕ → List ℕ → Option (ℕ × K)
verdict tables h at bytes = outcome (body_run strict tables h at bytes)

-- the same in a draft
abbrev pub draft_verdict : RowsBefore → Heading → ℕ → List ℕ → Option (ℕ × K)
draft_verdict tables h at bytes = outcome (body_run draft tables h at bytes)

abbrev pub regular : ℕ → List ℕ → Binder
regular = λ s deps. record { sort = s; bound = false; deps = deps }

abbrev pub bound : ℕ → Binder
bound = λ s. record { sort = s; bound = true; deps = [] }

abbrev pub of_sort : ℕ → List ℕ → ResultType
of_sort = λ s deps. record { sort = s; deps = deps }

abbrev pub plain_term : List Binder → ResultType → SpelledTerm
plain_term = λ params result. record { signature = record { params = params; result = result }; stream = None }

abbrev pub definition : List Binder → ResultType → List ℕ → SpelledTerm
definition = λ params result stream. record { signature = record { params = params; result = result }; stream = Some stream }

abbrev pub assertion : List Binder → List ℕ → SpelledThm
assertion = λ params stream. record { params = params; stream = stream }

abbrev pub axiom_body : List Binder → List ℕ → Heading
axiom_body = λ params stream. record { kind = is_axiom; params = params; result = of_sort 0 []; stream = stream }

abbrev pub theorem_body : List Binder → List ℕ → Heading
theorem_body = λ params stream. record { kind = is_theorem; params = params; result = of_sort 0 []; stream = stream }

abbrev pub definition_body : List Binder → ResultType → List ℕ → Heading
definition_body = λ params result stream. record { kind = is_definition; params = params; result = result; stream = stream }

abbrev pub implication : SpelledTerm
implication = plain_term (regular 0 [] ∷ regular 0 [] ∷ []) (of_sort 0 [])

abbrev pub ax_1_stream : List ℕ
ax_1_stream = 0x30 ∷ 0x32 ∷ 0x30 ∷ 0x72 ∷ 0x01 ∷ 0x32 ∷ 0x00 ∷ []

abbrev pub ax_mp_stream : List ℕ
ax_mp_stream = 0x72 ∷ 0x01 ∷ 0x36 ∷ 0x32 ∷ 0x36 ∷ 0x30 ∷ 0x32 ∷ 0x72 ∷ 0x01 ∷ 0x00 ∷ []

abbrev pub a1i_stream : List ℕ
a1i_stream = 0x30 ∷ 0x72 ∷ 0x01 ∷ 0x32 ∷ 0x36 ∷ 0x32 ∷ 0x00 ∷ []

abbrev pub before_ax_1 : RowsBefore
before_ax_1 = record { sorts = record { 0 = 4 } ∷ []; terms = implication ∷ []; thms = [] }

abbrev pub before_ax_mp : RowsBefore
before_ax_mp = record before_ax_1 { thms = assertion (regular 0 [] ∷ regular 0 [] ∷ []) ax_1_stream ∷ [] }

abbrev pub before_a1i : RowsBefore
before_a1i = record before_ax_1 { thms = assertion (regular 0 [] ∷ regular 0 [] ∷ []) ax_1_stream ∷ assertion (regular 0 [] ∷ regular 0 [] ∷ []) ax_mp_stream ∷ [] }

-- two axioms of implication, and a theorem by them
abbrev pub Implications : Type 0
Implications =
    (verdict (before_ax_1) (axiom_body (regular 0 [] ∷ regular 0 [] ∷ []) ax_1_stream) 190 (0x12 ∷ 0x52 ∷ 0x01 ∷ 0x12 ∷ 0x10 ∷ 0x10 ∷ 0x00 ∷ []) ≡ None)
    × (verdict (before_ax_mp) (axiom_body (regular 0 [] ∷ regular 0 [] ∷ []) ax_mp_stream) 199 (0x12 ∷ 0x52 ∷ 0x01 ∷ 0x10 ∷ 0x16 ∷ 0x12 ∷ 0x16 ∷ 0x52 ∷ 0x01 ∷ 0x00 ∷ []) ≡ None)
    × (verdict (before_a1i) (theorem_body (regular 0 [] ∷ regular 0 [] ∷ []) a1i_stream) 211 (0x12 ∷ 0x16 ∷ 0x12 ∷ 0x52 ∷ 0x01 ∷ 0x12 ∷ 0x52 ∷ 0x01 ∷ 0x12 ∷ 0x10 ∷ 0x10 ∷ 0x14 ∷ 0x52 ∷ 0x02 ∷ 0x12 ∷ 0x52 ∷ 0x01 ∷ 0x12 ∷ 0x10 ∷ 0x52 ∷ 0x01 ∷ 0x12 ∷ 0x10 ∷ 0x54 ∷ 0x01 ∷ 0x00 ∷ []) ≡ None)

-- a citation takes its last hypothesis first
abbrev pub HypothesesLastFirst : Type 0
HypothesesLastFirst =
    (verdict (before_a1i) (theorem_body (regular 0 [] ∷ regular 0 [] ∷ []) a1i_stream) 211 (0x12 ∷ 0x16 ∷ 0x52 ∷ 0x02 ∷ 0x12 ∷ 0x52 ∷ 0x01 ∷ 0x12 ∷ 0x52 ∷ 0x01 ∷ 0x12 ∷ 0x10 ∷ 0x10 ∷ 0x14 ∷ 0x12 ∷ 0x52 ∷ 0x01 ∷ 0x12 ∷ 0x10 ∷ 0x52 ∷ 0x01 ∷ 0x12 ∷ 0x10 ∷ 0x54 ∷ 0x01 ∷ 0x00 ∷ []) ≡ Some (234, k.UnifyReference))

-- the current row is not declared before itself
abbrev pub CitesItself : Type 0
CitesItself =
    (verdict (before_a1i) (theorem_body (regular 0 [] ∷ regular 0 [] ∷ []) a1i_stream) 211 (0x12 ∷ 0x16 ∷ 0x12 ∷ 0x52 ∷ 0x01 ∷ 0x12 ∷ 0x52 ∷ 0x01 ∷ 0x12 ∷ 0x10 ∷ 0x10 ∷ 0x14 ∷ 0x52 ∷ 0x02 ∷ 0x12 ∷ 0x52 ∷ 0x01 ∷ 0x12 ∷ 0x10 ∷ 0x52 ∷ 0x01 ∷ 0x12 ∷ 0x10 ∷ 0x54 ∷ 0x02 ∷ 0x00 ∷ []) ≡ Some (234, k.TheoremIndex))

abbrev pub for_all : SpelledTerm
for_all = plain_term (bound 1 ∷ regular 0 (0 ∷ []) ∷ []) (of_sort 0 [])

abbrev pub ax_v_stream : List ℕ
ax_v_stream = 0x30 ∷ 0x32 ∷ 0x72 ∷ 0x01 ∷ 0x36 ∷ 0x72 ∷ 0x01 ∷ 0x00 ∷ []

abbrev pub gen_stream : List ℕ
gen_stream = 0x30 ∷ 0x32 ∷ 0x72 ∷ 0x01 ∷ 0x36 ∷ 0x72 ∷ 0x01 ∷ 0x00 ∷ []

abbrev pub before_gen : List ℕ → RowsBefore
before_gen = λ deps. record { sorts = record { 0 = 4 } ∷ record { 0 = 0 } ∷ []; terms = for_all ∷ []; thms = assertion (bound 1 ∷ regular 0 deps ∷ []) ax_v_stream ∷ [] }

-- an operand holds the variable of a bound parameter on which its own does not depend; and where it does
abbrev pub Dependency : Type 0
Dependency =
    (verdict (before_gen []) (theorem_body (bound 1 ∷ regular 0 (0 ∷ []) ∷ []) gen_stream) 162 (0x52 ∷ 0x01 ∷ 0x16 ∷ 0x52 ∷ 0x02 ∷ 0x12 ∷ 0x52 ∷ 0x01 ∷ 0x12 ∷ 0x52 ∷ 0x01 ∷ 0x10 ∷ 0x14 ∷ 0x00 ∷ []) ≡ Some (174, k.Disjoint))
    × (verdict (before_gen (0 ∷ [])) (theorem_body (bound 1 ∷ regular 0 (0 ∷ []) ∷ []) gen_stream) 162 (0x52 ∷ 0x01 ∷ 0x16 ∷ 0x52 ∷ 0x02 ∷ 0x12 ∷ 0x52 ∷ 0x01 ∷ 0x12 ∷ 0x52 ∷ 0x01 ∷ 0x10 ∷ 0x14 ∷ 0x00 ∷ []) ≡ None)

abbrev pub all_all_stream : List ℕ
all_all_stream = 0x30 ∷ 0x32 ∷ 0x30 ∷ 0x32 ∷ 0x72 ∷ 0x01 ∷ 0x36 ∷ 0x30 ∷ 0x32 ∷ 0x72 ∷ 0x01 ∷ 0x00 ∷ []

-- all variables count, not the free ones alone
abbrev pub AllVariables : Type 0
AllVariables =
    (verdict (before_gen []) (theorem_body (bound 1 ∷ regular 0 (0 ∷ []) ∷ []) all_all_stream) 170 (0x12 ∷ 0x52 ∷ 0x01 ∷ 0x10 ∷ 0x16 ∷ 0x52 ∷ 0x02 ∷ 0x12 ∷ 0x12 ∷ 0x52 ∷ 0x01 ∷ 0x10 ∷ 0x12 ∷ 0x12 ∷ 0x52 ∷ 0x01 ∷ 0x10 ∷ 0x10 ∷ 0x14 ∷ 0x00 ∷ []) ≡ Some (188, k.Disjoint))

abbrev pub negation : SpelledTerm
negation = plain_term (regular 0 [] ∷ []) (of_sort 0 [])

abbrev pub nn_stream : List ℕ
nn_stream = 0x30 ∷ 0x30 ∷ 0x32 ∷ 0x00 ∷ []

abbrev pub fold_stream : List ℕ
fold_stream = 0x70 ∷ 0x01 ∷ 0x32 ∷ 0x36 ∷ 0x30 ∷ 0x30 ∷ 0x32 ∷ 0x00 ∷ []

abbrev pub before_nn : RowsBefore
before_nn = record { sorts = record { 0 = 4 } ∷ []; terms = negation ∷ []; thms = [] }

abbrev pub before_fold : RowsBefore
before_fold = record before_nn { terms = negation ∷ definition (regular 0 [] ∷ []) (of_sort 0 []) nn_stream ∷ [] }

-- a definition, and a theorem that folds it, with the left side before Unfold and without it
abbrev pub Folding : Type 0
Folding =
    (verdict (before_nn) (definition_body (regular 0 [] ∷ []) (of_sort 0 []) nn_stream) 134 (0x12 ∷ 0x10 ∷ 0x10 ∷ 0x00 ∷ []) ≡ None)
    × (verdict (before_fold) (theorem_body (regular 0 [] ∷ []) fold_stream) 140 (0x12 ∷ 0x10 ∷ 0x10 ∷ 0x16 ∷ 0x12 ∷ 0x50 ∷ 0x01 ∷ 0x52 ∷ 0x01 ∷ 0x17 ∷ 0x12 ∷ 0x50 ∷ 0x01 ∷ 0x12 ∷ 0x10 ∷ 0x10 ∷ 0x1B ∷ 0x18 ∷ 0x00 ∷ []) ≡ None)
    × (verdict (before_fold) (theorem_body (regular 0 [] ∷ []) fold_stream) 140 (0x12 ∷ 0x10 ∷ 0x10 ∷ 0x16 ∷ 0x12 ∷ 0x50 ∷ 0x01 ∷ 0x52 ∷ 0x01 ∷ 0x17 ∷ 0x12 ∷ 0x10 ∷ 0x10 ∷ 0x1B ∷ 0x18 ∷ 0x00 ∷ []) ≡ None)

-- an obligation is left at the end
abbrev pub ObligationLeft : Type 0
ObligationLeft =
    (verdict (before_fold) (theorem_body (regular 0 [] ∷ []) fold_stream) 140 (0x12 ∷ 0x10 ∷ 0x10 ∷ 0x16 ∷ 0x12 ∷ 0x50 ∷ 0x01 ∷ 0x52 ∷ 0x01 ∷ 0x17 ∷ 0x12 ∷ 0x50 ∷ 0x01 ∷ 0x12 ∷ 0x10 ∷ 0x10 ∷ 0x1B ∷ 0x00 ∷ []) ≡ Some (157, k.FinalStack))

-- a conversion is cut, saved, and used again, turned
abbrev pub ConversionSaved : Type 0
ConversionSaved =
    (verdict (before_fold) (theorem_body (regular 0 [] ∷ []) fold_stream) 140 (0x12 ∷ 0x10 ∷ 0x10 ∷ 0x16 ∷ 0x12 ∷ 0x50 ∷ 0x01 ∷ 0x12 ∷ 0x10 ∷ 0x10 ∷ 0x12 ∷ 0x50 ∷ 0x01 ∷ 0x52 ∷ 0x01 ∷ 0x17 ∷ 0x1C ∷ 0x12 ∷ 0x50 ∷ 0x01 ∷ 0x12 ∷ 0x10 ∷ 0x10 ∷ 0x1B ∷ 0x18 ∷ 0x1E ∷ 0x17 ∷ 0x19 ∷ 0x52 ∷ 0x02 ∷ 0x17 ∷ 0x5D ∷ 0x02 ∷ 0x00 ∷ []) ≡ None)
    × (verdict (before_fold) (theorem_body (regular 0 [] ∷ []) fold_stream) 140 (0x12 ∷ 0x10 ∷ 0x10 ∷ 0x16 ∷ 0x12 ∷ 0x50 ∷ 0x01 ∷ 0x12 ∷ 0x10 ∷ 0x10 ∷ 0x12 ∷ 0x50 ∷ 0x01 ∷ 0x52 ∷ 0x01 ∷ 0x17 ∷ 0x1C ∷ 0x12 ∷ 0x50 ∷ 0x01 ∷ 0x12 ∷ 0x10 ∷ 0x10 ∷ 0x1B ∷ 0x18 ∷ 0x1E ∷ 0x17 ∷ 0x52 ∷ 0x02 ∷ 0x17 ∷ 0x5D ∷ 0x02 ∷ 0x00 ∷ []) ≡ Some (167, k.ConversionReference))

abbrev pub equality : SpelledTerm
equality = plain_term (regular 1 [] ∷ regular 1 [] ∷ []) (of_sort 0 [])

abbrev pub two_bound : SpelledTerm
two_bound = plain_term (bound 1 ∷ bound 1 ∷ []) (of_sort 0 [])

abbrev pub one_dummy_stream : List ℕ
one_dummy_stream = 0x30 ∷ 0x73 ∷ 0x01 ∷ 0x32 ∷ 0x00 ∷ []

abbrev pub two_dummies_stream : List ℕ
two_dummies_stream = 0x30 ∷ 0x73 ∷ 0x01 ∷ 0x73 ∷ 0x01 ∷ 0x00 ∷ []

abbrev pub before_dummy : SpelledTerm → RowsBefore
before_dummy = λ row. record { sorts = record { 0 = 4 } ∷ record { 0 = 0 } ∷ []; terms = row ∷ []; thms = [] }

abbrev pub dummy_body : List ℕ → Heading
dummy_body = λ stream. definition_body [] (of_sort 0 []) stream

-- a dummy that is free in the body; one that is bound in it; one variable for two dummies
abbrev pub Dummies : Type 0
Dummies =
    (verdict (before_dummy equality) (dummy_body one_dummy_stream) 112 (0x53 ∷ 0x01 ∷ 0x12 ∷ 0x10 ∷ 0x00 ∷ []) ≡ Some (116, k.DefinitionDependencies))
    × (verdict (before_dummy two_bound) (dummy_body one_dummy_stream) 112 (0x53 ∷ 0x01 ∷ 0x12 ∷ 0x10 ∷ 0x00 ∷ []) ≡ None)
    × (verdict (before_dummy two_bound) (dummy_body two_dummies_stream) 112 (0x53 ∷ 0x01 ∷ 0x12 ∷ 0x10 ∷ 0x00 ∷ []) ≡ Some (116, k.UnifyDummy))

-- no more than 55 bound variables
abbrev pub FiftyFive : Type 0
FiftyFive =
    (verdict (record { sorts = record { 0 = 0 } ∷ []; terms = []; thms = [] }) (definition_body (bound 0 ∷ bound 0 ∷ bound 0 ∷ bound 0 ∷ bound 0 ∷ bound 0 ∷ bound 0 ∷ bound 0 ∷ bound 0 ∷ bound 0 ∷ bound 0 ∷ bound 0 ∷ bound 0 ∷ bound 0 ∷ bound 0 ∷ bound 0 ∷ bound 0 ∷ bound 0 ∷ bound 0 ∷ bound 0 ∷ bound 0 ∷ bound 0 ∷ bound 0 ∷ bound 0 ∷ bound 0 ∷ bound 0 ∷ bound 0 ∷ bound 0 ∷ bound 0 ∷ bound 0 ∷ bound 0 ∷ bound 0 ∷ bound 0 ∷ bound 0 ∷ bound 0 ∷ bound 0 ∷ bound 0 ∷ bound 0 ∷ bound 0 ∷ bound 0 ∷ bound 0 ∷ bound 0 ∷ bound 0 ∷ bound 0 ∷ bound 0 ∷ bound 0 ∷ bound 0 ∷ bound 0 ∷ bound 0 ∷ bound 0 ∷ bound 0 ∷ bound 0 ∷ bound 0 ∷ bound 0 ∷ bound 0 ∷ []) (of_sort 0 []) (0x00 ∷ [])) 516 (0x13 ∷ 0x00 ∷ []) ≡ Some (516, k.DummyCount))

-- a gap is refused
abbrev pub Gap : Type 0
Gap =
    (verdict (before_fold) (theorem_body (regular 0 [] ∷ []) fold_stream) 140 (0x12 ∷ 0x10 ∷ 0x10 ∷ 0x16 ∷ 0x12 ∷ 0x50 ∷ 0x01 ∷ 0x52 ∷ 0x01 ∷ 0x17 ∷ 0x12 ∷ 0x50 ∷ 0x01 ∷ 0x12 ∷ 0x10 ∷ 0x10 ∷ 0x1B ∷ 0x20 ∷ 0x00 ∷ []) ≡ Some (157, k.Sorry))

-- In a draft it is let through: in place of a conversion, and of a proof. Nothing is left for it, a proof is no claim; a
-- claim has a provable sort, and the sides of an obligation have one sort.
abbrev pub GapsOfDrafts : Type 0
GapsOfDrafts =
    (draft_verdict (before_fold) (theorem_body (regular 0 [] ∷ []) fold_stream) 140 (0x12 ∷ 0x10 ∷ 0x10 ∷ 0x16 ∷ 0x12 ∷ 0x50 ∷ 0x01 ∷ 0x52 ∷ 0x01 ∷ 0x17 ∷ 0x12 ∷ 0x50 ∷ 0x01 ∷ 0x12 ∷ 0x10 ∷ 0x10 ∷ 0x1B ∷ 0x20 ∷ 0x00 ∷ []) ≡ None)
    × (draft_verdict (before_fold) (theorem_body (regular 0 [] ∷ []) fold_stream) 140 (0x12 ∷ 0x10 ∷ 0x10 ∷ 0x16 ∷ 0x12 ∷ 0x50 ∷ 0x01 ∷ 0x20 ∷ 0x00 ∷ []) ≡ None)
    × (draft_verdict (before_fold) (theorem_body (regular 0 [] ∷ []) fold_stream) 140 (0x20 ∷ 0x00 ∷ []) ≡ Some (140, k.Underflow))
    × (draft_verdict (before_fold) (theorem_body (regular 0 [] ∷ []) fold_stream) 140 (0x12 ∷ 0x10 ∷ 0x10 ∷ 0x16 ∷ 0x12 ∷ 0x50 ∷ 0x01 ∷ 0x20 ∷ 0x20 ∷ 0x00 ∷ []) ≡ Some (148, k.Kind))
    × (draft_verdict (before_gen (0 ∷ [])) (theorem_body (bound 1 ∷ regular 0 (0 ∷ []) ∷ []) gen_stream) 162 (0x12 ∷ 0x20 ∷ 0x00 ∷ []) ≡ Some (163, k.NotProvable))
    × (draft_verdict (before_gen (0 ∷ [])) (theorem_body (bound 1 ∷ regular 0 (0 ∷ []) ∷ []) gen_stream) 162 (0x52 ∷ 0x01 ∷ 0x16 ∷ 0x12 ∷ 0x52 ∷ 0x02 ∷ 0x17 ∷ 0x20 ∷ 0x00 ∷ []) ≡ Some (169, k.Sorry))

-- Refl in an axiom
abbrev pub OfAnotherBody : Type 0
OfAnotherBody =
    (verdict (before_ax_1) (axiom_body (regular 0 [] ∷ regular 0 [] ∷ []) ax_1_stream) 190 (0x18 ∷ 0x52 ∷ 0x01 ∷ 0x12 ∷ 0x10 ∷ 0x10 ∷ 0x00 ∷ []) ≡ Some (190, k.Command))

-- two rows that share their words and their stream
abbrev pub OfAnotherRow : Type 0
OfAnotherRow =
    (verdict (before_a1i) (theorem_body (regular 0 [] ∷ regular 0 [] ∷ []) ax_1_stream) 211 (0x12 ∷ 0x16 ∷ 0x12 ∷ 0x52 ∷ 0x01 ∷ 0x12 ∷ 0x52 ∷ 0x01 ∷ 0x12 ∷ 0x10 ∷ 0x10 ∷ 0x14 ∷ 0x52 ∷ 0x02 ∷ 0x12 ∷ 0x52 ∷ 0x01 ∷ 0x12 ∷ 0x10 ∷ 0x52 ∷ 0x01 ∷ 0x12 ∷ 0x10 ∷ 0x54 ∷ 0x01 ∷ 0x00 ∷ []) ≡ Some (236, k.UnifyReference))

-- a body without its END, and one that goes on after it
abbrev pub CutOrLong : Type 0
CutOrLong =
    (verdict (before_fold) (theorem_body (regular 0 [] ∷ []) fold_stream) 140 (0x12 ∷ 0x10 ∷ 0x10 ∷ 0x16 ∷ 0x12 ∷ 0x50 ∷ 0x01 ∷ 0x52 ∷ 0x01 ∷ 0x17 ∷ 0x12 ∷ 0x50 ∷ 0x01 ∷ 0x12 ∷ 0x10 ∷ 0x10 ∷ 0x1B ∷ 0x18 ∷ []) ≡ Some (158, k.Command))
    × (verdict (before_fold) (theorem_body (regular 0 [] ∷ []) fold_stream) 140 (0x12 ∷ 0x10 ∷ 0x10 ∷ 0x16 ∷ 0x12 ∷ 0x50 ∷ 0x01 ∷ 0x52 ∷ 0x01 ∷ 0x17 ∷ 0x12 ∷ 0x50 ∷ 0x01 ∷ 0x12 ∷ 0x10 ∷ 0x10 ∷ 0x1B ∷ 0x18 ∷ 0x00 ∷ 0x00 ∷ []) ≡ Some (158, k.StatementLength))

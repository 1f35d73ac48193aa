-- What the samples' texts declare and prove, number by number; k numbers a definition and its two theorems, from 0.
use Rattle.std.proofs.Common.{ℕ, zero, suc, true, false, List, [], ◌∷◌}
use Rattle.mz_logic_theory.specs.Tree.{Tree, var, app, none, more}
use Rattle.mz_logic_theory.specs.Declaration.{plain_form, defined, Term, Assertion}
use Rattle.mz_logic_theory.specs.Conversions.{Conversion, refl_conv, cong_conv, unfold_conv, no_convs, more_convs}
use Rattle.mz_logic_theory.specs.Derivations.{Derivation, cite, convert, no_derivs, more_derivs}
use Rattle.mz_logic_theory.specs.Examples.{wff, im, all_signature, y_and_q, one_param}
use Rattle.mz_logic_theory.specs.declared.binder.SortMods.{SortMods}

-- wff, and nat
abbrev pub two_sorts : List SortMods
two_sorts = record { 0 = 4 } ∷ record { 0 = 0 } ∷ []

abbrev pub all_declared : Term
all_declared = record { signature = all_signature; form = plain_form }

abbrev pub all : Tree → Tree → Tree
all x p = app 1 (more x (more p none))

-- the term t of one operand
abbrev pub d : ℕ → Tree → Tree
d t a = app t (more a none)

abbrev pub ax_gen : Assertion
ax_gen = record { is_axiom = true; params = y_and_q; hyps = more (var 1) none; conclusion = all (var 0) (var 1) }

-- ---- numbers: of a definition among terms, and of its first theorem among axioms and theorems

abbrev pub d_number : ℕ → ℕ
d_number k = suc (suc k)

abbrev pub twice : ℕ → ℕ
twice zero = 0
twice (suc k) = suc (suc (twice k))

abbrev pub t_number : ℕ → ℕ
t_number k = suc (suc (suc (twice k)))

-- ---- declarations

abbrev pub body : ℕ → Tree
body zero = im (var 0) (im (var 0) (var 0))
body (suc j) = im (var 0) (d (d_number j) (var 0))

abbrev pub d_declared : ℕ → Term
d_declared k = record { signature = one_param; form = defined [] (body k) }

abbrev pub t_stated : ℕ → Assertion
t_stated k = record { is_axiom = false; params = wff ∷ []; hyps = none; conclusion = d (d_number k) (var 0) }

abbrev pub g_stated : ℕ → Assertion
g_stated k = record { is_axiom = false; params = y_and_q; hyps = none; conclusion = all (var 0) (d (d_number k) (var 1)) }

-- ---- derivations

-- the body beside itself: a reflexivity at each variable
abbrev pub body_conversion : ℕ → Conversion
body_conversion zero = cong_conv 0 (more_convs (refl_conv (var 0)) (more_convs (cong_conv 0 (more_convs (refl_conv (var 0)) (more_convs (refl_conv (var 0)) no_convs))) no_convs))
body_conversion (suc j) = cong_conv 0 (more_convs (refl_conv (var 0)) (more_convs (cong_conv (d_number j) (more_convs (refl_conv (var 0)) no_convs)) no_convs))

abbrev pub t_conversion : ℕ → Conversion
t_conversion k = unfold_conv (d_number k) (more (var 0) none) [] (body_conversion k)

-- an instance of the first axiom; or by modus ponens from the theorem before
abbrev pub body_derivation : ℕ → Derivation
body_derivation zero = cite 0 (more (var 0) (more (var 0) none)) no_derivs
body_derivation (suc j) =
    cite 1 (more (d (d_number j) (var 0)) (more (body (suc j)) none))
    (more_derivs (cite 0 (more (d (d_number j) (var 0)) (more (var 0) none)) no_derivs) (more_derivs (cite (t_number j) (more (var 0) none) no_derivs) no_derivs))

abbrev pub t_derivation : ℕ → Derivation
t_derivation k = convert (d (d_number k) (var 0)) (t_conversion k) (body_derivation k)

abbrev pub g_derivation : ℕ → Derivation
g_derivation k = cite 2 (more (var 0) (more (d (d_number k) (var 1)) none)) (more_derivs (cite (t_number k) (more (var 1) none) no_derivs) no_derivs)

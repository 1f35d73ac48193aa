-- `a ? b : c ? a : b` and `a -> b ? a : b`.
use Rattle.std.proofs.Common.{ℕ, List, [], ◌∷◌, true, refl, inl, arith}
use Rattle.std.specs.Prelude.{codes}
use Rattle.mz_logic_theory.specs.Tree.{var, app, none, more}
use Rattle.mz_math_theory.specs.Notation.{infixed}
use Rattle.mz_math_theory.specs.declared.notation.Notation.{Notation}
use Rattle.mz_math_theory.specs.declared.notation.Element.TheVariants.{Fixed as fixed, Slot as slot}
use Rattle.mz_math_theory.specs.Grammar.{Words, variable, Parse, headed, joined, end, word, part, Exp}

abbrev arrow : Notation
arrow = infixed 0 (codes "->") 25 true

abbrev choice : Notation
choice = record { term = 1; level = 20; is_right = true; elements = slot 0 ∷ fixed (codes "?") 20 ∷ slot 1 ∷ fixed (codes ":") 0 ∷ slot 2 ∷ [] }

abbrev ws : Words
ws = record { leading = []; infixes = arrow ∷ choice ∷ []; names = []; signatures = []; variables = codes "a" ∷ codes "b" ∷ codes "c" ∷ [] }

abbrev v : List ℕ → ℕ → Parse
v name x = headed (variable name x) (word name end)

abbrev inside : Parse
inside = joined choice (v (codes "c") 2) (word (codes "?") (part (v (codes "a") 0) (word (codes ":") (part (v (codes "b") 1) end))))

nested : Exp ws 0 (app 1 (more (var 0) (more (var 1) (more (app 1 (more (var 2) (more (var 0) (more (var 1) none)))) none))))
    (codes "a" ∷ codes "?" ∷ codes "b" ∷ codes ":" ∷ codes "c" ∷ codes "?" ∷ codes "a" ∷ codes ":" ∷ codes "b" ∷ [])
nested = (
  joined choice (v (codes "a") 0) (word (codes "?") (part (v (codes "b") 1) (word (codes ":") (part inside end)))),
  (
    (1, omega arith, refl),
    inl (omega arith),
    (((λ e. cc), refl), (refl, tt)),
    (
      refl,
      (
        omega arith,
        (((λ e. cc), refl), (refl, tt)),
        (
          refl,
          (
            omega arith,
            ((1, omega arith, refl), inl (omega arith), (((λ e. cc), refl), (refl, tt)), (refl, (omega arith, (((λ e. cc), refl), (refl, tt)), (refl, (omega arith, (((λ e. cc), refl), (refl, tt)), tt))))),
            tt,
          ),
        ),
      ),
    ),
  ),
  omega arith,
  refl,
  refl,
)

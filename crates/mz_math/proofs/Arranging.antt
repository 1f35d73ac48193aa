-- Operands that stand in the order of their parameters.
use Rattle.std.proofs.Common.{◌≡◌, ◌≤◌, ◌<◌, ◌+◌, ◌++◌, ◌∙◌, ℕ, zero, suc, List, [], ◌∷◌, false, length, drop, append_assoc, ap, ap₂, sym, refl, subst, arith}
use Rattle.std.specs.Prelude.{◌==◌}
use Rattle.std.proofs.lemmas.Bool.{cond-true, cond-false, eq-eqb}
use Rattle.mz_logic_theory.specs.Tree.{Tree, Trees, none, more, listed}
use Rattle.mz_math_theory.specs.Notation.{places}
use Rattle.mz_math_theory.specs.Listed.{slots}
use Rattle.mz_math_theory.specs.declared.notation.Element.{Element}
use Rattle.mz_math_theory.specs.declared.notation.Element.TheVariants.{Fixed as fixed, Slot as slot}
use Rattle.mz_math_notation.proofs.Offered.{apart as unequal}
use Rattle.mz_math_theory.specs.Grammar.{operand_for, arranged}

other : (j i : ℕ) → j < i → (j == i) ≡ false
other j i below = unequal j i (λ is. omega (arith, is, below))

-- an operand that none of the places asks for
skipped : (j : ℕ) (js : List ℕ) (e : Tree) (es : Trees) (from n : ℕ) → j < from → arranged (j ∷ js) (more e es) from n ≡ arranged js es from n
skipped j js e es from zero below = refl
skipped j js e es from (suc n) below = ap₂ more (cond-false (j == from) e (operand_for js es from) (other j from below)) (skipped j js e es (from + 1) n (omega (arith, below)))

-- each operand stands at its own place
pub in-order : (es : Trees) (from n : ℕ) → length (listed es) ≡ n → arranged (places (slots from n)) es from n ≡ es
in-order none from zero is = refl
in-order none from (suc n) is = absurd (omega (arith, is))
in-order (more e es) from zero is = absurd (omega (arith, is))
in-order (more e es) from (suc n) is =
    ap₂ more (cond-true (from == from) e (operand_for (places (slots (from + 1) n)) es from) (eq-eqb from from refl))
    (skipped from (places (slots (from + 1) n)) e es (from + 1) n (omega arith) ∙ in-order es (from + 1) n (omega (arith, is)))

-- the elements have the places of so many parameters, in their order
pub arranged-in-order : (ls : List Element) (n : ℕ) (es : Trees) → places ls ≡ places (slots 0 n) → n ≡ length (listed es) → arranged (places ls) es 0 (length (places ls)) ≡ es
arranged-in-order ls n es is many =
    ap (λ js. arranged js es 0 (length js)) is ∙ ap (arranged (places (slots 0 n)) es 0) (many-places 0 n) ∙ in-order es 0 n (sym many)
  where
    many-places : (from m : ℕ) → length (places (slots from m)) ≡ m
    many-places from zero = refl
    many-places from (suc m) = ap suc (many-places (from + 1) m)

-- ---- loops over elements

module _ (ls : List Element) (i : ℕ) (e : Element) (here : drop i ls ≡ e ∷ drop (i + 1) ls) where
  pub at-constant : (w : List ℕ) (q : ℕ) → e ≡ fixed w q → places (drop i ls) ≡ places (drop (i + 1) ls)
  at-constant w q is = ap places (here ∙ ap (λ x. x ∷ drop (i + 1) ls) is)

  pub at-slot : (s : ℕ) → e ≡ slot s → places (drop i ls) ≡ s ∷ places (drop (i + 1) ls)
  at-slot s is = ap places (here ∙ ap (λ x. x ∷ drop (i + 1) ls) is)

pub places-more : (from n : ℕ) → places (slots from n) ++ (from + n) ∷ [] ≡ places (slots from (n + 1))
places-more from zero = let e : from + 0 ≡ from = omega arith in ap (λ i. i ∷ []) e
places-more from (suc n) =
    let e : from + suc n ≡ from + 1 + n = omega arith in
    let f : suc (n + 1) ≡ suc n + 1 = omega arith in
    ap (λ is. from ∷ is) (ap (λ i. places (slots (from + 1) n) ++ i ∷ []) e ∙ places-more (from + 1) n) ∙ ap (λ m. places (slots from m)) f

abbrev pub CountsTo : List Element → ℕ → ℕ → Type 0
CountsTo ls next i = (places (slots 0 next) ++ places (drop i ls) ≡ places ls) × (next ≤ i)

module _ (ls : List Element) (i next now : ℕ) (e : Element) (here : drop i ls ≡ e ∷ drop (i + 1) ls) where
  pub counts-constant : (w : List ℕ) (q : ℕ) → e ≡ fixed w q → now ≡ next → CountsTo ls next i → CountsTo ls now (i + 1)
  counts-constant w q is same (so_far, few) = (
    subst (λ n. places (slots 0 n) ++ places (drop (i + 1) ls) ≡ places ls) (sym same)
        (ap (λ js. places (slots 0 next) ++ js) (sym (at-constant ls i e here w q is)) ∙ so_far),
    omega (arith, same, few),
  )

  pub counts-slot : (s : ℕ) → e ≡ slot s → s ≡ next → now ≡ next + 1 → CountsTo ls next i → CountsTo ls now (i + 1)
  counts-slot s is its same (so_far, few) =
      let at = at-slot ls i e here next (is ∙ ap slot its) in
      let zero_next : 0 + next ≡ next = omega arith in
      let one_more = sym (places-more 0 next) ∙ ap (λ n. places (slots 0 next) ++ n ∷ []) zero_next in
      let joined = ap (λ ns. ns ++ places (drop (i + 1) ls)) one_more ∙ append_assoc (places (slots 0 next)) (next ∷ []) (places (drop (i + 1) ls)) in (
        subst (λ n. places (slots 0 n) ++ places (drop (i + 1) ls) ≡ places ls) (sym same) (joined ∙ ap (λ js. places (slots 0 next) ++ js) (sym at) ∙ so_far),
        omega (arith, same, few),
      )

-- The elements of a `notation` statement.
use Rattle.std.proofs.Common.{◌≡◌, ◌≢◌, ◌<◌, ◌+◌, ◌++◌, ◌∙◌, ℕ, List, [], ◌∷◌, length, Some, Option, slice_get, get_or, ap, ap₂, sym, refl, subst, drop, drop-cons, add-one, append_assoc, Contains, Result, Ok, Err}
use Rattle.std.specs.Prelude.{slice_range, IsErrAnd}
use Rattle.std.proofs.lemmas.Option.{slice_get_within, get_or_from_slice_get}
use Rattle.mz_logic_theory.specs.Signature.{Signature}
use Rattle.mz_lex.specs.declared.tokens.Delimiters.{Delimiters}
use Rattle.mz_math_theory.specs.declared.notation.Element.{Element}
use Rattle.mz_math_theory.specs.declared.notation.Notation.{Notation}
use Rattle.mz_lex.specs.MathTokens.{IsConstant}
use Rattle.mz_math_theory.specs.Forms.{IsElement, AreElements, IsSpan, General, IsGeneral, EachOnce, Begins}
use Rattle.mz_math_theory.specs.declared.literal.Literal.{Literal}
use Rattle.mz_math_theory.specs.declared.literal.Literal.TheVariants.{Constant as constant, Name as name}
use Rattle.mz_math_theory.specs.declared.fault.NoteFault.{NoteFault}
use Rattle.mz_math_theory.specs.NotationAnswers.{IsNotationOf, IsMade}
use Rattle.mz_math_theory.specs.declared.fault.NoteFault.TheVariants as faults

pub constant-parts : (d : Delimiters) (names : List (List ℕ)) (text : List ℕ) (from to : ℕ) (level : Option ℕ) (e : Element) → IsElement d names text (constant from to level) e
    → IsSpan text from to × ((w : List ℕ) × IsConstant d (slice_range text from to) w)
constant-parts d names text from to level e (w, span, con, is) = (span, (w, con))

pub name-parts : (d : Delimiters) (names : List (List ℕ)) (text : List ℕ) (from to : ℕ) (e : Element) → IsElement d names text (name from to) e
    → IsSpan text from to × (slice_range text from to ≢ []) × Contains names (slice_range text from to)
name-parts d names text from to e (i, span, some, at, is) =
    (span, some, (i, slice_get_within names i (slice_range text from to) at, get_or_from_slice_get names i (slice_range text from to) (slice_range text from to) at))

pub one-literal : (ls : List Literal) (i : ℕ) (l : Literal) → i < length ls → l ≡ get_or ls i l → drop i ls ≡ l ∷ drop (i + 1) ls
one-literal ls i l below is = drop-cons ls i l below ∙ ap₂ ◌∷◌ (sym is) (ap (λ k. drop k ls) (sym (add-one i)))

pub first-element : (d : Delimiters) (names : List (List ℕ)) (text : List ℕ) (l : Literal) (ls : List Literal) (all : List Element) → AreElements d names text (l ∷ ls) all
    → ((e : Element) × IsElement d names text l e) × ((rest : List Element) × AreElements d names text ls rest)
first-element d names text l ls [] are = absurd are
first-element d names text l ls (e ∷ es) (here, rest) = ((e, here), (es, rest))

pub general-parts : (sigs : List Signature) (d : Delimiters) (g : General) (k : Notation) → IsGeneral sigs d g k → IsNotationOf g k.elements k
general-parts sigs d g k is = (is.term, refl, is.once, is.begins)

pub general-made : (sigs : List Signature) (d : Delimiters) (g : General) (es : List Element) (k : Notation) → slice_get sigs g.term ≡ Some (record { params = g.binders; result = g.result })
    → AreElements d g.names g.text g.literals es → IsNotationOf g es k → IsGeneral sigs d g k
general-made sigs d g es k signature are (term, is, once, begins) = record {
  term = term;
  signature = signature;
  elements = subst (AreElements d g.names g.text g.literals) (sym is) are;
  once = subst (λ (xs : List Element). EachOnce (length g.binders) xs) (sym is) once;
  begins = subst (λ (xs : List Element). Begins xs g.tail k.level k.is_right) (sym is) begins;
}

-- ---- what is made of a thing, and of a greater one

pub made-err : {A B : Type 0} (P : A → Type 0) (Q : B → Type 0) (f : NoteFault) → ((y : B) → Q y → (x : A) × P x) → IsMade {A = A} (Err f) P → IsMade {A = B} (Err f) Q
made-err P Q faults.Form back none = λ y q. none (back y q).0 (back y q).1
made-err P Q faults.Mem back none = tt
made-err P Q faults.Clash back none = none
made-err P Q faults.CoercionClash back none = none

pub made-mem : {A : Type 0} (r : Result A NoteFault) (P : A → Type 0) → IsErrAnd r (λ f. f ≡ NoteFault.Mem) → IsMade r P
made-mem (Ok x) P h = absurd h
made-mem {A} (Err f) P h = subst (λ (g : NoteFault). IsMade {A = A} (Err g) P) (sym h) tt

pub made-map : {A : Type 0} (P Q : A → Type 0) (r : Result A NoteFault) → ((x : A) → P x → Q x) → ((x : A) → Q x → P x) → IsMade r P → IsMade r Q
made-map P Q (Ok x) there back made = there x made
made-map P Q (Err faults.Form) there back none = λ y q. none y (back y q)
made-map P Q (Err faults.Mem) there back none = tt
made-map P Q (Err faults.Clash) there back none = none
made-map P Q (Err faults.CoercionClash) there back none = none

module _ (d : Delimiters) (names : List (List ℕ)) (text : List ℕ) (ls : List Literal) (i : ℕ) (l : Literal) (here : drop i ls ≡ l ∷ drop (i + 1) ls) where
  pub here-element : ((all : List Element) → AreElements d names text ls all → (rest : List Element) × AreElements d names text (drop i ls) rest)
      → (all : List Element) → AreElements d names text ls all → (e : Element) × IsElement d names text l e
  here-element begins all are =
      let rest = begins all are in
      (first-element d names text l (drop (i + 1) ls) rest.0 (subst (λ xs. AreElements d names text xs rest.0) here rest.1)).0

  pub later-elements : ((all : List Element) → AreElements d names text ls all → (rest : List Element) × AreElements d names text (drop i ls) rest)
      → (all : List Element) → AreElements d names text ls all → (rest : List Element) × AreElements d names text (drop (i + 1) ls) rest
  later-elements begins all are =
      let rest = begins all are in
      (first-element d names text l (drop (i + 1) ls) rest.0 (subst (λ xs. AreElements d names text xs rest.0) here rest.1)).1

  pub more-elements : (es : List Element) (e : Element) (now : List Element) → now ≡ es ++ e ∷ [] → IsElement d names text l e
      → ((rest : List Element) → AreElements d names text (drop i ls) rest → AreElements d names text ls (es ++ rest))
      → (rest : List Element) → AreElements d names text (drop (i + 1) ls) rest → AreElements d names text ls (now ++ rest)
  more-elements es e now is element goes rest are =
      subst (AreElements d names text ls) (sym (ap (λ xs. xs ++ rest) is ∙ append_assoc es (e ∷ []) rest))
      (goes (e ∷ rest) (subst (λ xs. AreElements d names text xs (e ∷ rest)) (sym here) (element, are)))

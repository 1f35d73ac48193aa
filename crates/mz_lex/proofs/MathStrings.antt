-- A math string is bytes of its own between two `$`.
use Rattle.std.proofs.Common.{◌≡◌, ◌≤◌, ◌+◌, ◌-◌, ◌∙◌, ◌++◌, ◌∷◌, [], ℕ, List, length, drop, take, get_or, true, false, arith, ap, ap₂, sym, refl, length-append, length-drop, length-take}
use Rattle.std.specs.Prelude.{◌==◌, slice_range}
use Rattle.std.specs.List.{list_all}
use Rattle.std.proofs.Math.Seq.{take-append_seam}
use Rattle.std.proofs.lemmas.Bool.{and_from, and_parts, eqb-true, false≢true}
use Rattle.mz_lex.specs.Kinds.{ends_math, inside_of, is_math, is_math_byte, is_of_kind}
use Rattle.mz_lex.specs.Laws.{HasInside, InsideStands}
use Rattle.mz_lex.proofs.Names.{slice-first}
use Rattle.mz_lex.proofs.OneLexeme.{slice-split}

ends-inside : (cs : List ℕ) → ends_math cs ≡ true → (inside : List ℕ) × (cs ≡ inside ++ 36 ∷ []) × (list_all is_math_byte inside ≡ true)
ends-inside [] is = absurd (false≢true is)
ends-inside (c ∷ []) is = ([], ap (λ b. b ∷ []) (eqb-true c 36 is), refl)
ends-inside (c ∷ d ∷ ds) is =
    let parts = and_parts (is_math_byte c) (ends_math (d ∷ ds)) is in
    let rest = ends-inside (d ∷ ds) parts.1 in
    (c ∷ rest.0, ap (λ xs. c ∷ xs) rest.1, and_from (is_math_byte c) (list_all is_math_byte rest.0) parts.0 rest.2)

-- what stands between a first byte and a last one
inside-is : (c d : ℕ) (cs inside : List ℕ) → cs ≡ inside ++ d ∷ [] → inside_of (c ∷ cs) ≡ inside
inside-is c d cs inside is =
    let size : length (c ∷ cs) - 1 - 1 ≡ length inside = omega (arith, ap length is, length-append inside (d ∷ [])) in
    ap (λ n. take n cs) size ∙ ap (take (length inside)) is ∙ take-append_seam inside (d ∷ [])

pub has-inside : HasInside
has-inside [] is = absurd (false≢true is)
has-inside (c ∷ cs) is =
    let parts = and_parts (c == 36) (ends_math cs) is in
    let rest = ends-inside cs parts.1 in
    let same : inside_of (c ∷ cs) ≡ rest.0 = inside-is c 36 cs rest.0 rest.1 in
    (ap₂ ◌∷◌ (eqb-true c 36 parts.0) (rest.1 ∙ ap (λ xs. xs ++ 36 ∷ []) (sym same)), ap (list_all is_math_byte) same ∙ rest.2)

slice-size : (text : List ℕ) (from to : ℕ) → from ≤ to → to ≤ length text → length (slice_range text from to) ≡ to - from
slice-size text from to le within = omega (arith, length-take (to - from) (drop from text), length-drop from text)

-- no math string is shorter than its two `$`
math-size : (bytes : List ℕ) → is_math bytes ≡ true → 2 ≤ length bytes
math-size [] is = absurd (false≢true is)
math-size (c ∷ []) is = absurd (false≢true (and_parts (c == 36) false is).1)
math-size (c ∷ d ∷ ds) is = omega arith

pub inside-stands : InsideStands
inside-stands text from l next kind =
    let some = next.some in
    let within = next.within in
    let math : is_math (slice_range text l.from l.to) ≡ true = ap (λ k. is_of_kind k (slice_range text l.from l.to)) (sym kind) ∙ next.kind in
    let long : l.from + 2 ≤ l.to = omega (arith, math-size (slice_range text l.from l.to) math, slice-size text l.from l.to (omega arith) within) in
    let back : l.to - 1 + 1 ≡ l.to = omega arith in
    let none : l.to - (l.to - 1 + 1) ≡ 0 = omega arith in
    let split : slice_range text (l.from + 1) l.to ≡ slice_range text (l.from + 1) (l.to - 1) ++ get_or text (l.to - 1) 0 ∷ [] =
    slice-split text (l.from + 1) (l.to - 1) l.to (omega arith) (omega arith) within
    ∙ ap (λ n. slice_range text (l.from + 1) (l.to - 1) ++ get_or text (l.to - 1) 0 ∷ take n (drop (l.to - 1 + 1) text)) none in (
      long,
      sym (ap inside_of (next.spelled ∙ slice-first text l.from l.to some within)
          ∙ inside-is (get_or text l.from 0) (get_or text (l.to - 1) 0) (slice_range text (l.from + 1) l.to) (slice_range text (l.from + 1) (l.to - 1)) split),
    )

-- Calls that are answered from files: what each adds, and what rows of them have.
use Rattle.std.proofs.Common.{◌≡◌, ◌≤◌, ◌++◌, ◌∙◌, [], ◌∷◌, ℕ, List, length, take, true, false, Option, Some, Result, Ok, Err, OnOk, OnErr, IfOk, is_ok, refl, sym, ap, subst, append_assoc, arith}
use Rattle.std.proofs.lemmas.List.{append-nil, length-take}
use Rattle.mz_io.specs.Calls.{Call, starts, pulls, pull_fails, puts, writes, write_fails, pulled, Grows, AreAnswered, taken}
use Rattle.mz_io.specs.Outside.{SameFiles, Pulls}
use Rattle.mz_io.proofs.Logs.{grows-on, grows-both}

-- a start
pub start-answered : {T E : Type 0} (file : List ℕ → Option (List ℕ)) (left now name : List ℕ) (result : Result T E) → OnOk result (file name ≡ Some now) → OnErr result (now ≡ []) →
    AreAnswered file left (starts name (is_ok result) ∷ []) now
start-answered file left now name (Ok u) ok err = (now, ok, refl)
start-answered file left now name (Err e) ok err = err

none-taken : (n : ℕ) (buf : List ℕ) → n ≤ length buf → take n buf ≡ [] → n ≡ 0
none-taken n buf fits none =
    let same : length (take n buf) ≡ 0 = ap length none in
    omega (arith, length-take n buf)

-- a pull
pub pull-answered : {E : Type 0} (file : List ℕ → Option (List ℕ)) (left now : List ℕ) (result : Result ℕ E) (buf : List ℕ) → Pulls left now result buf → IfOk result (λ n. n ≤ length buf) →
    AreAnswered file left (pulled result buf ∷ []) now
pull-answered file left now (Ok n) buf (is, ends) fits = (now, is, (λ none some. ends (none-taken n buf fits none) some), refl)
pull-answered file left now (Err e) buf stopped fits = stopped

module _ (f g : List ℕ → Option (List ℕ)) (same : SameFiles f g) where
  -- files that hold the same answer the same
  pub same-answered : (left : List ℕ) (calls : List Call) (now : List ℕ) → AreAnswered g left calls now → AreAnswered f left calls now
  same-answered left [] now a = a
  same-answered left (starts name true ∷ calls) now (bytes, is, rest) = (bytes, sym (same name) ∙ is, same-answered bytes calls now rest)
  same-answered left (starts name false ∷ calls) now rest = same-answered [] calls now rest
  same-answered left (pulls asked bytes ∷ calls) now (after, is, ends, rest) = (after, is, ends, same-answered after calls now rest)
  same-answered left (pull_fails ∷ calls) now rest = same-answered [] calls now rest
  same-answered left (puts name bytes done ∷ calls) now none = absurd none
  same-answered left (writes bytes ∷ calls) now none = absurd none
  same-answered left (write_fails piece ∷ calls) now none = absurd none

module _ (file : List ℕ → Option (List ℕ)) where
  -- one row of calls after another
  pub both-answered : (left : List ℕ) (first second : List Call) (between now : List ℕ) → AreAnswered file left first between → AreAnswered file between second now →
      AreAnswered file left (first ++ second) now
  both-answered left [] second between now a b = subst (λ l. AreAnswered file l second now) a b
  both-answered left (starts name true ∷ first) second between now (bytes, is, rest) b = (bytes, is, both-answered bytes first second between now rest b)
  both-answered left (starts name false ∷ first) second between now rest b = both-answered [] first second between now rest b
  both-answered left (pulls asked bytes ∷ first) second between now (after, is, ends, rest) b = (after, is, ends, both-answered after first second between now rest b)
  both-answered left (pull_fails ∷ first) second between now rest b = both-answered [] first second between now rest b
  both-answered left (puts name bytes done ∷ first) second between now none b = absurd none
  both-answered left (writes bytes ∷ first) second between now none b = absurd none
  both-answered left (write_fails piece ∷ first) second between now none b = absurd none

  -- one pull more
  pub pulls-answered : {E : Type 0} (first left now : List ℕ) (old before after : List Call) (result : Result ℕ E) (buf : List ℕ) → Grows old before (λ more. AreAnswered file first more left) →
      after ≡ before ++ pulled result buf ∷ [] → Pulls left now result buf → IfOk result (λ n. n ≤ length buf) → Grows old after (λ more. AreAnswered file first more now)
  pulls-answered first left now old before after result buf grown e gave fits =
      grows-on old before after (pulled result buf) (λ more. AreAnswered file first more left) (λ more. AreAnswered file first more now) grown e
      (λ more a. both-answered first more (pulled result buf ∷ []) left now a (pull-answered file left now result buf gave fits))

-- one row of calls after another, over files that stay
pub grows-answered : (f g : List ℕ → Option (List ℕ)) (first between last : List ℕ) (old now later : List Call) → SameFiles f g →
    Grows old now (λ more. AreAnswered f first more between) → Grows now later (λ more. AreAnswered g between more last) → Grows old later (λ more. AreAnswered f first more last)
grows-answered f g first between last old now later same one two =
    grows-both old now later (λ more. AreAnswered f first more between) (λ more. AreAnswered g between more last) (λ more. AreAnswered f first more last) one two
    (λ a b x y. both-answered f first a b between last x (same-answered f g same between b last y))

-- ---- what a sink took

pub taken-append : (first second : List Call) → taken (first ++ second) ≡ taken first ++ taken second
taken-append [] second = refl
taken-append (writes bytes ∷ first) second = ap (λ rest. bytes ++ rest) (taken-append first second) ∙ sym (append_assoc bytes (taken first) (taken second))
taken-append (starts name done ∷ first) second = taken-append first second
taken-append (pulls asked bytes ∷ first) second = taken-append first second
taken-append (pull_fails ∷ first) second = taken-append first second
taken-append (puts name bytes done ∷ first) second = taken-append first second
taken-append (write_fails piece ∷ first) second = taken-append first second

-- one piece more
pub taken-more : (held piece : List ℕ) (calls now : List Call) → held ≡ taken calls → now ≡ calls ++ writes piece ∷ [] → held ++ piece ≡ taken now
taken-more held piece calls now e f =
    ap (λ front. front ++ piece) e ∙ ap (λ last. taken calls ++ last) (sym (append-nil piece)) ∙ sym (ap taken f ∙ taken-append calls (writes piece ∷ []))

pub taken-none : (held piece : List ℕ) (calls now : List Call) → held ≡ taken calls → now ≡ calls ++ write_fails piece ∷ [] → held ≡ taken now
taken-none held piece calls now e f = e ∙ sym (append-nil (taken calls)) ∙ sym (ap taken f ∙ taken-append calls (write_fails piece ∷ []))

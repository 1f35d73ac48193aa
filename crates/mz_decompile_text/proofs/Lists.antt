-- What is left of lists that are being written, where one more is opened.
use Rattle.std.proofs.Common.{◌≡◌, ◌∙◌, ℕ, suc, ◌+◌, ◌*◌, ◌<◌, ◌≤◌, Bool, true, false, List, [], ◌∷◌, ◌++◌, length, get_or, codes, sym, ap, subst, refl, arith}
use Rattle.std.proofs.lemmas.List.{append_assoc, append-nil, length-append}
use Rattle.std.proofs.lemmas.Slice.{first_rest}
use Rattle.std.specs.List.{between}
use Rattle.mz_decompile_text.specs.Phrases.{Phrase, Phrases, a_list, one_more, no_phrases, written, all_written}
use Rattle.mz_decompile_text.specs.ByNumber.{phrase_at, phrases_at}
use Rattle.mz_decompile_text.specs.Writing.{AreOpen, IsOpen, left, left_of, weight, weight_of, after_spaces, parts_left, separator, one_if}
use Rattle.mz_decompile_text.specs.Staying.{StaysIn}
use Rattle.mz_decompile_text.specs.declared.writing.Open.{Open}

pub left-more : (ps : List Phrase) (os : List Open) (o : Open) → left ps (os ++ o ∷ []) ≡ left_of ps o ++ left ps os
left-more ps [] o = sym (append-nil (left_of ps o))
left-more ps (x ∷ os) o = ap (λ t. t ++ left_of ps x) (left-more ps os o) ∙ append_assoc (left_of ps o) (left ps os) (left_of ps x)

pub weight-more : (ps : List Phrase) (os : List Open) (o : Open) → weight ps (os ++ o ∷ []) ≡ weight_of ps o + weight ps os
weight-more ps [] o = omega arith
weight-more ps (x ∷ os) o = let rest = weight-more ps os o in omega (arith, rest)

pub open-more : (ps : List Phrase) (os : List Open) (o : Open) → AreOpen ps os → IsOpen ps o → AreOpen ps (os ++ o ∷ [])
open-more ps [] o all one = (one, tt)
open-more ps (x ∷ os) o all one = (all.0, open-more ps os o all.1 one)

pub open-last : (ps : List Phrase) (os : List Open) (o : Open) → AreOpen ps (os ++ o ∷ []) → IsOpen ps o
open-last ps [] o all = all.0
open-last ps (x ∷ os) o all = open-last ps os o all.1

pub open-rest : (ps : List Phrase) (os : List Open) (o : Open) → AreOpen ps (os ++ o ∷ []) → AreOpen ps os
open-rest ps [] o all = tt
open-rest ps (x ∷ os) o all = (all.0, open-rest ps os o all.1)

-- the first part, and each of the others with a space before it
pub first-written : (p : Phrase) (ps : Phrases) → all_written (one_more p ps) ≡ written p ++ after_spaces ps
first-written p no_phrases = sym (append-nil (written p))
first-written p (one_more q qs) = ap (λ t. written p ++ (codes " " ++ t)) (first-written q qs)

pub stays-on : (xs ys zs : List ℕ) → StaysIn xs ys → StaysIn ys zs → StaysIn xs zs
stays-on xs ys zs s t = (s.0 ++ t.0, t.1 ∙ ap (λ a. a ++ t.0) s.1 ∙ append_assoc xs s.0 t.0)

pub stays-same : (xs : List ℕ) → StaysIn xs xs
stays-same xs = ([], sym (append-nil xs))

-- ---- a list is begun

-- the list o is opened as the last of os, whose text is that of the phrase after its opening bracket
pub record IsBegun (ps : List Phrase) (p : Phrase) (os os2 : List Open) (o : Open) : Type 0 where
  pub last : os2 ≡ os ++ o ∷ []
  pub first : o.first ≡ true
  pub phrase : p ≡ a_list (phrases_at ps o.parts.now)
  pub below : IsOpen ps o

begun-left : (ps : List Phrase) (p : Phrase) (os os2 : List Open) (o : Open) → IsBegun ps p os os2 o → codes "(" ++ left ps os2 ≡ written p ++ left ps os
begun-left ps p os os2 o h =
    let at = ap (λ b. parts_left b (phrases_at ps o.parts.now) ++ codes ")") h.first in
    ap (λ x. codes "(" ++ left ps x) h.last ∙ ap (λ t. codes "(" ++ t) (left-more ps os o ∙ ap (λ t. t ++ left ps os) at) ∙ ap (λ x. written x ++ left ps os) (sym h.phrase)

pub begun-does : (ps : List Phrase) (p : Phrase) (os os2 : List Open) (o : Open) (before after : List ℕ) → IsBegun ps p os os2 o → after ≡ before ++ codes "("
    → after ++ left ps os2 ≡ before ++ (written p ++ left ps os)
begun-does ps p os os2 o before after h is =
    ap (λ t. t ++ left ps os2) is ∙ append_assoc before (codes "(") (left ps os2) ∙ ap (λ t. before ++ t) (begun-left ps p os os2 o h)

pub begun-less : (ps : List Phrase) (p : Phrase) (os os2 : List Open) (o : Open) → IsBegun ps p os os2 o → weight ps os2 ≤ 2 * length (written p) + weight ps os
begun-less ps p os os2 o h =
    let total = ap (weight ps) h.last ∙ weight-more ps os o in
    let one = ap one_if h.first in
    let text = ap length (begun-left ps p os os2 o h) in
    let here = length-append (written p) (left ps os) in
    let last = ap (λ x. length (left ps x)) h.last ∙ ap length (left-more ps os o) in
    let parts = length-append (left_of ps o) (left ps os) in
    omega arith

pub begun-open : (ps : List Phrase) (p : Phrase) (os os2 : List Open) (o : Open) → IsBegun ps p os os2 o → AreOpen ps os → AreOpen ps os2
begun-open ps p os os2 o h all = subst (AreOpen ps) (sym h.last) (open-more ps os o all h.below)

-- ---- a list goes on

-- the list o2 is what is left of o after its next part, and is opened as the last of os
pub record GoesOn (ps : List Phrase) (i : ℕ) (o : Open) (os os2 : List Open) (o2 : Open) : Type 0 where
  pub last : os2 ≡ os ++ o2 ∷ []
  pub first : o2.first ≡ false
  pub parts : o.parts.now ≡ i ∷ o2.parts.now

-- what a pattern of a first part and the rest gives
pub goes : (ps : List Phrase) (o : Open) (os os2 : List Open) (o2 : Open) → os2 ≡ os ++ o2 ∷ [] → o2.first ≡ false
    → o2.parts.now ≡ between 1 (length o.parts.now) o.parts.now → 0 < length o.parts.now → (o3 : Open) × GoesOn ps (get_or o.parts.now 0 0) o os os2 o3
goes ps o os os2 o2 last first parts some =
    (o2, record { last = last; first = first; parts = first_rest o.parts.now 0 some ∙ ap (λ is. get_or o.parts.now 0 0 ∷ is) (sym parts) })

parts-first : (b : Bool) (p : Phrase) (qs : Phrases) → parts_left b (one_more p qs) ≡ separator b ++ (written p ++ after_spaces qs)
parts-first true p qs = first-written p qs
parts-first false p qs = refl

goes-left : (ps : List Phrase) (i : ℕ) (o : Open) (os os2 : List Open) (o2 : Open) → GoesOn ps i o os os2 o2
    → left_of ps o ≡ separator o.first ++ (written (phrase_at ps i) ++ left_of ps o2)
goes-left ps i o os os2 o2 h =
    let p = phrase_at ps i in
    let qs = phrases_at ps o2.parts.now in
    let rest = ap (λ b. parts_left b qs ++ codes ")") (sym h.first) in
    ap (λ is. parts_left o.first (phrases_at ps is) ++ codes ")") h.parts
    ∙ ap (λ t. t ++ codes ")") (parts-first o.first p qs)
    ∙ append_assoc (separator o.first) (written p ++ after_spaces qs) (codes ")")
    ∙ ap (λ t. separator o.first ++ t) (append_assoc (written p) (after_spaces qs) (codes ")") ∙ ap (λ t. written p ++ t) rest)

pub goes-does : (ps : List Phrase) (i : ℕ) (o : Open) (os os2 os3 : List Open) (o2 : Open) (before mid after : List ℕ) → GoesOn ps i o os os2 o2
    → mid ≡ before ++ separator o.first → after ++ left ps os3 ≡ mid ++ (written (phrase_at ps i) ++ left ps os2)
    → after ++ left ps os3 ≡ before ++ (left_of ps o ++ left ps os)
goes-does ps i o os os2 os3 o2 before mid after h is does =
    let p = phrase_at ps i in
    let all = ap (left ps) h.last ∙ left-more ps os o2 in
    does
    ∙ ap (λ t. t ++ (written p ++ left ps os2)) is
    ∙ append_assoc before (separator o.first) (written p ++ left ps os2)
    ∙ ap (λ t. before ++ t)
    (
    ap (λ t. separator o.first ++ (written p ++ t)) all
    ∙ ap (λ t. separator o.first ++ t) (sym (append_assoc (written p) (left_of ps o2) (left ps os)))
    ∙ sym (append_assoc (separator o.first) (written p ++ left_of ps o2) (left ps os))
    ∙ ap (λ t. t ++ left ps os) (sym (goes-left ps i o os os2 o2 h))
    )

-- a space weighs two, and so does that no part is written
one-weight : (b : Bool) → 1 ≤ 2 * length (separator b) + one_if b
one-weight true = omega arith
one-weight false = omega arith

pub goes-less : (ps : List Phrase) (i : ℕ) (o : Open) (os os2 os3 : List Open) (o2 : Open) → GoesOn ps i o os os2 o2
    → weight ps os3 ≤ 2 * length (written (phrase_at ps i)) + weight ps os2 → weight ps os3 < weight_of ps o + weight ps os
goes-less ps i o os os2 os3 o2 h low =
    let p = phrase_at ps i in
    let total = ap (weight ps) h.last ∙ weight-more ps os o2 in
    let none = ap one_if h.first in
    let text = ap length (goes-left ps i o os os2 o2 h) in
    let front = length-append (separator o.first) (written p ++ left_of ps o2) in
    let rest = length-append (written p) (left_of ps o2) in
    let one = one-weight o.first in
    omega arith

pub goes-open : (ps : List Phrase) (i : ℕ) (o : Open) (os os2 : List Open) (o2 : Open) → GoesOn ps i o os os2 o2 → AreOpen ps os → IsOpen ps o → AreOpen ps os2
goes-open ps i o os os2 o2 h all one =
    let below = subst (λ is. (k : ℕ) (d : ℕ) → k < length is → get_or is k d < length ps) h.parts one in
    subst (AreOpen ps) (sym h.last) (open-more ps os o2 all (λ k d less. below (suc k) d (omega arith)))

-- The node of a number is that of its phrase.
use Rattle.std.proofs.Common.{◌≡◌, ◌∙◌, ℕ, suc, zero, ◌+◌, ◌<◌, List, [], ◌∷◌, ◌++◌, length, get_or, slice_range, All, sym, ap, subst, refl, arith}
use Rattle.std.proofs.lemmas.List.{length-append, append_assoc, append-nil, get_or_at, get_or_append_left}
use Rattle.mz_decompile_text.specs.Phrases.{Phrase, a_word, a_list, one_more}
use Rattle.mz_decompile_text.specs.ByNumber.{phrase_at, phrases_at}
use Rattle.mz_decompile_text.specs.Kept.{phrase_with, grown, phrases_of, IsWithin, IsMeasured, AreKept}
use Rattle.mz_decompile_text.specs.declared.node.Node.{Node}
use Rattle.mz_decompile_text.specs.declared.node.Form.{Form}
use Rattle.mz_decompile_text.specs.declared.node.Form.TheVariants.{Word, Parts}
use Rattle.mz_decompile_text.proofs.Adding.{many}

pub record IsFound (b p : List ℕ) (qs : List Phrase) (k : ℕ) (n : Node) : Type 0 where
  pub phrase : phrase_at qs k ≡ phrase_with b p qs n.form
  pub within : IsWithin b p k n.form
  pub measured : IsMeasured k (phrase_at qs k) n

-- numbers of the first phrases stand for the same where more follow
phrases-front : (ps rest : List Phrase) (is : List ℕ) → All (λ i. i < length ps) is → phrases_at (ps ++ rest) is ≡ phrases_at ps is
phrases-front ps rest [] h = refl
phrases-front ps rest (i ∷ is) h =
    ap (λ x. one_more x (phrases_at (ps ++ rest) is)) (get_or_append_left ps rest (a_word []) i (h 0 0 (omega arith)))
    ∙ ap (one_more (phrase_at ps i)) (phrases-front ps rest is (λ k d less. h (suc k) d (omega arith)))

with-front : (b p : List ℕ) (ps rest : List Phrase) (f : Form) → IsWithin b p (length ps) f → phrase_with b p (ps ++ rest) f ≡ phrase_with b p ps f
with-front b p ps rest (Word from to) h = refl
with-front b p ps rest (Parts from to) h = ap a_list (phrases-front ps rest (slice_range p from to) h.2)

-- those that were there stand first
rest_of : (b p : List ℕ) (ps : List Phrase) (ns : List Node) → (rest : List Phrase) × (grown b p ps ns ≡ ps ++ rest)
rest_of b p ps [] = ([], sym (append-nil ps))
rest_of b p ps (n ∷ ns) =
    let x = phrase_with b p ps n.form in
    let r = rest_of b p (ps ++ x ∷ []) ns in
    (x ∷ r.0, r.1 ∙ append_assoc ps (x ∷ []) r.0)

found-first : (b p : List ℕ) (ps : List Phrase) (rest : List Phrase) (n : Node) → IsWithin b p (length ps) n.form → IsMeasured (length ps) (phrase_with b p ps n.form) n
    → IsFound b p (ps ++ phrase_with b p ps n.form ∷ rest) (length ps) n
found-first b p ps rest n within measured =
    let x = phrase_with b p ps n.form in
    let at = get_or_at ps x rest (a_word []) (length ps) refl in record {
      phrase = at ∙ sym (with-front b p ps (x ∷ rest) n.form within);
      within = within;
      measured = subst (λ y. IsMeasured (length ps) y n) (sym at) measured;
    }

pub found : (b p : List ℕ) (ps : List Phrase) (ns : List Node) (i k : ℕ) (n : Node) → AreKept b p ps ns → i < length ns → n ≡ get_or ns i n → k ≡ length ps + i
    → IsFound b p (grown b p ps ns) k n
found b p ps [] i k n kept less is place = absurd (omega arith)
found b p ps (m ∷ ns) zero k n kept less is place =
    let r = rest_of b p ps (m ∷ ns) in
    let s = rest_of b p (ps ++ phrase_with b p ps m.form ∷ []) ns in
    let whole = s.1 ∙ append_assoc ps (phrase_with b p ps m.form ∷ []) s.0 in
    let here : length ps ≡ k = omega arith in
    subst (λ j. IsFound b p (grown b p ps (m ∷ ns)) j n) here
    (
    subst (λ qs. IsFound b p qs (length ps) n) (sym whole)
    (
    subst (λ o. IsFound b p (ps ++ phrase_with b p ps m.form ∷ s.0) (length ps) o) (sym is)
    (found-first b p ps s.0 m kept.0 kept.1)
    )
    )
found b p ps (m ∷ ns) (suc i) k n kept less is place =
    let x = phrase_with b p ps m.form in
    found b p (ps ++ x ∷ []) ns i k n kept.2 (omega arith) is (omega (arith, length-append ps (x ∷ [])))

pub at : (b p : List ℕ) (ns : List Node) (ps : List Phrase) (i : ℕ) (n : Node) → AreKept b p [] ns → phrases_of b p ns ≡ ps → i < length ps → n ≡ get_or ns i n
    → IsFound b p ps i n
at b p ns ps i n kept is less node =
    let count = many b p ns ps is in
    subst (λ qs. IsFound b p qs i n) is (found b p [] ns i i n kept (omega arith) node (omega arith))

pub within : {b p : List ℕ} {qs : List Phrase} {k : ℕ} {n : Node} (f : Form) → IsFound b p qs k n → n.form ≡ f → IsWithin b p k f
within {b} {p} {qs} {k} f h is = subst (IsWithin b p k) is h.within

pub phrase : {b p : List ℕ} {qs : List Phrase} {k : ℕ} {n : Node} (f : Form) → IsFound b p qs k n → n.form ≡ f → phrase_at qs k ≡ phrase_with b p qs f
phrase {b} {p} {qs} f h is = h.phrase ∙ ap (phrase_with b p qs) is

-- Nodes stand for the same phrases where there are more bytes and more parts.
use Rattle.std.proofs.Common.{◌≡◌, ◌∙◌, ℕ, ◌-◌, ◌≤◌, ◌<◌, List, [], ◌∷◌, ◌++◌, length, take, drop, slice_range, All, sym, ap, subst, refl, arith}
use Rattle.std.proofs.lemmas.List.{drop-append-le, take-append-le, length-drop, length-append}
use Rattle.mz_base.proofs.Offered.{slice_range-end}
use Rattle.mz_decompile_text.specs.Phrases.{Phrase, a_word, a_list}
use Rattle.mz_decompile_text.specs.ByNumber.{phrases_at}
use Rattle.mz_decompile_text.specs.Kept.{phrase_with, grown, IsWithin, IsMeasured, AreKept}
use Rattle.mz_decompile_text.specs.declared.node.Node.{Node}
use Rattle.mz_decompile_text.specs.declared.node.Form.{Form}
use Rattle.mz_decompile_text.specs.declared.node.Form.TheVariants.{Word, Parts}

pub range-longer : (xs ys : List ℕ) (a b : ℕ) → a ≤ b → b ≤ length xs → slice_range (xs ++ ys) a b ≡ slice_range xs a b
range-longer xs ys a b low high =
    let enough : b - a ≤ length (drop a xs) = omega (arith, length-drop a xs) in
    ap (take (b - a)) (drop-append-le a xs ys (omega arith)) ∙ take-append-le (b - a) (drop a xs) ys enough

pub with-longer : (b w p v : List ℕ) (ps : List Phrase) (f : Form) → IsWithin b p (length ps) f → phrase_with (b ++ w) (p ++ v) ps f ≡ phrase_with b p ps f
with-longer b w p v ps (Word from to) h = ap a_word (range-longer b w from to h.0 h.1)
with-longer b w p v ps (Parts from to) h = ap (λ ns. a_list (phrases_at ps ns)) (range-longer p v from to h.0 h.1)

pub within-longer : (b w p v : List ℕ) (count : ℕ) (f : Form) → IsWithin b p count f → IsWithin (b ++ w) (p ++ v) count f
within-longer b w p v count (Word from to) h = (h.0, omega (arith, h.1, length-append b w))
within-longer b w p v count (Parts from to) h =
    (h.0, omega (arith, h.1, length-append p v), subst (All (λ m. m < count)) (sym (range-longer p v from to h.0 h.1)) h.2)

pub grown-longer : (b w p v : List ℕ) (ps : List Phrase) (ns : List Node) → AreKept b p ps ns → grown (b ++ w) (p ++ v) ps ns ≡ grown b p ps ns
grown-longer b w p v ps [] h = refl
grown-longer b w p v ps (n ∷ ns) h =
    ap (λ x. grown (b ++ w) (p ++ v) (ps ++ x ∷ []) ns) (with-longer b w p v ps n.form h.0)
    ∙ grown-longer b w p v (ps ++ phrase_with b p ps n.form ∷ []) ns h.2

pub kept-longer : (b w p v : List ℕ) (ps : List Phrase) (ns : List Node) → AreKept b p ps ns → AreKept (b ++ w) (p ++ v) ps ns
kept-longer b w p v ps [] h = tt
kept-longer b w p v ps (n ∷ ns) h =
    let same = with-longer b w p v ps n.form h.0 in (
      within-longer b w p v (length ps) n.form h.0,
      subst (λ x. IsMeasured (length ps) x n) (sym same) h.1,
      subst (λ x. AreKept (b ++ w) (p ++ v) (ps ++ x ∷ []) ns) (sym same) (kept-longer b w p v (ps ++ phrase_with b p ps n.form ∷ []) ns h.2),
    )

-- at the places that were reported before and after
pub range-added : (xs ys : List ℕ) (from to : ℕ) → from ≡ length xs → to ≡ length (xs ++ ys) → slice_range (xs ++ ys) from to ≡ ys
range-added xs ys from to begin end = ap (λ a. slice_range (xs ++ ys) a to) begin ∙ ap (slice_range (xs ++ ys) (length xs)) end ∙ slice_range-end xs ys

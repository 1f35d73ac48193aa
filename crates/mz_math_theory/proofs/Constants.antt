-- Elements of notations, and the constants by which they are found.
use Rattle.std.proofs.Common.{◌≡◌, ◌↔◌, ◌∙◌, ℕ, List, ◌∷◌, Bool, sym, subst}
use Rattle.std.specs.Prelude.{IsTrue}
use Rattle.mz_math_theory.specs.Notation.{Element, fixed, Notation}
use Rattle.mz_math_theory.specs.Clear.{LedBy, JoinedBy}

pub fixed-same : {v w : List ℕ} {a q : ℕ} → fixed v a ≡ fixed w q → (v ≡ w) × (a ≡ q)
fixed-same e = (cc, cc)

pub fixed-level : (e : Element) (v : List ℕ) (a : ℕ) → e ≡ fixed v a → (r : Bool) (Q : List ℕ → ℕ → Type 0) → (IsTrue r ↔ ((p : ℕ) → Q v p → p ≡ a))
    → IsTrue r ↔ ((w : List ℕ) (q p : ℕ) → e ≡ fixed w q → Q w p → p ≡ q)
fixed-level e v a here r Q j = (
  λ t w q p is has. let same = fixed-same (sym here ∙ is) in j.0 t p (subst (λ x. Q x p) (sym same.0) has) ∙ same.1,
  λ all. j.1 (λ p has. all v a p here has),
)

heads-same : {x y : Element} {xs ys : List Element} → x ∷ xs ≡ y ∷ ys → x ≡ y
heads-same e = cc

seconds-same : {x y z u : Element} {xs ys : List Element} → x ∷ z ∷ xs ≡ y ∷ u ∷ ys → z ≡ u
seconds-same e = cc

pub led-one : (k : Notation) (v w : List ℕ) → LedBy k v → LedBy k w → v ≡ w
led-one k v w (es, is) (fs, other) = (fixed-same (heads-same (sym is ∙ other))).0

pub joined-one : (k : Notation) (v w : List ℕ) → JoinedBy k v → JoinedBy k w → v ≡ w
joined-one k v w (i, es, is) (j, fs, other) = (fixed-same (seconds-same (sym is ∙ other))).0

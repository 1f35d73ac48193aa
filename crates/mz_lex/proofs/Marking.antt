-- Tables of bytes: none is set, and one more.
use Rattle.std.proofs.Common.{◌≡◌, ◌<◌, ◌⊎◌, ◌∙◌, ◌↔◌, ℕ, zero, suc, List, [], ◌∷◌, length, Bool, true, false, get_or, slice_set, ◌++◌, Contains, ap, sym, subst, refl, inl, inr, arith}
use Rattle.std.specs.Prelude.{IsTrue}
use Rattle.std.proofs.Math.ListN.{replicate}
use Rattle.std.proofs.lemmas.Bool.{false≢true, cases_order}
use Rattle.std.proofs.lemmas.List.{get_or-set_same, get_or-set_other}
use Rattle.std.proofs.lemmas.List.Elements.{Contains-append_left, Contains-append_right, Contains-append_cases}
use Rattle.mz_base.proofs.Offered.{contains_none}
use Rattle.mz_lex.specs.Sets.{Tells}

pub unmarked : (n c : ℕ) → get_or (replicate n false) c false ≡ false
unmarked zero c = refl
unmarked (suc n) zero = refl
unmarked (suc n) (suc c) = unmarked n c

pub none-tells : (n : ℕ) → Tells (replicate n false) []
none-tells n c = (λ t. absurd (false≢true (sym (unmarked n c) ∙ t)), λ has. absurd (contains_none _ has))

-- one byte of those that are left is set
pub mark-one : (t : List Bool) (b : ℕ) (rest : List ℕ) → b < length t → (c : ℕ) → (IsTrue (get_or (slice_set t b true) c false) ⊎ Contains rest c) ↔ (IsTrue (get_or t c false) ⊎ Contains (b ∷ rest) c)
mark-one t b rest within c = elim (cases_order c b) [
  | inl same ↦ here same
  | inr order ↦ elim order [ inl less ↦ there (λ e. absurd (omega (arith, less, e))) | inr greater ↦ there (λ e. absurd (omega (arith, greater, e))) ]
]
  where
    here : c ≡ b → (IsTrue (get_or (slice_set t b true) c false) ⊎ Contains rest c) ↔ (IsTrue (get_or t c false) ⊎ Contains (b ∷ rest) c)
    here same = (λ h. inr (0, omega arith, sym same), λ h. inl (ap (λ i. get_or (slice_set t b true) i false) same ∙ get_or-set_same t b true false within))

    there : (c ≡ b → ⊥) → (IsTrue (get_or (slice_set t b true) c false) ⊎ Contains rest c) ↔ (IsTrue (get_or t c false) ⊎ Contains (b ∷ rest) c)
    there other =
        let e : get_or (slice_set t b true) c false ≡ get_or t c false = get_or-set_other t b c true false other in
        (λ h. forth e h, λ h. back e h)
      where
        forth : get_or (slice_set t b true) c false ≡ get_or t c false → IsTrue (get_or (slice_set t b true) c false) ⊎ Contains rest c → IsTrue (get_or t c false) ⊎ Contains (b ∷ rest) c
        forth e (inl h) = inl (sym e ∙ h)
        forth e (inr (k, below, is)) = inr (suc k, omega (arith, below), is)

        back : get_or (slice_set t b true) c false ≡ get_or t c false → IsTrue (get_or t c false) ⊎ Contains (b ∷ rest) c → IsTrue (get_or (slice_set t b true) c false) ⊎ Contains rest c
        back e (inl h) = inl (e ∙ h)
        back e (inr (zero, below, is)) = absurd (other (sym is))
        back e (inr (suc k, below, is)) = inr (k, omega (arith, below), is)

-- ---- bytes that are put in

-- u has the bytes of t and those of ys
abbrev pub Adds : List Bool → List Bool → List ℕ → Type 0
Adds t u ys = (c : ℕ) → IsTrue (get_or u c false) ↔ (IsTrue (get_or t c false) ⊎ Contains ys c)

pub tells-more : (t u : List Bool) (xs ys zs : List ℕ) → Tells t xs → Adds t u ys → zs ≡ xs ++ ys → Tells u zs
tells-more t u xs ys zs told adds is = subst (Tells u) (sym is) (λ c. (
  λ marked. elim ((adds c).0 marked) [ inl old ↦ Contains-append_left xs ys c ((told c).0 old) | inr new_ ↦ Contains-append_right xs ys c new_ ],
  λ has. elim (Contains-append_cases xs ys c has) [ inl old ↦ (adds c).1 (inl ((told c).1 old)) | inr new_ ↦ (adds c).1 (inr new_) ],
))

pub tells-anew : (n : ℕ) (u : List Bool) (xs zs : List ℕ) → Adds (replicate n false) u xs → zs ≡ xs → Tells u zs
tells-anew n u xs zs adds is = tells-more (replicate n false) u [] xs zs (none-tells n) adds is

-- Texts one after another.
use Rattle.std.proofs.Common.{◌≡◌, ◌≤◌, ◌++◌, ◌+◌, ℕ, zero, suc, List, [], ◌∷◌, take, length, slice_get, Some, refl, ap, sym, ◌∙◌, append_assoc, append-nil, add-one}
use Rattle.std.proofs.lemmas.List.{take_all}
use Rattle.mz_show.specs.Tokens.{texts}

pub texts-append : {A : Type 0} → (text : A → List ℕ) → (xs ys : List A) → texts text (xs ++ ys) ≡ texts text xs ++ texts text ys
texts-append text [] ys = refl
texts-append text (x ∷ xs) ys = ap (λ rest. text x ++ rest) (texts-append text xs ys) ∙ sym (append_assoc (text x) (texts text xs) (texts text ys))

-- one more
pub texts-snoc : {A : Type 0} → (text : A → List ℕ) → (xs : List A) (x : A) → texts text (xs ++ x ∷ []) ≡ texts text xs ++ text x
texts-snoc text xs x = texts-append text xs (x ∷ []) ∙ ap (λ rest. texts text xs ++ rest) (append-nil (text x))

take-more : {A : Type 0} → (xs : List A) (i : ℕ) (x : A) → slice_get xs i ≡ Some x → take (suc i) xs ≡ take i xs ++ x ∷ []
take-more [] i x e = absurd cc
take-more (y ∷ xs) zero x e = let same : y ≡ x = cc in ap (λ z. z ∷ []) same
take-more (y ∷ xs) (suc i) x e = ap (λ rest. y ∷ rest) (take-more xs i x e)

-- one more element's text was appended
pub texts-more : {A : Type 0} → (text : A → List ℕ) → (xs : List A) (i : ℕ) (x : A) (first before now : List ℕ) → slice_get xs i ≡ Some x →
    before ≡ first ++ texts text (take i xs) → now ≡ before ++ text x → now ≡ first ++ texts text (take (i + 1) xs)
texts-more text xs i x first before now at e f =
    let more : take (i + 1) xs ≡ take i xs ++ x ∷ [] = ap (λ (n : ℕ). take n xs) (add-one i) ∙ take-more xs i x at in
    let all : texts text (take (i + 1) xs) ≡ texts text (take i xs) ++ text x = ap (λ ys. texts text ys) more ∙ texts-snoc text (take i xs) x in
    f ∙ ap (λ front. front ++ text x) e ∙ append_assoc first (texts text (take i xs)) (text x) ∙ ap (λ rest. first ++ rest) (sym all)

-- all elements' texts, and what follows them
pub texts-whole : {A : Type 0} → (text : A → List ℕ) → (xs : List A) (i : ℕ) (first before last : List ℕ) → length xs ≤ i →
    before ≡ first ++ texts text (take i xs) → before ++ last ≡ first ++ (texts text xs ++ last)
texts-whole text xs i first before last past e =
    let whole : texts text (take i xs) ≡ texts text xs = ap (λ ys. texts text ys) (take_all i xs past) in
    ap (λ front. front ++ last) (e ∙ ap (λ lines. first ++ lines) whole) ∙ append_assoc first (texts text xs) last

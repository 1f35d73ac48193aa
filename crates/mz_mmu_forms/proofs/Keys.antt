-- The keys of a space, and the names that they stand for.
use Rattle.std.proofs.Common.{◌≡◌, ◌<◌, ◌≤◌, ◌+◌, ◌∙◌, inl, inr, ℕ, suc, Bool, true, false, ◌&&◌, ◌||◌, List, [], ◌∷◌, ◌++◌, length, ap, sym, refl, arith, map, subst, true≢false, nat_eq}
use Rattle.std.specs.Prelude.{bytes_eq}
use Rattle.std.specs.List.{list_any}
use Rattle.std.proofs.lemmas.Bool.Decides.{nat_tests}
use Rattle.std.specs.Cmp.Lexicographic.{same_text}
use Rattle.mz_base.proofs.Offered.{length-push, Tells}
use Rattle.mz_base.specs.Identifiers.{is_name}
use Rattle.mz_sexpr.proofs.Offered.{and_false}
use Rattle.mz_mmu_theory.specs.Name.{IsName}
use Rattle.mz_mmu_forms.specs.SpaceView.{Key, word_of_key, IsKeyAt, AreKeysFrom}

abbrev pub is_key : List ℕ → ℕ → Key → Bool
is_key w m y = bytes_eq w y.0.now && nat_eq m y.1

-- a name is found where its bytes stand
and_true : (b : Bool) → (b && true) ≡ b
and_true true = refl
and_true false = refl

found_here : (i : ℕ) (w : List ℕ) (k : Key) → IsKeyAt i k → IsName w → is_key w 0 k ≡ bytes_eq w (word_of_key k)
found_here i w k (inl here) h = ap (λ m. bytes_eq w k.0.now && nat_eq 0 m) here.1 ∙ and_true (bytes_eq w k.0.now)
found_here i w k (inr here) h =
    let other : nat_eq 0 (suc i) ≡ false = grind (arith, nat_tests) in
    ap (λ m. bytes_eq w k.0.now && nat_eq 0 m) here.1 ∙ ap (λ b. bytes_eq w k.0.now && b) other ∙ and_false (bytes_eq w k.0.now)
    ∙ sym (differs (bytes_eq w k.0.now) refl)
  where
    differs : (b : Bool) → bytes_eq w k.0.now ≡ b → b ≡ false
    differs false e = refl
    differs true e = absurd (true≢false (sym h ∙ ap is_name (same_text w k.0.now (sym e)) ∙ here.0))

-- so of each key the test says whether its bytes are this name
pub keys-tell : (i : ℕ) (ks : List Key) (w : List ℕ) → AreKeysFrom i ks → IsName w → Tells word_of_key w (is_key w 0) ks
keys-tell i [] w all h = tt
keys-tell i (k ∷ ks) w all h = (found_here i w k all.0 h, keys-tell (suc i) ks w all.1 h)

-- ---- a key more

pub keys-more : (i : ℕ) (ks : List Key) (k : Key) → AreKeysFrom i ks → IsKeyAt (length ks + i) k → AreKeysFrom i (ks ++ k ∷ [])
keys-more i [] k all at = (subst (λ j. IsKeyAt j k) (let e : 0 + i ≡ i = omega arith in e) at, tt)
keys-more i (x ∷ ks) k all at =
    (all.0, keys-more (suc i) ks k all.1 (subst (λ j. IsKeyAt j k) (let e : suc (length ks) + i ≡ length ks + suc i = omega arith in e) at))

pub words-more : (ks : List Key) (k : Key) → map word_of_key (ks ++ k ∷ []) ≡ map word_of_key ks ++ word_of_key k ∷ []
words-more [] k = refl
words-more (x ∷ ks) k = ap (λ ws. word_of_key x ∷ ws) (words-more ks k)

pub length-words : (ks : List Key) → length (map word_of_key ks) ≡ length ks
length-words [] = refl
length-words (x ∷ ks) = ap suc (length-words ks)

-- a place's own key stands at no place before it
other_place : (i m : ℕ) (w : List ℕ) (k : Key) → IsKeyAt i k → i < m → is_key w (m + 1) k ≡ false
other_place i m w k (inl here) less =
    let other : nat_eq (m + 1) 0 ≡ false = grind (arith, nat_tests) in
    ap (λ n. bytes_eq w k.0.now && nat_eq (m + 1) n) here.1 ∙ ap (λ b. bytes_eq w k.0.now && b) other ∙ and_false (bytes_eq w k.0.now)
other_place i m w k (inr here) less =
    let other : nat_eq (m + 1) (suc i) ≡ false = grind (arith, nat_tests) in
    ap (λ n. bytes_eq w k.0.now && nat_eq (m + 1) n) here.1 ∙ ap (λ b. bytes_eq w k.0.now && b) other ∙ and_false (bytes_eq w k.0.now)

pub none_at_place : (i m : ℕ) (ks : List Key) (w : List ℕ) → AreKeysFrom i ks → length ks + i ≤ m → list_any (is_key w (m + 1)) ks ≡ false
none_at_place i m [] w all few = refl
none_at_place i m (k ∷ ks) w all few =
    let less : i < m = omega arith in
    let rest : length ks + suc i ≤ m = omega arith in
    ap (λ b. b || list_any (is_key w (m + 1)) ks) (other_place i m w k all.0 less) ∙ none_at_place (suc i) m ks w all.1 rest

-- ---- a key less

pub keys-front : (i : ℕ) (ks ls : List Key) → AreKeysFrom i (ks ++ ls) → AreKeysFrom i ks
keys-front i [] ls all = tt
keys-front i (k ∷ ks) ls all = (all.0, keys-front (suc i) ks ls all.1)

tail_of : {A : Type 0} → List A → List A
tail_of [] = []
tail_of (x ∷ xs) = xs

pub same-front : {A : Type 0} (xs ys : List A) (x y : A) → xs ++ x ∷ [] ≡ ys ++ y ∷ [] → xs ≡ ys
same-front [] [] x y e = refl
same-front [] (z ∷ ys) x y e = absurd (let n : 1 ≡ suc (length (ys ++ y ∷ [])) = ap length e in let m = length-push ys y in omega arith)
same-front (z ∷ xs) [] x y e = absurd (let n : suc (length (xs ++ x ∷ [])) ≡ 1 = ap length e in let m = length-push xs x in omega arith)
same-front (z ∷ xs) (v ∷ ys) x y e =
    let h : z ≡ v = cc in
    let t : xs ++ x ∷ [] ≡ ys ++ y ∷ [] = cc in
    let r = same-front xs ys x y t in cc

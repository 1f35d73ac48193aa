-- The words of binders, one after the other.
use Rattle.std.proofs.Common.{ℕ, zero, suc, ◌≡◌, ◌<◌, ◌≤◌, ◌+◌, ◌*◌, ◌/◌, ◌%◌, ◌^◌, ◌==◌, pow-suc, cond, Bool, true, false, eqb, List, [], ◌∷◌, ◌++◌, length, get_or, slice_get, slice_index_or, take, drop, Some, refl, ap, sym, ◌∙◌, subst, arith, if◌then◌else◌, bit_or, max, append_assoc, eq-eqb}
use Rattle.std.specs.Prelude.{◌||◌, MatchBool, count_by}
use Rattle.std.specs.List.{filter}
use Rattle.std.proofs.lemmas.List.Sums.{length-filter}
use Rattle.std.specs.Int.{bit_at}
use Rattle.std.proofs.lemmas.Bool.{eqb-true}
use Rattle.std.proofs.lemmas.Nat.Bits.{bit_at-suc, bit_at_lowest, bit_at_or, bit_at-zero, same_from_bits}
use Rattle.std.proofs.lemmas.List.{length-append, take_more, drop_more, take-append-drop}
use Rattle.std.proofs.lemmas.Option.{get_or_from_slice_get, slice_get_read, slice_get_within}
use Rattle.mz_logic_theory.specs.Words.{BitsRight, BitsRightAfter, binders_of}
use Rattle.mz_logic_theory.specs.Variables.{is_member}
use Rattle.mz_logic_theory.specs.WordsWritten.{bits_of, bound_from, word_of, words_from, words_of, CanBeWords}
use Rattle.mz_logic_theory.specs.declared.binder.SortMods.{SortMods}
use Rattle.mz_logic_theory.specs.declared.binder.Binder.{Binder}
use Rattle.mz_logic_theory.specs.declared.word.Word.{Word}
use Rattle.mz_logic_theory.proofs.Offered.{bits-few, params-back}
use Rattle.mz_emit_bodies.specs.Bits.{place_bits}

-- ---- one dependency more

-- the k-th bit: whether the k-th place is among the dependencies
abbrev unit : Bool → ℕ
unit b = if b then 1 else 0

abbrev bit_in : List ℕ → List ℕ → ℕ → ℕ
bit_in [] deps k = 0
bit_in (p ∷ ps) deps zero = unit (is_member p deps)
bit_in (p ∷ ps) deps (suc k) = bit_in ps deps k

bit_is : (ps deps : List ℕ) (k : ℕ) → bit_at (bits_of ps deps) k ≡ bit_in ps deps k
bit_is [] deps k = bit_at-zero k
bit_is (p ∷ ps) deps zero = bit_at_lowest (unit (is_member p deps) + 2 * bits_of ps deps) ∙ low (is_member p deps)
  where
    low : (b : Bool) → (unit b + 2 * bits_of ps deps) % 2 ≡ unit b
    low true = omega arith
    low false = omega arith
bit_is (p ∷ ps) deps (suc k) = bit_at-suc (unit (is_member p deps) + 2 * bits_of ps deps) k ∙ ap (λ (n : ℕ). bit_at n k) (high (is_member p deps)) ∙ bit_is ps deps k
  where
    high : (b : Bool) → (unit b + 2 * bits_of ps deps) / 2 ≡ bits_of ps deps
    high true = omega arith
    high false = omega arith

among_push : (p : ℕ) (ds : List ℕ) (d : ℕ) → is_member p (ds ++ d ∷ []) ≡ (is_member p ds || is_member p (d ∷ []))
among_push p [] d = refl
among_push p (e ∷ ds) d = ap (λ (b : Bool). eqb p e || b) (among_push p ds d) ∙ assoc (eqb p e) (is_member p ds) (is_member p (d ∷ []))
  where
    assoc : (a b c : Bool) → (a || (b || c)) ≡ ((a || b) || c)
    assoc true b c = refl
    assoc false b c = refl

bit_push : (ps ds : List ℕ) (d k : ℕ) → bit_in ps (ds ++ d ∷ []) k ≡ max (bit_in ps ds k) (bit_in ps (d ∷ []) k)
bit_push [] ds d k = refl
bit_push (p ∷ ps) ds d zero = ap unit (among_push p ds d) ∙ either (is_member p ds) (is_member p (d ∷ []))
  where
    either : (a b : Bool) → unit (a || b) ≡ max (unit a) (unit b)
    either true true = refl
    either false true = refl
    either _ _ = refl
bit_push (p ∷ ps) ds d (suc k) = bit_push ps ds d k

pub bits_push : (ps ds : List ℕ) (d : ℕ) → bits_of ps (ds ++ d ∷ []) ≡ bit_or (bits_of ps ds) (bits_of ps (d ∷ []))
bits_push ps ds d = same_from_bits (bits_of ps (ds ++ d ∷ [])) (bit_or (bits_of ps ds) (bits_of ps (d ∷ []))) each
  where
    each : (k : ℕ) → bit_at (bits_of ps (ds ++ d ∷ [])) k ≡ bit_at (bit_or (bits_of ps ds) (bits_of ps (d ∷ []))) k
    each k = bit_is ps (ds ++ d ∷ []) k ∙ bit_push ps ds d k ∙ sym (bit_at_or (bits_of ps ds) (bits_of ps (d ∷ [])) k ∙ ap (λ (n : ℕ). max n (bit_at (bits_of ps (d ∷ [])) k)) (bit_is ps ds k) ∙ ap (max (bit_in ps ds k)) (bit_is ps (d ∷ []) k))

pub bits_none : (ps : List ℕ) → bits_of ps [] ≡ 0
bits_none [] = refl
bits_none (p ∷ ps) = ap (λ (n : ℕ). 0 + 2 * n) (bits_none ps)

-- ---- the bit of a place

-- a place before all of these has no bit
none_before : (i : ℕ) (bs : List Binder) (d : ℕ) → d < i → bits_of (bound_from i bs) (d ∷ []) ≡ 0
none_before i [] d lt = refl
none_before i (b ∷ bs) d lt = go b.bound (none_before (suc i) bs d (omega (arith, lt)))
  where
    other : eqb i d ≡ false
    other = decide (eqb i d) refl
      where
        decide : (v : Bool) → eqb i d ≡ v → eqb i d ≡ false
        decide true is = absurd (let e = eqb-true i d is in omega (arith, e, lt))
        decide false is = is

    go : (v : Bool) → bits_of (bound_from (suc i) bs) (d ∷ []) ≡ 0 → bits_of (if v then i ∷ bound_from (suc i) bs else bound_from (suc i) bs) (d ∷ []) ≡ 0
    go true rest = rw (other, rest) refl
    go false rest = rest

bit_of_place : (k i : ℕ) (bs : List Binder) (j : ℕ) → get_or (place_bits k bs) j 0 ≡ 2 ^ k * bits_of (bound_from i bs) ((i + j) ∷ [])
bit_of_place k i [] j = omega arith
bit_of_place k i (b ∷ bs) zero = go b.bound
  where
    rest : bits_of (bound_from (suc i) bs) ((i + 0) ∷ []) ≡ 0
    rest = none_before (suc i) bs (i + 0) (omega arith)

    here : eqb i (i + 0) ≡ true
    here = eq-eqb i (i + 0) (omega arith)

    go : (v : Bool) → get_or (if v then 2 ^ k ∷ place_bits (suc k) bs else 0 ∷ place_bits k bs) 0 0
        ≡ 2 ^ k * bits_of (if v then i ∷ bound_from (suc i) bs else bound_from (suc i) bs) ((i + 0) ∷ [])
    go true = rw (here, rest) omega arith
    go false = rw rest omega arith
bit_of_place k i (b ∷ bs) (suc j) = go b.bound (bit_of_place (suc k) (suc i) bs j) (bit_of_place k (suc i) bs j)
  where
    later : eqb i (i + suc j) ≡ false
    later = decide (eqb i (i + suc j)) refl
      where
        decide : (v : Bool) → eqb i (i + suc j) ≡ v → eqb i (i + suc j) ≡ false
        decide true is = absurd (let e = eqb-true i (i + suc j) is in omega (arith, e))
        decide false is = is

    same : bits_of (bound_from (suc i) bs) ((suc i + j) ∷ []) ≡ bits_of (bound_from (suc i) bs) ((i + suc j) ∷ [])
    same = ap (λ (n : ℕ). bits_of (bound_from (suc i) bs) (n ∷ [])) (omega arith)

    go : (v : Bool) → get_or (place_bits (suc k) bs) j 0 ≡ 2 ^ suc k * bits_of (bound_from (suc i) bs) ((suc i + j) ∷ [])
        → get_or (place_bits k bs) j 0 ≡ 2 ^ k * bits_of (bound_from (suc i) bs) ((suc i + j) ∷ [])
        → get_or (if v then 2 ^ k ∷ place_bits (suc k) bs else 0 ∷ place_bits k bs) (suc j) 0
        ≡ 2 ^ k * bits_of (if v then i ∷ bound_from (suc i) bs else bound_from (suc i) bs) ((i + suc j) ∷ [])
    go true bound regular = bound ∙ ap (λ (n : ℕ). 2 ^ suc k * n) same ∙ double ∙ sym (ap (λ (t : Bool). 2 ^ k * (unit (t || false) + 2 * bits_of (bound_from (suc i) bs) ((i + suc j) ∷ []))) later)
      where
        twice : (p n : ℕ) → p * 2 * n ≡ p * (0 + 2 * n)
        twice p n = grind arith

        double : 2 ^ suc k * bits_of (bound_from (suc i) bs) ((i + suc j) ∷ []) ≡ 2 ^ k * (0 + 2 * bits_of (bound_from (suc i) bs) ((i + suc j) ∷ []))
        double = ap (λ (p : ℕ). p * bits_of (bound_from (suc i) bs) ((i + suc j) ∷ [])) (pow-suc 2 k) ∙ twice (2 ^ k) (bits_of (bound_from (suc i) bs) ((i + suc j) ∷ []))
    go false bound regular = regular ∙ ap (λ (n : ℕ). 2 ^ k * n) same

pub bit_at_place : (bs : List Binder) (j : ℕ) → get_or (place_bits 0 bs) j 0 ≡ bits_of (bound_from 0 bs) (j ∷ [])
bit_at_place bs j =
    let same : 0 + j ≡ j = omega arith in
    let one : (n : ℕ) → 2 ^ 0 * n ≡ n = λ n. omega arith in
    bit_of_place 0 0 bs j ∙ ap (λ (n : ℕ). 2 ^ 0 * bits_of (bound_from 0 bs) (n ∷ [])) same ∙ one (bits_of (bound_from 0 bs) (j ∷ []))

-- ---- one binder more

pub bound_push : (i : ℕ) (bs : List Binder) (b : Binder) → bound_from i (bs ++ b ∷ []) ≡ bound_from i bs ++ (if b.bound then (i + length bs) ∷ [] else [])
bound_push i [] b = go b.bound
  where
    go : (v : Bool) → (if v then i ∷ [] else []) ≡ (if v then (i + 0) ∷ [] else [])
    go true = ap (λ (n : ℕ). n ∷ []) (omega arith)
    go false = refl
bound_push i (c ∷ bs) b = go c.bound (bound_push (suc i) bs b ∙ ap (λ (n : ℕ). bound_from (suc i) bs ++ (if b.bound then n ∷ [] else [])) (omega arith))
  where
    go : (v : Bool) → bound_from (suc i) (bs ++ b ∷ []) ≡ bound_from (suc i) bs ++ (if b.bound then (i + suc (length bs)) ∷ [] else [])
        → (if v then i ∷ bound_from (suc i) (bs ++ b ∷ []) else bound_from (suc i) (bs ++ b ∷ [])) ≡ (if v then i ∷ bound_from (suc i) bs else bound_from (suc i) bs) ++ (if b.bound then (i + suc (length bs)) ∷ [] else [])
    go true is = ap (λ (xs : List ℕ). i ∷ xs) is
    go false is = is

words_push_from : (i : ℕ) (places : List ℕ) (bs : List Binder) (b : Binder) → words_from i places (bs ++ b ∷ []) ≡ words_from i places bs ++ word_of (places ++ bound_from i bs) b ∷ []
words_push_from i places [] b = ap (λ (ps : List ℕ). word_of ps b ∷ []) (append_nil places)
  where
    append_nil : (xs : List ℕ) → xs ≡ xs ++ []
    append_nil [] = refl
    append_nil (x ∷ xs) = ap (λ ys. x ∷ ys) (append_nil xs)
words_push_from i places (c ∷ bs) b = ap (λ (ws : List Word). word_of places c ∷ ws) (go c.bound (λ ps. words_push_from (suc i) ps bs b))
  where
    go : (v : Bool) → ((ps : List ℕ) → words_from (suc i) ps (bs ++ b ∷ []) ≡ words_from (suc i) ps bs ++ word_of (ps ++ bound_from (suc i) bs) b ∷ [])
        → words_from (suc i) (if v then places ++ i ∷ [] else places) (bs ++ b ∷ [])
        ≡ words_from (suc i) (if v then places ++ i ∷ [] else places) bs ++ word_of (places ++ (if v then i ∷ bound_from (suc i) bs else bound_from (suc i) bs)) b ∷ []
    go true rest = rest (places ++ i ∷ []) ∙ ap (λ (ps : List ℕ). words_from (suc i) (places ++ i ∷ []) bs ++ word_of ps b ∷ []) (append_assoc places (i ∷ []) (bound_from (suc i) bs))
    go false rest = rest places

pub words_push : (bs : List Binder) (b : Binder) → words_of (bs ++ b ∷ []) ≡ words_of bs ++ word_of (bound_from 0 bs) b ∷ []
words_push bs b = words_push_from 0 [] bs b

bits_push_from : (k i : ℕ) (bs : List Binder) (b : Binder) → place_bits k (bs ++ b ∷ []) ≡ place_bits k bs ++ (if b.bound then 2 ^ (k + length (bound_from i bs)) else 0) ∷ []
bits_push_from k i [] b = go b.bound
  where
    go : (v : Bool) → (if v then 2 ^ k ∷ [] else 0 ∷ []) ≡ (if v then 2 ^ (k + 0) else 0) ∷ []
    go true = ap (λ (n : ℕ). 2 ^ n ∷ []) (omega arith)
    go false = refl
bits_push_from k i (c ∷ bs) b = go c.bound (bits_push_from (suc k) (suc i) bs b) (bits_push_from k (suc i) bs b)
  where
    go : (v : Bool) → place_bits (suc k) (bs ++ b ∷ []) ≡ place_bits (suc k) bs ++ (if b.bound then 2 ^ (suc k + length (bound_from (suc i) bs)) else 0) ∷ []
        → place_bits k (bs ++ b ∷ []) ≡ place_bits k bs ++ (if b.bound then 2 ^ (k + length (bound_from (suc i) bs)) else 0) ∷ []
        → (if v then 2 ^ k ∷ place_bits (suc k) (bs ++ b ∷ []) else 0 ∷ place_bits k (bs ++ b ∷ []))
        ≡ (if v then 2 ^ k ∷ place_bits (suc k) bs else 0 ∷ place_bits k bs) ++ (if b.bound then 2 ^ (k + length (if v then i ∷ bound_from (suc i) bs else bound_from (suc i) bs)) else 0) ∷ []
    go true bound regular = ap (λ (xs : List ℕ). 2 ^ k ∷ xs) (bound ∙ ap (λ (n : ℕ). place_bits (suc k) bs ++ (if b.bound then 2 ^ n else 0) ∷ []) (omega arith))
    go false bound regular = ap (λ (xs : List ℕ). 0 ∷ xs) regular

pub place_bits_push : (bs : List Binder) (b : Binder) → place_bits 0 (bs ++ b ∷ []) ≡ place_bits 0 bs ++ (if b.bound then 2 ^ length (bound_from 0 bs) else 0) ∷ []
place_bits_push bs b = bits_push_from 0 0 bs b ∙ ap (λ (n : ℕ). place_bits 0 bs ++ (if b.bound then 2 ^ n else 0) ∷ []) (omega arith)

pub place_bits_long : (k : ℕ) (bs : List Binder) → length (place_bits k bs) ≡ length bs
place_bits_long k [] = refl
place_bits_long k (b ∷ bs) = go b.bound (place_bits_long (suc k) bs) (place_bits_long k bs)
  where
    go : (v : Bool) → length (place_bits (suc k) bs) ≡ length bs → length (place_bits k bs) ≡ length bs → length (if v then 2 ^ k ∷ place_bits (suc k) bs else 0 ∷ place_bits k bs) ≡ suc (length bs)
    go true bound regular = ap suc bound
    go false bound regular = ap suc regular

-- ---- how many are bound

bound_filter : (i : ℕ) (bs : List Binder) → length (filter (λ (b : Binder). b.bound) bs) ≡ length (bound_from i bs)
bound_filter i [] = refl
bound_filter i (b ∷ bs) = go b.bound (bound_filter (suc i) bs)
  where
    go : (v : Bool) → length (filter (λ (c : Binder). c.bound) bs) ≡ length (bound_from (suc i) bs)
        → length (cond v (b ∷ filter (λ (c : Binder). c.bound) bs) (filter (λ (c : Binder). c.bound) bs)) ≡ length (if v then i ∷ bound_from (suc i) bs else bound_from (suc i) bs)
    go true is = ap suc is
    go false is = is

pub bound_count : (bs : List Binder) → count_by (λ b. b.bound) bs ≡ length (bound_from 0 bs)
bound_count bs = sym (length-filter (λ (b : Binder). b.bound) bs) ∙ bound_filter 0 bs

pub fewer_before : (i : ℕ) (bs : List Binder) (b : Binder) (rest : List Binder) → length (bound_from i bs) + (if b.bound then 1 else 0) ≤ length (bound_from i (bs ++ b ∷ rest))
fewer_before i [] b rest = go b.bound
  where
    go : (v : Bool) → 0 + (if v then 1 else 0) ≤ length (if v then i ∷ bound_from (suc i) rest else bound_from (suc i) rest)
    go true = omega arith
    go false = omega arith
fewer_before i (c ∷ bs) b rest = go c.bound (fewer_before (suc i) bs b rest)
  where
    go : (v : Bool) → length (bound_from (suc i) bs) + (if b.bound then 1 else 0) ≤ length (bound_from (suc i) (bs ++ b ∷ rest))
        → length (if v then i ∷ bound_from (suc i) bs else bound_from (suc i) bs) + (if b.bound then 1 else 0) ≤ length (if v then i ∷ bound_from (suc i) (bs ++ b ∷ rest) else bound_from (suc i) (bs ++ b ∷ rest))
    go true less = omega (arith, less)
    go false less = less

-- ---- the bits are right

few_bits : (k : ℕ) → k ≤ 55 → 2 ^ k ≤ 2 ^ 55
few_bits k few = grow (55) k few
  where
    grow : (m n : ℕ) → n ≤ m → 2 ^ n ≤ 2 ^ m
    grow zero zero le = omega arith
    grow zero (suc n) le = absurd (omega (arith, le))
    grow (suc m) zero le = (let h = grow m zero (omega arith) in omega (arith, h, pow-suc 2 m))
    grow (suc m) (suc n) le = (let h = grow m n (omega (arith, le)) in omega (arith, h, pow-suc 2 m, pow-suc 2 n))

pub bits_below : (places deps : List ℕ) → length places ≤ 55 → bits_of places deps < 2 ^ 56
bits_below places deps few = (let a = bits-few places deps in let b = few_bits (length places) few in omega (arith, a, b))

pub bit_below : (k : ℕ) → k ≤ 54 → 2 ^ k < 2 ^ 56
bit_below k few = (let b = few_bits k (omega (arith, few)) in omega (arith, b))

-- ---- a binder more, as the code goes through them

module _ (seen : List Binder) (b : Binder) (ws : List Word) (bits : List ℕ) (n : ℕ) (w : Word)
    (words : ws ≡ words_of seen) (places : bits ≡ place_bits 0 seen) (count : n ≡ length (bound_from 0 seen)) where
  abbrev pub After : List Word → List ℕ → ℕ → Type 0
  After ws' bits' n' = (ws' ≡ words_of (seen ++ b ∷ [])) × (bits' ≡ place_bits 0 (seen ++ b ∷ [])) × (n' ≡ length (bound_from 0 (seen ++ b ∷ [])))

  pub after_bound : (bit : ℕ) → b.bound ≡ true → bit ≡ 2 ^ n → w.0 ≡ 2 ^ 63 + b.sort * 2 ^ 56 + bit → After (ws ++ w ∷ []) (bits ++ bit ∷ []) (n + 1)
  after_bound bit bd is value = (
    ap (λ (us : List Word). us ++ w ∷ []) words ∙ ap (λ (v : Word). words_of seen ++ v ∷ []) the_word ∙ sym (words_push seen b),
    ap (λ (us : List ℕ). us ++ bit ∷ []) places ∙ ap (λ (m : ℕ). place_bits 0 seen ++ m ∷ []) the_bit ∙ sym (place_bits_push seen b),
    more,
  )
    where
      power : bit ≡ 2 ^ length (bound_from 0 seen)
      power = is ∙ ap (λ (m : ℕ). 2 ^ m) count

      the_bit : bit ≡ (if b.bound then 2 ^ length (bound_from 0 seen) else 0)
      the_bit = power ∙ ap (λ (v : Bool). if v then 2 ^ length (bound_from 0 seen) else 0) (sym bd)

      the_word : w ≡ word_of (bound_from 0 seen) b
      the_word = ap (λ (m : ℕ). record { 0 = m }) (value ∙ ap (λ (m : ℕ). 2 ^ 63 + b.sort * 2 ^ 56 + m) power)
          ∙ ap (λ (v : Bool). record { 0 = (if v then 2 ^ 63 else 0) + b.sort * 2 ^ 56 + (if v then 2 ^ length (bound_from 0 seen) else bits_of (bound_from 0 seen) b.deps) }) (sym bd)

      more : n + 1 ≡ length (bound_from 0 (seen ++ b ∷ []))
      more = let pushed = ap length (bound_push 0 seen b) ∙ ap (λ (v : Bool). length (bound_from 0 seen ++ (if v then (0 + length seen) ∷ [] else []))) bd ∙ length-append (bound_from 0 seen) ((0 + length seen) ∷ []) in
          omega (arith, pushed, count)

  pub after_regular : (deps : ℕ) → b.bound ≡ false → deps ≡ bits_of (bound_from 0 seen) b.deps → w.0 ≡ 0 + b.sort * 2 ^ 56 + deps → After (ws ++ w ∷ []) (bits ++ 0 ∷ []) n
  after_regular deps reg is value = (
    ap (λ (us : List Word). us ++ w ∷ []) words ∙ ap (λ (v : Word). words_of seen ++ v ∷ []) the_word ∙ sym (words_push seen b),
    ap (λ (us : List ℕ). us ++ 0 ∷ []) places ∙ ap (λ (v : Bool). place_bits 0 seen ++ (if v then 2 ^ length (bound_from 0 seen) else 0) ∷ []) (sym reg) ∙ sym (place_bits_push seen b),
    same,
  )
    where
      the_word : w ≡ word_of (bound_from 0 seen) b
      the_word = ap (λ (m : ℕ). record { 0 = m }) (value ∙ ap (λ (m : ℕ). 0 + b.sort * 2 ^ 56 + m) is)
          ∙ ap (λ (v : Bool). record { 0 = (if v then 2 ^ 63 else 0) + b.sort * 2 ^ 56 + (if v then 2 ^ length (bound_from 0 seen) else bits_of (bound_from 0 seen) b.deps) }) (sym reg)

      same : n ≡ length (bound_from 0 (seen ++ b ∷ []))
      same = let pushed = ap length (bound_push 0 seen b) ∙ ap (λ (v : Bool). length (bound_from 0 seen ++ (if v then (0 + length seen) ∷ [] else []))) reg ∙ length-append (bound_from 0 seen) [] in
          omega (arith, pushed, count)

module _ (ss : List SortMods) (xs : List Binder) (can : CanBeWords ss xs) (i : ℕ) (b : Binder) (below : i < length xs) (is : b ≡ get_or xs i b) where
  pub split_here : xs ≡ take i xs ++ b ∷ drop (i + 1) xs
  split_here = sym (take-append-drop i xs) ∙ ap (λ (ys : List Binder). take i xs ++ ys) (drop_more xs i b below ∙ ap (λ (c : Binder). c ∷ drop (i + 1) xs) (sym is))

  pub one_more : take (i + 1) xs ≡ take i xs ++ b ∷ []
  one_more = take_more xs i b below ∙ ap (λ (c : Binder). take i xs ++ c ∷ []) (sym is)

  few_with : length (bound_from 0 (take i xs)) + (if b.bound then 1 else 0) ≤ 55
  few_with = let less = fewer_before 0 (take i xs) b (drop (i + 1) xs) in let all = can.few_bound in let count = bound_count xs in let cut = ap (λ (ys : List Binder). length (bound_from 0 ys)) split_here in
      omega (arith, less, all, count, cut)

  pub few_here : length (bound_from 0 (take i xs)) ≤ 55
  few_here = (let few = few_with in omega (arith, few))

  pub fewer_here : b.bound ≡ true → length (bound_from 0 (take i xs)) ≤ 54
  fewer_here bd = (let few = few_with in let one : (if b.bound then 1 else 0) ≡ 1 = ap (λ (v : Bool). unit v) bd in omega (arith, few, one))

  pub deps_before : b.bound ≡ false → (k d : ℕ) → k < length b.deps → slice_index_or b.deps k d < i
  deps_before reg k d lt = (((can.right i b (slice_get_read xs (length xs) i b refl below is)).1 reg) k d lt).0

  pub sort_here : b.sort < 128
  sort_here = (let lt = subst (λ (c : Binder). c.sort < length ss) (sym is) (can.sorts_there i b below) in let few = can.few_sorts in omega (arith, lt, few))

-- ---- the words of right parameters have right bits

pub bits_right_from : (i : ℕ) (places : List ℕ) (bs : List Binder) → ((k : ℕ) (b : Binder) → slice_get bs k ≡ Some b → b.sort < 128) → length places + length (bound_from i bs) ≤ 55
    → BitsRightAfter (length places) (words_from i places bs)
bits_right_from i places [] sorts few = tt
bits_right_from i places (b ∷ bs) sorts few = go b.bound few (λ ps less. bits_right_from (suc i) ps bs (λ k c at. sorts (suc k) c at) less)
  where
    small : b.sort < 128
    small = sorts 0 b refl

    value : Bool → ℕ
    value v = (if v then 2 ^ 63 else 0) + b.sort * 2 ^ 56 + (if v then 2 ^ length places else bits_of places b.deps)

    go : (v : Bool) → length places + length (if v then i ∷ bound_from (suc i) bs else bound_from (suc i) bs) ≤ 55
        → ((ps : List ℕ) → length ps + length (bound_from (suc i) bs) ≤ 55 → BitsRightAfter (length ps) (words_from (suc i) ps bs))
        → BitsRightAfter (length places) (record { 0 = (if v then 2 ^ 63 else 0) + b.sort * 2 ^ 56 + (if v then 2 ^ length places else bits_of places b.deps) } ∷ words_from (suc i) (if v then places ++ i ∷ [] else places) bs)
    go true less rest =
        let s : ℕ = b.sort in
        let d : ℕ = 2 ^ length places in
        let s-few : s < 128 = small in
        let few-places : length places ≤ 54 = omega (arith, less) in
        let d-few : d < 2 ^ 56 = bit_below (length places) few-places in
        let long : length (places ++ i ∷ []) ≡ suc (length places) = length-append places (i ∷ []) ∙ omega arith in
        let bd : (2 ^ 63 + s * 2 ^ 56 + d) / 2 ^ 63 ≡ 1 = omega (arith, s-few, d-few) in
        let dp : (2 ^ 63 + s * 2 ^ 56 + d) % 2 ^ 56 ≡ d = omega (arith, s-few, d-few) in
        subst (λ (t : Bool). MatchBool t ((length places ≤ 54) × ((2 ^ 63 + s * 2 ^ 56 + d) % 2 ^ 56 ≡ 2 ^ length places) × BitsRightAfter (suc (length places)) (words_from (suc i) (places ++ i ∷ []) bs))
        (((2 ^ 63 + s * 2 ^ 56 + d) % 2 ^ 56 < 2 ^ length places) × BitsRightAfter (length places) (words_from (suc i) (places ++ i ∷ []) bs))) (sym (eq-eqb ((2 ^ 63 + s * 2 ^ 56 + d) / 2 ^ 63) 1 bd))
        (few-places, dp, subst (λ (n : ℕ). BitsRightAfter n (words_from (suc i) (places ++ i ∷ []) bs)) long (rest (places ++ i ∷ []) (omega (arith, less, long))))
    go false less rest =
        let s : ℕ = b.sort in
        let d : ℕ = bits_of places b.deps in
        let s-few : s < 128 = small in
        let d-less : d < 2 ^ length places = bits-few places b.deps in
        let d-few : d < 2 ^ 56 = bits_below places b.deps (omega (arith, less)) in
        let bd : (0 + s * 2 ^ 56 + d) / 2 ^ 63 ≡ 0 = omega (arith, s-few, d-few) in
        let dp : (0 + s * 2 ^ 56 + d) % 2 ^ 56 ≡ d = omega (arith, s-few, d-few) in
        subst (λ (t : Bool). MatchBool t ((length places ≤ 54) × ((0 + s * 2 ^ 56 + d) % 2 ^ 56 ≡ 2 ^ length places) × BitsRightAfter (suc (length places)) (words_from (suc i) places bs))
        (((0 + s * 2 ^ 56 + d) % 2 ^ 56 < 2 ^ length places) × BitsRightAfter (length places) (words_from (suc i) places bs))) (sym (ap (λ (n : ℕ). n == 1) bd))
        (subst (λ (n : ℕ). n < 2 ^ length places) (sym dp) d-less, rest places less)

pub bits_right : (ss : List SortMods) (bs : List Binder) → CanBeWords ss bs → BitsRight (words_of bs)
bits_right ss bs can = bits_right_from 0 [] bs (λ k b at. small k b at) (let few = can.few_bound in let count = bound_count bs in omega (arith, few, count))
  where
    small : (k : ℕ) (b : Binder) → slice_get bs k ≡ Some b → b.sort < 128
    small k b at = let lt = can.sorts_there k b (slice_get_within bs k b at) in let same = get_or_from_slice_get bs k b b at in let few = can.few_sorts in
        omega (arith, lt, few, ap (λ (c : Binder). c.sort) same)

pub binders_back : (ss : List SortMods) (bs : List Binder) → CanBeWords ss bs → binders_of (words_of bs) ≡ bs
binders_back ss bs can = params-back ss bs can

pub few_bound : (ss : List SortMods) (bs : List Binder) → CanBeWords ss bs → length (bound_from 0 bs) ≤ 55
few_bound ss bs can = (let few = can.few_bound in let count = bound_count bs in omega (arith, few, count))

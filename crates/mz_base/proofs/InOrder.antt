-- Checks one after another, and those of the rows of a table.
use Rattle.std.proofs.Common.{◌≡◌, ◌<◌, ◌≤◌, ◌+◌, ◌-◌, ◌⊎◌, ℕ, zero, suc, List, [], ◌∷◌, Result, Ok, Err, inl, inr, sym, ap, subst, arith, refl}
use Rattle.std.specs.Prelude.{Bool, true, false, bytes_eq}
use Rattle.std.specs.Bool.{Decides as IsDecidedBy}
use Rattle.std.specs.List.{range_with_len}
use Rattle.std.proofs.lemmas.Bool.{cases_lt}
use Rattle.std.proofs.lemmas.Slice.Eq.{bytes_eq-Decides}
use Rattle.mz_base.specs.Checks.{Checks, nothing, ask, ◌>>◌, each_in_order, AllHold, FailsFirst, Judges, AreDecided}

pub fails-before : {R : Type 0} → (bs cs : Checks R) → (r : R) → FailsFirst bs r → FailsFirst (bs >> cs) r
fails-before nothing cs r f = absurd f
fails-before (ask q P bs) cs r (inl f) = inl f
fails-before (ask q P bs) cs r (inr f) = inr (f.0, fails-before bs cs r f.1)

pub fails-after : {R : Type 0} → (bs cs : Checks R) → (r : R) → AllHold bs → FailsFirst cs r → FailsFirst (bs >> cs) r
fails-after nothing cs r a f = f
fails-after (ask q P bs) cs r a f = inr (a.0, fails-after bs cs r a.1 f)

pub all_hold-both : {R : Type 0} → (bs cs : Checks R) → AllHold bs → AllHold cs → AllHold (bs >> cs)
all_hold-both nothing cs a b = b
all_hold-both (ask q P bs) cs a b = (a.0, all_hold-both bs cs a.1 b)

pub all_hold-first : {R : Type 0} → (bs cs : Checks R) → AllHold (bs >> cs) → AllHold bs
all_hold-first nothing cs a = tt
all_hold-first (ask q P bs) cs a = (a.0, all_hold-first bs cs a.1)

pub all_hold-rest : {R : Type 0} → (bs cs : Checks R) → AllHold (bs >> cs) → AllHold cs
all_hold-rest nothing cs a = a
all_hold-rest (ask q P bs) cs a = all_hold-rest bs cs a.1

pub are_decided-both : {R : Type 0} → (bs cs : Checks R) → AreDecided bs → (AllHold bs → AreDecided cs) → AreDecided (bs >> cs)
are_decided-both nothing cs d e = e tt
are_decided-both (ask q P bs) cs d e = (d.0, λ p. are_decided-both bs cs (d.1 p) (λ a. e (p, a)))

-- what is left of the checks decides the whole
pub record Decides {R : Type 0} (left whole : Checks R) : Type 0 where
  pub fails : (r : R) → FailsFirst left r → FailsFirst whole r
  pub holds : AllHold left → AllHold whole

pub decides-whole : {R : Type 0} → (whole : Checks R) → Decides whole whole
decides-whole whole = record { fails = λ r f. f; holds = λ a. a }

pub decides-after : {R : Type 0} → (passed left whole : Checks R) → AllHold passed → Decides (passed >> left) whole → Decides left whole
decides-after passed left whole a d = record {
  fails = λ r f. d.fails r (fails-after passed left r a f);
  holds = λ b. d.holds (all_hold-both passed left a b);
}

-- ---- the rows of a table, in order

abbrev pub rows_from : {R : Type 0} → (ℕ → Checks R) → ℕ → ℕ → Checks R
rows_from row i count = each_in_order row (range_with_len i (count - i))

module _ {R : Type 0} (row : ℕ → Checks R) (i count : ℕ) where
  next-row : i < count → rows_from row i count ≡ (row i >> rows_from row (i + 1) count)
  next-row below =
      let more : count - i ≡ suc (count - (i + 1)) = omega arith in
      ap (λ n. each_in_order row (range_with_len i n)) more

  pub row-passed : (whole : Checks R) → i < count → AllHold (row i) → Decides (rows_from row i count) whole → Decides (rows_from row (i + 1) count) whole
  row-passed whole below a d =
      decides-after (row i) (rows_from row (i + 1) count) whole a (subst (λ cs. Decides cs whole) (next-row below) d)

  pub row-fails : (whole : Checks R) (r : R) → i < count → FailsFirst (row i) r → Decides (rows_from row i count) whole → FailsFirst whole r
  row-fails whole r below f d =
      d.fails r (subst (λ cs. FailsFirst cs r) (sym (next-row below)) (fails-before (row i) (rows_from row (i + 1) count) r f))

-- each row's checks hold
pub all_hold-row : {R : Type 0} → (row : ℕ → Checks R) (from count i : ℕ) → AllHold (each_in_order row (range_with_len from count)) → i < count → AllHold (row (from + i))
all_hold-row row from zero i a below = absurd (omega arith)
all_hold-row row from (suc n) zero a below =
    subst (λ k. AllHold (row k)) (let e : from ≡ from + 0 = omega arith in e) (all_hold-first (row from) (each_in_order row (range_with_len (from + 1) n)) a)
all_hold-row row from (suc n) (suc i) a below =
    subst (λ k. AllHold (row k)) (let e : (from + 1) + i ≡ from + suc i = omega arith in e)
    (all_hold-row row (from + 1) n i (all_hold-rest (row from) (each_in_order row (range_with_len (from + 1) n)) a) (omega arith))

pub all_hold-rows : {R : Type 0} → (row : ℕ → Checks R) (count i : ℕ) → AllHold (each_in_order row (range_with_len 0 count)) → i < count → AllHold (row i)
all_hold-rows row count i a below = subst (λ k. AllHold (row k)) (let e : 0 + i ≡ i = omega arith in e) (all_hold-row row 0 count i a below)

pub are_decided-rows : {A R : Type 0} → (row : A → Checks R) → ((x : A) → AreDecided (row x)) → (xs : List A) → AreDecided (each_in_order row xs)
are_decided-rows row d [] = tt
are_decided-rows row d (x ∷ xs) = are_decided-both (row x) (each_in_order row xs) (d x) (λ a. are_decided-rows row d xs)

-- ---- answers

pub judges-after : {A R : Type 0} → (bs cs : Checks R) → (r : Result A R) → AllHold bs → Judges r cs → Judges r (bs >> cs)
judges-after bs cs (Ok x) a j = all_hold-both bs cs a j
judges-after bs cs (Err r) a j = fails-after bs cs r a j

-- ---- facts that hold or fail

pub at_most-decided : (m n : ℕ) → (m ≤ n) ⊎ (m ≤ n → ⊥)
at_most-decided m n = elim (cases_lt n m) [ inl lt ↦ inr (λ le. omega arith) | inr le ↦ inl le ]

pub implied-decided : {P Q : Type 0} → P ⊎ (P → ⊥) → Q ⊎ (Q → ⊥) → (P → Q) ⊎ ((P → Q) → ⊥)
implied-decided (inl p) (inl q) = inl (λ _. q)
implied-decided (inl p) (inr out) = inr (λ f. out (f p))
implied-decided (inr out) q = inl (λ p. absurd (out p))

pub both-decided : {P Q : Type 0} → P ⊎ (P → ⊥) → Q ⊎ (Q → ⊥) → (P × Q) ⊎ (P × Q → ⊥)
both-decided (inl p) (inl q) = inl (p, q)
both-decided (inl p) (inr out) = inr (λ h. out h.1)
both-decided (inr out) q = inr (λ h. out h.0)

pub bytes-decided : (xs ys : List ℕ) → (xs ≡ ys) ⊎ (xs ≡ ys → ⊥)
bytes-decided xs ys = go (bytes_eq xs ys) (bytes_eq-Decides xs ys)
  where
    go : (b : Bool) → IsDecidedBy b (xs ≡ ys) → (xs ≡ ys) ⊎ (xs ≡ ys → ⊥)
    go true d = inl (d.0 refl)
    go false d = inr (λ e. absurd (let f : false ≡ true = d.1 e in cc))

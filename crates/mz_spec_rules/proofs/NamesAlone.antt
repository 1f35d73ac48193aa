-- The names of terms, as they stand in the table.
use Rattle.std.proofs.Common.{◌≡◌, ◌∙◌, ◌↔◌, ◌<◌, ◌+◌, ℕ, zero, suc, Bool, true, false, List, [], ◌∷◌, Some, None, Contains, ap, sym, refl, subst, arith, get_or}
use Rattle.std.specs.Prelude.{IsTrue, bytes_eq, if◌then◌else◌, option_map, unwrap_or}
use Rattle.std.proofs.lemmas.Bool.{true≢false}
use Rattle.std.proofs.lemmas.Slice.Eq.{bytes_eq-Decides}
use Rattle.mz_base.specs.Names.{number_of, IsNew, IsKnown}
use Rattle.mz_base.proofs.Offered.{all-others, known-first, known-later, new-both}
use Rattle.mz_math_notation.specs.Names.{IsFoundAs}
use Rattle.mz_math_theory.specs.Notation.{TermName}
use Rattle.mz_spec_rules.specs.Entries.{names_alone}
use Rattle.mz_spec_theory.specs.Kept.{numbered}

-- ---- whether a term has a name

abbrev IsThere : List TermName → List ℕ → Type 0
IsThere ns w = (n : TermName) × Contains ns n × (n.name ≡ w)

there-known : (ns : List TermName) (w : List ℕ) → IsThere ns w → IsKnown (names_alone ns) w
there-known [] w (n, (k, below, is), same) = absurd (omega (arith, below))
there-known (m ∷ ns) w (n, (zero, below, is), same) = known-first m.name (names_alone ns) w (ap (λ x. x.name) is ∙ same)
there-known (m ∷ ns) w (n, (suc k, below, is), same) = known-later m.name (names_alone ns) w (there-known ns w (n, (k, omega (arith, below), is), same))

one-new : (x w : List ℕ) → (x ≡ w → ⊥) → IsNew (x ∷ []) w
one-new x w other = all-others (x ∷ []) (λ i. x) w at (λ i less. other)
  where
    at : (i : ℕ) → i < 1 → get_or (x ∷ []) i [] ≡ x
    at zero less = refl
    at (suc i) less = absurd (omega (arith, less))

pub other-new : (ns : List TermName) (w : List ℕ) → ((n : TermName) → Contains ns n → n.name ≡ w → ⊥) → IsNew (names_alone ns) w
other-new [] w other = refl
other-new (m ∷ ns) w other =
    new-both (m.name ∷ []) (names_alone ns) w (one-new m.name w (other m (zero, omega arith, refl)))
    (other-new ns w (λ n has. let (k, below, is) = has in other n (suc k, omega (arith, below), is)))

new-unknown : (ws : List (List ℕ)) (w : List ℕ) → IsNew ws w → IsKnown ws w → ⊥
new-unknown ws w new (k, known) = let none : None ≡ Some k = sym new ∙ known in absurd cc

pub new-apart : (ns : List TermName) (w : List ℕ) → IsNew (names_alone ns) w → (n : TermName) → Contains ns n → n.name ≡ w → ⊥
new-apart ns w new n has same = new-unknown (names_alone ns) w new (there-known ns w (n, has, same))

module _ (ns : List TermName) (w : List ℕ) (b : Bool) (tells : IsTrue b ↔ ((n : TermName) × Contains ns n × (n.name ≡ w))) where
  pub told-taken : b ≡ true → IsNew (names_alone ns) w → ⊥
  told-taken is new = new-unknown (names_alone ns) w new (there-known ns w (tells.0 is))

  pub told-known : b ≡ true → IsKnown (names_alone ns) w
  told-known is = there-known ns w (tells.0 is)

  pub told-new : b ≡ false → IsNew (names_alone ns) w
  told-new is = other-new ns w (λ n has same. true≢false (sym (tells.1 (n, has, same)) ∙ is))

  pub told-unknown : b ≡ false → IsKnown (names_alone ns) w → ⊥
  told-unknown is known = new-unknown (names_alone ns) w (told-new is) known

-- ---- the number of a term

found-number : (i : ℕ) (ns : List (List ℕ)) (w : List ℕ) (n : TermName) → IsFoundAs (numbered i ns) w n → (k : ℕ) × (number_of ns w ≡ Some k) × (n.term ≡ i + k)
found-number i [] w n ((k, below, is), same, one) = absurd (omega (arith, below))
found-number i (x ∷ ns) w n (has, same, one) = go (bytes_eq w x) refl has (λ found. found-number (i + 1) ns w n found)
  where
    go : (b : Bool) → bytes_eq w x ≡ b → Contains (record { name = x; term = i } ∷ numbered (i + 1) ns) n → (IsFoundAs (numbered (i + 1) ns) w n → (k : ℕ) × (number_of ns w ≡ Some k) × (n.term ≡ (i + 1) + k))
        → (k : ℕ) × ((if b then Some 0 else option_map suc (number_of ns w)) ≡ Some k) × (n.term ≡ i + k)
    go true is there more =
        let here : record { name = x; term = i } ≡ n = one (record { name = x; term = i }) (zero, omega arith, refl) (sym ((bytes_eq-Decides w x).0 is)) in
        let at = ap (λ (m : TermName). m.term) here in
        (0, refl, omega (arith, at))
    go false is (zero, below, here) more = absurd (true≢false (sym ((bytes_eq-Decides w x).1 (sym (ap (λ (m : TermName). m.name) here ∙ same))) ∙ is))
    go false is (suc k, below, here) more =
        let (j, at, term) = more ((k, omega (arith, below), here), same, λ m there is_w. one m (let (l, less, it) = there in (suc l, omega (arith, less), it)) is_w) in
        (suc j, ap (option_map suc) at, omega (arith, term))

-- a term's number is what the table says of its name
pub found-term : (ns : List TermName) (w : List ℕ) (t : ℕ) → ns ≡ numbered 0 (names_alone ns) → ((n : TermName) × IsFoundAs ns w n × (n.term ≡ t)) → t ≡ unwrap_or (number_of (names_alone ns) w) 0
found-term ns w t are (n, found, is) =
    let (k, at, term) = found-number 0 (names_alone ns) w n (subst (λ (xs : List TermName). IsFoundAs xs w n) are found) in
    let same : t ≡ k = omega (arith, term, is) in
    same ∙ ap (λ o. unwrap_or o 0) (sym at)

pub no-term : (ns : List TermName) (w : List ℕ) → ((n : TermName) → Contains ns n → n.name ≡ w → ⊥) → 0 ≡ unwrap_or (number_of (names_alone ns) w) 0
no-term ns w other = ap (λ o. unwrap_or o 0) (sym (other-new ns w other))

-- Whether a variable or a term has a name.
use Rattle.std.proofs.Common.{◌≡◌, ◌≢◌, ◌∙◌, ◌↔◌, ◌⊎◌, ◌++◌, ◌∷◌, ℕ, zero, suc, List, [], Bool, true, false, Some, None, Option, slice_get, ap, sym, refl, subst, inl, inr, arith, Contains}
use Rattle.std.specs.Prelude.{IsTrue, MatchOption, bytes_eq, if◌then◌else◌}
use Rattle.std.specs.Bool.{Decides}
use Rattle.std.specs.Map.{lookup}
use Rattle.std.specs.Option.{is_some}
use Rattle.std.proofs.lemmas.Bool.{false_from_ne_true, true≢false}
use Rattle.std.proofs.lemmas.Slice.Eq.{bytes_eq-Decides}
use Rattle.std.proofs.lemmas.List.Elements.{Contains-push_cases}
use Rattle.mz_base.proofs.Offered.{contains_at}
use Rattle.indexmap.specs.IndexMap.{insert_entry}
use Rattle.mz_math_theory.specs.Notation.{TermName}
use Rattle.mz_math_operators.specs.Names.{AreOnce, IsFoundAs, all_named, name_with}

pub named-decides : (names : List (List ℕ)) (w : List ℕ) (o : Option ℕ) → MatchOption o (w ≢ [] → Contains names w → ⊥) (λ x. (w ≢ []) × (slice_get names x ≡ Some w)) → (b : Bool) → b ≡ is_some o
    → IsTrue b ↔ ((w ≢ []) × Contains names w)
named-decides names w None m b e = (λ t. absurd (true≢false (sym t ∙ e)), λ h. absurd (m h.0 h.1))
named-decides names w (Some x) (some, at) b e = (λ t. (some, contains_at names x w at), λ h. e)

pub found-decides : (names : List TermName) (w : List ℕ) (o : Option ℕ) → MatchOption o ((n : TermName) → Contains names n → n.name ≡ w → ⊥) (λ t. (n : TermName) × IsFoundAs names w n × (n.term ≡ t)) → (b : Bool) → b ≡ is_some o
    → IsTrue b ↔ ((n : TermName) × Contains names n × (n.name ≡ w))
found-decides names w None m b e = (λ t. absurd (true≢false (sym t ∙ e)), λ h. absurd (m h.0 h.1 h.2))
found-decides names w (Some x) (n, (has, is, one), term) b e = (λ t. (n, has, is), λ h. e)

-- ---- names that are the keys of a map

module _ {K : Type 0} (f : K → List ℕ) where
  once-none : AreOnce []
  once-none a b (k, below, is) in_b e = absurd (omega (arith, below))

  pub once-empty : (es : List (K × ℕ)) → es ≡ [] → AreOnce (all_named f es)
  once-empty es is = subst (λ (xs : List (K × ℕ)). AreOnce (all_named f xs)) (sym is) once-none

  module _ (w : List ℕ) (test : K → Bool) (tests : (k : K) → test k ≡ bytes_eq w (f k)) where
    abbrev pub IsThere : List (K × ℕ) → ℕ → Type 0
    IsThere es t = (n : TermName) × Contains (all_named f es) n × (n.name ≡ w) × (n.term ≡ t)

    abbrev pub IsGone : List (K × ℕ) → Type 0
    IsGone es = (n : TermName) → Contains (all_named f es) n → n.name ≡ w → ⊥

    gone-none : IsGone []
    gone-none n (k, below, is) same = absurd (omega (arith, below))

    gone-more : (e : K × ℕ) (es : List (K × ℕ)) → (w ≡ f e.0 → ⊥) → IsGone es → IsGone (e ∷ es)
    gone-more e es other gone n (zero, below, is) same = absurd (other (sym (ap (λ (m : TermName). m.name) is ∙ same)))
    gone-more e es other gone n (suc k, below, is) same = gone n (k, omega (arith, below), is) same

    there-more : (e : K × ℕ) (es : List (K × ℕ)) (t : ℕ) → IsThere es t → IsThere (e ∷ es) t
    there-more e es t (n, (k, below, is), name, term) = (n, (suc k, omega (arith, below), is), name, term)

    found : (es : List (K × ℕ)) → MatchOption (lookup test es) (IsGone es) (IsThere es)
    found [] = gone-none
    found (e ∷ es) =
        subst (λ b. MatchOption (if b then Some e.1 else lookup test es) (IsGone (e ∷ es)) (IsThere (e ∷ es))) (sym (tests e.0))
        (go (bytes_eq w (f e.0)) (bytes_eq-Decides w (f e.0)) (lookup test es) (found es))
      where
        go : (b : Bool) → Decides b (w ≡ f e.0) → (o : Option ℕ) → MatchOption o (IsGone es) (IsThere es) → MatchOption (if b then Some e.1 else o) (IsGone (e ∷ es)) (IsThere (e ∷ es))
        go true tells o rest = (name_with (f e.0) e.1, (zero, omega arith, refl), sym (tells.0 refl), refl)
        go false tells None rest = gone-more e es (λ same. true≢false (sym (tells.1 same))) rest
        go false tells (Some t) rest = there-more e es t rest

    -- what a look-up gives
    pub looked-up : (es : List (K × ℕ)) → AreOnce (all_named f es) → (o : Option ℕ) → o ≡ lookup test es
        → MatchOption o (IsGone es) (λ t. (n : TermName) × IsFoundAs (all_named f es) w n × (n.term ≡ t))
    looked-up es once o is = go o (subst (λ p. MatchOption p (IsGone es) (IsThere es)) (sym is) (found es))
      where
        go : (p : Option ℕ) → MatchOption p (IsGone es) (IsThere es) → MatchOption p (IsGone es) (λ t. (n : TermName) × IsFoundAs (all_named f es) w n × (n.term ≡ t))
        go None gone = gone
        go (Some t) (n, has, name, term) = (n, (has, name, λ m in_m same. once m n in_m has (same ∙ sym name)), term)

  -- a name that is new goes last
  pub name-more : (eq : K → K → Bool) → ((j k : K) → eq j k ≡ bytes_eq (f j) (f k)) → (k : K) (t : ℕ) (es : List (K × ℕ)) → ((n : TermName) → Contains (all_named f es) n → n.name ≡ f k → ⊥)
      → all_named f (insert_entry eq es k t) ≡ all_named f es ++ name_with (f k) t ∷ []
  name-more eq tests k t [] new = refl
  name-more eq tests k t (e ∷ es) new =
      ap (λ b. all_named f (if b then (e.0, t) ∷ es else e ∷ insert_entry eq es k t)) (tests k e.0 ∙ other)
      ∙ ap (λ ns. name_with (f e.0) e.1 ∷ ns) (name-more eq tests k t es (λ n has same. new n (later n has) same))
    where
      other : bytes_eq (f k) (f e.0) ≡ false
      other = false_from_ne_true (bytes_eq (f k) (f e.0)) (λ is. new (name_with (f e.0) e.1) (zero, omega arith, refl) (sym ((bytes_eq-Decides (f k) (f e.0)).0 is)))

      later : (n : TermName) → Contains (all_named f es) n → Contains (all_named f (e ∷ es)) n
      later n (j, below, is) = (suc j, omega (arith, below), is)

pub once-more : (ns : List TermName) (n : TermName) → AreOnce ns → ((m : TermName) → Contains ns m → m.name ≡ n.name → ⊥) → AreOnce (ns ++ n ∷ [])
once-more ns n once new a b in_a in_b = go (Contains-push_cases ns n a in_a) (Contains-push_cases ns n b in_b)
  where
    go : Contains ns a ⊎ (n ≡ a) → Contains ns b ⊎ (n ≡ b) → a.name ≡ b.name → a ≡ b
    go (inl x) (inl y) e = once a b x y e
    go (inl x) (inr y) e = absurd (new a x (e ∙ ap (λ (m : TermName). m.name) (sym y)))
    go (inr x) (inl y) e = absurd (new b y (sym e ∙ ap (λ (m : TermName). m.name) (sym x)))
    go (inr x) (inr y) e = sym x ∙ y

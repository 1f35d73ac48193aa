-- Paths of coercions.
use Rattle.std.proofs.Common.{◌≡◌, ◌<◌, ◌≤◌, ◌⊎◌, ◌++◌, ◌∙◌, ℕ, zero, suc, List, [], ◌∷◌, length, Bool, true, false, Some, slice_get, ap, sym, refl, subst, inl, inr, arith, Contains}
use Rattle.std.specs.Prelude.{◌||◌}
use Rattle.std.proofs.Math.Dec.{eqb}
use Rattle.std.specs.List.{AllByRecursion, IsDistinct, list_any}
use Rattle.std.proofs.lemmas.Bool.{true≢false, eqb-true}
use Rattle.std.proofs.lemmas.Map.Steps.{length-le_from_distinct_below}
use Rattle.std.proofs.lemmas.Option.{slice_get_within, same_Some}
use Rattle.mz_base.proofs.Offered.{slice_get-last, slice_get-append, nil-cons, slice_get-push_cases}
use Rattle.mz_math_theory.specs.declared.coercion.Coercion.{Coercion}
use Rattle.mz_math_theory.specs.Coercions.{IsPath, OnePath, Reaches}
use Rattle.mz_math_theory.specs.CoercionAnswers.{HasLength, MayStart, MayEnd, IsClashAt}

-- ---- one step

pub never-reach : (cs : List Coercion) (from to : ℕ) → (from ≡ to → ⊥) → Reaches cs 0 from to → ⊥
never-reach cs from to other ([], is, le) = other is
never-reach cs from to other (p ∷ path, on, le) = absurd (omega (arith, le))

-- ---- where there is one path at most, none is longer than the list

pub path-below : (cs : List Coercion) (s to q : ℕ) (path : List ℕ) → IsPath cs s path to → Contains path q → q < length cs
path-below cs s to q [] on (k, below, is) = absurd (omega arith)
path-below cs s to q (p ∷ path) (c, at, begins, rest) (zero, below, is) = subst (λ n. n < length cs) is (slice_get_within cs p c at)
path-below cs s to q (p ∷ path) (c, at, begins, rest) (suc k, below, is) = path-below cs c.to to q path rest (k, omega arith, is)

-- the part of a path before a coercion
pub path-before : (cs : List Coercion) (s to q : ℕ) (d : Coercion) (path : List ℕ) → slice_get cs q ≡ Some d → IsPath cs s path to → Contains path q → (front : List ℕ) × IsPath cs s front d.from
path-before cs s to q d [] there on (k, below, is) = absurd (omega arith)
path-before cs s to q d (p ∷ path) there (c, at, begins, rest) (zero, below, is) =
    let same : c ≡ d = same_Some _ _ (sym at ∙ ap (slice_get cs) is ∙ there) in
    ([], sym begins ∙ ap (λ x. x.from) same)
path-before cs s to q d (p ∷ path) there (c, at, begins, rest) (suc k, below, is) =
    let later = path-before cs c.to to q d path there rest (k, omega arith, is) in
    (p ∷ later.0, (c, at, begins, later.1))

pub no-return : (cs : List Coercion) → OnePath cs → (p : ℕ) (c : Coercion) (path : List ℕ) (to : ℕ) → slice_get cs p ≡ Some c → IsPath cs c.to path to → Contains path p → ⊥
no-return cs one p c path to at on again =
    let back = path-before cs c.to to p c path at on again in
    nil-cons (one c.from c.from [] (p ∷ back.0) refl (c, at, refl, back.1))

any-contains : (q : ℕ) (path : List ℕ) → list_any (eqb q) path ≡ true → Contains path q
any-contains q [] e = absurd (true≢false (sym e))
any-contains q (p ∷ path) e = go (eqb q p) refl (any-contains q path)
  where
    later : Contains path q → Contains (p ∷ path) q
    later (k, below, is) = (suc k, omega arith, is)

    go : (b : Bool) → eqb q p ≡ b → (list_any (eqb q) path ≡ true → Contains path q) → Contains (p ∷ path) q
    go true here rest = (0, omega arith, sym (eqb-true q p here))
    go false here rest = later (rest (sym (ap (λ b. b || list_any (eqb q) path) here) ∙ e))

apart : (p : ℕ) (path : List ℕ) → (Contains path p → ⊥) → AllByRecursion (λ y. eqb p y ≡ false) path
apart p [] other = tt
apart p (q ∷ path) other = (go (eqb p q) refl, apart p path (λ has. other (later has)))
  where
    later : Contains path p → Contains (q ∷ path) p
    later (k, below, is) = (suc k, omega arith, is)

    go : (b : Bool) → eqb p q ≡ b → eqb p q ≡ false
    go true here = absurd (other (0, omega arith, sym (eqb-true p q here)))
    go false here = here

all-distinct : (cs : List Coercion) → OnePath cs → (s to : ℕ) (path : List ℕ) → IsPath cs s path to → IsDistinct eqb path
unfolding IsDistinct
all-distinct cs one s to [] on = tt
all-distinct cs one s to (p ∷ path) (c, at, begins, rest) = (apart p path (no-return cs one p c path to at rest), all-distinct cs one c.to to path rest)

pub path-short : (cs : List Coercion) → OnePath cs → (s to : ℕ) (path : List ℕ) → IsPath cs s path to → length path ≤ length cs
path-short cs one s to path on =
    length-le_from_distinct_below path (length cs) (all-distinct cs one s to path on) (λ q e. path-below cs s to q path on (any-contains q path e))

pub path-reaches : (cs : List Coercion) → OnePath cs → (s to : ℕ) (path : List ℕ) → IsPath cs s path to → Reaches cs (length cs) s to
path-reaches cs one s to path on = (path, on, path-short cs one s to path on)

pub length-one : (cs : List Coercion) → OnePath cs → (s to n : ℕ) (path : List ℕ) → HasLength cs (length cs) s to n → IsPath cs s path to → length path ≡ n
length-one cs one s to n path (other, on, many, le) on_p = ap length (one s to path other on_p on) ∙ many

-- ---- one coercion more

pub path-join : (cs : List Coercion) (s m to : ℕ) (p q : List ℕ) → IsPath cs s p m → IsPath cs m q to → IsPath cs s (p ++ q) to
path-join cs s m to [] q on on_q = subst (λ i. IsPath cs i q to) (sym on) on_q
path-join cs s m to (x ∷ p) q (c, at, begins, rest) on_q = (c, at, begins, path-join cs c.to m to p q rest on_q)

pub path-more : (cs : List Coercion) (c : Coercion) (s to : ℕ) (p : List ℕ) → IsPath cs s p to → IsPath (cs ++ c ∷ []) s p to
path-more cs c s to [] on = on
path-more cs c s to (x ∷ p) (d, at, begins, rest) = (d, slice_get-append cs (c ∷ []) x d at, begins, path-more cs c d.to to p rest)

pub contains-middle : (p q : List ℕ) (n : ℕ) → Contains (p ++ n ∷ q) n
contains-middle [] q n = (0, omega arith, refl)
contains-middle (x ∷ p) q n = later (contains-middle p q n)
  where
    later : Contains (p ++ n ∷ q) n → Contains (x ∷ (p ++ n ∷ q)) n
    later (k, below, is) = (suc k, omega arith, is)

pub clash-two : (cs : List Coercion) (c : Coercion) (from to : ℕ) → IsClashAt cs c from to → OnePath (cs ++ c ∷ []) → ⊥
clash-two cs c from to (p, q, r, on_p, on_q, on_r) one =
    let n = length cs in
    let long : IsPath (cs ++ c ∷ []) from (p ++ n ∷ q) to =
    path-join (cs ++ c ∷ []) from c.from to p (n ∷ q) (path-more cs c from c.from p on_p) (c, slice_get-last cs c, refl, path-more cs c c.to to q on_q) in
    let same : p ++ n ∷ q ≡ r = one from to (p ++ n ∷ q) r long (path-more cs c from to r on_r) in
    let below : n < n = path-below cs from to n r on_r (subst (λ x. Contains x n) same (contains-middle p q n)) in
    absurd (omega arith)

-- a path doesn't take the new coercion, or goes to it first
abbrev pub Takes : List Coercion → Coercion → ℕ → List ℕ → ℕ → Type 0
Takes cs c s x to = (p : List ℕ) × (q : List ℕ) × (x ≡ p ++ length cs ∷ q) × IsPath cs s p c.from × IsPath (cs ++ c ∷ []) c.to q to

pub taken : (cs : List Coercion) (c : Coercion) (s to : ℕ) (x : List ℕ) → IsPath (cs ++ c ∷ []) s x to → IsPath cs s x to ⊎ Takes cs c s x to
taken cs c s to [] on = inl on
taken cs c s to (y ∷ x) (d, at, begins, rest) = go (slice_get-push_cases cs c y d at) (taken cs c d.to to x rest)
  where
    go : (slice_get cs y ≡ Some d) ⊎ ((y ≡ length cs) × (c ≡ d)) → IsPath cs d.to x to ⊎ Takes cs c d.to x to → IsPath cs s (y ∷ x) to ⊎ Takes cs c s (y ∷ x) to
    go (inl here) (inl on) = inl (d, here, begins, on)
    go (inl here) (inr (p, q, is, on_p, on_q)) = inr (y ∷ p, q, ap (λ ys. y ∷ ys) is, (d, here, begins, on_p), on_q)
    go (inr (last, same)) _ = inr ([], x, ap (λ z. z ∷ x) last, sym begins ∙ ap (λ e. e.from) (sym same), subst (λ e. IsPath (cs ++ c ∷ []) e.to x to) (sym same) rest)

pub may-start : (cs : List Coercion) (c : Coercion) (s : ℕ) (p : List ℕ) → IsPath cs s p c.from → (i : ℕ) × MayStart cs c i s
may-start cs c s [] on = (length cs, (c, slice_get-last cs c, sym on))
may-start cs c s (x ∷ p) (d, at, begins, rest) = (x, (d, slice_get-append cs (c ∷ []) x d at, begins))

pub last-end : (cs : List Coercion) (s to : ℕ) (p : List ℕ) → IsPath cs s p to → (s ≡ to) ⊎ ((j : ℕ) × (d : Coercion) × (slice_get cs j ≡ Some d) × (d.to ≡ to))
last-end cs s to [] on = inl on
last-end cs s to (x ∷ p) (d, at, begins, rest) = elim (last-end cs d.to to p rest) [ inl same ↦ inr (x, d, at, same) | inr found ↦ inr found ]

pub may-end : (cs : List Coercion) (c : Coercion) (to : ℕ) (q : List ℕ) → IsPath cs c.to q to → (j : ℕ) × MayEnd cs c j to
may-end cs c to q on = elim (last-end cs c.to to q on) [
  | inl same ↦ (length cs, (c, slice_get-last cs c, same))
  | inr found ↦ (found.0, (found.1, slice_get-append cs (c ∷ []) found.0 found.1 found.2, found.3))
]

module _ (cs : List Coercion) (c : Coercion) (one : OnePath cs) (none : (i from j to : ℕ) → MayStart cs c i from → MayEnd cs c j to → IsClashAt cs c from to → ⊥) where
  no-clash : (from to : ℕ) (p q r : List ℕ) → IsPath cs from p c.from → IsPath cs c.to q to → IsPath cs from r to → ⊥
  no-clash from to p q r on_p on_q on_r =
      let start = may-start cs c from p on_p in
      let end = may-end cs c to q on_q in
      none start.0 from end.0 to start.1 end.1 (p, q, r, on_p, on_q, on_r)

  -- the new coercion is taken once
  once : (to : ℕ) (q : List ℕ) → IsPath (cs ++ c ∷ []) c.to q to → IsPath cs c.to q to
  once to q on = elim (taken cs c c.to to q on) [ inl without ↦ without | inr again ↦ absurd (no-clash c.from c.from [] again.0 [] refl again.3 refl) ]

  pub stays-one : OnePath (cs ++ c ∷ [])
  stays-one s to x y on_x on_y = go (taken cs c s to x on_x) (taken cs c s to y on_y)
    where
      go : IsPath cs s x to ⊎ Takes cs c s x to → IsPath cs s y to ⊎ Takes cs c s y to → x ≡ y
      go (inl a) (inl b) = one s to x y a b
      go (inl a) (inr (p, q, is, on_p, on_q)) = absurd (no-clash s to p q x on_p (once to q on_q) a)
      go (inr (p, q, is, on_p, on_q)) (inl b) = absurd (no-clash s to p q y on_p (once to q on_q) b)
      go (inr (p, q, is, on_p, on_q)) (inr (p', q', is', on_p', on_q')) =
          is ∙ ap (λ z. z ++ length cs ∷ q) (one s c.from p p' on_p on_p') ∙ ap (λ z. p' ++ length cs ∷ z) (one c.to to q q' (once to q on_q) (once to q' on_q')) ∙ sym is'

-- ---- two paths

pub clash-parts : (cs : List Coercion) (c : Coercion) (from to : ℕ) → IsClashAt cs c from to
    → ((p : List ℕ) × IsPath cs from p c.from) × ((q : List ℕ) × IsPath cs c.to q to) × ((r : List ℕ) × IsPath cs from r to)
clash-parts cs c from to (p, q, r, on_p, on_q, on_r) = ((p, on_p), (q, on_q), (r, on_r))

pub clash-made : (cs : List Coercion) (c : Coercion) (from to : ℕ) → (p : List ℕ) × IsPath cs from p c.from → (q : List ℕ) × IsPath cs c.to q to → (r : List ℕ) × IsPath cs from r to → IsClashAt cs c from to
clash-made cs c from to (p, on_p) (q, on_q) (r, on_r) = (p, q, r, on_p, on_q, on_r)

-- Coercions that lead back, and second paths.
use Rattle.std.proofs.Common.{◌≡◌, ◌↔◌, ◌⊎◌, ◌++◌, ◌∙◌, ℕ, List, [], ◌∷◌, Bool, true, false, ap, sym, refl, subst, inl, inr, Contains}
use Rattle.std.specs.Prelude.{IsTrue, MatchBool}
use Rattle.std.proofs.lemmas.Bool.{true≢false}
use Rattle.std.proofs.lemmas.List.{map-append}
use Rattle.std.proofs.lemmas.List.Elements.{Contains-append_left, Contains-push_cases}
use Rattle.mz_base.proofs.Offered.{contains_at, slice_get-map_at, slice_get-map_back}
use Rattle.mz_math_theory.specs.declared.coercion.Coercion.{Coercion}
use Rattle.mz_math_theory.specs.Coercions.{IsPath, OnePath}
use Rattle.mz_math_theory.specs.CoercionAnswers.{HasPath}
use Rattle.mz_math_theory.proofs.Offered.{clash-two, path-join, stays-one}
use Rattle.mz_math_coercions.specs.Graph.{all_turned, turned}
use Rattle.mz_math_coercions.specs.Groups.{AreGrouped, AreJoined, IsNamed}
use Rattle.mz_math_coercions.specs.Reached.{AreReached, Has, IsStep}
use Rattle.mz_math_coercions.proofs.Walks.{from-one}

-- ---- coercions that lead back

pub turned-more : (cs back back' : List Coercion) (c : Coercion) → back ≡ all_turned cs → back' ≡ back ++ turned c ∷ [] → back' ≡ all_turned (cs ++ c ∷ [])
turned-more cs back back' c is more = more ∙ ap (λ xs. xs ++ turned c ∷ []) is ∙ sym (map-append turned cs (c ∷ []))

-- a step there is a step back
pub step-back : (cs : List Coercion) (s p t : ℕ) → IsStep (all_turned cs) s p t → IsStep cs t p s
step-back cs s p t (d, at, begins, ends) =
    let (c, at-c, is) = slice_get-map_back turned cs p d at in
    (c, at-c, ap (λ x. x.to) is ∙ ends, ap (λ x. x.from) is ∙ begins)

pub path-back : (cs : List Coercion) (path : List ℕ) (s t : ℕ) → IsPath (all_turned cs) s path t → HasPath cs t s
path-back cs [] s t on = ([], sym on)
path-back cs (p ∷ path) s t (d, at, begins, rest) =
    let (c, at-c, from, to) = step-back cs s p d.to (d, at, begins, refl) in
    let (q, on) = path-back cs path d.to t rest in
    (q ++ p ∷ [], path-join cs t d.to s q (p ∷ []) on (c, at-c, from, to))

pub path-turned : (cs : List Coercion) (path : List ℕ) (s t : ℕ) → IsPath cs s path t → HasPath (all_turned cs) t s
path-turned cs [] s t on = ([], sym on)
path-turned cs (p ∷ path) s t (c, at, begins, rest) =
    let (q, on) = path-turned cs path c.to t rest in
    (q ++ p ∷ [], path-join (all_turned cs) t c.to s q (p ∷ []) on (turned c, slice_get-map_at turned cs p c at, refl, begins))

-- what is reached by a walk back from a sort
pub reached-back : (cs back : List Coercion) (to n : ℕ) (first steps : List (ℕ × ℕ)) → back ≡ all_turned cs → first ≡ (to, n) ∷ [] → AreReached back first steps → (s : ℕ) → Has steps s ↔ HasPath cs s to
reached-back cs back to n first steps turn is reached s =
    let both = from-one back to n first steps is reached s in (
      λ has. let (path, on) = both.0 has in path-back cs path to s (subst (λ (ds : List Coercion). IsPath ds to path s) turn on),
      λ has. both.1 (subst (λ (ds : List Coercion). HasPath ds to s) (sym turn) (path-turned cs has.0 s to has.1)),
    )

-- ---- second paths

module _ (cs back : List Coercion) (c : Coercion) (turn : back ≡ all_turned cs) (start front ahead ends : List (ℕ × ℕ)) (n : ℕ)
    (start-is : start ≡ (c.from, n) ∷ []) (before : AreReached back start front) (on : AreReached cs front ahead)
    (after : AreReached cs ((c.to, 0) ∷ []) ends) where
  before-has : (s : ℕ) → Has front s ↔ HasPath cs s c.from
  before-has s = reached-back cs back c.from n start front turn start-is before s

  after-has : (t : ℕ) → Has ends t ↔ HasPath cs c.to t
  after-has t = from-one cs c.to 0 ((c.to, 0) ∷ []) ends refl after t

  met-clash : (t : ℕ) → Has ahead t → Has ends t → OnePath (cs ++ c ∷ []) → ⊥
  met-clash t in-ahead in-ends =
      let (s, in-front, (r, on-r)) = on.only t in-ahead in
      let (p, on-p) = (before-has s).0 in-front in
      let (q, on-q) = (after-has t).0 in-ends in
      clash-two cs c s t (p, q, r, on-p, on-q, on-r)

  none-met : OnePath cs → ((t : ℕ) × Has ahead t × Has ends t → ⊥) → OnePath (cs ++ c ∷ [])
  none-met one never = stays-one cs c one (λ i from j to begins ends clash. go from to clash.0 clash.1 clash.2 (clash.3) (clash.4) (clash.5))
    where
      go : (from to : ℕ) (p q r : List ℕ) → IsPath cs from p c.from → IsPath cs c.to q to → IsPath cs from r to → ⊥
      go from to p q r on-p on-q on-r = never (to, on.all from to ((before-has from).1 (p, on-p)) (r, on-r), (after-has to).1 (q, on-q))

  -- whether a sort is on both sides decides it
  pub met-decides : OnePath cs → (b : Bool) → IsTrue b ↔ ((t : ℕ) × Has ahead t × Has ends t) → MatchBool b (OnePath (cs ++ c ∷ []) → ⊥) (OnePath (cs ++ c ∷ []))
  met-decides one true met = let (t, in-ahead, in-ends) = met.0 refl in met-clash t in-ahead in-ends
  met-decides one false met = none-met one (λ h. true≢false (sym (met.1 h)))

-- ---- sorts in different groups

path-named : (cs : List Coercion) (name : ℕ → ℕ) → ((c : Coercion) → Contains cs c → name c.from ≡ name c.to) → (path : List ℕ) (s t : ℕ) → IsPath cs s path t → name s ≡ name t
path-named cs name same [] s t on = ap name on
path-named cs name same (p ∷ path) s t (c, at, begins, rest) = ap name (sym begins) ∙ same c (contains_at cs p c at) ∙ path-named cs name same path c.to t rest

pub apart-one : (cs : List Coercion) (c : Coercion) (ups : List ℕ) → OnePath cs → AreGrouped cs ups → ((name : ℕ → ℕ) → IsNamed ups name → name c.from ≡ name c.to → ⊥) → OnePath (cs ++ c ∷ [])
apart-one cs c ups one (name, named, same) apart = stays-one cs c one (λ i from j to begins ends clash. go from to clash.0 clash.1 clash.2 (clash.3) (clash.4) (clash.5))
  where
    go : (from to : ℕ) (p q r : List ℕ) → IsPath cs from p c.from → IsPath cs c.to q to → IsPath cs from r to → ⊥
    go from to p q r on-p on-q on-r =
        apart name named (sym (path-named cs name same p from c.from on-p) ∙ path-named cs name same r from to on-r ∙ sym (path-named cs name same q c.to to on-q))

pub grouped-kept : (cs : List Coercion) (ups new : List ℕ) → ((name : ℕ → ℕ) → IsNamed ups name → IsNamed new name) → AreGrouped cs ups → AreGrouped cs new
grouped-kept cs ups new kept (name, named, same) = (name, kept name named, same)

pub grouped-more : (cs : List Coercion) (c : Coercion) (ups new : List ℕ) → AreGrouped cs ups → AreJoined ups new c.from c.to → AreGrouped (cs ++ c ∷ []) new
grouped-more cs c ups new (name, named, same) joined = let (name', named', still, both) = joined name named in (name', named', λ d has. all name' still both d (Contains-push_cases cs c d has))
  where
    all : (name' : ℕ → ℕ) → ((s t : ℕ) → name s ≡ name t → name' s ≡ name' t) → name' c.from ≡ name' c.to → (d : Coercion) → Contains cs d ⊎ (c ≡ d) → name' d.from ≡ name' d.to
    all name' still both d (inl old) = still d.from d.to (same d old)
    all name' still both d (inr is) = subst (λ (e : Coercion). name' e.from ≡ name' e.to) is both

pub grouped-fewer : (cs : List Coercion) (c : Coercion) (ups : List ℕ) → AreGrouped (cs ++ c ∷ []) ups → AreGrouped cs ups
grouped-fewer cs c ups (name, named, same) = (name, named, λ d has. same d (Contains-append_left cs (c ∷ []) d has))

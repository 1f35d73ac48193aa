-- One link more.
use Rattle.std.specs.Prelude.{ℕ, ◌≡◌, ◌≤◌, ◌<◌, ◌+◌, List, [], ◌∷◌, ◌++◌, length, Option, Some, None}
use Rattle.std.proofs.Common.{zero, suc, refl, sym, ap, ◌∙◌, subst, arith, inl, inr}
use Rattle.std.proofs.lemmas.List.{get_or_append_left, length-append, map-append}
use Rattle.std.proofs.lemmas.Bool.{cases_eq}
use Rattle.mz_emit_bodies.specs.declared.let_scopes.Cell.{Cell}
use Rattle.mz_emit_bodies.specs.Sight.{Link, link, links, link_at, InSight, here, out, IsRightAt, AreRight, IsThere, IsNext}
use Rattle.mz_emit_bodies.proofs.Lists.{get_end}
use Rattle.mz_emit_bodies.proofs.Scoping.{links_long}

pub strict : (a b : ℕ) → a ≤ b → (a ≡ b → ⊥) → a < b
strict zero zero le apart = absurd (apart refl)
strict zero (suc b) le apart = omega arith
strict (suc a) zero le apart = absurd (omega (arith, le))
strict (suc a) (suc b) le apart = (let h = strict a b (omega (arith, le)) (λ e. apart (ap suc e)) in omega (arith, h))

module _ (ls : List Link) (l : Link) (right : AreRight ls) where
  one : length (ls ++ l ∷ []) ≡ length ls + 1
  one = length-append ls (l ∷ [])

  before : (c : ℕ) → c < length ls → link_at (ls ++ l ∷ []) c ≡ link_at ls c
  before c lt = get_or_append_left ls (l ∷ []) _ c lt

  pub last : link_at (ls ++ l ∷ []) (length ls) ≡ l
  last = get_end Link ls l _

  pub sight_on : (c k d : ℕ) → c < length ls → InSight ls c k d → InSight (ls ++ l ∷ []) c k d
  sight_on c k d lt (here c0 k0 e) = here c k (ap (λ (z : Link). z.depth) (before c lt) ∙ e)
  sight_on c k d lt (out c0 o k0 d0 e v) =
      let r : IsRightAt ls c (Some o) = subst (IsRightAt ls c) e (right c lt) in
      out c o k d (ap (λ (z : Link). z.outer) (before c lt) ∙ e) (sight_on o k d (omega (arith, lt, r.0)) v)

  stays : (c : ℕ) (o : Option ℕ) → c < length ls → IsRightAt ls c o → IsRightAt (ls ++ l ∷ []) c o
  stays c None lt r = (ap (λ (z : Link). z.depth) (before c lt) ∙ r.0, ap (λ (z : Link). z.jump) (before c lt) ∙ r.1)
  stays c (Some o) lt r =
      let j-is = ap (λ (z : Link). z.jump) (before c lt) in
      let j-lt : (link_at ls c).jump < length ls = (let h = r.2 in omega (arith, h, lt)) in (
        r.0,
        ap (λ (z : Link). z.depth) (before c lt) ∙ r.1 ∙ ap (λ (z : Link). z.depth + 1) (sym (before o (let h = r.0 in omega (arith, h, lt)))),
        subst (λ (j : ℕ). j < c) (sym j-is) r.2,
        subst (λ (j : ℕ). InSight (ls ++ l ∷ []) c (link_at (ls ++ l ∷ []) j).depth j) (sym j-is)
            (subst (λ (z : Link). InSight (ls ++ l ∷ []) c z.depth (link_at ls c).jump) (sym (before (link_at ls c).jump j-lt)) (sight_on c _ _ lt r.3)),
      )

  pub right_more : IsRightAt (ls ++ l ∷ []) (length ls) l.outer → AreRight (ls ++ l ∷ [])
  right_more new c lt = elim (cases_eq c (length ls)) [
    | inl is ↦ subst (λ (k : ℕ). IsRightAt (ls ++ l ∷ []) k (link_at (ls ++ l ∷ []) k).outer) (sym is) (subst (λ (z : Link). IsRightAt (ls ++ l ∷ []) (length ls) z.outer) (sym last) new)
    | inr other ↦ (let lt' : c < length ls = strict c (length ls) (let n = one in omega (arith, n, lt)) other in
        subst (λ (z : Link). IsRightAt (ls ++ l ∷ []) c z.outer) (sym (before c lt')) (stays c (link_at ls c).outer lt' (right c lt')))
  ]

  new_right : (o : Option ℕ) (n : ℕ) → n ≡ length ls → IsThere (length ls) o → l.outer ≡ o → IsNext ls n o l.depth l.jump → IsRightAt (ls ++ l ∷ []) (length ls) o
  new_right None n n-is there o-is (d, j) = (ap (λ (z : Link). z.depth) last ∙ d, ap (λ (z : Link). z.jump) last ∙ j ∙ n-is)
  new_right (Some o) n n-is there o-is (d, near, sight) =
      let j-is = ap (λ (z : Link). z.jump) last in (
        there,
        ap (λ (z : Link). z.depth) last ∙ d ∙ ap (λ (z : Link). z.depth + 1) (sym (before o there)),
        subst (λ (j : ℕ). j < length ls) (sym j-is) (omega (arith, near, there)),
        subst (λ (j : ℕ). InSight (ls ++ l ∷ []) (length ls) (link_at (ls ++ l ∷ []) j).depth j) (sym j-is)
            (subst (λ (z : Link). InSight (ls ++ l ∷ []) (length ls) z.depth l.jump) (sym (before l.jump (omega (arith, near, there))))
            (out (length ls) o _ _ (ap (λ (z : Link). z.outer) last ∙ o-is) (sight_on o _ _ there sight))),
      )

  pub opened_right : (n : ℕ) → n ≡ length ls → IsThere (length ls) l.outer → IsNext ls n l.outer l.depth l.jump → AreRight (ls ++ l ∷ [])
  opened_right n n-is there next = right_more (new_right l.outer n n-is there refl next)

pub cells_right : (cs cs' : List Cell) (d : Cell) (n : ℕ) → cs' ≡ cs ++ d ∷ [] → AreRight (links cs) → n ≡ length cs → IsThere (length cs) d.outer → IsNext (links cs) n d.outer d.depth d.jump → AreRight (links cs')
cells_right cs cs' d n is right n-is there next =
    let many : length cs ≡ length (links cs) = sym (links_long cs) in
    subst AreRight (sym (ap links is ∙ map-append link cs (d ∷ [])))
    (opened_right (links cs) (link d) right n (n-is ∙ many) (subst (λ (k : ℕ). IsThere k d.outer) many there) next)

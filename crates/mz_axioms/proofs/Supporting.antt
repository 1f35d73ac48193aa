-- Supports, citation by citation, and as the list of bodies goes on.
use Rattle.std.proofs.Common.{◌≡◌, ◌∙◌, ◌<◌, ◌+◌, ℕ, Bool, true, false, List, ◌++◌, length, refl, sym, ap, subst, inl, inr, arith}
use Rattle.std.specs.Prelude.{◌↔◌}
use Rattle.std.proofs.lemmas.Option.{slice_get_within}
use Rattle.mz_base.proofs.Offered.{slice_get-within}
use Rattle.mz_logic_theory.proofs.Offered.{one_at}
use Rattle.mz_binary_theory.specs.Gapped.{AssertionBody}
use Rattle.mz_axioms.specs.Supports.{Cites, IsKind, InSupport, by_axiom, by_theorem}
use Rattle.mz_axioms.specs.Rows.{ComesTo}

pub support-step : (bodies : List AssertionBody) (T U A : ℕ) → Cites bodies T U → ComesTo bodies U A → InSupport bodies T A
support-step bodies T U A cites (inl (kind, same)) = subst (λ n. InSupport bodies T n) (sym same) (by_axiom T U cites kind)
support-step bodies T U A cites (inr (kind, on)) = by_theorem T U A cites kind on

pub support-inverts : (bodies : List AssertionBody) (T A : ℕ) → InSupport bodies T A → (U : ℕ) × Cites bodies T U × ComesTo bodies U A
support-inverts bodies T A (by_axiom T0 A0 cites kind) = (A, cites, inl (kind, refl))
support-inverts bodies T A (by_theorem T0 U A0 cites kind on) = (U, cites, inr (kind, on))

-- an axiom of the support is one, and stands before
pub support-axiom : (bodies : List AssertionBody) (T A : ℕ) → InSupport bodies T A → IsKind bodies true A
support-axiom bodies T A (by_axiom T0 A0 cites kind) = kind
support-axiom bodies T A (by_theorem T0 U A0 cites kind on) = support-axiom bodies U A on

pub support-earlier : (bodies : List AssertionBody) (T A : ℕ) → InSupport bodies T A → A < T
support-earlier bodies T A (by_axiom T0 A0 cites kind) = cites.earlier
support-earlier bodies T A (by_theorem T0 U A0 cites kind on) = let a = support-earlier bodies U A on in let b = cites.earlier in omega (arith, a, b)

-- ---- more bodies change nothing for those before

module _ (bodies more : List AssertionBody) where
  pub kind-on : (kind : Bool) (U : ℕ) → IsKind bodies kind U → IsKind (bodies ++ more) kind U
  kind-on kind U r = record { body = r.body; there = slice_get-within bodies more U (slice_get_within bodies U r.body r.there) ∙ r.there; is = r.is }

  kind-back : (kind : Bool) (U : ℕ) → U < length bodies → IsKind (bodies ++ more) kind U → IsKind bodies kind U
  kind-back kind U lt r = record { body = r.body; there = sym (slice_get-within bodies more U lt) ∙ r.there; is = r.is }

  cites-on : (T U : ℕ) → Cites bodies T U → Cites (bodies ++ more) T U
  cites-on T U c = record { body = c.body; there = slice_get-within bodies more T (slice_get_within bodies T c.body c.there) ∙ c.there; cited = c.cited; earlier = c.earlier }

  cites-back : (T U : ℕ) → T < length bodies → Cites (bodies ++ more) T U → Cites bodies T U
  cites-back T U lt c = record { body = c.body; there = sym (slice_get-within bodies more T lt) ∙ c.there; cited = c.cited; earlier = c.earlier }

  support-on : (T A : ℕ) → InSupport bodies T A → InSupport (bodies ++ more) T A
  support-on T A (by_axiom T0 A0 cites kind) = by_axiom T A (cites-on T A cites) (kind-on true A kind)
  support-on T A (by_theorem T0 U A0 cites kind on) = by_theorem T U A (cites-on T U cites) (kind-on false U kind) (support-on U A on)

  support-back : (T A : ℕ) → T < length bodies → InSupport (bodies ++ more) T A → InSupport bodies T A
  support-back T A lt (by_axiom T0 A0 cites kind) = by_axiom T A (cites-back T A lt cites) (kind-back true A (let e = cites.earlier in omega (arith, e, lt)) kind)
  support-back T A lt (by_theorem T0 U A0 cites kind on) =
      let low : U < length bodies = (let e = cites.earlier in omega (arith, e, lt)) in
      by_theorem T U A (cites-back T U lt cites) (kind-back false U low kind) (support-back U A low on)

  pub comes-on : (U A : ℕ) → U < length bodies → ComesTo bodies U A ↔ ComesTo (bodies ++ more) U A
  comes-on U A lt = (
    λ h. elim h [ inl here ↦ inl (kind-on true U here.0, here.1) | inr on ↦ inr (kind-on false U on.0, support-on U A on.1) ],
    λ h. elim h [ inl here ↦ inl (kind-back true U lt here.0, here.1) | inr on ↦ inr (kind-back false U lt on.0, support-back U A lt on.1) ],
  )

-- ---- kinds

pub one-kind : (bodies : List AssertionBody) (U : ℕ) (k l : Bool) → IsKind bodies k U → IsKind bodies l U → k ≡ l
one-kind bodies U k l r q = let same : r.body ≡ q.body = one_at r.there q.there in sym r.is ∙ ap (λ (x : AssertionBody). x.is_axiom) same ∙ q.is

pub kind-within : (bodies : List AssertionBody) (k : Bool) (U : ℕ) → IsKind bodies k U → U < length bodies
kind-within bodies k U r = slice_get_within bodies U r.body r.there

-- that to which a citation comes is no later than what is cited
pub comes-low : (bodies : List AssertionBody) (U A : ℕ) → ComesTo bodies U A → A < U + 1
comes-low bodies U A (inl (kind, same)) = omega (arith, same)
comes-low bodies U A (inr (kind, on)) = let e = support-earlier bodies U A on in omega (arith, e)

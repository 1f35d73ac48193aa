use Rattle.std.proofs.Common.{◌∙◌, ◌+◌, ◌↔◌, ℕ, List, IsTrue, drop, get_or, refl, subst, sym, true≢false}
use Rattle.std.proofs.lemmas.List.{drop_all}
use Rattle.mz_logic_free.proofs.Sharing.{HasAny, IsAtOther, IsOther, turned-round, place-here, places-behind, places-none}
use Rattle.mz_logic_free.proofs.Walking.{left-at}
use Rattle.mz_logic_free.proofs.named.has_other.Goals as goal

pub returns-then-len-as_slice : goal.returns-then-len-as_slice
returns-then-len-as_slice c =
    turned-round c.args.variables.now c.args.own.now c.args.places.now c.has_one_of.result
    (subst (λ xs. IsTrue c.has_one_of.result ↔ HasAny (IsAtOther c.args.places.now c.args.own.now) xs) c.as_slice-then-len-as_slice.ensures c.has_one_of.ensures)

pub returns-then-is_other : goal.returns-then-is_other
returns-then-is_other c =
    let items : List ℕ = c.as_slice-place-items.result.now in
    let i = c.loop-place.place-index in (
      λ _. place-here (IsOther c.args.variables.now c.args.own.now) (drop i items) (drop (i + 1) items) (get_or items i 0) (left-at items i 0 c.loop-place-test.true) (HasAny (IsOther c.args.variables.now c.args.own.now) c.args.places.now) c.loop-place.invariant
          (c.is_other.ensures.0 c.if-is_other.true),
      λ _. refl,
    )

pub loop-place-preserved : goal.loop-place-preserved
loop-place-preserved c =
    let items : List ℕ = c.as_slice-place-items.result.now in
    let i = c.loop-place.place-index in
    places-behind (IsOther c.args.variables.now c.args.own.now) (drop i items) (drop (i + 1) items) (get_or items i 0) (left-at items i 0 c.loop-place-test.true) (HasAny (IsOther c.args.variables.now c.args.own.now) c.args.places.now) c.loop-place.invariant
    (λ here. true≢false (sym (c.is_other.ensures.1 here) ∙ c.if-is_other.false))

pub returns : goal.returns
returns c = (
  λ no. absurd (true≢false (sym no)),
  λ any. absurd (places-none (IsOther c.args.variables.now c.args.own.now) _ (HasAny (IsOther c.args.variables.now c.args.own.now) c.args.places.now)
      (drop_all c.loop-place.place-index c.as_slice-place-items.result.now c.loop-place-test.false) c.loop-place.invariant any),
)

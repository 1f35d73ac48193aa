use Rattle.std.proofs.Common.{◌∙◌, ◌+◌, drop, get_or, refl, sym, true≢false}
use Rattle.std.proofs.lemmas.List.{drop_all}
use Rattle.mz_logic_free.proofs.Sharing.{HasAny, IsAtOther, place-here, places-behind, places-none}
use Rattle.mz_logic_free.proofs.Walking.{left-at}
use Rattle.mz_logic_free.proofs.named.has_one_of.Goals as goal

pub returns-then-is_at_other : goal.returns-then-is_at_other
returns-then-is_at_other c =
    let items = c.args.variables.now in
    let i = c.loop-x.x-index in
    let P = IsAtOther c.args.places.now c.args.own.now in (
      λ _. place-here P (drop i items) (drop (i + 1) items) (get_or items i 0) (left-at items i 0 c.loop-x-test.true) (HasAny P items) c.loop-x.invariant (c.is_at_other.ensures.0 c.if-is_at_other.true),
      λ _. refl,
    )

pub loop-x-preserved : goal.loop-x-preserved
loop-x-preserved c =
    let items = c.args.variables.now in
    let i = c.loop-x.x-index in
    let P = IsAtOther c.args.places.now c.args.own.now in
    places-behind P (drop i items) (drop (i + 1) items) (get_or items i 0) (left-at items i 0 c.loop-x-test.true) (HasAny P items) c.loop-x.invariant
    (λ here. true≢false (sym (c.is_at_other.ensures.1 here) ∙ c.if-is_at_other.false))

pub returns : goal.returns
returns c =
    let P = IsAtOther c.args.places.now c.args.own.now in (
      λ no. absurd (true≢false (sym no)),
      λ any. absurd (places-none P _ (HasAny P c.args.variables.now) (drop_all c.loop-x.x-index c.args.variables.now c.loop-x-test.false) c.loop-x.invariant any),
    )

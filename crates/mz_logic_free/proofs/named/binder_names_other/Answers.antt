use Rattle.std.proofs.Common.{◌∙◌, refl, sym, subst, inl, inr, true≢false}
use Rattle.mz_logic_free.proofs.Narrowing.{few-or-all, others-same}
use Rattle.mz_logic_free.proofs.Sharing.{IsOther}
use Rattle.mz_logic_free.proofs.named.binder_names_other.Goals as goal

pub returns-then-binder : goal.returns-then-binder
returns-then-binder c = (
  λ is. (c.args.y, c.is_other.ensures.0 is, inl (c.if-binder.true, refl)),
  λ (x, has, tells). c.is_other.ensures.1 (elim tells [
    | inl (bound, same) ↦ subst (IsOther c.args.variables.now c.args.own.now) same has
    | inr (regular, _) ↦ absurd (true≢false (sym c.if-binder.true ∙ regular))
  ]),
)

pub returns-else-binder : goal.returns-else-binder
returns-else-binder c =
    let same = few-or-all c.args.variables.now c.places.result.now c.args.binder.now.deps _ c.places.ensures (c.requires c.places.result.now) in
    let (to, from) = others-same c.args.variables.now c.args.own.now c.args.binder.now.deps c.places.result.now same c.has_other.result c.has_other.ensures in (
      λ is. (let (x, has, at) = to is in (x, has, inr (c.if-binder.false, at))),
      λ (x, has, tells). from (elim tells [
        | inl (bound, _) ↦ absurd (true≢false (sym bound ∙ c.if-binder.false))
        | inr (_, at) ↦ (x, has, at)
      ]),
    )

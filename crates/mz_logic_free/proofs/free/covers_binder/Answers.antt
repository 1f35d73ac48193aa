use Rattle.std.proofs.Common.{Contains, sym, ◌∙◌, inl, inr, true≢false}
use Rattle.std.proofs.lemmas.List.Elements.{All-contains, All-contains_itself}
use Rattle.mz_logic_free.proofs.free.covers_binder.Goals as goal

pub returns-else-binder : goal.returns-else-binder
returns-else-binder c = (
  λ is x h. elim h [
    | inl (bound, _) ↦ absurd (true≢false (sym bound ∙ c.if-binder.false))
    | inr (_, has) ↦ All-contains (Contains c.args.covered.now) c.args.binder.now.deps x (c.covers_places.ensures.0 is) has
  ],
  λ all. c.covers_places.ensures.1 (λ k d below. all _ (inr (c.if-binder.false, All-contains_itself c.args.binder.now.deps k d below))),
)

use Rattle.std.proofs.Common.{ℕ, List, ◌↔◌, Contains, sym, subst, inl, inr}
use Rattle.mz_logic_free.proofs.narrowed.Narrowed.learn.Goals as goal

pub returns-in-Ok : goal.returns-in-Ok
returns-in-Ok c = λ z ws has. elim (c.add.ensures z ws has) [
  | inl old ↦ inl old
  | inr (same, is) ↦ inr (same, subst (λ (us : List ℕ). (x : ℕ) → Contains c.args.variables.now x → Contains us x ↔ Contains c.args.binder.now.deps x) (sym is) c.in-Ok.ensures)
]

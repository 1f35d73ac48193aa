use Rattle.std.proofs.Common.{◌≡◌, ◌<◌, ◌↔◌, Some, slice_get, true, sym, subst, arith, true≢false}
use Rattle.mz_spec_variables.specs.declared.variables.Variable.{Variable as VariableRead}
use Rattle.mz_spec_variables.proofs.Indexed.{bound-here}
use Rattle.mz_spec_variables.proofs.by_name.is_bound_within.Goals as goal

pub returns-then-place-end : goal.returns-then-place-end
returns-then-place-end c = (λ no. absurd (true≢false (sym no)), λ (below, _, _, _). absurd (let past = c.if-place-end.true in omega (arith, below, past)))

pub returns : goal.returns
returns c =
    subst (λ (v : VariableRead). (v.is_bound ≡ true) ↔ ((c.args.place < c.args.end) × (w : VariableRead) × (slice_get c.args.variables.now c.args.place ≡ Some w) × (w.is_bound ≡ true))) c.index-variables-place.is
    (bound-here c.args.variables.now c.args.end c.args.place c.index-variables-place.result c.requires (let past = c.if-place-end.false in omega (arith, past)) c.index-variables-place.is)

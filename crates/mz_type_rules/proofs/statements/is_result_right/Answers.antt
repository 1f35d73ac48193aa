use Rattle.std.proofs.Common.{All, refl, sym, subst}
use Rattle.mz_logic_theory.specs.Variables.{IsBoundAt}
use Rattle.mz_type_rules.proofs.statements.is_result_right.Goals as goal

pub returns-then-may_be_result_sort : goal.returns-then-may_be_result_sort
returns-then-may_be_result_sort c = (
  λ t. (c.if-may_be_result_sort.ensures.0 refl, subst (λ qs. All (IsBoundAt qs) c.args.term.now.result.deps) c.as_slice.ensures (c.are_bound.ensures.0 t)),
  λ h. c.are_bound.ensures.1 (subst (λ qs. All (IsBoundAt qs) c.args.term.now.result.deps) (sym c.as_slice.ensures) h.1),
)

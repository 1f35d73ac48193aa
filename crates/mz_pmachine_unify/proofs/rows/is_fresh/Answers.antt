use Rattle.std.proofs.Common.{◌∙◌, ◌≡◌, true, false, sym}
use Rattle.mz_pmachine_unify.specs.Numbering.{expr_of}
use Rattle.mz_pmachine_unify.proofs.VariableWords.{not-bound, other-sort, fresh-is-word}
use Rattle.mz_pmachine_unify.proofs.rows.is_fresh.Goals as goal
use Rattle.mz_pmachine_unify.proofs.rows.is_fresh.Goals.{then-is_bound, else-is_bound}

true-false : true ≡ false → ⊥
true-false e = cc

pub returns-then-sort_of-sort : goal.returns-then-sort_of-sort
returns-then-sort_of-sort c sigs es over told = elim c.if-is_bound.branch [
  | then-is_bound w ↦ fresh-is-word sigs c.args.nodes.now.context es (expr_of c.args.nodes.now c.args.id.0) c.args.sort w.sort_of.result c.vars.result c.args.apart
      (c.is_bound.ensures.0 w.if-is_bound.true) (w.sort_of.ensures.sort sigs over) (sym w.value-is ∙ c.if-sort_of-sort.true) (c.vars.ensures.variables sigs over) told
  | else-is_bound w ↦ absurd (true-false (sym c.if-sort_of-sort.true ∙ w.value-is ∙ w.if-is_bound.false))
]

pub returns-else-sort_of-sort : goal.returns-else-sort_of-sort
returns-else-sort_of-sort c sigs es over told = elim c.if-is_bound.branch [
  | then-is_bound w ↦ c.if-sort_of-sort.false ∙ sym (other-sort sigs c.args.nodes.now.context es (expr_of c.args.nodes.now c.args.id.0) c.args.sort w.sort_of.result
      (c.is_bound.ensures.0 w.if-is_bound.true) (w.sort_of.ensures.sort sigs over) (sym w.value-is ∙ c.if-sort_of-sort.false))
  | else-is_bound w ↦ c.if-sort_of-sort.false ∙ sym (not-bound sigs c.args.nodes.now.context es (expr_of c.args.nodes.now c.args.id.0) c.args.sort (λ h. true-false (sym (c.is_bound.ensures.1 h) ∙ w.if-is_bound.false)))
]

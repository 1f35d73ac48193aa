use Rattle.std.proofs.Common.{◌∙◌, length, ap, arith}
use Rattle.std.specs.Prelude.{reverse, drop}
use Rattle.mz_machine_env.proofs.Offered.{drop-within}
use Rattle.mz_trace.specs.Commands.{stage_of}
use Rattle.mz_trace.proofs.Citing.{proofs-there}
use Rattle.mz_trace.proofs.state.Making.cite.Goals as goal

pub hypotheses-requires-clause-fits : goal.hypotheses-requires-clause-fits
hypotheses-requires-clause-fits g c =
    omega (arith, ap length c.unify_of_thm.ensures.rest, drop-within c.args.mmb.now c.unify_of_thm.result.0, c.file.ensures.binary.fits)

pub pop_proofs-requires : goal.pop_proofs-requires
pop_proofs-requires g c =
    proofs-there c.args.mmb.now c.args.t (stage_of c.args.self.now) c.pop_expr-claim.result c.in_ok-operands.operands.items (reverse c.pop_expr-claim.new.stack.items)
    (reverse c.pop_exprs.new.stack.items) c.unify_of_thm.result.1.now c.hypotheses.result c.requires c.pop_expr-claim.ensures c.in_ok-operands.ensures.taken
    (c.in_ok-operands.ensures.many ∙ c.thm_arity.ensures) (c.unify_of_thm.ensures.rest ∙ ap (λ at. drop at c.args.mmb.now) c.unify_of_thm.ensures.place) c.hypotheses.ensures.takes

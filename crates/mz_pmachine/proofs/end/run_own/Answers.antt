use Rattle.std.proofs.Common.{sym, subst}
use Rattle.mz_pmachine_unify.specs.Numbering.{IsOver}
use Rattle.mz_machine_env.proofs.Offered.{signatures-before}
use Rattle.mz_machine.proofs.Offered.{own-run, own-steps}
use Rattle.mz_pmachine.proofs.end.run_own.Goals as goal

pub unify_in-requires-clause-over : goal.unify_in-requires-clause-over
unify_in-requires-clause-over g c = subst (λ sigs. IsOver sigs c.args.nodes.now) (sym (signatures-before c.args.env.now)) c.requires.over

pub returns-clause-run : goal.returns-clause-run
returns-clause-run g c = rw (← signatures-before c.args.env.now, ← c.mode_of-mode.ensures, ← c.deref-operands.ensures.value) (own-run _ c.unify_in.result _ _ c.through.result c.through.ensures c.unify_in.ensures.run)

pub returns-clause-steps : goal.returns-clause-steps
returns-clause-steps g c = rw (← signatures-before c.args.env.now, ← c.mode_of-mode.ensures, ← c.deref-operands.ensures.value) (own-steps _ c.unify_in.result c.through.result c.through.ensures c.unify_in.ensures.steps)

pub kept_disjoint-requires : goal.kept_disjoint-requires
kept_disjoint-requires g c = record { ids = rw c.deref-operands.ensures.value c.requires.operands }

pub unify_in-requires-clause-operands : goal.unify_in-requires-clause-operands
unify_in-requires-clause-operands g c = rw c.deref-operands.ensures.value c.requires.operands

pub unify_in-requires-clause-apart : goal.unify_in-requires-clause-apart
unify_in-requires-clause-apart g c = c.kept_disjoint.ensures _ c.requires.over

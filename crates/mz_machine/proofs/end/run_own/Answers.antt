use Rattle.std.proofs.Common.{inr, sym, subst}
use Rattle.mz_store.specs.Sharing.{IsOver}
use Rattle.mz_machine_env.proofs.Offered.{signatures-before}
use Rattle.mz_machine.proofs.EndRows.{own-run, own-steps}
use Rattle.mz_machine.proofs.end.run_own.Goals as goal

pub unify_in-requires-clause-over : goal.unify_in-requires-clause-over
unify_in-requires-clause-over g c = subst (λ sigs. IsOver sigs c.args.store.now) (sym (signatures-before c.args.env.now)) c.requires.over

pub returns-clause-run : goal.returns-clause-run
returns-clause-run g c = rw (← signatures-before c.args.env.now, ← c.mode_of-mode.ensures, ← c.first-operands.ensures) (own-run _ c.unify_in.result _ _ c.through.result c.through.ensures c.unify_in.ensures.run)

pub returns-clause-steps : goal.returns-clause-steps
returns-clause-steps g c = rw (← signatures-before c.args.env.now, ← c.mode_of-mode.ensures, ← c.first-operands.ensures) (own-steps _ c.unify_in.result c.through.result c.through.ensures c.unify_in.ensures.steps)

pub kept_disjoint-apart-requires-clause-ids : goal.kept_disjoint-apart-requires-clause-ids
kept_disjoint-apart-requires-clause-ids g c = rw c.first-operands.ensures c.requires.operands

pub kept_disjoint-apart-requires-clause-told : goal.kept_disjoint-apart-requires-clause-told
kept_disjoint-apart-requires-clause-told g c = rw c.first-operands.ensures (inr c.requires.variables)

pub unify_in-requires-clause-operands : goal.unify_in-requires-clause-operands
unify_in-requires-clause-operands g c = rw c.first-operands.ensures c.requires.operands

pub unify_in-requires-clause-apart : goal.unify_in-requires-clause-apart
unify_in-requires-clause-apart g c = c.kept_disjoint-apart.ensures _ c.requires.over

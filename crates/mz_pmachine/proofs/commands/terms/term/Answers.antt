use Rattle.std.proofs.Common.{◌≡◌, Err, [], ◌∷◌}
use Rattle.std.proofs.lemmas.Result.{err_from_is_err_and}
use Rattle.mz_cmd.specs.declared.code.ProofCode.TheVariants as code
use Rattle.mz_store.specs.declared.item.Item.TheVariants.{Expr}
use Rattle.mz_pmachine_theory.specs.NodeIdentity.{portable}
use Rattle.mz_pmachine_unify.proofs.Offered.{items-push, items-in-both}
use Rattle.mz_machine_theory.specs.ProofMachine.{proof_step}
use Rattle.mz_machine_env.specs.Before.{tables_of}
use Rattle.mz_machine.proofs.Offered.{term-of, term-save-of, stops-as}
use Rattle.mz_pmachine.proofs.commands.terms.term.Goals as goal

pub returns-in_err-made-clause-plain : goal.returns-in_err-made-clause-plain
returns-in_err-made-clause-plain c st ctx is =
    let p = err_from_is_err_and c.from_residual.result c.from_residual.ensures.1 in
    rw (p.1, p.2) (stops-as c.in_err-made.field-0.0 _ (λ k. proof_step portable (tables_of c.args.env.now) c.args.at code.Term c.args.t st ≡ Err k)
    (λ k h. term-of portable (tables_of c.args.env.now) c.args.at c.args.t st (Err k) h) (c.in_err-made.ensures.built st ctx is))

pub returns-in_err-made-clause-saved : goal.returns-in_err-made-clause-saved
returns-in_err-made-clause-saved c st ctx is =
    let p = err_from_is_err_and c.from_residual.result c.from_residual.ensures.1 in
    rw (p.1, p.2) (stops-as c.in_err-made.field-0.0 _ (λ k. proof_step portable (tables_of c.args.env.now) c.args.at code.TermSave c.args.t st ≡ Err k)
    (λ k h. term-save-of portable (tables_of c.args.env.now) c.args.at c.args.t st (Err k) h) (c.in_err-made.ensures.built st ctx is))

pub returns-clause-ids : goal.returns-clause-ids
returns-clause-ids c = (
  c.in_ok-made.ensures.ids.0,
  rw c.in_ok-push.ensures.ok (items-in-both c.build.new.nodes c.build.new.stack.items (Expr c.in_ok-made.made ∷ []) c.in_ok-made.ensures.ids.1 (c.in_ok-made.ensures.ids.0, tt)),
)

pub returns-clause-plain : goal.returns-clause-plain
returns-clause-plain c st ctx is =
    rw (c.in_ok-push.ensures.ok, items-push c.build.new.nodes c.build.new.stack.items (Expr c.in_ok-made.made))
    (term-of portable (tables_of c.args.env.now) c.args.at c.args.t st _ (c.in_ok-made.ensures.built st ctx is))

pub returns-clause-saved : goal.returns-clause-saved
returns-clause-saved c st ctx is =
    rw (c.in_ok-push.ensures.ok, items-push c.build.new.nodes c.build.new.stack.items (Expr c.in_ok-made.made))
    (term-save-of portable (tables_of c.args.env.now) c.args.at c.args.t st _ (c.in_ok-made.ensures.built st ctx is))

-- ---- what the calls ask

pub build-requires-clause-over : goal.build-requires-clause-over
build-requires-clause-over c = c.requires.over

pub build-requires-clause-stack : goal.build-requires-clause-stack
build-requires-clause-stack c = c.requires.stack

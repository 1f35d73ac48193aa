use Rattle.mz_pmachine.proofs.end.check_target.Goals as goal

pub returns-in-Axiom : goal.returns-in-Axiom
returns-in-Axiom c st ctx = rw c.in-Axiom.is (c.check_claim.ensures st ctx)

pub returns-in-Definition : goal.returns-in-Definition
returns-in-Definition c st ctx = rw c.in-Definition.is (c.check_body.ensures st ctx)

use Rattle.mz_spec_declarations.proofs.declare.assertion_of.Goals as goal

pub assertion_with-requires-clause-new : goal.assertion_with-requires-clause-new
assertion_with-requires-clause-new c = c.in_ok-check_new.ensures

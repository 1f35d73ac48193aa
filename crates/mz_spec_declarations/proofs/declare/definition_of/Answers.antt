use Rattle.mz_spec_declarations.proofs.declare.definition_of.Goals as goal

pub definition_with-requires-clause-new : goal.definition_with-requires-clause-new
definition_with-requires-clause-new c = c.in_ok-check_new_term.ensures

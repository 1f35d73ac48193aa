use Rattle.mz_spec_declarations.proofs.declare.term_of.Goals as goal

pub term_with-requires-clause-new : goal.term_with-requires-clause-new
term_with-requires-clause-new c = c.in_ok-check_new_term.ensures

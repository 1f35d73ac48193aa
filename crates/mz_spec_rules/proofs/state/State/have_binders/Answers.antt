use Rattle.std.proofs.Common.{sym, subst}
use Rattle.mz_spec_variables.specs.Code.{AreGrouped}
use Rattle.mz_spec_rules.proofs.state.State.have_binders.Goals as goal

pub are_binders-requires-clause-grouped : goal.are_binders-requires-clause-grouped
are_binders-requires-clause-grouped c = subst AreGrouped (sym c.deref.ensures.value) c.requires.grouped

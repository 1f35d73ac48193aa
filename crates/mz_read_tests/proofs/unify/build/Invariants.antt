use Rattle.std.proofs.Common.{◌≡◌}
use Rattle.mz_logic_theory.specs.Words.{signatures_of}
use Rattle.mz_store.specs.Sharing.{AreIn, IsOver}
use Rattle.mz_store.specs.declared.item.DepsMode.TheVariants as of
use Rattle.mz_read_tests.proofs.unify.build.Given as goal

abbrev pub invariant-loop-built : goal.invariant-loop-built
invariant-loop-built g l = record {
  over : IsOver (signatures_of (g.T.Terms.all_terms l.terms)) l.store;
  ids : AreIn l.store l.ids.items;
  mode : l.store.mode ≡ of.All;
}

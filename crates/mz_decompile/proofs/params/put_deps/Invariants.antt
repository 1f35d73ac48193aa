use Rattle.std.proofs.Common.{drop}
use Rattle.mz_decompile_text.specs.Naming.{vocabulary_by}
use Rattle.mz_decompile.specs.Adding.{AreAdded}
use Rattle.mz_decompile.proofs.Lists.{deps-from}
use Rattle.mz_decompile.proofs.params.put_deps.Given as goal

abbrev pub invariant-places : goal.invariant-places
invariant-places l = AreAdded l.initial.phrases l.phrases l.inner.items (deps-from (vocabulary_by l.names) l.initial.bits l.places)
    (deps-from (vocabulary_by l.names) l.bits (drop l.place-index l.places))

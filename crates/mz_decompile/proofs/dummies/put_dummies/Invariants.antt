use Rattle.std.proofs.Common.{◌+◌, drop, map}
use Rattle.mz_machine_theory.specs.Spells.{dummy_of}
use Rattle.mz_decompile_text.specs.Phrasing.{binders}
use Rattle.mz_decompile_text.specs.Naming.{vocabulary_by}
use Rattle.mz_decompile.specs.Adding.{AreAdded}
use Rattle.mz_decompile.proofs.dummies.put_dummies.Given as goal

abbrev pub invariant-sorts : goal.invariant-sorts
invariant-sorts l = AreAdded l.initial.phrases l.phrases l.inner.items (binders (vocabulary_by l.names) l.params (map dummy_of l.sorts))
    (binders (vocabulary_by l.names) (l.params + l.i) (map dummy_of (drop l.i l.sorts)))

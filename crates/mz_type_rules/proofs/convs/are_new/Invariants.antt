use Rattle.std.proofs.Common.{◌↔◌, drop}
use Rattle.mz_mmu_theory.specs.Rules.{AreNew}
use Rattle.mz_type_rules.proofs.Differing.{AreNewTo}
use Rattle.mz_type_rules.proofs.convs.are_new.Given as goal

abbrev pub invariant-loop-place : goal.invariant-loop-place
invariant-loop-place l = AreNewTo l.ctx l.es l.seen (drop l.place-index l.place-items) ↔ AreNew l.ctx l.es l.vars

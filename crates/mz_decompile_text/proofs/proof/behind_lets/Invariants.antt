use Rattle.mz_decompile_text.specs.Naming.{vocabulary_by}
use Rattle.mz_decompile_text.specs.Gathering.{IsBehind}
use Rattle.mz_decompile_text.proofs.proof.behind_lets.Given as goal

abbrev pub invariant-lets : goal.invariant-lets
invariant-lets l = IsBehind (vocabulary_by l.names) l.initial.phrases l.phrases l.told l.lets l.root l.k l.phrase l.weight

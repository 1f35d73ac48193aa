use Rattle.std.proofs.Common.{◌≡◌, ◌≤◌, take}
use Rattle.mz_spec_theory.specs.State.{env_of}
use Rattle.mz_match_theory.specs.Verdict.{count as count_lem}
use Rattle.mz_match_rows.proofs.count.count.Given as goal

abbrev pub invariant-declarations : goal.invariant-declarations
invariant-declarations l = record {
  counted : l.found ≡ count_lem l.fn.kind (take l.i (env_of l.fn.spec));
  few : l.found ≤ l.i;
}

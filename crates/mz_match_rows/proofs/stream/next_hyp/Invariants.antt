use Rattle.std.proofs.Common.{◌≤◌, ◌-◌, ◌≡◌, ℕ, length, None}
use Rattle.mz_cmd.specs.declared.code.UnifyCode.TheVariants as codes
use Rattle.mz_match_rows.specs.Streams.{Passes, Says, step_at}
use Rattle.mz_match_rows.proofs.stream.next_hyp.Given as goal

abbrev pub invariant-commands : goal.invariant-commands
invariant-commands l = record {
  within : l.at ≤ length l.file;
  hyp : (n to v next : ℕ) → Passes l.file n l.from to → Says l.file to codes.Hyp v next → (m : ℕ) × Passes l.file m l.at to;
  end : (n to : ℕ) → Passes l.file n l.from to → step_at l.file to ≡ None → (m : ℕ) × Passes l.file m l.at to;
}

abbrev pub decreases-commands : goal.decreases-commands
decreases-commands l = length l.file - l.at

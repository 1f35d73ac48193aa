use Rattle.std.proofs.Common.{◌≤◌, ℕ, List, length, take, reverse}
use Rattle.std.specs.Prelude.{◌↔◌}
use Rattle.mz_logic_theory.specs.Tree.{Tree}
use Rattle.mz_logic_theory.specs.View.{trees}
use Rattle.mz_logic_theory.proofs.Offered.{exprs_of}
use Rattle.mz_machine_theory.specs.Spells.{Marks, trees_of}
use Rattle.mz_spec_proved_theory.specs.AlphaTrees.{SameTrees}
use Rattle.mz_match_rows.specs.Streams.{Passes, HypsAreSaid}
use Rattle.mz_match_rows.specs.Beside.{HypsSaidAt, IsHypAt, IsPlainStream}
use Rattle.mz_match_rows.specs.Numbers.{AreRight}
use Rattle.mz_match_rows.proofs.expression.same_hyps.Given as goal

abbrev pub invariant-hyps : goal.invariant-hyps
invariant-hyps l = record {
  within : l.at ≤ length l.sides.mmb.now;
  few : l.left ≤ length (exprs_of l.fn.hyps);
  known : IsHypAt l.sides l.fn.hyps l.left l.known;
  right : AreRight l.sides l.fn.hyps l.left l.formulas;
  goes_on : (m : Marks) (hs : List Tree) → IsPlainStream l.sides m → HypsSaidAt l.sides m hs
      → (rest : List Tree) × (n : ℕ) × (q : ℕ) × Passes l.sides.mmb.now n l.at q × HypsAreSaid l.sides.mmb.now l.sides.params m q rest
      × (SameTrees l.sides.publics.now l.fn.hyps (trees_of (reverse hs)) ↔ SameTrees l.sides.publics.now (trees (take l.left (exprs_of l.fn.hyps))) (trees_of (reverse rest)));
}

abbrev pub decreases-hyps : goal.decreases-hyps
decreases-hyps l = l.left

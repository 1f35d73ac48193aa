use Rattle.std.proofs.Common.{ℕ, ◌≡◌, ◌↔◌, ◌+◌, ◌*◌, Contains, drop, length}
use Rattle.mz_logic_theory.specs.Tree.{listed, past, size, trees_size}
use Rattle.mz_logic_theory.specs.Declaration.{signatures}
use Rattle.mz_logic_theory.specs.Variables.{InSomeFV}
use Rattle.mz_logic_theory.specs.Legality.{AllInRange}
use Rattle.mz_logic_free.specs.Known.{IsBoundBefore}
use Rattle.mz_logic_free.proofs.Knowing.{Inside}
use Rattle.mz_logic_free.proofs.free.+covers.Given as goal

abbrev pub decreases-covers_operands : goal.decreases-covers_operands
decreases-covers_operands l = 2 * trees_size l.es.now + 1

abbrev pub decreases-covers : goal.decreases-covers
decreases-covers l = 2 * size l.expr.now

abbrev pub invariant-covers_operands-loop-i : goal.invariant-covers_operands-loop-i
invariant-covers_operands-loop-i l = record {
  left : ((x : ℕ) → InSomeFV (signatures l.env) l.ctx x l.params l.es (drop l.i l.params) (past l.i l.es) → Contains l.initial.covered.variables x)
      ↔ ((x : ℕ) → InSomeFV (signatures l.env) l.ctx x l.params l.es l.params l.es → Contains l.initial.covered.variables x);
  inside : Inside l.ctx l.params l.es l.initial.covered.variables l.initial.covered.known l.bound l.known l.covered.variables l.covered.known;
  there : AllInRange (signatures l.env) (length l.ctx) (past l.i l.es);
  before : IsBoundBefore l.params l.i l.bound;
  many : length (listed l.es) ≡ length l.binders;
}

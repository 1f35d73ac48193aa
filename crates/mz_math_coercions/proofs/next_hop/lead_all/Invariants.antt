use Rattle.std.proofs.Common.{ℕ}
use Rattle.mz_math_coercions.specs.Firsts.{IsChanged, IsOfStarts, first_of}
use Rattle.mz_math_coercions.specs.Reached.{Has}
use Rattle.mz_math_coercions.proofs.Leading.{AllBefore}
use Rattle.mz_math_coercions.proofs.next_hop.lead_all.Given as goal

abbrev pub invariant-starts : goal.invariant-starts
invariant-starts l = record {
  others : IsChanged l.fn.firsts l.firsts (IsOfStarts l.starts l.ends);
  so_far : AllBefore (λ s p. (t : ℕ) → Has l.ends t → IsOfStarts l.starts l.ends s t (first_of l.firsts s t)) l.starts l.i;
}

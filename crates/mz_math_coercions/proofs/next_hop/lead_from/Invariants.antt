use Rattle.std.proofs.Common.{◌≡◌, Some}
use Rattle.mz_math_coercions.specs.Firsts.{IsChanged, IsOfStart, first_of}
use Rattle.mz_math_coercions.proofs.Leading.{AllBefore}
use Rattle.mz_math_coercions.proofs.next_hop.lead_from.Given as goal

abbrev pub invariant-ends : goal.invariant-ends
invariant-ends l = record {
  others : IsChanged l.fn.firsts l.firsts (IsOfStart l.from l.place l.ends);
  so_far : AllBefore (λ t p. first_of l.firsts l.from t ≡ Some l.place) l.ends l.i;
}

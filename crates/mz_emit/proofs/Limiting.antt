-- The limits, one statement after another.
use Rattle.std.specs.Prelude.{Some, None, option_map, slice_get}
use Rattle.std.proofs.Common.{ℕ, zero, suc, ◌≡◌, ◌+◌, ◌≤◌, ◌<◌, List, [], ◌∷◌, length, drop, sym, ap, subst, inl, inr, arith, add-one}
use Rattle.std.proofs.Math.Seq.{drop-cons}
use Rattle.std.proofs.Math.ListN.{drop_of_length-le}
use Rattle.mz_base.specs.Checks.{AllHold, FailsFirst}
use Rattle.mz_base.proofs.Offered.{Decides, decides-whole, fails-before, fails-after, all_hold-both}
use Rattle.mz_logic_theory.specs.Declaration.{sorts}
use Rattle.mz_mmu_theory.specs.Statements.{Statement}
use Rattle.mz_type.specs.TypedText.{statement_at}
use Rattle.mz_mmu_theory.specs.Weight.{Limit, sort_limit, parameter_limit, bound_limit, byte_limit, Passed, sort_count, parameter_count, bound_count, byte_bound, each_within, limit_checks}
use Rattle.mz_emit_theory.specs.Limits.{over}

-- from the i-th on the first is that one
from_there : (ss : List Statement) (i : ℕ) → i < length ss → drop i ss ≡ statement_at ss i ∷ drop (i + 1) ss
from_there ss i below = rw add-one (drop-cons ss i _ below)

-- what is said of the i-th statement
pub told_of : {B : Type 0} (f : Statement → B) (ss : List Statement) (i : ℕ) (b : B) → option_map f (slice_get ss i) ≡ Some b → f (statement_at ss i) ≡ b
told_of f [] i b e = absurd (let n : option_map f None ≡ Some b = e in cc)
told_of f (s ∷ ss) zero b e = let n : Some (f s) ≡ Some b = e in cc
told_of f (s ∷ ss) (suc i) b e = told_of f ss i b e

-- ---- a count of each statement

module _ (l : Limit) (amount : Statement → ℕ) (most : ℕ) (ss : List Statement) where
  -- the statements from the i-th on decide
  abbrev pub Left : ℕ → Type 0
  Left i = Decides (each_within l amount most (drop i ss)) (each_within l amount most ss)

  pub all_left : Left 0
  all_left = decides-whole (each_within l amount most ss)

  cut : (i : ℕ) → i < length ss → each_within l amount most (drop i ss) ≡ each_within l amount most (statement_at ss i ∷ drop (i + 1) ss)
  cut i below = ap (each_within l amount most) (from_there ss i below)

  pub next : (i : ℕ) → i < length ss → amount (statement_at ss i) ≤ most → Left i → Left (i + 1)
  next i below few d =
      let at : Decides (each_within l amount most (statement_at ss i ∷ drop (i + 1) ss)) (each_within l amount most ss)
      = subst (λ cs. Decides cs (each_within l amount most ss)) (cut i below) d in
      record { fails = λ r f. at.fails r (inr (few, f)); holds = λ a. at.holds (few, a) }

  pub stops : (i n : ℕ) → i < length ss → n ≡ amount (statement_at ss i) → most < n → Left i → FailsFirst (each_within l amount most ss) (over l n)
  stops i n below e many d =
      let at : Decides (each_within l amount most (statement_at ss i ∷ drop (i + 1) ss)) (each_within l amount most ss)
      = subst (λ cs. Decides cs (each_within l amount most ss)) (cut i below) d in
      at.fails (over l n) (inl ((λ few. omega arith), ap (over l) e))

  pub ends : (i : ℕ) → length ss ≤ i → Left i → AllHold (each_within l amount most ss)
  ends i past d = d.holds (subst (λ ts. AllHold (each_within l amount most ts)) (sym (drop_of_length-le ss past)) tt)

-- ---- the sorts

pub sorts_cut : (ss : List Statement) (i : ℕ) → i < length ss
    → sort_count (drop i ss) ≡ length (sorts ((statement_at ss i).decl ∷ [])) + sort_count (drop (i + 1) ss)
sorts_cut ss i below = ap sort_count (from_there ss i below)

pub sorts_end : (ss : List Statement) (i : ℕ) → length ss ≤ i → sort_count (drop i ss) ≡ 0
sorts_end ss i past = ap sort_count (drop_of_length-le ss past)

-- ---- all of them

module _ (ss : List Statement) where
  pub many_sorts : (n : ℕ) → n ≡ sort_count ss → 128 < n → FailsFirst (limit_checks ss) (over sort_limit n)
  many_sorts n e many = inl ((λ few. omega arith), ap (over sort_limit) e)

  pub many_params : (r : Passed) → sort_count ss ≤ 128 → FailsFirst (each_within parameter_limit parameter_count 65535 ss) r → FailsFirst (limit_checks ss) r
  many_params r few f = inr (few, fails-before (each_within parameter_limit parameter_count 65535 ss) _ r f)

  pub many_bound : (r : Passed) → sort_count ss ≤ 128 → AllHold (each_within parameter_limit parameter_count 65535 ss)
      → FailsFirst (each_within bound_limit bound_count 55 ss) r → FailsFirst (limit_checks ss) r
  many_bound r few a f = inr (
    few,
    fails-after (each_within parameter_limit parameter_count 65535 ss) _ r a
        (fails-before (each_within bound_limit bound_count 55 ss) _ r f),
  )

  pub many_bytes : (n : ℕ) → sort_count ss ≤ 128 → AllHold (each_within parameter_limit parameter_count 65535 ss)
      → AllHold (each_within bound_limit bound_count 55 ss) → n ≡ byte_bound ss → 4294967295 < n → FailsFirst (limit_checks ss) (over byte_limit n)
  many_bytes n few a b e many = inr (
    few,
    fails-after (each_within parameter_limit parameter_count 65535 ss) _ _ a
        (fails-after (each_within bound_limit bound_count 55 ss) _ _ b (inl ((λ le. omega arith), ap (over byte_limit) e))),
  )

  pub none_passes : sort_count ss ≤ 128 → AllHold (each_within parameter_limit parameter_count 65535 ss)
      → AllHold (each_within bound_limit bound_count 55 ss) → byte_bound ss ≤ 4294967295 → AllHold (limit_checks ss)
  none_passes few a b short = (
    few,
    all_hold-both (each_within parameter_limit parameter_count 65535 ss) _ a
        (all_hold-both (each_within bound_limit bound_count 55 ss) _ b (short, tt)),
  )

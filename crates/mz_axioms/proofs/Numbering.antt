-- The lists that are made of the rows.
use Rattle.std.proofs.Common.{◌≤◌, ◌<◌, ◌^◌, suc, Bool, true, false, List, [], ◌∷◌, ◌++◌, length, sym, subst, arith}
use Rattle.std.specs.Prelude.{All, flat_map, if◌then◌else◌}
use Rattle.std.proofs.lemmas.List.{length-map}
use Rattle.std.proofs.lemmas.List.Elements.{All-nil, All-cons, All-append, All-head, All-tail, All-weaker}
use Rattle.mz_axioms.specs.Lists.{TheoremSupport, AreSmall}
use Rattle.mz_axioms.specs.Places.{is_listed}
use Rattle.mz_axioms.specs.Rows.{RowTold, number_at, support_of, supports_at, supports_of, AreFew}

lists-few : (whole rows : List RowTold) → length (flat_map (supports_at whole) rows) ≤ length rows
lists-few whole [] = omega arith
lists-few whole (r ∷ rows) = go (is_listed r.place) (lists-few whole rows)
  where
    go : (b : Bool) → length (flat_map (supports_at whole) rows) ≤ length rows → length ((if b then support_of whole r ∷ [] else []) ++ flat_map (supports_at whole) rows) ≤ suc (length rows)
    go true h = omega (arith, h)
    go false h = omega (arith, h)

abbrev IsShort : TheoremSupport → Type 0
IsShort s = length s.axioms < 2 ^ 32

lists-short : (whole rows : List RowTold) → All (λ (r : RowTold). length r.axioms < 2 ^ 32) rows → All IsShort (flat_map (supports_at whole) rows)
lists-short whole [] h = All-nil IsShort
lists-short whole (r ∷ rows) h =
    All-append IsShort (supports_at whole r) (flat_map (supports_at whole) rows) (one (is_listed r.place))
    (lists-short whole rows (All-tail (λ (x : RowTold). length x.axioms < 2 ^ 32) r rows h))
  where
    short : IsShort (support_of whole r)
    short =
        subst (λ n. n < 2 ^ 32) (sym (length-map r.axioms (number_at whole))) (All-head (λ (x : RowTold). length x.axioms < 2 ^ 32) r rows h)

    one : (b : Bool) → All IsShort (if b then support_of whole r ∷ [] else [])
    one true = All-cons IsShort (support_of whole r) [] short (All-nil IsShort)
    one false = All-nil IsShort

pub small : (rows : List RowTold) → length rows < 2 ^ 32 → AreFew rows → AreSmall (supports_of rows)
small rows many few = record {
  theorems = (let a = lists-few rows rows in omega (arith, a, many));
  axioms = lists-short rows rows
      (All-weaker (λ (r : RowTold). length r.axioms ≤ length rows) (λ (r : RowTold). length r.axioms < 2 ^ 32) (λ r le. omega (arith, le, many)) rows few);
}

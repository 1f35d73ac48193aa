-- What is kept of the lines so far: what they say, how they go on, and their rows.
use Rattle.std.proofs.Common.{◌≡◌, ◌≤◌, ◌+◌, ◌-◌, ℕ, Bool, true, false, cond, not, List, [], ◌∷◌, ◌++◌, length, Some, None, refl, sym, ap, subst, ◌∙◌, arith, length-append}
use Rattle.std.specs.Prelude.{◌==◌, ◌&&◌}
use Rattle.std.proofs.lemmas.Bool.{eqb-false}
use Rattle.std.proofs.lemmas.Option.{same_Some}
use Rattle.mz_base.specs.Checks.{AllHold}
use Rattle.mz_asm.specs.declared.kind.Kind.{Kind}
use Rattle.mz_asm.specs.declared.kind.Kind.TheVariants as kinds
use Rattle.mz_asm.specs.declared.line.Line.{Line}
use Rattle.mz_asm.specs.declared.line.Line.TheVariants as lines
use Rattle.mz_asm.specs.declared.rows.Rows.{Rows}
use Rattle.mz_asm.specs.declared.expected.Want.{Want}
use Rattle.mz_asm.specs.declared.expected.Want.TheVariants as wants
use Rattle.mz_asm.specs.Statements.{is_sort, has_result, has_streams}
use Rattle.mz_asm.specs.Rows.{no_rows, rows_after, rows_of, most_of, HasRoom, IsInRange, TakesRow, number_checks}
use Rattle.mz_asm.specs.Progress.{begun, next, next_of, next_from}
use Rattle.mz_asm.specs.Making.{Made, nothing_made, outcome_parts, row_parts, with_end, with_line}
use Rattle.mz_asm.specs.Assembling.{AreFitting}
use Rattle.mz_asm.proofs.Grammar.{path-more}
use Rattle.mz_asm.proofs.Keeping.{Stands, stands-more}

-- how many parameters are left
abbrev pub left_of : Want → ℕ
left_of (wants.Words kind left) = left
left_of _ = 0

pub record Kept (m : Made) (ls : List Line) : Type 0 where
  pub stands : Stands m ls
  pub path : next_from (Some wants.Head) ls ≡ Some m.want
  pub rows : m.rows ≡ rows_of no_rows ls
  pub fitting : AreFitting no_rows ls
  pub few : length m.params + left_of m.want ≤ 65535
  pub sorts : m.rows.sorts ≡ length m.parts.sorts
  pub few_sorts : length m.parts.sorts ≤ 128

pub kept-nothing : Kept nothing_made []
kept-nothing = record { stands = ([], refl, refl); path = refl; rows = refl; fitting = tt; few = omega arith; sorts = refl; few_sorts = omega arith }

-- ---- what is left after a line

abbrev LeftIs : Line → ℕ → ℕ → Type 0
LeftIs (lines.Head kind row number) before after = after ≤ number
LeftIs (lines.Param x) before after = after + 1 ≤ before
LeftIs _ before after = after ≡ 0

begun-left : (kind : Kind) (number : ℕ) → left_of (begun kind number) ≤ number
begun-left kind number = go (is_sort kind)
  where
    go : (b : Bool) → left_of (cond b wants.Head (wants.Words kind number)) ≤ number
    go true = omega arith
    go false = omega arith

next-of-left : (v : Want) (l : Line) (w : Want) → next_of v l ≡ Some w → LeftIs l (left_of v) (left_of w)
next-of-left wants.Head (lines.Head kind row number) w e = subst (λ (x : Want). left_of x ≤ number) (same_Some (begun kind number) w e) (begun-left kind number)
next-of-left wants.Head lines.End w e = sym (ap left_of (same_Some wants.Nothing w e))
next-of-left (wants.Words kind left) (lines.Param x) w e = go (left == 0) refl e
  where
    go : (z : Bool) → (left == 0) ≡ z → cond z None (Some (wants.Words kind (left - 1))) ≡ Some w → left_of w + 1 ≤ left
    go true at e = absurd cc
    go false at e =
        let some : left ≡ 0 → ⊥ = eqb-false _ _ at in
        let is : left - 1 ≡ left_of w = ap left_of (same_Some (wants.Words kind (left - 1)) w e) in
        omega (arith, some, is)
next-of-left (wants.Words kind left) (lines.Outcome x) w e = go (left == 0) (has_streams kind) e
  where
    go : (z b : Bool) → cond z (Some (cond b (wants.Unify kind) wants.Head)) None ≡ Some w → left_of w ≡ 0
    go false b e = absurd cc
    go true true e = sym (ap left_of (same_Some (wants.Unify kind) w e))
    go true false e = sym (ap left_of (same_Some wants.Head w e))
next-of-left (wants.Unify kind) (lines.Unify c v) w e = sym (ap left_of (same_Some (wants.Unify kind) w e))
next-of-left (wants.Unify kind) lines.UnifyEnd w e = sym (ap left_of (same_Some (wants.Proof kind) w e))
next-of-left (wants.Proof kind) (lines.Proof c v) w e = sym (ap left_of (same_Some (wants.Proof kind) w e))
next-of-left (wants.Proof kind) lines.ProofEnd w e = sym (ap left_of (same_Some wants.Head w e))
next-of-left _ l w e = absurd cc

-- less was there before
from-none : (l : Line) (left after : ℕ) → LeftIs l 0 after → LeftIs l left after
from-none (lines.Param x) left after is = absurd (omega (arith, is))
from-none _ left after is = is

next-left : (v : Want) (l : Line) (w : Want) → next v l ≡ Some w → LeftIs l (left_of v) (left_of w)
next-left wants.Head l w e = next-of-left wants.Head l w e
next-left (wants.Words kind left) l w e = go ((left == 0) && not (has_result kind)) e
  where
    go : (b : Bool) → next_of (cond b (wants.Unify kind) (wants.Words kind left)) l ≡ Some w → LeftIs l left (left_of w)
    go true e = from-none l left (left_of w) (next-of-left (wants.Unify kind) l w e)
    go false e = next-of-left (wants.Words kind left) l w e
next-left (wants.Unify kind) l w e = next-of-left (wants.Unify kind) l w e
next-left (wants.Proof kind) l w e = next-of-left (wants.Proof kind) l w e
next-left wants.Nothing l w e = absurd cc

pub most-few : (kind : Kind) (n : ℕ) → n ≤ most_of kind → n ≤ 65535
most-few kind n le = go (is_sort kind) le
  where
    go : (b : Bool) → n ≤ cond b 15 65535 → n ≤ 65535
    go true le = omega (arith, le)
    go false le = le

end-params : (v : Want) (m : Made) → (with_end v m).params ≡ m.params
end-params (wants.Proof kind) m = refl
end-params _ m = refl

few-more : (m : Made) (l : Line) (w : Want) → IsInRange m.rows l → LeftIs l (left_of m.want) (left_of w) → length m.params + left_of m.want ≤ 65535 → length (with_line m l w).params + left_of w ≤ 65535
few-more m (lines.Head kind row number) w range is few = omega (arith, most-few kind number range.1, is)
few-more m (lines.Param x) w range is few = let long = length-append m.params (x ∷ []) in omega (arith, long, is, few)
few-more m lines.ProofEnd w range is few = let same = ap length (end-params m.want m) in omega (arith, same, is, few)
few-more m _ w range is few = omega (arith, is, few)

-- ---- rows

end-rows : (v : Want) (m : Made) → (with_end v m).rows ≡ m.rows
end-rows (wants.Proof kind) m = refl
end-rows _ m = refl

rows-line : (m : Made) (l : Line) (w : Want) → (with_line m l w).rows ≡ rows_after m.rows l
rows-line m lines.ProofEnd w = end-rows m.want m
rows-line m _ w = refl

pub rows-more : (rows : Rows) (ls : List Line) (l : Line) → rows_of rows (ls ++ (l ∷ [])) ≡ rows_after (rows_of rows ls) l
rows-more rows [] l = refl
rows-more rows (k ∷ ls) l = rows-more (rows_after rows k) ls l

pub fitting-more : (rows : Rows) (ls : List Line) (l : Line) → AreFitting rows ls → IsInRange (rows_of rows ls) l → TakesRow (rows_of rows ls) l → AreFitting rows (ls ++ (l ∷ []))
fitting-more rows [] l fit range row = (range, row, tt)
fitting-more rows (k ∷ ls) l (a, b, fit) range row = (a, b, fitting-more (rows_after rows k) ls l fit range row)

-- ---- sorts

outcome-sorts : (w : Want) (m : Made) (x : _) → (outcome_parts w m x).sorts ≡ m.parts.sorts
outcome-sorts wants.Head m x = refl
outcome-sorts _ m x = refl

row-sorts : (b : Bool) (m : Made) (body : List ℕ) (code : ℕ) → (row_parts b m body code).sorts ≡ m.parts.sorts
row-sorts true m body code = refl
row-sorts false m body code = refl

end-sorts : (v : Want) (m : Made) → (with_end v m).parts.sorts ≡ m.parts.sorts
end-sorts (wants.Proof kind) m = row-sorts (has_result kind) m _ _
end-sorts _ m = refl

abbrev SortsFit : Made → Type 0
SortsFit m = (m.rows.sorts ≡ length m.parts.sorts) × (length m.parts.sorts ≤ 128)

head-sorts : (kind : Kind) (m : Made) (row number : ℕ) (w : Want) → HasRoom (is_sort kind) m.rows → SortsFit m → SortsFit (with_line m (lines.Head kind row number) w)
head-sorts kinds.Sort m row number w room (is, few) = let long = length-append m.parts.sorts (number ∷ []) in (omega (arith, long, is), omega (arith, long, is, room))
head-sorts _ m row number w room fit = fit

sorts-more : (m : Made) (l : Line) (w : Want) → IsInRange m.rows l → SortsFit m → SortsFit (with_line m l w)
sorts-more m (lines.Head kind row number) w range fit = head-sorts kind m row number w range.2 fit
sorts-more m (lines.Outcome x) w range (is, few) = let same = ap length (outcome-sorts w m x) in (omega (arith, same, is), omega (arith, same, few))
sorts-more m lines.ProofEnd w range (is, few) =
    let same = ap length (end-sorts m.want m) in
    let rows = ap (λ (r : Rows). r.sorts) (end-rows m.want m) in
    (omega (arith, same, is, rows), omega (arith, same, few))
sorts-more m _ w range fit = fit

-- ---- one line more

pub kept-more : (m : Made) (ls : List Line) (l : Line) (w : Want) → Kept m ls → next m.want l ≡ Some w → AllHold (number_checks m.rows l) → Kept (with_line m l w) (ls ++ (l ∷ []))
kept-more m ls l w kept comes (range, (row, _)) =
    let sorts = sorts-more m l w range (kept.sorts, kept.few_sorts) in
    record {
      stands = stands-more m ls l w kept.stands comes;
      path = path-more ls m.want w l kept.path comes;
      rows = rows-line m l w ∙ ap (λ (r : Rows). rows_after r l) kept.rows ∙ sym (rows-more no_rows ls l);
      fitting = fitting-more no_rows ls l kept.fitting (subst (λ (r : Rows). IsInRange r l) kept.rows range) (subst (λ (r : Rows). TakesRow r l) kept.rows row);
      few = few-more m l w range (next-left m.want l w comes) kept.few;
      sorts = sorts.0;
      few_sorts = sorts.1;
    }

-- Each text is a listing, or breaks a rule.
use Rattle.std.proofs.Common.{◌≡◌, ◌≤◌, ◌<◌, ◌+◌, ◌^◌, ◌⊎◌, ℕ, zero, suc, Bool, true, false, cond, not, eqb, List, [], ◌∷◌, length, Option, Some, None, refl, arith, inl, inr}
use Rattle.std.specs.Prelude.{◌==◌}
use Rattle.std.specs.List.{before_first}
use Rattle.std.proofs.lemmas.List.{length-drop}
use Rattle.std.proofs.lemmas.Bool.{eqb-true, eq-eqb, cases_lt}
use Rattle.mz_base.specs.Checks.{AllHold, FailsFirst, AreDecided}
use Rattle.mz_base.proofs.Offered.{Decided, all_hold-or_fails, at_most-decided, below-decided, three-decided, true-decided}
use Rattle.mz_layout_tables.specs.Normal.{file_length, file_of}
use Rattle.mz_asm.specs.declared.line.Line.{Line}
use Rattle.mz_asm.specs.declared.line.Line.TheVariants as lines
use Rattle.mz_asm.specs.declared.rows.Rows.{Rows}
use Rattle.mz_asm.specs.declared.rule.A.{A}
use Rattle.mz_asm.specs.declared.rule.A.TheVariants as rules
use Rattle.mz_asm.specs.declared.expected.Want.{Want}
use Rattle.mz_asm.specs.declared.expected.Want.TheVariants as wants
use Rattle.mz_asm.specs.Reading.{line_in}
use Rattle.mz_asm.specs.Rows.{next_row, most_of, HasRoom, IsInRange, TakesRow, number_checks}
use Rattle.mz_asm.specs.Statements.{Statement, is_sort, parts_of}
use Rattle.mz_asm.specs.Progress.{next}
use Rattle.mz_asm.specs.Making.{Made, nothing_made, with_line, IsAdded}
use Rattle.mz_asm.specs.Assembling.{newline_at, behind_line, Says, Breaks, IsBinaryOf, IsTooLong}
use Rattle.mz_asm.proofs.Looping.{HasRead, read-nothing, goes-on, no-newline, breaks-form, breaks-number, whole, cut-off}

-- ---- the numbers of a line are right or not

room-decided : (b : Bool) (rows : Rows) → Decided (HasRoom b rows)
room-decided true rows = below-decided rows.sorts 128
room-decided false rows = inl tt

range-decided : (rows : Rows) (l : Line) → Decided (IsInRange rows l)
range-decided rows (lines.Head kind row number) = three-decided (at_most-decided row 4294967295) (at_most-decided number (most_of kind)) (room-decided (is_sort kind) rows)
range-decided rows (lines.Unify code value) = at_most-decided value 4294967295
range-decided rows (lines.Proof code value) = at_most-decided value 4294967295
range-decided rows _ = inl tt

same-decided : (n m : ℕ) → Decided (m ≡ n)
same-decided n m = elim (true-decided (eqb m n)) [ inl e ↦ inl (eqb-true m n e) | inr other ↦ inr (λ is. other (eq-eqb m n is)) ]

row-decided : (rows : Rows) (l : Line) → Decided (TakesRow rows l)
row-decided rows (lines.Head kind row number) = same-decided (next_row rows kind) row
row-decided rows _ = inl tt

numbers-decided : (rows : Rows) (l : Line) → AreDecided (number_checks rows l)
numbers-decided rows l = (range-decided rows l, λ _. (row-decided rows l, λ _. tt))

want-decided : (want : Want) → Decided (want ≡ wants.Nothing)
want-decided wants.Nothing = inl refl
want-decided _ = inr (λ e. absurd cc)

-- ---- the lines of a text, one after another

abbrev pub HasEnd : List ℕ → Type 0
HasEnd text = ((ss : List Statement) × Says text ss) ⊎ ((number : ℕ) × (rule : A) × Breaks text number rule)

-- a line is added, after which it goes on, or breaks a rule
at-line : (text : List ℕ) (m : Made) (rest : List ℕ) (line : ℕ) → HasRead text m rest line → newline_at rest < length rest → ((new : Made) → IsAdded m (before_first (λ b. b == 10) rest) new → HasEnd text) → HasEnd text
at-line text m rest line read inside on = by-line (line_in (before_first (λ b. b == 10) rest)) refl
  where
    by-numbers : (l : Line) (w : Want) → line_in (before_first (λ b. b == 10) rest) ≡ Some l → next m.want l ≡ Some w → AllHold (number_checks m.rows l) ⊎ ((rule : A) × FailsFirst (number_checks m.rows l) rule) → HasEnd text
    by-numbers l w e f (inl right) = on (with_line m l w) (record { line = l; want = w; read = e; comes = f; right = right; new_is = refl })
    by-numbers l w e f (inr (rule, fails)) = inr (line, rule, breaks-number text m rest line read rule inside (record { line = l; want = w; read = e; comes = f; fails = fails }))

    by-next : (l : Line) → line_in (before_first (λ b. b == 10) rest) ≡ Some l → (o : Option Want) → next m.want l ≡ o → HasEnd text
    by-next l e None f = inr (line, rules.Form, breaks-form text m rest line read inside (inr (l, e, f)))
    by-next l e (Some w) f = by-numbers l w e f (all_hold-or_fails (number_checks m.rows l) (numbers-decided m.rows l))

    by-line : (o : Option Line) → line_in (before_first (λ b. b == 10) rest) ≡ o → HasEnd text
    by-line None e = inr (line, rules.Form, breaks-form text m rest line read inside (inl e))
    by-line (Some l) e = by-next l e (next m.want l) refl

-- the text ends with its listing, or before it
at-end : (text : List ℕ) (m : Made) (line : ℕ) → HasRead text m [] line → HasEnd text
at-end text m line read = elim (want-decided m.want) [
  | inl is ↦ (let done = whole text m [] line read refl is in inl (done.0, done.1))
  | inr other ↦ inr (line, rules.Form, cut-off text m [] line read refl other)
]

mark-within : (xs : List ℕ) → newline_at xs ≤ length xs
mark-within [] = omega arith
mark-within (x ∷ xs) = go (x == 10) (mark-within xs)
  where
    go : (b : Bool) → newline_at xs ≤ length xs → cond (not b) (1 + newline_at xs) 0 ≤ length (x ∷ xs)
    go true le = omega arith
    go false le = omega (arith, le)

reads : (fuel : ℕ) (text : List ℕ) (m : Made) (rest : List ℕ) (line : ℕ) → HasRead text m rest line → length rest ≤ fuel → HasEnd text
reads zero text m (c ∷ cs) line read few = absurd (omega (arith, few))
reads (suc fuel) text m (c ∷ cs) line read few = elim (cases_lt (newline_at (c ∷ cs)) (length (c ∷ cs))) [
  | inl inside ↦ at-line text m (c ∷ cs) line read inside (λ new added. reads fuel text new (behind_line (c ∷ cs)) (line + 1) (goes-on text m (c ∷ cs) line new read inside added) (let left = length-drop (newline_at (c ∷ cs) + 1) (c ∷ cs) in omega (arith, left, few)))
  | inr past ↦ (let most = mark-within (c ∷ cs) in inr (line, rules.Form, no-newline text m (c ∷ cs) line read (omega arith) (omega (arith, past, most))))
]
reads _ text m [] line read few = at-end text m line read

has-end : (text : List ℕ) → HasEnd text
has-end text = reads (length text) text nothing_made text 1 (read-nothing text) (omega arith)

pub some-answer : (text : List ℕ) → ((file : List ℕ) × IsBinaryOf text file) ⊎ ((n : ℕ) × IsTooLong text n) ⊎ ((n : ℕ) × (r : A) × Breaks text n r)
some-answer text = go (has-end text)
  where
    go : HasEnd text → ((file : List ℕ) × IsBinaryOf text file) ⊎ ((n : ℕ) × IsTooLong text n) ⊎ ((n : ℕ) × (r : A) × Breaks text n r)
    go (inr breaks) = inr (inr breaks)
    go (inl (ss, says)) = elim (cases_lt (file_length (parts_of ss)) (2 ^ 32)) [
      | inl short ↦ inl (file_of (parts_of ss), (ss, says, refl, short))
      | inr long ↦ inr (inl (file_length (parts_of ss), (ss, says, refl, long)))
    ]

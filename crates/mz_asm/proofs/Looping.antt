-- The lines of a text, one after another: what each turn of the loop keeps, and what its ends show.
use Rattle.std.proofs.Common.{◌≡◌, ◌≤◌, ◌<◌, ◌+◌, ◌*◌, ◌⊎◌, ℕ, List, [], ◌∷◌, ◌++◌, length, Some, None, Err, refl, sym, ap, subst, ◌∙◌, arith, inl, inr, length-append, length-drop}
use Rattle.std.specs.Prelude.{◌==◌}
use Rattle.std.specs.List.{before_first}
use Rattle.mz_base.proofs.Offered.{take-short}
use Rattle.mz_base.specs.Checks.{FailsFirst}
use Rattle.mz_asm.specs.declared.line.Line.{Line}
use Rattle.mz_asm.specs.declared.rows.Rows.{Rows}
use Rattle.mz_asm.specs.declared.rule.A.{A}
use Rattle.mz_asm.specs.declared.rule.A.TheVariants as rules
use Rattle.mz_asm.specs.declared.expected.Want.{Want}
use Rattle.mz_asm.specs.declared.expected.Want.TheVariants as wants
use Rattle.mz_asm.specs.Reading.{line_in}
use Rattle.mz_asm.specs.Rows.{no_rows, rows_of, IsInRange, TakesRow, number_checks}
use Rattle.mz_asm.specs.Statements.{Statement, listing_lines, parts_of}
use Rattle.mz_asm.specs.Progress.{next, next_from}
use Rattle.mz_asm.specs.declared.stop.Fault.{Fault}
use Rattle.mz_asm.specs.declared.stop.Fault.TheVariants as faults
use Rattle.mz_asm.specs.Answers.{told_at, ReadsLines}
use Rattle.mz_asm.specs.Making.{Made, nothing_made, with_line, IsAdded, IsNoNext, HasBadNumber, Adds}
use Rattle.mz_asm.specs.Assembling.{newline_at, BeginsWith, behind_line, HasLines, Begins, AreFitting, line_checks, Says, Breaks}
use Rattle.mz_asm.proofs.LineReading.{line-sound, line-complete, line-unique}
use Rattle.mz_asm.proofs.Grammar.{listing-path, stuck-begins-none}
use Rattle.mz_asm.proofs.Keeping.{Shape, stands-more, stands-begins}
use Rattle.mz_asm.proofs.Kept.{Kept, kept-nothing, kept-more}

-- the lines so far, and what is left of the text, at the line with this number
pub record HasRead (text : List ℕ) (m : Made) (rest : List ℕ) (line : ℕ) : Type 0 where
  pub before : List Line
  pub lines : HasLines text before rest
  pub kept : Kept m before
  pub number : line ≡ length before + 1
  pub long : 2 * length before + length rest ≤ length text

pub read-nothing : (text : List ℕ) → HasRead text nothing_made text 1
read-nothing text = record { before = []; lines = refl; kept = kept-nothing; number = refl; long = omega arith }

lines-more : (text : List ℕ) (ls : List Line) (rest : List ℕ) (l : Line) → HasLines text ls rest → BeginsWith rest l → HasLines text (ls ++ (l ∷ [])) (behind_line rest)
lines-more text [] rest l is begins = (subst (λ t. BeginsWith t l) (sym is) begins, ap behind_line is)
lines-more text (k ∷ ls) rest l (first, more) begins = (first, lines-more (behind_line text) ls rest l more begins)

no-line : (l : Line) → line_in [] ≡ Some l → ⊥
no-line l e = absurd cc

-- a line isn't empty
line-some : (bytes : List ℕ) (l : Line) → line_in bytes ≡ Some l → 0 < length bytes
line-some [] l e = absurd (no-line l e)
line-some (c ∷ cs) l e = omega arith

-- one line more
pub goes-on : (text : List ℕ) (m : Made) (rest : List ℕ) (line : ℕ) (new : Made) → HasRead text m rest line → newline_at rest < length rest → IsAdded m (before_first (λ b. b == 10) rest) new → HasRead text new (behind_line rest) (line + 1)
goes-on text m rest line new read inside added =
    let is = line-sound (before_first (λ b. b == 10) rest) added.line added.read in
    let some = line-some (before_first (λ b. b == 10) rest) added.line added.read in
    let short = take-short (newline_at rest) rest in
    let left = length-drop (newline_at rest + 1) rest in
    let many = length-append read.before (added.line ∷ []) in
    record {
      before = read.before ++ (added.line ∷ []);
      lines = lines-more text read.before rest added.line read.lines (inside, is);
      kept = subst (λ (x : Made). Kept x (read.before ++ (added.line ∷ []))) (sym added.new_is) (kept-more m read.before added.line added.want read.kept added.comes added.right);
      number = omega (arith, read.number, many);
      long = omega (arith, read.long, many, left, some, short, inside);
    }

module _ (text : List ℕ) (m : Made) (rest : List ℕ) (line : ℕ) (read : HasRead text m rest line) where
  breaks : (rule : A) → ((ss : List Statement) → rest ≡ [] → read.before ≡ listing_lines ss → ⊥) → FailsFirst (line_checks read.before rest) rule → Breaks text line rule
  breaks rule not_whole fails = record {
    before = read.before;
    rest = rest;
    lines = read.lines;
    begins = stands-begins m read.before read.kept.stands;
    fitting = read.kept.fitting;
    number_is = read.number;
    not_whole = not_whole;
    fails = fails;
  }

  some-rest : 0 < length rest → (ss : List Statement) → rest ≡ [] → read.before ≡ listing_lines ss → ⊥
  some-rest some ss nil is = let none = ap length nil in absurd (omega (arith, some, none))

  -- the last line has no newline
  pub no-newline : 0 < length rest → newline_at rest ≡ length rest → Breaks text line rules.Form
  no-newline some past = breaks rules.Form (some-rest some) (inl (λ found. absurd (omega (arith, past, found.1.0)), refl))

  no-next : newline_at rest < length rest → IsNoNext m (before_first (λ b. b == 10) rest) → (l : Line) → BeginsWith rest l → Begins (read.before ++ (l ∷ [])) → ⊥
  no-next inside (inl none) l begins may =
      let found : line_in (before_first (λ b. b == 10) rest) ≡ Some l = line-complete _ l begins.1 in
      let both : None ≡ Some l = sym none ∙ found in
      absurd cc
  no-next inside (inr (k, found, stuck)) l begins may =
      let same : k ≡ l = line-unique (before_first (λ b. b == 10) rest) k l (line-sound _ k found) begins.1 in
      stuck-begins-none read.before m.want l read.kept.path (subst (λ (x : Line). next m.want x ≡ None) same stuck) may

  -- a line that isn't the next one of a listing
  pub breaks-form : newline_at rest < length rest → IsNoNext m (before_first (λ b. b == 10) rest) → Breaks text line rules.Form
  breaks-form inside none = breaks rules.Form (some-rest (omega (arith, inside))) (inl (λ found. no-next inside none found.0 found.1 found.2, refl))

  -- a line with a bad number
  pub breaks-number : (rule : A) → newline_at rest < length rest → HasBadNumber m (before_first (λ b. b == 10) rest) rule → Breaks text line rule
  breaks-number rule inside bad = breaks rule (some-rest (omega (arith, inside))) (inr (form, numbers bad.fails))
    where
      there : BeginsWith rest bad.line
      there = (inside, line-sound _ bad.line bad.read)

      form : (l : Line) × BeginsWith rest l × Begins (read.before ++ (l ∷ []))
      form = (bad.line, there, stands-begins (with_line m bad.line bad.want) (read.before ++ (bad.line ∷ [])) (stands-more m read.before bad.line bad.want read.kept.stands bad.comes))

      same : (l : Line) → BeginsWith rest l → bad.line ≡ l
      same l begins = line-unique (before_first (λ b. b == 10) rest) bad.line l (line-sound _ bad.line bad.read) begins.1

      rows : m.rows ≡ rows_of no_rows read.before
      rows = read.kept.rows

      numbers : FailsFirst (number_checks m.rows bad.line) rule → (((l : Line) → BeginsWith rest l → IsInRange (rows_of no_rows read.before) l) → ⊥) × (rule ≡ rules.Range)
          ⊎ ((l : Line) → BeginsWith rest l → IsInRange (rows_of no_rows read.before) l) × ((((l : Line) → BeginsWith rest l → TakesRow (rows_of no_rows read.before) l) → ⊥) × (rule ≡ rules.Row) ⊎ ((l : Line) → BeginsWith rest l → TakesRow (rows_of no_rows read.before) l) × ⊥)
      numbers (inl (large, is)) = inl (λ all. large (subst (λ (r : Rows). IsInRange r bad.line) (sym rows) (all bad.line there)), is)
      numbers (inr (range, inl (other, is))) = inr (λ l begins. subst (λ (x : Line). IsInRange (rows_of no_rows read.before) x) (same l begins) (subst (λ (r : Rows). IsInRange r bad.line) rows range), inl (λ all. other (subst (λ (r : Rows). TakesRow r bad.line) (sym rows) (all bad.line there)), is))
      numbers (inr (range, inr (_, none))) = absurd none

  -- the text ends with its listing
  pub whole : rest ≡ [] → m.want ≡ wants.Nothing → (ss : List Statement) × Says text ss × (m.parts ≡ parts_of ss) × (length m.parts.sorts ≤ 128)
  whole nil want =
      let (done, parts, shape) = read.kept.stands in
      let is : read.before ≡ listing_lines done = subst (λ (v : Want). Shape v m read.before done) want shape in
      (done, record { lines = subst (λ ls. HasLines text ls []) is (subst (λ r. HasLines text read.before r) nil read.lines); fitting = subst (λ ls. AreFitting no_rows ls) is read.kept.fitting }, parts, read.kept.few_sorts)

  -- the text ends before its listing does
  pub cut-off : rest ≡ [] → (m.want ≡ wants.Nothing → ⊥) → Breaks text line rules.Form
  cut-off nil ended = breaks rules.Form not-whole (inl (λ found. empty found.0 found.1, refl))
    where
      not-whole : (ss : List Statement) → rest ≡ [] → read.before ≡ listing_lines ss → ⊥
      not-whole ss _ is =
          let leads : next_from (Some wants.Head) read.before ≡ Some wants.Nothing = ap (next_from (Some wants.Head)) is ∙ listing-path ss in
          let both : Some m.want ≡ Some wants.Nothing = sym read.kept.path ∙ leads in
          ended cc

      empty : (l : Line) → BeginsWith rest l → ⊥
      empty l begins = let none = ap length nil in absurd (omega (arith, none, begins.0))

-- a line that isn't added
pub stops-at : (text : List ℕ) (m : Made) (rest : List ℕ) (line : ℕ) → HasRead text m rest line → newline_at rest < length rest → (fault : Fault) (new : Made) → Adds m (before_first (λ b. b == 10) rest) new (Err fault) → ReadsLines text new (Err (told_at line fault))
stops-at text m rest line read inside (faults.Rule rule) new (inl (is, none)) = subst (λ (r : A). Breaks text line r) (sym is) (breaks-form text m rest line read inside none)
stops-at text m rest line read inside (faults.Rule rule) new (inr bad) = breaks-number text m rest line read rule inside bad
stops-at text m rest line read inside faults.Mem new adds = tt

-- A text is a listing, or breaks one first rule.
use Rattle.std.proofs.Common.{◌≡◌, ◌+◌, ◌⊎◌, ℕ, List, [], ◌∷◌, ◌++◌, length, refl, sym, ap, subst, ◌∙◌, arith, inl, inr, append_assoc, append-nil}
use Rattle.std.specs.Prelude.{◌==◌}
use Rattle.std.specs.List.{before_first}
use Rattle.mz_base.specs.Checks.{AllHold, FailsFirst}
use Rattle.mz_base.proofs.Offered.{all_hold-excludes, fails_first-unique}
use Rattle.mz_asm.specs.declared.line.Line.{Line}
use Rattle.mz_asm.specs.declared.rows.Rows.{Rows}
use Rattle.mz_asm.specs.declared.rule.A.{A}
use Rattle.mz_asm.specs.Rows.{no_rows, rows_after, rows_of, IsInRange, TakesRow}
use Rattle.mz_asm.specs.Statements.{Statement, listing_lines, parts_of}
use Rattle.mz_asm.specs.Assembling.{BeginsWith, behind_line, HasLines, Begins, AreFitting, line_checks, Says, Breaks}
use Rattle.mz_asm.proofs.LineReading.{line-unique}
use Rattle.mz_asm.proofs.OneText.{one-list}

-- ---- lines of one text

abbrev Comparable : List Line → List ℕ → List Line → List ℕ → Type 0
Comparable a r b q = ((more : List Line) × (b ≡ a ++ more) × HasLines r more q) ⊎ ((more : List Line) × (a ≡ b ++ more) × HasLines q more r)

compare : (text : List ℕ) (a b : List Line) (r q : List ℕ) → HasLines text a r → HasLines text b q → Comparable a r b q
compare text [] b r q is more = inl (b, refl, subst (λ t. HasLines t b q) is more)
compare text (l ∷ a) [] r q more is = inr (l ∷ a, refl, subst (λ t. HasLines t (l ∷ a) r) is more)
compare text (l ∷ a) (k ∷ b) r q (f, m) (g, n) = go (compare (behind_line text) a b r q m n)
  where
    same : l ≡ k
    same = line-unique (before_first (λ c. c == 10) text) l k f.1 g.1

    go : Comparable a r b q → Comparable (l ∷ a) r (k ∷ b) q
    go (inl (more, e, h)) = inl (more, ap (λ x. x ∷ b) (sym same) ∙ ap (λ x. l ∷ x) e, h)
    go (inr (more, e, h)) = inr (more, ap (λ x. x ∷ a) same ∙ ap (λ x. k ∷ x) e, h)

-- an empty text has no lines
no-lines : (ls : List Line) (rest : List ℕ) → HasLines [] ls rest → (ls ≡ []) × (rest ≡ [])
no-lines [] rest is = (refl, sym is)
no-lines (l ∷ ls) rest h = absurd (omega (arith, h.0.0))

-- ---- a line that is right

fitting-at : (rows : Rows) (a more : List Line) (l : Line) → AreFitting rows (a ++ (l ∷ more)) → IsInRange (rows_of rows a) l × TakesRow (rows_of rows a) l
fitting-at rows [] more l fit = (fit.0, fit.1)
fitting-at rows (k ∷ a) more l fit = fitting-at (rows_after rows k) a more l fit.2

begins-front : (a more : List Line) (l : Line) → Begins (a ++ (l ∷ more)) → Begins (a ++ (l ∷ []))
begins-front a more l (ss, rest, is) = (ss, more ++ rest, is ∙ append_assoc a (l ∷ more) rest ∙ sym (append_assoc a (l ∷ []) (more ++ rest)))

pub listing-begins : (ss : List Statement) → Begins (listing_lines ss)
listing-begins ss = (ss, [], sym (append-nil (listing_lines ss)))

further : (before more : List Line) (l : Line) (rest end : List ℕ) → HasLines rest (l ∷ more) end → Begins (before ++ (l ∷ more)) → AreFitting no_rows (before ++ (l ∷ more)) → AllHold (line_checks before rest)
further before more l rest end h begins fit =
    let right = fitting-at no_rows before more l fit in
    let same : (k : Line) → BeginsWith rest k → l ≡ k = λ k b. line-unique (before_first (λ c. c == 10) rest) l k h.0.1 b.1 in
    ((l, h.0, begins-front before more l begins), ((λ k b. subst (λ (x : Line). IsInRange (rows_of no_rows before) x) (same k b) right.0), ((λ k b. subst (λ (x : Line). TakesRow (rows_of no_rows before) x) (same k b) right.1), tt)))

-- where the lines go on, no rule fails
goes-on-right : (before after more : List Line) (rest end : List ℕ) (rule : A) → after ≡ before ++ more → HasLines rest more end → Begins after → AreFitting no_rows after → FailsFirst (line_checks before rest) rule → (more ≡ []) × (rest ≡ end)
goes-on-right before after [] rest end rule e h begins fit fails = (refl, h)
goes-on-right before after (l ∷ more) rest end rule e h begins fit fails =
    absurd (all_hold-excludes (line_checks before rest) rule (further before more l rest end h (subst Begins e begins) (subst (λ ls. AreFitting no_rows ls) e fit)) fails)

-- ---- one answer

pub listing-breaks-none : (text : List ℕ) (ss : List Statement) (number : ℕ) (rule : A) → Says text ss → Breaks text number rule → ⊥
listing-breaks-none text ss number rule says b = go (compare text (listing_lines ss) b.before [] b.rest says.lines b.lines)
  where
    go : Comparable (listing_lines ss) [] b.before b.rest → ⊥
    go (inl (more, e, h)) =
        let none = no-lines more b.rest h in
        b.not_whole ss none.1 (e ∙ ap (λ m. listing_lines ss ++ m) none.0 ∙ append-nil (listing_lines ss))
    go (inr (more, e, h)) =
        let none = goes-on-right b.before (listing_lines ss) more b.rest [] rule e h (listing-begins ss) says.fitting b.fails in
        b.not_whole ss none.1 (sym (e ∙ ap (λ m. b.before ++ m) none.0 ∙ append-nil b.before))

pub one-fault : (text : List ℕ) (n m : ℕ) (q r : A) → Breaks text n q → Breaks text m r → (n ≡ m) × (q ≡ r)
one-fault text n m q r a b = go (compare text a.before b.before a.rest b.rest a.lines b.lines)
  where
    agree : a.before ≡ b.before → a.rest ≡ b.rest → (n ≡ m) × (q ≡ r)
    agree lines rest =
        let fails : FailsFirst (line_checks b.before b.rest) q = subst (λ z. FailsFirst (line_checks b.before z) q) rest (subst (λ ls. FailsFirst (line_checks ls a.rest) q) lines a.fails) in
        (a.number_is ∙ ap (λ ls. length ls + 1) lines ∙ sym b.number_is, fails_first-unique (line_checks b.before b.rest) q r fails b.fails)

    go : Comparable a.before a.rest b.before b.rest → (n ≡ m) × (q ≡ r)
    go (inl (more, e, h)) =
        let none = goes-on-right a.before b.before more a.rest b.rest q e h b.begins b.fitting a.fails in
        agree (sym (e ∙ ap (λ x. a.before ++ x) none.0 ∙ append-nil a.before)) none.1
    go (inr (more, e, h)) =
        let none = goes-on-right b.before a.before more b.rest a.rest r e h a.begins a.fitting b.fails in
        agree (e ∙ ap (λ x. b.before ++ x) none.0 ∙ append-nil b.before) (sym none.1)

pub one-listing : (text : List ℕ) (ss ts : List Statement) → Says text ss → Says text ts → parts_of ss ≡ parts_of ts
one-listing text ss ts a b = go (compare text (listing_lines ss) (listing_lines ts) [] [] a.lines b.lines)
  where
    go : Comparable (listing_lines ss) [] (listing_lines ts) [] → parts_of ss ≡ parts_of ts
    go (inl (more, e, h)) = let none = no-lines more [] h in one-list ss ts (sym (e ∙ ap (λ m. listing_lines ss ++ m) none.0 ∙ append-nil (listing_lines ss)))
    go (inr (more, e, h)) = let none = no-lines more [] h in one-list ss ts (e ∙ ap (λ m. listing_lines ts ++ m) none.0 ∙ append-nil (listing_lines ts))

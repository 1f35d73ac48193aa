use Rattle.std.proofs.Common.{◌≡◌, ◌≤◌, ◌+◌, ◌∙◌, ℕ, List, Some, None, Bool, length, refl, sym, ap, subst, arith}
use Rattle.std.specs.Prelude.{MatchBool}
use Rattle.mz_logic_theory.specs.Shapes.{shape_tree}
use Rattle.mz_logic_theory.specs.Tree.{Tree, Trees, var, more, listed, past, size}
use Rattle.mz_logic_theory.proofs.Offered.{past-end}
use Rattle.mz_match_rows.specs.declared.stream.Cursor.{Cursor}
use Rattle.std.proofs.lemmas.Bool.{false≢true}
use Rattle.mz_match_rows.specs.Streams.{step_at, AreSaid, IsMade}
use Rattle.mz_spec_proved_theory.specs.Comparison.{compared, all_compared}
use Rattle.mz_match_rows.specs.Beside.{beside}
use Rattle.mz_match_rows.proofs.Compared.{cursor-is, said-within, made-within, said-no, made-no, said-made, said-mark, mark-made, mark-param, made-term, compared-param, found-place, differs-app, marked, answered, many-of, all-next, all-stopped, all-goes-on, all-done}
use Rattle.mz_match_rows.proofs.expression.+same_at.Goals as goal

-- ---- same_at

pub same_at-step_at-requires-clause-within : goal.same_at-step_at-requires-clause-within
same_at-step_at-requires-clause-within t c =
    let (m, f, to, stream, said) = c.requires in
    subst (λ (xs : List ℕ). c.args.from.at ≤ length xs) (sym c.file.ensures.file) (said-within c.args.sides.now.mmb.now c.args.sides.now.params m c.args.from.at c.args.from.dummies f to.at to.dummies said)

pub same_at-returns-in_default : goal.same_at-returns-in_default
same_at-returns-in_default t c = λ m f to stream said.
    absurd (said-no c.args.sides.now.mmb.now c.args.sides.now.params m c.args.from.at c.args.from.dummies f to.at to.dummies (ap (λ (xs : List ℕ). step_at xs c.args.from.at) (sym c.file.ensures.file) ∙ sym c.in_default.ensures) said)

pub same_at-same_made-requires : goal.same_at-same_made-requires
same_at-same_made-requires t c =
    let (m, f, to, stream, said) = c.requires in
    let stands = ap (λ (xs : List ℕ). step_at xs c.args.from.at) (sym c.file.ensures.file) ∙ sym c.in-Some.ensures in (
      omega (arith, c.decreases),
      (
        stands,
        m,
        f,
        to,
        stream,
        said-made c.args.sides.now.mmb.now c.args.sides.now.params m c.args.from.at c.args.from.dummies f to.at to.dummies c.in-Some.step stands
            (λ ref. false≢true (sym c.if-not-is_ref.true ∙ c.is_ref.ensures.1 ref)) said,
      ),
    )

pub same_at-same_mark-requires : goal.same_at-same_mark-requires
same_at-same_mark-requires t c =
    let (m, f, to, stream, said) = c.requires in
    let stands = ap (λ (xs : List ℕ). step_at xs c.args.from.at) (sym c.file.ensures.file) ∙ sym c.in-Some.ensures in
    let mark = said-mark c.args.sides.now.mmb.now c.args.sides.now.params m c.args.from.at c.args.from.dummies f to.at to.dummies c.in-Some.step stands (c.is_ref.ensures.0 c.if-not-is_ref.false) said in
    (omega (arith, c.decreases), (m, f, stream, mark.0))

pub same_at-returns-then-not-is_ref : goal.same_at-returns-then-not-is_ref
same_at-returns-then-not-is_ref t c = λ m f to stream said.
    let stands = ap (λ (xs : List ℕ). step_at xs c.args.from.at) (sym c.file.ensures.file) ∙ sym c.in-Some.ensures in
    c.same_made.ensures m f to stream (said-made c.args.sides.now.mmb.now c.args.sides.now.params m c.args.from.at c.args.from.dummies f to.at to.dummies c.in-Some.step stands
    (λ ref. false≢true (sym c.if-not-is_ref.true ∙ c.is_ref.ensures.1 ref)) said)

pub same_at-returns-then-not-same_mark : goal.same_at-returns-then-not-same_mark
same_at-returns-then-not-same_mark t c = λ m f to stream said.
    let stands = ap (λ (xs : List ℕ). step_at xs c.args.from.at) (sym c.file.ensures.file) ∙ sym c.in-Some.ensures in
    let mark = said-mark c.args.sides.now.mmb.now c.args.sides.now.params m c.args.from.at c.args.from.dummies f to.at to.dummies c.in-Some.step stands (c.is_ref.ensures.0 c.if-not-is_ref.false) said in
    subst (λ (b : Bool). MatchBool b (compared (beside c.args.sides.now m) c.args.pairs.now c.args.expr.now f ≡ Some c.same_mark.new.pairs) (compared (beside c.args.sides.now m) c.args.pairs.now c.args.expr.now f ≡ None))
    c.if-not-same_mark.true (c.same_mark.ensures m f stream mark.0)

pub same_at-returns : goal.same_at-returns
same_at-returns t c = λ m f to stream said.
    let stands = ap (λ (xs : List ℕ). step_at xs c.args.from.at) (sym c.file.ensures.file) ∙ sym c.in-Some.ensures in
    let mark = said-mark c.args.sides.now.mmb.now c.args.sides.now.params m c.args.from.at c.args.from.dummies f to.at to.dummies c.in-Some.step stands (c.is_ref.ensures.0 c.if-not-is_ref.false) said in (
      subst (λ (b : Bool). MatchBool b (compared (beside c.args.sides.now m) c.args.pairs.now c.args.expr.now f ≡ Some c.same_mark.new.pairs) (compared (beside c.args.sides.now m) c.args.pairs.now c.args.expr.now f ≡ None))
          c.if-not-same_mark.false (c.same_mark.ensures m f stream mark.0),
      cursor-is to c.in-Some.step.next c.args.from.dummies (sym mark.1) mark.2,
    )

-- ---- same_mark

pub same_mark-returns-then-mark-sides : goal.same_mark-returns-then-mark-sides
same_mark-returns-then-mark-sides t c = λ m f stream at.
    let is : f ≡ var c.args.mark = mark-param c.args.sides.now.mmb.now c.args.sides.now.params m c.args.sides.now.start c.args.mark f stream.marks c.if-mark-sides.true at in
    let by = compared-param (beside c.args.sides.now m) c.args.pairs.now c.args.expr.now c.args.mark c.if-mark-sides.true in
    subst (λ (g : Tree). MatchBool c.is_variable.result (compared (beside c.args.sides.now m) c.args.pairs.now c.args.expr.now g ≡ Some c.args.pairs.now) (compared (beside c.args.sides.now m) c.args.pairs.now c.args.expr.now g ≡ None)) (sym is)
    (marked c.is_variable.result _ _ _ c.is_variable.ensures by.0 by.1)

pub same_mark-place_of-requires-clause-stream : goal.same_mark-place_of-requires-clause-stream
same_mark-place_of-requires-clause-stream t c = let (m, f, stream, at) = c.requires in (m, stream)

pub same_mark-returns-in_default : goal.same_mark-returns-in_default
same_mark-returns-in_default t c = λ m f stream at.
    let made = mark-made c.args.sides.now.mmb.now c.args.sides.now.params m c.args.sides.now.start c.args.mark f stream.marks c.if-mark-sides.false at in
    let found = c.place_of.ensures made.many made.place made.found in
    absurd (c.in_default.not-Some made.place found)

pub same_mark-step_at-requires-clause-within : goal.same_mark-step_at-requires-clause-within
same_mark-step_at-requires-clause-within t c =
    let (m, f, stream, at) = c.requires in
    let made = mark-made c.args.sides.now.mmb.now c.args.sides.now.params m c.args.sides.now.start c.args.mark f stream.marks c.if-mark-sides.false at in
    let found = c.place_of.ensures made.many made.place made.found in
    let same : made.place ≡ c.in-Some.place = found-place made.place c.in-Some.place (sym found ∙ c.in-Some.is) in
    let here = subst (λ (p : Cursor). IsMade c.args.sides.now.mmb.now c.args.sides.now.params m p.at p.dummies f made.end.at made.end.dummies) same made.made in
    subst (λ (xs : List ℕ). c.in-Some.place.at ≤ length xs) (sym c.file.ensures.file) (made-within c.args.sides.now.mmb.now c.args.sides.now.params m c.in-Some.place.at c.in-Some.place.dummies f made.end.at made.end.dummies here)

pub same_mark-returns-in_default-step_at : goal.same_mark-returns-in_default-step_at
same_mark-returns-in_default-step_at t c = λ m f stream at.
    let made = mark-made c.args.sides.now.mmb.now c.args.sides.now.params m c.args.sides.now.start c.args.mark f stream.marks c.if-mark-sides.false at in
    let found = c.place_of.ensures made.many made.place made.found in
    let same : made.place ≡ c.in-Some.place = found-place made.place c.in-Some.place (sym found ∙ c.in-Some.is) in
    let here = subst (λ (p : Cursor). IsMade c.args.sides.now.mmb.now c.args.sides.now.params m p.at p.dummies f made.end.at made.end.dummies) same made.made in
    absurd (made-no c.args.sides.now.mmb.now c.args.sides.now.params m c.in-Some.place.at c.in-Some.place.dummies f made.end.at made.end.dummies (ap (λ (xs : List ℕ). step_at xs c.in-Some.place.at) (sym c.file.ensures.file) ∙ sym c.in_default-step_at.ensures) here)

pub same_mark-same_made-requires : goal.same_mark-same_made-requires
same_mark-same_made-requires t c =
    let (m, f, stream, at) = c.requires in
    let made = mark-made c.args.sides.now.mmb.now c.args.sides.now.params m c.args.sides.now.start c.args.mark f stream.marks c.if-mark-sides.false at in
    let found = c.place_of.ensures made.many made.place made.found in
    let same : made.place ≡ c.in-Some.place = found-place made.place c.in-Some.place (sym found ∙ c.in-Some.is) in
    let here = subst (λ (p : Cursor). IsMade c.args.sides.now.mmb.now c.args.sides.now.params m p.at p.dummies f made.end.at made.end.dummies) same made.made in
    let stands = ap (λ (xs : List ℕ). step_at xs c.in-Some.place.at) (sym c.file.ensures.file) ∙ sym c.in-Some-step_at.ensures in
    (omega (arith, c.decreases), (stands, m, f, made.end, stream, here))

pub same_mark-returns : goal.same_mark-returns
same_mark-returns t c = λ m f stream at.
    let made = mark-made c.args.sides.now.mmb.now c.args.sides.now.params m c.args.sides.now.start c.args.mark f stream.marks c.if-mark-sides.false at in
    let found = c.place_of.ensures made.many made.place made.found in
    let same : made.place ≡ c.in-Some.place = found-place made.place c.in-Some.place (sym found ∙ c.in-Some.is) in
    let here = subst (λ (p : Cursor). IsMade c.args.sides.now.mmb.now c.args.sides.now.params m p.at p.dummies f made.end.at made.end.dummies) same made.made in
    answered c.same_made.result c.same_made.new.pairs (compared (beside c.args.sides.now m) c.args.pairs.now c.args.expr.now f) made.end c.is_some.result c.is_some.ensures
    (c.same_made.ensures m f made.end stream here)

-- ---- same_made

pub same_made-is_term-requires : goal.same_made-is_term-requires
same_made-is_term-requires t c = λ is.
    let (stands, m, f, to, stream, made) = c.requires in
    let (fs, f-is, arity, all) = made-term c.args.sides.now.mmb.now c.args.sides.now.params m c.args.from.at c.args.from.dummies f to.at to.dummies c.args.step stands is made in
    arity.0

pub same_made-returns-then-not-is_term : goal.same_made-returns-then-not-is_term
same_made-returns-then-not-is_term t c = λ m f to stream made.
    subst (λ (e : Tree). compared (beside c.args.sides.now m) c.args.pairs.now e f ≡ None) (sym (ap shape_tree c.in-App.is) ∙ c.shape.ensures)
    (differs-app c.args.sides.now.mmb.now c.args.sides.now.params m (beside c.args.sides.now m) c.args.pairs.now c.in-App.k c.in-App.es c.args.from.at c.args.from.dummies f to.at to.dummies c.args.step c.requires.0 made
    (λ is. false≢true (sym c.if-not-is_term.true ∙ c.is_term.ensures.1 is)))

pub same_made-same_all-requires : goal.same_made-same_all-requires
same_made-same_all-requires t c =
    let (stands, m, f, to, stream, made) = c.requires in
    let is = c.is_term.ensures.0 c.if-not-is_term.false in
    let (fs, f-is, arity, all) = made-term c.args.sides.now.mmb.now c.args.sides.now.params m c.args.from.at c.args.from.dummies f to.at to.dummies c.args.step stands is.0 made in
    let sizes = ap size (sym (ap shape_tree c.in-App.is) ∙ c.shape.ensures) in
    (omega (arith, sizes, c.decreases), (m, fs, to, stream, all, is.2 ∙ sym arity.1))

-- ---- same_all

pub same_all-loop-i-init : goal.same_all-loop-i-init
same_all-loop-i-init t c = λ m fs to stream all many. (fs, all, many, refl)

pub same_all-same_at-requires : goal.same_all-same_at-requires
same_all-same_at-requires t c =
    let (m, fs, to, stream, all, many) = c.requires in
    let (rest, all-rest, many-rest, same) = c.loop-i.invariant m fs to stream all many in
    let (f, later, mid, is, said, all-later, few) = all-next c.args.sides.now.mmb.now c.args.sides.now.params m (beside c.args.sides.now m) (length (listed (past (c.loop-i.i + 1) c.args.exprs.now))) rest c.loop-i.place.at c.loop-i.place.dummies to.at to.dummies (sym (ap many-of c.at.ensures.left) ∙ many-rest) all-rest in
    (omega (arith, c.at.ensures.within, c.decreases), (m, f, mid, stream, said))

pub same_all-returns-in_default : goal.same_all-returns-in_default
same_all-returns-in_default t c = λ m fs to stream all many.
    let (rest, all-rest, many-rest, same) = c.loop-i.invariant m fs to stream all many in
    let (f, later, mid, is, said, all-later, few) = all-next c.args.sides.now.mmb.now c.args.sides.now.params m (beside c.args.sides.now m) (length (listed (past (c.loop-i.i + 1) c.args.exprs.now))) rest c.loop-i.place.at c.loop-i.place.dummies to.at to.dummies (sym (ap many-of c.at.ensures.left) ∙ many-rest) all-rest in
    same ∙ ap (λ (es : Trees). all_compared (beside c.args.sides.now m) c.loop-i.pairs es rest) c.at.ensures.left ∙ ap (λ (gs : Trees). all_compared (beside c.args.sides.now m) c.loop-i.pairs (more c.at.result (past (c.loop-i.i + 1) c.args.exprs.now)) gs) is
    ∙ all-stopped c.args.sides.now.mmb.now c.args.sides.now.params m (beside c.args.sides.now m) c.loop-i.pairs c.at.result (past (c.loop-i.i + 1) c.args.exprs.now) f later (c.in_default.ensures m f mid stream said)

pub same_all-loop-i-preserved : goal.same_all-loop-i-preserved
same_all-loop-i-preserved t c = λ m fs to stream all many.
    let (rest, all-rest, many-rest, same) = c.loop-i.invariant m fs to stream all many in
    let (f, later, mid, is, said, all-later, few) = all-next c.args.sides.now.mmb.now c.args.sides.now.params m (beside c.args.sides.now m) (length (listed (past (c.loop-i.i + 1) c.args.exprs.now))) rest c.loop-i.place.at c.loop-i.place.dummies to.at to.dummies (sym (ap many-of c.at.ensures.left) ∙ many-rest) all-rest in
    let (compares, place) = c.in-Some.ensures m f mid stream said in (
      later,
      subst (λ (p : Cursor). AreSaid c.args.sides.now.mmb.now c.args.sides.now.params m p.at p.dummies later to.at to.dummies) (sym place) all-later,
      few,
      same ∙ ap (λ (es : Trees). all_compared (beside c.args.sides.now m) c.loop-i.pairs es rest) c.at.ensures.left ∙ ap (λ (gs : Trees). all_compared (beside c.args.sides.now m) c.loop-i.pairs (more c.at.result (past (c.loop-i.i + 1) c.args.exprs.now)) gs) is
          ∙ all-goes-on c.args.sides.now.mmb.now c.args.sides.now.params m (beside c.args.sides.now m) c.loop-i.pairs c.same_at.new.pairs c.at.result (past (c.loop-i.i + 1) c.args.exprs.now) f later compares,
    )

pub same_all-returns : goal.same_all-returns
same_all-returns t c = λ m fs to stream all many.
    let (rest, all-rest, many-rest, same) = c.loop-i.invariant m fs to stream all many in
    let nothing = past-end c.args.exprs.now c.loop-i.i (omega (arith, c.len-i-end.ensures, c.loop-i-test.false)) in
    let (done, place) = all-done c.args.sides.now.mmb.now c.args.sides.now.params m (beside c.args.sides.now m) c.loop-i.pairs rest c.loop-i.place to (sym (ap many-of nothing) ∙ many-rest) all-rest in
    (same ∙ ap (λ (es : Trees). all_compared (beside c.args.sides.now m) c.loop-i.pairs es rest) nothing ∙ done, place)

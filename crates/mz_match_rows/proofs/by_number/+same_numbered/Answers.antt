use Rattle.std.proofs.Common.{◌≡◌, ◌≤◌, ◌-◌, ◌∙◌, ℕ, suc, List, length, sym, ap, subst, refl, arith, inl, inr}
use Rattle.std.proofs.lemmas.Bool.{false≢true}
use Rattle.mz_layout_tables.proofs.Offered.{length-term_words}
use Rattle.mz_logic_theory.specs.Tree.{Tree, var, app, listed}
use Rattle.mz_logic_theory.proofs.Offered.{same-operands}
use Rattle.mz_match_rows.specs.declared.stream.Cursor.{Cursor}
use Rattle.mz_match_rows.specs.Beside.{beside}
use Rattle.mz_match_rows.specs.Numbers.{AreSaidTrees, IsNumbered}
use Rattle.mz_match_rows.specs.Streams.{step_at, AreSaid, IsMade}
use Rattle.mz_match_rows.specs.TermCodes.{makes_term}
use Rattle.mz_match_rows.proofs.Compared.{said-within, made-within, said-no, made-no, said-made, made-said, said-mark, mark-made, mark-param, made-term, found-place, all-next}
use Rattle.mz_match_rows.proofs.Numbering.{is-variable, operands-of, other-term, is-empty, parts-of, no-parts, one-tree, said-more, told, one-further, first-of, made-plain, none-said}
use Rattle.mz_match_rows.proofs.by_number.+same_numbered.Goals as goal

-- ---- same_numbered

pub same_numbered-step_at-requires-clause-within : goal.same_numbered-step_at-requires-clause-within
same_numbered-step_at-requires-clause-within t c =
    let (g, m, f, d, to, d', numbered, plain, said) = c.requires.there in
    subst (λ (xs : List ℕ). c.args.at ≤ length xs) (sym c.file.ensures.file) (said-within c.args.sides.now.mmb.now c.args.sides.now.params m c.args.at d f to d' said)

pub same_numbered-returns-in_default-clause-same : goal.same_numbered-returns-in_default-clause-same
same_numbered-returns-in_default-clause-same t c = λ g m f d to d' numbered plain said is.
    said-no c.args.sides.now.mmb.now c.args.sides.now.params m c.args.at d f to d' (ap (λ (xs : List ℕ). step_at xs c.args.at) (sym c.file.ensures.file) ∙ sym c.in_default.ensures) said

pub same_numbered-numbered_made-requires : goal.same_numbered-numbered_made-requires
same_numbered-numbered_made-requires t c =
    let (g, m, f, d, to, d', numbered, plain, said) = c.requires.there in
    let stands = ap (λ (xs : List ℕ). step_at xs c.args.at) (sym c.file.ensures.file) ∙ sym c.in-Some.ensures in (
      omega arith,
      (
        c.requires.said,
        (
          stands,
          g,
          m,
          f,
          d,
          to,
          d',
          numbered,
          plain,
          said-made c.args.sides.now.mmb.now c.args.sides.now.params m c.args.at d f to d' c.in-Some.step stands (λ ref. false≢true (sym c.if-not-is_ref.true ∙ c.is_ref.ensures.1 ref)) said,
        ),
      ),
    )

pub same_numbered-returns-then-not-is_ref-clause-same : goal.same_numbered-returns-then-not-is_ref-clause-same
same_numbered-returns-then-not-is_ref-clause-same t c = λ g m f d to d' numbered plain said.
    let stands = ap (λ (xs : List ℕ). step_at xs c.args.at) (sym c.file.ensures.file) ∙ sym c.in-Some.ensures in
    c.numbered_made.ensures.same g m f d to d' numbered plain
    (said-made c.args.sides.now.mmb.now c.args.sides.now.params m c.args.at d f to d' c.in-Some.step stands (λ ref. false≢true (sym c.if-not-is_ref.true ∙ c.is_ref.ensures.1 ref)) said)

pub same_numbered-numbered_mark-requires : goal.same_numbered-numbered_mark-requires
same_numbered-numbered_mark-requires t c =
    let (g, m, f, d, to, d', numbered, plain, said) = c.requires.there in
    let stands = ap (λ (xs : List ℕ). step_at xs c.args.at) (sym c.file.ensures.file) ∙ sym c.in-Some.ensures in
    let mark = said-mark c.args.sides.now.mmb.now c.args.sides.now.params m c.args.at d f to d' c.in-Some.step stands (c.is_ref.ensures.0 c.if-not-is_ref.false) said in
    (omega arith, (c.requires.said, (g, m, f, numbered, plain, mark.0)))

pub same_numbered-returns-then-not-numbered_mark-clause-same : goal.same_numbered-returns-then-not-numbered_mark-clause-same
same_numbered-returns-then-not-numbered_mark-clause-same t c = λ g m f d to d' numbered plain said is.
    let stands = ap (λ (xs : List ℕ). step_at xs c.args.at) (sym c.file.ensures.file) ∙ sym c.in-Some.ensures in
    let mark = said-mark c.args.sides.now.mmb.now c.args.sides.now.params m c.args.at d f to d' c.in-Some.step stands (c.is_ref.ensures.0 c.if-not-is_ref.false) said in
    false≢true (sym c.if-not-numbered_mark.true ∙ (c.numbered_mark.ensures.same g m f numbered plain mark.0).1 is)

pub same_numbered-returns-clause-same : goal.same_numbered-returns-clause-same
same_numbered-returns-clause-same t c = λ g m f d to d' numbered plain said.
    let stands = ap (λ (xs : List ℕ). step_at xs c.args.at) (sym c.file.ensures.file) ∙ sym c.in-Some.ensures in
    let mark = said-mark c.args.sides.now.mmb.now c.args.sides.now.params m c.args.at d f to d' c.in-Some.step stands (c.is_ref.ensures.0 c.if-not-is_ref.false) said in
    ((c.numbered_mark.ensures.same g m f numbered plain mark.0).0 c.if-not-numbered_mark.false, mark.1)

-- ---- numbered_mark

pub numbered_mark-returns-then-mark-sides-clause-same : goal.numbered_mark-returns-then-mark-sides-clause-same
numbered_mark-returns-then-mark-sides-clause-same t c = λ g m f numbered plain at.
    let is : f ≡ var c.args.mark = mark-param c.args.sides.now.mmb.now c.args.sides.now.params m c.args.sides.now.start c.args.mark f plain.stream.marks c.if-mark-sides.true at in
    let by = is-variable c.args.pieces.now c.args.number g c.args.mark numbered in
    ((λ yes-is. by.0 (c.is_variable.ensures.0 yes-is) ∙ sym is), λ same. c.is_variable.ensures.1 (by.1 (same ∙ is)))

pub numbered_mark-returns-in_default-clause-same : goal.numbered_mark-returns-in_default-clause-same
numbered_mark-returns-in_default-clause-same t c = λ g m f numbered plain at.
    let made = mark-made c.args.sides.now.mmb.now c.args.sides.now.params m c.args.sides.now.start c.args.mark f plain.stream.marks c.if-mark-sides.false at in
    absurd (c.in_default.not-Some made.place (c.place_of.ensures made.many made.place made.found))

pub numbered_mark-returns-then-has-clause-same : goal.numbered_mark-returns-then-has-clause-same
numbered_mark-returns-then-has-clause-same t c = λ g m f numbered plain at.
    let made = mark-made c.args.sides.now.mmb.now c.args.sides.now.params m c.args.sides.now.start c.args.mark f plain.stream.marks c.if-mark-sides.false at in
    let found = c.place_of.ensures made.many made.place made.found in
    let same : made.place ≡ c.in-Some.place = found-place made.place c.in-Some.place (sym found ∙ c.in-Some.is) in
    let here = subst (λ (p : Cursor). IsMade c.args.sides.now.mmb.now c.args.sides.now.params m p.at p.dummies f made.end.at made.end.dummies) same made.made in
    let said = made-said c.args.sides.now.mmb.now c.args.sides.now.params m c.in-Some.place.at c.in-Some.place.dummies f made.end.at made.end.dummies here in
    let (j, kept) = c.has.ensures c.if-has.true in
    let f-is = c.requires.said j (record { at = c.in-Some.place.at; number = c.args.number }) kept m f c.in-Some.place.dummies made.end.at made.end.dummies plain said in
    ((λ _. one-tree c.args.pieces.now g f c.args.number numbered f-is), λ _. refl)

pub numbered_mark-step_at-requires-clause-within : goal.numbered_mark-step_at-requires-clause-within
numbered_mark-step_at-requires-clause-within t c =
    let (g, m, f, numbered, plain, at) = c.requires.there in
    let made = mark-made c.args.sides.now.mmb.now c.args.sides.now.params m c.args.sides.now.start c.args.mark f plain.stream.marks c.if-mark-sides.false at in
    let found = c.place_of.ensures made.many made.place made.found in
    let same : made.place ≡ c.in-Some.place = found-place made.place c.in-Some.place (sym found ∙ c.in-Some.is) in
    let here = subst (λ (p : Cursor). IsMade c.args.sides.now.mmb.now c.args.sides.now.params m p.at p.dummies f made.end.at made.end.dummies) same made.made in
    subst (λ (xs : List ℕ). c.in-Some.place.at ≤ length xs) (sym c.file.ensures.file) (made-within c.args.sides.now.mmb.now c.args.sides.now.params m c.in-Some.place.at c.in-Some.place.dummies f made.end.at made.end.dummies here)

pub numbered_mark-returns-in_default-step_at-clause-same : goal.numbered_mark-returns-in_default-step_at-clause-same
numbered_mark-returns-in_default-step_at-clause-same t c = λ g m f numbered plain at.
    let made = mark-made c.args.sides.now.mmb.now c.args.sides.now.params m c.args.sides.now.start c.args.mark f plain.stream.marks c.if-mark-sides.false at in
    let found = c.place_of.ensures made.many made.place made.found in
    let same : made.place ≡ c.in-Some.place = found-place made.place c.in-Some.place (sym found ∙ c.in-Some.is) in
    let here = subst (λ (p : Cursor). IsMade c.args.sides.now.mmb.now c.args.sides.now.params m p.at p.dummies f made.end.at made.end.dummies) same made.made in
    absurd (made-no c.args.sides.now.mmb.now c.args.sides.now.params m c.in-Some.place.at c.in-Some.place.dummies f made.end.at made.end.dummies (ap (λ (xs : List ℕ). step_at xs c.in-Some.place.at) (sym c.file.ensures.file) ∙ sym c.in_default-step_at.ensures) here)

pub numbered_mark-numbered_made-requires : goal.numbered_mark-numbered_made-requires
numbered_mark-numbered_made-requires t c =
    let (g, m, f, numbered, plain, at) = c.requires.there in
    let made = mark-made c.args.sides.now.mmb.now c.args.sides.now.params m c.args.sides.now.start c.args.mark f plain.stream.marks c.if-mark-sides.false at in
    let found = c.place_of.ensures made.many made.place made.found in
    let same : made.place ≡ c.in-Some.place = found-place made.place c.in-Some.place (sym found ∙ c.in-Some.is) in
    let here = subst (λ (p : Cursor). IsMade c.args.sides.now.mmb.now c.args.sides.now.params m p.at p.dummies f made.end.at made.end.dummies) same made.made in
    let stands = ap (λ (xs : List ℕ). step_at xs c.in-Some.place.at) (sym c.file.ensures.file) ∙ sym c.in-Some-step_at.ensures in
    (omega arith, (c.requires.said, (stands, g, m, f, c.in-Some.place.dummies, made.end.at, made.end.dummies, numbered, plain, here)))

pub numbered_mark-returns-clause-same : goal.numbered_mark-returns-clause-same
numbered_mark-returns-clause-same t c = λ g m f numbered plain at.
    let made = mark-made c.args.sides.now.mmb.now c.args.sides.now.params m c.args.sides.now.start c.args.mark f plain.stream.marks c.if-mark-sides.false at in
    let found = c.place_of.ensures made.many made.place made.found in
    let same : made.place ≡ c.in-Some.place = found-place made.place c.in-Some.place (sym found ∙ c.in-Some.is) in
    let here = subst (λ (p : Cursor). IsMade c.args.sides.now.mmb.now c.args.sides.now.params m p.at p.dummies f made.end.at made.end.dummies) same made.made in
    told c.numbered_made.result g f made.end.at c.is_some.result c.is_some.ensures (c.numbered_made.ensures.same g m f c.in-Some.place.dummies made.end.at made.end.dummies numbered plain here)

-- ---- numbered_made

pub numbered_made-arity-many-requires : goal.numbered_made-arity-many-requires
numbered_made-arity-many-requires t c =
    let (stands, g, m, f, d, to, d', numbered, plain, made) = c.requires.there in
    let (fs, f-is, arity, all) = made-term c.args.sides.now.mmb.now c.args.sides.now.params m c.args.at d f to d' c.args.step stands (sym c.makes_term.ensures ∙ c.if-not-makes_term.false) made in
    let there = arity.0 in
    omega (arith, there, length-term_words c.args.sides.now.mmb.now)

pub numbered_made-all_numbered-requires : goal.numbered_made-all_numbered-requires
numbered_made-all_numbered-requires t c =
    let (stands, g, m, f, d, to, d', numbered, plain, made) = c.requires.there in
    let (fs, f-is, arity, all) = made-term c.args.sides.now.mmb.now c.args.sides.now.params m c.args.at d f to d' c.args.step stands (sym c.makes_term.ensures ∙ c.if-not-makes_term.false) made in
    let (es, g-is, less, es-are) = operands-of c.args.pieces.now c.args.number g c.args.step.value c.in-Some.operands numbered c.in-Some.ensures in
    (omega (arith, less), (c.requires.said, (es, m, fs, d, to, d', es-are, plain, all, c.arity-many.ensures.row ∙ sym arity.1)))

pub numbered_made-returns-then-not-makes_term-clause-same : goal.numbered_made-returns-then-not-makes_term-clause-same
numbered_made-returns-then-not-makes_term-clause-same t c = λ g m f d to d' numbered plain made is.
    made-plain c.args.sides.now.mmb.now c.args.sides.now.params m c.args.at d f to d' c.args.step plain.no_dummies c.requires.there.0 (sym c.makes_term.ensures ∙ c.if-not-makes_term.true) made

pub numbered_made-returns-in_default-clause-same : goal.numbered_made-returns-in_default-clause-same
numbered_made-returns-in_default-clause-same t c = λ g m f d to d' numbered plain made is.
    let (fs, f-is, arity, all) = made-term c.args.sides.now.mmb.now c.args.sides.now.params m c.args.at d f to d' c.args.step c.requires.there.0 (sym c.makes_term.ensures ∙ c.if-not-makes_term.false) made in
    other-term c.args.pieces.now c.args.number g c.args.step.value fs numbered c.in_default.ensures (is ∙ f-is)

pub numbered_made-returns-in_default-all_numbered-clause-same : goal.numbered_made-returns-in_default-all_numbered-clause-same
numbered_made-returns-in_default-all_numbered-clause-same t c = λ g m f d to d' numbered plain made is.
    let (fs, f-is, arity, all) = made-term c.args.sides.now.mmb.now c.args.sides.now.params m c.args.at d f to d' c.args.step c.requires.there.0 (sym c.makes_term.ensures ∙ c.if-not-makes_term.false) made in
    let (es, g-is, less, es-are) = operands-of c.args.pieces.now c.args.number g c.args.step.value c.in-Some.operands numbered c.in-Some.ensures in
    c.in_default-all_numbered.ensures.same es m fs d to d' es-are plain all (c.arity-many.ensures.row ∙ sym arity.1) (same-operands c.args.step.value c.args.step.value es fs (sym g-is ∙ is ∙ f-is))

pub numbered_made-returns-clause-same : goal.numbered_made-returns-clause-same
numbered_made-returns-clause-same t c = λ g m f d to d' numbered plain made.
    let (fs, f-is, arity, all) = made-term c.args.sides.now.mmb.now c.args.sides.now.params m c.args.at d f to d' c.args.step c.requires.there.0 (sym c.makes_term.ensures ∙ c.if-not-makes_term.false) made in
    let (es, g-is, less, es-are) = operands-of c.args.pieces.now c.args.number g c.args.step.value c.in-Some.operands numbered c.in-Some.ensures in
    let (same, at) = c.in-Some-all_numbered.ensures.same es m fs d to d' es-are plain all (c.arity-many.ensures.row ∙ sym arity.1) in
    (g-is ∙ ap (app c.args.step.value) same ∙ sym f-is, at)

pub numbered_made-returns-clause-said : goal.numbered_made-returns-clause-said
numbered_made-returns-clause-said t c =
    let (stands, g, m0, f0, d0, to0, d0', numbered, plain0, made0) = c.requires.there in
    let is = sym c.makes_term.ensures ∙ c.if-not-makes_term.false in
    let (es, g-is, less, es-are) = operands-of c.args.pieces.now c.args.number g c.args.step.value c.in-Some.operands numbered c.in-Some.ensures in
    elim c.keep.ensures [
      | inl same ↦ subst (AreSaidTrees c.args.sides.now c.args.pieces.now) (sym same) c.in-Some-all_numbered.ensures.said
      | inr one-more ↦ subst (AreSaidTrees c.args.sides.now c.args.pieces.now) (sym one-more)
          (said-more c.args.sides.now c.args.pieces.now c.all_numbered.new.said (record { at = c.args.at; number = c.args.number }) c.in-Some-all_numbered.ensures.said λ m f d to d' plain said.
          let made = said-made c.args.sides.now.mmb.now c.args.sides.now.params m c.args.at d f to d' c.args.step stands (λ ref. false≢true (ap makes_term (sym ref) ∙ is)) said in
          let (fs, f-is, arity, all) = made-term c.args.sides.now.mmb.now c.args.sides.now.params m c.args.at d f to d' c.args.step stands is made in
          let (same, at) = c.in-Some-all_numbered.ensures.same es m fs d to d' es-are plain all (c.arity-many.ensures.row ∙ sym arity.1) in
          subst (λ (e : Tree). IsNumbered c.args.pieces.now e c.args.number) (g-is ∙ ap (app c.args.step.value) same ∙ sym f-is) numbered)
    ]

-- ---- all_numbered

pub all_numbered-trees-init : goal.all_numbered-trees-init
all_numbered-trees-init t c = record {
  said = c.requires.said;
  small = omega arith;
  goes_on = λ gs m fs d to d' numbered plain all many. (gs, fs, d, numbered, all, many, ((λ is. is), λ is. is));
}

pub all_numbered-returns-in_default-clause-same : goal.all_numbered-returns-in_default-clause-same
all_numbered-returns-in_default-clause-same t c = λ gs m fs d to d' numbered plain all many is.
    let (others, later, d1, others-are, said, few, same) = c.trees.invariant.goes_on gs m fs d to d' numbered plain all many in
    let left : suc (c.trees.left - 1) ≡ length (listed later) = omega (arith, few, c.trees-test.true) in
    let (f, rest, mid, later-is, said-f, said-rest, fewer) = all-next c.args.sides.now.mmb.now c.args.sides.now.params m (beside c.args.sides.now m) (c.trees.left - 1) later c.trees.place d1 to d' left said in
    no-parts c.args.pieces.now c.trees.rest others f rest others-are c.in_default.ensures (same.0 is ∙ later-is)

pub all_numbered-same_numbered-requires : goal.all_numbered-same_numbered-requires
all_numbered-same_numbered-requires t c =
    let (gs, m, fs, d, to, d', numbered, plain, all, many) = c.requires.there in
    let (others, later, d1, others-are, said, few, same) = c.trees.invariant.goes_on gs m fs d to d' numbered plain all many in
    let left : suc (c.trees.left - 1) ≡ length (listed later) = omega (arith, few, c.trees-test.true) in
    let (f, rest, mid, later-is, said-f, said-rest, fewer) = all-next c.args.sides.now.mmb.now c.args.sides.now.params m (beside c.args.sides.now m) (c.trees.left - 1) later c.trees.place d1 to d' left said in
    let (g, next, others-is, first, second, g-is, next-are) = parts-of c.args.pieces.now c.trees.rest others c.in-Some.pair.0 c.in-Some.pair.1 others-are c.in-Some.ensures in
    let small = c.trees.invariant.small in
    (omega (arith, first, small), (c.trees.invariant.said, (g, m, f, d1, mid.at, mid.dummies, g-is, plain, said-f)))

pub all_numbered-returns-in_default-same_numbered-clause-same : goal.all_numbered-returns-in_default-same_numbered-clause-same
all_numbered-returns-in_default-same_numbered-clause-same t c = λ gs m fs d to d' numbered plain all many is.
    let (others, later, d1, others-are, said, few, same) = c.trees.invariant.goes_on gs m fs d to d' numbered plain all many in
    let left : suc (c.trees.left - 1) ≡ length (listed later) = omega (arith, few, c.trees-test.true) in
    let (f, rest, mid, later-is, said-f, said-rest, fewer) = all-next c.args.sides.now.mmb.now c.args.sides.now.params m (beside c.args.sides.now m) (c.trees.left - 1) later c.trees.place d1 to d' left said in
    let (g, next, others-is, first, second, g-is, next-are) = parts-of c.args.pieces.now c.trees.rest others c.in-Some.pair.0 c.in-Some.pair.1 others-are c.in-Some.ensures in
    c.in_default-same_numbered.ensures.same g m f d1 mid.at mid.dummies g-is plain said-f (first-of others later g f next rest others-is later-is (same.0 is))

pub all_numbered-trees-preserved : goal.all_numbered-trees-preserved
all_numbered-trees-preserved t c =
    let (gs, m, fs, d, to, d', numbered, plain, all, many) = c.requires.there in
    let (others, later, d1, others-are, said, few, same) = c.trees.invariant.goes_on gs m fs d to d' numbered plain all many in
    let (g, next, others-is, first, second, g-is, next-are) = parts-of c.args.pieces.now c.trees.rest others c.in-Some.pair.0 c.in-Some.pair.1 others-are c.in-Some.ensures in
    let small = c.trees.invariant.small in record {
      said = c.in-Some-same_numbered.ensures.said;
      small = omega (arith, second, small);
      goes_on = λ gs m fs d to d' numbered plain all many.
          let (others, later, d1, others-are, said, few, same) = c.trees.invariant.goes_on gs m fs d to d' numbered plain all many in
          let left : suc (c.trees.left - 1) ≡ length (listed later) = omega (arith, few, c.trees-test.true) in
          let (f, rest, mid, later-is, said-f, said-rest, fewer) = all-next c.args.sides.now.mmb.now c.args.sides.now.params m (beside c.args.sides.now m) (c.trees.left - 1) later c.trees.place d1 to d' left said in
          let (g, next, others-is, first, second, g-is, next-are) = parts-of c.args.pieces.now c.trees.rest others c.in-Some.pair.0 c.in-Some.pair.1 others-are c.in-Some.ensures in
          let (g-same, place) = c.in-Some-same_numbered.ensures.same g m f d1 mid.at mid.dummies g-is plain said-f in (
            next,
            rest,
            mid.dummies,
            next-are,
            subst (λ (at : ℕ). AreSaid c.args.sides.now.mmb.now c.args.sides.now.params m at mid.dummies rest to d') (sym place) said-rest,
            fewer,
            one-further gs fs others later g f next rest others-is later-is g-same same,
          );
    }

pub all_numbered-returns-then-is_empty_list-clause-same : goal.all_numbered-returns-then-is_empty_list-clause-same
all_numbered-returns-then-is_empty_list-clause-same t c = λ gs m fs d to d' numbered plain all many.
    let (others, later, d1, others-are, said, few, same) = c.trees.invariant.goes_on gs m fs d to d' numbered plain all many in
    let ends : 0 ≡ length (listed later) = omega (arith, few, c.trees-test.false) in
    let (later-is, place) = none-said c.args.sides.now.mmb.now c.args.sides.now.params m later c.trees.place d1 to d' ends said in
    (same.1 ((is-empty c.args.pieces.now c.trees.rest others others-are).0 (c.is_empty_list.ensures.0 c.if-is_empty_list.true) ∙ sym later-is), place)

pub all_numbered-returns-else-is_empty_list-clause-same : goal.all_numbered-returns-else-is_empty_list-clause-same
all_numbered-returns-else-is_empty_list-clause-same t c = λ gs m fs d to d' numbered plain all many is.
    let (others, later, d1, others-are, said, few, same) = c.trees.invariant.goes_on gs m fs d to d' numbered plain all many in
    let ends : 0 ≡ length (listed later) = omega (arith, few, c.trees-test.false) in
    let (later-is, place) = none-said c.args.sides.now.mmb.now c.args.sides.now.params m later c.trees.place d1 to d' ends said in
    false≢true (sym c.if-is_empty_list.false ∙ c.is_empty_list.ensures.1 ((is-empty c.args.pieces.now c.trees.rest others others-are).1 (same.0 is ∙ later-is)))

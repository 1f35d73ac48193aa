-- The expressions of an assertion: over parameters alone, where the same trees have the same variables.
use Rattle.std.proofs.Common.{◌≡◌, ◌≤◌, ◌<◌, ◌+◌, ◌-◌, ◌⊎◌, ℕ, zero, suc, Bool, true, false, ltb, eqb, List, [], ◌∷◌, ◌++◌, length, take, reverse, get_or, Option, Some, None, slice_get, refl, ap, sym, ◌∙◌, subst, arith, inl, inr}
use Rattle.std.specs.Prelude.{IsTrue, ◌↔◌, ⊤, is_some, not}
use Rattle.std.proofs.lemmas.List.{reverse-append, length-take-le, take_all}
use Rattle.std.proofs.lemmas.Bool.{false≢true, ltb-true, ltb-false, eqb-true}
use Rattle.mz_cmd.specs.declared.code.UnifyCode.{UnifyCode}
use Rattle.mz_cmd.specs.declared.code.UnifyCode.TheVariants as codes
use Rattle.mz_logic_theory.specs.Tree.{Tree, Trees, var, app, none, more}
use Rattle.mz_logic_theory.specs.View.{tree, trees}
use Rattle.mz_machine_theory.specs.Spells.{Marks, dummy_of, trees_of}
use Rattle.mz_match_rows.specs.declared.stream.Cursor.{Cursor}
use Rattle.mz_match_rows.specs.Streams.{step_at, Says, Passes, IsSaid, AreSaid, IsMade, AreMarks, HypsAreSaid}
use Rattle.mz_spec_proved_theory.specs.AlphaTrees.{SameOver, AllSameOver, SameTree, SameTrees, Pairs, IsPaired}
use Rattle.mz_spec_proved_theory.specs.Comparison.{Beside, compared}
use Rattle.mz_match_rows.specs.Comparison.{Answers}
use Rattle.mz_spec_proved_theory.proofs.Offered.{SaysNothing, weaker, no-pairs, no-dummy, sound, complete}

-- ---- over parameters alone

abbrev mutual
  pub Below : ℕ → Tree → Type 0
  Below n (var x) = x < n
  Below n (app t es) = AllBelow n es

  pub AllBelow : ℕ → Trees → Type 0
  AllBelow n none = ⊤
  AllBelow n (more e es) = Below n e × AllBelow n es

module _ (file : List ℕ) (n start : ℕ) (m : Marks) (marks : AreMarks file n start m) (plain : m.dummies ≡ []) where
  no-dummies : (d : ℕ) (s : ℕ) → slice_get m.dummies d ≡ Some (dummy_of s) → ⊥
  no-dummies d s at = let none-there : slice_get [] d ≡ Some (dummy_of s) = ap (λ bs. slice_get bs d) (sym plain) ∙ at in absurd cc

  -- what a mark holds is made somewhere, or a parameter
  held : (i : ℕ) (f : Tree) → slice_get m.trees i ≡ Some f → ((i < n) × (f ≡ var i)) ⊎ ((at d to d' : ℕ) × IsMade file n m at d f to d')
  held i f at-i = go (ltb i n) refl
    where
      go : (low : Bool) → ltb i n ≡ low → ((i < n) × (f ≡ var i)) ⊎ ((at d to d' : ℕ) × IsMade file n m at d f to d')
      go true e =
          let below = ltb-true i n e in
          inl (below, (let both : Some f ≡ Some (var i) = sym at-i ∙ marks.params i below in cc))
      go false e =
          let past = ltb-false i n e in
          let there : n + (i - n) ≡ i = omega (arith, past) in
          let made = marks.made (i - n) f (ap (slice_get m.trees) there ∙ at-i) in
          inr (made.place.at, made.place.dummies, made.end.at, made.end.dummies, made.made)

  mutual
    pub said-below : (at d : ℕ) (f : Tree) (to d' : ℕ) → IsSaid file n m at d f to d' → Below n f
    said-below at d (var x) to d' (inl (i, says, at-i, same)) = elim (held i (var x) at-i) [
      | inl low ↦ (let is : x ≡ i = (let both : var x ≡ var i = low.1 in cc) in omega (arith, low.0, is))
      | inr made ↦ absurd (no-dummies made.1 made.4.0 made.4.3)
    ]
    said-below at d (var x) to d' (inr (s, says, x-is, there, next)) = absurd (no-dummies d s there)
    said-below at d (app t es) to d' (inl (i, says, at-i, same)) = elim (held i (app t es) at-i) [
      | inl low ↦ absurd (let both : app t es ≡ var i = low.1 in cc)
      | inr made ↦ all-below made.4.0 made.1 es made.2 made.3 made.4.3
    ]
    said-below at d (app t es) to d' (inr (mid, by, arity, all)) = all-below mid d es to d' all

    all-below : (at d : ℕ) (fs : Trees) (to d' : ℕ) → AreSaid file n m at d fs to d' → AllBelow n fs
    all-below at d none to d' all = tt
    all-below at d (more f fs) to d' (mid, d1, said, all) = (said-below at d f mid d1 said, all-below mid d1 fs to d' all)

-- ---- the same trees

paired-same : (n : ℕ) (qs : List (Option ℕ)) → SaysNothing qs → (x y : ℕ) → IsPaired n qs x y → x ≡ y
paired-same n qs nothing x y (inl (same, low)) = same
paired-same n qs nothing x y (inr (p, k, x-is, y-is, at)) = absurd (nothing k p at)

mutual
  same-paired : (rows : List ℕ) (n : ℕ) (qs : List (Option ℕ)) (e f : Tree) → Below n f → SameTree rows e f → SameOver (IsPaired n qs) rows e f
  same-paired rows n qs (var x) (var y) low same = inl (same, low)
  same-paired rows n qs (var x) (app t fs) low same = same
  same-paired rows n qs (app k es) (var y) low same = same
  same-paired rows n qs (app k es) (app t fs) low same = (same.0, all-same-paired rows n qs es fs low same.1)

  all-same-paired : (rows : List ℕ) (n : ℕ) (qs : List (Option ℕ)) (es fs : Trees) → AllBelow n fs → SameTrees rows es fs → AllSameOver (IsPaired n qs) rows es fs
  all-same-paired rows n qs none none low same = same
  all-same-paired rows n qs none (more f fs) low same = same
  all-same-paired rows n qs (more e es) none low same = same
  all-same-paired rows n qs (more e es) (more f fs) low same = (same-paired rows n qs e f low.0 same.0, all-same-paired rows n qs es fs low.1 same.1)

-- what a comparison without dummies says
plain-same : (b : Beside) (ps qs : List (Option ℕ)) (e f : Tree) → b.ds ≡ [] → SaysNothing ps → compared b ps e f ≡ Some qs → SameTree b.rows e f
plain-same b ps qs e f none-beside nothing is =
    let (good, up, same) = sound b ps qs e f (no-pairs b.ds b.es ps nothing) is in
    let says-none : SaysNothing qs = no-dummy b.es qs (subst (λ ds. Pairs ds b.es qs) none-beside good) in
    weaker (IsPaired b.params qs) (λ x y. x ≡ y) b.rows (paired-same b.params qs says-none) e f same

plain-differ : (b : Beside) (ps : List (Option ℕ)) (e f : Tree) → SaysNothing ps → length b.es ≤ length ps → Below b.params f → compared b ps e f ≡ None → SameTree b.rows e f → ⊥
plain-differ b ps e f nothing room low differ same =
    let (ts, is, up, many) = complete b ps (no-pairs b.ds b.es ps nothing) ps e f room (λ k p at. at) (same-paired b.rows b.params ps e f low same) in
    let both : None ≡ Some ts = sym differ ∙ is in
    absurd cc

pub plain-answer : (b : Beside) (ps qs : List (Option ℕ)) (e f : Tree) (o : Option Cursor) (to : Cursor) (r : Bool)
    → b.ds ≡ [] → SaysNothing ps → length b.es ≤ length ps → Below b.params f → r ≡ is_some o → Answers o qs (compared b ps e f) to → IsTrue r ↔ SameTree b.rows e f
plain-answer b ps qs e f (Some c) to r none-beside nothing room low r-is (is, place) = ((λ _. plain-same b ps qs e f none-beside nothing is), λ _. r-is)
plain-answer b ps qs e f None to r none-beside nothing room low r-is differ = (
  (λ yes-is. absurd (false≢true (sym r-is ∙ yes-is))),
  λ same. absurd (plain-differ b ps e f nothing room low differ same),
)

-- ---- what a conclusion leads past

passes-append : (file : List ℕ) (k l at mid to : ℕ) → Passes file k at mid → Passes file l mid to → (j : ℕ) × Passes file j at to
passes-append file zero l at mid to first second = (l, subst (λ p. Passes file l p to) first second)
passes-append file (suc k) l at mid to (s, stands, other, rest) second = let (j, all) = passes-append file k l s.next mid to rest second in (suc j, (s, stands, other, all))

passes-one : (file : List ℕ) (at : ℕ) (c : UnifyCode) (v next : ℕ) → Says file at c v next → (c ≡ codes.Hyp → ⊥) → Passes file 1 at next
passes-one file at c v next says other = (record { code = c; value = v; next = next }, says, other, refl)

module _ (file : List ℕ) (n : ℕ) (m : Marks) where
  mutual
    pub said-passes : (at d : ℕ) (f : Tree) (to d' : ℕ) → IsSaid file n m at d f to d' → (k : ℕ) × Passes file k at to
    said-passes at d (var x) to d' (inl (i, says, at-i, same)) = (1, passes-one file at codes.Ref i to says (λ e. absurd cc))
    said-passes at d (var x) to d' (inr (s, says, x-is, there, next)) = (1, passes-one file at codes.Dummy s to says (λ e. absurd cc))
    said-passes at d (app t es) to d' (inl (i, says, at-i, same)) = (1, passes-one file at codes.Ref i to says (λ e. absurd cc))
    said-passes at d (app t es) to d' (inr (mid, inl says, arity, all)) =
        let (k, rest) = all-passes mid d es to d' all in passes-append file 1 k at mid to (passes-one file at codes.Term t mid says (λ e. absurd cc)) rest
    said-passes at d (app t es) to d' (inr (mid, inr says, arity, all)) =
        let (k, rest) = all-passes mid d es to d' all in passes-append file 1 k at mid to (passes-one file at codes.TermSave t mid says (λ e. absurd cc)) rest

    all-passes : (at d : ℕ) (fs : Trees) (to d' : ℕ) → AreSaid file n m at d fs to d' → (k : ℕ) × Passes file k at to
    all-passes at d none to d' (same, _) = (0, same)
    all-passes at d (more f fs) to d' (mid, d1, said, all) =
        let (k, first) = said-passes at d f mid d1 said in
        let (l, rest) = all-passes mid d1 fs to d' all in
        passes-append file k l at mid to first rest

-- ---- lists, from the end

-- one more at the end of both
pub last-same : (rows : List ℕ) (xs : List Tree) (e : Tree) (hs : List Tree) (h : Tree)
    → SameTrees rows (trees (xs ++ e ∷ [])) (trees_of (hs ++ h ∷ [])) ↔ (SameTrees rows (trees xs) (trees_of hs) × SameTree rows (tree e) h)
last-same rows [] e [] h = ((λ s. (tt, s.0)), λ s. (s.1, tt))
last-same rows [] e (g ∷ []) h = ((λ s. absurd s.1), λ s. absurd s.0)
last-same rows [] e (g ∷ g' ∷ hs) h = ((λ s. absurd s.1), λ s. absurd s.0)
last-same rows (x ∷ []) e [] h = ((λ s. absurd s.1), λ s. absurd s.0)
last-same rows (x ∷ x' ∷ xs) e [] h = ((λ s. absurd s.1), λ s. absurd s.0)
last-same rows (x ∷ xs) e (g ∷ hs) h =
    let rest = last-same rows xs e hs h in
    ((λ s. let t = rest.0 s.1 in ((s.0, t.0), t.1)), λ s. (s.0.0, rest.1 (s.0.1, s.1)))

-- ---- hypotheses, of which so many of the first are left

pub take-last : (xs : List Tree) (k : ℕ) (e : Tree) → k < length xs → e ≡ get_or xs k e → take (suc k) xs ≡ take k xs ++ e ∷ []
take-last [] k e below read = absurd (omega arith)
take-last (x ∷ xs) zero e below read = ap (λ (y : Tree). y ∷ []) (sym read)
take-last (x ∷ xs) (suc k) e below read = ap (λ ys. x ∷ ys) (take-last xs k e (omega arith) read)

more-same : (rows : List ℕ) (hs : List Tree) (h : Tree) → SameTrees rows none (trees_of (hs ++ h ∷ [])) → ⊥
more-same rows [] h same = same
more-same rows (g ∷ hs) h same = same

fewer-same : (rows : List ℕ) (xs : List Tree) → SameTrees rows (trees xs) none → length xs ≡ 0
fewer-same rows [] same = refl
fewer-same rows (x ∷ xs) same = absurd same

reverse-more : (h : Tree) (hs : List Tree) → reverse (h ∷ hs) ≡ reverse hs ++ h ∷ []
reverse-more h hs = reverse-append (h ∷ []) hs

-- the next hypothesis of the stream is the last that is left
pub next-hyp-same : (rows : List ℕ) (xs : List Tree) (k : ℕ) (e : Tree) (h : Tree) (rest : List Tree) → k < length xs → e ≡ get_or xs k e
    → SameTrees rows (trees (take (suc k) xs)) (trees_of (reverse (h ∷ rest))) ↔ (SameTrees rows (trees (take k xs)) (trees_of (reverse rest)) × SameTree rows (tree e) h)
next-hyp-same rows xs k e h rest below read =
    let both = last-same rows (take k xs) e (reverse rest) h in
    subst (λ (ys : List Tree). SameTrees rows (trees ys) (trees_of (reverse (h ∷ rest))) ↔ (SameTrees rows (trees (take k xs)) (trees_of (reverse rest)) × SameTree rows (tree e) h)) (sym (take-last xs k e below read))
    (subst (λ (gs : List Tree). SameTrees rows (trees (take k xs ++ e ∷ [])) (trees_of gs) ↔ (SameTrees rows (trees (take k xs)) (trees_of (reverse rest)) × SameTree rows (tree e) h)) (sym (reverse-more h rest)) both)

pub none-beside-more : (rows : List ℕ) (xs : List Tree) (h : Tree) (rest : List Tree) → SameTrees rows (trees (take 0 xs)) (trees_of (reverse (h ∷ rest))) → ⊥
none-beside-more rows xs h rest same = more-same rows (reverse rest) h (subst (λ (gs : List Tree). SameTrees rows none (trees_of gs)) (reverse-more h rest) same)

pub some-beside-none : (rows : List ℕ) (xs : List Tree) (k : ℕ) → k ≤ length xs → SameTrees rows (trees (take k xs)) none → k ≡ 0
some-beside-none rows xs k within same = let many = fewer-same rows (take k xs) same in omega (arith, many, length-take-le k xs within)

pub all-left : (rows : List ℕ) (xs : List Tree) (es : Trees) (hs : List Tree) → trees xs ≡ es
    → SameTrees rows es (trees_of (reverse hs)) ↔ SameTrees rows (trees (take (length xs) xs)) (trees_of (reverse hs))
all-left rows xs es hs is =
    let all : trees (take (length xs) xs) ≡ es = ap trees (take_all (length xs) xs (omega arith)) ∙ is in
    ((λ same. subst (λ (fs : Trees). SameTrees rows fs (trees_of (reverse hs))) (sym all) same), λ same. subst (λ (fs : Trees). SameTrees rows fs (trees_of (reverse hs))) all same)

module _ (file : List ℕ) (n : ℕ) (m : Marks) where
  -- at the END all are compared exactly where none is left
  pub left-answer : (rows : List ℕ) (xs : List Tree) (k q : ℕ) (rest : List Tree) (S : Type 0) → k ≤ length xs → HypsAreSaid file n m q rest
      → ((v next : ℕ) → Says file q codes.Hyp v next → ⊥) → S ↔ SameTrees rows (trees (take k xs)) (trees_of (reverse rest)) → IsTrue (eqb k 0) ↔ S
  left-answer rows xs k q [] S within hyps no-hyp exact = (
    (λ is. exact.1 (subst (λ (j : ℕ). SameTrees rows (trees (take j xs)) none) (sym (eqb-true k 0 is)) tt)),
    λ same. ap (λ (j : ℕ). eqb j 0) (some-beside-none rows xs k within (exact.0 same)),
  )
  left-answer rows xs k q (h ∷ rest) S within (v, next, to, says, said, later) no-hyp exact = absurd (no-hyp v next says)

  -- where a hypothesis stands and none is left, they differ
  pub hyp-left : (rows : List ℕ) (xs : List Tree) (q : ℕ) (rest : List Tree) → HypsAreSaid file n m q rest → (step_at file q ≡ None → ⊥)
      → SameTrees rows (trees (take 0 xs)) (trees_of (reverse rest)) → ⊥
  hyp-left rows xs q [] ends stands same = stands ends
  hyp-left rows xs q (h ∷ rest) hyps stands same = none-beside-more rows xs h rest same

  -- beside none, all are compared exactly where no hypothesis stands
  pub none-answer : (rows : List ℕ) (q : ℕ) (rest : List Tree) (o : Option ℕ) (r : Bool) → HypsAreSaid file n m q rest → (step_at file q ≡ None → o ≡ None)
      → ((v next : ℕ) → Says file q codes.Hyp v next → o ≡ Some next) → is_some o ≡ not r → IsTrue r ↔ SameTrees rows none (trees_of (reverse rest))
  none-answer rows q [] (Some x) r ends end hyp is = absurd (let found = end ends in cc)
  none-answer rows q [] None false ends end hyp is = absurd (false≢true is)
  none-answer rows q [] None true ends end hyp is = ((λ _. tt), λ _. refl)
  none-answer rows q (h ∷ rest) None r (v, next, to, says, said, later) end hyp is = absurd (let found = hyp v next says in cc)
  none-answer rows q (h ∷ rest) (Some x) true hyps end hyp is = absurd (false≢true (sym is))
  none-answer rows q (h ∷ rest) (Some x) false hyps end hyp is = ((λ yes-is. absurd (false≢true yes-is)), λ same. absurd (none-beside-more rows [] h rest same))

  -- the next hypothesis is there
  hyp-there : (q : ℕ) (rest : List Tree) → HypsAreSaid file n m q rest → (step_at file q ≡ None → ⊥) → (next : ℕ) → ((v next' : ℕ) → Says file q codes.Hyp v next' → next ≡ next')
      → (h : Tree) × (later : List Tree) × (v : ℕ) × (to : ℕ) × (rest ≡ h ∷ later) × Says file q codes.Hyp v next × IsSaid file n m next 0 h to 0 × HypsAreSaid file n m to later
  hyp-there q [] ends stands next is = absurd (stands ends)
  hyp-there q (h ∷ later) (v, next', to, says, said, hyps) stands next is =
      let same : next' ≡ next = sym (is v next' says) in
      (h, later, v, to, refl, subst (λ (z : ℕ). Says file q codes.Hyp v z) same says, subst (λ (z : ℕ). IsSaid file n m z 0 h to 0) same said, hyps)

  -- the same, where a search for a command of a hypothesis ended behind it
  pub hyp-found : (xs : List ℕ) (k at q : ℕ) (rest : List Tree) (next : ℕ) → xs ≡ file → Passes file k at q → HypsAreSaid file n m q rest
      → ((k' at' : ℕ) → Passes xs k' at at' → step_at xs at' ≡ None → Some next ≡ None)
      → ((k' at' v next' : ℕ) → Passes xs k' at at' → Says xs at' codes.Hyp v next' → Some next ≡ Some next')
      → (h : Tree) × (later : List Tree) × (v : ℕ) × (to : ℕ) × (rest ≡ h ∷ later) × Says file q codes.Hyp v next × IsSaid file n m next 0 h to 0 × HypsAreSaid file n m to later
  hyp-found xs k at q rest next is passes hyps end hyp =
      let passes' : Passes xs k at q = subst (λ (ys : List ℕ). Passes ys k at q) (sym is) passes in
      hyp-there q rest hyps
      (λ stops. let found = end k q passes' (ap (λ (ys : List ℕ). step_at ys q) is ∙ stops) in absurd cc) next
      (λ v next' says. let found = hyp k q v next' passes' (subst (λ (ys : List ℕ). Says ys q codes.Hyp v next') (sym is) says) in cc)

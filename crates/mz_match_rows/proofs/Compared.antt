-- One step of a comparison: what the stream says at a place, beside an expression.
use Rattle.std.proofs.Common.{◌≡◌, ◌≤◌, ◌<◌, ◌+◌, ◌-◌, ℕ, suc, Bool, true, false, cond, ltb, eqb, List, length, Option, Some, None, slice_get, refl, ap, sym, ◌∙◌, subst, arith, inl, inr}
use Rattle.std.specs.Prelude.{IsTrue, MatchBool, ◌↔◌, is_some}
use Rattle.std.proofs.lemmas.Bool.{true≢false, false≢true, ltb-true, ltb-false, eqb-true, eqb-false}
use Rattle.mz_cmd.specs.declared.code.UnifyCode.{UnifyCode}
use Rattle.mz_cmd.specs.declared.code.UnifyCode.TheVariants as codes
use Rattle.mz_logic_theory.specs.Tree.{Tree, Trees, var, app, none, more, listed}
use Rattle.mz_layout_tables.specs.Tables.{term_row}
use Rattle.mz_machine_theory.specs.Spells.{Marks, dummy_of}
use Rattle.mz_match_rows.specs.declared.stream.Step.{Step}
use Rattle.mz_match_rows.specs.declared.stream.Cursor.{Cursor}
use Rattle.mz_match_rows.specs.Streams.{step_at, Says, HasArity, IsSaid, AreSaid, IsMade, IsMarkAt, AreMarks}
use Rattle.mz_match_rows.specs.Comparison.{Answers}
use Rattle.mz_spec_proved_theory.specs.Comparison.{Beside, is_number, dummy_compared, compared, all_compared, and_then, beside_dummy}
use Rattle.mz_match_rows.specs.TermCodes.{makes_term}
use Rattle.mz_match_rows.proofs.Steps.{step-takes, says-is, says-no}

abbrev StepIs : List ℕ → ℕ → Step → UnifyCode → ℕ → ℕ → Type 0
StepIs file at s k v next = (s.code ≡ k) × (s.value ≡ v) × (s.next ≡ next)

says-step : (file : List ℕ) (at : ℕ) (k : UnifyCode) (v next : ℕ) (s : Step) → step_at file at ≡ Some s → Says file at k v next → StepIs file at s k v next
says-step file at k v next s stands says =
    let is = says-is file at k v next s stands says in
    (ap (λ (t : Step). t.code) is, ap (λ (t : Step). t.value) is, ap (λ (t : Step). t.next) is)

pub says-within : (file : List ℕ) (at : ℕ) (k : UnifyCode) (v next : ℕ) → Says file at k v next → at ≤ length file
says-within file at k v next says = let t = step-takes file at (record { code = k; value = v; next = next }) says in omega (arith, t.0, t.1)

pub cursor-is : (c : Cursor) (at d : ℕ) → c.at ≡ at → c.dummies ≡ d → record { at = at; dummies = d } ≡ c
cursor-is c at d p q = sym (ap (λ (x : ℕ). record { at = x; dummies = c.dummies }) p ∙ ap (λ (x : ℕ). record { at = at; dummies = x }) q)

module _ (file : List ℕ) (n : ℕ) (m : Marks) where
  pub said-within : (at d : ℕ) (f : Tree) (to d' : ℕ) → IsSaid file n m at d f to d' → at ≤ length file
  said-within at d (var x) to d' (inl (i, says, _, _)) = says-within file at codes.Ref i to says
  said-within at d (var x) to d' (inr (s, says, _, _, _)) = says-within file at codes.Dummy s to says
  said-within at d (app t es) to d' (inl (i, says, _, _)) = says-within file at codes.Ref i to says
  said-within at d (app t es) to d' (inr (mid, inl says, _, _)) = says-within file at codes.Term t mid says
  said-within at d (app t es) to d' (inr (mid, inr says, _, _)) = says-within file at codes.TermSave t mid says

  pub made-within : (at d : ℕ) (f : Tree) (to d' : ℕ) → IsMade file n m at d f to d' → at ≤ length file
  made-within at d (var x) to d' (s, says, _, _, _) = says-within file at codes.Dummy s to says
  made-within at d (app t es) to d' (mid, inl says, _, _) = says-within file at codes.Term t mid says
  made-within at d (app t es) to d' (mid, inr says, _, _) = says-within file at codes.TermSave t mid says

  -- at an END nothing is said
  pub said-no : (at d : ℕ) (f : Tree) (to d' : ℕ) → step_at file at ≡ None → IsSaid file n m at d f to d' → ⊥
  said-no at d (var x) to d' ends (inl (i, says, _, _)) = says-no file at codes.Ref i to ends says
  said-no at d (var x) to d' ends (inr (s, says, _, _, _)) = says-no file at codes.Dummy s to ends says
  said-no at d (app t es) to d' ends (inl (i, says, _, _)) = says-no file at codes.Ref i to ends says
  said-no at d (app t es) to d' ends (inr (mid, inl says, _, _)) = says-no file at codes.Term t mid ends says
  said-no at d (app t es) to d' ends (inr (mid, inr says, _, _)) = says-no file at codes.TermSave t mid ends says

  pub made-no : (at d : ℕ) (f : Tree) (to d' : ℕ) → step_at file at ≡ None → IsMade file n m at d f to d' → ⊥
  made-no at d (var x) to d' ends (s, says, _, _, _) = says-no file at codes.Dummy s to ends says
  made-no at d (app t es) to d' ends (mid, inl says, _, _) = says-no file at codes.Term t mid ends says
  made-no at d (app t es) to d' ends (mid, inr says, _, _) = says-no file at codes.TermSave t mid ends says

  -- ---- references

  -- where none stands, the expression is made
  pub said-made : (at d : ℕ) (f : Tree) (to d' : ℕ) (s : Step) → step_at file at ≡ Some s → (s.code ≡ codes.Ref → ⊥) → IsSaid file n m at d f to d' → IsMade file n m at d f to d'
  said-made at d (var x) to d' s stands other (inl (i, says, _, _)) = absurd (other (says-step file at codes.Ref i to s stands says).0)
  said-made at d (var x) to d' s stands other (inr made) = made
  said-made at d (app t es) to d' s stands other (inl (i, says, _, _)) = absurd (other (says-step file at codes.Ref i to s stands says).0)
  said-made at d (app t es) to d' s stands other (inr made) = made

  pub made-said : (at d : ℕ) (f : Tree) (to d' : ℕ) → IsMade file n m at d f to d' → IsSaid file n m at d f to d'
  made-said at d (var x) to d' made = inr made
  made-said at d (app t es) to d' made = inr made

  -- where one stands, it is the mark's
  pub said-mark : (at d : ℕ) (f : Tree) (to d' : ℕ) (s : Step) → step_at file at ≡ Some s → s.code ≡ codes.Ref → IsSaid file n m at d f to d'
      → (slice_get m.trees s.value ≡ Some f) × (s.next ≡ to) × (d' ≡ d)
  said-mark at d (var x) to d' s stands ref (inl (i, says, at-i, same)) =
      let is = says-step file at codes.Ref i to s stands says in (ap (slice_get m.trees) is.1 ∙ at-i, is.2, same)
  said-mark at d (var x) to d' s stands ref (inr (v, says, _, _, _)) = absurd (let is : codes.Dummy ≡ codes.Ref = sym (says-step file at codes.Dummy v to s stands says).0 ∙ ref in cc)
  said-mark at d (app t es) to d' s stands ref (inl (i, says, at-i, same)) =
      let is = says-step file at codes.Ref i to s stands says in (ap (slice_get m.trees) is.1 ∙ at-i, is.2, same)
  said-mark at d (app t es) to d' s stands ref (inr (mid, inl says, _, _)) = absurd (let is : codes.Term ≡ codes.Ref = sym (says-step file at codes.Term t mid s stands says).0 ∙ ref in cc)
  said-mark at d (app t es) to d' s stands ref (inr (mid, inr says, _, _)) = absurd (let is : codes.TermSave ≡ codes.Ref = sym (says-step file at codes.TermSave t mid s stands says).0 ∙ ref in cc)

  -- a mark past the parameters is made somewhere
  pub mark-made : (start i : ℕ) (f : Tree) → AreMarks file n start m → n ≤ i → slice_get m.trees i ≡ Some f → IsMarkAt file n start m (i - n) f
  mark-made start i f marks past at-i =
      let there : n + (i - n) ≡ i = omega (arith, past) in
      marks.made (i - n) f (ap (slice_get m.trees) there ∙ at-i)

  pub mark-param : (start i : ℕ) (f : Tree) → AreMarks file n start m → i < n → slice_get m.trees i ≡ Some f → f ≡ var i
  mark-param start i f marks below at-i = let both : Some f ≡ Some (var i) = sym at-i ∙ marks.params i below in cc

  -- ---- dummies

  -- where a dummy stands, its variable is said
  pub made-dummy : (at d : ℕ) (f : Tree) (to d' : ℕ) (s : Step) → step_at file at ≡ Some s → s.code ≡ codes.Dummy → IsMade file n m at d f to d'
      → (f ≡ var (n + d)) × (slice_get m.dummies d ≡ Some (dummy_of s.value)) × (s.next ≡ to) × (d' ≡ suc d)
  made-dummy at d (var x) to d' s stands is (v, says, x-is, there, next) =
      let same = says-step file at codes.Dummy v to s stands says in
      (ap var x-is, there ∙ ap (λ (z : ℕ). Some (dummy_of z)) (sym same.1), same.2, next)
  made-dummy at d (app t es) to d' s stands is (mid, inl says, _, _) = absurd (let e : codes.Term ≡ codes.Dummy = sym (says-step file at codes.Term t mid s stands says).0 ∙ is in cc)
  made-dummy at d (app t es) to d' s stands is (mid, inr says, _, _) = absurd (let e : codes.TermSave ≡ codes.Dummy = sym (says-step file at codes.TermSave t mid s stands says).0 ∙ is in cc)

  -- ---- applications

  -- where a term stands, its application is said
  pub made-term : (at d : ℕ) (f : Tree) (to d' : ℕ) (s : Step) → step_at file at ≡ Some s → makes_term s.code ≡ true → IsMade file n m at d f to d'
      → (fs : Trees) × (f ≡ app s.value fs) × HasArity file s.value fs × AreSaid file n m s.next d fs to d'
  made-term at d (var x) to d' s stands is (v, says, _, _, _) =
      absurd (false≢true (ap makes_term (sym (says-step file at codes.Dummy v to s stands says).0) ∙ is))
  made-term at d (app t fs) to d' s stands is (mid, by, arity, all) =
      let same : (s.value ≡ t) × (s.next ≡ mid) = elim by [
        | inl says ↦ (let is = says-step file at codes.Term t mid s stands says in (is.1, is.2))
        | inr says ↦ (let is = says-step file at codes.TermSave t mid s stands says in (is.1, is.2))
      ] in
      (fs, ap (λ (z : ℕ). app z fs) (sym same.0), subst (λ (z : ℕ). HasArity file z fs) (sym same.0) arity, subst (λ (z : ℕ). AreSaid file n m z d fs to d') (sym same.1) all)

  -- and elsewhere a variable
  pub made-variable : (at d : ℕ) (f : Tree) (to d' : ℕ) (s : Step) → step_at file at ≡ Some s → makes_term s.code ≡ false → IsMade file n m at d f to d' → (y : ℕ) × (f ≡ var y)
  made-variable at d (var x) to d' s stands is made = (x, refl)
  made-variable at d (app t fs) to d' s stands is (mid, inl says, _, _) =
      absurd (true≢false (ap makes_term (sym (says-step file at codes.Term t mid s stands says).0) ∙ is))
  made-variable at d (app t fs) to d' s stands is (mid, inr says, _, _) =
      absurd (true≢false (ap makes_term (sym (says-step file at codes.TermSave t mid s stands says).0) ∙ is))

-- ---- comparing

module _ (b : Beside) where
  -- a variable beside a parameter
  pub compared-param : (pairs : List (Option ℕ)) (e : Tree) (i : ℕ) → i < b.params
      → ((e ≡ var i) → compared b pairs e (var i) ≡ Some pairs) × ((e ≡ var i → ⊥) → compared b pairs e (var i) ≡ None)
  compared-param pairs (app k es) i below = ((λ is. absurd cc), λ _. refl)
  compared-param pairs (var x) i below = go (ltb i b.params) (eqb x i) refl refl
    where
      go : (low same : Bool) → ltb i b.params ≡ low → eqb x i ≡ same
          → ((var x ≡ var i) → cond low (cond same (Some pairs) None) (beside_dummy b pairs x (i - b.params) (slice_get b.es (i - b.params))) ≡ Some pairs)
          × ((var x ≡ var i → ⊥) → cond low (cond same (Some pairs) None) (beside_dummy b pairs x (i - b.params) (slice_get b.es (i - b.params))) ≡ None)
      go false same low eq = absurd (let high = ltb-false i b.params low in omega (arith, high, below))
      go true true low eq = ((λ _. refl), λ other. absurd (other (ap var (eqb-true x i eq))))
      go true false low eq = ((λ is. let e : x ≡ i = cc in absurd (eqb-false x i eq e)), λ _. refl)

  -- a variable beside a dummy
  pub compared-dummy : (pairs : List (Option ℕ)) (x d s : ℕ) → slice_get b.es d ≡ Some (dummy_of s)
      → compared b pairs (var x) (var (b.params + d)) ≡ dummy_compared b.params b.ds pairs d s x
  compared-dummy pairs x d s there = go (ltb (b.params + d) b.params) refl
    where
      back : (b.params + d) - b.params ≡ d
      back = omega arith

      go : (low : Bool) → ltb (b.params + d) b.params ≡ low
          → cond low (cond (eqb x (b.params + d)) (Some pairs) None) (beside_dummy b pairs x ((b.params + d) - b.params) (slice_get b.es ((b.params + d) - b.params)))
          ≡ dummy_compared b.params b.ds pairs d s x
      go true low = absurd (let below = ltb-true (b.params + d) b.params low in omega (arith, below))
      go false low =
          ap (λ (k : ℕ). beside_dummy b pairs x k (slice_get b.es k)) back ∙ ap (beside_dummy b pairs x d) there

  then-none : (o : Option (List (Option ℕ))) (rest : List (Option ℕ) → Option (List (Option ℕ))) → ((qs : List (Option ℕ)) → rest qs ≡ None) → and_then o rest ≡ None
  then-none None rest never = refl
  then-none (Some qs) rest never = never qs

  -- lists of different lengths
  pub all-differ : (pairs : List (Option ℕ)) (es fs : Trees) → (length (listed es) ≡ length (listed fs) → ⊥) → all_compared b pairs es fs ≡ None
  all-differ pairs none none other = absurd (other refl)
  all-differ pairs none (more f fs) other = refl
  all-differ pairs (more e es) none other = refl
  all-differ pairs (more e es) (more f fs) other = then-none (compared b pairs e f) (λ qs. all_compared b qs es fs) λ qs. all-differ qs es fs (λ same. other (ap suc same))

  -- an application of a partner, and of another term
  pub compared-app : (pairs : List (Option ℕ)) (k : ℕ) (es : Trees) (t : ℕ) (fs : Trees) → is_number t (slice_get b.rows k) ≡ true
      → compared b pairs (app k es) (app t fs) ≡ all_compared b pairs es fs
  compared-app pairs k es t fs is = ap (λ (z : Bool). cond z (all_compared b pairs es fs) None) is

  pub compared-other : (pairs : List (Option ℕ)) (k : ℕ) (es : Trees) (t : ℕ) (fs : Trees)
      → ((is_number t (slice_get b.rows k) ≡ true) × (length (listed es) ≡ length (listed fs)) → ⊥) → compared b pairs (app k es) (app t fs) ≡ None
  compared-other pairs k es t fs other = go (is_number t (slice_get b.rows k)) refl
    where
      go : (z : Bool) → is_number t (slice_get b.rows k) ≡ z → cond z (all_compared b pairs es fs) None ≡ None
      go false is = refl
      go true is = all-differ pairs es fs (λ same. other (is, same))

-- ---- answers

-- a test that is exact says which it is
pub marked : (r : Bool) (P S N : Type 0) → IsTrue r ↔ P → (P → S) → ((P → ⊥) → N) → MatchBool r S N
marked true P S N exact hit miss = hit (exact.0 refl)
marked false P S N exact hit miss = miss (λ p. false≢true (exact.1 p))

pub found-place : (p q : Cursor) → Some p ≡ Some q → p ≡ q
found-place p q e = cc

-- an answer without its place
pub answered : (o : Option Cursor) (pairs : List (Option ℕ)) (r : Option (List (Option ℕ))) (to : Cursor) (b : Bool) → b ≡ is_some o → Answers o pairs r to → MatchBool b (r ≡ Some pairs) (r ≡ None)
answered None pairs r to false is a = a
answered None pairs r to true is a = absurd (true≢false is)
answered (Some c) pairs r to true is a = a.0
answered (Some c) pairs r to false is a = absurd (false≢true is)

-- another term than the partner, or with other operands
pub differs-app : (file : List ℕ) (n : ℕ) (m : Marks) (b : Beside) (pairs : List (Option ℕ)) (k : ℕ) (es : Trees) (at d : ℕ) (f : Tree) (to d' : ℕ) (s : Step)
    → step_at file at ≡ Some s → IsMade file n m at d f to d'
    → ((makes_term s.code ≡ true) × (is_number s.value (slice_get b.rows k) ≡ true) × (length (listed es) ≡ length (term_row file s.value).words.params) → ⊥)
    → compared b pairs (app k es) f ≡ None
differs-app file n m b pairs k es at d f to d' s stands made other = go (makes_term s.code) refl
  where
    go : (z : Bool) → makes_term s.code ≡ z → compared b pairs (app k es) f ≡ None
    go false is =
        let (y, f-is) = made-variable file n m at d f to d' s stands is made in
        ap (compared b pairs (app k es)) f-is
    go true is =
        let (fs, f-is, arity, all) = made-term file n m at d f to d' s stands is made in
        ap (compared b pairs (app k es)) f-is ∙ compared-other b pairs k es s.value fs (λ both. other (is, both.0, both.1 ∙ arity.1))

-- ---- operands, one after another

abbrev pub many-of : Trees → ℕ
many-of es = length (listed es)

module _ (file : List ℕ) (n : ℕ) (m : Marks) (b : Beside) where
  -- the next one of as many
  pub all-next : (k : ℕ) (fs : Trees) (at d to d' : ℕ) → suc k ≡ length (listed fs) → AreSaid file n m at d fs to d'
      → (f : Tree) × (rest : Trees) × (mid : Cursor) × (fs ≡ more f rest) × IsSaid file n m at d f mid.at mid.dummies × AreSaid file n m mid.at mid.dummies rest to d' × (k ≡ length (listed rest))
  all-next k none at d to d' many all = absurd cc
  all-next k (more f rest) at d to d' many (mid, d1, said, all) = (f, rest, record { at = mid; dummies = d1 }, refl, said, all, omega (arith, many))

  pub all-stopped : (pairs : List (Option ℕ)) (e : Tree) (es : Trees) (f : Tree) (rest : Trees) → compared b pairs e f ≡ None → all_compared b pairs (more e es) (more f rest) ≡ None
  all-stopped pairs e es f rest is = ap (λ (o : Option (List (Option ℕ))). and_then o (λ qs. all_compared b qs es rest)) is

  pub all-goes-on : (pairs qs : List (Option ℕ)) (e : Tree) (es : Trees) (f : Tree) (rest : Trees) → compared b pairs e f ≡ Some qs → all_compared b pairs (more e es) (more f rest) ≡ all_compared b qs es rest
  all-goes-on pairs qs e es f rest is = ap (λ (o : Option (List (Option ℕ))). and_then o (λ ps. all_compared b ps es rest)) is

  -- none is left
  pub all-done : (pairs : List (Option ℕ)) (fs : Trees) (place to : Cursor) → 0 ≡ length (listed fs) → AreSaid file n m place.at place.dummies fs to.at to.dummies
      → (all_compared b pairs none fs ≡ Some pairs) × (place ≡ to)
  all-done pairs none place to many (p, q) = (refl, cursor-is to place.at place.dummies p q)
  all-done pairs (more f fs) place to many all = absurd cc

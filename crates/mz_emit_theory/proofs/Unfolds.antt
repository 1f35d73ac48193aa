-- An unfolding, as the text says it, is one of the body that the row spells.
use Rattle.std.proofs.Common.{◌≡◌, ℕ, zero, suc, ◌+◌, ◌-◌, ◌<◌, ◌≤◌, List, [], ◌∷◌, ◌++◌, length, map, Option, Some, None, refl, sym, ap, subst, ◌∙◌, inl, inr, arith, length-append, not-suc-le-zero, true, get_or}
use Rattle.std.specs.Prelude.{slice_get, Contains}
use Rattle.std.proofs.lemmas.Bool.{cases_lt}
use Rattle.std.proofs.lemmas.Option.{get_or_from_slice_get, slice_get_within}
use Rattle.mz_logic_theory.specs.Tree.{Tree, Trees, var, app, none, more, operand, instance, instances, followed_by, variables}
use Rattle.mz_logic_theory.specs.Signature.{Signature}
use Rattle.mz_logic_theory.specs.Declaration.{Form, plain_form, abstract_form, defined, Declaration, signatures}
use Rattle.mz_logic_theory.specs.Sorts.{HasSort, Fits}
use Rattle.mz_logic_theory.specs.Variables.{Occurs, OccursIn, InSomeV}
use Rattle.mz_logic_theory.specs.Conversions.{IsBoundOf, AreFresh}
use Rattle.mz_logic_theory.specs.declared.binder.Binder.{Binder}
use Rattle.mz_logic_theory.proofs.Offered.{instance-instance, instances-followed_by, split_at}
use Rattle.mz_machine_theory.specs.Streams.{of_definition, UnifyCommand}
use Rattle.mz_machine_theory.specs.Spells.{trees_of, variables_from, dummy_of, Marks, marked, Spells, SpellsAll, SpellsText, Text, SpelledTerm, SpellsForm}
use Rattle.mz_machine_theory.proofs.Offered.{some_is, fits-length, fresh-at, distinct, in-some, signature-at}
use Rattle.mz_machine_theory.specs.MachineState.{RowsBefore, Declares}
use Rattle.mz_emit_theory.specs.Steps.{IsUnfolding}
use Rattle.mz_emit_theory.specs.AlphaEquivalence.{own, IsSameForm, IsSameEnv}
use Rattle.mz_emit_theory.proofs.SameTables.{same-signatures, definition-row-at}

-- ---- each dummy that is met occurs

module _ (n : ℕ) (sigs : List Signature) where
  mutual
    met-occurs : (p : Tree) (m m' : Marks) (us us' : List UnifyCommand) → Spells n sigs m us p m' us' → (k : ℕ) → length m.dummies ≤ k → k < length m'.dummies → Occurs (n + k) p
    met-occurs (var x) m m' us us' (inl (i, _, _, is)) k low high = absurd (omega (arith, ap (λ (z : Marks). length z.dummies) is))
    met-occurs (var x) m m' us us' (inr (s, _, x-is, is)) k low high =
        let same : k ≡ length m.dummies = omega (arith, ap (λ (z : Marks). length z.dummies) is, length-append m.dummies (dummy_of s ∷ [])) in
        ap (λ (z : ℕ). n + z) same ∙ sym x-is
    met-occurs (app t es) m m' us us' (inl (i, _, _, is)) k low high = absurd (omega (arith, ap (λ (z : Marks). length z.dummies) is))
    met-occurs (app t es) m m' us us' (inr (inl (rest, _, _, all))) k low high = all-met-occur es m m' rest us' all k low high
    met-occurs (app t es) m m' us us' (inr (inr (rest, _, _, all))) k low high = all-met-occur es (marked m (app t es)) m' rest us' all k low high

    all-met-occur : (es : Trees) (m m' : Marks) (us us' : List UnifyCommand) → SpellsAll n sigs m us es m' us' → (k : ℕ) → length m.dummies ≤ k → k < length m'.dummies → OccursIn (n + k) es
    all-met-occur none m m' us us' (is, _) k low high = absurd (omega (arith, ap (λ (z : Marks). length z.dummies) is))
    all-met-occur (more e es) m m' us us' (mid, rest, first, others) k low high = elim (cases_lt k (length mid.dummies)) [
      | inl below ↦ inl (met-occurs e m mid us rest first k low below)
      | inr over ↦ inr (all-met-occur es mid m' rest us' others k over high)
    ]

pub dummies-occur : (sigs : List Signature) (params : List Binder) (stream : List ℕ) (body : Tree) (marks : Marks) → SpellsText of_definition sigs params stream none body marks
    → (k : ℕ) → k < length marks.dummies → Occurs (length params + k) body
dummies-occur sigs params stream body marks (us, _, mid, rest, spells, (_, is)) k high =
    met-occurs (length params) sigs body (record { trees = variables_from 0 params; dummies = [] }) mid us rest spells k (omega arith) (subst (λ (z : Marks). k < length z.dummies) is high)

-- ---- instances

mutual
  pub instance-occurs : (f : Trees) (x y : ℕ) (e : Tree) → Occurs y e → Occurs x (operand f y) → Occurs x (instance f e)
  instance-occurs f x y (var z) o h = subst (λ (w : ℕ). Occurs x (operand f w)) o h
  instance-occurs f x y (app t es) o h = instances-occur f x y es o h

  instances-occur : (f : Trees) (x y : ℕ) (es : Trees) → OccursIn y es → Occurs x (operand f y) → OccursIn x (instances f es)
  instances-occur f x y none o h = absurd o
  instances-occur f x y (more e es) (inl o) h = inl (instance-occurs f x y e o h)
  instances-occur f x y (more e es) (inr o) h = inr (instances-occur f x y es o h)

pub operand-front : (es : List Tree) (fs : Trees) (i : ℕ) → i < length es → operand (followed_by (trees_of es) fs) i ≡ operand (trees_of es) i
operand-front [] fs i lt = absurd (omega arith)
operand-front (e ∷ es) fs zero lt = refl
operand-front (e ∷ es) fs (suc i) lt = operand-front es fs i (omega arith)

pub operand-behind : (es : List Tree) (fs : Trees) (n k : ℕ) → length es ≡ n → operand (followed_by (trees_of es) fs) (n + k) ≡ operand fs k
operand-behind [] fs n k len = ap (operand fs) (omega arith)
operand-behind (e ∷ es) fs zero k len = absurd (omega arith)
operand-behind (e ∷ es) fs (suc n) k len = ap (operand (more e (followed_by (trees_of es) fs))) (shift n k) ∙ operand-behind es fs n k (omega arith)
  where
    shift : (a b : ℕ) → suc a + b ≡ suc (a + b)
    shift a b = omega arith

pub operand-variables : (zs : List ℕ) (k z : ℕ) → slice_get zs k ≡ Some z → operand (variables zs) k ≡ var z
operand-variables [] k z at = absurd cc
operand-variables (w ∷ zs) zero z at = let is : w ≡ z = cc in ap var is
operand-variables (w ∷ zs) (suc k) z at = operand-variables zs k z at

-- the parameters become the operands
own-instances : (F : Trees) (ps : List Binder) (j : ℕ) (es : List Tree) → length es ≡ length ps → ((i : ℕ) → i < length ps → operand F (j + i) ≡ operand (trees_of es) i)
    → instances F (trees_of (variables_from j ps)) ≡ trees_of es
own-instances F [] j [] len each = refl
own-instances F (p ∷ ps) j (e ∷ es) len each =
    ap (λ (z : Tree). more z (instances F (trees_of (variables_from (suc j) ps)))) (ap (operand F) (plus-zero j) ∙ each 0 (omega arith))
    ∙ ap (more e) (own-instances F ps (suc j) es (omega arith) λ i lt. ap (operand F) (shift j i) ∙ each (suc i) (omega arith))
  where
    plus-zero : (a : ℕ) → a ≡ a + 0
    plus-zero a = omega arith

    shift : (a b : ℕ) → suc a + b ≡ a + suc b
    shift a b = omega arith
own-instances F _ j _ len each = absurd (omega arith)

pub get-own : (j : ℕ) (ps : List Binder) (i : ℕ) → i < length ps → slice_get (variables_from j ps) i ≡ Some (var (j + i))
get-own j [] i lt = absurd (omega arith)
get-own j (p ∷ ps) zero lt = ap (λ (z : ℕ). Some (var z)) (omega arith)
get-own j (p ∷ ps) (suc i) lt = get-own (suc j) ps i (omega arith) ∙ ap (λ (z : ℕ). Some (var z)) (omega arith)

-- ---- the variables for a row's dummies are those that the text puts in for its own

module _ (ctx : List Binder) (es : List Tree) (ps ds : List Binder) (zs : List ℕ) (fresh : AreFresh ctx (trees_of es) zs ds) where
  -- the variable for the dummy y
  abbrev pub pick : ℕ → ℕ
  pick y = get_or zs (y - length ps) 0

  abbrev HasPlace : ℕ → Type 0
  HasPlace y = (k : ℕ) × (c : Binder) × (y ≡ length ps + k) × (slice_get ds k ≡ Some c) × (slice_get (ps ++ ds) y ≡ Some c)

  has-place : (y : ℕ) (c : Binder) → slice_get (ps ++ ds) y ≡ Some c → c.bound ≡ true → (InSomeV (ps ++ ds) y (own ps) → ⊥) → HasPlace y
  has-place y c at bound out = elim (split_at ps ds y c at) [
    | inl here ↦ absurd (out (in-some (ps ++ ds) y (variables_from 0 ps) y (var y) (get-own 0 ps y (slice_get_within ps y c here) ∙ ap (λ (z : ℕ). Some (var z)) (zero-plus y)) (c, at, inl (bound, refl))))
    | inr (k, is, there) ↦ (k, c, is, there, at)
  ]
    where
      zero-plus : (a : ℕ) → 0 + a ≡ a
      zero-plus a = omega arith

  places : (ys : List ℕ) (fs : List Binder) → AreFresh (ps ++ ds) (own ps) ys fs → (i y : ℕ) → slice_get ys i ≡ Some y → HasPlace y
  places [] fs h i y at = absurd cc
  places (w ∷ ys) [] h i y at = absurd h
  places (w ∷ ys) (b ∷ fs) ((c, c-at, bound, _), out, _, h) zero y at = let is : w ≡ y = cc in subst HasPlace is (has-place w c c-at bound out)
  places (w ∷ ys) (b ∷ fs) (_, _, _, h) (suc i) y at = places ys fs h i y at

  pick-is : (y : ℕ) → (p : HasPlace y) → (z : ℕ) × (slice_get zs p.0 ≡ Some z) × (pick y ≡ z) × IsBoundOf ctx z p.1.sort × (InSomeV ctx z (trees_of es) → ⊥)
  pick-is y (k, c, is, c-at, _) =
      let (z, z-at, bound, out) = fresh-at ctx (trees_of es) zs ds fresh k c c-at in
      (z, z-at, ap (λ (i : ℕ). get_or zs i 0) (omega arith) ∙ get_or_from_slice_get zs k z 0 z-at, bound, out)

  pick-one : (y w : ℕ) → HasPlace y → HasPlace w → pick y ≡ pick w → y ≡ w
  pick-one y w hy hw same =
      let (z, z-at, z-is, _, _) = pick-is y hy in
      let (v, v-at, v-is, _, _) = pick-is w hw in
      let one : hy.0 ≡ hw.0 = distinct ctx (trees_of es) zs ds fresh hy.0 hw.0 z z-at (v-at ∙ ap (λ (q : ℕ). Some q) (sym v-is ∙ sym same ∙ z-is)) in
      hy.2 ∙ ap (λ (q : ℕ). length ps + q) one ∙ sym hw.2

  pick-back : (ys : List ℕ) (y : ℕ) → ((i w : ℕ) → slice_get ys i ≡ Some w → HasPlace w) → HasPlace y → Contains (map pick ys) (pick y) → Contains ys y
  pick-back [] y all hy (k, lt, is) = absurd (not-suc-le-zero lt)
  pick-back (w ∷ ys) y all hy (zero, lt, is) = (0, omega arith, pick-one w y (all 0 w refl) hy is)
  pick-back (w ∷ ys) y all hy (suc k, lt, is) = let (i, i-lt, i-is) = pick-back ys y (λ j v. all (suc j) v) hy (k, omega arith, is) in (suc i, omega arith, i-is)

  pub picked-fresh : (ys : List ℕ) (fs : List Binder) → AreFresh (ps ++ ds) (own ps) ys fs → AreFresh ctx (trees_of es) (map pick ys) fs
  picked-fresh [] [] h = tt
  picked-fresh (y ∷ ys) (b ∷ fs) ((c, c-at, bound, sort-is), out, once, h) =
      let hy : HasPlace y = has-place y c c-at bound out in
      let (z, z-at, z-is, (a, a-at, a-bound, a-sort), z-out) = pick-is y hy in
      let c-is : hy.1 ≡ c = some_is hy.4 c-at in (
        (a, ap (slice_get ctx) z-is ∙ a-at, a-bound, a-sort ∙ ap (λ (q : Binder). q.sort) c-is ∙ sort-is),
        (λ within. z-out (subst (λ (q : ℕ). InSomeV ctx q (trees_of es)) z-is within)),
        (λ has. once (pick-back ys y (places ys fs h) hy has)),
        picked-fresh ys fs h,
      )
  picked-fresh _ _ h = absurd h

  variables-picked : (F : Trees) → ((y : ℕ) → HasPlace y → operand F y ≡ var (pick y)) → (ys : List ℕ) → ((i w : ℕ) → slice_get ys i ≡ Some w → HasPlace w) → instances F (variables ys) ≡ variables (map pick ys)
  variables-picked F each [] all = refl
  variables-picked F each (y ∷ ys) all = ap (λ (z : Tree). more z (instances F (variables ys))) (each y (all 0 y refl)) ∙ ap (more (var (pick y))) (variables-picked F each ys λ i w. all (suc i) w)

  -- the text's instance of its body is one of the row's body
  pub picked-instance : length es ≡ length ps → (ys : List ℕ) (fs : List Binder) → AreFresh (ps ++ ds) (own ps) ys fs → (f : Tree)
      → instance (followed_by (trees_of es) (variables zs)) (instance (followed_by (own ps) (variables ys)) f) ≡ instance (followed_by (trees_of es) (variables (map pick ys))) f
  picked-instance len ys fs h f =
      let F : Trees = followed_by (trees_of es) (variables zs) in
      let behind : (y : ℕ) → HasPlace y → operand F y ≡ var (pick y) = λ y hy.
      (let (z, z-at, z-is, _, _) = pick-is y hy in
      ap (operand F) hy.2 ∙ operand-behind es (variables zs) (length ps) hy.0 len ∙ operand-variables zs hy.0 z z-at ∙ ap var (sym z-is)) in
      instance-instance F (followed_by (own ps) (variables ys)) f
      ∙ ap (λ (q : Trees). instance q f)
      (instances-followed_by F (own ps) (variables ys)
      ∙ ap (λ (q : Trees). followed_by q (instances F (variables ys))) (own-instances F ps 0 es len λ i lt. ap (operand F) (zero-plus i) ∙ operand-front es (variables zs) i (omega arith))
      ∙ ap (followed_by (trees_of es)) (variables-picked F behind ys (places ys fs h)))
    where
      zero-plus : (a : ℕ) → 0 + a ≡ a
      zero-plus a = omega arith

-- ---- the row of a definition

same-form : (params ds : List Binder) (body : Tree) (form : Form) → IsSameForm params (defined ds body) form
    → (fs : List Binder) × (f : Tree) × (form ≡ defined fs f) × ((ys : List ℕ) × AreFresh (params ++ ds) (own params) ys fs × (body ≡ instance (followed_by (own params) (variables ys)) f))
same-form params ds body (defined fs f) (ys, fresh, is, _) = (fs, f, refl, (ys, fresh, is))
same-form params ds body _ h = absurd h

spelled-form : (sigs : List Signature) (params : List Binder) (o : Option (List ℕ)) (fs : List Binder) (f : Tree) → SpellsForm sigs params o (defined fs f)
    → (stream : List ℕ) × (o ≡ Some stream) × Text of_definition sigs params stream none f fs
spelled-form sigs params None fs f h = absurd h
spelled-form sigs params (Some stream) fs f h = (stream, refl, h)

pub record IsSpelledUnfolding (tables : RowsBefore) (sigs : List Signature) (ctx : List Binder) (t : ℕ) (es : List Tree) (e : Tree) : Type 0 where
  pub row : SpelledTerm
  pub stream : List ℕ
  pub body : Tree
  pub marks : Marks
  pub ys : List ℕ
  pub row_at : slice_get tables.terms t ≡ Some row
  pub stream_is : row.stream ≡ Some stream
  pub text : SpellsText of_definition sigs row.signature.params stream none body marks
  pub fits : Fits sigs ctx (trees_of es) row.signature.params
  pub fresh : AreFresh ctx (trees_of es) ys marks.dummies
  pub unfolds : e ≡ instance (followed_by (trees_of es) (variables ys)) body

pub spelled-unfolding : (tables : RowsBefore) (env env' : List Declaration) → Declares tables env' → IsSameEnv env env' → (ctx : List Binder) (t : ℕ) (es : List Tree) (e : Tree) (s : ℕ)
    → HasSort (signatures env) ctx (app t (trees_of es)) s → IsUnfolding env ctx t es e → IsSpelledUnfolding tables (signatures env) ctx t es e
spelled-unfolding tables env env' declares same ctx t es e s (d0, d0-at, _, fits0) (d, ds, body, zs, (d-at, form-is), fresh, e-is) =
    let (row, d', row-at, (sig-is, forms), (row-is, spells)) = definition-row-at tables env env' declares same t d d-at in
    let ps : List Binder = row.signature.params in
    let row-sig : slice_get (signatures env) t ≡ Some row.signature = subst (λ (z : List Signature). slice_get z t ≡ Some row.signature) (sym (same-signatures env env' same)) (signature-at tables env' declares t row row-at) in
    let fits : Fits (signatures env) ctx (trees_of es) ps = subst (λ (z : Signature). Fits (signatures env) ctx (trees_of es) z.params) (some_is d0-at row-sig) fits0 in
    let sigs-one : d.signature ≡ row.signature = sig-is ∙ sym row-is in
    let forms' : IsSameForm ps (defined ds body) d'.form = subst (λ (z : Form). IsSameForm ps z d'.form) form-is (subst (λ (z : Signature). IsSameForm z.params d.form d'.form) sigs-one forms) in
    let (fs, f, form'-is, (ys, ys-fresh, body-is)) = same-form ps ds body d'.form forms' in
    let (stream, stream-is, (marks, text, met)) = spelled-form (signatures env) ps row.stream fs f (subst (SpellsForm (signatures env) ps row.stream) form'-is spells) in
    let len : length es ≡ length ps = fits-length (signatures env) ctx es ps fits in
    record {
      row = row;
      stream = stream;
      body = f;
      marks = marks;
      ys = map (pick ctx es ps ds zs fresh) ys;
      row_at = row-at;
      stream_is = stream-is;
      text = text;
      fits = fits;
      fresh = subst (AreFresh ctx (trees_of es) (map (pick ctx es ps ds zs fresh) ys)) (sym met) (picked-fresh ctx es ps ds zs fresh ys fs ys-fresh);
      unfolds = e-is ∙ ap (instance (followed_by (trees_of es) (variables zs))) body-is ∙ picked-instance ctx es ps ds zs fresh len ys fs ys-fresh f;
    }

-- the variables for dummies occur
pub unfolded-occur : (sigs : List Signature) (ctx : List Binder) (es : List Tree) (ps : List Binder) (stream : List ℕ) (f : Tree) (marks : Marks) (ys : List ℕ) → SpellsText of_definition sigs ps stream none f marks
    → length es ≡ length ps → AreFresh ctx (trees_of es) ys marks.dummies → (k y : ℕ) → slice_get ys k ≡ Some y → Occurs y (instance (followed_by (trees_of es) (variables ys)) f)
unfolded-occur sigs ctx es ps stream f marks ys text len fresh k y at =
    let F : Trees = followed_by (trees_of es) (variables ys) in
    let put : operand F (length ps + k) ≡ var y = operand-behind es (variables ys) (length ps) k len ∙ operand-variables ys k y at in
    instance-occurs F y (length ps + k) f (dummies-occur sigs ps stream f marks text k (within ys marks.dummies fresh k y at)) (subst (Occurs y) (sym put) refl)
  where
    within : (zs : List ℕ) (bs : List Binder) → AreFresh ctx (trees_of es) zs bs → (i z : ℕ) → slice_get zs i ≡ Some z → i < length bs
    within [] bs h i z z-at = absurd cc
    within (w ∷ zs) [] h i z z-at = absurd h
    within (w ∷ zs) (b ∷ bs) h zero z z-at = omega arith
    within (w ∷ zs) (b ∷ bs) (_, _, _, h) (suc i) z z-at = let lt : i < length bs = within zs bs h i z z-at in omega arith

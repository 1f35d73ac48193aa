-- What trees of the grammar stand for.
use Rattle.std.proofs.Common.{◌≡◌, ◌<◌, ◌≤◌, ◌+◌, ◌-◌, ◌∙◌, ◌↔◌, ℕ, suc, List, [], ◌∷◌, length, Bool, true, false, Some, slice_get, get_or, ap, ap₂, sym, refl, subst, arith, drop, drop-cons, add-one}
use Rattle.std.proofs.lemmas.List.{drop_all}
use Rattle.std.specs.Prelude.{IsTrue, max}
use Rattle.std.proofs.lemmas.Bool.{true≢false}
use Rattle.std.proofs.lemmas.Option.{same_Some}
use Rattle.mz_logic_theory.specs.Tree.{Tree, Trees, var, app, none, more, listed, followed_by, past}
use Rattle.mz_logic_theory.specs.Signature.{Signature}
use Rattle.mz_logic_theory.specs.Sorts.{IsBoundVar}
use Rattle.mz_logic_theory.specs.declared.binder.Binder.{Binder}
use Rattle.mz_logic_theory.proofs.Offered.{followed_by_push, past-end}
use Rattle.mz_math_theory.specs.declared.coercion.Coercion.{Coercion}
use Rattle.mz_math_theory.specs.Coercions.{IsPath, OnePath, wrapped}
use Rattle.mz_math_theory.specs.Meaning.{Coerced, CoercedAll, height, trees_height}
use Rattle.mz_math_theory.specs.FormulaAnswers.{FitsParam, IsAdded, AddsWrapped}
use Rattle.mz_math_theory.specs.declared.built.Added.{Added}
use Rattle.mz_math_theory.specs.declared.built.Added.TheVariants as added
use Rattle.mz_math_theory.specs.CoercionAnswers.{HasLength}
use Rattle.mz_math_theory.proofs.OneMeaning.{coerced-one, coerced-all}
use Rattle.mz_math_theory.proofs.Paths.{length-one}

app-var : {t x : ℕ} {es : Trees} → app t es ≡ var x → ⊥
app-var e = cc

var-same : {x y : ℕ} → var x ≡ var y → x ≡ y
var-same e = cc

pub wrapped-var : (cs : List Coercion) (path : List ℕ) (e : Tree) (x : ℕ) → wrapped cs path e ≡ var x → (path ≡ []) × (e ≡ var x)
wrapped-var cs [] e x is = (refl, is)
wrapped-var cs (p ∷ path) e x is = absurd (app-var (wrapped-var cs path (app _ (more e none)) x is).1)

zero-left : (n : ℕ) → n ≡ 0 + n
zero-left n = omega arith

pub wrapped-height : (cs : List Coercion) (path : List ℕ) (e : Tree) → height (wrapped cs path e) ≡ length path + height e
wrapped-height cs [] e = zero-left (height e)
wrapped-height cs (p ∷ path) e = wrapped-height cs path (app _ (more e none)) ∙ deeper
  where
    deeper : length path + suc (max (height e) 0) ≡ suc (length path) + height e
    deeper = omega arith

-- ---- an operand

module _ (sigs : List Signature) (cs : List Coercion) (ctx : List Binder) (one : OnePath cs) where
  coerced-var : (e f : Tree) (s x : ℕ) → Coerced sigs cs ctx e f s → f ≡ var x → e ≡ var x
  coerced-var (var y) f s x (is, b, at, sort) f_is = sym is ∙ f_is
  coerced-var (app t es) f s x (d, fs, at, sort, is, all) f_is = absurd (app-var (sym is ∙ f_is))

  var-coerced : (e f : Tree) (s x : ℕ) → Coerced sigs cs ctx e f s → e ≡ var x → f ≡ var x
  var-coerced (var y) f s x (is, b, at, sort) e_is = is ∙ e_is
  var-coerced (app t es) f s x (d, fs, at, sort, is, all) e_is = absurd (app-var e_is)

  pub fits-regular : (e f : Tree) (s : ℕ) (b : Binder) (r : Bool) → Coerced sigs cs ctx e f s → b.bound ≡ false → (IsTrue r ↔ ((path : List ℕ) × IsPath cs s path b.sort))
      → IsTrue r ↔ ((g : Tree) × FitsParam sigs cs ctx e b g)
  fits-regular e f s b r coerced regular reached = (there, back)
    where
      there : IsTrue r → (g : Tree) × FitsParam sigs cs ctx e b g
      there t = let path = reached.0 t in (wrapped cs path.0 f, (f, s, path.0, coerced, path.1, (λ bound. absurd (true≢false (sym bound ∙ regular))), refl))

      back : (g : Tree) × FitsParam sigs cs ctx e b g → IsTrue r
      back (g, (h, q, path, other, on, bound, is)) =
          let same = coerced-one sigs cs ctx one e f h s q coerced other in
          reached.1 (path, subst (λ i. IsPath cs i path b.sort) (sym same.1) on)

  pub fits-never : (e : Tree) (b : Binder) → ((f : Tree) (s : ℕ) → Coerced sigs cs ctx e f s → ⊥) → (g : Tree) × FitsParam sigs cs ctx e b g → ⊥
  fits-never e b never (g, (f, s, path, coerced, on, bound, is)) = never f s coerced

  bound-same : (e f : Tree) (s : ℕ) (b : Binder) → Coerced sigs cs ctx e f s → b.bound ≡ true → (g : Tree) × FitsParam sigs cs ctx e b g → (s ≡ b.sort) × IsBoundVar ctx e
  bound-same e f s b coerced bound (g, (h, q, path, other, on, bound_var, is)) =
      let same = coerced-one sigs cs ctx one e f h s q coerced other in
      go (bound_var bound) same
    where
      go : IsBoundVar ctx (wrapped cs path h) → (f ≡ h) × (s ≡ q) → (s ≡ b.sort) × IsBoundVar ctx e
      go (x, c, is_x, at, is_bound) same =
          let plain = wrapped-var cs path h x is_x in
          (same.1 ∙ subst (λ p. IsPath cs q p b.sort) plain.0 on, (x, c, coerced-var e h q x other plain.1, at, is_bound))

  pub fits-other : (e f : Tree) (s : ℕ) (b : Binder) → Coerced sigs cs ctx e f s → b.bound ≡ true → (s ≡ b.sort → ⊥) → (g : Tree) × FitsParam sigs cs ctx e b g → ⊥
  fits-other e f s b coerced bound other fits = other (bound-same e f s b coerced bound fits).0

  pub fits-bound : (e f : Tree) (s : ℕ) (b : Binder) (r : Bool) → Coerced sigs cs ctx e f s → b.bound ≡ true → s ≡ b.sort → (IsTrue r ↔ IsBoundVar ctx e) → IsTrue r ↔ ((g : Tree) × FitsParam sigs cs ctx e b g)
  fits-bound e f s b r coerced bound same is_bound = (λ t. there (is_bound.0 t), λ fits. is_bound.1 (bound-same e f s b coerced bound fits).1)
    where
      there : IsBoundVar ctx e → (g : Tree) × FitsParam sigs cs ctx e b g
      there (x, c, is_x, at, bd) = (f, (f, s, [], coerced, same, (λ _. (x, c, var-coerced e f s x coerced is_x, at, bd)), refl))

  -- ---- operands

  pub all-cons : (e : Tree) (es : Trees) (b : Binder) (bs : List Binder) (fs : Trees) → CoercedAll sigs cs ctx (more e es) (b ∷ bs) fs → ((g : Tree) × FitsParam sigs cs ctx e b g) × ((gs : Trees) × CoercedAll sigs cs ctx es bs gs)
  all-cons e es b bs fs (f, s, path, gs, is, on, bound, all, later) = ((wrapped cs path f, (f, s, path, is, on, bound, refl)), (gs, later))

  pub cons-all : (e : Tree) (es : Trees) (b : Binder) (bs : List Binder) (g : Tree) (gs : Trees) → FitsParam sigs cs ctx e b g → CoercedAll sigs cs ctx es bs gs → CoercedAll sigs cs ctx (more e es) (b ∷ bs) (more g gs)
  cons-all e es b bs g gs (f, s, path, is, on, bound, g_is) later = (f, s, path, gs, is, on, bound, ap (λ h. more h gs) g_is, later)

  pub all-length : (es : Trees) (bs : List Binder) (fs : Trees) → CoercedAll sigs cs ctx es bs fs → length (listed es) ≡ length bs
  all-length none [] fs all = refl
  all-length none (b ∷ bs) fs all = absurd all
  all-length (more e es) [] fs all = absurd all
  all-length (more e es) (b ∷ bs) fs (f, s, path, gs, is, on, bound, fs_is, later) = ap suc (all-length es bs gs later)

  pub operand-one : (e : Tree) (b : Binder) (g h : Tree) → FitsParam sigs cs ctx e b g → FitsParam sigs cs ctx e b h → g ≡ h
  operand-one e b g h fits other =
      let both = coerced-all sigs cs ctx one (more e none) (b ∷ []) (more g none) (more h none) (cons-all e none b [] g none fits refl) (cons-all e none b [] h none other refl) in
      first both
    where
      first : more g none ≡ more h none → g ≡ h
      first e = cc

-- ---- lists of operands, from a place on

pub params-of : (bs : List Binder) (i : ℕ) (b : Binder) → i < length bs → b ≡ get_or bs i b → drop i bs ≡ b ∷ drop (i + 1) bs
params-of bs i b below is = drop-cons bs i b below ∙ ap₂ ◌∷◌ (sym is) (ap (λ k. drop k bs) (sym (add-one i)))

-- ---- heights

pub height-some : (e : Tree) → 0 < height e
height-some (var x) = omega arith
height-some (app t es) = omega arith

pub trees_height-push : (es : Trees) (e : Tree) (n : ℕ) → trees_height es ≤ n → height e ≤ n → trees_height (followed_by es (more e none)) ≤ n
trees_height-push none e n le le_e = omega (arith, le_e)
trees_height-push (more d es) e n le le_e = let rest = trees_height-push es e n (omega (arith, le)) le_e in omega (arith, le, rest)

pub trees_height-tail : (es fs : Trees) → trees_height fs ≤ trees_height (followed_by es fs)
trees_height-tail none fs = omega arith
trees_height-tail (more e es) fs = let rest = trees_height-tail es fs in omega (arith, rest)

-- ---- one operand of a list

module _ (sigs : List Signature) (cs : List Coercion) (ctx : List Binder) (one : OnePath cs) (es : Trees) (params : List Binder) (i : ℕ) (e : Tree) (b : Binder)
    (many : length (listed es) ≡ length params) (below : i < length (listed es)) (here : past i es ≡ more e (past (i + 1) es)) (b_is : b ≡ get_or params i b) where
  there : drop i params ≡ b ∷ drop (i + 1) params
  there = params-of params i b (omega (arith, many, below)) b_is

  pub take-one : (fs : Trees) → CoercedAll sigs cs ctx (past i es) (drop i params) fs
      → ((g : Tree) × FitsParam sigs cs ctx e b g) × ((gs : Trees) × CoercedAll sigs cs ctx (past (i + 1) es) (drop (i + 1) params) gs)
  take-one fs all = all-cons sigs cs ctx one e (past (i + 1) es) b (drop (i + 1) params) fs
      (subst (λ (bs : List Binder). CoercedAll sigs cs ctx (more e (past (i + 1) es)) bs fs) there (subst (λ ds. CoercedAll sigs cs ctx ds (drop i params) fs) here all))

  pub put-one : (g : Tree) (gs : Trees) → FitsParam sigs cs ctx e b g → CoercedAll sigs cs ctx (past (i + 1) es) (drop (i + 1) params) gs
      → CoercedAll sigs cs ctx (past i es) (drop i params) (more g gs)
  put-one g gs fits all = subst (λ ds. CoercedAll sigs cs ctx ds (drop i params) (more g gs)) (sym here)
      (subst (λ (bs : List Binder). CoercedAll sigs cs ctx (more e (past (i + 1) es)) bs (more g gs)) (sym there)
      (cons-all sigs cs ctx one e (past (i + 1) es) b (drop (i + 1) params) g gs fits all))

pub none-left : (sigs : List Signature) (cs : List Coercion) (ctx : List Binder) (es : Trees) (params : List Binder) (i : ℕ) → length (listed es) ≡ length params → length (listed es) ≤ i
    → CoercedAll sigs cs ctx (past i es) (drop i params) none
none-left sigs cs ctx es params i many done =
    subst (λ (bs : List Binder). CoercedAll sigs cs ctx (past i es) bs none) (sym (drop_all i params (omega (arith, many, done))))
    (subst (λ ds. CoercedAll sigs cs ctx ds [] none) (sym (past-end es i done)) refl)

pub app-coerced : (sigs : List Signature) (cs : List Coercion) (ctx : List Binder) (t : ℕ) (es : Trees) (d : Signature) (fs : Trees) → slice_get sigs t ≡ Some d → CoercedAll sigs cs ctx es d.params fs
    → Coerced sigs cs ctx (app t es) (app t fs) d.result.sort
app-coerced sigs cs ctx t es d fs at all = (d, fs, at, refl, refl, all)

pub coerced-app : (sigs : List Signature) (cs : List Coercion) (ctx : List Binder) (t : ℕ) (es : Trees) (d : Signature) (e : Tree) (s : ℕ) → slice_get sigs t ≡ Some d → Coerced sigs cs ctx (app t es) e s
    → (fs : Trees) × (e ≡ app t fs) × CoercedAll sigs cs ctx es d.params fs
coerced-app sigs cs ctx t es d e s at (c, fs, there, sort, is, all) = (fs, is, subst (λ (x : Signature). CoercedAll sigs cs ctx es x.params fs) (same_Some _ _ (sym there ∙ at)) all)

-- ---- building one operand

module _ (sigs : List Signature) (cs : List Coercion) (ctx : List Binder) (one : OnePath cs) (e : Tree) (b : Binder) (s : ℕ) (is_sort : (f : Tree) (q : ℕ) → Coerced sigs cs ctx e f q → s ≡ q) where
  pub fits-path : (g : Tree) → FitsParam sigs cs ctx e b g → (path : List ℕ) × IsPath cs s path b.sort
  fits-path g (f, q, path, coerced, on, bound, is) = (path, subst (λ i. IsPath cs i path b.sort) (sym (is_sort f q coerced)) on)

  pub fits-height : (many : ℕ) (g : Tree) → HasLength cs (length cs) s b.sort many → FitsParam sigs cs ctx e b g → (f : Tree) × (q : ℕ) × Coerced sigs cs ctx e f q × (height g ≡ many + height f)
  fits-height many g long (f, q, path, coerced, on, bound, is) =
      let here = subst (λ i. IsPath cs i path b.sort) (sym (is_sort f q coerced)) on in
      (f, q, coerced, ap height is ∙ wrapped-height cs path f ∙ ap (λ n. n + height f) (length-one cs one s b.sort many path long here))

  pub fits-again : (g f : Tree) (q : ℕ) (path : List ℕ) → FitsParam sigs cs ctx e b g → Coerced sigs cs ctx e f q → IsPath cs s path b.sort → FitsParam sigs cs ctx e b (wrapped cs path f)
  fits-again g f q path (h, r, other, coerced, on, bound, is) coerced_f on_f =
      let same = coerced-one sigs cs ctx one e h f r q coerced coerced_f in
      let here = subst (λ i. IsPath cs i other b.sort) (sym (is_sort h r coerced)) on in
      let paths : other ≡ path = one s b.sort other path here on_f in (
        f,
        q,
        path,
        coerced_f,
        subst (λ i. IsPath cs i path b.sort) (is_sort f q coerced_f) on_f,
        (λ bd. subst (λ x. IsBoundVar ctx (wrapped cs path x)) same.0 (subst (λ p. IsBoundVar ctx (wrapped cs p h)) paths (bound bd))),
        refl,
      )

  pub again-height : (many high : ℕ) (f : Tree) (path : List ℕ) → HasLength cs (length cs) s b.sort many → IsPath cs s path b.sort → many ≤ high → height f ≤ high - many → height (wrapped cs path f) ≤ high
  again-height many high f path long on le low =
      let tall : height (wrapped cs path f) ≡ many + height f = wrapped-height cs path f ∙ ap (λ n. n + height f) (length-one cs one s b.sort many path long on) in
      omega (arith, tall, le, low)

  -- an operand as what it stands for, before it's wrapped
  pub add-wrapped : (f : Tree) (q : ℕ) (r : Added) (before after : Trees) (many high : ℕ) (g : Tree) → HasLength cs (length cs) s b.sort many → many < high → FitsParam sigs cs ctx e b g
      → Coerced sigs cs ctx e f q → height f ≤ high - many → AddsWrapped cs s b.sort f before after r → IsAdded sigs cs ctx e b high before after r
  add-wrapped f q added.Done before after many high g long le fits coerced low (path, on, pushed) =
      (wrapped cs path f, fits-again g f q path fits coerced on, again-height many high f path long on (omega (arith, le)) low, pushed)
  add-wrapped f q added.High before after many high g long le fits coerced low adds = absurd adds
  add-wrapped f q added.Mem before after many high g long le fits coerced low adds = tt

  pub add-variable : (x : ℕ) (r : Added) (before after : Trees) (many high : ℕ) (g : Tree) → HasLength cs (length cs) s b.sort many → many < high → e ≡ var x → FitsParam sigs cs ctx e b g
      → AddsWrapped cs s b.sort (var x) before after r → IsAdded sigs cs ctx e b high before after r
  add-variable x r before after many high g long le is fits adds =
      let own = stands fits in
      add-wrapped (var x) own.0 r before after many high g long le fits own.1 (omega (arith, le)) adds
    where
      stands : FitsParam sigs cs ctx e b g → (q : ℕ) × Coerced sigs cs ctx e (var x) q
      stands (f, q, path, coerced, on, bound, g_is) =
          let here = subst (λ t. Coerced sigs cs ctx t f q) is coerced in
          (q, subst (λ t. Coerced sigs cs ctx e t q) here.0 coerced)

  pub too-high : (many high : ℕ) → HasLength cs (length cs) s b.sort many → high ≤ many → (g : Tree) → FitsParam sigs cs ctx e b g → high < height g
  too-high many high long over g fits =
      let found = fits-height many g long fits in
      let some = height-some found.0 in
      omega (arith, found.3, some, over)

  -- an operand with operands of its own
  module _ (t : ℕ) (es : Trees) (d : Signature) (is : e ≡ app t es) (at : slice_get sigs t ≡ Some d) where
    pub operands-there : (g : Tree) → FitsParam sigs cs ctx e b g → (fs : Trees) × CoercedAll sigs cs ctx es d.params fs
    operands-there g (f, q, path, coerced, on, bound, g_is) =
        let all = coerced-app sigs cs ctx t es d f q at (subst (λ u. Coerced sigs cs ctx u f q) is coerced) in (all.0, all.2)

    pub add-application : (fs : Trees) (r : Added) (before after : Trees) (many high : ℕ) (g : Tree) → HasLength cs (length cs) s b.sort many → many < high → FitsParam sigs cs ctx e b g
        → CoercedAll sigs cs ctx es d.params fs → trees_height fs ≤ high - many - 1 → AddsWrapped cs s b.sort (app t fs) before after r → IsAdded sigs cs ctx e b high before after r
    add-application fs r before after many high g long le fits all low adds =
        let coerced = subst (λ u. Coerced sigs cs ctx u (app t fs) d.result.sort) (sym is) (app-coerced sigs cs ctx t es d fs at all) in
        add-wrapped (app t fs) d.result.sort r before after many high g long le fits coerced (omega (arith, low, le)) adds

    pub high-operands : (many high : ℕ) → HasLength cs (length cs) s b.sort many → many < high → ((fs : Trees) → CoercedAll sigs cs ctx es d.params fs → high - many - 1 < trees_height fs)
        → (g : Tree) → FitsParam sigs cs ctx e b g → high < height g
    high-operands many high long le tall g fits =
        let found = fits-height many g long fits in
        let all = coerced-app sigs cs ctx t es d found.0 found.1 at (subst (λ u. Coerced sigs cs ctx u found.0 found.1) is found.2) in
        let more_high = tall all.0 all.2 in
        let top = ap height all.1 in
        omega (arith, more_high, top, found.3, le)

-- an operand of a whole list is no higher than the list
pub operand-low : (sigs : List Signature) (cs : List Coercion) (ctx : List Binder) → OnePath cs → (es : Trees) (bs : List Binder) (all fs : Trees) (g : Tree) (gs : Trees) (high : ℕ)
    → CoercedAll sigs cs ctx es bs (followed_by all (more g gs)) → CoercedAll sigs cs ctx es bs fs → high < height g → high < trees_height fs
operand-low sigs cs ctx one es bs all fs g gs high made other less =
    let same : followed_by all (more g gs) ≡ fs = coerced-all sigs cs ctx one es bs (followed_by all (more g gs)) fs made other in
    let tail = trees_height-tail all (more g gs) in
    let here = ap trees_height same in
    omega (arith, less, tail, here)

pub pushed-all : (all now : Trees) (e : Tree) (fs : Trees) → now ≡ followed_by all (more e none) → followed_by all (more e fs) ≡ followed_by now fs
pushed-all all now e fs is = sym (ap (λ x. followed_by x fs) is ∙ followed_by_push all fs e)

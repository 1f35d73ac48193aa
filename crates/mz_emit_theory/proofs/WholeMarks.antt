-- What a shared stream saves has its dummies met, so the variables of each application that is marked are marked before
-- it; and such a stream of a definition runs with what is asked beside numbers.
use Rattle.std.proofs.Common.{◌≡◌, ℕ, zero, suc, ◌+◌, ◌<◌, ◌≤◌, Bool, true, false, List, [], ◌∷◌, ◌++◌, length, Some, Ok, refl, sym, ap, subst, ◌∙◌, ◌⊎◌, inl, inr, arith, length-append, ltb, ltb-false}
use Rattle.std.specs.Prelude.{slice_get}
use Rattle.std.proofs.lemmas.Bool.{ltb-true}
use Rattle.std.proofs.lemmas.Option.{slice_get_within}
use Rattle.mz_base.proofs.Offered.{slice_get-last, slice_get-append_add}
use Rattle.mz_logic_theory.specs.Tree.{Tree, Trees, var, app, none, more, followed_by, variables}
use Rattle.mz_logic_theory.specs.Signature.{Signature}
use Rattle.mz_logic_theory.specs.Variables.{Occurs}
use Rattle.mz_logic_theory.specs.declared.binder.Binder.{Binder}
use Rattle.mz_logic_theory.proofs.Offered.{extends_append, split_at}
use Rattle.mz_machine_theory.specs.Profile.{strict}
use Rattle.mz_machine_theory.specs.Streams.{of_definition, UnifyCommand}
use Rattle.mz_machine_theory.specs.Spells.{trees_of, variables_from, dummy_of, Marks, marked, with_dummy, at_first}
use Rattle.mz_machine_theory.specs.Sorted.{Sorted}
use Rattle.mz_machine_theory.specs.UnifyMachine.{UnifyState, unify}
use Rattle.mz_machine_theory.specs.UnifyLaws.{instances_of, unfolding_by}
use Rattle.mz_machine_theory.proofs.Offered.{unfoldings-exact, some_is, unfolding-is}
use Rattle.mz_emit_theory.specs.Sharing.{Built, Builds, BuildsAll, IsWhole}
use Rattle.mz_emit_theory.proofs.Forgetting.{building-spells}
use Rattle.mz_pmachine_theory.specs.SharedBuilding.{portable_trees}
use Rattle.mz_pmachine_theory.specs.SafeSaving.{AreWhole}
use Rattle.mz_pmachine_theory.proofs.Offered.{whole-streams}
use Rattle.mz_emit_theory.proofs.Unfolds.{get-own}
use Rattle.mz_emit_theory.specs.SharedRows.{SharesBody}

-- the first of the parameters and dummies are marked
abbrev AreMarked : ℕ → Marks → Type 0
AreMarked n m = (y : ℕ) → y < n + length m.dummies → (i : ℕ) × (slice_get m.trees i ≡ Some (var y))

abbrev IsGood : ℕ → Marks → Type 0
IsGood n m = AreMarked n m × AreWhole m.trees

abbrev SavesWhole : ℕ → List Built → Type 0
SavesWhole n bs = (i : ℕ) (b : Built) → slice_get bs i ≡ Some b → b.saved ≡ true → IsWhole n b

no-var : (t : ℕ) (es : Trees) (x : ℕ) → Some (app t es) ≡ Some (var x) → ⊥
no-var t es x e = cc

-- one expression more, whose variables are marked if it is an application
whole-more : (trees : List Tree) (e : Tree) → AreWhole trees → ((t : ℕ) (es : Trees) → e ≡ app t es → (y : ℕ) → Occurs y e → (i : ℕ) × (slice_get trees i ≡ Some (var y))) → AreWhole (trees ++ e ∷ [])
whole-more trees e whole here j t y es at o = elim (split_at trees (e ∷ []) j (app t es) at) [
  | inl before ↦ (let (i, lt, i-at) = whole j t y es before o in (i, lt, extends_append trees (e ∷ []) i (var y) i-at))
  | inr (k, is, there) ↦ last k is there
]
  where
    last : (k : ℕ) → j ≡ length trees + k → slice_get (e ∷ []) k ≡ Some (app t es) → (i : ℕ) × (i < j) × (slice_get (trees ++ e ∷ []) i ≡ Some (var y))
    last zero is there =
        let e-is : e ≡ app t es = some_is refl there in
        let (i, i-at) = here t es e-is y (subst (Occurs y) (sym e-is) o) in
        let lt : i < length trees = slice_get_within trees i (var y) i-at in
        (i, omega arith, extends_append trees (e ∷ []) i (var y) i-at)
    last (suc k) is there = absurd cc

below-or-last : (n k y : ℕ) → y < n + suc k → (y < n + k) ⊎ (y ≡ n + k)
below-or-last n k y lt = go (ltb y (n + k)) refl
  where
    go : (b : Bool) → ltb y (n + k) ≡ b → (y < n + k) ⊎ (y ≡ n + k)
    go true is = inl (ltb-true y (n + k) is)
    go false is = let le : n + k ≤ y = ltb-false y (n + k) is in inr (omega arith)

with-mark : (n : ℕ) (m : Marks) (t : ℕ) (es : Trees) → IsGood n m → ((y : ℕ) → Occurs y (app t es) → y < n + length m.dummies) → IsGood n (marked m (app t es))
with-mark n m t es (known, whole) met = (
  (λ y lt. let (i, at) = known y lt in (i, extends_append m.trees (app t es ∷ []) i (var y) at)),
  whole-more m.trees (app t es) whole λ u fs is y o. known y (met y o),
)

with-next : (n : ℕ) (m : Marks) (s : ℕ) → IsGood n m → IsGood n (with_dummy m (n + length m.dummies) s)
with-next n m s (known, whole) =
    let x : ℕ = n + length m.dummies in (
      (λ y lt. elim (below-or-last n (length m.dummies) y (let many = length-append m.dummies (dummy_of s ∷ []) in omega (arith, many))) [
        | inl before ↦ (let (i, at) = known y before in (i, extends_append m.trees (var x ∷ []) i (var y) at))
        | inr is ↦ (length m.trees, slice_get-last m.trees (var x) ∙ ap (λ (z : ℕ). Some (var z)) (sym is))
      ]),
      whole-more m.trees (var x) whole λ u fs is. absurd cc,
    )

saves-left : (n : ℕ) (cs ds : List Built) → SavesWhole n (cs ++ ds) → SavesWhole n cs
saves-left n cs ds saves i b at = saves i b (extends_append cs ds i b at)

saves-right : (n : ℕ) (cs ds : List Built) → SavesWhole n (cs ++ ds) → SavesWhole n ds
saves-right n cs ds saves i b at = saves (length cs + i) b (slice_get-append_add cs ds i ∙ at)

module _ (n : ℕ) (sigs : List Signature) where
  mutual
    good-after : (e : Tree) (m m' : Marks) (us us' : List UnifyCommand) (bs : List Built) → Builds n sigs m us e m' us' bs → SavesWhole n bs → IsGood n m → IsGood n m'
    good-after (var x) m m' us us' bs (inl (i, _, _, is), _) saves good = subst (IsGood n) (sym is) good
    good-after (var x) m m' us us' bs (inr (s, _, x-is, is), _) saves good =
        subst (IsGood n) (sym (is ∙ ap (λ (z : ℕ). with_dummy m z s) x-is)) (with-next n m s good)
    good-after (app t es) m m' us us' bs (inl (i, _, _, is, _)) saves good = subst (IsGood n) (sym is) good
    good-after (app t es) m m' us us' bs (inr (inl (rest, cs, _, _, all, is))) saves good =
        let b : Built = record { term = app t es; saved = false; met = length m.dummies } in
        all-good-after es m m' rest us' cs all (saves-right n (b ∷ []) cs (subst (SavesWhole n) is saves)) good
    good-after (app t es) m m' us us' bs (inr (inr (rest, cs, _, _, all, is))) saves good =
        let b : Built = record { term = app t es; saved = true; met = length m.dummies } in
        let saves' : SavesWhole n (b ∷ cs) = subst (SavesWhole n) is saves in
        all-good-after es (marked m (app t es)) m' rest us' cs all (saves-right n (b ∷ []) cs saves') (with-mark n m t es good (saves' 0 b refl refl))

    all-good-after : (es : Trees) (m m' : Marks) (us us' : List UnifyCommand) (bs : List Built) → BuildsAll n sigs m us es m' us' bs → SavesWhole n bs → IsGood n m → IsGood n m'
    all-good-after none m m' us us' bs (is, _, _) saves good = subst (IsGood n) (sym is) good
    all-good-after (more e es) m m' us us' bs (mid, rest, cs, ds, first, others, is) saves good =
        let saves' : SavesWhole n (cs ++ ds) = subst (SavesWhole n) is saves in
        all-good-after es mid m' rest us' ds others (saves-right n cs ds saves') (good-after e m mid us rest cs first (saves-left n cs ds saves') good)

none-saved : (j : ℕ) (ps : List Binder) (i t : ℕ) (es : Trees) → slice_get (variables_from j ps) i ≡ Some (app t es) → ⊥
none-saved j [] i t es at = cc
none-saved j (p ∷ ps) zero t es at = no-var t es j (sym at)
none-saved j (p ∷ ps) (suc i) t es at = none-saved (suc j) ps i t es at

good-first : (ps : List Binder) → IsGood (length ps) (at_first ps)
good-first ps = (
  (λ y lt. (y, get-own 0 ps y (omega arith) ∙ ap (λ (z : ℕ). Some (var z)) (let is : 0 + y ≡ y = omega arith in is))),
  λ j t y es at o. absurd (none-saved 0 ps j t es at),
)

-- a definition's stream that shares runs too
pub shared-stream : (sigs : List Signature) (ctx params : List Binder) (stream : List ℕ) → SharesBody sigs params stream → (es : List Tree) (e : Tree) (u : UnifyState Tree)
    → length es ≡ length params → Sorted sigs ctx e → unify strict sigs ctx (unfolding_by stream es e) ≡ Ok u → (v : UnifyState Tree) × (unify portable_trees sigs ctx (unfolding_by stream es e) ≡ Ok v)
shared-stream sigs ctx params stream (body, (last, bs, builds, once)) es e u len sorted ran =
    let text = building-spells of_definition sigs params stream none body last bs builds in
    let (us, _, mid, rest, cs, ds, first, (_, last-is, _), bs-are) = builds in
    let saves : SavesWhole (length params) (cs ++ ds) = subst (SavesWhole (length params)) bs-are once.saves_whole in
    let good : IsGood (length params) mid = good-after (length params) sigs body (at_first params) mid us rest cs first (saves-left (length params) cs ds saves) (good-first params) in
    let whole : AreWhole last.trees = subst (λ (z : Marks). AreWhole z.trees) (sym last-is) good.1 in
    let (ys, _, _, (fresh, e-is)) = unfolding-is sigs ctx params stream last.dummies body es e u (last, text, refl) len sorted ran in
    let runs = (unfoldings-exact sigs ctx params stream body last text es e (instances_of (followed_by (trees_of es) (variables ys)) last) len sorted).1 (ys, fresh, e-is, refl) in
    let (v, run, _) = whole-streams sigs ctx params stream body last text whole es e (instances_of (followed_by (trees_of es) (variables ys)) last) len sorted runs in
    (v, run)

-- A definition whose body runs is legal, as its row spells it: its dummies are those of the stream, in order.
use Rattle.std.proofs.Common.{◌≡◌, ℕ, zero, suc, ◌+◌, ◌<◌, Bool, true, false, List, [], ◌∷◌, ◌++◌, length, map, Option, Some, None, Ok, refl, sym, ap, subst, ◌∙◌, ◌⊎◌, inl, inr, arith, length-append, true≢false}
use Rattle.std.specs.Prelude.{slice_get, Contains, All, ◌==◌}
use Rattle.std.proofs.lemmas.Bool.{eqb-true}
use Rattle.std.proofs.lemmas.Option.{slice_get_within}
use Rattle.std.proofs.lemmas.List.Elements.{All-contains}
use Rattle.mz_base.proofs.Offered.{slice_get-append, slice_get-some as there, slice_get-append_add}
use Rattle.mz_cmd.specs.declared.rule.K.TheVariants as k
use Rattle.mz_logic_theory.specs.Tree.{Tree, Trees, var, app, none, instance}
use Rattle.mz_logic_theory.specs.Signature.{Signature}
use Rattle.mz_logic_theory.specs.Declaration.{defined, Term, Declaration, term_decl, sorts, signatures}
use Rattle.mz_logic_theory.specs.Modifiers.{MayBeDummySort}
use Rattle.mz_logic_theory.specs.Sorts.{HasSort}
use Rattle.mz_logic_theory.specs.Variables.{InV, InSomeV, InFV, IsBoundAt}
use Rattle.mz_logic_theory.specs.Legality.{sort_of, AreParams, IsDummy, IsLegalDecl}
use Rattle.mz_logic_theory.specs.Conversions.{IsBoundOf, AreFresh}
use Rattle.mz_logic_theory.specs.LegalLists.{AreDummies}
use Rattle.mz_logic_theory.specs.declared.binder.Binder.{Binder}
use Rattle.mz_logic_theory.specs.declared.binder.SortMods.{SortMods}
use Rattle.mz_logic_theory.proofs.Offered.{split_at, all_from_each, terms_are_sorted, sort_is, range_of_sort, DepsInside, free_below}
use Rattle.mz_machine_theory.specs.Streams.{of_definition}
use Rattle.mz_machine_theory.specs.Spells.{trees_of, dummy_of, variables_from, SpellsTerm}
use Rattle.mz_machine_theory.specs.Profile.{plain, strict, Item, expr}
use Rattle.mz_machine_theory.specs.Sorted.{Sorted, ItemsSorted}
use Rattle.mz_machine_theory.specs.UnifyMachine.{in_definition, UnifyState, unify}
use Rattle.mz_machine_theory.proofs.Inverting.{from_need, some_is, taken-is}
use Rattle.mz_machine_theory.proofs.Trees.{operand-trees_of, followed-by-variables}
use Rattle.mz_machine_theory.proofs.FreshVars.{fresh-at, distinct, in-some, get-mapped}
use Rattle.mz_machine_theory.proofs.Matching.{FreshList}
use Rattle.mz_machine_theory.proofs.Unfolding.{unfolding-is}
use Rattle.mz_machine_theory.proofs.Spelled.{place_from, renamed}
use Rattle.mz_machine_theory.proofs.OwnStream.{definition-spelled}
use Rattle.mz_machine_theory.proofs.Below.{Below, text-met}
use Rattle.mz_machine_theory.proofs.Citations.{length-params}
use Rattle.mz_machine_theory.specs.MachineState.{RowsBefore, signatures_in, State, Kind, is_definition, Heading, Declares}
use Rattle.mz_machine_theory.specs.FreeVars.{free_within}
use Rattle.mz_machine_theory.specs.ProofMachine.{last_item, ending, own_stream}
use Rattle.mz_machine_theory.specs.Bodies.{body_run}
use Rattle.mz_machine_theory.specs.Sound.{AreRowParams, IsRowResult, term_row}
use Rattle.mz_machine_theory.proofs.Declared.{signatures-are}
use Rattle.mz_machine_theory.proofs.FreeVarLaws.{free-within}
use Rattle.mz_machine_theory.proofs.WholeBody.{body-fact}
use Rattle.mz_machine_theory.proofs.Renaming.{Renames, sort-back, fv-forward}
use Rattle.mz_machine_theory.proofs.Assertions.{end-ran, own-run}

-- ---- names

var-of : Option Tree → ℕ
var-of (Some (var y)) = y
var-of (Some (app t es)) = 0
var-of None = 0

vars-at : (j : ℕ) (ps : List Binder) (x : ℕ) (b : Binder) → slice_get ps x ≡ Some b → slice_get (variables_from j ps) x ≡ Some (var (j + x))
vars-at j [] x b at = absurd cc
vars-at j (p ∷ ps) zero b at = ap (λ (z : ℕ). Some (var z)) (omega arith)
vars-at j (p ∷ ps) (suc x) b at = vars-at (suc j) ps x b at ∙ ap (λ (z : ℕ). Some (var z)) (omega arith)

dummies-are : (sigs : List Signature) (ctx : List Binder) (es : List Tree) (ys : List ℕ) (bs : List Binder) → FreshList sigs ctx es ys bs → (k : ℕ) (b : Binder) → slice_get bs k ≡ Some b → b ≡ dummy_of b.sort
dummies-are sigs ctx es [] [] h k b at = absurd cc
dummies-are sigs ctx es [] (c ∷ bs) h k b at = absurd h
dummies-are sigs ctx es (y ∷ ys) [] h k b at = absurd h
dummies-are sigs ctx es (y ∷ ys) (c ∷ bs) (_, is, _, h) zero b at = let same : c ≡ b = cc in subst (λ (z : Binder). z ≡ dummy_of z.sort) same is
dummies-are sigs ctx es (y ∷ ys) (c ∷ bs) (_, _, _, h) (suc k) b at = dummies-are sigs ctx (es ++ var y ∷ []) ys bs h k b at

-- ---- the built body and the spelled one: mds are the body's dummies, ds those of the stream, which the
-- variables ys name

module _ (sigs : List Signature) (ss : List SortMods) (params mds : List Binder) (right : AreParams ss params) (ys : List ℕ) (ds : List Binder)
    (fresh : AreFresh (params ++ mds) (trees_of (variables_from 0 params)) ys ds) (plain-ds : (k : ℕ) (b : Binder) → slice_get ds k ≡ Some b → b ≡ dummy_of b.sort) where
  abbrev built : List Binder
  built = params ++ mds

  abbrev spelled-ctx : List Binder
  spelled-ctx = params ++ ds

  abbrev vars : List Tree
  vars = variables_from 0 params

  abbrev names : List Tree
  names = vars ++ map var ys

  abbrev g : ℕ → ℕ
  g x = var-of (slice_get names x)

  first : (x : ℕ) (b : Binder) → slice_get params x ≡ Some b → slice_get names x ≡ Some (var x)
  first x b at = slice_get-append vars (map var ys) x (var x) (vars-at 0 params x b at ∙ ap (λ (z : ℕ). Some (var z)) (omega arith))

  later : (k y : ℕ) → slice_get ys k ≡ Some y → slice_get names (length params + k) ≡ Some (var y)
  later k y at = ap (slice_get names) (ap (λ (n : ℕ). n + k) (sym (length-params 0 params))) ∙ slice_get-append_add vars (map var ys) k ∙ get-mapped ys k y at

  g-first : (x : ℕ) (b : Binder) → slice_get params x ≡ Some b → g x ≡ x
  unfolding var-of
  g-first x b at = ap var-of (first x b at)

  g-later : (k y : ℕ) → slice_get ys k ≡ Some y → g (length params + k) ≡ y
  unfolding var-of
  g-later k y at = ap var-of (later k y at)

  -- no name of a dummy is a parameter
  not-param : (y j s : ℕ) (b : Binder) → IsBoundOf built y s → (InSomeV built y (trees_of vars) → ⊥) → slice_get params j ≡ Some b → y ≡ j → ⊥
  not-param y j s b (c, at, bound, _) out at-j is =
      out (in-some built y vars j (var j) (vars-at 0 params j b at-j ∙ ap (λ (z : ℕ). Some (var z)) (omega arith)) (subst (λ (z : ℕ). InV built y (var z)) is (c, at, inl (bound, refl))))

  abbrev Place : ℕ → Binder → Type 0
  Place x b = (slice_get params x ≡ Some b) ⊎ ((j : ℕ) × (x ≡ length params + j) × (slice_get ds j ≡ Some b))

  place : (x : ℕ) (b : Binder) → slice_get spelled-ctx x ≡ Some b → Place x b
  place x b at = split_at params ds x b at

  renames-at : (x : ℕ) (b : Binder) → slice_get spelled-ctx x ≡ Some b → Place x b → Renames built spelled-ctx (trees_of names) g x
  renames-at x b at (inl here) = (
    operand-trees_of names x (var x) (first x b here) ∙ ap var (sym (g-first x b here)),
    (b, b, ap (slice_get built) (g-first x b here) ∙ slice_get-append params mds x b here, at, refl, refl),
  )
  renames-at x b at (inr (j, x-is, at-j)) =
      let (y, y-at, (c, c-at, bound, sort-is), _) = fresh-at built (trees_of vars) ys ds fresh j b at-j in
      let g-is : g x ≡ y = ap g x-is ∙ g-later j y y-at in
      let b-bound : b.bound ≡ true = ap (λ (z : Binder). z.bound) (plain-ds j b at-j) in (
        operand-trees_of names x (var y) (ap (slice_get names) x-is ∙ later j y y-at) ∙ ap var (sym g-is),
        (c, b, ap (slice_get built) g-is ∙ c-at, at, sort-is, bound ∙ sym b-bound),
      )

  renames : (x : ℕ) → x < length spelled-ctx → Renames built spelled-ctx (trees_of names) g x
  renames x lt = let (b, at) = there spelled-ctx x lt in renames-at x b at (place x b at)

  injective-at : (x z : ℕ) (b c : Binder) → Place x b → Place z c → g x ≡ g z → x ≡ z
  injective-at x z b c (inl at-x) (inl at-z) is = sym (g-first x b at-x) ∙ is ∙ g-first z c at-z
  injective-at x z b c (inl at-x) (inr (j, z-is, at-j)) is =
      let (y, y-at, bound, out) = fresh-at built (trees_of vars) ys ds fresh j c at-j in
      absurd (not-param y x c.sort b bound out at-x (sym (ap g z-is ∙ g-later j y y-at) ∙ sym is ∙ g-first x b at-x))
  injective-at x z b c (inr (i, x-is, at-i)) (inl at-z) is =
      let (y, y-at, bound, out) = fresh-at built (trees_of vars) ys ds fresh i b at-i in
      absurd (not-param y z b.sort c bound out at-z (sym (ap g x-is ∙ g-later i y y-at) ∙ is ∙ g-first z c at-z))
  injective-at x z b c (inr (i, x-is, at-i)) (inr (j, z-is, at-j)) is =
      let (y, y-at, _, _) = fresh-at built (trees_of vars) ys ds fresh i b at-i in
      let (w, w-at, _, _) = fresh-at built (trees_of vars) ys ds fresh j c at-j in
      let same : y ≡ w = sym (ap g x-is ∙ g-later i y y-at) ∙ is ∙ (ap g z-is ∙ g-later j w w-at) in
      let i-is : i ≡ j = distinct built (trees_of vars) ys ds fresh i j y y-at (w-at ∙ ap (λ (v : ℕ). Some v) (sym same)) in
      x-is ∙ ap (λ (n : ℕ). length params + n) i-is ∙ sym z-is

  injective : (x z : ℕ) → x < length spelled-ctx → z < length spelled-ctx → g x ≡ g z → x ≡ z
  injective x z lt lt' is =
      let (b, at) = there spelled-ctx x lt in
      let (c, at') = there spelled-ctx z lt' in
      injective-at x z b c (place x b at) (place z c at') is

  regular-dep : (x z : ℕ) (b : Binder) → Place z b → b.bound ≡ false → Contains b.deps x → InV built (g x) (var (g z))
  regular-dep x z b (inl at-z) regular has =
      let (_, (c, at-x, _)) = All-contains (λ j. (j < z) × IsBoundAt params j) b.deps x ((right z b at-z).1 regular) has in
      (b, ap (slice_get built) (g-first z b at-z) ∙ slice_get-append params mds z b at-z, inr (regular, subst (Contains b.deps) (sym (g-first x c at-x)) has))
  regular-dep x z b (inr (j, _, at-j)) regular has = absurd (true≢false (sym (ap (λ (y : Binder). y.bound) (plain-ds j b at-j)) ∙ regular))

  v-forward : (x z : ℕ) → x < length spelled-ctx → z < length spelled-ctx → InV spelled-ctx x (var z) → InV built (g x) (var (g z))
  v-forward x z lt lt' (b, at, inl (bound, is)) =
      let (_, (c, c', c-at, c'-at, _, bound-is)) = renames z lt' in
      (c, c-at, inl (bound-is ∙ ap (λ (y : Binder). y.bound) (some_is c'-at at) ∙ bound, ap g is))
  v-forward x z lt lt' (b, at, inr (regular, has)) = regular-dep x z b (place z b at) regular has

  -- a dependency of the result stays
  dep-back : (deps : List ℕ) → All (IsBoundAt params) deps → (x : ℕ) (b : Binder) → Place x b → Contains deps (g x) → Contains deps x
  dep-back deps bound x b (inl at-x) has = subst (Contains deps) (g-first x b at-x) has
  dep-back deps bound x b (inr (j, x-is, at-j)) has =
      let (y, y-at, y-bound, out) = fresh-at built (trees_of vars) ys ds fresh j b at-j in
      let g-is : g x ≡ y = ap g x-is ∙ g-later j y y-at in
      let (c, c-at, _) = All-contains (IsBoundAt params) deps (g x) bound has in
      absurd (not-param y (g x) b.sort c y-bound out c-at (sym g-is))

  inside : DepsInside spelled-ctx
  inside i b at x has = go (place i b at)
    where
      no-member : (y : ℕ) → Contains [] y → ⊥
      no-member y (k, lt, is) = omega arith

      go : Place i b → x < length spelled-ctx
      go (inl here) = by-bound b.bound refl
        where
          by-bound : (v : Bool) → b.bound ≡ v → x < length spelled-ctx
          by-bound true bound = absurd (no-member x (subst (λ (ds' : List ℕ). Contains ds' x) ((right i b here).0 bound).0 has))
          by-bound false regular =
              let (lt, _) = All-contains (λ j. (j < i) × IsBoundAt params j) b.deps x ((right i b here).1 regular) has in
              let i-in : i < length params = slice_get_within params i b here in
              omega (arith, length-append params ds)
      go (inr (j, _, at-j)) = absurd (no-member x (subst (λ (z : Binder). Contains z.deps x) (plain-ds j b at-j) has))

  pub spelled-sort : (p : Tree) (s : ℕ) → Below (length spelled-ctx) p → HasSort sigs built (instance (trees_of names) p) s → HasSort sigs spelled-ctx p s
  spelled-sort p s below h = sort-back sigs built spelled-ctx (trees_of names) g (length spelled-ctx) renames p s below h

  pub spelled-free : (p : Tree) (s : ℕ) (deps : List ℕ) → Below (length spelled-ctx) p → HasSort sigs spelled-ctx p s → All (IsBoundAt params) deps
      → ((y : ℕ) → y < length built → InFV sigs built y (instance (trees_of names) p) → Contains deps y) → (x : ℕ) → InFV sigs spelled-ctx x p → Contains deps x
  spelled-free p s deps below sorted bound tested x free =
      let lt : x < length spelled-ctx = free_below sigs spelled-ctx inside x p (range_of_sort sigs spelled-ctx p s sorted) free in
      let (b, at) = there spelled-ctx x lt in
      let (_, (c, _, c-at, _, _, _)) = renames x lt in
      dep-back deps bound x b (place x b at)
      (tested (g x) (slice_get_within built (g x) c c-at) (fv-forward sigs built spelled-ctx (trees_of names) g (length spelled-ctx) renames injective v-forward x lt p below free))

  -- the dummies that the stream meets are among the body's
  pub dummies-right : AreDummies ss mds → (k : ℕ) (b : Binder) → slice_get ds k ≡ Some b → IsDummy b × MayBeDummySort ss b.sort
  dummies-right are k b at =
      let (y, y-at, (c, c-at, bound, sort-is), out) = fresh-at built (trees_of vars) ys ds fresh k b at in
      go y c bound c-at sort-is out (split_at params mds y c c-at)
    where
      go : (y : ℕ) (c : Binder) → c.bound ≡ true → slice_get built y ≡ Some c → c.sort ≡ b.sort → (InSomeV built y (trees_of vars) → ⊥)
          → (slice_get params y ≡ Some c) ⊎ ((j : ℕ) × (y ≡ length params + j) × (slice_get mds j ≡ Some c)) → IsDummy b × MayBeDummySort ss b.sort
      go y c bound c-at sort-is out (inl in-params) = absurd (not-param y y c.sort c (c, c-at, bound, refl) out in-params refl)
      go y c bound c-at sort-is out (inr (j, _, at-j)) =
          ((ap (λ (z : Binder). z.bound) (plain-ds k b at), ap (λ (z : Binder). z.deps) (plain-ds k b at)), subst (MayBeDummySort ss) sort-is (are j c at-j).1)

-- ---- definitions

pub last-expr : (sigs : List Signature) (ctx : List Binder) (xs : List (Item Tree)) (e : Tree) → last_item is_definition xs ≡ Ok e → ItemsSorted sigs ctx xs → Sorted sigs ctx e
last-expr sigs ctx (expr x ∷ []) e is (s, _) = subst (Sorted sigs ctx) (taken-is x e is) s
last-expr sigs ctx _ e is h = absurd cc

-- what is known of a body that was built: its sort, its free variables, and what its stream spells
pub built-legal : (env : List Declaration) (h : Heading) (mds : List Binder) (e : Tree) (u : UnifyState Tree)
    → AreRowParams (sorts env) h.params → IsRowResult (sorts env) h.params h.result → AreDummies (sorts env) mds
    → HasSort (signatures env) (h.params ++ mds) e h.result.sort
    → ((y : ℕ) → y < length (h.params ++ mds) → InFV (signatures env) (h.params ++ mds) y e → Contains h.result.deps y)
    → unify strict (signatures env) (h.params ++ mds) (record { mode = in_definition; stream = h.stream; operands = variables_from 0 h.params; target = e; items = [] }) ≡ Ok u
    → (d : Term) × SpellsTerm (signatures env) (term_row h) d × IsLegalDecl env (term_decl d)
built-legal env h mds e u (sorts-there, right) (result-sort, result-deps) are e-sort tested ran =
    let sigs : List Signature = signatures env in
    let ctx : List Binder = h.params ++ mds in
    let p : Tree = renamed (place_from 0 u.apart) e in
    let (ds, text) = definition-spelled sigs ctx h.params h.stream e u ran (h.result.sort, e-sort) in
    let (ys, _, fresh-list, (fresh, e-is)) = unfolding-is sigs ctx h.params h.stream ds p (variables_from 0 h.params) e u text (length-params 0 h.params) (h.result.sort, e-sort) ran in
    let plain-ds = dummies-are sigs ctx (variables_from 0 h.params) ys ds fresh-list in
    let e-named : e ≡ instance (trees_of (variables_from 0 h.params ++ map var ys)) p = e-is ∙ ap (λ (z : Trees). instance z p) (sym (followed-by-variables (variables_from 0 h.params) ys)) in
    let below : Below (length (h.params ++ ds)) p = subst (λ (n : ℕ). Below n p) (sym (length-append h.params ds)) (text-met of_definition sigs h.params h.stream none p ds text).0 in
    let p-sort : HasSort sigs (h.params ++ ds) p h.result.sort =
    spelled-sort sigs (sorts env) h.params mds right ys ds fresh plain-ds p h.result.sort below (subst (λ (z : Tree). HasSort sigs ctx z h.result.sort) e-named e-sort) in
    let free : (x : ℕ) → InFV sigs (h.params ++ ds) x p → Contains h.result.deps x =
    spelled-free sigs (sorts env) h.params mds right ys ds fresh plain-ds p h.result.sort h.result.deps below p-sort result-deps
    (λ y lt has. tested y lt (subst (λ (z : Tree). InFV sigs ctx y z) (sym e-named) has)) in
    let d : Term = record { signature = record { params = h.params; result = h.result }; form = defined ds p } in
    let dummies-legal : All (λ b. IsDummy b × MayBeDummySort (sorts env) b.sort) ds =
    all_from_each (λ b. IsDummy b × MayBeDummySort (sorts env) b.sort) ds (dummies-right sigs (sorts env) h.params mds right ys ds fresh plain-ds are) in
    (d, (refl, text), (terms_are_sorted env d).1 (sorts-there, right, dummies-legal, result-sort, result-deps, ((p-sort, free), tt)))

pub definition-legal : (gaps : Bool) (tables : RowsBefore) (env : List Declaration) → Declares tables env → (h : Heading) (at : ℕ) (bytes : List ℕ) (last : State Tree)
    → h.kind ≡ is_definition → AreRowParams (sorts env) h.params → IsRowResult (sorts env) h.params h.result → body_run (plain gaps) tables h at bytes ≡ Ok last
    → (d : Term) × SpellsTerm (signatures env) (term_row h) d × IsLegalDecl env (term_decl d)
definition-legal gaps tables env declares h at bytes last kind right result run-is =
    let (fact, done) = body-fact gaps tables env declares h at bytes last run-is in
    let same-sigs = signatures-are tables env declares in
    end-ran tables h last done λ e m u e-is ending-is ran.
    from_need (sort_of (signatures_in tables) last.ctx e == h.result.sort) k.DefinitionSort _ m (subst (λ (z : Kind). ending strict tables h last z e ≡ Ok m) kind ending-is) λ sort-test e1.
    from_need (free_within (signatures_in tables) last.ctx h.result.deps e (length last.ctx)) k.DefinitionDependencies _ m e1 λ free-test e2.
    let (s, has) = last-expr (signatures env) last.ctx last.stack e (subst (λ (z : Kind). last_item z last.stack ≡ Ok e) kind e-is) fact.stack_sorted in
    let s-is : s ≡ h.result.sort = sym (sort_is (signatures env) last.ctx e s has) ∙ sym (ap (λ (z : List Signature). sort_of z last.ctx e) same-sigs) ∙ eqb-true _ _ sort-test in
    let free : free_within (signatures env) last.ctx h.result.deps e (length last.ctx) ≡ true = subst (λ (z : List Signature). free_within z last.ctx h.result.deps e (length last.ctx) ≡ true) same-sigs free-test in
    let own = own-run tables env declares h last.ctx in_definition e [] m u (taken-is (own_stream strict h in_definition e []) m e2) ran in
    let (mds, ctx-is, are) = fact.context in
    let run' = subst (λ (c : List Binder). unify strict (signatures env) c (record { mode = in_definition; stream = h.stream; operands = variables_from 0 h.params; target = e; items = [] }) ≡ Ok u) ctx-is own in
    let has' = subst (λ (c : List Binder). HasSort (signatures env) c e h.result.sort) ctx-is (subst (HasSort (signatures env) last.ctx e) s-is has) in
    built-legal env h mds e u right result are has'
    (λ y lt fv. free-within (signatures env) (h.params ++ mds) h.result.deps e (length (h.params ++ mds)) y (subst (λ (c : List Binder). free_within (signatures env) c h.result.deps e (length c) ≡ true) ctx-is free) lt fv) run'

-- A tree stands for an expression or for none, and that has one provable sort or not.
use Rattle.std.proofs.Common.{◌≡◌, ◌↔◌, ◌⊎◌, ◌∙◌, ℕ, zero, suc, List, [], ◌∷◌, length, Bool, true, false, IsTrue, Some, slice_get, ap, sym, refl, subst, inl, inr, arith, Contains}
use Rattle.std.proofs.lemmas.Bool.{cases_eq, false≢true}
use Rattle.std.proofs.lemmas.Option.{slice_get_within, slice_get-get_or, get_or_from_slice_get}
use Rattle.mz_base.proofs.Offered.{not-decided, some-decided, Decided, both-decided}
use Rattle.mz_logic_theory.specs.Tree.{Tree, Trees, var, app, none, more}
use Rattle.mz_logic_theory.specs.Signature.{Signature}
use Rattle.mz_logic_theory.specs.Declaration.{Declaration, sorts}
use Rattle.mz_logic_theory.specs.Modifiers.{MayBeClaimSort, IsProvable}
use Rattle.mz_logic_theory.specs.Sorts.{IsBoundVar}
use Rattle.mz_logic_theory.specs.declared.binder.Binder.{Binder}
use Rattle.mz_logic_theory.specs.declared.binder.SortMods.{SortMods}
use Rattle.mz_math_theory.specs.declared.coercion.Coercion.{Coercion}
use Rattle.mz_math_theory.specs.Coercions.{IsPath, OnePath, Reaches, wrapped}
use Rattle.mz_math_theory.specs.Meaning.{Wanted, provable, of_sort, Coerced, CoercedAll, IsClaimed, IsGoal}
use Rattle.mz_math_theory.specs.FormulaAnswers.{FitsParam}
use Rattle.mz_math_theory.proofs.Paths.{never-reach, path-reaches, last-end}
use Rattle.mz_math_theory.proofs.Meanings.{fits-regular, fits-never, fits-other, fits-bound, all-cons, cons-all, app-coerced, coerced-app}
use Rattle.mz_math_theory.proofs.Deciding.{found, equal-decided, true-decided}

-- ---- paths

module _ (cs : List Coercion) where
  abbrev Starts : ℕ → ℕ → ℕ → Coercion → Type 0
  Starts n s to c = (c.from ≡ s) × Reaches cs n c.to to

  reach-first : (n s to : ℕ) → (s ≡ to → ⊥) → ((c : Coercion) × Contains cs c × Starts n s to c) ⊎ ((c : Coercion) → Contains cs c → Starts n s to c → ⊥) → Decided (Reaches cs (suc n) s to)
  reach-first n s to other (inl (c, (k, below, is), (begins, (path, on, le)))) =
      inl (k ∷ path, (c, slice_get-get_or cs k c below ∙ ap Some is, begins, on), omega (arith, le))
  reach-first n s to other (inr never) = inr no
    where
      no : Reaches cs (suc n) s to → ⊥
      no ([], is, le) = other is
      no (p ∷ path, (c, at, begins, rest), le) = never c (p, slice_get_within cs p c at, get_or_from_slice_get cs p c c at) (begins, (path, rest, omega (arith, le)))

  reach-decided : (n s to : ℕ) → Decided (Reaches cs n s to)
  reach-decided zero s to = elim (equal-decided s to) [ inl same ↦ inl ([], same, omega arith) | inr other ↦ inr (never-reach cs s to other) ]
  reach-decided (suc n) s to = elim (equal-decided s to) [
    | inl same ↦ inl ([], same, omega arith)
    | inr other ↦ reach-first n s to other (found (Starts n s to) (λ c. both-decided (equal-decided c.from s) (reach-decided n c.to to)) cs)
  ]

  pub path-decided : OnePath cs → (s to : ℕ) → Decided ((path : List ℕ) × IsPath cs s path to)
  path-decided one s to = go (reach-decided (length cs) s to)
    where
      go : Decided (Reaches cs (length cs) s to) → Decided ((path : List ℕ) × IsPath cs s path to)
      go (inl (path, on, le)) = inl (path, on)
      go (inr never) = inr (λ h. never (path-reaches cs one s to h.0 h.1))

-- ---- operands

bound_var-decided : (ctx : List Binder) (e : Tree) → Decided (IsBoundVar ctx e)
bound_var-decided ctx (app t es) = inr no
  where
    other : (x : ℕ) → app t es ≡ var x → ⊥
    other x e = cc

    no : IsBoundVar ctx (app t es) → ⊥
    no (x, b, is, at, bound) = other x is
bound_var-decided ctx (var x) = go (some-decided (slice_get ctx x))
  where
    same : (y : ℕ) → var x ≡ var y → x ≡ y
    same y e = cc

    one : (a b : Binder) → Some a ≡ Some b → a ≡ b
    one a b e = cc

    bound : (b : Binder) → slice_get ctx x ≡ Some b → Decided (b.bound ≡ true) → Decided (IsBoundVar ctx (var x))
    bound b at (inl is) = inl (x, b, refl, at, is)
    bound b at (inr out) = inr no
      where
        no : IsBoundVar ctx (var x) → ⊥
        no (y, c, is, at_y, is_bound) = out (subst (λ (d : Binder). d.bound ≡ true) (one c b (sym at_y ∙ ap (slice_get ctx) (sym (same y is)) ∙ at)) is_bound)

    go : Decided ((b : Binder) × (slice_get ctx x ≡ Some b)) → Decided (IsBoundVar ctx (var x))
    go (inl (b, at)) = bound b at (true-decided b.bound true)
    go (inr never) = inr no
      where
        no : IsBoundVar ctx (var x) → ⊥
        no (y, c, is, at_y, is_bound) = never (c, ap (slice_get ctx) (same y is) ∙ at_y)

-- a fact that a test shows
by-test : {P Q : Type 0} → Decided P → ((r : Bool) → (IsTrue r ↔ P) → IsTrue r ↔ Q) → Decided Q
by-test (inl p) tells = inl ((tells true ((λ t. p), (λ h. refl))).0 refl)
by-test (inr out) tells = inr (λ q. false≢true ((tells false ((λ t. absurd (false≢true t)), (λ p. absurd (out p)))).1 q))

module _ (sigs : List Signature) (cs : List Coercion) (ctx : List Binder) (one : OnePath cs) where
  fit-of : (e f : Tree) (s : ℕ) (b : Binder) → Coerced sigs cs ctx e f s → (is_bound : Bool) → b.bound ≡ is_bound → Decided ((g : Tree) × FitsParam sigs cs ctx e b g)
  fit-of e f s b coerced false regular = by-test (path-decided cs one s b.sort) (λ r reached. fits-regular sigs cs ctx one e f s b r coerced regular reached)
  fit-of e f s b coerced true bound = elim (equal-decided s b.sort) [
    | inl same ↦ by-test (bound_var-decided ctx e) (λ r is. fits-bound sigs cs ctx one e f s b r coerced bound same is)
    | inr other ↦ inr (fits-other sigs cs ctx one e f s b coerced bound other)
  ]

  fit-decided : (e : Tree) (b : Binder) → Decided ((f : Tree) × (s : ℕ) × Coerced sigs cs ctx e f s) → Decided ((g : Tree) × FitsParam sigs cs ctx e b g)
  fit-decided e b (inl (f, s, coerced)) = fit-of e f s b coerced b.bound refl
  fit-decided e b (inr never) = inr (fits-never sigs cs ctx one e b (λ f s coerced. never (f, s, coerced)))

  both-fit : (e : Tree) (es : Trees) (b : Binder) (bs : List Binder) → Decided ((g : Tree) × FitsParam sigs cs ctx e b g) → Decided ((gs : Trees) × CoercedAll sigs cs ctx es bs gs)
      → Decided ((fs : Trees) × CoercedAll sigs cs ctx (more e es) (b ∷ bs) fs)
  both-fit e es b bs (inl (g, fits)) (inl (gs, all)) = inl (more g gs, cons-all sigs cs ctx one e es b bs g gs fits all)
  both-fit e es b bs (inr never) d = inr (λ h. never (all-cons sigs cs ctx one e es b bs h.0 h.1).0)
  both-fit e es b bs (inl fits) (inr never) = inr (λ h. never (all-cons sigs cs ctx one e es b bs h.0 h.1).1)

  app-of : (t : ℕ) (es : Trees) (d : Signature) → slice_get sigs t ≡ Some d → Decided ((fs : Trees) × CoercedAll sigs cs ctx es d.params fs) → Decided ((e : Tree) × (s : ℕ) × Coerced sigs cs ctx (app t es) e s)
  app-of t es d at (inl (fs, all)) = inl (app t fs, d.result.sort, app-coerced sigs cs ctx t es d fs at all)
  app-of t es d at (inr never) = inr (λ h. let parts = coerced-app sigs cs ctx t es d h.0 h.1 at h.2 in never (parts.0, parts.2))

  no-term : (t : ℕ) (es : Trees) → ((d : Signature) × (slice_get sigs t ≡ Some d) → ⊥) → (e : Tree) (s : ℕ) → Coerced sigs cs ctx (app t es) e s → ⊥
  no-term t es never e s (d, fs, at, sort, is, all) = never (d, at)

  no-var : (x : ℕ) → ((b : Binder) × (slice_get ctx x ≡ Some b) → ⊥) → (e : Tree) (s : ℕ) → Coerced sigs cs ctx (var x) e s → ⊥
  no-var x never e s (is, b, at, sort) = never (b, at)

  var-of : (x : ℕ) → Decided ((b : Binder) × (slice_get ctx x ≡ Some b)) → Decided ((e : Tree) × (s : ℕ) × Coerced sigs cs ctx (var x) e s)
  var-of x (inl (b, at)) = inl (var x, b.sort, (refl, b, at, refl))
  var-of x (inr never) = inr (λ h. no-var x never h.0 h.1 h.2)

  mutual
    pub coerced-decided : (t : Tree) → Decided ((e : Tree) × (s : ℕ) × Coerced sigs cs ctx t e s)
    coerced-decided (var x) = var-of x (some-decided (slice_get ctx x))
    coerced-decided (app t es) = elim (some-decided (slice_get sigs t)) [
      | inl d ↦ app-of t es d.0 d.1 (all-decided es d.0.params)
      | inr never ↦ inr (λ h. no-term t es never h.0 h.1 h.2)
    ]

    all-decided : (es : Trees) (bs : List Binder) → Decided ((fs : Trees) × CoercedAll sigs cs ctx es bs fs)
    all-decided none [] = inl (none, refl)
    all-decided none (b ∷ bs) = inr (λ h. h.1)
    all-decided (more e es) [] = inr (λ h. h.1)
    all-decided (more e es) (b ∷ bs) = both-fit e es b bs (fit-decided e b (coerced-decided e)) (all-decided es bs)

-- ---- the provable sort that is reached

claim_sort-decided : (ss : List SortMods) (s : ℕ) → Decided (MayBeClaimSort ss s)
claim_sort-decided ss s = go (some-decided (slice_get ss s))
  where
    one : (a b : SortMods) → Some a ≡ Some b → a ≡ b
    one a b e = cc

    bit : (m : SortMods) → slice_get ss s ≡ Some m → Decided (IsProvable m) → Decided (MayBeClaimSort ss s)
    bit m at (inl is) = inl (m, at, is)
    bit m at (inr out) = inr (λ h. out (subst IsProvable (one h.0 m (sym h.1 ∙ at)) h.2))

    go : Decided ((m : SortMods) × (slice_get ss s ≡ Some m)) → Decided (MayBeClaimSort ss s)
    go (inl (m, at)) = bit m at (not-decided (cases_eq _ 0))
    go (inr never) = inr (λ h. never (h.0, h.1))

module _ (env : List Declaration) (cs : List Coercion) (one : OnePath cs) (s : ℕ) where
  abbrev Claim : ℕ → Type 0
  Claim goal = MayBeClaimSort (sorts env) goal

  -- a provable sort at the end of a coercion is reached
  abbrev Ends : Coercion → Type 0
  Ends c = Claim c.to × ((path : List ℕ) × IsPath cs s path c.to)

  ends-decided : (c : Coercion) → Decided (Ends c)
  ends-decided c = both-decided (claim_sort-decided (sorts env) c.to) (path-decided cs one s c.to)

  abbrev Others : ℕ → Coercion → Type 0
  Others goal c = Ends c × (c.to ≡ goal → ⊥)

  abbrev Goals : Type 0
  Goals = (goal : ℕ) × (path : List ℕ) × IsGoal env cs s goal × IsPath cs s path goal

  -- where s isn't provable, what is reached is the end of a coercion
  ends-there : (Claim s → ⊥) → (goal : ℕ) (path : List ℕ) → Claim goal → IsPath cs s path goal → (c : Coercion) × Contains cs c × Ends c × (c.to ≡ goal)
  ends-there own goal path claim on = elim (last-end cs s goal path on) [
    | inl same ↦ absurd (own (subst Claim (sym same) claim))
    | inr end ↦ (
      end.1,
      (end.0, slice_get_within cs end.0 end.1 end.2, get_or_from_slice_get cs end.0 end.1 end.1 end.2),
      (subst Claim (sym end.3) claim, (path, subst (IsPath cs s path) (sym end.3) on)),
      end.3,
    )
  ]

  goal-claims : (Claim s → ⊥) → (goal : ℕ) → IsGoal env cs s goal → Claim goal × ((other : ℕ) (path : List ℕ) → Claim other → IsPath cs s path other → other ≡ goal)
  goal-claims own goal (inl (same, claim)) = absurd (own claim)
  goal-claims own goal (inr (never, claim, only)) = (claim, only)

  only-one : (Claim s → ⊥) → (c : Coercion) → Ends c → ((d : Coercion) × Contains cs d × Others c.to d) ⊎ ((d : Coercion) → Contains cs d → Others c.to d → ⊥) → Decided Goals
  only-one own c (claim, (path, on)) (inl (d, in_d, ((other, (way, on_d)), differs))) = inr no
    where
      no : Goals → ⊥
      no (goal, p, is, on_p) = let only = (goal-claims own goal is).1 in differs (only d.to way other on_d ∙ sym (only c.to path claim on))
  only-one own c (claim, (path, on)) (inr never) = inl (c.to, path, inr (own, claim, only), on)
    where
      only : (other : ℕ) (way : List ℕ) → Claim other → IsPath cs s way other → other ≡ c.to
      only other way is on_way = elim (equal-decided other c.to) [
        | inl same ↦ same
        | inr differs ↦ absurd (let end = ends-there own other way is on_way in never end.0 end.1 (end.2, λ same. differs (sym end.3 ∙ same)))
      ]

  some-end : (Claim s → ⊥) → ((c : Coercion) × Contains cs c × Ends c) ⊎ ((c : Coercion) → Contains cs c → Ends c → ⊥) → Decided Goals
  some-end own (inl (c, in_c, ends)) = only-one own c ends (found (Others c.to) (λ d. both-decided (ends-decided d) (not-decided (equal-decided d.to c.to))) cs)
  some-end own (inr never) = inr no
    where
      no : Goals → ⊥
      no (goal, path, is, on) = let end = ends-there own goal path (goal-claims own goal is).0 on in never end.0 end.1 end.2

  goal-decided : Decided Goals
  goal-decided = elim (claim_sort-decided (sorts env) s) [
    | inl claim ↦ inl (s, [], inl (refl, claim), refl)
    | inr own ↦ some-end own (found Ends ends-decided cs)
  ]

pub claimed-decided : (env : List Declaration) (cs : List Coercion) → OnePath cs → (w : Wanted) (e : Tree) (s : ℕ) → Decided ((f : Tree) × IsClaimed env cs w e s f)
claimed-decided env cs one (of_sort goal) e s = inl (e, refl)
claimed-decided env cs one provable e s = go (goal-decided env cs one s)
  where
    go : Decided ((goal : ℕ) × (path : List ℕ) × IsGoal env cs s goal × IsPath cs s path goal) → Decided ((f : Tree) × IsClaimed env cs provable e s f)
    go (inl (goal, path, is, on)) = inl (wrapped cs path e, (goal, path, is, on, refl))
    go (inr never) = inr no
      where
        no : (f : Tree) × IsClaimed env cs provable e s f → ⊥
        no (f, (goal, path, is, on, f_is)) = never (goal, path, is, on)

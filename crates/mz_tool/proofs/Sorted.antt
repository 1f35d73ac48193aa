-- Parameters of the samples, and the sorts of their expressions.
use Rattle.std.proofs.Common.{ℕ, zero, suc, ◌≡◌, ◌<◌, ◌∙◌, Bool, true, false, true≢false, List, [], ◌∷◌, Some, All, Contains, refl, sym, ap, subst, inl, inr, slice_get, zero-lt-suc, not-suc-le-zero, arith}
use Rattle.std.proofs.lemmas.Option.{none-some}
use Rattle.mz_logic_theory.specs.Tree.{Tree, Trees, var, none, more, listed}
use Rattle.mz_logic_theory.specs.Signature.{Signature}
use Rattle.mz_logic_theory.specs.Declaration.{Declaration}
use Rattle.mz_logic_theory.specs.Modifiers.{MayBeClaimSort, MayBeResultSort, MayBeBoundSort}
use Rattle.mz_logic_theory.specs.Sorts.{HasSort, AreProvable}
use Rattle.mz_logic_theory.specs.Variables.{InFV, IsBoundAt, AreDisjoint}
use Rattle.mz_logic_theory.specs.Legality.{AreParams}
use Rattle.mz_logic_theory.specs.Laws.{SortsThere}
use Rattle.mz_logic_theory.specs.Examples.{wff, two, im, im_declared, nat, all_signature, y_and_q, one_param}
use Rattle.mz_logic_theory.specs.declared.binder.Binder.{Binder}
use Rattle.mz_logic_theory.specs.declared.binder.SortMods.{SortMods}
use Rattle.mz_logic_theory.proofs.Offered.{one_at, nothing_in, free_is_bound}
use Rattle.mz_tool.proofs.Declarations.{two_sorts, all, d}

-- ---- parameters of the sort wff alone

-- each is wff, so none is bound
abbrev pub AreWff : List Binder → Type 0
AreWff ps = (i : ℕ) (b : Binder) → slice_get ps i ≡ Some b → wff ≡ b

pub one-wff : AreWff (wff ∷ [])
one-wff zero b at = one_at refl at
one-wff (suc i) b at = absurd (none-some _ at)

pub two-wff : AreWff two
two-wff zero b at = one_at refl at
two-wff (suc i) b at = one-wff i b at

never-bound : (ps : List Binder) → AreWff ps → (j : ℕ) (q : Binder) → slice_get ps j ≡ Some q → q.bound ≡ true → ⊥
never-bound ps are j q at bound = true≢false (sym bound ∙ sym (ap (λ r. r.bound) (are j q at)))

pub apart-wff : (ctx ps : List Binder) → AreWff ps → (es : Trees) → AreDisjoint ctx es ps
apart-wff ctx ps are es i j x p q at_i at_j bound is has = absurd (never-bound ps are j q at_j bound)

pub params-wff : (ss : List SortMods) (ps : List Binder) → AreWff ps → AreParams ss ps
params-wff ss ps are i b at = (
  λ bound. absurd (never-bound ps are i b at bound),
  λ _. subst (λ (c : Binder). All (λ j. (j < i) × IsBoundAt ps j) c.deps) (are i b at) (nothing_in _),
)

-- nothing is free where no variable is bound
pub never-free : (sigs : List Signature) (ps : List Binder) → AreWff ps → (e : Tree) (s : ℕ) → HasSort sigs ps e s → (x : ℕ) → InFV sigs ps x e → Contains [] x
never-free sigs ps are e s sorted x free =
    let (b, at, bound) = free_is_bound sigs ps (λ i c at_i regular y has. let none_ : Contains [] y = subst (λ (c : Binder). Contains c.deps y) (sym
    (are i c at_i)) has in absurd (nowhere y none_)) x e s sorted free in
    absurd (never-bound ps are x b at bound)
  where
    nowhere : (y : ℕ) → Contains [] y → ⊥
    nowhere y (k, below, is) = not-suc-le-zero below

-- ---- {x: nat} (p: wff x)

pub params-nat : AreParams two_sorts y_and_q
params-nat zero b at = (
  λ _. subst (λ (c : Binder). (c.deps ≡ []) × MayBeBoundSort two_sorts c.sort) (one_at refl at) (refl, (record { 0 = 0 }, refl, λ strict. strict refl)),
  λ regular. absurd (true≢false (ap (λ (c : Binder). c.bound) (one_at refl at) ∙ regular)),
)
params-nat (suc zero) b at = (
  λ bound. absurd (true≢false (sym bound ∙ sym (ap (λ (c : Binder). c.bound) (one_at refl at)))),
  λ _. subst (λ (c : Binder). All (λ j. (j < 1) × IsBoundAt y_and_q j) c.deps) (one_at refl at) first,
)
  where
    first : All (λ j. (j < 1) × IsBoundAt y_and_q j) (0 ∷ [])
    first zero e below = (zero-lt-suc 0, (nat, refl, refl))
    first (suc k) e below = absurd (omega arith)
params-nat (suc (suc i)) b at = absurd (none-some _ at)

-- what is put in for the second may have the first in it
pub apart-nat : (e : Tree) → AreDisjoint y_and_q (more (var 0) (more e none)) y_and_q
apart-nat e zero zero x p q at_i at_j bound is has = inl refl
apart-nat e zero (suc zero) x p q at_i at_j bound is has = absurd (true≢false (sym bound ∙ ap (λ (r : Binder). r.bound) (one_at at_j refl)))
apart-nat e zero (suc (suc j)) x p q at_i at_j bound is has = absurd (none-some _ at_j)
apart-nat e (suc zero) zero x p q at_i at_j bound is has = inr (subst (λ (r : Binder). Contains r.deps 0) (one_at refl at_i) (zero, zero-lt-suc 0, refl))
apart-nat e (suc zero) (suc zero) x p q at_i at_j bound is has = inl refl
apart-nat e (suc zero) (suc (suc j)) x p q at_i at_j bound is has = absurd (none-some _ at_j)
apart-nat e (suc (suc i)) j x p q at_i at_j bound is has = absurd (none-some _ at_i)

-- ---- sorts of expressions

-- nothing is asked of the operand of a regular parameter
pub unbound : {A : Type 0} (b : Bool) → b ≡ false → b ≡ true → A
unbound b is other = absurd (true≢false (sym other ∙ is))

pub im-sort : (sigs : List Signature) (ctx : List Binder) → slice_get sigs 0 ≡ Some im_declared.signature → (a b : Tree) → HasSort sigs ctx a 0 → HasSort sigs ctx b 0 → HasSort sigs ctx (im a b) 0
im-sort sigs ctx at a b h k = (im_declared.signature, at, refl, (h, unbound false refl, (k, unbound false refl, tt)))

pub d-sort : (sigs : List Signature) (ctx : List Binder) (t : ℕ) → slice_get sigs t ≡ Some one_param → (a : Tree) → HasSort sigs ctx a 0 → HasSort sigs ctx (d t a) 0
d-sort sigs ctx t at a h = (one_param, at, refl, (h, unbound false refl, tt))

pub all-sort : (sigs : List Signature) → slice_get sigs 1 ≡ Some all_signature → (e : Tree) → HasSort sigs y_and_q e 0 → HasSort sigs y_and_q (all (var 0) e) 0
all-sort sigs at e h = (all_signature, at, refl, ((nat, refl, refl), (λ _. (0, nat, refl, refl, refl)), (h, unbound false refl, tt)))

pub claimed : MayBeClaimSort two_sorts 0
claimed = (record { 0 = 4 }, refl, λ is. (let e : 4 ≡ 0 = is in absurd (omega (arith, e))))

pub result-sort : MayBeResultSort two_sorts 0
result-sort = (record { 0 = 4 }, refl, λ pure. pure refl)

pub wff-there : SortsThere two_sorts (wff ∷ [])
wff-there zero e below = zero-lt-suc 1
wff-there (suc k) e below = absurd (omega arith)

pub two-there : SortsThere two_sorts two
two-there zero e below = zero-lt-suc 1
two-there (suc zero) e below = zero-lt-suc 1
two-there (suc (suc k)) e below = absurd (omega arith)

pub nat-there : SortsThere two_sorts y_and_q
nat-there zero e below = (let less : 1 < 2 = omega arith in less)
nat-there (suc zero) e below = zero-lt-suc 1
nat-there (suc (suc k)) e below = absurd (omega arith)

pub no-claims : (env : List Declaration) (ctx : List Binder) (es : Trees) → es ≡ none → AreProvable env ctx es
no-claims env ctx es is i e at = absurd (none-some _ (subst (λ (fs : Trees). slice_get (listed fs) i ≡ Some e) is at))

-- The variables that are the operands of bound parameters, and which operands may name them.
use Rattle.std.proofs.Common.{◌≡◌, ◌∙◌, ◌<◌, ◌≤◌, ◌+◌, ◌++◌, ◌∷◌, ◌⊎◌, ◌↔◌, ℕ, Bool, true, false, List, [], length, slice_get, Some, Contains, All, IsTrue, sym, refl, subst, inl, inr, arith, eq-or-lt_of_le, true≢false}
use Rattle.std.specs.Prelude.{filter, not}
use Rattle.std.proofs.lemmas.List.Elements.{AllZip-push}
use Rattle.std.proofs.lemmas.Option.{slice_get_within}
use Rattle.mz_base.proofs.Offered.{contains_none, contains-decided}
use Rattle.mz_logic_theory.specs.Tree.{Trees, var, operand}
use Rattle.mz_logic_theory.specs.Signature.{Signature}
use Rattle.mz_logic_theory.specs.Sorts.{Fits, IsBoundVar}
use Rattle.mz_logic_theory.specs.Variables.{AreDisjoint, InV, IsBoundAt, IsOperandAt}
use Rattle.mz_logic_theory.specs.declared.binder.Binder.{Binder}
use Rattle.mz_logic_theory.proofs.Offered.{each_from_all, one_at, bound_operand, same-variable}
use Rattle.mz_logic_free.specs.Own.{HaveOwners, is_own}
use Rattle.mz_logic_free.proofs.Offered.{IsOther, own-owned}

-- ---- owners

module _ (params : List Binder) (es : Trees) where
  -- x is the operand of the j-th parameter, which is bound
  abbrev pub Owns : ℕ → ℕ → Type 0
  Owns j x = IsBoundAt params j × (operand es j ≡ var x)

  -- none of them stands twice
  abbrev pub Single : Type 0
  Single = (j k x : ℕ) → IsBoundAt params j → operand es j ≡ var x → IsBoundAt params k → operand es k ≡ var x → j ≡ k

  -- ---- one parameter

  -- the operand of a bound one is added, new or not
  module _ (j x : ℕ) (bound : IsBoundAt params j) (is : operand es j ≡ var x) (old : List ℕ) where
    pub owns-more : (new : List ℕ) → ((y : ℕ) → Contains new y ↔ (Contains old y ⊎ (y ≡ x))) → (y : ℕ) → Contains new y ↔ (Contains old y ⊎ Owns j y)
    owns-more new grows y = (
      λ h. elim ((grows y).0 h) [ inl had ↦ inl had | inr same ↦ inr (bound, subst (λ z. operand es j ≡ var z) (sym same) is) ],
      λ h. (grows y).1 (elim h [ inl had ↦ inl had | inr (_, at) ↦ inr (same-variable y x (sym at ∙ is)) ]),
    )

    -- the operand of a bound one isn't there
    abbrev pub IsFresh : Type 0
    IsFresh = (y : ℕ) → IsBoundAt params j → operand es j ≡ var y → Contains old y → ⊥

    module _ (had : Contains old x) where
      pub owns-old : (y : ℕ) → Contains old y ↔ (Contains old y ⊎ Owns j y)
      owns-old = owns-more old (λ y. (inl, λ h. elim h [ inl at ↦ at | inr same ↦ subst (Contains old) (sym same) had ]))

      pub stale : IsTrue false ↔ IsFresh
      stale = (λ no. absurd (true≢false (sym no)), λ out. absurd (out x bound is had))

    pub fresh : (Contains old x → ⊥) → IsTrue true ↔ IsFresh
    fresh off = (λ _ y _ at had. off (subst (Contains old) (same-variable y x (sym at ∙ is)) had), λ _. refl)

    pub have-more : (owners new more : List ℕ) → HaveOwners params es old owners → new ≡ old ++ x ∷ [] → more ≡ owners ++ j ∷ [] → HaveOwners params es new more
    have-more owners new more have new-is more-is =
        subst (λ ys. HaveOwners params es ys more) (sym new-is)
        (subst (HaveOwners params es (old ++ x ∷ [])) (sym more-is) (AllZip-push (λ y k. IsBoundAt params k × (operand es k ≡ var y)) old owners x j have (bound, is)))

  -- ---- parameters one after another

  -- x is owned by one of the first n
  abbrev pub OwnedBelow : ℕ → ℕ → Type 0
  OwnedBelow n x = (k : ℕ) × (k < n) × Owns k x

  abbrev pub SingleBelow : ℕ → Type 0
  SingleBelow n = (j k x : ℕ) → j < n → k < n → IsBoundAt params j → operand es j ≡ var x → IsBoundAt params k → operand es k ≡ var x → j ≡ k

  abbrev pub AreBelow : List ℕ → ℕ → Type 0
  AreBelow owned n = ((x : ℕ) → Contains owned x ↔ OwnedBelow n x) × SingleBelow n

  pub below-first : (owned : List ℕ) → owned ≡ [] → AreBelow owned 0
  below-first owned empty = (
    λ x. (
      λ has. absurd (contains_none x (subst (λ (ys : List ℕ). Contains ys x) empty has)),
      λ (k, below, _). absurd (let e : k < 0 = below in omega (arith, e)),
    ),
    λ j k x below _ _ _ _ _. absurd (let e : j < 0 = below in omega (arith, e)),
  )

  module _ (i : ℕ) (old : List ℕ) (so_far : AreBelow old i) where
    last-or : (k : ℕ) → k < i + 1 → (k ≡ i) ⊎ (k < i)
    last-or k below = eq-or-lt_of_le (let e : k ≤ i = omega (arith, below) in e)

    pub below-more : (new : List ℕ) → ((x : ℕ) → Contains new x ↔ (Contains old x ⊎ Owns i x)) → ((x : ℕ) → IsBoundAt params i → operand es i ≡ var x → Contains old x → ⊥) → AreBelow new (i + 1)
    below-more new grows fresh = (has, single)
      where
        to : (x : ℕ) → Contains new x → OwnedBelow (i + 1) x
        to x h = elim ((grows x).0 h) [
          | inl had ↦ (let (k, below, owns) = (so_far.0 x).0 had in (k, (let e : k < i + 1 = omega (arith, below) in e), owns))
          | inr owns ↦ (i, (let e : i < i + 1 = omega arith in e), owns)
        ]

        from : (x : ℕ) → OwnedBelow (i + 1) x → Contains new x
        from x (k, below, owns) = (grows x).1 (elim (last-or k below) [
          | inl same ↦ inr (subst (λ n. Owns n x) same owns)
          | inr less ↦ inl ((so_far.0 x).1 (k, less, owns))
        ])

        has : (x : ℕ) → Contains new x ↔ OwnedBelow (i + 1) x
        has x = (to x, from x)

        off : (k x : ℕ) → k < i → Owns k x → Owns i x → ⊥
        off k x less owns last = fresh x last.0 last.1 ((so_far.0 x).1 (k, less, owns))

        single : SingleBelow (i + 1)
        single j k x j-below k-below j-bound j-is k-bound k-is = elim (last-or j j-below) [
          | inl j-last ↦ elim (last-or k k-below) [
            | inl k-last ↦ j-last ∙ sym k-last
            | inr k-less ↦ absurd (off k x k-less (k-bound, k-is) (subst (λ n. Owns n x) j-last (j-bound, j-is)))
          ]
          | inr j-less ↦ elim (last-or k k-below) [
            | inl k-last ↦ absurd (off j x j-less (j-bound, j-is) (subst (λ n. Owns n x) k-last (k-bound, k-is)))
            | inr k-less ↦ so_far.1 j k x j-less k-less j-bound j-is k-bound k-is
          ]
        ]

    -- where the next one's is there already, one stands twice
    pub below-twice : (((x : ℕ) → IsBoundAt params i → operand es i ≡ var x → Contains old x → ⊥) → ⊥) → Single → ⊥
    below-twice stale single = stale (λ x bound is had. (let (k, less, owns) = (so_far.0 x).0 had in absurd (let same = single k i x owns.0 owns.1 bound is in omega (arith, less, same))))

  module _ (n : ℕ) (owned : List ℕ) (so_far : AreBelow owned n) (done : length params ≤ n) where
    within : (k : ℕ) → IsBoundAt params k → k < n
    within k (p, at, _) = (let below = slice_get_within params k p at in omega (arith, below, done))

    pub below-last : (x : ℕ) → Contains owned x ↔ ((j : ℕ) × IsBoundAt params j × (operand es j ≡ var x))
    below-last x = (
      λ has. (let (k, _, owns) = (so_far.0 x).0 has in (k, owns.0, owns.1)),
      λ (k, bound, is). (so_far.0 x).1 (k, within k bound, (bound, is)),
    )

    pub single-last : Single
    single-last j k x j-bound j-is k-bound k-is = so_far.1 j k x (within j j-bound) (within k k-bound) j-bound j-is k-bound k-is

  -- ---- what an operand may name

  -- x is the operand of one on which the i-th parameter, p, depends, or its own
  abbrev pub IsOwn : Binder → ℕ → ℕ → Type 0
  IsOwn p i x = IsOperandAt params es p.deps x ⊎ Owns i x

  -- told by the place of its owner
  pub own-tested : Single → (i : ℕ) (p : Binder) (owned owners its : List ℕ) → HaveOwners params es owned owners → its ≡ filter (is_own owned owners i p.deps) owned
      → (x : ℕ) → Contains owned x → Contains its x ↔ IsOwn p i x
  own-tested single i p owned owners its have is x has =
      let (q, bound, at, (to, from)) = own-owned owned owners i p.deps x params es have has in (
        λ own. elim (to (subst (λ (ys : List ℕ). Contains ys x) is own)) [
          | inl same ↦ inr (subst (λ n. Owns n x) same (bound, at))
          | inr dep ↦ inl (q, dep, bound, at)
        ],
        λ own. subst (λ (ys : List ℕ). Contains ys x) (sym is) (from (elim own [
          | inl (j, dep, j-bound, j-is) ↦ inr (subst (Contains p.deps) (single j q x j-bound j-is bound at) dep)
          | inr (i-bound, i-is) ↦ inl (single q i x bound at i-bound i-is)
        ])),
      )

  module _ (ctx : List Binder) (owned : List ℕ) where
    -- of the variables that are owned, the i-th operand names its own alone
    abbrev pub NamesOwn : ℕ → Type 0
    NamesOwn i = (x : ℕ) (p : Binder) → slice_get params i ≡ Some p → InV ctx x (operand es i) → Contains owned x → IsOwn p i x

    -- reported by a set of its own
    module _ (i : ℕ) (p : Binder) (at : slice_get params i ≡ Some p) (its : List ℕ) (own : (x : ℕ) → Contains owned x → Contains its x ↔ IsOwn p i x) where
      pub own-by : (b : Bool) → IsTrue b ↔ ((x : ℕ) × IsOther owned its x × InV ctx x (operand es i)) → IsTrue (not b) ↔ NamesOwn i
      own-by true (to, from) = (
        λ no. absurd (true≢false (sym no)),
        λ names. absurd (let (x, other, named) = to refl in other.1 ((own x other.0).1 (names x p at named other.0))),
      )
      own-by false (to, from) = (
        λ _ x q at' named has. elim (contains-decided its x) [
          | inl had ↦ subst (λ (r : Binder). IsOwn r i x) (one_at at at') ((own x has).0 had)
          | inr out ↦ absurd (true≢false (sym (from (x, (has, out), named))))
        ],
        λ _. refl,
      )

    -- operands one after another
    pub own-more : (n : ℕ) → ((k : ℕ) → k < n → NamesOwn k) → NamesOwn n → (k : ℕ) → k < n + 1 → NamesOwn k
    own-more n so_far here k below = elim (eq-or-lt_of_le (let e : k ≤ n = omega (arith, below) in e)) [
      | inl same ↦ subst NamesOwn (sym same) here
      | inr less ↦ so_far k less
    ]

    pub own-all : (n : ℕ) → ((k : ℕ) → k < n → NamesOwn k) → length params ≤ n → (i : ℕ) → NamesOwn i
    own-all n so_far done i x p at = so_far i (let below = slice_get_within params i p at in omega (arith, below, done)) x p at

    -- ---- apart

    module _ (owned-is : (x : ℕ) → Contains owned x ↔ ((j : ℕ) × IsBoundAt params j × (operand es j ≡ var x))) where
      apart-to : AreDisjoint ctx es params → (i : ℕ) → NamesOwn i
      apart-to apart i x p at named has = go ((owned-is x).0 has)
        where
          go : ((j : ℕ) × IsBoundAt params j × (operand es j ≡ var x)) → IsOwn p i x
          go (j, (q, at-q, bound), is) = elim (apart i j x p q at at-q bound is named) [
            | inl same ↦ inr (subst (λ n. Owns n x) (sym same) ((q, at-q, bound), is))
            | inr dep ↦ inl (j, dep, (q, at-q, bound), is)
          ]

      apart-from : Single → ((i : ℕ) → NamesOwn i) → AreDisjoint ctx es params
      apart-from single names i j x p q at at-q bound is named = elim (names i x p at named ((owned-is x).1 (j, (q, at-q, bound), is))) [
        | inl (k, dep, k-bound, k-is) ↦ inr (subst (Contains p.deps) (single k j x k-bound k-is (q, at-q, bound) is) dep)
        | inr own ↦ inl (single i j x own.0 own.1 (q, at-q, bound) is)
      ]

      pub apart-by : Single → (b : Bool) → IsTrue b ↔ ((i : ℕ) → NamesOwn i) → IsTrue b ↔ AreDisjoint ctx es params
      apart-by single b (to, from) = (λ is. apart-from single (to is), λ apart. from (apart-to apart))

-- ---- one operand of two bound parameters

-- where bound parameters depend on none, operands that are disjoint differ
pub apart-single : (sigs : List Signature) (ctx params : List Binder) (es : Trees) → Fits sigs ctx es params → All (λ (p : Binder). p.bound ≡ true → p.deps ≡ []) params → AreDisjoint ctx es params → Single params es
apart-single sigs ctx params es fits alone apart j k x (p, at-p, bound-p) j-is (q, at-q, bound-q) k-is = elim (apart j k x p q at-p at-q bound-q k-is named) [
  | inl same ↦ same
  | inr dep ↦ absurd (contains_none k (subst (λ (ys : List ℕ). Contains ys k) (each_from_all (λ (b : Binder). b.bound ≡ true → b.deps ≡ []) params alone j p at-p bound-p) dep))
]
  where
    go : IsBoundVar ctx (operand es j) → InV ctx x (var x)
    go (y, b, is, at, bound) = (b, subst (λ n. slice_get ctx n ≡ Some b) (same-variable y x (sym is ∙ j-is)) at, inl (bound, refl))

    named : InV ctx x (operand es j)
    named = subst (InV ctx x) (sym j-is) (go (bound_operand sigs ctx params es fits j p at-p bound-p))

-- Variables with owners.
use Rattle.std.proofs.Common.{◌≡◌, ◌∙◌, ◌≤◌, ◌⊎◌, ◌↔◌, ◌==◌, ℕ, List, [], ◌∷◌, length, get_or, slice_get, Bool, true, false, IsTrue, Option, Some, None, Contains, ap, sym, refl, subst, inl, inr, true≢false, arith}
use Rattle.std.specs.Prelude.{cond, filter, position}
use Rattle.std.specs.List.{list_any, position_or_len}
use Rattle.std.specs.Option.{option_and_then, option_map_or}
use Rattle.std.proofs.lemmas.Bool.{eqb-true, eq-eqb}
use Rattle.std.proofs.lemmas.Grind.{common_steps}
use Rattle.std.proofs.lemmas.List.Elements.{All-contains, AllZip-get_or, filter_passes, length_all_zip}
use Rattle.std.proofs.lemmas.List.Quantifiers.{position-Some}
use Rattle.std.proofs.lemmas.List.Sums.{fails_before_first}
use Rattle.std.proofs.lemmas.Option.{none-some, slice_get-get_or}
use Rattle.mz_base.proofs.Offered.{contains_none, contains_tail, contains_head, contains_cases}
use Rattle.mz_logic_theory.specs.Tree.{Trees, var, operand}
use Rattle.mz_logic_theory.specs.Variables.{IsBoundAt}
use Rattle.mz_logic_theory.specs.declared.binder.Binder.{Binder}
use Rattle.mz_logic_free.specs.Own.{owner_beside, is_own, HaveOwners}
use Rattle.mz_logic_free.proofs.Walking.{any-to, any-from}

-- one that passes the test is kept
kept : (p : ℕ → Bool) (x : ℕ) → p x ≡ true → (xs : List ℕ) → Contains xs x → Contains (filter p xs) x
kept p x is [] has = absurd (contains_none x has)
kept p x is (y ∷ ys) has = go (p y) refl (contains_cases y x ys has) (kept p x is ys)
  where
    go : (b : Bool) → p y ≡ b → (y ≡ x) ⊎ Contains ys x → (Contains ys x → Contains (filter p ys) x) → Contains (cond b (y ∷ filter p ys) (filter p ys)) x
    go true at (inl same) later = subst (Contains (y ∷ filter p ys)) same (contains_head y (filter p ys))
    go true at (inr rest) later = contains_tail y x (filter p ys) (later rest)
    go false at (inl same) later = absurd (true≢false (sym is ∙ sym (ap p same) ∙ at))
    go false at (inr rest) later = later rest

module _ (owned owners : List ℕ) (place : ℕ) (others : List ℕ) (x : ℕ) where
  -- one's own are those that pass the test
  passes : Contains (filter (is_own owned owners place others) owned) x → is_own owned owners place others x ≡ true
  passes has = All-contains (λ y. is_own owned owners place others y ≡ true) (filter (is_own owned owners place others) owned) x (filter_passes (is_own owned owners place others) owned) has

  read : (o : Option ℕ) → owner_beside owned owners x ≡ o → is_own owned owners place others x ≡ option_map_or (λ owner. list_any (λ p. owner == p) (place ∷ others)) o false
  read o at = ap (λ found. option_map_or (λ owner. list_any (λ p. owner == p) (place ∷ others)) found false) at

  -- told by the owner
  own-by-owner : (q : ℕ) → owner_beside owned owners x ≡ Some q → Contains (filter (is_own owned owners place others) owned) x ↔ ((q ≡ place) ⊎ Contains others q)
  own-by-owner q at = (to, from)
    where
      there : (o : Option ℕ) → position (λ y. x == y) owned ≡ o → option_and_then (slice_get owners) o ≡ Some q → Contains owned x
      there None _ absent = absurd (none-some q absent)
      there (Some i) found _ = (let (below, same, _) = position-Some (λ y. x == y) owned i x found in (i, below, sym (eqb-true x (get_or owned i x) same)))

      to : Contains (filter (is_own owned owners place others) owned) x → (q ≡ place) ⊎ Contains others q
      to has = elim (contains_cases place q others (any-to q (λ p. q == p) (λ p e. eqb-true q p e) (place ∷ others) (sym (read (Some q) at) ∙ passes has))) [
        | inl same ↦ inl (sym same)
        | inr rest ↦ inr rest
      ]

      among : (q ≡ place) ⊎ Contains others q → Contains (place ∷ others) q
      among (inl same) = subst (Contains (place ∷ others)) (sym same) (contains_head place others)
      among (inr rest) = contains_tail place q others rest

      from : (q ≡ place) ⊎ Contains others q → Contains (filter (is_own owned owners place others) owned) x
      from h = kept (is_own owned owners place others) x (read (Some q) at ∙ any-from q (λ p. q == p) (eq-eqb q q refl) (place ∷ others) (among h)) owned (there (position (λ y. x == y) owned) refl at)

  pub has-none : owner_beside owned owners x ≡ None → IsTrue false ↔ Contains (filter (is_own owned owners place others) owned) x
  has-none at = (λ no. absurd (true≢false (sym no)), λ has. absurd (true≢false (sym (passes has) ∙ read None at)))

  pub has-some : (q : ℕ) → owner_beside owned owners x ≡ Some q → (b : Bool) → IsTrue b ↔ ((q ≡ place) ⊎ Contains others q) → IsTrue b ↔ Contains (filter (is_own owned owners place others) owned) x
  has-some q at b (to, from) = (λ is. (own-by-owner q at).1 (to is), λ has. from ((own-by-owner q at).0 has))

  -- the owner of one that is there is the bound parameter whose operand it is
  module _ (params : List Binder) (es : Trees) (have : HaveOwners params es owned owners) where
    found : (o : Option ℕ) → position (λ y. x == y) owned ≡ o → Contains owned x → (k : ℕ) × (position (λ y. x == y) owned ≡ Some k)
    found (Some k) at _ = (k, at)
    found None at (i, below, is) =
        let past : length owned ≤ position_or_len (λ y. x == y) owned = grind (arith, common_steps) in
        absurd (true≢false (sym (eq-eqb x (get_or owned i x) (sym is)) ∙ fails_before_first (λ y. x == y) owned i x (omega (arith, below, past))))

    pub own-owned : Contains owned x → (q : ℕ) × IsBoundAt params q × (operand es q ≡ var x) × (Contains (filter (is_own owned owners place others) owned) x ↔ ((q ≡ place) ⊎ Contains others q))
    own-owned has =
        let (k, at) = found (position (λ y. x == y) owned) refl has in
        let (below, same, _) = position-Some (λ y. x == y) owned k x at in
        let (bound, is) = AllZip-get_or (λ y j. IsBoundAt params j × (operand es j ≡ var y)) owned owners k x x have below in
        let long = length_all_zip (λ y j. IsBoundAt params j × (operand es j ≡ var y)) owned owners have in
        let beside = slice_get-get_or owners k x (omega (arith, below, long)) in (
          get_or owners k x,
          bound,
          is ∙ ap var (sym (eqb-true x (get_or owned k x) same)),
          own-by-owner (get_or owners k x) (ap (option_and_then (slice_get owners)) at ∙ beside),
        )

-- where no owner stands beside any, none is one's own
no-owner : (owned : List ℕ) (x : ℕ) (o : Option ℕ) → position (λ y. x == y) owned ≡ o → owner_beside owned [] x ≡ None
no-owner owned x None at = ap (option_and_then (slice_get [])) at
no-owner owned x (Some i) at = ap (option_and_then (slice_get [])) at

pub none-owned : (owned : List ℕ) (place : ℕ) (others : List ℕ) (x : ℕ) → Contains (filter (is_own owned [] place others) owned) x → ⊥
none-owned owned place others x has = true≢false (sym ((has-none owned [] place others x (no-owner owned x (position (λ y. x == y) owned) refl)).1 has))

-- Free variables by words: that one word's bits are another's.
use Rattle.std.proofs.Common.{◌≡◌, ◌<◌, ◌+◌, ◌^◌, ℕ, zero, suc, Bool, true, false, List, [], ◌∷◌, ◌++◌, length, Some, All, slice_get, min, nat_eq, leb-true, leb-false, eq-eqb, refl, sym, ap, ◌∙◌, subst, inl, inr, arith}
use Rattle.std.specs.Prelude.{◌⊎◌, Contains, bit_and, if◌then◌else◌, ◌||◌, ◌&&◌, not, nat_le}
use Rattle.std.specs.Int.{bit_at}
use Rattle.std.proofs.lemmas.Nat.Bits.{bit_at_and, bit_at-lt, bit_at_above, same_from_bits}
use Rattle.std.proofs.lemmas.Option.{slice_get_within, get_or_from_slice_get}
use Rattle.std.proofs.lemmas.Bool.{eqb-true}
use Rattle.std.proofs.Math.Nat.{min-le_right, min-eq_left}
use Rattle.std.proofs.lemmas.List.Elements.{All-contains}
use Rattle.mz_base.proofs.Offered.{slice_get-append, slice_get-front, slice_get-append_cases}
use Rattle.mz_logic_theory.specs.Tree.{Tree, Trees, var, app, none, more, operand}
use Rattle.mz_logic_theory.specs.Signature.{Signature}
use Rattle.mz_logic_theory.specs.Sorts.{HasSort, Fits}
use Rattle.mz_logic_theory.specs.Variables.{InV, InFV, InSomeFV, IsBoundAt, is_member}
use Rattle.mz_logic_theory.specs.Legality.{AreParams, IsDummy}
use Rattle.mz_logic_theory.specs.Words.{word_bound, word_deps, bound_places, places_set, binders_from, binders_of, result_of}
use Rattle.mz_logic_theory.specs.declared.binder.Binder.{Binder}
use Rattle.mz_logic_theory.specs.declared.binder.SortMods.{SortMods}
use Rattle.mz_logic_theory.specs.declared.word.Word.{Word}
use Rattle.mz_logic_theory.proofs.Offered.{one_at, is_at, among-true, place_to}
use Rattle.mz_base.specs.Checks.{AllHold}
use Rattle.mz_layout_tables.specs.Tables.{term_row, TermRow}
use Rattle.mz_store.specs.Bits.{Tells, bound_from, bound_vars}
use Rattle.mz_store.proofs.Offered.{bound-once, set-from, bound-has, bound-at}
use Rattle.mz_machine_theory.proofs.Offered.{not-both, in-fv-true, free-within}
use Rattle.mz_machine_theory.specs.FreeVars.{in_fv, free_within}
use Rattle.mz_machine_env.specs.Before.{Before, signatures_of, HasRightWords}
use Rattle.mz_layout_tables.specs.RowWords.{bound_count, first_sorts, word_checks}
use Rattle.mz_layout_tables.proofs.Offered.{bound-many, result-right, right-words, term-params-right}

-- ---- free variables are bound variables of the context

-- what regular variables depend on is bound
abbrev pub DepsAreBound : List Binder → Type 0
DepsAreBound ctx = (y : ℕ) (b : Binder) → slice_get ctx y ≡ Some b → b.bound ≡ false → All (IsBoundAt ctx) b.deps

v-bound : (ctx : List Binder) → DepsAreBound ctx → (x y : ℕ) → InV ctx x (var y) → IsBoundAt ctx x
v-bound ctx deps x y (b, at, inl (bd, same)) = subst (IsBoundAt ctx) (sym same) (b, at, bd)
v-bound ctx deps x y (b, at, inr (reg, has)) = All-contains (IsBoundAt ctx) b.deps x (deps y b at reg) has

mutual
  pub fv-bound : (sigs : List Signature) (ctx : List Binder) → DepsAreBound ctx → (x s : ℕ) (e : Tree) → HasSort sigs ctx e s → InFV sigs ctx x e → IsBoundAt ctx x
  fv-bound sigs ctx deps x s (var y) h free = v-bound ctx deps x y free
  fv-bound sigs ctx deps x s (app t es) (d, at, _, fit) (c, is, inl some) =
      some-bound sigs ctx deps x c.params es c.params es (subst (λ (q : Signature). Fits sigs ctx es q.params) (one_at at is) fit) some
  fv-bound sigs ctx deps x s (app t es) (d, at, _, fit) (c, is, inr (j, _, (b, there, bd), same)) =
      is_at ctx x (operand es j) (bound-at sigs ctx es c.params (subst (λ (q : Signature). Fits sigs ctx es q.params) (one_at at is) fit) j b there bd) same

  some-bound : (sigs : List Signature) (ctx : List Binder) → DepsAreBound ctx → (x : ℕ) (params : List Binder) (all : Trees) (ps : List Binder) (es : Trees) → Fits sigs ctx es ps → InSomeFV sigs ctx x params all ps es → IsBoundAt ctx x
  some-bound sigs ctx deps x params all ps none fit free = absurd free
  some-bound sigs ctx deps x params all [] (more e es) fit free = absurd free
  some-bound sigs ctx deps x params all (p ∷ ps) (more e es) (h, _, fit) (inl (_, free, _)) = fv-bound sigs ctx deps x p.sort e h free
  some-bound sigs ctx deps x params all (p ∷ ps) (more e es) (_, _, fit) (inr free) = some-bound sigs ctx deps x params all ps es fit free

-- ---- of parameters and dummies

pub deps-bound : (ss : List SortMods) (params dummies : List Binder) → AreParams ss params → All IsDummy dummies → DepsAreBound (params ++ dummies)
deps-bound ss params dummies right all y b at reg = go (slice_get-append_cases params dummies y b at)
  where
    go : (slice_get params y ≡ Some b) ⊎ ((j : ℕ) × (slice_get dummies j ≡ Some b)) → All (IsBoundAt (params ++ dummies)) b.deps
    go (inl here) k d below = let (c, is, bd) = ((right y b here).1 reg k d below).1 in (c, slice_get-append params dummies _ c is, bd)
    go (inr (j, there)) k d below = let dummy : IsDummy b = subst IsDummy (get_or_from_slice_get dummies j b b there) (all j b (slice_get_within dummies j b there)) in absurd (let e : true ≡ false = sym dummy.0 ∙ reg in cc)

-- ---- places of bound variables

bound-words : (i : ℕ) (places : List ℕ) (ws : List Word) → bound_from i (binders_from i places ws) ≡ bound_places i ws
bound-words i places [] = refl
bound-words i places (w ∷ ws) = rw (bound-words (suc i) (if word_bound w then places ++ i ∷ [] else places) ws) refl

bound-front : (i : ℕ) (bs cs : List Binder) → (rest : List ℕ) × (bound_from i (bs ++ cs) ≡ bound_from i bs ++ rest)
bound-front i [] cs = (bound_from i cs, refl)
bound-front i (b ∷ bs) cs = let (rest, is) = bound-front (suc i) bs cs in (rest, go b.bound rest is)
  where
    go : (v : Bool) (rest : List ℕ) → bound_from (suc i) (bs ++ cs) ≡ bound_from (suc i) bs ++ rest
        → (if v then i ∷ bound_from (suc i) (bs ++ cs) else bound_from (suc i) (bs ++ cs)) ≡ (if v then i ∷ bound_from (suc i) bs else bound_from (suc i) bs) ++ rest
    go true rest is = ap (λ (xs : List ℕ). i ∷ xs) is
    go false rest is = is

-- ---- the test

-- where each free variable of the context is at one of the places, the test passes
within-free : (sigs : List Signature) (ctx : List Binder) (deps : List ℕ) (e : Tree) (n : ℕ) → ((x : ℕ) → x < n → InFV sigs ctx x e → Contains deps x) → free_within sigs ctx deps e n ≡ true
within-free sigs ctx deps e zero h = refl
within-free sigs ctx deps e (suc n) h = go (in_fv sigs ctx n e) refl (within-free sigs ctx deps e n (λ x low free. h x (omega (arith, low)) free))
  where
    go : (b : Bool) → in_fv sigs ctx n e ≡ b → free_within sigs ctx deps e n ≡ true → ((not b || is_member n deps) && free_within sigs ctx deps e n) ≡ true
    go false is rest = rest
    go true is rest = rw (among-true n deps (h n (omega arith) (in-fv-true sigs ctx n e is))) rest

from-zero : (x : ℕ) → 0 + x ≡ x
from-zero x = omega arith

one-bit : (m n : ℕ) → min m n ≡ 1 → n < 2 → n ≡ 1
one-bit m n is low = let le = min-le_right m n in omega (arith, is, le, low)

module _ (sigs : List Signature) (ss : List SortMods) (ws : List Word) (dummies : List Binder) (right : AreParams ss (binders_of ws)) (all : All IsDummy dummies)
    (allowed told s : ℕ) (small : allowed < 2 ^ bound_count ws) (e : Tree) where
  abbrev pub ctx : List Binder
  ctx = binders_of ws ++ dummies

  abbrev pub deps : List ℕ
  deps = places_set allowed (bound_places 0 ws)

  places-front : (rest : List ℕ) × (bound_vars ctx ≡ bound_places 0 ws ++ rest)
  places-front = let (rest, is) = bound-front 0 (binders_of ws) dummies in (rest, is ∙ ap (λ xs. xs ++ rest) (bound-words 0 [] ws))

  module _ (sorted : HasSort sigs ctx e s) (tells : Tells (bound_vars ctx) told (λ x. InFV sigs ctx x e)) where
    in-deps : bit_and told allowed ≡ told → (x : ℕ) → InFV sigs ctx x e → Contains deps x
    in-deps is x free =
        let (b, at, bd) = fv-bound sigs ctx (deps-bound ss (binders_of ws) dummies right all) x s e sorted free in
        let (k, at-0) = bound-has 0 ctx x b at bd in
        let at-k : slice_get (bound_vars ctx) k ≡ Some x = at-0 ∙ ap (λ (n : ℕ). Some n) (from-zero x) in
        let one : bit_at told k ≡ 1 = (tells k).1 (x, at-k, free) in
        let both : min (bit_at told k) (bit_at allowed k) ≡ 1 = sym (bit_at_and told allowed k) ∙ (ap (λ m. bit_at m k) is ∙ one) in
        let also : bit_at allowed k ≡ 1 = one-bit (bit_at told k) (bit_at allowed k) both (bit_at-lt allowed k) in
        let (rest, front) = places-front in
        place_to allowed (bound_places 0 ws) k x (slice_get-front (bound_places 0 ws) rest k x (low k also) (ap (λ xs. slice_get xs k) (sym front) ∙ at-k)) also
      where
        low : (k : ℕ) → bit_at allowed k ≡ 1 → k < length (bound_places 0 ws)
        low k also = go (nat_le (bound_count ws) k) refl
          where
            go : (v : Bool) → nat_le (bound_count ws) k ≡ v → k < length (bound_places 0 ws)
            go true is = absurd (let off = bit_at_above allowed (bound_count ws) k small (leb-true _ _ is) in omega (arith, off, also))
            go false is = omega (arith, leb-false (bound_count ws) k is, bound-many 0 ws)

    from-deps : ((x : ℕ) → x < length ctx → InFV sigs ctx x e → Contains deps x) → bit_and told allowed ≡ told
    from-deps h = same_from_bits (bit_and told allowed) told λ k. bit_at_and told allowed k ∙ each k (nat_eq (bit_at told k) 1) refl
      where
        each : (k : ℕ) (v : Bool) → nat_eq (bit_at told k) 1 ≡ v → min (bit_at told k) (bit_at allowed k) ≡ bit_at told k
        each k false is = let zero-bit : bit_at told k ≡ 0 = none k is in ap (λ m. min m (bit_at allowed k)) zero-bit ∙ (min-eq_left {n = 0} {m = bit_at allowed k} (omega arith) ∙ sym zero-bit)
          where
            none : (k : ℕ) → nat_eq (bit_at told k) 1 ≡ false → bit_at told k ≡ 0
            none k is = let low = bit_at-lt told k in let other : bit_at told k ≡ 1 → ⊥ = λ same. not-both (nat_eq (bit_at told k) 1) (eq-eqb _ _ same) is in omega (arith, low, other)
        each k true is =
            let one : bit_at told k ≡ 1 = eqb-true _ _ is in
            let (x, at, free) = (tells k).0 one in
            let (rest, front) = places-front in
            let (b, at-x, bd) = fv-bound sigs ctx (deps-bound ss (binders_of ws) dummies right all) x s e sorted free in
            let (j, at-j, bit) = set-from allowed (bound_places 0 ws) x (h x (slice_get_within ctx x b at-x) free) in
            let same : j ≡ k = bound-once 0 ctx j k x (ap (λ xs. slice_get xs j) front ∙ slice_get-append (bound_places 0 ws) rest j x at-j) at in
            rw (one, subst (λ i. bit_at allowed i ≡ 1) same bit) refl

    -- the word's bits are among those that are allowed exactly where the free variables are at the places
    pub free-by-words : (b : Bool) → nat_eq (bit_and told allowed) told ≡ b → b ≡ free_within sigs ctx deps e (length ctx)
    free-by-words true is = sym (within-free sigs ctx deps e (length ctx) (λ x low free. in-deps (eqb-true _ _ is) x free))
    free-by-words false is = go (free_within sigs ctx deps e (length ctx)) refl
      where
        go : (v : Bool) → free_within sigs ctx deps e (length ctx) ≡ v → false ≡ v
        go true w = absurd (not-both (nat_eq (bit_and told allowed) told) (eq-eqb _ _ (from-deps (λ x low free. free-within sigs ctx deps e (length ctx) x w low free))) is)
        go false w = refl

-- ---- of a definition's row

module _ (ss : List SortMods) (row : TermRow) (all : AllHold (word_checks ss row)) where
  row-params : AreParams ss (binders_of row.words.params)
  row-params = (right-words ss row.words.params (term-params-right ss row all)).1

-- the word's bits are among those that its result is allowed exactly where it depends on the free variables
pub free-test : (b : Before) (row : ℕ) (full dummies : List Binder) (e : Tree) (s told : ℕ) → HasRightWords b.file b.rows.sorts row
    → full ≡ binders_of (term_row b.file row).words.params ++ dummies → All IsDummy dummies
    → HasSort (signatures_of b) full e s → Tells (bound_vars full) told (λ x. InFV (signatures_of b) full x e)
    → nat_eq (bit_and told (word_deps (term_row b.file row).words.result)) told ≡ free_within (signatures_of b) full (result_of (term_row b.file row).words).deps e (length full)
free-test b row full dummies e s told words is all sorted tells =
    let rec = term_row b.file row in
    let ss = first_sorts b.file b.rows.sorts in
    subst (λ (c : List Binder). nat_eq (bit_and told (word_deps rec.words.result)) told ≡ free_within (signatures_of b) c (result_of rec.words).deps e (length c)) (sym is)
    (free-by-words (signatures_of b) ss rec.words.params dummies (row-params ss rec words) all (word_deps rec.words.result) told s (result-right ss rec words).bits e
    (subst (λ (c : List Binder). HasSort (signatures_of b) c e s) is sorted) (subst (λ (c : List Binder). Tells (bound_vars c) told (λ x. InFV (signatures_of b) c x e)) is tells) _ refl)

-- The operands of bound parameters, gathered one parameter after another.
use Rattle.std.proofs.Common.{ℕ, zero, suc, ◌≡◌, ◌<◌, ◌≤◌, ◌+◌, ◌%◌, ◌/◌, ◌==◌, ◌⊎◌, ◌++◌, Bool, true, false, List, [], ◌∷◌, length, take, get_or, slice_get, Contains, Some, refl, ap, sym, ◌∙◌, subst, inl, inr, arith, bit_or, if◌then◌else◌}
use Rattle.std.specs.Int.{bit_at}
use Rattle.std.proofs.lemmas.Nat.Bits.{bit_at-zero}
use Rattle.std.proofs.lemmas.Option.{slice_get-get_or, slice_get_within, none-some}
use Rattle.std.proofs.lemmas.List.Elements.{Contains-append_cases}
use Rattle.mz_base.proofs.Offered.{contains_none, contains_cases}
use Rattle.mz_logic_theory.specs.Tree.{Trees, var, operand}
use Rattle.mz_logic_theory.specs.Signature.{Signature}
use Rattle.mz_logic_theory.specs.Sorts.{Fits}
use Rattle.mz_logic_theory.specs.Variables.{IsBoundAt, IsOperandAt}
use Rattle.mz_logic_theory.specs.Words.{word_bound, bound_places, places_set, binder_of, binders_of}
use Rattle.mz_logic_theory.specs.declared.word.Word.{Word}
use Rattle.mz_logic_theory.specs.declared.binder.Binder.{Binder}
use Rattle.mz_logic_theory.proofs.Offered.{one_at}
use Rattle.mz_store.specs.Bits.{Tells, bound_vars}
use Rattle.mz_store.specs.Sharing.{DependsOn}
use Rattle.mz_store.specs.declared.item.DepsMode.{DepsMode}
use Rattle.mz_store.proofs.Gathering.{Gathers, gather-step, gather-end, tells-same}
use Rattle.mz_store.proofs.Params.{many, binder-at, operand-none, operand-zero, operand-split, operand-here, operand-later, tells-bound}
use Rattle.mz_store.proofs.Operands.{fits-many, bound-at}

-- the operands at those of the places whose bits are set
abbrev pub At : Trees → List Binder → ℕ → List ℕ → ℕ → Type 0
At es params bits places x = IsOperandAt params es (places_set bits places) x

pub set-split : (params : List Binder) (es : Trees) (i : ℕ) (rs : List ℕ) (x : ℕ) (v : Bool) → IsOperandAt params es (if v then i ∷ rs else rs) x
    → ((v ≡ true) × (IsBoundAt params i × (operand es i ≡ var x))) ⊎ IsOperandAt params es rs x
set-split params es i rs x true h = elim (operand-split params es i rs x h) [ inl here ↦ inl (refl, here) | inr later ↦ inr later ]
set-split params es i rs x false h = inr h

pub set-here : (params : List Binder) (es : Trees) (i : ℕ) (rs : List ℕ) (x : ℕ) (v : Bool) → (v ≡ true) × (IsBoundAt params i × (operand es i ≡ var x))
    → IsOperandAt params es (if v then i ∷ rs else rs) x
set-here params es i rs x true (_, h) = operand-here params es i rs x h
set-here params es i rs x false (off, h) = absurd cc

pub set-later : (params : List Binder) (es : Trees) (i : ℕ) (rs : List ℕ) (x : ℕ) (v : Bool) → IsOperandAt params es rs x → IsOperandAt params es (if v then i ∷ rs else rs) x
set-later params es i rs x true h = operand-later params es i rs x h
set-later params es i rs x false h = h

pub tells-chosen : (places : List ℕ) (word part : ℕ) (v : Bool) (S : ℕ → Type 0) → part ≡ (if v then word else 0) → Tells places word S → Tells places part (λ x. (v ≡ true) × S x)
tells-chosen places word part true S is tells k =
    subst (λ n. Tells places n (λ x. (true ≡ true) × S x)) (sym is) (tells-same places word S (λ x. (true ≡ true) × S x) (λ x h. (refl, h)) (λ x h. h.1) tells) k
tells-chosen places word part false S is tells k = (
  λ bit. absurd (let e : bit_at part k ≡ 0 = ap (λ n. bit_at n k) is ∙ bit_at-zero k in omega arith),
  λ has. absurd (let e : false ≡ true = has.2.0 in cc),
)

-- one place more, of a bound parameter
pub take-place : (ctx : List Binder) (es : Trees) (mode : DepsMode) (sigs : List Signature) (params : List Binder) → Fits sigs ctx es params
    → (i : ℕ) (places rest : List ℕ) (left half word kept part : ℕ) → IsBoundAt params i → places ≡ i ∷ rest → half ≡ left / 2
    → Tells (bound_vars ctx) kept (DependsOn mode sigs ctx (operand es i))
    → part ≡ (if left % 2 == 1 then kept else 0)
    → (P : ℕ → Type 0) → Gathers (bound_vars ctx) word P (At es params left places)
    → Gathers (bound_vars ctx) (bit_or word part) P (At es params half rest)
take-place ctx es mode sigs params fits i places rest left half word kept part (b, at, bd) places-are halved tells part-is P so-far =
    gather-step (bound_vars ctx) word part P (At es params left places) (At es params half rest) S so-far
    (λ x h. back x (set-split params es i rs x (left % 2 == 1) (subst (λ ps. IsOperandAt params es ps x) same h)))
    (λ x h. subst (λ ps. IsOperandAt params es ps x) (sym same) (set-here params es i rs x (left % 2 == 1) h))
    (λ x h. subst (λ ps. IsOperandAt params es ps x) (sym same) (set-later params es i rs x (left % 2 == 1) (subst (λ n. IsOperandAt params es (places_set n rest) x) halved h)))
    (tells-chosen (bound_vars ctx) kept part (left % 2 == 1) (λ x. IsBoundAt params i × (operand es i ≡ var x)) part-is
    (tells-bound mode sigs ctx params (bound_vars ctx) kept es i (operand es i)
    (b, at, bd) refl (bound-at sigs ctx es params fits i b at bd) tells))
  where
    rs : List ℕ
    rs = places_set (left / 2) rest

    S : ℕ → Type 0
    S x = ((left % 2 == 1) ≡ true) × (IsBoundAt params i × (operand es i ≡ var x))

    same : places_set left places ≡ (if left % 2 == 1 then i ∷ rs else rs)
    same = ap (places_set left) places-are

    back : (x : ℕ) → S x ⊎ IsOperandAt params es rs x → S x ⊎ At es params half rest x
    back x (inl h) = inl h
    back x (inr h) = inr (subst (λ n. IsOperandAt params es (places_set n rest) x) (sym halved) h)

pub bits-over : (ctx : List Binder) (es : Trees) (params : List Binder) (places : List ℕ) (left word : ℕ) → left ≡ 0 → (P : ℕ → Type 0)
    → Gathers (bound_vars ctx) word P (At es params left places) → Tells (bound_vars ctx) word P
bits-over ctx es params places left word none-left P so-far =
    gather-end (bound_vars ctx) word P (At es params left places) so-far
    (λ x h. operand-zero params es places x (subst (λ n. At es params n places x) none-left h))

pub places-over : (ctx : List Binder) (es : Trees) (params : List Binder) (places : List ℕ) (left word : ℕ) → places ≡ [] → (P : ℕ → Type 0)
    → Gathers (bound_vars ctx) word P (At es params left places) → Tells (bound_vars ctx) word P
places-over ctx es params places left word none-left P so-far =
    gather-end (bound_vars ctx) word P (At es params left places) so-far
    (λ x h. operand-none params es x (subst (λ ps. At es params left ps x) none-left h))

-- ---- the places of bound parameters, one parameter after another

-- with one parameter more
pub places-more : (j : ℕ) (ws : List Word) (i : ℕ) (w : Word) (v : Bool) → slice_get ws i ≡ Some w → word_bound w ≡ v
    → bound_places j (take (suc i) ws) ≡ (if v then bound_places j (take i ws) ++ (j + i) ∷ [] else bound_places j (take i ws))
places-more j [] i w v at is = absurd (none-some _ at)
places-more j (u ∷ ws) zero w v at is =
    ap (λ b. if b then j ∷ [] else []) (ap word_bound (one_at refl at) ∙ is)
    ∙ ap (λ n. if v then n ∷ [] else []) (let e : j ≡ j + 0 = omega arith in e)
places-more j (u ∷ ws) (suc i) w v at is =
    ap (λ (ps : List ℕ). if word_bound u then j ∷ ps else ps) (places-more (suc j) ws i w v at is)
    ∙ inside (word_bound u) v
    ∙ ap (λ n. if v then (if word_bound u then j ∷ bound_places (suc j) (take i ws) else bound_places (suc j) (take i ws)) ++ n ∷ [] else (if word_bound u then j ∷ bound_places (suc j) (take i ws) else bound_places (suc j) (take i ws)))
    (let e : suc j + i ≡ j + suc i = omega arith in e)
  where
    inside : (b c : Bool) → (if b then j ∷ (if c then bound_places (suc j) (take i ws) ++ (suc j + i) ∷ [] else bound_places (suc j) (take i ws)) else (if c then bound_places (suc j) (take i ws) ++ (suc j + i) ∷ [] else bound_places (suc j) (take i ws)))
        ≡ (if c then (if b then j ∷ bound_places (suc j) (take i ws) else bound_places (suc j) (take i ws)) ++ (suc j + i) ∷ [] else (if b then j ∷ bound_places (suc j) (take i ws) else bound_places (suc j) (take i ws)))
    inside true true = refl
    inside true false = refl
    inside false true = refl
    inside false false = refl

pub places-next : (ws : List Word) (i j : ℕ) (w : Word) (v : Bool) → slice_get ws i ≡ Some w → j ≡ suc i → word_bound w ≡ v
    → bound_places 0 (take j ws) ≡ (if v then bound_places 0 (take i ws) ++ i ∷ [] else bound_places 0 (take i ws))
places-next ws i j w v at next is = ap (λ k. bound_places 0 (take k ws)) next ∙ places-more 0 ws i w v at is
    ∙ ap (λ n. if v then bound_places 0 (take i ws) ++ n ∷ [] else bound_places 0 (take i ws)) (let e : 0 + i ≡ i = omega arith in e)

step-bound : (ws : List Word) (i j : ℕ) (w : Word) (b : Bool) → slice_get ws i ≡ Some w → word_bound w ≡ b
    → (Contains (bound_places 0 (take i ws)) j → IsBoundAt (binders_of ws) j)
    → Contains (if b then bound_places 0 (take i ws) ++ (0 + i) ∷ [] else bound_places 0 (take i ws)) j → IsBoundAt (binders_of ws) j
step-bound ws i j w true at bd before inside = elim (Contains-append_cases (bound_places 0 (take i ws)) ((0 + i) ∷ []) j inside) [
  | inl old ↦ before old
  | inr here ↦ elim (contains_cases (0 + i) j [] here) [
    | inl same ↦ (binder_of (bound_places 0 (take i ws)) w, ap (slice_get (binders_of ws)) (let e : j ≡ i = omega (arith, same) in e) ∙ binder-at ws i w at, bd)
    | inr none ↦ absurd (contains_none j none)
  ]
]
step-bound ws i j w false at regular before inside = before inside

-- a bound parameter stands at each of them
pub places-are-bound : (ws : List Word) (i : ℕ) → i ≤ length ws → (j : ℕ) → Contains (bound_places 0 (take i ws)) j → IsBoundAt (binders_of ws) j
places-are-bound [] zero within j has = absurd (contains_none j has)
places-are-bound (v ∷ ws) zero within j has = absurd (contains_none j has)
places-are-bound ws (suc i) within j has =
    let w = get_or ws i (record { 0 = 0 }) in
    let at : slice_get ws i ≡ Some w = slice_get-get_or ws i _ within in
    step-bound ws i j w (word_bound w) at refl (places-are-bound ws i (omega arith) j)
    (subst (λ ps. Contains ps j) (places-more 0 ws i w (word_bound w) at refl) has)

-- and an operand too
pub places-within : (sigs : List Signature) (ctx : List Binder) (es : Trees) (ws : List Word) → Fits sigs ctx es (binders_of ws) → (i : ℕ) → i ≤ length ws
    → (places : List ℕ) → places ≡ bound_places 0 (take i ws) → (j : ℕ) → Contains places j → j < many es
places-within sigs ctx es ws fits i within places are j has =
    let bound = places-are-bound ws i within j (subst (λ ps. Contains ps j) are has) in
    let below : j < length (binders_of ws) = slice_get_within (binders_of ws) j bound.0 bound.1 in
    let same : many es ≡ length (binders_of ws) = fits-many sigs ctx es (binders_of ws) fits in
    omega arith

-- what such places name among operands is reported by the word that their bits choose
pub names-told : (ctx : List Binder) (es : Trees) (ws : List Word) (places old : List ℕ) (bits bits' word : ℕ) → places ≡ old → bits ≡ bits'
    → Tells (bound_vars ctx) word (At es (binders_of ws) bits places) → Tells (bound_vars ctx) word (At es (binders_of ws) bits' old)
names-told ctx es ws places old bits bits' word same equal tells =
    subst (λ n. Tells (bound_vars ctx) word (At es (binders_of ws) n old)) equal (subst (λ ps. Tells (bound_vars ctx) word (At es (binders_of ws) bits ps)) same tells)

-- Sizes, and lists of ids as they are gone over.
use Rattle.std.proofs.Common.{◌≡◌, ◌∙◌, ◌≤◌, ◌<◌, ◌+◌, ◌-◌, ◌*◌, ◌/◌, ◌⊎◌, ℕ, zero, suc, List, [], ◌∷◌, ◌++◌, take, length, get_or, refl, sym, ap, subst, inl, inr, arith, append-nil, Bool, true, false, ◌==◌, ◌%◌, ◌^◌, map, Some}
use Rattle.std.specs.Prelude.{◌↔◌, All, Contains, bit_or, if◌then◌else◌}
use Rattle.std.proofs.lemmas.Bool.{eqb-true}
use Rattle.std.proofs.lemmas.Nat.{one_shl}
use Rattle.std.proofs.lemmas.Option.{slice_get-get_or}
use Rattle.std.proofs.lemmas.List.{map_more, take_more}
use Rattle.std.proofs.lemmas.List.Elements.{All-contains, All-map, All-weaker, Contains-get_or, Contains-append_left, Contains-push, Contains-push_cases}
use Rattle.mz_axioms.specs.Members.{AreOnce, Grows, IsJoined, IsSet, IsSingle, IsStore, IsUnion, bits, left_of, node_at, node_in, other, right_of, span}
use Rattle.mz_axioms.specs.declared.sets.Node.{Node}
use Rattle.mz_axioms.proofs.Bits.{bits-none, bits-or}
use Rattle.mz_base.proofs.Offered.{contains_none}
use Rattle.mz_axioms.proofs.Joining.{set-kept, single-left, single-right, single-word, union-halves, union-once}

-- ---- sizes

pub above-zero : (height : ℕ) → (height ≡ 0 → ⊥) → suc (height - 1) ≡ height
above-zero zero is = absurd (is refl)
above-zero (suc height) is = omega arith

pub half-span : (height n : ℕ) → (height ≡ 0 → ⊥) → n ≡ span height → (n / 2 ≡ span (height - 1)) × (n ≡ 2 * span (height - 1))
half-span height n some is =
    let twice : n ≡ 2 * span (height - 1) = is ∙ sym (ap span (above-zero height some)) in
    (omega (arith, twice), twice)

-- ---- ids, each once

abbrev pub SoFar : (ids kept : List ℕ) → ℕ → Type 0
SoFar ids kept last = AreOnce ids kept × ((last ≡ 0) ⊎ Contains kept last)

once-push : (ids kept : List ℕ) (id : ℕ) → AreOnce ids kept → AreOnce (ids ++ id ∷ []) (kept ++ id ∷ [])
once-push ids kept id once = record {
  back = λ x has. elim (Contains-push_cases kept id x has) [
    | inl old ↦ Contains-append_left ids (id ∷ []) x (once.back x old)
    | inr same ↦ subst (Contains (ids ++ id ∷ [])) same (Contains-push ids id)
  ];
  there = λ x has. elim (Contains-push_cases ids id x has) [
    | inl old ↦ elim (once.there x old) [ inl none ↦ inl none | inr on ↦ inr (Contains-append_left kept (id ∷ []) x on) ]
    | inr same ↦ inr (subst (Contains (kept ++ id ∷ [])) same (Contains-push kept id))
  ];
}

once-skip : (ids kept : List ℕ) (id : ℕ) → (id ≡ 0) ⊎ Contains kept id → AreOnce ids kept → AreOnce (ids ++ id ∷ []) kept
once-skip ids kept id known once = record {
  back = λ x has. Contains-append_left ids (id ∷ []) x (once.back x has);
  there = λ x has. elim (Contains-push_cases ids id x has) [
    | inl old ↦ once.there x old
    | inr same ↦ subst (λ y. (y ≡ 0) ⊎ Contains kept y) same known
  ];
}

once-more : (ids kept : List ℕ) (last id : ℕ) (b : Bool) → (id == last) ≡ b → SoFar ids kept last → SoFar (ids ++ id ∷ []) (kept ++ (if b then [] else id ∷ [])) id
once-more ids kept last id true is (once, known) =
    let here : (id ≡ 0) ⊎ Contains kept id = subst (λ x. (x ≡ 0) ⊎ Contains kept x) (sym (eqb-true id last is)) known in
    subst (λ (xs : List ℕ). SoFar (ids ++ id ∷ []) xs id) (sym (append-nil kept)) (once-skip ids kept id here once, here)
once-more ids kept last id false is (once, known) = (once-push ids kept id once, inr (Contains-push kept id))

pub once-next : (ids kept new : List ℕ) (i last id : ℕ) → i < length ids → id ≡ get_or ids i 0 → new ≡ kept ++ other id last → SoFar (take i ids) kept last → SoFar (take (i + 1) ids) new id
once-next ids kept new i last id lt is put so_far =
    subst (λ xs. SoFar xs new id) (sym (take_more ids i 0 lt ∙ ap (λ x. take i ids ++ x ∷ []) (sym is)))
    (subst (λ (xs : List ℕ). SoFar (take i ids ++ id ∷ []) xs id) (sym put) (once-more (take i ids) kept last id (id == last) refl so_far))

-- ---- words

-- the word has the bits of all these
abbrev pub IsAll : List ℕ → ℕ → Type 0
IsAll words all = (base n : ℕ) → Contains (bits 64 base all) n ↔ ((word : ℕ) × Contains words word × Contains (bits 64 base word) n)

pub all-first : IsAll [] 0
all-first base n = (
  λ has. absurd (contains_none n (subst (λ (xs : List ℕ). Contains xs n) (bits-none 64 base) has)),
  λ (word, there, has). absurd (contains_none word there),
)

pub all-more : (words : List ℕ) (i all word : ℕ) → i < length words → word ≡ get_or words i 0 → IsAll (take i words) all → IsAll (take (i + 1) words) (bit_or all word)
all-more words i all word lt is so_far base n =
    let both = bits-or 64 base all word n in
    let more : take (i + 1) words ≡ take i words ++ word ∷ [] = take_more words i 0 lt ∙ ap (λ x. take i words ++ x ∷ []) (sym is) in
    subst (λ (xs : List ℕ). Contains (bits 64 base (bit_or all word)) n ↔ ((w : ℕ) × Contains xs w × Contains (bits 64 base w) n)) (sym more) (
      λ has. elim (both.0 has) [
        | inl old ↦ (let (w, there, in_w) = (so_far base n).0 old in (w, Contains-append_left (take i words) (word ∷ []) w there, in_w))
        | inr new ↦ (word, Contains-push (take i words) word, new)
      ],
      λ (w, there, in_w). both.1 (elim (Contains-push_cases (take i words) word w there) [
        | inl old ↦ inl ((so_far base n).1 (w, old, in_w))
        | inr same ↦ inr (subst (λ x. Contains (bits 64 base x) n) (sym same) in_w)
      ]),
    )

-- ---- nodes, as they are read

pub node-read : (nodes : List Node) (id : ℕ) (n : Node) → id < length nodes → n ≡ get_or nodes id n → node_at nodes id ≡ n
node-read nodes id n lt is = ap node_in (slice_get-get_or nodes id n lt ∙ ap (λ (x : Node). Some x) (sym is))

map-next : (f : ℕ → ℕ) (ids old new : List ℕ) (i v : ℕ) → i < length ids → new ≡ old ++ v ∷ [] → f (get_or ids i 0) ≡ v → old ≡ map f (take i ids) → new ≡ map f (take (i + 1) ids)
map-next f ids old new i v lt pushed is so_far = pushed ∙ ap (λ xs. xs ++ v ∷ []) so_far ∙ ap (λ x. map f (take i ids) ++ x ∷ []) (sym is) ∙ sym (map_more f ids i 0 lt)

pub left-next : (nodes : List Node) (ids old new : List ℕ) (i id : ℕ) (n : Node) → i < length ids → id ≡ get_or ids i 0 → id < length nodes → n ≡ get_or nodes id n → new ≡ old ++ n.left ∷ []
    → old ≡ map (left_of nodes) (take i ids) → new ≡ map (left_of nodes) (take (i + 1) ids)
left-next nodes ids old new i id n lt is within read pushed so_far =
    map-next (left_of nodes) ids old new i n.left lt pushed (ap (left_of nodes) (sym is) ∙ ap (λ (x : Node). x.left) (node-read nodes id n within read)) so_far

pub right-next : (nodes : List Node) (ids old new : List ℕ) (i id : ℕ) (n : Node) → i < length ids → id ≡ get_or ids i 0 → id < length nodes → n ≡ get_or nodes id n → new ≡ old ++ n.right ∷ []
    → old ≡ map (right_of nodes) (take i ids) → new ≡ map (right_of nodes) (take (i + 1) ids)
right-next nodes ids old new i id n lt is within read pushed so_far =
    map-next (right_of nodes) ids old new i n.right lt pushed (ap (right_of nodes) (sym is) ∙ ap (λ (x : Node). x.right) (node-read nodes id n within read)) so_far

-- ---- one number

pub single-least : (nodes : List Node) (height n most : ℕ) → height ≡ 0 → most ≡ span height → n < most → IsSingle nodes nodes height n ((1 * 2 ^ n) % 2 ^ 64)
single-least nodes height n most least power low =
    let lt : n < 64 = (let e = power ∙ ap span least in omega (arith, e, low)) in
    subst (λ k. IsSingle nodes nodes k n ((1 * 2 ^ n) % 2 ^ 64)) (sym least) (single-word nodes n ((1 * 2 ^ n) % 2 ^ 64) lt (one_shl n 64 lt))

pub single-lower : (old mid new : List Node) (height n left id : ℕ) → (height ≡ 0 → ⊥) → IsStore old → IsSingle old mid (height - 1) n left → IsJoined mid new left 0 id → IsSingle old new height n id
single-lower old mid new height n left id some starts one joined =
    subst (λ k. IsSingle old new k n id) (above-zero height some) (single-left old mid new (height - 1) n left id starts one joined)

pub single-upper : (old mid new : List Node) (height n most right id : ℕ) → (height ≡ 0 → ⊥) → most ≡ span height → most / 2 ≤ n → IsStore old → IsSingle old mid (height - 1) (n - most / 2) right → IsJoined mid new 0 right id
    → IsSingle old new height n id
single-upper old mid new height n most right id some power high starts one joined =
    let half = (half-span height most some power).0 in
    let whole : span (height - 1) + (n - most / 2) ≡ n = omega (arith, half, high) in
    subst (λ k. IsSingle old new k n id) (above-zero height some)
    (subst (λ k. IsSingle old new (suc (height - 1)) k id) whole (single-right old mid new (height - 1) (n - most / 2) right id starts one joined))

-- ---- the numbers of several sets

pub kept-sets : (old : List Node) (height : ℕ) (ids kept : List ℕ) → AreOnce ids kept → All (IsSet old height) ids → All (IsSet old height) kept
kept-sets old height ids kept once sets k d lt = All-contains (IsSet old height) ids (get_or kept k d) sets (once.back (get_or kept k d) (Contains-get_or kept k d lt))

module _ (old : List Node) (height : ℕ) (ids kept : List ℕ) (some : height ≡ 0 → ⊥) (once : AreOnce ids kept) (sets : All (IsSet old height) ids) where
  kept-halves : All (IsSet old (suc (height - 1))) kept
  kept-halves = subst (λ k. All (IsSet old k) kept) (sym (above-zero height some)) (kept-sets old height ids kept once sets)

  pub kept-within : All (λ id. id < length old) kept
  kept-within k d lt = (kept-halves k d lt).0

  pub lefts-sets : (lefts : List ℕ) → lefts ≡ map (left_of old) kept → All (IsSet old (height - 1)) lefts
  lefts-sets lefts is =
      subst (All (IsSet old (height - 1))) (sym is)
      (All-map (IsSet old (height - 1)) (left_of old) kept (All-weaker (IsSet old (suc (height - 1))) (λ k. IsSet old (height - 1) (left_of old k)) (λ k set. set.1) kept kept-halves))

  pub rights-sets : (mid : List Node) (rights : List ℕ) → Grows old mid → rights ≡ map (right_of old) kept → All (IsSet mid (height - 1)) rights
  rights-sets mid rights grows is =
      subst (All (IsSet mid (height - 1))) (sym is)
      (All-map (IsSet mid (height - 1)) (right_of old) kept
      (All-weaker (IsSet old (suc (height - 1))) (λ k. IsSet mid (height - 1) (right_of old k)) (λ k set. set-kept old mid (height - 1) (right_of old k) grows set.2) kept kept-halves))

  pub union-made : (mid new made : List Node) (lefts rights : List ℕ) (left right id : ℕ) → IsStore old → lefts ≡ map (left_of old) kept → rights ≡ map (right_of old) kept
      → IsUnion old mid (height - 1) lefts left → IsUnion mid new (height - 1) rights right → IsJoined new made left right id → IsUnion old made height ids id
  union-made mid new made lefts rights left right id starts lefts-are rights-are low high joined =
      union-once old made height ids kept id starts once
      (subst (λ k. IsUnion old made k kept id) (above-zero height some)
      (union-halves old mid new made (height - 1) kept left right id kept-halves (subst (λ xs. IsUnion old mid (height - 1) xs left) lefts-are low)
      (subst (λ xs. IsUnion mid new (height - 1) xs right) rights-are high) joined))

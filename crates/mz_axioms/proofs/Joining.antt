-- Sets in a store that grows, and the set of the numbers that one of several has.
use Rattle.std.proofs.Common.{◌≡◌, ◌∙◌, ◌<◌, ◌+◌, ◌*◌, ◌⊎◌, ℕ, zero, suc, List, [], ◌∷◌, ◌++◌, map, length, get_or, slice_get, refl, sym, ap, subst, inl, inr, arith, append_assoc, append-nil, length-append, ◌^◌}
use Rattle.std.specs.Prelude.{◌↔◌, All, Contains}
use Rattle.std.specs.List.Sorted.{IsStrictlyIncreasing, IsPermutation}
use Rattle.std.proofs.lemmas.List.Elements.{All-contains, Contains-append_left, Contains-append_right, Contains-append_cases, Contains-push, Contains-push_cases, All-map, All-weaker}
use Rattle.std.proofs.lemmas.List.Sorted.{Contains-permutation, IsPermutation-sym}
use Rattle.std.proofs.lemmas.Option.{slice_get_within}
use Rattle.mz_axioms.specs.declared.sets.Node.{Node}
use Rattle.mz_axioms.specs.Members.{AreOnce, Grows, InSome, IsJoined, IsSet, IsSingle, IsStore, IsUnion, bits, left_of, members, node, node_at, node_in, right_of, span}
use Rattle.mz_axioms.proofs.Bits.{Between, ascending-append, between-append, bits-none, bits-one, bits-up}
use Rattle.mz_base.proofs.Offered.{contains_none, slice_get-within}
use Rattle.mz_axioms.proofs.Mapped.{contains-map, map-contains}

-- ---- a store that grows

pub grows-none : (nodes : List Node) → Grows nodes nodes
grows-none nodes = ([], sym (append-nil nodes))

pub grows-on : (a b c : List Node) → Grows a b → Grows b c → Grows a c
grows-on a b c (more, is) (others, on) = (more ++ others, on ∙ ap (λ (ns : List Node). ns ++ others) is ∙ append_assoc a more others)

pub still-store : (old new : List Node) → Grows old new → IsStore old → IsStore new
still-store old new (more, is) starts = ap (λ (ns : List Node). slice_get ns 0) is ∙ slice_get-within old more 0 (slice_get_within old 0 (node 0 0) starts) ∙ starts

node-kept : (old new : List Node) (id : ℕ) → Grows old new → id < length old → node_at new id ≡ node_at old id
node-kept old new id (more, is) lt = ap node_in (ap (λ (ns : List Node). slice_get ns id) is ∙ slice_get-within old more id lt)

more-nodes : (old new : List Node) (id : ℕ) → Grows old new → id < length old → id < length new
more-nodes old new id (more, is) lt = (let e : length new ≡ length (old ++ more) = ap (λ (ns : List Node). length ns) is in let f = length-append old more in omega (arith, e, f, lt))

pub set-kept : (old new : List Node) (height id : ℕ) → Grows old new → IsSet old height id → IsSet new height id
set-kept old new zero id grows set = tt
set-kept old new (suc height) id grows (lt, left, right) =
    let same = node-kept old new id grows lt in (
      more-nodes old new id grows lt,
      subst (IsSet new height) (sym (ap (λ (n : Node). n.left) same)) (set-kept old new height (left_of old id) grows left),
      subst (IsSet new height) (sym (ap (λ (n : Node). n.right) same)) (set-kept old new height (right_of old id) grows right),
    )

pub members-kept : (old new : List Node) (height base id : ℕ) → Grows old new → IsSet old height id → members new height base id ≡ members old height base id
members-kept old new zero base id grows set = refl
members-kept old new (suc height) base id grows (lt, left, right) =
    let same = node-kept old new id grows lt in
    ap (λ (n : Node). members new height base n.left ++ members new height (base + span height) n.right) same
    ∙ ap (λ xs. xs ++ members new height (base + span height) (right_of old id)) (members-kept old new height base (left_of old id) grows left)
    ∙ ap (λ xs. members old height base (left_of old id) ++ xs) (members-kept old new height (base + span height) (right_of old id) grows right)

-- ---- the set of no numbers

pub none-set : (nodes : List Node) (height : ℕ) → IsStore nodes → IsSet nodes height 0
none-set nodes zero starts = tt
none-set nodes (suc height) starts =
    let same : node_at nodes 0 ≡ node 0 0 = ap node_in starts in (
      slice_get_within nodes 0 (node 0 0) starts,
      subst (IsSet nodes height) (sym (ap (λ (n : Node). n.left) same)) (none-set nodes height starts),
      subst (IsSet nodes height) (sym (ap (λ (n : Node). n.right) same)) (none-set nodes height starts),
    )

pub none-in : (nodes : List Node) (height base : ℕ) → IsStore nodes → members nodes height base 0 ≡ []
none-in nodes zero base starts = bits-none 64 base
none-in nodes (suc height) base starts =
    let same : node_at nodes 0 ≡ node 0 0 = ap node_in starts in
    ap (λ (n : Node). members nodes height base n.left ++ members nodes height (base + span height) n.right) same
    ∙ ap (λ xs. xs ++ members nodes height (base + span height) 0) (none-in nodes height base starts)
    ∙ none-in nodes height (base + span height) starts

-- ---- sets ascend

pub members-up : (nodes : List Node) (height base id : ℕ) → IsStrictlyIncreasing (members nodes height base id) × Between base (base + span height) (members nodes height base id)
members-up nodes zero base id = bits-up 64 base id
members-up nodes (suc height) base id =
    let low = members-up nodes height base (left_of nodes id) in
    let high = members-up nodes height (base + span height) (right_of nodes id) in
    let end : base + span height + span height ≡ base + 2 * span height = omega arith in
    let above : Between (base + span height) (base + 2 * span height) (members nodes height (base + span height) (right_of nodes id)) =
    subst (λ n. Between (base + span height) n (members nodes height (base + span height) (right_of nodes id))) end high.1 in (
      ascending-append base (base + span height) (base + 2 * span height) (members nodes height base (left_of nodes id)) (members nodes height (base + span height) (right_of nodes id)) low.0 low.1 high.0 above,
      between-append base (base + span height) (base + 2 * span height) (members nodes height base (left_of nodes id)) (members nodes height (base + span height) (right_of nodes id)) (omega arith) (omega arith) low.1 above,
    )

-- ---- a node of two sets

module _ (old new : List Node) (height left right id : ℕ) (joined : IsJoined old new left right id) where
  there : node_at new id ≡ node left right
  there = ap node_in joined.there

  pub joined-set : IsSet new height left → IsSet new height right → IsSet new (suc height) id
  joined-set l r = (
    slice_get_within new id (node left right) joined.there,
    subst (IsSet new height) (sym (ap (λ (n : Node). n.left) there)) l,
    subst (IsSet new height) (sym (ap (λ (n : Node). n.right) there)) r,
  )

  pub joined-members : (base : ℕ) → members new (suc height) base id ≡ members new height base left ++ members new height (base + span height) right
  joined-members base = ap (λ (n : Node). members new height base n.left ++ members new height (base + span height) n.right) there

-- ---- the set of one number

pub single-word : (nodes : List Node) (n id : ℕ) → n < 64 → id ≡ 2 ^ n → IsSingle nodes nodes 0 n id
single-word nodes n id lt is = record {
  grows = grows-none nodes;
  is_set = tt;
  holds = λ base m. subst (λ w. Contains (bits 64 base w) m ↔ (m ≡ base + n)) (sym is) (bits-one 64 base n m lt);
}

pub single-left : (old mid new : List Node) (height n left id : ℕ) → IsStore old → IsSingle old mid height n left → IsJoined mid new left 0 id → IsSingle old new (suc height) n id
single-left old mid new height n left id starts one joined = record {
  grows = grows-on old mid new one.grows joined.grows;
  is_set = joined-set mid new height left 0 id joined (set-kept mid new height left joined.grows one.is_set) (none-set new height stays);
  holds = λ base m.
      (let is : members new (suc height) base id ≡ members mid height base left =
      joined-members mid new height left 0 id joined base
      ∙ ap (λ xs. members new height base left ++ xs) (none-in new height (base + span height) stays)
      ∙ append-nil (members new height base left)
      ∙ members-kept mid new height base left joined.grows one.is_set in
      subst (λ (xs : List ℕ). Contains xs m ↔ (m ≡ base + n)) (sym is) (one.holds base m));
}
  where
    stays : IsStore new
    stays = still-store mid new joined.grows (still-store old mid one.grows starts)

pub single-right : (old mid new : List Node) (height n right id : ℕ) → IsStore old → IsSingle old mid height n right → IsJoined mid new 0 right id → IsSingle old new (suc height) (span height + n) id
single-right old mid new height n right id starts one joined = record {
  grows = grows-on old mid new one.grows joined.grows;
  is_set = joined-set mid new height 0 right id joined (none-set new height stays) (set-kept mid new height right joined.grows one.is_set);
  holds = λ base m.
      (let is : members new (suc height) base id ≡ members mid height (base + span height) right =
      joined-members mid new height 0 right id joined base
      ∙ ap (λ xs. xs ++ members new height (base + span height) right) (none-in new height base stays)
      ∙ members-kept mid new height (base + span height) right joined.grows one.is_set in
      let on = one.holds (base + span height) m in
      subst (λ (xs : List ℕ). Contains xs m ↔ (m ≡ base + (span height + n))) (sym is)
      (λ has. (let e = on.0 has in omega (arith, e)), λ e. on.1 (omega (arith, e))));
}
  where
    stays : IsStore new
    stays = still-store mid new joined.grows (still-store old mid one.grows starts)

-- ---- the numbers of several sets

pub some-kept : (old new : List Node) (height base : ℕ) (ids : List ℕ) (n : ℕ) → Grows old new → All (IsSet old height) ids → InSome new height base ids n ↔ InSome old height base ids n
some-kept old new height base ids n grows sets = (
  λ (id, there, has). (id, there, subst (λ (xs : List ℕ). Contains xs n) (members-kept old new height base id grows (All-contains (IsSet old height) ids id sets there)) has),
  λ (id, there, has). (id, there, subst (λ (xs : List ℕ). Contains xs n) (sym (members-kept old new height base id grows (All-contains (IsSet old height) ids id sets there))) has),
)

-- those that are left of them have the same
pub some-once : (nodes : List Node) (height base : ℕ) (ids kept : List ℕ) (n : ℕ) → IsStore nodes → AreOnce ids kept → InSome nodes height base kept n ↔ InSome nodes height base ids n
some-once nodes height base ids kept n starts once = (
  λ (id, there, has). (id, once.back id there, has),
  λ (id, there, has). elim (once.there id there) [
    | inl none ↦ absurd (contains_none n (subst (λ (xs : List ℕ). Contains xs n) (ap (members nodes height base) none ∙ none-in nodes height base starts) has))
    | inr on ↦ (id, on, has)
  ],
)

-- a number of sets is one of their lower halves, or of their upper ones
pub some-halves : (nodes : List Node) (height base : ℕ) (ids : List ℕ) (n : ℕ)
    → InSome nodes (suc height) base ids n ↔ (InSome nodes height base (map (left_of nodes) ids) n ⊎ InSome nodes height (base + span height) (map (right_of nodes) ids) n)
some-halves nodes height base ids n = (
  λ (id, there, has). elim (Contains-append_cases (members nodes height base (left_of nodes id)) (members nodes height (base + span height) (right_of nodes id)) n has) [
    | inl low ↦ inl (left_of nodes id, contains-map (left_of nodes) ids id there, low)
    | inr high ↦ inr (right_of nodes id, contains-map (right_of nodes) ids id there, high)
  ],
  λ h. elim h [
    | inl (half, there, low) ↦ (
        let (id, at, is) = map-contains (left_of nodes) ids half there in
        (id, at, Contains-append_left (members nodes height base (left_of nodes id)) (members nodes height (base + span height) (right_of nodes id)) n (subst (λ k. Contains (members nodes height base k) n) (sym is) low))
        )
    | inr (half, there, high) ↦ (
        let (id, at, is) = map-contains (right_of nodes) ids half there in
        (id, at, Contains-append_right (members nodes height base (left_of nodes id)) (members nodes height (base + span height) (right_of nodes id)) n (subst (λ k. Contains (members nodes height (base + span height) k) n) (sym is) high))
        )
  ],
)

-- ---- the set of the numbers of several sets

pub union-once : (old new : List Node) (height : ℕ) (ids kept : List ℕ) (id : ℕ) → IsStore old → AreOnce ids kept → IsUnion old new height kept id → IsUnion old new height ids id
union-once old new height ids kept id starts once made = record {
  grows = made.grows;
  is_set = made.is_set;
  holds = λ base n.
      (let same = some-once old height base ids kept n starts once in (λ has. same.0 ((made.holds base n).0 has), λ h. (made.holds base n).1 (same.1 h)));
}

-- of at most one
pub union-short : (nodes : List Node) (height : ℕ) (ids : List ℕ) (id : ℕ) → IsStore nodes → All (IsSet nodes height) ids → length ids < 2 → id ≡ get_or ids 0 0 → IsUnion nodes nodes height ids id
union-short nodes height [] id starts sets short is = record {
  grows = grows-none nodes;
  is_set = subst (IsSet nodes height) (sym is) (none-set nodes height starts);
  holds = λ base n. (
    λ has. absurd (contains_none n (subst (λ (xs : List ℕ). Contains xs n) (ap (members nodes height base) is ∙ none-in nodes height base starts) has)),
    λ (x, there, has). absurd (contains_none x there),
  );
}
union-short nodes height (x ∷ []) id starts sets short is = record {
  grows = grows-none nodes;
  is_set = subst (IsSet nodes height) (sym is) (sets 0 0 (omega arith));
  holds = λ base n. (
    λ has. (x, Contains-push [] x, subst (λ k. Contains (members nodes height base k) n) is has),
    λ (y, there, has). (
        let same : y ≡ x = elim (Contains-push_cases [] x y there) [ inl no_ ↦ absurd (contains_none y no_) | inr e ↦ sym e ] in
        subst (λ k. Contains (members nodes height base k) n) (same ∙ sym is) has
        ),
  );
}
union-short nodes height (x ∷ y ∷ ids) id starts sets short is = absurd (omega (arith, short))

pub union-words : (nodes : List Node) (ids : List ℕ) (id : ℕ) → ((base n : ℕ) → Contains (bits 64 base id) n ↔ InSome nodes 0 base ids n) → IsUnion nodes nodes 0 ids id
union-words nodes ids id holds = record { grows = grows-none nodes; is_set = tt; holds = holds }

module _ (old mid new made : List Node) (height : ℕ) (ids : List ℕ) (left right id : ℕ) (sets : All (IsSet old (suc height)) ids)
    (lefts : IsUnion old mid height (map (left_of old) ids) left) (rights : IsUnion mid new height (map (right_of old) ids) right) (joined : IsJoined new made left right id) where
  rights-set : All (IsSet old height) (map (right_of old) ids)
  rights-set = All-map (IsSet old height) (right_of old) ids (All-weaker (IsSet old (suc height)) (λ k. IsSet old height (right_of old k)) (λ k set. set.2) ids sets)

  left-kept : IsSet new height left
  left-kept = set-kept mid new height left rights.grows lefts.is_set

  pub union-halves : IsUnion old made (suc height) ids id
  union-halves = record {
    grows = grows-on old new made (grows-on old mid new lefts.grows rights.grows) joined.grows;
    is_set = joined-set new made height left right id joined (set-kept new made height left joined.grows left-kept) (set-kept new made height right joined.grows rights.is_set);
    holds = λ base n.
        (let is : members made (suc height) base id ≡ members mid height base left ++ members new height (base + span height) right =
        joined-members new made height left right id joined base
        ∙ ap (λ xs. xs ++ members made height (base + span height) right) (members-kept new made height base left joined.grows left-kept ∙ members-kept mid new height base left rights.grows lefts.is_set)
        ∙ ap (λ xs. members mid height base left ++ xs) (members-kept new made height (base + span height) right joined.grows rights.is_set) in
        let halves = some-halves old height base ids n in
        let low = lefts.holds base n in
        let high = rights.holds (base + span height) n in
        let same = some-kept old mid height (base + span height) (map (right_of old) ids) n lefts.grows rights-set in
        subst (λ (xs : List ℕ). Contains xs n ↔ InSome old (suc height) base ids n) (sym is) (
          λ has. halves.1 (elim (Contains-append_cases (members mid height base left) (members new height (base + span height) right) n has) [
            | inl l ↦ inl (low.0 l)
            | inr r ↦ inr (same.0 (high.0 r))
          ]),
          λ h. elim (halves.0 h) [
            | inl l ↦ Contains-append_left (members mid height base left) (members new height (base + span height) right) n (low.1 l)
            | inr r ↦ Contains-append_right (members mid height base left) (members new height (base + span height) right) n (high.1 (same.1 r))
          ],
        ));
  }

-- ---- ids, each once

pub once-sorted : (ids sorted kept : List ℕ) → IsPermutation ids sorted → AreOnce sorted kept → AreOnce ids kept
once-sorted ids sorted kept moved once = record {
  back = λ id has. Contains-permutation sorted ids id (IsPermutation-sym ids sorted moved) (once.back id has);
  there = λ id has. once.there id (Contains-permutation ids sorted id moved has);
}

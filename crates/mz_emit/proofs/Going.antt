-- One command more of a unify stream.
use Rattle.std.proofs.Common.{ℕ, zero, suc, ◌≡◌, ◌<◌, ◌≤◌, ◌+◌, ◌^◌, ◌⊎◌, ◌↔◌, Bool, true, false, List, [], ◌∷◌, ◌++◌, length, map, reverse, slice_get, Contains, Option, Some, None, bit_or, refl, ap, sym, ◌∙◌, subst, inl, inr, arith, append_assoc, append-nil}
use Rattle.std.specs.Prelude.{IsTrue}
use Rattle.std.specs.Int.{bit_at}
use Rattle.std.proofs.lemmas.List.{length-append, map-append, reverse-append}
use Rattle.std.proofs.lemmas.List.Elements.{Contains-append_left, Contains-append_cases, Contains-push}
use Rattle.std.proofs.lemmas.Option.{slice_get-get_or, none-some}
use Rattle.mz_cmd.specs.Spelling.{shortest}
use Rattle.mz_logic_theory.specs.Tree.{Tree, Trees, var, app, none, more, followed_by, size, trees_size}
use Rattle.mz_logic_theory.specs.Legality.{binder_at}
use Rattle.mz_logic_theory.specs.Signature.{Signature}
use Rattle.mz_logic_theory.specs.Sorts.{HasSort}
use Rattle.mz_logic_theory.specs.Variables.{InV, IsBoundAt}
use Rattle.mz_logic_theory.specs.declared.binder.Binder.{Binder}
use Rattle.mz_logic_theory.proofs.Offered.{extends_append, one_at, trees_size-followed}
use Rattle.mz_store.specs.Bits.{Tells, bound_vars}
use Rattle.mz_store.specs.Sharing.{AreIn, Sharing, IsIn, IsOver, DependsOn, head_of as head_term, operands_of, tree_of, trees_of}
use Rattle.mz_store.specs.declared.item.Id.{Id}
use Rattle.mz_emit_theory.specs.SymbolicState.{from_to}
use Rattle.mz_machine_theory.specs.Streams.{UnifyCommand, u_ref, u_dummy, u_hyp}
use Rattle.mz_emit_theory.specs.StreamWriting.{Writing, Written, are_met, head_of, headed, marked_if, meeting, place_in, referred, unify_bytes, write, write_all, write_hyps, and_then}
use Rattle.mz_emit_theory.specs.InReach.{InReach, AllInReach}
use Rattle.mz_emit_bodies.specs.Places.{place_of}
use Rattle.mz_emit_bodies.proofs.Offered.{in_push, is_var}
use Rattle.mz_emit.specs.declared.stream.Stream.{Stream}
use Rattle.mz_emit.specs.Going.{CanSpell, CanSpellAll, Going, HasWritten, IsGoing, IsMarked, IsReady, IsStatement, Job, behind, hyps_written, met_so_far, own, scope, spelled, to_do}
use Rattle.mz_emit.proofs.Marking.{mark_put, same_place}
use Rattle.mz_emit.proofs.Telling.{bits_tell, bound_later, one_bit, own_is, reach_occurs, tells_as, tells_or}

-- ---- what is to do

pub behind_push : (s : Sharing) (is : List Id) (i : Id) (es : Trees) → behind s (is ++ i ∷ []) es ≡ more (tree_of s i.0) (behind s is es)
behind_push s [] i es = refl
behind_push s (j ∷ is) i es = behind_push s is i (more (tree_of s j.0) es)

pub in_last : (s : Sharing) (is : List Id) (i : Id) → AreIn s (is ++ i ∷ []) → AreIn s is × IsIn s i.0
in_last s [] i (inside, _) = (tt, inside)
in_last s (j ∷ is) i (h, hs) = (let r = in_last s is i hs in ((h, r.0), r.1))

pub popped : (s : Sharing) (ids rest : List Id) (i : Id) → ids ≡ rest ++ i ∷ [] → to_do s ids ≡ more (tree_of s i.0) (to_do s rest)
popped s ids rest i is = ap (λ (js : List Id). behind s js none) is ∙ behind_push s rest i none

pub turned_to_do : (s : Sharing) (old ids : List Id) → to_do s (old ++ reverse ids) ≡ followed_by (trees_of s ids) (to_do s old)
turned_to_do s old [] = ap (λ (js : List Id). to_do s js) (append-nil old)
turned_to_do s old (i ∷ is) =
    popped s (old ++ reverse (i ∷ is)) (old ++ reverse is) i (ap (λ (js : List Id). old ++ js) (reverse-append (i ∷ []) is) ∙ sym (append_assoc old (reverse is) (i ∷ [])))
    ∙ ap (more (tree_of s i.0)) (turned_to_do s old is)

pub turned_in : (s : Sharing) (old ids : List Id) → AreIn s ids → AreIn s old → AreIn s (old ++ reverse ids)
turned_in s old [] h k = subst (AreIn s) (sym (append-nil old)) k
turned_in s old (i ∷ is) (inside, rest) k = subst (AreIn s) (append_assoc old (reverse is) (i ∷ []) ∙ ap (λ (js : List Id). old ++ js) (sym (reverse-append (i ∷ []) is)))
    (in_push s (old ++ reverse is) i (turned_in s old is rest k) inside)

pub size_some : (e : Tree) → 0 < size e
size_some (var x) = omega arith
size_some (app t es) = omega arith

pub size_head : (e : Tree) (t : ℕ) → head_term e ≡ Some t → size e ≡ suc (trees_size (operands_of e))
size_head (var x) t h = absurd (none-some _ h)
size_head (app u es) t h = refl

-- what is to do after operands were put there
pub turned : (s : Sharing) (old ids new : List Id) (es : Trees) → trees_of s ids ≡ es → new ≡ old ++ reverse ids → to_do s new ≡ followed_by es (to_do s old)
turned s old ids new es trees is = ap (to_do s) is ∙ turned_to_do s old ids ∙ ap (λ (fs : Trees). followed_by fs (to_do s old)) trees

pub less_after : (s : Sharing) (old ids new : List Id) (e : Tree) (t : ℕ) → head_term e ≡ Some t → trees_of s ids ≡ operands_of e → new ≡ old ++ reverse ids
    → trees_size (to_do s new) < size e + trees_size (to_do s old)
less_after s old ids new e t head trees is =
    let a = ap trees_size (turned s old ids new (operands_of e) trees is) ∙ trees_size-followed (operands_of e) (to_do s old) in
    let b = size_head e t head in
    omega (arith, a, b)

pub empty : (is : List Id) → length is ≡ 0 → is ≡ []
empty [] h = refl
empty (i ∷ is) h = absurd (omega (arith, h))

pub in_middle : (s : Sharing) (is js : List Id) (i : Id) → AreIn s ((is ++ i ∷ []) ++ js) → IsIn s i.0
in_middle s [] js i (inside, _) = inside
in_middle s (k ∷ is) js i (_, h) = in_middle s is js i h

pub reach_middle : (s : Sharing) (n : ℕ) (is js : List Id) (i : Id) → AllInReach n (trees_of s ((is ++ i ∷ []) ++ js)) → InReach n (tree_of s i.0)
reach_middle s n [] js i (reach, _) = reach
reach_middle s n (k ∷ is) js i (_, h) = reach_middle s n is js i h

pub reverse_more : (is : List Id) (i : Id) → reverse (i ∷ is) ≡ reverse is ++ i ∷ []
reverse_more is i = reverse-append (i ∷ []) is

-- the last of what is to do becomes the next
pub next_going : (o : Job) (s : Sharing) (t : Stream) (rest : List Id) (i : Id) (u : Stream) → t.todo.items ≡ rest ++ i ∷ [] → u.todo.items ≡ rest → u.heap ≡ t.heap → u.met ≡ t.met → u.out ≡ t.out
    → Going o s t [] → Going o s u (i ∷ [])
next_going o s t rest i u is rest-is heap-is met-is out-is g =
    let inside = in_last s rest i (subst (AreIn s) is g.1) in (
      (inside.1, tt),
      subst (AreIn s) (sym rest-is) inside.0,
      subst (λ h. IsGoing o s h.places.items h.len u.met u.out.items (more (tree_of s i.0) (to_do s u.todo.items))) (sym heap-is)
          (subst (λ (m : ℕ). IsGoing o s t.heap.places.items t.heap.len m u.out.items (more (tree_of s i.0) (to_do s u.todo.items))) (sym met-is)
          (subst (λ b. IsGoing o s t.heap.places.items t.heap.len t.met b.items (more (tree_of s i.0) (to_do s u.todo.items))) (sym out-is)
          (subst (IsGoing o s t.heap.places.items t.heap.len t.met t.out.items) (popped s t.todo.items rest i is ∙ ap (λ (js : List Id). more (tree_of s i.0) (to_do s js)) (sym rest-is)) g.2))),
    )

reach_join : (n : ℕ) (es fs : Trees) → AllInReach n es → AllInReach n fs → AllInReach n (followed_by es fs)
reach_join n none fs h k = k
reach_join n (more e es) fs (h, hs) k = (h, reach_join n es fs hs k)

-- ---- commands and their bytes

pub spelled_join : (us vs : List UnifyCommand) → spelled (us ++ vs) ≡ spelled us ++ spelled vs
spelled_join [] vs = refl
spelled_join (u ∷ us) vs = ap (λ (bs : List ℕ). unify_bytes u ++ bs) (spelled_join us vs) ∙ sym (append_assoc (unify_bytes u) (spelled us) (spelled vs))

-- what is written for lists one after the other
module _ (own' : List ℕ) (ctx : List Binder) where
  after_join : (w : Writing) (es fs : Trees) → (write_all own' ctx w (followed_by es fs)).after ≡ (write_all own' ctx (write_all own' ctx w es).after fs).after
  after_join w none fs = refl
  after_join w (more e es) fs = after_join (write own' ctx w e).after es fs

  commands_join : (w : Writing) (es fs : Trees)
      → (write_all own' ctx w (followed_by es fs)).commands ≡ (write_all own' ctx w es).commands ++ (write_all own' ctx (write_all own' ctx w es).after fs).commands
  commands_join w none fs = refl
  commands_join w (more e es) fs = ap (λ (us : List UnifyCommand). (write own' ctx w e).commands ++ us) (commands_join (write own' ctx w e).after es fs)
      ∙ sym (append_assoc (write own' ctx w e).commands (write_all own' ctx (write own' ctx w e).after es).commands (write_all own' ctx (write_all own' ctx (write own' ctx w e).after es).after fs).commands)

  write_ref : (w : Writing) (e : Tree) (p : ℕ) → place_in e w.trees ≡ Some p → write own' ctx w e ≡ record { commands = u_ref p ∷ []; after = w }
  write_ref w (var x) p is = ap (λ (o : Option ℕ). referred o w (record { commands = u_dummy (binder_at ctx x).sort ∷ []; after = meeting w x })) is
  write_ref w (app t es) p is = ap (λ (o : Option ℕ). referred o w
      (headed (head_of (are_met (own' ++ w.dummies) (app t es)) t) (write_all own' ctx (marked_if (are_met (own' ++ w.dummies) (app t es)) w (app t es)) es))) is

  write_dummy : (w : Writing) (x : ℕ) → place_in (var x) w.trees ≡ None → write own' ctx w (var x) ≡ record { commands = u_dummy (binder_at ctx x).sort ∷ []; after = meeting w x }
  write_dummy w x is = ap (λ (o : Option ℕ). referred o w (record { commands = u_dummy (binder_at ctx x).sort ∷ []; after = meeting w x })) is

  write_term : (w : Writing) (t : ℕ) (es : Trees) (b : Bool) → place_in (app t es) w.trees ≡ None → are_met (own' ++ w.dummies) (app t es) ≡ b
      → write own' ctx w (app t es) ≡ headed (head_of b t) (write_all own' ctx (marked_if b w (app t es)) es)
  write_term w t es b is met = ap (λ (o : Option ℕ). referred o w
      (headed (head_of (are_met (own' ++ w.dummies) (app t es)) t) (write_all own' ctx (marked_if (are_met (own' ++ w.dummies) (app t es)) w (app t es)) es))) is
      ∙ ap (λ (v : Bool). headed (head_of v t) (write_all own' ctx (marked_if v w (app t es)) es)) met

is_app : (e : Tree) (t : ℕ) → head_term e ≡ Some t → e ≡ app t (operands_of e)
is_app (var x) t h = absurd (none-some _ h)
is_app (app u es) t h = ap (λ (z : ℕ). app z es) (one_at refl h)

module _ (o : Job) (s : Sharing) (places : List (Option ℕ)) (len met : ℕ) (out : List ℕ) where
  -- the binder of a variable of the scope
  binder_there : (g : IsStatement o.params o.dummies s) (x : ℕ) → x < length (scope o) → slice_get s.context x ≡ Some (binder_at (scope o) x)
  binder_there g x lt = ap (λ (c : List Binder). slice_get c x) g.context
      ∙ extends_append (scope o) g.others x (binder_at (scope o) x) (slice_get-get_or (scope o) x (record { sort = 0; bound = false; deps = [] }) lt)

  -- a mark more fits
  pub mark_room : (e : Tree) (rest : Trees) → IsGoing o s places len met out (more e rest) → len + 1 < 2 ^ 32
  mark_room e rest g = (let r = g.room in let n = size_some e in let l = g.marked.long in omega (arith, r, n, l))

  -- ---- what has a place is a reference

  pub refer_done : (e : Tree) (rest : Trees) (p : ℕ) (out' : List ℕ) (g : IsGoing o s places len met out (more e rest)) → place_in e g.work.trees ≡ Some p → out' ≡ out ++ shortest 0x32 p
      → IsGoing o s places len met out' rest
  refer_done e rest p out' g at is =
      let a = write_ref (own o) (scope o) g.work e p at in
      record {
        statement = g.statement;
        work = g.work;
        marked = g.marked;
        inside = g.inside.1;
        room = (let r = g.room in omega (arith, r));
        whole = ap (λ (bs : List ℕ). bs ++ spelled (write_all (own o) (scope o) g.work rest).commands) is
            ∙ append_assoc out (shortest 0x32 p) (spelled (write_all (own o) (scope o) g.work rest).commands)
            ∙ ap (λ (r : Written). out ++ spelled (r.commands ++ (write_all (own o) (scope o) r.after rest).commands)) (sym a)
            ∙ g.whole;
        last = ap (λ (r : Written). (write_all (own o) (scope o) r.after rest).after) (sym a) ∙ g.last;
      }

  -- ---- a dummy

  pub dummy_done : (i sort word : ℕ) (rest : Trees) (places' : List (Option ℕ)) (len' : ℕ) (out' : List ℕ) → IsIn s i → head_term (tree_of s i) ≡ None → place_of places i ≡ None
      → ((sigs : List Signature) → IsOver sigs s → HasSort sigs s.context (tree_of s i) sort)
      → ((sigs : List Signature) → IsOver sigs s → Tells (bound_vars s.context) word (DependsOn s.mode sigs s.context (tree_of s i)))
      → place_of places' i ≡ Some len → ((j : ℕ) → (j ≡ i → ⊥) → place_of places' j ≡ place_of places j) → len' ≡ len + 1 → out' ≡ out ++ shortest 0x33 sort
      → IsGoing o s places len met out (more (tree_of s i) rest) → IsGoing o s places' len' (bit_or met word) out' rest
  dummy_done i sort word rest places' len' out' inside head fresh sorted tells at others more-len is g =
      let st = g.statement in
      let v = is_var (tree_of s i) head in
      let x : ℕ = v.0 in
      let lt : x < length (scope o) = subst (InReach (length (scope o))) v.1 g.inside.0 in
      let here = binder_there st x lt in
      let not_first : x < length o.params → ⊥ = λ below. (let (p, p-at) = g.marked.parameters x below in
      let (j, holds, j-at) = g.marked.found p (var x) p-at in
      none-some _ (sym fresh ∙ ap (place_of places) (st.once i j inside holds.0 (v.1 ∙ sym holds.1)) ∙ j-at)) in
      let bd : IsBoundAt s.context x = bound_later (length o.params) s.context st.regular (own o) (λ y less. own_is o.params y less) x (binder_at (scope o) x) here (past x (length o.params) not_first) in
      let sort-is : (binder_at (scope o) x).sort ≡ sort = (let h = subst (λ (e : Tree). HasSort st.sigs s.context e sort) v.1 (sorted st.sigs st.over) in
      ap (λ (b : Binder). b.sort) (one_at here h.1) ∙ h.2) in
      let in-v : Tells (bound_vars s.context) word (λ y. InV s.context y (var x)) =
      subst (λ (e : Tree). Tells (bound_vars s.context) word (λ y. InV s.context y e)) v.1
      (subst (λ m. Tells (bound_vars s.context) word (DependsOn m st.sigs s.context (tree_of s i))) st.all (tells st.sigs st.over)) in
      let a = write_dummy (own o) (scope o) g.work x (sym (same_place o.params o.dummies s st places len met g.work g.marked i inside ∙ ap (λ (e : Tree). place_in e g.work.trees) v.1) ∙ fresh) in
      let w' : Writing = meeting g.work x in
      record {
        statement = st;
        work = w';
        marked = subst (λ (e : Tree). IsMarked o.params s places' len' (bit_or met word) (record { trees = g.work.trees ++ e ∷ []; dummies = g.work.dummies ++ x ∷ [] })) v.1
            (mark_put o.params o.dummies s st places len met g.work g.marked i inside fresh places' len' at others more-len (g.work.dummies ++ x ∷ []) (bit_or met word)
            (tells_as (bound_vars s.context) (bit_or met word) (λ y. Contains (own o ++ g.work.dummies) y ⊎ (y ≡ x)) (Contains (own o ++ (g.work.dummies ++ x ∷ [])))
            (λ k y y-at h. more_met (own o) g.work.dummies x y h) (λ k y y-at h. less_met (own o) g.work.dummies x y h)
            (tells_or (bound_vars s.context) met word (Contains (own o ++ g.work.dummies)) (λ y. y ≡ x) g.marked.told (one_bit s.context (bound_vars s.context) x word bd in-v))));
        inside = g.inside.1;
        room = (let r = g.room in let l = length-append g.work.trees (var x ∷ []) in let n = size_some (tree_of s i) in omega (arith, r, l, n));
        whole = ap (λ (bs : List ℕ). bs ++ spelled (write_all (own o) (scope o) w' rest).commands) (is ∙ ap (λ (n : ℕ). out ++ shortest 0x33 n) (sym sort-is))
            ∙ append_assoc out (shortest 0x33 (binder_at (scope o) x).sort) (spelled (write_all (own o) (scope o) w' rest).commands)
            ∙ ap (λ (r : Written). out ++ spelled (r.commands ++ (write_all (own o) (scope o) r.after rest).commands)) (sym a)
            ∙ ap (λ (e : Tree). out ++ spelled (write_all (own o) (scope o) g.work (more e rest)).commands) (sym v.1)
            ∙ g.whole;
        last = ap (λ (r : Written). (write_all (own o) (scope o) r.after rest).after) (sym a) ∙ ap (λ (e : Tree). (write_all (own o) (scope o) g.work (more e rest)).after) (sym v.1) ∙ g.last;
      }
    where
      past : (a b : ℕ) → (a < b → ⊥) → b ≤ a
      past a zero out = omega arith
      past zero (suc b) out = absurd (out (omega arith))
      past (suc a) (suc b) out = (let r = past a b (λ lt. out (omega (arith, lt))) in omega (arith, r))

      more_met : (xs ds : List ℕ) (x y : ℕ) → Contains (xs ++ ds) y ⊎ (y ≡ x) → Contains (xs ++ (ds ++ x ∷ [])) y
      more_met xs ds x y (inl h) = subst (λ (ys : List ℕ). Contains ys y) (append_assoc xs ds (x ∷ [])) (Contains-append_left (xs ++ ds) (x ∷ []) y h)
      more_met xs ds x y (inr is) = subst (λ (ys : List ℕ). Contains ys y) (append_assoc xs ds (x ∷ [])) (subst (Contains ((xs ++ ds) ++ x ∷ [])) (sym is) (Contains-push (xs ++ ds) x))

      less_met : (xs ds : List ℕ) (x y : ℕ) → Contains (xs ++ (ds ++ x ∷ [])) y → Contains (xs ++ ds) y ⊎ (y ≡ x)
      less_met xs ds x y h = elim (Contains-append_cases (xs ++ ds) (x ∷ []) y (subst (λ (ys : List ℕ). Contains ys y) (sym (append_assoc xs ds (x ∷ []))) h)) [
        | inl before ↦ inl before
        | inr last ↦ inr (only last)
      ]
        where
          only : Contains (x ∷ []) y → y ≡ x
          only (zero, lt, is) = sym is
          only (suc k, lt, is) = absurd (omega (arith, lt))

  -- ---- a term

  -- whether all dummies of an expression are met
  pub met_tells : (i word : ℕ) (rest : Trees) (r : Bool) (g : IsGoing o s places len met out (more (tree_of s i) rest))
      → ((sigs : List Signature) → IsOver sigs s → Tells (bound_vars s.context) word (DependsOn s.mode sigs s.context (tree_of s i)))
      → IsTrue r ↔ ((k : ℕ) → bit_at word k ≡ 1 → bit_at met k ≡ 1) → r ≡ are_met (met_so_far o g.work) (tree_of s i)
  met_tells i word rest r g tells is =
      let st = g.statement in
      bits_tell (length o.params) s.context st.regular (met_so_far o g.work) (λ y lt. Contains-append_left (own o) g.work.dummies y (own_is o.params y lt)) (tree_of s i)
      (λ y occ. (binder_at (scope o) y, binder_there st y (reach_occurs (length (scope o)) (tree_of s i) g.inside.0 y occ)))
      word met
      (subst (λ m. Tells (bound_vars s.context) word (DependsOn m st.sigs s.context (tree_of s i))) st.all (tells st.sigs st.over)) g.marked.told r is

  -- its head, and its operands before what is to do
  module _ (w : Writing) (t : ℕ) (es rest : Trees) (b : Bool) (fresh : place_in (app t es) w.trees ≡ None) (met-is : are_met (own o ++ w.dummies) (app t es) ≡ b) where
    abbrev rest_of : Trees → Written
    rest_of fs = write_all (own o) (scope o) (marked_if b w (app t es)) fs

    term_whole : (out' : List ℕ) → out' ≡ out ++ unify_bytes (head_of b t) → out' ++ spelled (rest_of (followed_by es rest)).commands ≡ out ++ spelled (write_all (own o) (scope o) w (more (app t es) rest)).commands
    term_whole out' is =
        ap (λ (bs : List ℕ). bs ++ spelled (rest_of (followed_by es rest)).commands) is
        ∙ append_assoc out (unify_bytes (head_of b t)) (spelled (rest_of (followed_by es rest)).commands)
        ∙ ap (λ (us : List UnifyCommand). out ++ (unify_bytes (head_of b t) ++ spelled us)) (commands_join (own o) (scope o) (marked_if b w (app t es)) es rest)
        ∙ ap (λ (r : Written). out ++ spelled (r.commands ++ (write_all (own o) (scope o) r.after rest).commands)) (sym (write_term (own o) (scope o) w t es b fresh met-is))

    term_last : (rest_of (followed_by es rest)).after ≡ (write_all (own o) (scope o) w (more (app t es) rest)).after
    term_last = after_join (own o) (scope o) (marked_if b w (app t es)) es rest
        ∙ ap (λ (r : Written). (write_all (own o) (scope o) r.after rest).after) (sym (write_term (own o) (scope o) w t es b fresh met-is))

  -- the tree of an id that has no place isn't marked
  fresh_tree : (i : ℕ) (e : Tree) (st : IsStatement o.params o.dummies s) (w : Writing) → IsMarked o.params s places len met w → IsIn s i → place_of places i ≡ None → tree_of s i ≡ e → place_in e w.trees ≡ None
  fresh_tree i e st w m inside fresh is = sym (same_place o.params o.dummies s st places len met w m i inside ∙ ap (λ (f : Tree). place_in f w.trees) is) ∙ fresh

  pub build_done : (i t : ℕ) (rest todo' : Trees) (out' : List ℕ) (g : IsGoing o s places len met out (more (tree_of s i) rest)) → IsIn s i → head_term (tree_of s i) ≡ Some t → place_of places i ≡ None
      → are_met (met_so_far o g.work) (tree_of s i) ≡ false → out' ≡ out ++ shortest 0x30 t → todo' ≡ followed_by (operands_of (tree_of s i)) rest → IsGoing o s places len met out' todo'
  build_done i t rest todo' out' g inside head fresh unmet is todo-is =
      let es : Trees = operands_of (tree_of s i) in
      let e-is = is_app (tree_of s i) t head in
      let fresh' = fresh_tree i (app t es) g.statement g.work g.marked inside fresh e-is in
      let unmet' = ap (are_met (met_so_far o g.work)) (sym e-is) ∙ unmet in
      record {
        statement = g.statement;
        work = g.work;
        marked = g.marked;
        inside = subst (AllInReach (length (scope o))) (sym todo-is) (reach_join (length (scope o)) es rest (subst (InReach (length (scope o))) e-is g.inside.0) g.inside.1);
        room = (let r = g.room in let n = size_head (tree_of s i) t head in let m = ap trees_size todo-is ∙ trees_size-followed es rest in omega (arith, r, n, m));
        whole = ap (λ (fs : Trees). out' ++ spelled (write_all (own o) (scope o) g.work fs).commands) todo-is ∙ term_whole g.work t es rest false fresh' unmet' out' is
            ∙ ap (λ (e : Tree). out ++ spelled (write_all (own o) (scope o) g.work (more e rest)).commands) (sym e-is) ∙ g.whole;
        last = ap (λ (fs : Trees). (write_all (own o) (scope o) g.work fs).after) todo-is ∙ term_last g.work t es rest false fresh' unmet'
            ∙ ap (λ (e : Tree). (write_all (own o) (scope o) g.work (more e rest)).after) (sym e-is) ∙ g.last;
      }

  pub save_done : (i t : ℕ) (rest todo' : Trees) (places' : List (Option ℕ)) (len' : ℕ) (out' : List ℕ) (g : IsGoing o s places len met out (more (tree_of s i) rest)) → IsIn s i
      → head_term (tree_of s i) ≡ Some t → place_of places i ≡ None → are_met (met_so_far o g.work) (tree_of s i) ≡ true
      → place_of places' i ≡ Some len → ((j : ℕ) → (j ≡ i → ⊥) → place_of places' j ≡ place_of places j) → len' ≡ len + 1
      → out' ≡ out ++ shortest 0x31 t → todo' ≡ followed_by (operands_of (tree_of s i)) rest → IsGoing o s places' len' met out' todo'
  save_done i t rest todo' places' len' out' g inside head fresh all-met at others more-len is todo-is =
      let es : Trees = operands_of (tree_of s i) in
      let e-is = is_app (tree_of s i) t head in
      let fresh' = fresh_tree i (app t es) g.statement g.work g.marked inside fresh e-is in
      let met' = ap (are_met (met_so_far o g.work)) (sym e-is) ∙ all-met in
      let w' : Writing = record { trees = g.work.trees ++ app t es ∷ []; dummies = g.work.dummies } in
      record {
        statement = g.statement;
        work = w';
        marked = subst (λ (e : Tree). IsMarked o.params s places' len' met (record { trees = g.work.trees ++ e ∷ []; dummies = g.work.dummies })) e-is
            (mark_put o.params o.dummies s g.statement places len met g.work g.marked i inside fresh places' len' at others more-len g.work.dummies met g.marked.told);
        inside = subst (AllInReach (length (scope o))) (sym todo-is) (reach_join (length (scope o)) es rest (subst (InReach (length (scope o))) e-is g.inside.0) g.inside.1);
        room = (let r = g.room in let l = length-append g.work.trees (app t es ∷ []) in let n = size_head (tree_of s i) t head in let m = ap trees_size todo-is ∙ trees_size-followed es rest in omega (arith, r, l, n, m));
        whole = ap (λ (fs : Trees). out' ++ spelled (write_all (own o) (scope o) w' fs).commands) todo-is ∙ term_whole g.work t es rest true fresh' met' out' is
            ∙ ap (λ (e : Tree). out ++ spelled (write_all (own o) (scope o) g.work (more e rest)).commands) (sym e-is) ∙ g.whole;
        last = ap (λ (fs : Trees). (write_all (own o) (scope o) w' fs).after) todo-is ∙ term_last g.work t es rest true fresh' met'
            ∙ ap (λ (e : Tree). (write_all (own o) (scope o) g.work (more e rest)).after) (sym e-is) ∙ g.last;
      }

-- ---- a whole expression

abbrev pub job_of : List Binder → List Binder → Writing → List ℕ → Tree → Job
job_of ps ds w out e = record {
  params = ps;
  dummies = ds;
  whole = out ++ spelled (write_all (from_to 0 ps) (ps ++ ds) w (more e none)).commands;
  last = (write_all (from_to 0 ps) (ps ++ ds) w (more e none)).after;
}

module _ (ps ds : List Binder) (s : Sharing) (t : Stream) (w : Writing) (i : Id) where
  pub start_going : IsReady ps ds s t w → IsIn s i.0 → CanSpell ps ds w (tree_of s i.0) → Going (job_of ps ds w t.out.items (tree_of s i.0)) s t (i ∷ [])
  start_going ready inside can = (
    (inside, tt),
    subst (AreIn s) (sym ready.idle) tt,
    subst (λ (is : List Id). IsGoing (job_of ps ds w t.out.items (tree_of s i.0)) s t.heap.places.items t.heap.len t.met t.out.items (more (tree_of s i.0) (to_do s is))) (sym ready.idle)
        (record { statement = ready.statement; work = w; marked = ready.marked; inside = (can.0, tt); room = (let r = can.1 in omega (arith, r)); whole = refl; last = refl }),
  )

  pub end_going : (t' : Stream) → Going (job_of ps ds w t.out.items (tree_of s i.0)) s t' [] → t'.todo.items ≡ [] → HasWritten ps ds s t t' (write (from_to 0 ps) (ps ++ ds) w (tree_of s i.0))
  end_going t' going idle =
      let g = subst (λ (is : List Id). IsGoing (job_of ps ds w t.out.items (tree_of s i.0)) s t'.heap.places.items t'.heap.len t'.met t'.out.items (to_do s is)) idle going.2 in (
        record { statement = g.statement; marked = subst (IsMarked ps s t'.heap.places.items t'.heap.len t'.met) g.last g.marked; idle = idle },
        sym (append-nil t'.out.items) ∙ g.whole ∙ ap (λ (us : List UnifyCommand). t.out.items ++ spelled us) (append-nil (write (from_to 0 ps) (ps ++ ds) w (tree_of s i.0)).commands),
      )

-- ---- how many marks there are after it: at most one more for each node

module _ (own' : List ℕ) (ctx : List Binder) where
  marks_referred : (o : Option ℕ) (w : Writing) (out : Written) (n : ℕ) → length w.trees ≤ n → length out.after.trees ≤ n → length (referred o w out).after.trees ≤ n
  marks_referred (Some p) w out n here new = here
  marks_referred None w out n here new = new

  marks_if : (b : Bool) (w : Writing) (e : Tree) → length (marked_if b w e).trees ≤ length w.trees + 1
  marks_if true w e = (let l = length-append w.trees (e ∷ []) in omega (arith, l))
  marks_if false w e = omega arith

  mutual
    pub marks_after : (w : Writing) (e : Tree) → length (write own' ctx w e).after.trees ≤ length w.trees + size e
    marks_after w (var x) = marks_referred (place_in (var x) w.trees) w (record { commands = u_dummy (binder_at ctx x).sort ∷ []; after = meeting w x }) (length w.trees + 1) (omega arith)
        (let l = length-append w.trees (var x ∷ []) in omega (arith, l))
    marks_after w (app t es) =
        let b : Bool = are_met (own' ++ w.dummies) (app t es) in
        let l = marks_if b w (app t es) in
        let r = marks_all (marked_if b w (app t es)) es in
        marks_referred (place_in (app t es) w.trees) w (headed (head_of b t) (write_all own' ctx (marked_if b w (app t es)) es)) (length w.trees + size (app t es)) (omega arith) (omega (arith, l, r))

    marks_all : (w : Writing) (es : Trees) → length (write_all own' ctx w es).after.trees ≤ length w.trees + trees_size es
    marks_all w none = omega arith
    marks_all w (more e es) = (let a = marks_after w e in let r = marks_all (write own' ctx w e).after es in omega (arith, a, r))

-- ---- hypotheses

module _ (ps ds : List Binder) (s : Sharing) where
  hyps_join : (w : Writing) (hs : List Tree) (h : Tree) → write_hyps (from_to 0 ps) (ps ++ ds) w (hs ++ h ∷ []) ≡ and_then (write_hyps (from_to 0 ps) (ps ++ ds) w hs) (λ v. headed u_hyp (write (from_to 0 ps) (ps ++ ds) v h))
  hyps_join w [] h = ap (λ (us : List UnifyCommand). headed u_hyp (record { commands = us; after = (write (from_to 0 ps) (ps ++ ds) w h).after })) (append-nil (write (from_to 0 ps) (ps ++ ds) w h).commands)
  hyps_join w (k ∷ hs) h =
      let a = write (from_to 0 ps) (ps ++ ds) w k in
      let rest = write_hyps (from_to 0 ps) (ps ++ ds) a.after hs in
      let last = headed u_hyp (write (from_to 0 ps) (ps ++ ds) rest.after h) in
      ap (λ (r : Written). headed u_hyp (and_then a (λ v. r))) (hyps_join a.after hs h)
      ∙ ap (λ (us : List UnifyCommand). headed u_hyp (record { commands = us; after = last.after })) (sym (append_assoc a.commands rest.commands last.commands))

  hyps_last : (w : Writing) (is : List Id) (i : Id) → hyps_written ps ds s w (is ++ i ∷ []) ≡ and_then (hyps_written ps ds s w is) (λ v. headed u_hyp (write (from_to 0 ps) (ps ++ ds) v (tree_of s i.0)))
  hyps_last w is i = ap (write_hyps (from_to 0 ps) (ps ++ ds) w) (map-append (λ (j : Id). tree_of s j.0) is (i ∷ [])) ∙ hyps_join w (map (λ (j : Id). tree_of s j.0) is) (tree_of s i.0)

  hyps_marks : (w : Writing) (done : List Id) → length (hyps_written ps ds s w (reverse done)).after.trees ≤ length w.trees + trees_size (trees_of s done)
  hyps_marks w [] = omega arith
  hyps_marks w (i ∷ done) =
      let same = ap (λ (r : Written). length r.after.trees) (ap (hyps_written ps ds s w) (reverse_more done i) ∙ hyps_last w (reverse done) i) in
      let before = hyps_marks w done in
      let after = marks_after (from_to 0 ps) (ps ++ ds) (hyps_written ps ds s w (reverse done)).after (tree_of s i.0) in
      omega (arith, same, before, after)

  size_middle : (is js : List Id) (i : Id) → size (tree_of s i.0) + trees_size (trees_of s js) ≤ trees_size (trees_of s ((is ++ i ∷ []) ++ js))
  size_middle [] js i = omega arith
  size_middle (k ∷ is) js i = (let r = size_middle is js i in omega (arith, r))

  -- the next of them, before those that are done
  pub next_can : (w : Writing) (left done : List Id) (i : Id) → CanSpellAll ps ds w (trees_of s ((left ++ i ∷ []) ++ done)) → CanSpell ps ds (hyps_written ps ds s w (reverse done)).after (tree_of s i.0)
  next_can w left done i can = (
    reach_middle s (length (ps ++ ds)) left done i can.0,
    (let r = can.1 in let m = hyps_marks w done in let n = size_middle left done i in omega (arith, r, m, n)),
  )

  pub still_ready : (mid u : Stream) (v : Writing) → u.heap ≡ mid.heap → u.met ≡ mid.met → u.todo ≡ mid.todo → IsReady ps ds s mid v → IsReady ps ds s u v
  still_ready mid u v heap met todo r = record {
    statement = r.statement;
    marked = subst (λ h. IsMarked ps s h.places.items h.len u.met v) (sym heap) (subst (λ (m : ℕ). IsMarked ps s mid.heap.places.items mid.heap.len m v) (sym met) r.marked);
    idle = ap (λ ids. ids.items) todo ∙ r.idle;
  }

  pub hyp_done : (t mid t' : Stream) (w : Writing) (is : List Id) (i : Id) → HasWritten ps ds s t mid (hyps_written ps ds s w is)
      → (u : Stream) → u.heap ≡ mid.heap → u.met ≡ mid.met → u.todo ≡ mid.todo → u.out.items ≡ mid.out.items ++ shortest 0x36 0
      → (IsReady ps ds s u (hyps_written ps ds s w is).after → HasWritten ps ds s u t' (write (from_to 0 ps) (ps ++ ds) (hyps_written ps ds s w is).after (tree_of s i.0)))
      → HasWritten ps ds s t t' (hyps_written ps ds s w (is ++ i ∷ []))
  hyp_done t mid t' w is i before u heap met todo out does =
      let a = hyps_written ps ds s w is in
      let ready = still_ready mid u a.after heap met todo before.0 in
      let after = does ready in
      let e = write (from_to 0 ps) (ps ++ ds) a.after (tree_of s i.0) in
      subst (HasWritten ps ds s t t') (sym (hyps_last w is i)) (
        after.0,
        after.1 ∙ ap (λ (bs : List ℕ). bs ++ spelled e.commands) (out ∙ ap (λ (bs : List ℕ). bs ++ shortest 0x36 0) before.1)
            ∙ ap (λ (bs : List ℕ). bs ++ spelled e.commands) (append_assoc t.out.items (spelled a.commands) (shortest 0x36 0))
            ∙ append_assoc t.out.items (spelled a.commands ++ shortest 0x36 0) (spelled e.commands)
            ∙ ap (λ (bs : List ℕ). t.out.items ++ bs) (append_assoc (spelled a.commands) (shortest 0x36 0) (spelled e.commands) ∙ sym (spelled_join a.commands (u_hyp ∷ e.commands))),
      )

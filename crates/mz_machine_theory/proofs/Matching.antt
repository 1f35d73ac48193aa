-- A stream that spells a pattern matches only the pattern's instances.
use Rattle.std.proofs.Common.{◌≡◌, ℕ, zero, suc, ◌+◌, ◌≤◌, ◌<◌, true, false, List, [], ◌∷◌, ◌++◌, length, drop, map, Option, Some, None, Result, Ok, Err, refl, sym, ap, subst, ◌∙◌, inl, inr, arith, append_assoc}
use Rattle.std.specs.Prelude.{slice_get, ◌==◌, ◌&&◌, not}
use Rattle.std.proofs.lemmas.Bool.{eqb-true}
use Rattle.std.proofs.lemmas.Option.{get_or_from_slice_get}
use Rattle.std.proofs.lemmas.List.{length-append, length-map, map-append, append-nil}
use Rattle.mz_base.proofs.Offered.{both-true, not-true}
use Rattle.mz_cmd.specs.declared.rule.K.{K}
use Rattle.mz_cmd.specs.declared.rule.K.TheVariants as k
use Rattle.mz_logic_theory.specs.Tree.{Tree, Trees, var, app, none, more, listed, operand, size, trees_size, instance, instances}
use Rattle.mz_logic_theory.specs.Signature.{Signature}
use Rattle.mz_logic_theory.specs.Legality.{sort_of}
use Rattle.mz_logic_theory.specs.Conversions.{IsBoundOf}
use Rattle.mz_logic_theory.specs.declared.binder.Binder.{Binder}
use Rattle.mz_machine_theory.specs.Steps.{◌>>=◌, need, at_place, over, goes_on, follow}
use Rattle.mz_machine_theory.specs.Streams.{UnifyCommand, u_term, u_term_save, u_ref, u_dummy, u_hyp, u_end, IsEnd, StreamIs}
use Rattle.mz_machine_theory.specs.Spells.{trees_of, dummy_of, Marks, marked, with_dummy, HasOperands, Spells, SpellsAll}
use Rattle.mz_machine_theory.specs.Profile.{strict, tree_parts}
use Rattle.mz_machine_theory.specs.Sorted.{Sorted, AllSorted}
use Rattle.mz_machine_theory.specs.Tests.{same_tree, is_bound_at, is_bound_var}
use Rattle.mz_machine_theory.specs.UnifyMachine.{UnifyMode, kind_of, UnifyState, top_target, is_empty, operands_of, next_hypothesis, nothing_left, within_any, is_fresh, unify_step, unify_turn_by, unify_from}
use Rattle.mz_machine_theory.proofs.Inverting.{from_bind, from_then, from_need, from_want, taken, taken-is, some_is}
use Rattle.mz_machine_theory.proofs.Trees.{apart-is, same_tree-true, operands-sorted}

-- ---- a run over commands that are read

abbrev pub run : List Signature → List Binder → UnifyMode → List UnifyCommand → UnifyState Tree → Result (UnifyState Tree) K
run sigs ctx mode [] st = unify_step strict sigs ctx mode u_end st
run sigs ctx mode (u ∷ us) st = unify_step strict sigs ctx mode u st >>= run sigs ctx mode us

pub turn-goes : (sigs : List Signature) (ctx : List Binder) (mode : UnifyMode) (len : ℕ) (st : UnifyState Tree) (u : UnifyCommand) → (IsEnd u → ⊥)
    → unify_turn_by strict sigs ctx mode len st (Some u) ≡ (unify_step strict sigs ctx mode u st >>= λ s. Ok (goes_on len s))
turn-goes sigs ctx mode len st u_end no-end = absurd (no-end tt)
turn-goes sigs ctx mode len st u no-end = refl

same-ok : {A : Type 0} (x y : A) (r : Result A (ℕ × K)) → r ≡ Ok x → r ≡ Ok y → x ≡ y
same-ok x y r p q = cc

-- what is run from bytes is run over their commands
pub run-from : (sigs : List Signature) (ctx : List Binder) (mode : UnifyMode) (n at : ℕ) (bytes : List ℕ) (us : List UnifyCommand) (st u : UnifyState Tree)
    → StreamIs (kind_of mode) bytes us → unify_from strict sigs ctx mode n at bytes st ≡ Ok u → run sigs ctx mode us st ≡ Ok u
unfolding unify_from
run-from sigs ctx mode zero at bytes us st u stream e = absurd cc
run-from sigs ctx mode (suc n) at bytes [] st u (c, read, is) e = go (unify_step strict sigs ctx mode u_end st) (rw (read, is) at e)
  where
    go : (r : Result (UnifyState Tree) K) → follow (at_place at (r >>= λ s. Ok (over s))) (λ len s. unify_from strict sigs ctx mode n (at + len) (drop len bytes) s) ≡ Ok u → r ≡ Ok u
    go (Ok s) h = ap taken (same-ok s u (Ok s) refl h)
    go (Err f) h = absurd cc
run-from sigs ctx mode (suc n) at bytes (v ∷ us) st u (c, read, is, no-end, stream) e =
    go (unify_step strict sigs ctx mode v st) (rw (read, is, turn-goes sigs ctx mode c.len st v no-end) at e) (λ s h. run-from sigs ctx mode n (at + c.len) (drop c.len bytes) us s u stream h)
  where
    go : (r : Result (UnifyState Tree) K) → follow (at_place at (r >>= λ s. Ok (goes_on c.len s))) (λ len s. unify_from strict sigs ctx mode n (at + len) (drop len bytes) s) ≡ Ok u
        → ((s : UnifyState Tree) → unify_from strict sigs ctx mode n (at + c.len) (drop c.len bytes) s ≡ Ok u → run sigs ctx mode us s ≡ Ok u) → (r >>= run sigs ctx mode us) ≡ Ok u
    go (Ok s) h later = later s h
    go (Err f) h later = absurd cc

-- ---- marks and the heap

-- the marks of at most this size have their instances in the heap
unfoldable pub Agrees : Trees → List Tree → List Tree → ℕ → Type 0
Agrees f marks heap n = (i : ℕ) (p : Tree) → slice_get marks i ≡ Some p → size p ≤ n → slice_get heap i ≡ Some (instance f p)

agrees-below : (f : Trees) (marks heap : List Tree) (m n : ℕ) → m ≤ n → Agrees f marks heap n → Agrees f marks heap m
unfolding Agrees
agrees-below f marks heap m n le a i p at small = a i p at (omega arith)

-- instances added to both
pub agrees-append : (f : Trees) (marks heap new : List Tree) (n : ℕ) → length marks ≡ length heap → Agrees f marks heap n → Agrees f (marks ++ new) (heap ++ map (instance f) new) n
unfolding Agrees
agrees-append f [] [] [] n len a i p at small = absurd cc
agrees-append f [] [] (q ∷ new) n len a zero p at small = let is : q ≡ p = cc in rw is refl
agrees-append f [] [] (q ∷ new) n len a (suc i) p at small = agrees-append f [] [] new n refl (λ j r h _. absurd cc) i p at small
agrees-append f [] (t ∷ heap) new n len a i p at small = absurd (omega arith)
agrees-append f (q ∷ marks) [] new n len a i p at small = absurd (omega arith)
agrees-append f (q ∷ marks) (t ∷ heap) new n len a zero p at small = a zero p at small
agrees-append f (q ∷ marks) (t ∷ heap) new n len a (suc i) p at small = agrees-append f marks heap new n (omega arith) (λ j r. a (suc j) r) i p at small

-- one more mark that is too large to matter
pub agrees-pending : (f : Trees) (marks heap : List Tree) (q t : Tree) (n : ℕ) → length marks ≡ length heap → n < size q → Agrees f marks heap n → Agrees f (marks ++ q ∷ []) (heap ++ t ∷ []) n
unfolding Agrees
agrees-pending f [] [] q t n len large a zero p at small = let is : q ≡ p = cc in absurd (omega (arith, ap size is))
agrees-pending f [] [] q t n len large a (suc i) p at small = absurd cc
agrees-pending f [] (u ∷ heap) q t n len large a i p at small = absurd (omega arith)
agrees-pending f (r ∷ marks) [] q t n len large a i p at small = absurd (omega arith)
agrees-pending f (r ∷ marks) (u ∷ heap) q t n len large a zero p at small = a zero p at small
agrees-pending f (r ∷ marks) (u ∷ heap) q t n len large a (suc i) p at small = agrees-pending f marks heap q t n (omega arith) large (λ j s. a (suc j) s) i p at small

-- ---- the dummies of a run

-- the ys are distinct bound variables of the dummies' sorts, none in V of the expressions before it
abbrev pub FreshList : List Signature → List Binder → List Tree → List ℕ → List Binder → Type 0
FreshList sigs ctx apart [] [] = Unit {0}
FreshList sigs ctx apart [] (b ∷ bs) = ⊥
FreshList sigs ctx apart (y ∷ ys) [] = ⊥
FreshList sigs ctx apart (y ∷ ys) (b ∷ bs) =
    IsBoundOf ctx y b.sort × (b ≡ dummy_of b.sort) × (within_any strict ctx (var y) apart ≡ false) × FreshList sigs ctx (apart ++ var y ∷ []) ys bs

fresh-join : (sigs : List Signature) (ctx : List Binder) (apart : List Tree) (ys : List ℕ) (ss : List Binder) (zs : List ℕ) (ts : List Binder)
    → FreshList sigs ctx apart ys ss → FreshList sigs ctx (apart ++ map var ys) zs ts → FreshList sigs ctx apart (ys ++ zs) (ss ++ ts)
fresh-join sigs ctx apart [] [] zs ts h k = subst (λ (z : List Tree). FreshList sigs ctx z zs ts) (append-nil apart) k
fresh-join sigs ctx apart [] (s ∷ ss) zs ts h k = absurd h
fresh-join sigs ctx apart (y ∷ ys) [] zs ts h k = absurd h
fresh-join sigs ctx apart (y ∷ ys) (s ∷ ss) zs ts (b, is, out, h) k =
    (b, is, out, fresh-join sigs ctx (apart ++ var y ∷ []) ys ss zs ts h (subst (λ (z : List Tree). FreshList sigs ctx z zs ts) (sym (append_assoc apart (var y ∷ []) (map var ys))) k))

-- the dummies that were met between two states
pub record Met (sigs : List Signature) (ctx : List Binder) (from to : List Tree) (before after : List Binder) : Type 0 where
  pub ys : List ℕ
  pub binders : List Binder
  pub apart : to ≡ from ++ map var ys
  pub dummies : after ≡ before ++ binders
  pub fresh : FreshList sigs ctx from ys binders

pub met-none : (sigs : List Signature) (ctx : List Binder) (from : List Tree) (before : List Binder) → Met sigs ctx from from before before
met-none sigs ctx from before = record { ys = []; binders = []; apart = sym (append-nil from); dummies = sym (append-nil before); fresh = tt }

pub met-both : (sigs : List Signature) (ctx : List Binder) (a b c : List Tree) (m n o : List Binder) → Met sigs ctx a b m n → Met sigs ctx b c n o → Met sigs ctx a c m o
met-both sigs ctx a b c m n o p q = record {
  ys = p.ys ++ q.ys;
  binders = p.binders ++ q.binders;
  apart = q.apart ∙ ap (λ (z : List Tree). z ++ map var q.ys) p.apart ∙ append_assoc a (map var p.ys) (map var q.ys) ∙ ap (λ (z : List Tree). a ++ z) (sym (map-append var p.ys q.ys));
  dummies = q.dummies ∙ ap (λ (z : List Binder). z ++ q.binders) p.dummies ∙ append_assoc m p.binders q.binders;
  fresh = fresh-join sigs ctx a p.ys p.binders q.ys q.binders p.fresh (subst (λ (z : List Tree). FreshList sigs ctx z q.ys q.binders) p.apart q.fresh);
}

fresh-lengths : (sigs : List Signature) (ctx : List Binder) (apart : List Tree) (ys : List ℕ) (ss : List Binder) → FreshList sigs ctx apart ys ss → length ys ≡ length ss
fresh-lengths sigs ctx apart [] [] h = refl
fresh-lengths sigs ctx apart [] (s ∷ ss) h = absurd h
fresh-lengths sigs ctx apart (y ∷ ys) [] h = absurd h
fresh-lengths sigs ctx apart (y ∷ ys) (s ∷ ss) (_, _, _, h) = ap suc (fresh-lengths sigs ctx (apart ++ var y ∷ []) ys ss h)

pub met-length : (sigs : List Signature) (ctx : List Binder) (from to : List Tree) (before after : List Binder) (n : ℕ) → Met sigs ctx from to before after → length from ≡ n + length before → length to ≡ n + length after
met-length sigs ctx from to before after n met len =
    ap length met.apart ∙ (omega (arith, length-append from (map var met.ys), length-map met.ys var, fresh-lengths sigs ctx from met.ys met.binders met.fresh, length-append before met.binders, len)) ∙ ap (λ (z : List Binder). n + length z) (sym met.dummies)

-- a row adds to what dummies are kept apart from
row-grows : (sigs : List Signature) (ctx : List Binder) (mode : UnifyMode) (v : UnifyCommand) (st s : UnifyState Tree) → unify_step strict sigs ctx mode v st ≡ Ok s → (more : List Tree) × (s.apart ≡ st.apart ++ more)
unfolding unify_step
row-grows sigs ctx mode (u_term t) st s e =
    from_bind (top_target st.targets) _ s e λ r r-is e1.
    from_want (operands_of t (tree_parts r.0)) k.UnifyTerm _ s e1 λ es at e2.
    ([], sym (ap (λ (z : UnifyState Tree). z.apart) (taken-is (record st { targets = es ++ r.1 }) s e2)) ∙ sym (append-nil st.apart))
row-grows sigs ctx mode (u_term_save t) st s e =
    from_bind (top_target st.targets) _ s e λ r r-is e1.
    from_want (operands_of t (tree_parts r.0)) k.UnifyTerm _ s e1 λ es at e2.
    ([], sym (ap (λ (z : UnifyState Tree). z.apart) (taken-is (record st { targets = es ++ r.1; heap = st.heap ++ r.0 ∷ [] }) s e2)) ∙ sym (append-nil st.apart))
row-grows sigs ctx mode (u_ref i) st s e =
    from_bind (top_target st.targets) _ s e λ r r-is e1.
    from_want (slice_get st.heap i) k.UnifyReference _ s e1 λ x x-at e2.
    from_need (same_tree x r.0) k.UnifyReference _ s e2 λ same e3.
    ([], sym (ap (λ (z : UnifyState Tree). z.apart) (taken-is (record st { targets = r.1 }) s e3)) ∙ sym (append-nil st.apart))
row-grows sigs ctx mode (u_dummy d) st s e =
    from_bind (top_target st.targets) _ s e λ r r-is e1.
    from_then (need (is_fresh strict sigs ctx d r.0 st.apart) k.UnifyDummy) _ s e1 λ x test e2.
    (r.0 ∷ [], sym (ap (λ (z : UnifyState Tree). z.apart) (taken-is (record st { targets = r.1; heap = st.heap ++ r.0 ∷ []; apart = st.apart ++ r.0 ∷ [] }) s e2)))
row-grows sigs ctx mode u_hyp st s e =
    from_need (is_empty st.targets) k.UnifyRest _ s e λ done e1.
    from_bind (next_hypothesis mode st.items) _ s e1 λ r next e2.
    ([], sym (ap (λ (z : UnifyState Tree). z.apart) (taken-is (record st { targets = r.0 ∷ []; items = r.1 }) s e2)) ∙ sym (append-nil st.apart))
row-grows sigs ctx mode u_end st s e =
    from_then (need (is_empty st.targets && nothing_left mode st.items) k.UnifyRest) _ s e λ x done e1.
    ([], sym (ap (λ (z : UnifyState Tree). z.apart) (taken-is st s e1)) ∙ sym (append-nil st.apart))

pub run-grows : (sigs : List Signature) (ctx : List Binder) (mode : UnifyMode) (us : List UnifyCommand) (st u : UnifyState Tree) → run sigs ctx mode us st ≡ Ok u → (more : List Tree) × (u.apart ≡ st.apart ++ more)
run-grows sigs ctx mode [] st u e = row-grows sigs ctx mode u_end st u e
run-grows sigs ctx mode (v ∷ us) st u e =
    from_bind (unify_step strict sigs ctx mode v st) _ u e λ s row later.
    let (a, a-is) = row-grows sigs ctx mode v st s row in
    let (b, b-is) = run-grows sigs ctx mode us s u later in
    (a ++ b, b-is ∙ ap (λ (z : List Tree). z ++ b) a-is ∙ append_assoc st.apart a b)

pub get-past : (xs ys : List Tree) (t : Tree) → slice_get ((xs ++ t ∷ []) ++ ys) (length xs) ≡ Some t
get-past [] ys t = refl
get-past (x ∷ xs) ys t = get-past xs ys t

-- a target that passes the test of a dummy
pub fresh-one : (sigs : List Signature) (ctx : List Binder) (apart : List Tree) (t : Tree) (d : ℕ) → is_fresh strict sigs ctx d t apart ≡ true
    → (y : ℕ) × (t ≡ var y) × FreshList sigs ctx apart (y ∷ []) (dummy_of d ∷ [])
fresh-one sigs ctx apart (app h es) d test = absurd cc
fresh-one sigs ctx apart (var y) d test =
    let (front, out) = both-true (is_bound_var ctx (var y) && sort_of sigs ctx (var y) == d) (not (within_any strict ctx (var y) apart)) test in
    let (bound, sort-is) = both-true (is_bound_var ctx (var y)) (sort_of sigs ctx (var y) == d) front in
    (y, refl, (binder (slice_get ctx y) refl bound (eqb-true _ _ sort-is), refl, not-true (within_any strict ctx (var y) apart) out, tt))
  where
    binder : (o : Option Binder) → slice_get ctx y ≡ o → is_bound_at o ≡ true → sort_of sigs ctx (var y) ≡ d → IsBoundOf ctx y d
    binder None at h s = absurd cc
    binder (Some b) at h s = (b, at, h, ap (λ (c : Binder). c.sort) (sym (get_or_from_slice_get ctx y b _ at)) ∙ s)

-- ---- what a run over a pattern's spelling did

-- the state after it: these targets are left, and the heap has grown by the instances of the new marks
pub record After (sigs : List Signature) (ctx : List Binder) (mode : UnifyMode) (f : Trees) (m m' : Marks) (us : List UnifyCommand) (st u : UnifyState Tree) (left : List Tree) : Type 0 where
  pub state : UnifyState Tree
  pub new : List Tree
  pub runs : run sigs ctx mode us state ≡ Ok u
  pub targets : state.targets ≡ left
  pub items : state.items ≡ st.items
  pub marks : m'.trees ≡ m.trees ++ new
  pub met : Met sigs ctx st.apart state.apart m.dummies m'.dummies
  pub heap : state.heap ≡ st.heap ++ map (instance f) new

pub top-is : (ts : List Tree) (r : Tree × List Tree) → top_target ts ≡ Ok r → ts ≡ r.0 ∷ r.1
top-is [] r e = absurd cc
top-is (t ∷ ts) r e = ap (λ (p : Tree × List Tree). p.0 ∷ p.1) (taken-is (t, ts) r e)

pub head-is : (x y : Tree) (xs ys : List Tree) → x ∷ xs ≡ y ∷ ys → x ≡ y
head-is x y xs ys e = cc

pub tail-is : (x y : Tree) (xs ys : List Tree) → x ∷ xs ≡ y ∷ ys → xs ≡ ys
tail-is x y xs ys e = cc

pub same-length : (f : Trees) (marks heap new : List Tree) → length marks ≡ length heap → length (marks ++ new) ≡ length (heap ++ map (instance f) new)
same-length f marks heap new len = length-append marks new ∙ (omega (arith, length-append heap (map (instance f) new), length-map new (instance f), len))

module _ (sigs : List Signature) (ctx : List Binder) (mode : UnifyMode) (n : ℕ) (f : Trees) (u : UnifyState Tree) (f-is : (i : ℕ) (t : Tree) → slice_get u.apart i ≡ Some t → operand f i ≡ t) where
  unfoldable pub Matched : Marks → Marks → List UnifyCommand → UnifyState Tree → Tree → Tree → List Tree → Type 0
  Matched m m' us' st p t ts = After sigs ctx mode f m m' us' st u ts × (t ≡ instance f p)

  -- a back reference
  matched-ref : (p : Tree) (m m' : Marks) (us us' : List UnifyCommand) (st : UnifyState Tree) (t : Tree) (ts : List Tree)
      → (i : ℕ) → us ≡ u_ref i ∷ us' → slice_get m.trees i ≡ Some p → m' ≡ m → run sigs ctx mode us st ≡ Ok u → st.targets ≡ t ∷ ts
      → Agrees f m.trees st.heap (size p) → Matched m m' us' st p t ts
  unfolding Matched unify_step Agrees
  matched-ref p m m' us us' st t ts i us-are p-at m-is ran top agrees =
      let ran' : (unify_step strict sigs ctx mode (u_ref i) st >>= run sigs ctx mode us') ≡ Ok u = subst (λ (z : List UnifyCommand). run sigs ctx mode z st ≡ Ok u) us-are ran in
      from_bind (unify_step strict sigs ctx mode (u_ref i) st) _ u ran' λ s row later.
      from_bind (top_target st.targets) _ s row λ r r-is e1.
      from_want (slice_get st.heap i) k.UnifyReference _ s e1 λ x x-at e2.
      from_need (same_tree x r.0) k.UnifyReference _ s e2 λ same e3.
      let both : t ∷ ts ≡ r.0 ∷ r.1 = sym top ∙ top-is st.targets r r-is in
      let x-is : x ≡ instance f p = some_is x-at (agrees i p p-at (omega arith)) in
      let t-is : t ≡ instance f p = head-is t r.0 ts r.1 both ∙ sym (same_tree-true x r.0 same) ∙ x-is in
      let s-is : record st { targets = r.1 } ≡ s = taken-is (record st { targets = r.1 }) s e3 in (
        record {
          state = record st { targets = r.1 };
          new = [];
          runs = subst (λ (z : UnifyState Tree). run sigs ctx mode us' z ≡ Ok u) (sym s-is) later;
          targets = sym (tail-is t r.0 ts r.1 both);
          items = refl;
          marks = ap (λ (z : Marks). z.trees) m-is ∙ sym (append-nil m.trees);
          met = subst (λ (z : Marks). Met sigs ctx st.apart st.apart m.dummies z.dummies) (sym m-is) (met-none sigs ctx st.apart m.dummies);
          heap = sym (append-nil st.heap);
        },
        t-is,
      )

  -- a dummy
  matched-dummy : (x d : ℕ) (m m' : Marks) (us us' : List UnifyCommand) (st : UnifyState Tree) (t : Tree) (ts : List Tree)
      → us ≡ u_dummy d ∷ us' → x ≡ n + length m.dummies → m' ≡ with_dummy m x d
      → run sigs ctx mode us st ≡ Ok u → st.targets ≡ t ∷ ts → length st.apart ≡ n + length m.dummies → Matched m m' us' st (var x) t ts
  unfolding Matched unify_step
  matched-dummy x d m m' us us' st t ts us-are x-is m-is ran top apart-len =
      let ran' : (unify_step strict sigs ctx mode (u_dummy d) st >>= run sigs ctx mode us') ≡ Ok u = subst (λ (z : List UnifyCommand). run sigs ctx mode z st ≡ Ok u) us-are ran in
      from_bind (unify_step strict sigs ctx mode (u_dummy d) st) _ u ran' λ s row later.
      from_bind (top_target st.targets) _ s row λ r r-is e1.
      from_need (is_fresh strict sigs ctx d r.0 st.apart) k.UnifyDummy _ s e1 λ test e2.
      let both : t ∷ ts ≡ r.0 ∷ r.1 = sym top ∙ top-is st.targets r r-is in
      let t-is : t ≡ r.0 = head-is t r.0 ts r.1 both in
      let made : UnifyState Tree = record st { targets = r.1; heap = st.heap ++ r.0 ∷ []; apart = st.apart ++ r.0 ∷ [] } in
      let s-is : made ≡ s = taken-is made s e2 in
      let later' : run sigs ctx mode us' made ≡ Ok u = subst (λ (z : UnifyState Tree). run sigs ctx mode us' z ≡ Ok u) (sym s-is) later in
      let (after, apart-is) = run-grows sigs ctx mode us' made u later' in
      let at-x : slice_get u.apart x ≡ Some r.0 = subst (λ (z : List Tree). slice_get z x ≡ Some r.0) (sym apart-is) (subst (λ (z : ℕ). slice_get ((st.apart ++ r.0 ∷ []) ++ after) z ≡ Some r.0) (apart-len ∙ sym x-is) (get-past st.apart after r.0)) in
      let value : operand f x ≡ r.0 = f-is x r.0 at-x in
      let (y, y-is, fresh) = fresh-one sigs ctx st.apart r.0 d test in (
        record {
          state = made;
          new = var x ∷ [];
          runs = later';
          targets = sym (tail-is t r.0 ts r.1 both);
          items = refl;
          marks = ap (λ (z : Marks). z.trees) m-is;
          met = record { ys = y ∷ []; binders = dummy_of d ∷ []; apart = ap (λ (z : Tree). st.apart ++ z ∷ []) y-is; dummies = ap (λ (z : Marks). z.dummies) m-is; fresh = fresh };
          heap = ap (λ (z : Tree). st.heap ++ z ∷ []) (sym value);
        },
        t-is ∙ sym value,
      )

  -- the first step of an application
  unfoldable pub Opened : List UnifyCommand → UnifyState Tree → Tree → List Tree → ℕ → List Tree → Type 0
  Opened rest st t ts h heap =
      (es : List Tree) × (t ≡ app h (trees_of es)) × (run sigs ctx mode rest (record st { targets = es ++ ts; heap = heap }) ≡ Ok u)

  pub opened-term : (h : ℕ) (us rest : List UnifyCommand) (st : UnifyState Tree) (t : Tree) (ts : List Tree)
      → us ≡ u_term h ∷ rest → run sigs ctx mode us st ≡ Ok u → st.targets ≡ t ∷ ts → Opened rest st t ts h st.heap
  unfolding unify_step Opened
  opened-term h us rest st t ts us-are ran top =
      let ran' : (unify_step strict sigs ctx mode (u_term h) st >>= run sigs ctx mode rest) ≡ Ok u = subst (λ (z : List UnifyCommand). run sigs ctx mode z st ≡ Ok u) us-are ran in
      from_bind (unify_step strict sigs ctx mode (u_term h) st) _ u ran' λ s row later.
      from_bind (top_target st.targets) _ s row λ r r-is e1.
      from_want (operands_of h (tree_parts r.0)) k.UnifyTerm _ s e1 λ es es-are e2.
      let both : t ∷ ts ≡ r.0 ∷ r.1 = sym top ∙ top-is st.targets r r-is in
      let s-is : record st { targets = es ++ r.1 } ≡ s = taken-is (record st { targets = es ++ r.1 }) s e2 in
      let ts-are : r.1 ≡ ts = sym (tail-is t r.0 ts r.1 both) in (
        es,
        head-is t r.0 ts r.1 both ∙ apart-is r.0 h es es-are,
        subst (λ (z : List Tree). run sigs ctx mode rest (record st { targets = es ++ z }) ≡ Ok u) ts-are (subst (λ (z : UnifyState Tree). run sigs ctx mode rest z ≡ Ok u) (sym s-is) later),
      )

  pub opened-save : (h : ℕ) (us rest : List UnifyCommand) (st : UnifyState Tree) (t : Tree) (ts : List Tree)
      → us ≡ u_term_save h ∷ rest → run sigs ctx mode us st ≡ Ok u → st.targets ≡ t ∷ ts → Opened rest st t ts h (st.heap ++ t ∷ [])
  unfolding unify_step Opened
  opened-save h us rest st t ts us-are ran top =
      let ran' : (unify_step strict sigs ctx mode (u_term_save h) st >>= run sigs ctx mode rest) ≡ Ok u = subst (λ (z : List UnifyCommand). run sigs ctx mode z st ≡ Ok u) us-are ran in
      from_bind (unify_step strict sigs ctx mode (u_term_save h) st) _ u ran' λ s row later.
      from_bind (top_target st.targets) _ s row λ r r-is e1.
      from_want (operands_of h (tree_parts r.0)) k.UnifyTerm _ s e1 λ es es-are e2.
      let both : t ∷ ts ≡ r.0 ∷ r.1 = sym top ∙ top-is st.targets r r-is in
      let s-is : record st { targets = es ++ r.1; heap = st.heap ++ r.0 ∷ [] } ≡ s = taken-is (record st { targets = es ++ r.1; heap = st.heap ++ r.0 ∷ [] }) s e2 in
      let ts-are : r.1 ≡ ts = sym (tail-is t r.0 ts r.1 both) in
      let t-is : r.0 ≡ t = sym (head-is t r.0 ts r.1 both) in (
        es,
        sym t-is ∙ apart-is r.0 h es es-are,
        subst (λ (z : List Tree). run sigs ctx mode rest (record st { targets = es ++ z; heap = st.heap ++ t ∷ [] }) ≡ Ok u) ts-are
            (subst (λ (z : Tree). run sigs ctx mode rest (record st { targets = es ++ r.1; heap = st.heap ++ z ∷ [] }) ≡ Ok u) t-is
            (subst (λ (z : UnifyState Tree). run sigs ctx mode rest z ≡ Ok u) (sym s-is) later)),
      )

  -- as many operands as the term has parameters
  counted : (t : Tree) (h : ℕ) (es : List Tree) (ps : Trees) → t ≡ app h (trees_of es) → Sorted sigs ctx t → HasOperands sigs h ps → AllSorted sigs ctx es × (length (listed ps) ≡ length es)
  counted t h es ps t-is sorted (d, at, len) =
      let (d', d'-at, _, es-sorted, es-len) = operands-sorted sigs ctx t h es t-is sorted in
      let same : d ≡ d' = some_is at d'-at in
      (es-sorted, len ∙ ap (λ (z : Signature). length z.params) same ∙ sym es-len)

  MatchedAll : Marks → Marks → List UnifyCommand → UnifyState Tree → Trees → List Tree → List Tree → Type 0
  MatchedAll m m' us' st ps es ts = After sigs ctx mode f m m' us' st u ts × (trees_of es ≡ instances f ps)

  mutual
    unfolding Matched MatchedAll Agrees Opened

    pub matched : (p : Tree) (m m' : Marks) (us us' : List UnifyCommand) (st : UnifyState Tree) (t : Tree) (ts : List Tree)
        → Spells n sigs m us p m' us' → run sigs ctx mode us st ≡ Ok u → st.targets ≡ t ∷ ts → Sorted sigs ctx t
        → length m.trees ≡ length st.heap → Agrees f m.trees st.heap (size p) → length st.apart ≡ n + length m.dummies → Matched m m' us' st p t ts
    matched (var x) m m' us us' st t ts (inl (i, us-are, at, is)) ran top sorted len agrees apart-len = matched-ref (var x) m m' us us' st t ts i us-are at is ran top agrees
    matched (var x) m m' us us' st t ts (inr (s, us-are, x-is, is)) ran top sorted len agrees apart-len = matched-dummy x s m m' us us' st t ts us-are x-is is ran top apart-len
    matched (app h ps) m m' us us' st t ts (inl (i, us-are, at, is)) ran top sorted len agrees apart-len = matched-ref (app h ps) m m' us us' st t ts i us-are at is ran top agrees
    matched (app h ps) m m' us us' st t ts (inr (inl (rest, us-are, operands, spells))) ran top sorted len agrees apart-len =
        let (es, t-is, later) = opened-term h us rest st t ts us-are ran top in
        let (es-sorted, es-len) = counted t h es ps t-is sorted operands in
        let (after, es-are) = matched_all ps m m' rest us' (record st { targets = es ++ ts }) es ts spells later refl es-sorted es-len len (λ i q at small. agrees i q at (omega arith)) apart-len in
        (record { state = after.state; new = after.new; runs = after.runs; targets = after.targets; items = after.items; marks = after.marks; met = after.met; heap = after.heap }, t-is ∙ ap (app h) es-are)
    matched (app h ps) m m' us us' st t ts (inr (inr (rest, us-are, operands, spells))) ran top sorted len agrees apart-len =
        let (es, t-is, later) = opened-save h us rest st t ts us-are ran top in
        let (es-sorted, es-len) = counted t h es ps t-is sorted operands in
        let mid : Marks = marked m (app h ps) in
        let longer : length mid.trees ≡ length (st.heap ++ t ∷ []) = omega (arith, length-append m.trees (app h ps ∷ []), length-append st.heap (t ∷ []), len) in
        let pending : Agrees f mid.trees (st.heap ++ t ∷ []) (trees_size ps) = agrees-pending f m.trees st.heap (app h ps) t (trees_size ps) len (omega arith) (λ i q at small. agrees i q at (omega arith)) in
        let (after, es-are) = matched_all ps mid m' rest us' (record st { targets = es ++ ts; heap = st.heap ++ t ∷ [] }) es ts spells later refl es-sorted es-len longer pending apart-len in
        let whole : t ≡ instance f (app h ps) = t-is ∙ ap (app h) es-are in (
          record {
            state = after.state;
            new = app h ps ∷ after.new;
            runs = after.runs;
            targets = after.targets;
            items = after.items;
            met = after.met;
            marks = after.marks ∙ append_assoc m.trees (app h ps ∷ []) after.new;
            heap = after.heap ∙ append_assoc st.heap (t ∷ []) (map (instance f) after.new) ∙ ap (λ (z : Tree). st.heap ++ z ∷ map (instance f) after.new) whole;
          },
          whole,
        )

    matched_all : (ps : Trees) (m m' : Marks) (us us' : List UnifyCommand) (st : UnifyState Tree) (es ts : List Tree)
        → SpellsAll n sigs m us ps m' us' → run sigs ctx mode us st ≡ Ok u → st.targets ≡ es ++ ts → AllSorted sigs ctx es → length (listed ps) ≡ length es
        → length m.trees ≡ length st.heap → Agrees f m.trees st.heap (trees_size ps) → length st.apart ≡ n + length m.dummies → MatchedAll m m' us' st ps es ts
    matched_all none m m' us us' st [] ts (m-is, us-are) ran top sorted counted len agrees apart-len = (
      record {
        state = st;
        new = [];
        runs = subst (λ (z : List UnifyCommand). run sigs ctx mode z st ≡ Ok u) (sym us-are) ran;
        targets = top;
        items = refl;
        marks = ap (λ (z : Marks). z.trees) m-is ∙ sym (append-nil m.trees);
        met = subst (λ (z : Marks). Met sigs ctx st.apart st.apart m.dummies z.dummies) (sym m-is) (met-none sigs ctx st.apart m.dummies);
        heap = sym (append-nil st.heap);
      },
      refl,
    )
    matched_all none m m' us us' st (e ∷ es) ts spells ran top sorted counted len agrees apart-len = absurd (omega arith)
    matched_all (more p ps) m m' us us' st [] ts spells ran top sorted counted len agrees apart-len = absurd (omega arith)
    matched_all (more p ps) m m' us us' st (e ∷ es) ts (mid, rest, first, others) ran top (e-sorted, sorted) counted len agrees apart-len =
        let (a, e-is) = matched p m mid us rest st e (es ++ ts) first ran top e-sorted len (λ i q at small. agrees i q at (omega arith)) apart-len in
        let len-mid : length mid.trees ≡ length a.state.heap = ap length a.marks ∙ same-length f m.trees st.heap a.new len ∙ sym (ap length a.heap) in
        let grown : Agrees f (m.trees ++ a.new) (st.heap ++ map (instance f) a.new) (trees_size ps) = agrees-append f m.trees st.heap a.new (trees_size ps) len (λ i q at small. agrees i q at (omega arith)) in
        let agrees-mid : Agrees f mid.trees a.state.heap (trees_size ps) = subst (λ (z : List Tree). Agrees f z a.state.heap (trees_size ps)) (sym a.marks) (subst (λ (z : List Tree). Agrees f (m.trees ++ a.new) z (trees_size ps)) (sym a.heap) grown) in
        let (b, es-are) = matched_all ps mid m' rest us' a.state es ts others a.runs a.targets sorted (omega arith) len-mid agrees-mid (met-length sigs ctx st.apart a.state.apart m.dummies mid.dummies n a.met apart-len) in (
          record {
            state = b.state;
            new = a.new ++ b.new;
            runs = b.runs;
            targets = b.targets;
            items = b.items ∙ a.items;
            met = met-both sigs ctx st.apart a.state.apart b.state.apart m.dummies mid.dummies m'.dummies a.met b.met;
            marks = b.marks ∙ ap (λ (z : List Tree). z ++ b.new) a.marks ∙ append_assoc m.trees a.new b.new;
            heap = b.heap ∙ ap (λ (z : List Tree). z ++ map (instance f) b.new) a.heap ∙ append_assoc st.heap (map (instance f) a.new) (map (instance f) b.new) ∙ ap (λ (z : List Tree). st.heap ++ z) (sym (map-append (instance f) a.new b.new));
          },
          ap (λ (z : Tree). more z (trees_of es)) e-is ∙ ap (more (instance f p)) es-are,
        )

-- A definition's stream that saves no application before its dummies are met: what a dummy stands for is in V of nothing
-- that is saved, once it is in V of no operand and no earlier dummy.
use Rattle.std.proofs.Common.{◌≡◌, ℕ, zero, suc, ◌+◌, ◌⊎◌, Bool, true, false, List, [], ◌∷◌, ◌++◌, length, drop, map, Option, Some, None, Result, Ok, Err, refl, sym, ap, subst, ◌∙◌, inl, inr, append_assoc, append-nil}
use Rattle.std.specs.Prelude.{slice_get, ◌&&◌, ◌==◌}
use Rattle.std.proofs.lemmas.Option.{same_Some}
use Rattle.std.proofs.lemmas.Bool.{or_from, or_parts}
use Rattle.mz_base.proofs.Offered.{slice_get-map_back, slice_get-map_at, slice_get-front}
use Rattle.mz_cmd.specs.declared.rule.K.{K}
use Rattle.mz_cmd.specs.declared.rule.K.TheVariants as k
use Rattle.mz_cmd.specs.declared.command.Cmd.{Cmd}
use Rattle.mz_cmd.specs.declared.command.CmdFault.{CmdFault}
use Rattle.mz_cmd.specs.Reading.{first_command}
use Rattle.mz_logic_theory.specs.Tree.{Tree, Trees, var, app, operand, followed_by, variables, instance}
use Rattle.mz_logic_theory.specs.Signature.{Signature}
use Rattle.mz_logic_theory.specs.Legality.{sort_of}
use Rattle.mz_logic_theory.specs.Variables.{InV, InSomeV}
use Rattle.mz_logic_theory.specs.declared.binder.Binder.{Binder}
use Rattle.mz_logic_theory.proofs.Offered.{in_instance, split_at}
use Rattle.mz_machine_theory.specs.Steps.{◌>>=◌, at_place, Turn, over, goes_on, follow}
use Rattle.mz_machine_theory.specs.Streams.{UnifyCommand, u_term, u_term_save, u_ref, u_dummy, u_hyp, u_end, unify_command}
use Rattle.mz_machine_theory.specs.Spells.{trees_of}
use Rattle.mz_machine_theory.specs.Tests.{same_tree, is_bound_var, in_v}
use Rattle.mz_machine_theory.specs.Profile.{strict, tree_parts}
use Rattle.mz_machine_theory.specs.UnifyMachine.{UnifyMode, in_definition, kind_of, UnifyState, top_target, is_empty, next_hypothesis, operands_of, within_any, is_fresh, nothing_left, unify_step, unify_turn_by, unify_turn, unify_from, unify}
use Rattle.mz_machine_theory.proofs.Offered.{from_bind, from_need, from_want, taken-is, in-v-true, not-in-v, in-some, unfoldings-exact}
use Rattle.mz_pmachine_theory.specs.SharedBuilding.{portable_trees}
use Rattle.mz_pmachine_theory.specs.SafeSaving.{AreWhole}
use Rattle.mz_pmachine_theory.specs.Laws.{WholeStreamsRunToo}
use Rattle.mz_pmachine_theory.proofs.UnifyGoes.{fresh-too}

from-follow : {S G : Type 0} (at : ℕ) (r : Result (Turn S) K) (rest : ℕ → S → Result S (ℕ × K)) (y : S) → follow (at_place at r) rest ≡ Ok y
    → ((s : S) → r ≡ Ok (over s) → s ≡ y → G) → ((len : ℕ) (s : S) → r ≡ Ok (goes_on len s) → rest len s ≡ Ok y → G) → G
from-follow at (Err d) rest y e ended went = absurd cc
from-follow at (Ok (over s)) rest y e ended went = ended s refl cc
from-follow at (Ok (goes_on len s)) rest y e ended went = went len s refl e

-- ---- lists of expressions and their variables

next-is : {A : Type 0} (xs : List A) (x : A) (ys : List A) → slice_get ((xs ++ x ∷ []) ++ ys) (length xs) ≡ Some x
next-is [] x ys = refl
next-is (z ∷ xs) x ys = next-is xs x ys

-- ---- what is in V of a list

module _ (ctx : List Binder) where
  in-more : (x : ℕ) (xs : List Tree) (a : Tree) → InSomeV ctx x (trees_of xs) → InSomeV ctx x (trees_of (xs ++ a ∷ []))
  in-more x [] a has = absurd has
  in-more x (y ∷ xs) a (inl has) = inl has
  in-more x (y ∷ xs) a (inr has) = inr (in-more x xs a has)

  in-last : (x : ℕ) (xs : List Tree) (a : Tree) → InV ctx x a → InSomeV ctx x (trees_of (xs ++ a ∷ []))
  in-last x [] a has = inl has
  in-last x (y ∷ xs) a has = inr (in-last x xs a has)

  none-of : (x : ℕ) (xs : List Tree) → within_any strict ctx (var x) xs ≡ false → InSomeV ctx x (trees_of xs) → ⊥
  none-of x [] out has = has
  none-of x (y ∷ xs) out (inl has) = not-in-v ctx x y (or_parts (in_v ctx x y) (within_any strict ctx (var x) xs) out).0 has
  none-of x (y ∷ xs) out (inr has) = none-of x xs (or_parts (in_v ctx x y) (within_any strict ctx (var x) xs) out).1 has

  out-of : (x : ℕ) (b : Bool) (e : Tree) → in_v ctx x e ≡ b → (InV ctx x e → ⊥) → b ≡ false
  out-of x true e is out = absurd (out (in-v-true ctx x e is))
  out-of x false e is out = refl

  none-within : (x : ℕ) (xs : List Tree) → ((i : ℕ) (e : Tree) → slice_get xs i ≡ Some e → InV ctx x e → ⊥) → within_any portable_trees ctx (var x) xs ≡ false
  none-within x [] out = refl
  none-within x (e ∷ xs) out =
      or_from (in_v ctx x e) (within_any portable_trees ctx (var x) xs) (out-of x (in_v ctx x e) e refl (out 0 e refl)) (none-within x xs λ i d at. out (suc i) d at)

  no-variable : (t : ℕ) (es : Trees) (xs : List Tree) → within_any portable_trees ctx (app t es) xs ≡ false
  no-variable t es [] = refl
  no-variable t es (x ∷ xs) = no-variable t es xs

  -- an application that is put in for a variable is an operand
  put-in : (es : List Tree) (ys : List ℕ) (y t x : ℕ) (fs : Trees) → operand (followed_by (trees_of es) (variables ys)) y ≡ app t fs → InV ctx x (app t fs) → InSomeV ctx x (trees_of es)
  put-in [] [] y t x fs is has = subst (InV ctx x) (sym is) has
  put-in [] (z ∷ ys) zero t x fs is has = absurd cc
  put-in [] (z ∷ ys) (suc y) t x fs is has = put-in [] ys y t x fs is has
  put-in (e ∷ es) ys zero t x fs is has = inl (subst (InV ctx x) (sym is) has)
  put-in (e ∷ es) ys (suc y) t x fs is has = inr (put-in es ys y t x fs is has)

-- ---- the heap only grows

abbrev after : Turn (UnifyState Tree) → UnifyState Tree
after (over s) = s
after (goes_on len s) = s

module _ (sigs : List Signature) (ctx : List Binder) (mode : UnifyMode) where
  abbrev Grown : UnifyState Tree → UnifyState Tree → Type 0
  Grown u s = (extra : List Tree) × (s.heap ≡ u.heap ++ extra)

  not-grown : (u s t : UnifyState Tree) → u.heap ≡ t.heap → t ≡ s → Grown u s
  not-grown u s t same is = ([], ap (λ (z : UnifyState Tree). z.heap) (sym is) ∙ sym same ∙ sym (append-nil u.heap))

  by-one : (u s t : UnifyState Tree) (e : Tree) → t.heap ≡ u.heap ++ e ∷ [] → t ≡ s → Grown u s
  by-one u s t e extra is = (e ∷ [], ap (λ (z : UnifyState Tree). z.heap) (sym is) ∙ extra)

  row-grows : (c : UnifyCommand) (u s : UnifyState Tree) → unify_step strict sigs ctx mode c u ≡ Ok s → Grown u s
  unfolding unify_step
  row-grows (u_term t) u s e =
      from_bind (top_target u.targets) _ s e λ top top-is e1.
      from_want (operands_of t (tree_parts top.0)) k.UnifyTerm _ s e1 λ ts ts-are e2.
      not-grown u s (record u { targets = ts ++ top.1 }) refl (taken-is (record u { targets = ts ++ top.1 }) s e2)
  row-grows (u_term_save t) u s e =
      from_bind (top_target u.targets) _ s e λ top top-is e1.
      from_want (operands_of t (tree_parts top.0)) k.UnifyTerm _ s e1 λ ts ts-are e2.
      by-one u s (record u { targets = ts ++ top.1; heap = u.heap ++ top.0 ∷ [] }) top.0 refl (taken-is (record u { targets = ts ++ top.1; heap = u.heap ++ top.0 ∷ [] }) s e2)
  row-grows (u_ref i) u s e =
      from_bind (top_target u.targets) _ s e λ top top-is e1.
      from_want (slice_get u.heap i) k.UnifyReference _ s e1 λ d d-at e2.
      from_need (same_tree d top.0) k.UnifyReference _ s e2 λ same e3.
      not-grown u s (record u { targets = top.1 }) refl (taken-is (record u { targets = top.1 }) s e3)
  row-grows (u_dummy d) u s e =
      from_bind (top_target u.targets) _ s e λ top top-is e1.
      from_need (is_fresh strict sigs ctx d top.0 u.apart) k.UnifyDummy _ s e1 λ fresh e2.
      by-one u s (record u { targets = top.1; heap = u.heap ++ top.0 ∷ []; apart = u.apart ++ top.0 ∷ [] }) top.0 refl (taken-is (record u { targets = top.1; heap = u.heap ++ top.0 ∷ []; apart = u.apart ++ top.0 ∷ [] }) s e2)
  row-grows u_hyp u s e =
      from_need (is_empty u.targets) k.UnifyRest _ s e λ empty e1.
      from_bind (next_hypothesis mode u.items) _ s e1 λ next next-is e2.
      not-grown u s (record u { targets = next.0 ∷ []; items = next.1 }) refl (taken-is (record u { targets = next.0 ∷ []; items = next.1 }) s e2)
  row-grows u_end u s e =
      from_need (is_empty u.targets && nothing_left mode u.items) k.UnifyRest _ s e λ ended e1.
      not-grown u s u refl (taken-is u s e1)

  by-grows : (len : ℕ) (u : UnifyState Tree) (o : Option UnifyCommand) (t : Turn (UnifyState Tree)) → unify_turn_by strict sigs ctx mode len u o ≡ Ok t → Grown u (after t)
  by-grows len u None t e = absurd cc
  by-grows len u (Some u_end) t e =
      from_bind (unify_step strict sigs ctx mode u_end u) _ t e λ s row e1.
      subst (λ (z : Turn (UnifyState Tree)). Grown u (after z)) (taken-is (over s) t e1) (row-grows u_end u s row)
  by-grows len u (Some c) t e =
      from_bind (unify_step strict sigs ctx mode c u) _ t e λ s row e1.
      subst (λ (z : Turn (UnifyState Tree)). Grown u (after z)) (taken-is (goes_on len s) t e1) (row-grows c u s row)

  turn-grows : (u : UnifyState Tree) (r : Result Cmd CmdFault) (t : Turn (UnifyState Tree)) → unify_turn strict sigs ctx mode u r ≡ Ok t → Grown u (after t)
  turn-grows u (Err d) t e = absurd cc
  turn-grows u (Ok c) t e = by-grows c.len u (unify_command (kind_of mode) c.code c.value) t e

  from-grows : (n at : ℕ) (bytes : List ℕ) (u last : UnifyState Tree) → unify_from strict sigs ctx mode n at bytes u ≡ Ok last → Grown u last
  unfolding unify_from
  from-grows zero at bytes u last e = absurd cc
  from-grows (suc n) at bytes u last e =
      from-follow at (unify_turn strict sigs ctx mode u (first_command bytes)) _ last e
      (λ s turn is. subst (Grown u) is (turn-grows u (first_command bytes) (over s) turn))
      λ len s turn later.
      let (here, here-is) = turn-grows u (first_command bytes) (goes_on len s) turn in
      let (there, there-is) = from-grows n (at + len) (drop len bytes) s last later in
      (here ++ there, there-is ∙ ap (λ (z : List Tree). z ++ there) here-is ∙ append_assoc u.heap here there)

  -- ---- beside the other machine, which keeps a dummy apart from all of the heap

  abbrev shown : UnifyState Tree → UnifyState Tree
  shown u = record u { apart = u.heap }

  abbrev shown_turn : Turn (UnifyState Tree) → Turn (UnifyState Tree)
  shown_turn (over s) = over (shown s)
  shown_turn (goes_on len s) = goes_on len (shown s)

  module _ (es : List Tree) (ys : List ℕ) (marks : List Tree) (whole : AreWhole marks) where
    abbrev put : Trees
    put = followed_by (trees_of es) (variables ys)

    abbrev final : List Tree
    final = map (instance put) marks

    -- what is in V of something in the heap, or of an operand, is in V of an operand or an earlier dummy
    record Covered (u : UnifyState Tree) : Type 0 where
      heap : (i x : ℕ) (e : Tree) → slice_get u.heap i ≡ Some e → InV ctx x e → InSomeV ctx x (trees_of u.apart)
      operands : (x : ℕ) → InSomeV ctx x (trees_of es) → InSomeV ctx x (trees_of u.apart)

    stays-fresh : (u : UnifyState Tree) (d : ℕ) (t : Tree) → Covered u → is_fresh strict sigs ctx d t u.apart ≡ true → is_fresh portable_trees sigs ctx d t u.heap ≡ true
    stays-fresh u d t covered h = fresh-too (is_bound_var ctx t) (sort_of sigs ctx t == d) (within_any strict ctx t u.apart) (within_any portable_trees ctx t u.heap) (out t) h
      where
        out : (t : Tree) → within_any strict ctx t u.apart ≡ false → within_any portable_trees ctx t u.heap ≡ false
        out (var x) clear = none-within ctx x u.heap λ i e at has. none-of ctx x u.apart clear (covered.heap i x e at has)
        out (app h fs) clear = no-variable ctx h fs u.heap

    covered-by : (u : UnifyState Tree) (t : Tree) (h : ℕ) (fs : Trees) (extra : List Tree) (x : ℕ) (p : Tree) → t ≡ app h fs → final ≡ (u.heap ++ t ∷ []) ++ extra → Covered u
        → slice_get marks (length u.heap) ≡ Some p → instance put p ≡ t → InV ctx x t → InSomeV ctx x (trees_of u.apart)
    covered-by u t h fs extra x (var z) t-is all covered p-at p-is has = covered.operands x (put-in ctx es ys z h x fs (p-is ∙ t-is) (subst (InV ctx x) t-is has))
    covered-by u t h fs extra x (app g ps) t-is all covered p-at p-is has =
        let (y, occurs, y-has) = in_instance ctx x put (app g ps) (subst (InV ctx x) (sym p-is) has) in
        let (i, lt, i-at) = whole (length u.heap) g y ps p-at occurs in
        let there : slice_get (u.heap ++ (t ∷ [] ++ extra)) i ≡ Some (operand put y) = ap (λ (z : List Tree). slice_get z i) (sym (all ∙ append_assoc u.heap (t ∷ []) extra)) ∙ slice_get-map_at (instance put) marks i (var y) i-at in
        covered.heap i x (operand put y) (slice_get-front u.heap (t ∷ [] ++ extra) i (operand put y) lt there) y-has

    -- an application that is saved
    saved-covered : (u : UnifyState Tree) (t : Tree) (h : ℕ) (fs : Trees) (extra : List Tree) → t ≡ app h fs → final ≡ (u.heap ++ t ∷ []) ++ extra → Covered u
        → (x : ℕ) → InV ctx x t → InSomeV ctx x (trees_of u.apart)
    saved-covered u t h fs extra t-is all covered x has =
        let (p, p-at, p-is) = slice_get-map_back (instance put) marks (length u.heap) t (ap (λ (z : List Tree). slice_get z (length u.heap)) all ∙ next-is u.heap t extra) in
        covered-by u t h fs extra x p t-is all covered p-at p-is has

    is-applied : (t : ℕ) (e : Tree) (ts : List Tree) → operands_of t (tree_parts e) ≡ Some ts → (h : ℕ) × (fs : Trees) × (e ≡ app h fs)
    is-applied t (var x) ts at = absurd cc
    is-applied t (app h fs) ts at = (h, fs, refl)

    -- one extra in the heap, whose V is covered
    one-more : (u : UnifyState Tree) (t : Tree) (apart : List Tree) → ((x : ℕ) → InSomeV ctx x (trees_of u.apart) → InSomeV ctx x (trees_of apart)) → ((x : ℕ) → InV ctx x t → InSomeV ctx x (trees_of apart)) → Covered u
        → (i x : ℕ) (e : Tree) → slice_get (u.heap ++ t ∷ []) i ≡ Some e → InV ctx x e → InSomeV ctx x (trees_of apart)
    one-more u t apart wider last covered i x e at has = go (split_at u.heap (t ∷ []) i e at)
      where
        go : (slice_get u.heap i ≡ Some e) ⊎ ((j : ℕ) × (i ≡ length u.heap + j) × (slice_get (t ∷ []) j ≡ Some e)) → InSomeV ctx x (trees_of apart)
        go (inl here) = wider x (covered.heap i x e here has)
        go (inr (zero, _, there)) = last x (subst (InV ctx x) (sym (same_Some t e there)) has)
        go (inr (suc j, _, there)) = absurd cc

    abbrev Beside : UnifyCommand → UnifyState Tree → UnifyState Tree → Type 0
    Beside c u s = (unify_step portable_trees sigs ctx mode c (shown u) ≡ Ok (shown s)) × Covered s

    row-beside : (c : UnifyCommand) (u s : UnifyState Tree) (extra : List Tree) → Covered u → final ≡ s.heap ++ extra → unify_step strict sigs ctx mode c u ≡ Ok s → Beside c u s
    unfolding unify_step
    row-beside (u_term t) u s extra covered all e =
        from_bind (top_target u.targets) _ s e λ top top-is e1.
        from_want (operands_of t (tree_parts top.0)) k.UnifyTerm _ s e1 λ ts ts-are e2.
        let s' : UnifyState Tree = record u { targets = ts ++ top.1 } in
        let row : unify_step portable_trees sigs ctx mode (u_term t) (shown u) ≡ Ok (shown s') = rw (top-is, ts-are) refl in
        subst (λ (z : UnifyState Tree). Beside (u_term t) u z) (taken-is s' s e2) (row, record { heap = covered.heap; operands = covered.operands })
    row-beside (u_term_save t) u s extra covered all e =
        from_bind (top_target u.targets) _ s e λ top top-is e1.
        from_want (operands_of t (tree_parts top.0)) k.UnifyTerm _ s e1 λ ts ts-are e2.
        let s' : UnifyState Tree = record u { targets = ts ++ top.1; heap = u.heap ++ top.0 ∷ [] } in
        let is : s' ≡ s = taken-is s' s e2 in
        let row : unify_step portable_trees sigs ctx mode (u_term_save t) (shown u) ≡ Ok (shown s') = rw (top-is, ts-are) refl in
        let (h, fs, top-app) = is-applied t top.0 ts ts-are in
        let all' : final ≡ (u.heap ++ top.0 ∷ []) ++ extra = all ∙ ap (λ (z : UnifyState Tree). z.heap ++ extra) (sym is) in
        subst (λ (z : UnifyState Tree). Beside (u_term_save t) u z) is
        (row, record { heap = one-more u top.0 u.apart (λ x has. has) (saved-covered u top.0 h fs extra top-app all' covered) covered; operands = covered.operands })
    row-beside (u_ref i) u s extra covered all e =
        from_bind (top_target u.targets) _ s e λ top top-is e1.
        from_want (slice_get u.heap i) k.UnifyReference _ s e1 λ d d-at e2.
        from_need (same_tree d top.0) k.UnifyReference _ s e2 λ same e3.
        let s' : UnifyState Tree = record u { targets = top.1 } in
        let row : unify_step portable_trees sigs ctx mode (u_ref i) (shown u) ≡ Ok (shown s') = rw (top-is, d-at, same) refl in
        subst (λ (z : UnifyState Tree). Beside (u_ref i) u z) (taken-is s' s e3) (row, record { heap = covered.heap; operands = covered.operands })
    row-beside (u_dummy d) u s extra covered all e =
        from_bind (top_target u.targets) _ s e λ top top-is e1.
        from_need (is_fresh strict sigs ctx d top.0 u.apart) k.UnifyDummy _ s e1 λ fresh e2.
        let s' : UnifyState Tree = record u { targets = top.1; heap = u.heap ++ top.0 ∷ []; apart = u.apart ++ top.0 ∷ [] } in
        let row : unify_step portable_trees sigs ctx mode (u_dummy d) (shown u) ≡ Ok (shown s') = rw (top-is, stays-fresh u d top.0 covered fresh) refl in
        subst (λ (z : UnifyState Tree). Beside (u_dummy d) u z) (taken-is s' s e2) (
          row,
          record {
            heap = one-more u top.0 (u.apart ++ top.0 ∷ []) (λ x has. in-more ctx x u.apart top.0 has) (λ x has. in-last ctx x u.apart top.0 has) covered;
            operands = λ x has. in-more ctx x u.apart top.0 (covered.operands x has);
          },
        )
    row-beside u_hyp u s extra covered all e =
        from_need (is_empty u.targets) k.UnifyRest _ s e λ empty e1.
        from_bind (next_hypothesis mode u.items) _ s e1 λ next next-is e2.
        let s' : UnifyState Tree = record u { targets = next.0 ∷ []; items = next.1 } in
        let row : unify_step portable_trees sigs ctx mode u_hyp (shown u) ≡ Ok (shown s') = rw (empty, next-is) refl in
        subst (λ (z : UnifyState Tree). Beside u_hyp u z) (taken-is s' s e2) (row, record { heap = covered.heap; operands = covered.operands })
    row-beside u_end u s extra covered all e =
        from_need (is_empty u.targets && nothing_left mode u.items) k.UnifyRest _ s e λ ended e1.
        let row : unify_step portable_trees sigs ctx mode u_end (shown u) ≡ Ok (shown u) = rw ended refl in
        subst (λ (z : UnifyState Tree). Beside u_end u z) (taken-is u s e1) (row, covered)

    by-beside : (len : ℕ) (u : UnifyState Tree) (o : Option UnifyCommand) (t : Turn (UnifyState Tree)) (extra : List Tree) → Covered u → final ≡ (after t).heap ++ extra → unify_turn_by strict sigs ctx mode len u o ≡ Ok t
        → (unify_turn_by portable_trees sigs ctx mode len (shown u) o ≡ Ok (shown_turn t)) × Covered (after t)
    by-beside len u None t extra covered all e = absurd cc
    by-beside len u (Some u_end) t extra covered all e =
        from_bind (unify_step strict sigs ctx mode u_end u) _ t e λ s row e1.
        let is : over s ≡ t = taken-is (over s) t e1 in
        let (run, next) = row-beside u_end u s extra covered (subst (λ (z : Turn (UnifyState Tree)). final ≡ (after z).heap ++ extra) (sym is) all) row in
        subst (λ (z : Turn (UnifyState Tree)). (unify_turn_by portable_trees sigs ctx mode len (shown u) (Some u_end) ≡ Ok (shown_turn z)) × Covered (after z)) is
        (ap (λ (z : Result (UnifyState Tree) K). z >>= λ s. Ok (over s)) run, next)
    by-beside len u (Some c) t extra covered all e =
        from_bind (unify_step strict sigs ctx mode c u) _ t e λ s row e1.
        let is : goes_on len s ≡ t = taken-is (goes_on len s) t e1 in
        let (run, next) = row-beside c u s extra covered (subst (λ (z : Turn (UnifyState Tree)). final ≡ (after z).heap ++ extra) (sym is) all) row in
        subst (λ (z : Turn (UnifyState Tree)). (unify_turn_by portable_trees sigs ctx mode len (shown u) (Some c) ≡ Ok (shown_turn z)) × Covered (after z)) is
        (ap (λ (z : Result (UnifyState Tree) K). z >>= λ s. Ok (goes_on len s)) run, next)

    turn-beside : (u : UnifyState Tree) (r : Result Cmd CmdFault) (t : Turn (UnifyState Tree)) (extra : List Tree) → Covered u → final ≡ (after t).heap ++ extra → unify_turn strict sigs ctx mode u r ≡ Ok t
        → (unify_turn portable_trees sigs ctx mode (shown u) r ≡ Ok (shown_turn t)) × Covered (after t)
    turn-beside u (Err d) t extra covered all e = absurd cc
    turn-beside u (Ok c) t extra covered all e = by-beside c.len u (unify_command (kind_of mode) c.code c.value) t extra covered all e

    from-beside : (n at : ℕ) (bytes : List ℕ) (u last : UnifyState Tree) → Covered u → final ≡ last.heap → unify_from strict sigs ctx mode n at bytes u ≡ Ok last
        → unify_from portable_trees sigs ctx mode n at bytes (shown u) ≡ Ok (shown last)
    unfolding unify_from
    from-beside zero at bytes u last covered all e = absurd cc
    from-beside (suc n) at bytes u last covered all e =
        from-follow at (unify_turn strict sigs ctx mode u (first_command bytes)) _ last e
        (λ s turn is.
        let (run, next) = turn-beside u (first_command bytes) (over s) [] covered (all ∙ ap (λ (z : UnifyState Tree). z.heap) (sym is) ∙ sym (append-nil s.heap)) turn in
        ap (λ (z : Result (Turn (UnifyState Tree)) K). follow (at_place at z) (λ len s. unify_from portable_trees sigs ctx mode n (at + len) (drop len bytes) s)) run ∙ ap (λ (z : UnifyState Tree). Ok (shown z)) is)
        λ len s turn later.
        let (extra, grew) = from-grows n (at + len) (drop len bytes) s last later in
        let (run, next) = turn-beside u (first_command bytes) (goes_on len s) extra covered (all ∙ grew) turn in
        ap (λ (z : Result (Turn (UnifyState Tree)) K). follow (at_place at z) (λ len s. unify_from portable_trees sigs ctx mode n (at + len) (drop len bytes) s)) run
        ∙ from-beside n (at + len) (drop len bytes) s last next all later

    unify-beside : (stream : List ℕ) (e : Tree) (u : UnifyState Tree) → mode ≡ in_definition → final ≡ u.heap → unify strict sigs ctx (record { mode = mode; stream = stream; operands = es; target = e; items = [] }) ≡ Ok u
        → unify portable_trees sigs ctx (record { mode = mode; stream = stream; operands = es; target = e; items = [] }) ≡ Ok (shown u)
    unfolding unify
    unify-beside stream e u is all done =
        let st : UnifyState Tree = record { heap = es; apart = es; targets = e ∷ []; items = [] } in
        from-beside (length stream) 0 stream st u (record { heap = λ i x d at has. in-some ctx x es i d at has; operands = λ x has. has }) all done

pub whole-streams : WholeStreamsRunToo
whole-streams sigs ctx params stream body marks text whole es e heap len sorted (u, done, heap-is, left) =
    let (ys, fresh, e-is, heap-are) = (unfoldings-exact sigs ctx params stream body marks text es e heap len sorted).0 (u, done, heap-is, left) in
    (record u { apart = u.heap }, unify-beside sigs ctx in_definition es ys marks.trees whole stream e u refl (sym heap-are ∙ sym heap-is) done, heap-is)

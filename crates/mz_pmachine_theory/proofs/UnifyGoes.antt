-- A stream that runs in one machine runs in another that has its expressions. What a dummy is kept apart from may be less
-- there.
use Rattle.std.proofs.Common.{◌≡◌, ℕ, zero, suc, ◌+◌, Bool, true, false, not, cond, List, [], ◌∷◌, ◌++◌, length, drop, map, Option, Some, None, Result, Ok, Err, refl, ap, ap₂, subst, ◌∙◌}
use Rattle.std.specs.Prelude.{slice_get, ◌&&◌, ◌==◌}
use Rattle.std.proofs.lemmas.List.{map-append}
use Rattle.std.proofs.lemmas.Bool.{and_from, or_from, or_parts}
use Rattle.mz_base.proofs.Offered.{both-true, slice_get-map_at}
use Rattle.mz_cmd.specs.declared.rule.K.TheVariants as k
use Rattle.mz_cmd.specs.declared.command.Cmd.{Cmd}
use Rattle.mz_cmd.specs.declared.command.CmdFault.{CmdFault}
use Rattle.mz_cmd.specs.Reading.{first_command}
use Rattle.mz_logic_theory.specs.Tree.{Tree}
use Rattle.mz_logic_theory.specs.Signature.{Signature}
use Rattle.mz_logic_theory.specs.Legality.{sort_of}
use Rattle.mz_logic_theory.specs.declared.binder.Binder.{Binder}
use Rattle.mz_machine_theory.specs.Steps.{◌>>=◌, want}
use Rattle.mz_machine_theory.specs.Streams.{UnifyCommand, u_term, u_term_save, u_ref, u_dummy, u_hyp, u_end, unify_command}
use Rattle.mz_machine_theory.specs.Tests.{var_within, is_bound_var}
use Rattle.mz_machine_theory.specs.Profile.{Profile, Item, expr, proof, obligation, conversion}
use Rattle.mz_machine_theory.specs.UnifyMachine.{UnifyMode, in_citation, at_end, in_definition, kind_of, Matching, UnifyState, top_target, is_empty, proved_by, next_hypothesis, operands_of, within_any, is_fresh, nothing_left, unify_step, unify_turn_by, unify_turn, unify_from, at_start, unify}
use Rattle.mz_pmachine_theory.specs.Simulation.{item_onto, items_onto, matching_onto}
use Rattle.mz_pmachine_theory.proofs.Going.{Goes, Is, TurnIs, goes-to, goes-on, goes-need, goes-want, goes-over, goes-further, goes-follow}
use Rattle.mz_pmachine_theory.proofs.Embeds.{Embeds, operands-are}

pub fresh-too : (a b within less : Bool) → (within ≡ false → less ≡ false) → (a && b && not within) ≡ true → (a && b && not less) ≡ true
fresh-too true true false less none e = ap not (none refl)
fresh-too true true true less none e = absurd cc
fresh-too true false within less none e = absurd cc
fresh-too false b within less none e = absurd cc

empty-mapped : {A B : Type 0} (f : A → B) (xs : List A) → is_empty xs ≡ true → is_empty (map f xs) ≡ true
empty-mapped f [] e = refl
empty-mapped f (x ∷ xs) e = absurd cc

-- a variable in V of none of these, and of one more
module _ (P : Profile) (ctx : List Binder) where
  none-more : (e : P.T) (xs : List P.T) (x : P.T) → within_any P ctx e xs ≡ false → var_within ctx (P.tree e) (P.tree x) ≡ false → within_any P ctx e (xs ++ x ∷ []) ≡ false
  none-more e [] x p q = or_from (var_within ctx (P.tree e) (P.tree x)) false q refl
  none-more e (y ∷ xs) x p q =
      let (here, there) = or_parts (var_within ctx (P.tree e) (P.tree y)) (within_any P ctx e xs) p in
      or_from (var_within ctx (P.tree e) (P.tree y)) (within_any P ctx e (xs ++ x ∷ [])) here (none-more e xs x there q)

  none-less : (e : P.T) (xs : List P.T) (x : P.T) → within_any P ctx e (xs ++ x ∷ []) ≡ false → (within_any P ctx e xs ≡ false) × (var_within ctx (P.tree e) (P.tree x) ≡ false)
  none-less e [] x h = let (here, there) = or_parts (var_within ctx (P.tree e) (P.tree x)) false h in (refl, here)
  none-less e (y ∷ xs) x h =
      let (here, there) = or_parts (var_within ctx (P.tree e) (P.tree y)) (within_any P ctx e (xs ++ x ∷ [])) h in
      let (before, last) = none-less e xs x there in
      (or_from (var_within ctx (P.tree e) (P.tree y)) (within_any P ctx e xs) here before, last)

module _ (P Q : Profile) (f : P.T → Q.T) (Right : ℕ → P.T → Type 0) (embeds : Embeds P Q f Right) (sigs : List Signature) (ctx : List Binder) where
  -- what is in V of none of the first is in V of none of the others
  abbrev Covers : List P.T → List Q.T → Type 0
  Covers xs ys = (e : P.T) → within_any P ctx e xs ≡ false → within_any Q ctx (f e) ys ≡ false

  var-within : (e x : P.T) → var_within ctx (P.tree e) (P.tree x) ≡ false → var_within ctx (Q.tree (f e)) (Q.tree (f x)) ≡ false
  var-within e x h = ap₂ (λ (v w : Tree). var_within ctx v w) (embeds.tree_is e) (embeds.tree_is x) ∙ h

  covers-all : (xs : List P.T) → Covers xs (map f xs)
  covers-all [] e h = refl
  covers-all (x ∷ xs) e h =
      let (here, there) = or_parts (var_within ctx (P.tree e) (P.tree x)) (within_any P ctx e xs) h in
      or_from (var_within ctx (Q.tree (f e)) (Q.tree (f x))) (within_any Q ctx (f e) (map f xs)) (var-within e x here) (covers-all xs e there)

  covers-both : (xs : List P.T) (ys : List Q.T) (x : P.T) → Covers xs ys → Covers (xs ++ x ∷ []) (ys ++ f x ∷ [])
  covers-both xs ys x covers e h =
      let (before, last) = none-less P ctx e xs x h in
      none-more Q ctx (f e) ys (f x) (covers e before) (var-within e x last)

  covers-saved : (b c : Bool) (xs : List P.T) (ys : List Q.T) (x : P.T) → (c ≡ true → b ≡ true) → Covers xs ys → Covers (cond b (xs ++ x ∷ []) xs) (cond c (ys ++ f x ∷ []) ys)
  covers-saved true true xs ys x less covers = covers-both xs ys x covers
  covers-saved true false xs ys x less covers = λ e h. covers e (none-less P ctx e xs x h).0
  covers-saved false true xs ys x less covers = λ e h. absurd (let same : false ≡ true = less refl in cc)
  covers-saved false false xs ys x less covers = covers

  -- the state as the other machine has it, with what a dummy is kept apart from there
  abbrev shown : UnifyState P.T → List Q.T → UnifyState Q.T
  shown u ys = record { heap = map f u.heap; apart = ys; targets = map f u.targets; items = items_onto f u.items }

  abbrev pub Shows : UnifyState P.T → UnifyState Q.T → Type 0
  Shows u v = (ys : List Q.T) × Covers u.apart ys × (shown u ys ≡ v)

  abbrev top_onto : P.T × List P.T → Q.T × List Q.T
  top_onto p = (f p.0, map f p.1)

  top-goes : (es : List P.T) → Goes (Is top_onto) (top_target es) (top_target (map f es))
  top-goes [] = λ x e. absurd cc
  top-goes (e ∷ es) = goes-to (Is top_onto) (e, es) (f e, map f es) refl

  abbrev next_onto : P.T × List (Item P.T) → Q.T × List (Item Q.T)
  next_onto p = (f p.0, items_onto f p.1)

  proved-by : (x : Item P.T) (e : P.T) → proved_by x ≡ Some e → proved_by (item_onto f x) ≡ Some (f e)
  proved-by (expr a) e h = absurd cc
  proved-by (proof a) e h = cc
  proved-by (obligation l r) e h = absurd cc
  proved-by (conversion l r) e h = absurd cc

  taken-goes : (x : Item P.T) (xs : List (Item P.T))
      → Goes (Is next_onto) (want (proved_by x) k.Kind >>= λ e. Ok (e, xs)) (want (proved_by (item_onto f x)) k.Kind >>= λ e. Ok (e, items_onto f xs))
  taken-goes x xs = goes-want f (Is next_onto) (proved_by x) (proved_by (item_onto f x)) k.Kind _ _ (proved-by x) λ e. goes-to (Is next_onto) (e, xs) (f e, items_onto f xs) refl

  next-goes : (mode : UnifyMode) (xs : List (Item P.T)) → Goes (Is next_onto) (next_hypothesis mode xs) (next_hypothesis mode (items_onto f xs))
  next-goes in_citation [] = λ y e. absurd cc
  next-goes at_end [] = λ y e. absurd cc
  next-goes in_definition [] = λ y e. absurd cc
  next-goes in_citation (x ∷ xs) = taken-goes x xs
  next-goes at_end (x ∷ xs) = taken-goes x xs
  next-goes in_definition (x ∷ xs) = taken-goes x xs

  nothing-left : (mode : UnifyMode) (xs : List (Item P.T)) → nothing_left mode xs ≡ true → nothing_left mode (items_onto f xs) ≡ true
  nothing-left in_citation xs h = refl
  nothing-left at_end xs h = empty-mapped (item_onto f) xs h
  nothing-left in_definition xs h = refl

  ends-too : (mode : UnifyMode) (es : List P.T) (xs : List (Item P.T)) → (is_empty es && nothing_left mode xs) ≡ true → (is_empty (map f es) && nothing_left mode (items_onto f xs)) ≡ true
  ends-too mode es xs h =
      let (a, b) = both-true (is_empty es) (nothing_left mode xs) h in
      and_from (is_empty (map f es)) (nothing_left mode (items_onto f xs)) (empty-mapped f es a) (nothing-left mode xs b)

  stays-fresh : (s : ℕ) (e : P.T) (xs : List P.T) (ys : List Q.T) → Covers xs ys → is_fresh P sigs ctx s e xs ≡ true → is_fresh Q sigs ctx s (f e) ys ≡ true
  stays-fresh s e xs ys covers h =
      ap (λ (z : Tree). is_bound_var ctx z && sort_of sigs ctx z == s && not (within_any Q ctx (f e) ys)) (embeds.tree_is e)
      ∙ fresh-too (is_bound_var ctx (P.tree e)) (sort_of sigs ctx (P.tree e) == s) (within_any P ctx e xs) (within_any Q ctx (f e) ys) (covers e) h

  module _ (mode : UnifyMode) where
    row-goes : (c : UnifyCommand) (u : UnifyState P.T) (ys : List Q.T) → Covers u.apart ys → Goes Shows (unify_step P sigs ctx mode c u) (unify_step Q sigs ctx mode c (shown u ys))
    unfolding unify_step
    row-goes (u_term t) u ys covers =
        goes-on top_onto Shows (top_target u.targets) (top_target (map f u.targets)) _ _ (top-goes u.targets) λ top.
        goes-want (map f) Shows (operands_of t (P.parts top.0)) (operands_of t (Q.parts (f top.0))) k.UnifyTerm _ _ (operands-are P Q f Right embeds t top.0) λ es.
        goes-to Shows (record u { targets = es ++ top.1 }) (record (shown u ys) { targets = map f es ++ map f top.1 })
        (ys, covers, ap (λ (z : List Q.T). record (shown u ys) { targets = z }) (map-append f es top.1))
    row-goes (u_term_save t) u ys covers =
        goes-on top_onto Shows (top_target u.targets) (top_target (map f u.targets)) _ _ (top-goes u.targets) λ top.
        goes-want (map f) Shows (operands_of t (P.parts top.0)) (operands_of t (Q.parts (f top.0))) k.UnifyTerm _ _ (operands-are P Q f Right embeds t top.0) λ es.
        let after : List Q.T = cond Q.portable (ys ++ f top.0 ∷ []) ys in
        goes-to Shows (record u { targets = es ++ top.1; heap = u.heap ++ top.0 ∷ []; apart = cond P.portable (u.apart ++ top.0 ∷ []) u.apart })
        (record (shown u ys) { targets = map f es ++ map f top.1; heap = map f u.heap ++ f top.0 ∷ []; apart = after }) (
          after,
          covers-saved P.portable Q.portable u.apart ys top.0 embeds.asks_less covers,
          ap₂ (λ (y z : List Q.T). record (shown u after) { targets = y; heap = z }) (map-append f es top.1) (map-append f u.heap (top.0 ∷ [])),
        )
    row-goes (u_ref i) u ys covers =
        goes-on top_onto Shows (top_target u.targets) (top_target (map f u.targets)) _ _ (top-goes u.targets) λ top.
        goes-want f Shows (slice_get u.heap i) (slice_get (map f u.heap) i) k.UnifyReference _ _ (slice_get-map_at f u.heap i) λ e.
        goes-need Shows (P.same e top.0) (Q.same (f e) (f top.0)) k.UnifyReference _ _ (embeds.same_is e top.0)
        (goes-to Shows (record u { targets = top.1 }) (record (shown u ys) { targets = map f top.1 }) (ys, covers, refl))
    row-goes (u_dummy s) u ys covers =
        goes-on top_onto Shows (top_target u.targets) (top_target (map f u.targets)) _ _ (top-goes u.targets) λ top.
        goes-need Shows (is_fresh P sigs ctx s top.0 u.apart) (is_fresh Q sigs ctx s (f top.0) ys) k.UnifyDummy _ _ (stays-fresh s top.0 u.apart ys covers)
        (goes-to Shows (record u { targets = top.1; heap = u.heap ++ top.0 ∷ []; apart = u.apart ++ top.0 ∷ [] })
        (record (shown u ys) { targets = map f top.1; heap = map f u.heap ++ f top.0 ∷ []; apart = ys ++ f top.0 ∷ [] }) (
          ys ++ f top.0 ∷ [],
          covers-both u.apart ys top.0 covers,
          ap (λ (z : List Q.T). record (shown u ys) { targets = map f top.1; heap = z; apart = ys ++ f top.0 ∷ [] }) (map-append f u.heap (top.0 ∷ [])),
        ))
    row-goes u_hyp u ys covers =
        goes-need Shows (is_empty u.targets) (is_empty (map f u.targets)) k.UnifyRest _ _ (empty-mapped f u.targets)
        (goes-on next_onto Shows (next_hypothesis mode u.items) (next_hypothesis mode (items_onto f u.items)) _ _ (next-goes mode u.items) λ next.
        goes-to Shows (record u { targets = next.0 ∷ []; items = next.1 }) (record (shown u ys) { targets = f next.0 ∷ []; items = items_onto f next.1 }) (ys, covers, refl))
    row-goes u_end u ys covers =
        goes-need Shows (is_empty u.targets && nothing_left mode u.items) (is_empty (map f u.targets) && nothing_left mode (items_onto f u.items)) k.UnifyRest _ _ (ends-too mode u.targets u.items)
        (goes-to Shows u (shown u ys) (ys, covers, refl))

    by-goes : (len : ℕ) (u : UnifyState P.T) (ys : List Q.T) (o : Option UnifyCommand) → Covers u.apart ys
        → Goes (TurnIs Shows) (unify_turn_by P sigs ctx mode len u o) (unify_turn_by Q sigs ctx mode len (shown u ys) o)
    by-goes len u ys None covers = λ x e. absurd cc
    by-goes len u ys (Some u_end) covers = goes-over Shows (unify_step P sigs ctx mode u_end u) (unify_step Q sigs ctx mode u_end (shown u ys)) (row-goes u_end u ys covers)
    by-goes len u ys (Some c) covers = goes-further Shows len (unify_step P sigs ctx mode c u) (unify_step Q sigs ctx mode c (shown u ys)) (row-goes c u ys covers)

    turn-goes : (u : UnifyState P.T) (ys : List Q.T) (r : Result Cmd CmdFault) → Covers u.apart ys
        → Goes (TurnIs Shows) (unify_turn P sigs ctx mode u r) (unify_turn Q sigs ctx mode (shown u ys) r)
    turn-goes u ys (Err d) covers = λ x e. absurd cc
    turn-goes u ys (Ok c) covers = by-goes c.len u ys (unify_command (kind_of mode) c.code c.value) covers

    from-goes : (n at : ℕ) (bytes : List ℕ) (u : UnifyState P.T) (ys : List Q.T) → Covers u.apart ys
        → Goes Shows (unify_from P sigs ctx mode n at bytes u) (unify_from Q sigs ctx mode n at bytes (shown u ys))
    unfolding unify_from
    from-goes zero at bytes u ys covers = λ x e. absurd cc
    from-goes (suc n) at bytes u ys covers =
        goes-follow Shows at (unify_turn Q sigs ctx mode (shown u ys) (first_command bytes)) _ _ (unify_turn P sigs ctx mode u (first_command bytes)) (turn-goes u ys (first_command bytes) covers)
        λ len s s' turn (ys', covers', is).
        subst (λ (w : UnifyState Q.T). Goes Shows (unify_from P sigs ctx mode n (at + len) (drop len bytes) s) (unify_from Q sigs ctx mode n (at + len) (drop len bytes) w)) is
        (from-goes n (at + len) (drop len bytes) s ys' covers')

  pub unify-goes : (m : Matching P.T) → Goes Shows (unify P sigs ctx m) (unify Q sigs ctx (matching_onto f m))
  unfolding unify
  unify-goes m = from-goes m.mode (length m.stream) 0 m.stream (at_start m) (map f m.operands) (covers-all m.operands)

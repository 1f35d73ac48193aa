-- What runs by the standard machine runs with what is asked beside numbers, but for Unfold and for definitions: the stream
-- of an assertion has no dummy.
use Rattle.std.proofs.Common.{◌≡◌, ℕ, zero, suc, ◌+◌, Bool, true, false, cond, List, [], ◌∷◌, ◌++◌, length, drop, map, Option, Some, None, Result, Ok, Err, refl, sym, ap, subst, ◌∙◌}
use Rattle.std.specs.Prelude.{slice_get, leb, ◌&&◌, ◌==◌}
use Rattle.mz_cmd.specs.declared.rule.K.{K}
use Rattle.mz_cmd.specs.declared.rule.K.TheVariants as k
use Rattle.mz_cmd.specs.declared.command.Cmd.{Cmd}
use Rattle.mz_cmd.specs.declared.command.CmdFault.{CmdFault}
use Rattle.mz_cmd.specs.declared.code.ProofCode.{ProofCode}
use Rattle.mz_cmd.specs.declared.code.ProofCode.TheVariants as code
use Rattle.mz_cmd.specs.declared.code.UnifyCode.{UnifyCode}
use Rattle.mz_cmd.specs.declared.code.UnifyCode.TheVariants as unify_codes
use Rattle.mz_cmd.specs.Codes.{unify_code}
use Rattle.mz_cmd.specs.Reading.{first_command}
use Rattle.mz_logic_theory.specs.Tree.{Tree, var}
use Rattle.mz_logic_theory.specs.Signature.{Signature}
use Rattle.mz_logic_theory.specs.declared.binder.Binder.{Binder}
use Rattle.mz_machine_theory.specs.Steps.{◌>>=◌, ◌>>◌, need, want}
use Rattle.mz_machine_theory.specs.Streams.{StreamKind, of_assertion, UnifyCommand, u_term, u_term_save, u_ref, u_dummy, u_hyp, u_end, command_in, unify_command}
use Rattle.mz_machine_theory.specs.Tests.{same_tree}
use Rattle.mz_machine_theory.specs.Profile.{strict, tree_parts, Item, expr, proof, obligation, conversion}
use Rattle.mz_machine_theory.specs.UnifyMachine.{UnifyMode, in_citation, at_end, kind_of, Matching, UnifyState, top_target, is_empty, next_hypothesis, operands_of, nothing_left, unify_step, unify_turn_by, unify_turn, unify_from, at_start, unify}
use Rattle.mz_machine_theory.proofs.Offered.{from_bind, from_then, from_want, taken-is, bind-same}
use Rattle.mz_machine_theory.specs.MachineState.{RowsBefore, signatures_in, State, Kind, is_axiom, is_theorem, is_definition, Heading}
use Rattle.mz_machine_theory.specs.Premises.{pop_expr, pop_operands, is_conversion, operands_fit, are_disjoint}
use Rattle.mz_machine_theory.specs.ProofMachine.{push, saved, built, citation, matched_by, cited, referred, has_provable_sort, proof_step, last_item, as_proofs, own_variables, own_stream, ending, ends_with, proof_end}
use Rattle.mz_pmachine_theory.specs.SharedBuilding.{portable_trees}
use Rattle.mz_pmachine_theory.specs.Laws.{AssertionsRunToo, RowsRunToo, EndsRunToo}
use Rattle.mz_pmachine_theory.proofs.Going.{Goes, Is, TurnIs, goes-to, goes-on, goes-need, goes-want, goes-rule, goes-over, goes-further, goes-follow}

-- the same step
goes-same : {A F : Type 0} (r : Result A F) → Goes (Is λ x. x) r r
goes-same r x e = (x, e, refl)

-- ---- streams without dummies

abbrev NoDummy : Option UnifyCommand → Type 0
NoDummy o = (s : ℕ) → o ≡ Some (u_dummy s) → ⊥

none-in : (value : ℕ) (o : Option UnifyCode) → NoDummy (command_in of_assertion value o)
none-in value None s e = cc
none-in value (Some unify_codes.Term) s e = cc
none-in value (Some unify_codes.TermSave) s e = cc
none-in value (Some unify_codes.Ref) s e = cc
none-in value (Some unify_codes.Dummy) s e = cc
none-in value (Some unify_codes.Hyp) s e = cc

none-by : (b : Bool) (o : Option UnifyCommand) → NoDummy o → NoDummy (cond b (Some u_end) o)
none-by true o none s e = cc
none-by false o none s e = none s e

no-dummy : (kind : StreamKind) → kind ≡ of_assertion → (byte value : ℕ) → NoDummy (unify_command kind byte value)
no-dummy kind is byte value = subst (λ (z : StreamKind). NoDummy (unify_command z byte value)) (sym is) (none-by (byte == 0x00) (command_in of_assertion value (unify_code byte)) (none-in value (unify_code byte)))

-- the same but for what a dummy is kept apart from
abbrev Same : UnifyState Tree → UnifyState Tree → Type 0
Same u v = (ys : List Tree) × (record u { apart = ys } ≡ v)

module _ (sigs : List Signature) (ctx : List Binder) (mode : UnifyMode) where
  row-same : (c : UnifyCommand) (u : UnifyState Tree) (ys : List Tree) → NoDummy (Some c) → Goes Same (unify_step strict sigs ctx mode c u) (unify_step portable_trees sigs ctx mode c (record u { apart = ys }))
  unfolding unify_step
  row-same (u_term t) u ys none =
      goes-on (λ x. x) Same (top_target u.targets) (top_target u.targets) _ _ (goes-same (top_target u.targets)) λ top.
      goes-want (λ x. x) Same (operands_of t (tree_parts top.0)) (operands_of t (tree_parts top.0)) k.UnifyTerm _ _ (λ x there. there) λ es.
      goes-to Same (record u { targets = es ++ top.1 }) (record u { targets = es ++ top.1; apart = ys }) (ys, refl)
  row-same (u_term_save t) u ys none =
      goes-on (λ x. x) Same (top_target u.targets) (top_target u.targets) _ _ (goes-same (top_target u.targets)) λ top.
      goes-want (λ x. x) Same (operands_of t (tree_parts top.0)) (operands_of t (tree_parts top.0)) k.UnifyTerm _ _ (λ x there. there) λ es.
      goes-to Same (record u { targets = es ++ top.1; heap = u.heap ++ top.0 ∷ [] }) (record u { targets = es ++ top.1; heap = u.heap ++ top.0 ∷ []; apart = ys ++ top.0 ∷ [] }) (ys ++ top.0 ∷ [], refl)
  row-same (u_ref i) u ys none =
      goes-on (λ x. x) Same (top_target u.targets) (top_target u.targets) _ _ (goes-same (top_target u.targets)) λ top.
      goes-want (λ x. x) Same (slice_get u.heap i) (slice_get u.heap i) k.UnifyReference _ _ (λ x there. there) λ e.
      goes-need Same (same_tree e top.0) (same_tree e top.0) k.UnifyReference _ _ (λ h. h)
      (goes-to Same (record u { targets = top.1 }) (record u { targets = top.1; apart = ys }) (ys, refl))
  row-same (u_dummy s) u ys none = absurd (none s refl)
  row-same u_hyp u ys none =
      goes-need Same (is_empty u.targets) (is_empty u.targets) k.UnifyRest _ _ (λ h. h)
      (goes-on (λ x. x) Same (next_hypothesis mode u.items) (next_hypothesis mode u.items) _ _ (goes-same (next_hypothesis mode u.items)) λ next.
      goes-to Same (record u { targets = next.0 ∷ []; items = next.1 }) (record u { targets = next.0 ∷ []; items = next.1; apart = ys }) (ys, refl))
  row-same u_end u ys none =
      goes-need Same (is_empty u.targets && nothing_left mode u.items) (is_empty u.targets && nothing_left mode u.items) k.UnifyRest _ _ (λ h. h)
      (goes-to Same u (record u { apart = ys }) (ys, refl))

  by-same : (len : ℕ) (u : UnifyState Tree) (ys : List Tree) (o : Option UnifyCommand) → NoDummy o
      → Goes (TurnIs Same) (unify_turn_by strict sigs ctx mode len u o) (unify_turn_by portable_trees sigs ctx mode len (record u { apart = ys }) o)
  by-same len u ys None none = λ x e. absurd cc
  by-same len u ys (Some u_end) none = goes-over Same (unify_step strict sigs ctx mode u_end u) (unify_step portable_trees sigs ctx mode u_end (record u { apart = ys })) (row-same u_end u ys none)
  by-same len u ys (Some c) none = goes-further Same len (unify_step strict sigs ctx mode c u) (unify_step portable_trees sigs ctx mode c (record u { apart = ys })) (row-same c u ys none)

  turn-same : kind_of mode ≡ of_assertion → (u : UnifyState Tree) (ys : List Tree) (r : Result Cmd CmdFault)
      → Goes (TurnIs Same) (unify_turn strict sigs ctx mode u r) (unify_turn portable_trees sigs ctx mode (record u { apart = ys }) r)
  turn-same kind u ys (Err d) = λ x e. absurd cc
  turn-same kind u ys (Ok c) = by-same c.len u ys (unify_command (kind_of mode) c.code c.value) (no-dummy (kind_of mode) kind c.code c.value)

  from-same : kind_of mode ≡ of_assertion → (n at : ℕ) (bytes : List ℕ) (u : UnifyState Tree) (ys : List Tree)
      → Goes Same (unify_from strict sigs ctx mode n at bytes u) (unify_from portable_trees sigs ctx mode n at bytes (record u { apart = ys }))
  unfolding unify_from
  from-same kind zero at bytes u ys = λ x e. absurd cc
  from-same kind (suc n) at bytes u ys =
      goes-follow Same at (unify_turn portable_trees sigs ctx mode (record u { apart = ys }) (first_command bytes)) _ _ (unify_turn strict sigs ctx mode u (first_command bytes)) (turn-same kind u ys (first_command bytes))
      λ len s s' turn (ys', is).
      subst (λ (w : UnifyState Tree). Goes Same (unify_from strict sigs ctx mode n (at + len) (drop len bytes) s) (unify_from portable_trees sigs ctx mode n (at + len) (drop len bytes) w)) is
      (from-same kind n (at + len) (drop len bytes) s ys')

unify-same : (sigs : List Signature) (ctx : List Binder) (m : Matching Tree) → kind_of m.mode ≡ of_assertion → Goes Same (unify strict sigs ctx m) (unify portable_trees sigs ctx m)
unfolding unify
unify-same sigs ctx m kind = from-same sigs ctx m.mode kind (length m.stream) 0 m.stream (at_start m) m.operands

pub streams-too : AssertionsRunToo
streams-too sigs ctx m u kind e =
    let (v, run, (ys, is)) = unify-same sigs ctx m kind u e in
    (v, run, sym (ap (λ (z : UnifyState Tree). z.heap) is), sym (ap (λ (z : UnifyState Tree). z.items) is))

-- ---- rows

-- whatever reads a matching of an assertion
abbrev OfAssertion : Matching Tree → Type 0
OfAssertion m = kind_of m.mode ≡ of_assertion

module _ (tables : RowsBefore) where
  matched-same : (ctx : List Binder) (m : Matching Tree) → OfAssertion m → Goes Same (matched_by strict tables ctx m) (matched_by portable_trees tables ctx m)
  matched-same ctx m kind = goes-rule Same (unify strict (signatures_in tables) ctx m) (unify portable_trees (signatures_in tables) ctx m) (unify-same (signatures_in tables) ctx m kind)

  citation-same : (t : ℕ) (st : State Tree) → citation portable_trees tables t st ≡ citation strict tables t st
  unfolding citation
  citation-same t st = refl

  citation-of : (t : ℕ) (st : State Tree) (m : Matching Tree) → citation strict tables t st ≡ Ok m → OfAssertion m
  unfolding citation
  citation-of t st m e =
      from_want (slice_get tables.thms t) k.TheoremIndex _ m e λ row row-at e1.
      from_then (need (leb (suc (length row.params)) (length st.stack)) k.Underflow) _ m e1 λ _ _ e2.
      from_bind (pop_expr st.stack) _ m e2 λ x _ e3.
      from_bind (pop_operands (length row.params) x.1) _ m e3 λ es _ e4.
      from_then (operands_fit (signatures_in tables) st.ctx (map (λ (e : Tree). e) es.0) row.params) _ m e4 λ _ _ e5.
      from_then (need (are_disjoint st.ctx (map (λ (e : Tree). e) es.0) row.params) k.Disjoint) _ m e5 λ _ _ e6.
      ap (λ (z : Matching Tree). kind_of z.mode) (sym (taken-is (record { mode = in_citation; stream = row.stream; operands = es.0; target = x.0; items = es.1 }) m e6))

  -- what comes of a matching, with the items that are left
  after-match : {B : Type 0} (ctx : List Binder) (r r' : Result (Matching Tree) K) (g : Matching Tree → List (Item Tree) → B) (b : B)
      → r' ≡ r → ((m : Matching Tree) → r ≡ Ok m → OfAssertion m)
      → (r >>= λ m. matched_by strict tables ctx m >>= λ u. Ok (g m u.items)) ≡ Ok b → (r' >>= λ m. matched_by portable_trees tables ctx m >>= λ u. Ok (g m u.items)) ≡ Ok b
  after-match {B = B} ctx (Err d) r' g b same kind e = absurd cc
  after-match {B = B} ctx (Ok m) r' g b same kind e =
      ap (λ (z : Result (Matching Tree) K). z >>= λ m. matched_by portable_trees tables ctx m >>= λ u. Ok (g m u.items)) same
      ∙ from_bind (matched_by strict tables ctx m) _ b e λ u run e1.
      let (v, run', (ys, is)) = matched-same ctx m (kind m refl) u run in
      ap (λ (z : Result (UnifyState Tree) K). z >>= λ u. Ok (g m u.items)) run' ∙ ap (λ (z : UnifyState Tree). Ok (g m z.items)) (sym is) ∙ e1

  cited-too : (t : ℕ) (st : State Tree) (x : Tree × List (Item Tree)) → cited strict tables t st ≡ Ok x → cited portable_trees tables t st ≡ Ok x
  unfolding cited
  cited-too t st x e = after-match st.ctx (citation strict tables t st) (citation portable_trees tables t st) (λ m items. (m.target, items)) x (citation-same t st) (citation-of t st) e

  -- a step on what is cited
  on-cited : (t : ℕ) (st s : State Tree) (g : Tree × List (Item Tree) → State Tree)
      → (cited strict tables t st >>= λ x. Ok (g x)) ≡ Ok s → (cited portable_trees tables t st >>= λ x. Ok (g x)) ≡ Ok s
  on-cited t st s g e =
      from_bind (cited strict tables t st) _ s e λ x run e1.
      ap (λ (z : Result (Tree × List (Item Tree)) K). z >>= λ x. Ok (g x)) (cited-too t st x run) ∙ e1

  referred-same : (x : Item Tree) (st : State Tree) → referred portable_trees x st ≡ referred strict x st
  referred-same (expr a) st = refl
  referred-same (proof a) st = refl
  referred-same (obligation l r) st = refl
  referred-same (conversion l r) st = refl

  built-same : (at t : ℕ) (st : State Tree) → built portable_trees tables at t st ≡ built strict tables at t st
  unfolding built
  built-same at t st = refl

  row-too : (at : ℕ) (c : ProofCode) (n : ℕ) (st s : State Tree) → (c ≡ code.Unfold → ⊥) → proof_step strict tables at c n st ≡ Ok s → proof_step portable_trees tables at c n st ≡ Ok s
  unfolding proof_step
  row-too at code.Term n st s other e = ap (λ (z : Result (Tree × List (Item Tree)) K). z >>= λ x. Ok (push (expr x.0) x.1 st)) (built-same at n st) ∙ e
  row-too at code.TermSave n st s other e = ap (λ (z : Result (Tree × List (Item Tree)) K). z >>= λ x. Ok (saved (expr x.0) (push (expr x.0) x.1 st))) (built-same at n st) ∙ e
  row-too at code.Ref n st s other e = bind-same (want (slice_get st.heap n) k.HeapIndex) _ _ (λ x. referred-same x st) ∙ e
  row-too at code.ConvRef n st s other e = bind-same (want (slice_get st.heap n) k.HeapIndex) _ _ (λ x. ap (λ (z : Result (State Tree) K). need (is_conversion x) k.Kind >> z) (referred-same x st)) ∙ e
  row-too at code.Dummy n st s other e = e
  row-too at code.Thm n st s other e = on-cited n st s (λ x. push (proof x.0) x.1 st) e
  row-too at code.ThmSave n st s other e = on-cited n st s (λ x. saved (proof x.0) (push (proof x.0) x.1 st)) e
  row-too at code.Hyp n st s other e = e
  row-too at code.Conv n st s other e = e
  row-too at code.Refl n st s other e = e
  row-too at code.Symm n st s other e = e
  row-too at code.Cong n st s other e = e
  row-too at code.Unfold n st s other e = absurd (other refl)
  row-too at code.ConvCut n st s other e = e
  row-too at code.ConvSave n st s other e = e
  row-too at code.Save n st s other e = e
  row-too at code.Sorry n st s other e = absurd cc

pub rows-too : RowsRunToo
rows-too tables at c value st s other e = row-too tables at c value st s other e

-- ---- the END

own-same : (i : ℕ) (bs : List Binder) → own_variables portable_trees i bs ≡ own_variables strict i bs
own-same i [] = refl
own-same i (b ∷ bs) = ap (λ (z : List Tree). var i ∷ z) (own-same (suc i) bs)

module _ (tables : RowsBefore) (h : Heading) where
  stream-same : (mode : UnifyMode) (e : Tree) (items : List (Item Tree)) → own_stream portable_trees h mode e items ≡ own_stream strict h mode e items
  stream-same mode e items = ap (λ (z : List Tree). record { mode = mode; stream = h.stream; operands = z; target = e; items = items }) (own-same 0 h.params)

  ending-same : (st : State Tree) (kind : Kind) (e : Tree) → (kind ≡ is_definition → ⊥) → ending portable_trees tables h st kind e ≡ ending strict tables h st kind e
  ending-same st is_axiom e other = ap (λ (z : Matching Tree). need (has_provable_sort strict tables st.ctx e) k.NotProvable >> Ok z) (stream-same at_end e (as_proofs st.hyps))
  ending-same st is_theorem e other = ap (λ (z : Matching Tree). Ok z) (stream-same at_end e (as_proofs st.hyps))
  ending-same st is_definition e other = absurd (other refl)

  ending-of : (st : State Tree) (kind : Kind) (e : Tree) (m : Matching Tree) → (kind ≡ is_definition → ⊥) → ending strict tables h st kind e ≡ Ok m → OfAssertion m
  ending-of st is_axiom e m other d =
      from_then (need (has_provable_sort strict tables st.ctx e) k.NotProvable) _ m d λ _ _ d1.
      ap (λ (z : Matching Tree). kind_of z.mode) (sym (taken-is (own_stream strict h at_end e (as_proofs st.hyps)) m d1))
  ending-of st is_theorem e m other d = ap (λ (z : Matching Tree). kind_of z.mode) (sym (taken-is (own_stream strict h at_end e (as_proofs st.hyps)) m d))
  ending-of st is_definition e m other d = absurd (other refl)

  ends-same : (st : State Tree) → (h.kind ≡ is_definition → ⊥) → ends_with portable_trees tables h st ≡ ends_with strict tables h st
  unfolding ends_with
  ends-same st other = bind-same (last_item h.kind st.stack) _ _ λ e. ending-same st h.kind e other

  ends-of : (st : State Tree) (m : Matching Tree) → (h.kind ≡ is_definition → ⊥) → ends_with strict tables h st ≡ Ok m → OfAssertion m
  unfolding ends_with
  ends-of st m other e = from_bind (last_item h.kind st.stack) _ m e λ x _ e1. ending-of st h.kind x m other e1

  end-too : (st s : State Tree) → (h.kind ≡ is_definition → ⊥) → proof_end strict tables h st ≡ Ok s → proof_end portable_trees tables h st ≡ Ok s
  unfolding proof_end
  end-too st s other e = after-match tables st.ctx (ends_with strict tables h st) (ends_with portable_trees tables h st) (λ m items. st) s (ends-same st other) (λ m. ends-of st m other) e

pub ends-too : EndsRunToo
ends-too tables h st s other e = end-too tables h st s other e

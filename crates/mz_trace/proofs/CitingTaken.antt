-- In a citation a stream takes proofs alone, from the top of the items.
use Rattle.std.proofs.Common.{◌≡◌, ℕ, zero, suc, ◌+◌, true, List, [], ◌∷◌, ◌++◌, drop, length, map, Option, Some, None, Result, Ok, Err, refl, ap, subst, ◌∙◌, arith, length-append}
use Rattle.std.specs.Prelude.{slice_get, ◌&&◌}
use Rattle.std.proofs.lemmas.List.{length-map}
use Rattle.mz_cmd.specs.declared.rule.K.{K}
use Rattle.mz_cmd.specs.declared.rule.K.TheVariants as k
use Rattle.mz_cmd.specs.declared.command.Cmd.{Cmd}
use Rattle.mz_cmd.specs.declared.command.CmdFault.{CmdFault}
use Rattle.mz_cmd.specs.Reading.{first_command}
use Rattle.mz_logic_theory.specs.Tree.{Tree}
use Rattle.mz_logic_theory.specs.Signature.{Signature}
use Rattle.mz_logic_theory.specs.declared.binder.Binder.{Binder}
use Rattle.mz_machine_theory.specs.Steps.{at_place, Turn, over, goes_on, follow}
use Rattle.mz_machine_theory.specs.Streams.{of_assertion, UnifyCommand, u_term, u_term_save, u_ref, u_dummy, u_hyp, u_end, unify_command}
use Rattle.mz_machine_theory.specs.Profile.{strict, tree_parts, Item, proof}
use Rattle.mz_machine_theory.specs.Tests.{same_tree}
use Rattle.mz_machine_theory.specs.UnifyLaws.{citing}
use Rattle.mz_machine_theory.specs.UnifyMachine.{in_citation, UnifyState, top_target, is_empty, next_hypothesis, operands_of, is_fresh, unify_step, unify_turn_by, unify_turn, unify_from, unify}
use Rattle.mz_machine_theory.proofs.Offered.{from_bind, from_need, from_want, taken, taken-is, hypothesis-is}

-- of the items, proofs of some expressions are taken, and these are left
abbrev pub Takes : List (Item Tree) → List (Item Tree) → Type 0
Takes xs ys = (es : List Tree) × (xs ≡ map proof es ++ ys)

takes-one : (xs ys zs : List (Item Tree)) (e : Tree) → xs ≡ proof e ∷ ys → Takes ys zs → Takes xs zs
takes-one xs ys zs e p (es, q) = (e ∷ es, p ∙ ap (λ z. proof e ∷ z) q)

-- as many as there are fewer
pub many-taken : (es : List Tree) (xs ys : List (Item Tree)) (n : ℕ) → xs ≡ map proof es ++ ys → length xs ≡ length ys + n → length es ≡ n
many-taken es xs ys n is many =
    let all : length xs ≡ length (map proof es) + length ys = ap length is ∙ length-append (map proof es) ys in
    let each : length (map proof es) ≡ length es = length-map es proof in
    omega (arith, all, each, many)

abbrev left_of : Turn (UnifyState Tree) → UnifyState Tree
left_of (over s) = s
left_of (goes_on len s) = s

module _ (sigs : List Signature) (ctx : List Binder) where
  -- a command takes none or one
  abbrev TakesFew : List (Item Tree) → List (Item Tree) → Type 0
  TakesFew xs ys = (zs : List (Item Tree)) → Takes ys zs → Takes xs zs

  row-is : (xs : List (Item Tree)) (made s : UnifyState Tree) → taken made ≡ taken s → TakesFew xs made.items → TakesFew xs s.items
  row-is xs made s e h = subst (λ (z : UnifyState Tree). TakesFew xs z.items) (taken-is made s e) h

  row-takes : (u : UnifyCommand) (st s : UnifyState Tree) → unify_step strict sigs ctx in_citation u st ≡ Ok s → TakesFew st.items s.items
  unfolding unify_step
  row-takes (u_term t) st s e =
      from_bind (top_target st.targets) _ s e λ top _ e1.
      from_want (operands_of t (tree_parts top.0)) k.UnifyTerm _ s e1 λ es _ e2.
      row-is st.items (record st { targets = es ++ top.1 }) s e2 (λ zs h. h)
  row-takes (u_term_save t) st s e =
      from_bind (top_target st.targets) _ s e λ top _ e1.
      from_want (operands_of t (tree_parts top.0)) k.UnifyTerm _ s e1 λ es _ e2.
      row-is st.items (record st { targets = es ++ top.1; heap = st.heap ++ top.0 ∷ [] }) s e2 (λ zs h. h)
  row-takes (u_ref i) st s e =
      from_bind (top_target st.targets) _ s e λ top _ e1.
      from_want (slice_get st.heap i) k.UnifyReference _ s e1 λ x _ e2.
      from_need (same_tree x top.0) k.UnifyReference _ s e2 λ _ e3.
      row-is st.items (record st { targets = top.1 }) s e3 (λ zs h. h)
  row-takes (u_dummy d) st s e =
      from_bind (top_target st.targets) _ s e λ top _ e1.
      from_need (is_fresh strict sigs ctx d top.0 st.apart) k.UnifyDummy _ s e1 λ _ e2.
      row-is st.items (record st { targets = top.1; heap = st.heap ++ top.0 ∷ []; apart = st.apart ++ top.0 ∷ [] }) s e2 (λ zs h. h)
  row-takes u_hyp st s e =
      from_need (is_empty st.targets) k.UnifyRest _ s e λ _ e1.
      from_bind (next_hypothesis in_citation st.items) _ s e1 λ r next e2.
      row-is st.items (record st { targets = r.0 ∷ []; items = r.1 }) s e2 (λ zs h. takes-one st.items r.1 zs r.0 (hypothesis-is st.items r next) h)
  row-takes u_end st s e =
      from_need (is_empty st.targets && true) k.UnifyRest _ s e λ _ e1. row-is st.items st s e1 (λ zs h. h)

  turn-takes : (len : ℕ) (st : UnifyState Tree) (t : Turn (UnifyState Tree)) (o : Option UnifyCommand) → unify_turn_by strict sigs ctx in_citation len st o ≡ Ok t → TakesFew st.items (left_of t).items
  turn-takes len st t None e = absurd cc
  turn-takes len st t (Some u_end) e =
      from_bind (unify_step strict sigs ctx in_citation u_end st) _ t e λ s row e1.
      subst (λ (z : Turn (UnifyState Tree)). TakesFew st.items (left_of z).items) (taken-is (over s) t e1) (row-takes u_end st s row)
  turn-takes len st t (Some u) e =
      from_bind (unify_step strict sigs ctx in_citation u st) _ t e λ s row e1.
      subst (λ (z : Turn (UnifyState Tree)). TakesFew st.items (left_of z).items) (taken-is (goes_on len s) t e1) (row-takes u st s row)

  command-takes : (st : UnifyState Tree) (t : Turn (UnifyState Tree)) (r : Result Cmd CmdFault) → unify_turn strict sigs ctx in_citation st r ≡ Ok t → TakesFew st.items (left_of t).items
  command-takes st t (Err f) e = absurd cc
  command-takes st t (Ok c) e = turn-takes c.len st t (unify_command of_assertion c.code c.value) e

  from_follow : {R : Type 0} (at : ℕ) (r : Result (Turn (UnifyState Tree)) K) (rest : ℕ → UnifyState Tree → Result (UnifyState Tree) (ℕ × K)) (y : UnifyState Tree) → follow (at_place at r) rest ≡ Ok y
      → ((s : UnifyState Tree) → r ≡ Ok (over s) → s ≡ y → R) → ((len : ℕ) (s : UnifyState Tree) → r ≡ Ok (goes_on len s) → rest len s ≡ Ok y → R) → R
  from_follow at (Err f) rest y e ended went = absurd cc
  from_follow at (Ok (over s)) rest y e ended went = ended s refl cc
  from_follow at (Ok (goes_on len s)) rest y e ended went = went len s refl e

  from-takes : (n at : ℕ) (bytes : List ℕ) (st u : UnifyState Tree) → unify_from strict sigs ctx in_citation n at bytes st ≡ Ok u → Takes st.items u.items
  unfolding unify_from
  from-takes zero at bytes st u e = absurd cc
  from-takes (suc n) at bytes st u e =
      from_follow at (unify_turn strict sigs ctx in_citation st (first_command bytes)) _ u e
      (λ s ran is. subst (λ (z : UnifyState Tree). Takes st.items z.items) is (command-takes st (over s) (first_command bytes) ran s.items ([], refl)))
      (λ len s ran rest. command-takes st (goes_on len s) (first_command bytes) ran u.items (from-takes n (at + len) (drop len bytes) s u rest))

  pub unify-takes : (stream : List ℕ) (es : List Tree) (e : Tree) (items : List (Item Tree)) (u : UnifyState Tree) → unify strict sigs ctx (citing stream es e items) ≡ Ok u → Takes items u.items
  unfolding unify
  unify-takes stream es e items u done = from-takes (length stream) 0 stream _ u done

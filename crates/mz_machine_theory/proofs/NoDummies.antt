-- The stream of an axiom or a theorem meets no dummies.
use Rattle.std.proofs.Common.{◌≡◌, ℕ, Bool, true, false, cond, eqb, List, [], ◌∷◌, ◌++◌, length, drop, Option, Some, None, Ok, sym, ap, subst, ◌∙◌, inl, inr}
use Rattle.std.specs.Prelude.{slice_get, reverse, ◌&&◌}
use Rattle.mz_cmd.specs.declared.rule.K.TheVariants as k
use Rattle.mz_cmd.specs.declared.code.UnifyCode.{UnifyCode}
use Rattle.mz_cmd.specs.declared.code.UnifyCode.TheVariants as code
use Rattle.mz_cmd.specs.Codes.{unify_code}
use Rattle.mz_logic_theory.specs.Tree.{Tree, Trees, var, app, none, more, listed}
use Rattle.mz_logic_theory.specs.Signature.{Signature}
use Rattle.mz_logic_theory.specs.declared.binder.Binder.{Binder}
use Rattle.mz_machine_theory.specs.Steps.{need}
use Rattle.mz_machine_theory.specs.Streams.{of_assertion, UnifyCommand, u_term, u_term_save, u_ref, u_dummy, u_hyp, u_end, command_in, unify_command, StreamIs}
use Rattle.mz_machine_theory.specs.Spells.{Marks, marked, Spells, SpellsAll, SpellsHyps, at_first, SpellsText}
use Rattle.mz_machine_theory.specs.Profile.{strict, tree_parts}
use Rattle.mz_machine_theory.specs.Tests.{same_tree}
use Rattle.mz_machine_theory.specs.UnifyMachine.{UnifyMode, UnifyState, top_target, is_empty, operands_of, next_hypothesis, nothing_left, unify_step}
use Rattle.mz_machine_theory.proofs.Inverting.{from_bind, from_then, from_need, from_want, taken-is}
use Rattle.mz_machine_theory.proofs.Matching.{run}

-- no command of these is UDummy
abbrev pub Plain : List UnifyCommand → Type 0
Plain [] = Unit {0}
Plain (u_dummy s ∷ us) = ⊥
Plain (u ∷ us) = Plain us

NotDummy : UnifyCommand → Type 0
NotDummy (u_dummy s) = ⊥
NotDummy u = Unit {0}

some-not : (v u : UnifyCommand) → Some v ≡ Some u → NotDummy v → NotDummy u
some-not v u e h = let is : v ≡ u = cc in subst NotDummy is h

no-dummy-in : (value : ℕ) (o : Option UnifyCode) (u : UnifyCommand) → command_in of_assertion value o ≡ Some u → NotDummy u
unfolding NotDummy
no-dummy-in value None u e = absurd cc
no-dummy-in value (Some code.Term) u e = some-not (u_term value) u e tt
no-dummy-in value (Some code.TermSave) u e = some-not (u_term_save value) u e tt
no-dummy-in value (Some code.Ref) u e = some-not (u_ref value) u e tt
no-dummy-in value (Some code.Dummy) u e = absurd cc
no-dummy-in value (Some code.Hyp) u e = some-not u_hyp u e tt

no-dummy : (byte value : ℕ) (u : UnifyCommand) → unify_command of_assertion byte value ≡ Some u → NotDummy u
unfolding NotDummy
no-dummy byte value u e = go (eqb byte 0x00) e
  where
    go : (a : Bool) → cond a (Some u_end) (command_in of_assertion value (unify_code byte)) ≡ Some u → NotDummy u
    go true h = some-not u_end u h tt
    go false h = no-dummy-in value (unify_code byte) u h

plain-cons : (u : UnifyCommand) (us : List UnifyCommand) → NotDummy u → Plain us → Plain (u ∷ us)
unfolding NotDummy
plain-cons (u_dummy s) us h p = h
plain-cons u us h p = p

pub plain-stream : (bytes : List ℕ) (us : List UnifyCommand) → StreamIs of_assertion bytes us → Plain us
plain-stream bytes [] s = tt
plain-stream bytes (u ∷ us) (c, read, is, no-end, s) = plain-cons u us (no-dummy c.code c.value u is) (plain-stream (drop c.len bytes) us s)

plain-head : (v : UnifyCommand) (us : List UnifyCommand) → Plain (v ∷ us) → NotDummy v × Plain us
unfolding NotDummy
plain-head (u_dummy s) us h = absurd h
plain-head (u_term t) us h = (tt, h)
plain-head (u_term_save t) us h = (tt, h)
plain-head (u_ref i) us h = (tt, h)
plain-head u_hyp us h = (tt, h)
plain-head u_end us h = (tt, h)

-- a run without dummies keeps what they are kept apart from
same-apart : (sigs : List Signature) (ctx : List Binder) (mode : UnifyMode) (v : UnifyCommand) (st s : UnifyState Tree) → NotDummy v → unify_step strict sigs ctx mode v st ≡ Ok s → s.apart ≡ st.apart
unfolding unify_step NotDummy
same-apart sigs ctx mode (u_term t) st s plain e =
    from_bind (top_target st.targets) _ s e λ r r-is e1.
    from_want (operands_of t (tree_parts r.0)) k.UnifyTerm _ s e1 λ es at e2.
    sym (ap (λ (z : UnifyState Tree). z.apart) (taken-is (record st { targets = es ++ r.1 }) s e2))
same-apart sigs ctx mode (u_term_save t) st s plain e =
    from_bind (top_target st.targets) _ s e λ r r-is e1.
    from_want (operands_of t (tree_parts r.0)) k.UnifyTerm _ s e1 λ es at e2.
    sym (ap (λ (z : UnifyState Tree). z.apart) (taken-is (record st { targets = es ++ r.1; heap = st.heap ++ r.0 ∷ [] }) s e2))
same-apart sigs ctx mode (u_ref i) st s plain e =
    from_bind (top_target st.targets) _ s e λ r r-is e1.
    from_want (slice_get st.heap i) k.UnifyReference _ s e1 λ x x-at e2.
    from_need (same_tree x r.0) k.UnifyReference _ s e2 λ same e3.
    sym (ap (λ (z : UnifyState Tree). z.apart) (taken-is (record st { targets = r.1 }) s e3))
same-apart sigs ctx mode (u_dummy d) st s plain e = absurd plain
same-apart sigs ctx mode u_hyp st s plain e =
    from_need (is_empty st.targets) k.UnifyRest _ s e λ done e1.
    from_bind (next_hypothesis mode st.items) _ s e1 λ r next e2.
    sym (ap (λ (z : UnifyState Tree). z.apart) (taken-is (record st { targets = r.0 ∷ []; items = r.1 }) s e2))
same-apart sigs ctx mode u_end st s plain e =
    from_then (need (is_empty st.targets && nothing_left mode st.items) k.UnifyRest) _ s e λ x done e1.
    sym (ap (λ (z : UnifyState Tree). z.apart) (taken-is st s e1))

pub plain-apart : (sigs : List Signature) (ctx : List Binder) (mode : UnifyMode) (us : List UnifyCommand) (st u : UnifyState Tree) → Plain us → run sigs ctx mode us st ≡ Ok u → u.apart ≡ st.apart
unfolding NotDummy
plain-apart sigs ctx mode [] st u plain e = same-apart sigs ctx mode u_end st u tt e
plain-apart sigs ctx mode (v ∷ us) st u plain e =
    from_bind (unify_step strict sigs ctx mode v st) _ u e λ s row later.
    let (head, rest) = plain-head v us plain in
    plain-apart sigs ctx mode us s u rest later ∙ same-apart sigs ctx mode v st s head row

-- ---- what is spelled without UDummy meets none

module _ (n : ℕ) (sigs : List Signature) where
  abbrev Kept : Marks → Marks → List UnifyCommand → Type 0
  Kept m m' us' = (m'.dummies ≡ m.dummies) × Plain us'

  mutual
    kept : (p : Tree) (m m' : Marks) (us us' : List UnifyCommand) → Spells n sigs m us p m' us' → Plain us → Kept m m' us'
    kept (var x) m m' us us' (inl (i, are, _, is)) plain = (ap (λ (z : Marks). z.dummies) is, subst Plain are plain)
    kept (var x) m m' us us' (inr (s, are, _, is)) plain = absurd (subst Plain are plain)
    kept (app t es) m m' us us' (inl (i, are, _, is)) plain = (ap (λ (z : Marks). z.dummies) is, subst Plain are plain)
    kept (app t es) m m' us us' (inr (inl (rest, are, _, all))) plain = all-kept es m m' rest us' all (subst Plain are plain)
    kept (app t es) m m' us us' (inr (inr (rest, are, _, all))) plain = all-kept es (marked m (app t es)) m' rest us' all (subst Plain are plain)

    all-kept : (es : Trees) (m m' : Marks) (us us' : List UnifyCommand) → SpellsAll n sigs m us es m' us' → Plain us → Kept m m' us'
    all-kept none m m' us us' (is, are) plain = (ap (λ (z : Marks). z.dummies) is, subst Plain (sym are) plain)
    all-kept (more e es) m m' us us' (mid, rest, first, others) plain =
        let (a, front) = kept e m mid us rest first plain in
        let (b, back) = all-kept es mid m' rest us' others front in
        (b ∙ a, back)

  hyps-kept : (hs : List Tree) (m last : Marks) (us : List UnifyCommand) → SpellsHyps n sigs m us hs last → Plain us → last.dummies ≡ m.dummies
  hyps-kept [] m last us (_, is) plain = ap (λ (z : Marks). z.dummies) is
  hyps-kept (h ∷ hs) m last us (rest, mid, us', are, first, others) plain =
      let (a, front) = kept h m mid rest us' first (subst Plain are plain) in
      hyps-kept hs mid last us' others front ∙ a

pub no-dummies : (sigs : List Signature) (params : List Binder) (stream : List ℕ) (hyps : Trees) (e : Tree) (last : Marks) → SpellsText of_assertion sigs params stream hyps e last → last.dummies ≡ []
no-dummies sigs params stream hyps e last (us, is, mid, rest, spells, others) =
    let (a, front) = kept (length params) sigs e (at_first params) mid us rest spells (plain-stream stream us is) in
    hyps-kept (length params) sigs (reverse (listed hyps)) mid last rest others front ∙ a

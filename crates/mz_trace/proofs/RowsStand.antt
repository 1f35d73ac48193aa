-- Beside each row that goes through something is made, and it stands beside the new state.
use Rattle.std.proofs.Common.{◌≡◌, ℕ, suc, ◌+◌, ◌-◌, Bool, true, false, cond, eqb, leb, ltb, List, [], ◌∷◌, ◌++◌, length, map, drop, Some, None, Ok, refl, sym, ap, subst, ◌∙◌, arith, append_assoc}
use Rattle.std.specs.Prelude.{slice_get, reverse, ⊤, ◌&&◌, not}
use Rattle.std.proofs.lemmas.Bool.{eqb-true}
use Rattle.std.proofs.lemmas.List.{map-id, length-append, length-map, reverse-reverse, append-nil, drop-drop}
use Rattle.mz_base.proofs.Offered.{both-true}
use Rattle.mz_cmd.specs.declared.rule.K.TheVariants as k
use Rattle.mz_cmd.specs.declared.code.ProofCode.{ProofCode}
use Rattle.mz_cmd.specs.declared.code.ProofCode.TheVariants as code
use Rattle.mz_logic_theory.specs.Tree.{Tree, var, app, none, listed}
use Rattle.mz_logic_theory.specs.Conversions.{Conversion, Conversions, refl_conv, sym_conv, cong_conv, unfold_conv}
use Rattle.mz_logic_theory.specs.declared.binder.Binder.{Binder}
use Rattle.mz_mmu_theory.specs.Proof.{Proof, Proofs, by_hyp, by_name, by_citation, by_conv, no_proofs}
use Rattle.mz_machine_theory.specs.Spells.{trees_of, dummy_of, SpelledTerm, SpelledThm}
use Rattle.mz_machine_theory.specs.Profile.{strict, tree_parts, Item, expr, proof, obligation, conversion}
use Rattle.mz_machine_theory.specs.Tests.{same_tree}
use Rattle.mz_machine_theory.specs.UnifyLaws.{citing, unfolding_by}
use Rattle.mz_machine_theory.specs.UnifyMachine.{Matching, UnifyState, unify}
use Rattle.mz_machine_theory.proofs.Offered.{from_bind, from_then, from_need, from_want, rule_of-ok, taken, taken-is, same_tree-true, trees_of-listed, listed-trees_of, pair-at, pop-is}
use Rattle.mz_machine_theory.specs.MachineState.{RowsBefore, signatures_in, State, Pairwise}
use Rattle.mz_machine_theory.specs.Premises.{pop, pop_expr, pop_proof, pop_obligation, pop_conversion, pop_operands, pop_sides, is_conversion, is_obligation, may_be_dummy_sort, bound_count, operands_fit, are_disjoint}
use Rattle.mz_machine_theory.specs.ProofMachine.{built, citation, matched_by, cited, referred, sides, same_term, stream_of, unfolding_of, has_provable_sort, proof_step}
use Rattle.mz_trace.specs.OneHoleContexts.{Part, expression, proved, owed, converted, for_proof, for_turned, for_unfolded, for_cut, paid, by_operands, proofs_above}
use Rattle.mz_trace.specs.Traces.{Trace, stacked, kept, named, conversion_saved, to_convert, below_sides, variables_in, traced}
use Rattle.mz_trace.specs.Traces as making
use Rattle.mz_trace.proofs.Following.{to_bind, to_want}
use Rattle.mz_trace.proofs.Standing.{Asked, EachIs, EachFrom, EachProves, Is, Stands, expr-is, proof-is, conversion-is, expr-top, obligation-top, sides-top, operands-top, proofs-top, sides-stand, heap-push, stands-also, heap-also}

-- What is asked fits together: of conversions, of proofs from hypotheses and behind lets, and of the lets.
pub record Closed (A : Asked) : Type 0 where
  pub by_refl : (e : Tree) → A.of_expr e → A.of_conv (refl_conv e) e e
  pub by_sym : (l r : Tree) (c : Conversion) → A.of_expr l → A.of_expr r → A.of_conv c r l → A.of_conv (sym_conv c) l r
  pub by_cong : (t : ℕ) (ls rs : List Tree) (cs : Conversions) → A.of_expr (app t (trees_of ls)) → A.of_expr (app t (trees_of rs)) → EachFrom A cs ls rs
      → A.of_conv (cong_conv t cs) (app t (trees_of ls)) (app t (trees_of rs))
  pub converts : (hyps : List Tree) (lets : List Proof) (e f : Tree) (c : Conversion) (p : Proof) → A.of_expr e → A.of_conv c e f → A.of_proof hyps lets p f → A.of_proof hyps lets (by_conv e c p) e
  pub assumes : (hyps : List Tree) (lets : List Proof) (e : Tree) → A.of_expr e → A.of_proof (hyps ++ e ∷ []) lets (by_hyp (length hyps)) e
  pub names : (hyps : List Tree) (lets : List Proof) (p : Proof) (e : Tree) → A.of_proof hyps lets p e → A.of_proof hyps (lets ++ p ∷ []) (by_name (length lets)) e
  pub more_hyps : (hyps : List Tree) (lets : List Proof) (h : Tree) (p : Proof) (e : Tree) → A.of_proof hyps lets p e → A.of_proof (hyps ++ h ∷ []) lets p e
  pub more_lets : (hyps : List Tree) (lets : List Proof) (q p : Proof) (e : Tree) → A.of_proof hyps lets p e → A.of_proof hyps (lets ++ q ∷ []) p e
  pub lets_assume : (hyps : List Tree) (lets : List Proof) (h : Tree) → A.of_lets hyps lets → A.of_lets (hyps ++ h ∷ []) lets
  pub lets_grow : (hyps : List Tree) (lets : List Proof) (p : Proof) (e : Tree) → A.of_lets hyps lets → A.of_proof hyps lets p e → A.of_lets hyps (lets ++ p ∷ [])
  pub operands : (t : ℕ) (es : List Tree) → A.of_expr (app t (trees_of es)) → EachIs A es
  pub as_many : (t : ℕ) (ls rs : List Tree) → A.of_expr (app t (trees_of ls)) → A.of_expr (app t (trees_of rs)) → length ls ≡ length rs

-- it stands beside the state, whose context is the parameters followed by dummies
pub record Standing (A : Asked) (params : List Binder) (st : State Tree) (tr : Trace) : Type 0 where
  pub context : (dummies : List Binder) × (st.ctx ≡ params ++ dummies)
  pub lets : A.of_lets st.hyps tr.lets
  pub heap : Pairwise (Is A st.hyps tr.lets) st.heap tr.heap
  pub stack : Stands A st.hyps tr.lets st.stack tr.stack

proof-popped : (xs : List (Item Tree)) (r : Tree × List (Item Tree)) → pop_proof xs ≡ Ok r → xs ≡ proof r.0 ∷ r.1
proof-popped (proof x ∷ xs) r e = ap (λ (p : Tree × List (Item Tree)). proof p.0 ∷ p.1) (taken-is (x, xs) r e)
proof-popped xs r e = absurd cc

expr-popped : (xs : List (Item Tree)) (r : Tree × List (Item Tree)) → pop_expr xs ≡ Ok r → xs ≡ expr r.0 ∷ r.1
expr-popped (expr x ∷ xs) r e = ap (λ (p : Tree × List (Item Tree)). expr p.0 ∷ p.1) (taken-is (x, xs) r e)
expr-popped xs r e = absurd cc

conversion-popped : (xs : List (Item Tree)) (o : Tree × Tree × List (Item Tree)) → pop_conversion xs ≡ Ok o → xs ≡ conversion o.0 o.1 ∷ o.2
conversion-popped (conversion l r ∷ xs) o e = ap (λ (p : Tree × Tree × List (Item Tree)). conversion p.0 p.1 ∷ p.2) (taken-is (l, r, xs) o e)
conversion-popped xs o e = absurd cc

-- two applications of one term
abbrev OneTerm : Tree → Tree → List Tree × List Tree → Type 0
OneTerm l r es = (p : ℕ × List Tree) × (tree_parts l ≡ Some p) × (p.1 ≡ es.0) × (l ≡ app p.0 (trees_of es.0)) × (r ≡ app p.0 (trees_of es.1))

one-term : (l r : Tree) (es : List Tree × List Tree) → same_term (tree_parts l) (tree_parts r) ≡ Some es → OneTerm l r es
one-term (app t ls) (app u rs) es e = go (eqb t u) refl e
  where
    go : (z : Bool) → eqb t u ≡ z → cond z (Some (listed ls, listed rs)) None ≡ Some es → OneTerm (app t ls) (app u rs) es
    go true is h =
        let same : (listed ls, listed rs) ≡ es = cc in
        subst (OneTerm (app t ls) (app u rs)) same
        ((t, listed ls), refl, refl, ap (app t) (sym (trees_of-listed ls)), ap (λ (v : ℕ). app v rs) (sym (eqb-true _ _ is)) ∙ ap (app t) (sym (trees_of-listed rs)))
    go false is h = absurd cc
one-term _ _ es e = absurd cc

module _ (tables : RowsBefore) (A : Asked) (closed : Closed A) (params : List Binder) where
  abbrev Right : State Tree → Trace → Type 0
  Right st tr = Standing A params st tr

  -- these stand beside these, in a state
  abbrev Beside : State Tree → Trace → List (Item Tree) → List Part → Type 0
  Beside st tr xs ts = Stands A st.hyps tr.lets xs ts

  -- what is made beside a row, and stands beside the new state
  abbrev pub Goes : ProofCode → ℕ → State Tree → Trace → State Tree → Type 0
  Goes c n st tr st' = (tr' : Trace) × (traced tables c n st tr ≡ Ok tr') × Right st' tr'

  -- a variable, or an application of a term that is there to as many operands as it has parameters
  abbrev pub IsNew : Tree → Type 0
  IsNew (var x) = ⊤
  IsNew (app t es) = (row : SpelledTerm) × (slice_get tables.terms t ≡ Some row) × (length (listed es) ≡ length row.signature.params) × EachIs A (listed es)

  -- an expression that was made is right
  abbrev pub NewIsRight : State Tree → Type 0
  NewIsRight st = (e : Tree) (xs : List (Item Tree)) → st.stack ≡ expr e ∷ xs → IsNew e → A.of_expr e

  -- under the same heap and lets
  with-stack : (st : State Tree) (tr : Trace) (xs : List (Item Tree)) (ts : List Part) → Right st tr → Beside st tr xs ts → Right (record st { stack = xs }) (stacked tr ts)
  with-stack st tr xs ts s h = record { context = s.context; lets = s.lets; heap = s.heap; stack = h }

  with-both : (st : State Tree) (tr : Trace) (xs : List (Item Tree)) (ts : List Part) (x : Item Tree) (t : Part) → Right st tr → Beside st tr xs ts → Is A st.hyps tr.lets x t
      → Right (record st { stack = xs; heap = st.heap ++ x ∷ [] }) (kept (stacked tr ts) t)
  with-both st tr xs ts x t s h is = record { context = s.context; lets = s.lets; heap = heap-push A st.hyps tr.lets st.heap tr.heap x t s.heap is; stack = h }

  -- a proof gets a name
  with-name : (st : State Tree) (tr : Trace) (xs : List (Item Tree)) (ts : List Part) (e : Tree) (p : Proof) → Right st tr → A.of_expr e → A.of_proof st.hyps tr.lets p e → Beside st tr xs ts
      → Right (record st { stack = proof e ∷ xs; heap = st.heap ++ proof e ∷ [] }) (named p ts tr)
  with-name st tr xs ts e p s he hp h =
      let more : List Proof = tr.lets ++ p ∷ [] in
      let also = closed.more_lets st.hyps tr.lets p in
      let name : A.of_proof st.hyps more (by_name (length tr.lets)) e = closed.names st.hyps tr.lets p e hp in
      record {
        context = s.context;
        lets = closed.lets_grow st.hyps tr.lets p e s.lets hp;
        heap = heap-push A st.hyps more st.heap tr.heap (proof e) (proved (by_name (length tr.lets))) (heap-also A st.hyps st.hyps tr.lets more also st.heap tr.heap s.heap) (he, name);
        stack = (he, name, stands-also A st.hyps st.hyps tr.lets more also xs ts h);
      }

  -- ---- expressions

  built-stands : (at t : ℕ) (st : State Tree) (tr : Trace) (r : Tree × List (Item Tree)) → built strict tables at t st ≡ Ok r → Right st tr
      → (row : SpelledTerm) × (slice_get tables.terms t ≡ Some row) × IsNew r.0 × Beside st tr r.1 (drop (length row.signature.params) tr.stack)
  unfolding built
  built-stands at t st tr r making s =
      from_want (slice_get tables.terms t) k.TermIndex _ r making λ row row-at e2.
      from_bind (pop_operands (length row.signature.params) st.stack) _ r e2 λ es popping e3.
      from_then (operands_fit (signatures_in tables) st.ctx (map (λ x. x) es.0) row.signature.params) _ r e3 λ u fit e4.
      let (each, below, len) = operands-top A st.hyps tr.lets (length row.signature.params) st.stack tr.stack es popping s.stack in
      let listed-is = listed-trees_of es.0 in
      let new : IsNew (app t (trees_of es.0)) = (row, row-at, ap length listed-is ∙ len, subst (EachIs A) (sym listed-is) each) in
      subst (λ (z : Tree × List (Item Tree)). (row : SpelledTerm) × (slice_get tables.terms t ≡ Some row) × IsNew z.0 × Beside st tr z.1 (drop (length row.signature.params) tr.stack))
      (taken-is (app t (trees_of es.0), es.1) r e4) (row, row-at, new, below)

  goes-term : (at t : ℕ) (st : State Tree) (tr : Trace) (st' : State Tree) → proof_step strict tables at code.Term t st ≡ Ok st' → Right st tr → NewIsRight st' → Goes code.Term t st tr st'
  unfolding proof_step traced
  goes-term at t st tr st' e s =
      from_bind (built strict tables at t st) _ st' e λ r making e1.
      let (row, row-at, new, below) = built-stands at t st tr r making s in
      let ts = expression ∷ drop (length row.signature.params) tr.stack in
      subst (λ (z : State Tree). NewIsRight z → Goes code.Term t st tr z) (taken-is (record st { stack = expr r.0 ∷ r.1 }) st' e1) λ right. (
        stacked tr ts,
        to_want (slice_get tables.terms t) k.TermIndex _ row row-at,
        with-stack st tr (expr r.0 ∷ r.1) ts s (right r.0 r.1 refl new, below),
      )

  goes-term_save : (at t : ℕ) (st : State Tree) (tr : Trace) (st' : State Tree) → proof_step strict tables at code.TermSave t st ≡ Ok st' → Right st tr → NewIsRight st' → Goes code.TermSave t st tr st'
  unfolding proof_step traced
  goes-term_save at t st tr st' e s =
      from_bind (built strict tables at t st) _ st' e λ r making e1.
      let (row, row-at, new, below) = built-stands at t st tr r making s in
      let ts = expression ∷ drop (length row.signature.params) tr.stack in
      subst (λ (z : State Tree). NewIsRight z → Goes code.TermSave t st tr z) (taken-is (record st { stack = expr r.0 ∷ r.1; heap = st.heap ++ expr r.0 ∷ [] }) st' e1) λ right.
      let is : A.of_expr r.0 = right r.0 r.1 refl new in (
        kept (stacked tr ts) expression,
        to_want (slice_get tables.terms t) k.TermIndex _ row row-at,
        with-both st tr (expr r.0 ∷ r.1) ts (expr r.0) expression s (is, below) is,
      )

  goes-dummy : (at d : ℕ) (st : State Tree) (tr : Trace) (st' : State Tree) → proof_step strict tables at code.Dummy d st ≡ Ok st' → Right st tr → NewIsRight st' → Goes code.Dummy d st tr st'
  unfolding proof_step traced
  goes-dummy at d st tr st' e s =
      from_need (may_be_dummy_sort (slice_get tables.sorts d)) k.DummySort _ st' e λ allowed e1.
      from_need (ltb (bound_count st.ctx) 55) k.DummyCount _ st' e1 λ room e2.
      let b : Binder = dummy_of d in
      let x : Tree = var (length st.ctx) in
      let made : State Tree = record { ctx = st.ctx ++ b ∷ []; heap = st.heap ++ expr x ∷ []; stack = expr x ∷ st.stack; hyps = st.hyps } in
      subst (λ (z : State Tree). NewIsRight z → Goes code.Dummy d st tr z) (taken-is made st' e2) λ right.
      let (dummies, ctx-is) = s.context in
      let is : A.of_expr x = right x st.stack refl tt in (
        kept (stacked tr (expression ∷ tr.stack)) expression,
        refl,
        record {
          context = (dummies ++ b ∷ [], ap (λ (z : List Binder). z ++ b ∷ []) ctx-is ∙ append_assoc params dummies (b ∷ []));
          lets = s.lets;
          heap = heap-push A st.hyps tr.lets st.heap tr.heap (expr x) expression s.heap is;
          stack = (is, s.stack);
        },
      )

  -- ---- references

  refers : (x : Item Tree) (t : Part) (st : State Tree) (tr : Trace) (st' : State Tree) → referred strict x st ≡ Ok st' → Is A st.hyps tr.lets x t → Right st tr → Right st' (making.referred t tr)
  refers (expr a) expression st tr st' e is s =
      subst (λ (z : State Tree). Right z (stacked tr (expression ∷ tr.stack))) (taken-is (record st { stack = expr a ∷ st.stack }) st' e)
      (with-stack st tr (expr a ∷ st.stack) (expression ∷ tr.stack) s (is, s.stack))
  refers (proof a) (proved p) st tr st' e (is, proves) s =
      subst (λ (z : State Tree). Right z (stacked tr (proved p ∷ tr.stack))) (taken-is (record st { stack = proof a ∷ st.stack }) st' e)
      (with-stack st tr (proof a ∷ st.stack) (proved p ∷ tr.stack) s (is, proves, s.stack))
  refers (conversion a b) (converted c) st tr st' e is s =
      from_bind (pop_obligation st.stack) _ st' e λ o popping e1.
      from_need (same_tree a o.0 && same_tree b o.1) k.ConversionReference _ st' e1 λ same e2.
      let (_, _, pays) = obligation-top A st.hyps tr.lets st.stack tr.stack o popping s.stack in
      let (left, right) = both-true (same_tree a o.0) (same_tree b o.1) same in
      let same-left : A.of_conv c o.0 b = subst (λ (z : Tree). A.of_conv c z b) (same_tree-true a o.0 left) is in
      let same-both : A.of_conv c o.0 o.1 = subst (λ (z : Tree). A.of_conv c o.0 z) (same_tree-true b o.1 right) same-left in
      subst (λ (z : State Tree). Right z (stacked tr (paid c (drop 1 tr.stack)))) (taken-is (record st { stack = o.2 }) st' e2)
      (with-stack st tr o.2 (paid c (drop 1 tr.stack)) s (pays c same-both))
  refers x t st tr st' e is s = absurd is

  goes-ref : (at i : ℕ) (st : State Tree) (tr : Trace) (st' : State Tree) → proof_step strict tables at code.Ref i st ≡ Ok st' → Right st tr → Goes code.Ref i st tr st'
  unfolding proof_step traced
  goes-ref at i st tr st' e s =
      from_want (slice_get st.heap i) k.HeapIndex _ st' e λ x x-at e1.
      let (t, t-at, is) = pair-at (Is A st.hyps tr.lets) st.heap tr.heap s.heap i x x-at in
      (making.referred t tr, to_want (slice_get tr.heap i) k.HeapIndex _ t t-at, refers x t st tr st' e1 is s)

  goes-conv_ref : (at i : ℕ) (st : State Tree) (tr : Trace) (st' : State Tree) → proof_step strict tables at code.ConvRef i st ≡ Ok st' → Right st tr → Goes code.ConvRef i st tr st'
  unfolding proof_step traced
  goes-conv_ref at i st tr st' e s =
      from_want (slice_get st.heap i) k.HeapIndex _ st' e λ x x-at e1.
      from_need (is_conversion x) k.Kind _ st' e1 λ _ e2.
      let (t, t-at, is) = pair-at (Is A st.hyps tr.lets) st.heap tr.heap s.heap i x x-at in
      (making.referred t tr, to_want (slice_get tr.heap i) k.HeapIndex _ t t-at, refers x t st tr st' e2 is s)

  -- ---- hypotheses

  goes-hyp : (at n : ℕ) (st : State Tree) (tr : Trace) (st' : State Tree) → proof_step strict tables at code.Hyp n st ≡ Ok st' → Right st tr → Goes code.Hyp n st tr st'
  unfolding proof_step traced
  goes-hyp at n st tr st' e s =
      from_bind (pop_expr st.stack) _ st' e λ x popping e1.
      from_need (has_provable_sort strict tables st.ctx x.0) k.NotProvable _ st' e1 λ provable e2.
      let (is, below) = expr-top A st.hyps tr.lets st.stack tr.stack x popping s.stack in
      let more : List Tree = st.hyps ++ x.0 ∷ [] in
      let also = closed.more_hyps st.hyps tr.lets x.0 in
      let t : Part = proved (by_hyp (length st.hyps)) in
      let proves = closed.assumes st.hyps tr.lets x.0 is in
      subst (Goes code.Hyp n st tr) (taken-is (record st { heap = st.heap ++ proof x.0 ∷ []; stack = x.1; hyps = more }) st' e2) (
        kept (stacked tr (drop 1 tr.stack)) t,
        refl,
        record {
          context = s.context;
          lets = closed.lets_assume st.hyps tr.lets x.0 s.lets;
          heap = heap-push A more tr.lets st.heap tr.heap (proof x.0) t (heap-also A st.hyps more tr.lets tr.lets also st.heap tr.heap s.heap) (is, proves);
          stack = stands-also A st.hyps more tr.lets tr.lets also x.1 (drop 1 tr.stack) below;
        },
      )

  -- ---- what is saved

  saves : (x : Item Tree) (xs : List (Item Tree)) (st : State Tree) (tr : Trace) (st' : State Tree) → st.stack ≡ x ∷ xs → not (is_obligation x) ≡ true
      → taken (record st { heap = st.heap ++ x ∷ [] }) ≡ taken st' → Right st tr → Right st' (making.saved tr.stack tr)
  saves (expr a) xs st tr st' is kind e s =
      let (us, ts-is, he, _) = expr-is A st.hyps tr.lets a xs tr.stack (subst (λ (z : List (Item Tree)). Beside st tr z tr.stack) is s.stack) in
      subst (λ (z : State Tree). Right z (making.saved tr.stack tr)) (taken-is (record st { heap = st.heap ++ expr a ∷ [] }) st' e)
      (subst (λ (z : List Part). Right (record st { heap = st.heap ++ expr a ∷ [] }) (making.saved z tr)) (sym ts-is)
      (with-both st tr st.stack tr.stack (expr a) expression s s.stack he))
  saves (proof a) xs st tr st' is kind e s =
      let (p, us, ts-is, he, hp, below) = proof-is A st.hyps tr.lets a xs tr.stack (subst (λ (z : List (Item Tree)). Beside st tr z tr.stack) is s.stack) in
      subst (λ (z : State Tree). Right z (making.saved tr.stack tr)) (taken-is (record st { heap = st.heap ++ proof a ∷ [] }) st' e)
      (subst (λ (z : List (Item Tree)). Right (record st { stack = z; heap = st.heap ++ proof a ∷ [] }) (making.saved tr.stack tr)) (sym is)
      (subst (λ (z : List Part). Right (record st { stack = proof a ∷ xs; heap = st.heap ++ proof a ∷ [] }) (making.saved z tr)) (sym ts-is)
      (with-name st tr xs us a p s he hp below)))
  saves (conversion a b) xs st tr st' is kind e s =
      let (c, us, ts-is, hc, below) = conversion-is A st.hyps tr.lets a b xs tr.stack (subst (λ (z : List (Item Tree)). Beside st tr z tr.stack) is s.stack) in
      subst (λ (z : State Tree). Right z (making.saved tr.stack tr)) (taken-is (record st { heap = st.heap ++ conversion a b ∷ [] }) st' e)
      (subst (λ (z : List Part). Right (record st { heap = st.heap ++ conversion a b ∷ [] }) (making.saved z tr)) (sym ts-is)
      (with-both st tr st.stack tr.stack (conversion a b) (converted c) s s.stack hc))
  saves (obligation a b) xs st tr st' is kind e s = absurd cc

  goes-save : (at n : ℕ) (st : State Tree) (tr : Trace) (st' : State Tree) → proof_step strict tables at code.Save n st ≡ Ok st' → Right st tr → Goes code.Save n st tr st'
  unfolding proof_step traced
  goes-save at n st tr st' e s =
      from_bind (pop st.stack) _ st' e λ x popping e1.
      from_need (not (is_obligation x.0)) k.SaveKind _ st' e1 λ kind e2.
      (making.saved tr.stack tr, refl, saves x.0 x.1 st tr st' (pop-is st.stack x popping) kind e2 s)

  -- ---- conversions

  goes-conv : (at n : ℕ) (st : State Tree) (tr : Trace) (st' : State Tree) → proof_step strict tables at code.Conv n st ≡ Ok st' → Right st tr → Goes code.Conv n st tr st'
  unfolding proof_step traced
  goes-conv at n st tr st' e s =
      from_bind (pop_proof st.stack) _ st' e λ p popping e1.
      from_bind (pop_expr p.1) _ st' e1 λ l popping-l e2.
      let (q, us, ts-is, p-is, q-proves, below) = proof-is A st.hyps tr.lets p.0 p.1 tr.stack (subst (λ (z : List (Item Tree)). Beside st tr z tr.stack) (proof-popped st.stack p popping) s.stack) in
      let (vs, us-is, l-is, rest) = expr-is A st.hyps tr.lets l.0 l.1 us (subst (λ (z : List (Item Tree)). Beside st tr z us) (expr-popped p.1 l popping-l) below) in
      let ts : List Part = owed ∷ for_proof l.0 q ∷ vs in
      let same : to_convert l.0 tr.stack ≡ ts = ap (to_convert l.0) ts-is ∙ ap (λ (z : List Part). owed ∷ for_proof l.0 q ∷ drop 1 z) us-is in
      subst (Goes code.Conv n st tr) (taken-is (record st { stack = obligation l.0 p.0 ∷ proof l.0 ∷ l.1 }) st' e2) (
        stacked tr ts,
        to_bind (pop_proof st.stack) _ p popping ∙ to_bind (pop_expr p.1) _ l popping-l ∙ ap (λ (z : List Part). Ok (stacked tr z)) same,
        with-stack st tr (obligation l.0 p.0 ∷ proof l.0 ∷ l.1) ts s (l-is, p-is, λ c hc. (l-is, closed.converts st.hyps tr.lets l.0 p.0 c q l-is hc q-proves, rest)),
      )

  goes-refl : (at n : ℕ) (st : State Tree) (tr : Trace) (st' : State Tree) → proof_step strict tables at code.Refl n st ≡ Ok st' → Right st tr → Goes code.Refl n st tr st'
  unfolding proof_step traced
  goes-refl at n st tr st' e s =
      from_bind (pop_obligation st.stack) _ st' e λ o popping e1.
      from_need (same_tree o.0 o.1) k.Refl _ st' e1 λ same e2.
      let (l-is, r-is, pays) = obligation-top A st.hyps tr.lets st.stack tr.stack o popping s.stack in
      let ts : List Part = paid (refl_conv o.0) (drop 1 tr.stack) in
      subst (Goes code.Refl n st tr) (taken-is (record st { stack = o.2 }) st' e2) (
        stacked tr ts,
        to_bind (pop_obligation st.stack) _ o popping,
        with-stack st tr o.2 ts s (pays (refl_conv o.0) (subst (A.of_conv (refl_conv o.0) o.0) (same_tree-true o.0 o.1 same) (closed.by_refl o.0 l-is))),
      )

  goes-symm : (at n : ℕ) (st : State Tree) (tr : Trace) (st' : State Tree) → proof_step strict tables at code.Symm n st ≡ Ok st' → Right st tr → Goes code.Symm n st tr st'
  unfolding proof_step traced
  goes-symm at n st tr st' e s =
      from_bind (pop_obligation st.stack) _ st' e λ o popping e1.
      let (l-is, r-is, pays) = obligation-top A st.hyps tr.lets st.stack tr.stack o popping s.stack in
      let ts : List Part = owed ∷ for_turned ∷ drop 1 tr.stack in
      subst (Goes code.Symm n st tr) (taken-is (record st { stack = obligation o.1 o.0 ∷ o.2 }) st' e1) (
        stacked tr ts,
        refl,
        with-stack st tr (obligation o.1 o.0 ∷ o.2) ts s (r-is, l-is, λ c hc. pays (sym_conv c) (closed.by_sym o.0 o.1 c l-is r-is hc)),
      )

  -- two applications to nothing are one
  none-alike : (t : ℕ) (ls rs : List Tree) → ls ≡ [] → rs ≡ [] → A.of_expr (app t (trees_of ls)) → A.of_conv (refl_conv (app t none)) (app t (trees_of ls)) (app t (trees_of rs))
  none-alike t [] [] no-ls no-rs is = closed.by_refl (app t none) is
  none-alike t _ _ no-ls no-rs is = absurd cc

  goes-cong : (at n : ℕ) (st : State Tree) (tr : Trace) (st' : State Tree) → proof_step strict tables at code.Cong n st ≡ Ok st' → Right st tr → Goes code.Cong n st tr st'
  unfolding proof_step traced
  goes-cong at n st tr st' e s =
      from_bind (pop_obligation st.stack) _ st' e λ o popping e1.
      from_want (same_term (tree_parts o.0) (tree_parts o.1)) k.Cong _ st' e1 λ es same e2.
      let (l-is, r-is, pays) = obligation-top A st.hyps tr.lets st.stack tr.stack o popping s.stack in
      let (p, parts, ps-are, left, right) = one-term o.0 o.1 es same in
      let t : ℕ = p.0 in
      let below : List Part = drop 1 tr.stack in
      let l-right : A.of_expr (app t (trees_of es.0)) = subst A.of_expr left l-is in
      let r-right : A.of_expr (app t (trees_of es.1)) = subst A.of_expr right r-is in
      let pay : (c : Conversion) → A.of_conv c (app t (trees_of es.0)) (app t (trees_of es.1)) → Beside st tr o.2 (paid c below) =
      λ c hc. pays c (subst (λ (z : Tree). A.of_conv c z o.1) (sym left) (subst (A.of_conv c (app t (trees_of es.0))) (sym right) hc)) in
      let ts : List Part = by_operands t (length es.0) below in
      subst (Goes code.Cong n st tr) (taken-is (record st { stack = sides es.0 es.1 o.2 }) st' e2) (
        stacked tr ts,
        to_bind (pop_obligation st.stack) _ o popping ∙ to_want (tree_parts o.0) k.Cong _ p parts ∙ ap (λ (z : List Tree). Ok (stacked tr (by_operands t (length z) below))) ps-are,
        with-stack st tr (sides es.0 es.1 o.2) ts s
            (sides-stand A st.hyps tr.lets t es.0 es.1 o.2 below (closed.as_many t es.0 es.1 l-right r-right) (closed.operands t es.0 l-right) (closed.operands t es.1 r-right)
            (λ no-left no-right. pay (refl_conv (app t none)) (none-alike t es.0 es.1 no-left no-right l-right))
            (λ cs all. pay (cong_conv t cs) (closed.by_cong t es.0 es.1 cs l-right r-right all))),
      )

  goes-conv_cut : (at n : ℕ) (st : State Tree) (tr : Trace) (st' : State Tree) → proof_step strict tables at code.ConvCut n st ≡ Ok st' → Right st tr → Goes code.ConvCut n st tr st'
  unfolding proof_step traced
  goes-conv_cut at n st tr st' e s =
      from_bind (pop_obligation st.stack) _ st' e λ o popping e1.
      let (l-is, r-is, pays) = obligation-top A st.hyps tr.lets st.stack tr.stack o popping s.stack in
      let ts : List Part = owed ∷ for_cut ∷ drop 1 tr.stack in
      subst (Goes code.ConvCut n st tr) (taken-is (record st { stack = obligation o.0 o.1 ∷ conversion o.0 o.1 ∷ o.2 }) st' e1) (
        stacked tr ts,
        refl,
        with-stack st tr (obligation o.0 o.1 ∷ conversion o.0 o.1 ∷ o.2) ts s (l-is, r-is, λ c hc. (hc, pays c hc)),
      )

  goes-conv_save : (at n : ℕ) (st : State Tree) (tr : Trace) (st' : State Tree) → proof_step strict tables at code.ConvSave n st ≡ Ok st' → Right st tr → Goes code.ConvSave n st tr st'
  unfolding proof_step traced
  goes-conv_save at n st tr st' e s =
      from_bind (pop_conversion st.stack) _ st' e λ o popping e1.
      let (c, us, ts-is, hc, below) = conversion-is A st.hyps tr.lets o.0 o.1 o.2 tr.stack (subst (λ (z : List (Item Tree)). Beside st tr z tr.stack) (conversion-popped st.stack o popping) s.stack) in
      subst (Goes code.ConvSave n st tr) (taken-is (record st { stack = o.2; heap = st.heap ++ conversion o.0 o.1 ∷ [] }) st' e1) (
        kept (stacked tr (paid c us)) (converted c),
        ap (λ (z : List Part). Ok (conversion_saved z tr)) ts-is,
        with-both st tr o.2 (paid c us) (conversion o.0 o.1) (converted c) s below hc,
      )

  -- ---- unfolding

  -- a conversion from what an unfolding matched gives one from what it unfolds
  abbrev pub Unfolds : State Tree → Type 0
  Unfolds st = (x : Tree × List (Item Tree)) (o : Tree × Tree × List (Item Tree)) (p : ℕ × List Tree) (stream : List ℕ) (u : UnifyState Tree) → pop_expr st.stack ≡ Ok x → pop_sides strict x.1 ≡ Ok o
      → tree_parts o.0 ≡ Some p → stream_of (slice_get tables.terms p.0) ≡ Some stream → unify strict (signatures_in tables) st.ctx (unfolding_by stream p.1 x.0) ≡ Ok u
      → (c : Conversion) → A.of_conv c x.0 o.1 → A.of_conv (unfold_conv p.0 (trees_of p.1) (variables_in (drop (length p.1) u.apart)) c) o.0 o.1

  goes-unfold : (at n : ℕ) (st : State Tree) (tr : Trace) (st' : State Tree) → proof_step strict tables at code.Unfold n st ≡ Ok st' → Right st tr → Unfolds st → Goes code.Unfold n st tr st'
  unfolding proof_step traced unfolding_of
  goes-unfold at n st tr st' e s unfolds =
      from_bind (unfolding_of strict tables st) _ st' e λ m un e1.
      from_bind (matched_by strict tables st.ctx m.0) _ st' e1 λ u unified e2.
      from_bind (pop_expr st.stack) _ m un λ x popping e3.
      from_bind (pop_sides strict x.1) _ m e3 λ o popping-o e4.
      from_want (tree_parts o.0) k.Unfold _ m e4 λ p parts e5.
      from_want (stream_of (slice_get tables.terms p.0)) k.Unfold _ m e5 λ stream stream-at e6.
      let m-is = taken-is (unfolding_by stream p.1 x.0, o.1, o.2) m e6 in
      let ran = subst (λ (z : Matching Tree × Tree × List (Item Tree)). unify strict (signatures_in tables) st.ctx z.0 ≡ Ok u) (sym m-is) (rule_of-ok _ u unified) in
      let (x-is, below) = expr-top A st.hyps tr.lets st.stack tr.stack x popping s.stack in
      let (l-is, r-is, pays) = sides-top A st.hyps tr.lets x.1 (drop 1 tr.stack) o popping-o below in
      let ys : List ℕ = variables_in (drop (length p.1) u.apart) in
      let ts : List Part = owed ∷ for_unfolded p.0 (trees_of p.1) ys ∷ below_sides (drop 1 tr.stack) in
      let st-is : record st { stack = obligation x.0 o.1 ∷ o.2 } ≡ st' =
      ap (λ (z : Matching Tree × Tree × List (Item Tree)). record st { stack = obligation z.0.target z.1 ∷ z.2 }) m-is ∙ taken-is (record st { stack = obligation m.0.target m.1 ∷ m.2 }) st' e2 in
      subst (Goes code.Unfold n st tr) st-is (
        stacked tr ts,
        to_bind (pop_expr st.stack) _ x popping ∙ to_bind (pop_sides strict x.1) _ o popping-o ∙ to_want (tree_parts o.0) k.Unfold _ p parts
            ∙ to_bind (unfolding_of strict tables st) _ m un ∙ to_bind (matched_by strict tables st.ctx m.0) _ u unified,
        with-stack st tr (obligation x.0 o.1 ∷ o.2) ts s
            (x-is, r-is, λ c hc. pays (unfold_conv p.0 (trees_of p.1) ys c) (unfolds x o p stream u popping popping-o parts stream-at ran c hc)),
      )

  -- ---- citations

  -- what a citation matched as proofs are of hypotheses from whose proofs it makes one of the target
  abbrev pub Cites : ℕ → State Tree → Trace → Type 0
  Cites t st tr = (row : SpelledThm) (x : Tree × List (Item Tree)) (es : List Tree × List (Item Tree)) (fit : Unit {0}) (u : UnifyState Tree)
      → slice_get tables.thms t ≡ Some row → pop_expr st.stack ≡ Ok x → pop_operands (length row.params) x.1 ≡ Ok es
      → operands_fit (signatures_in tables) st.ctx es.0 row.params ≡ Ok fit → are_disjoint st.ctx es.0 row.params ≡ true
      → unify strict (signatures_in tables) st.ctx (citing row.stream es.0 x.0 es.1) ≡ Ok u
      → (hs : List Tree) × (es.1 ≡ map proof (reverse hs) ++ u.items)
      × ((ps : Proofs) → EachProves A st.hyps tr.lets ps hs → A.of_proof st.hyps tr.lets (by_citation t (trees_of es.0) ps) x.0)

  abbrev Cited : ℕ → State Tree → Trace → Tree × List (Item Tree) → Type 0
  Cited t st tr r = (q : Proof × List Part) × (making.cited tables t st tr ≡ Ok q) × A.of_expr r.0 × A.of_proof st.hyps tr.lets q.0 r.0 × Beside st tr r.1 q.1

  -- below the operands and the target
  below-is : (n m : ℕ) (ts : List Part) → m ≡ n → drop (suc m) ts ≡ drop n (drop 1 ts)
  below-is n m ts is = ap (λ (z : ℕ). drop z ts) (let e : suc m ≡ 1 + n = omega arith in e) ∙ sym (drop-drop n 1 ts)

  -- the proof by a citation, and what is left below those of its hypotheses
  abbrev made_from : ℕ → List Tree → ℕ → List Part → Proof × List Part
  made_from t es count below = (by_citation t (trees_of es) (proofs_above count below no_proofs), drop count below)

  cited-made : (t : ℕ) (st : State Tree) (tr : Trace) (m : Matching Tree) (u : UnifyState Tree) → citation strict tables t st ≡ Ok m → matched_by strict tables st.ctx m ≡ Ok u
      → making.cited tables t st tr ≡ Ok (made_from t m.operands (length m.items - length u.items) (drop (suc (length m.operands)) tr.stack))
  cited-made t st tr m u citing-is unified = rw (citing-is, unified) refl

  cites-by : (t : ℕ) (st : State Tree) (tr : Trace) (n : ℕ) (stream : List ℕ) (es : List Tree) (e : Tree) (items : List (Item Tree)) (u : UnifyState Tree) (hs : List Tree)
      → citation strict tables t st ≡ Ok (citing stream es e items) → matched_by strict tables st.ctx (citing stream es e items) ≡ Ok u → length es ≡ n → items ≡ map proof (reverse hs) ++ u.items
      → A.of_expr e → Beside st tr items (drop n (drop 1 tr.stack))
      → ((ps : Proofs) → EachProves A st.hyps tr.lets ps hs → A.of_proof st.hyps tr.lets (by_citation t (trees_of es) ps) e) → Cited t st tr (e, u.items)
  cites-by t st tr n stream es e items u hs citing-is unified len items-are is rest proves =
      let below : List Part = drop n (drop 1 tr.stack) in
      let (all, left) = proofs-top A st.hyps tr.lets (reverse hs) [] u.items below no_proofs (subst (λ (z : List (Item Tree)). Beside st tr z below) items-are rest) tt in
      let ps : Proofs = proofs_above (length (reverse hs)) below no_proofs in
      let each : EachProves A st.hyps tr.lets ps hs = subst (EachProves A st.hyps tr.lets ps) (append-nil (reverse (reverse hs)) ∙ reverse-reverse hs) all in
      let many : length items ≡ length (reverse hs) + length u.items =
      ap length items-are ∙ length-append (map proof (reverse hs)) u.items ∙ ap (λ (z : ℕ). z + length u.items) (length-map (reverse hs) proof) in
      let count : length items - length u.items ≡ length (reverse hs) = omega (arith, many) in (
        made_from t es (length (reverse hs)) below,
        cited-made t st tr (citing stream es e items) u citing-is unified
            ∙ ap (λ (z : ℕ). Ok (made_from t es z (drop (suc (length es)) tr.stack))) count
            ∙ ap (λ (z : List Part). Ok (made_from t es (length (reverse hs)) z)) (below-is n (length es) tr.stack len),
        is,
        proves ps each,
        left,
      )

  cited-goes : (t : ℕ) (st : State Tree) (tr : Trace) (r : Tree × List (Item Tree)) → cited strict tables t st ≡ Ok r → Right st tr → Cites t st tr → Cited t st tr r
  unfolding cited citation
  cited-goes t st tr r e s cites =
      from_bind (citation strict tables t st) _ r e λ m citing-is e0.
      from_bind (matched_by strict tables st.ctx m) _ r e0 λ u unified e7.
      from_want (slice_get tables.thms t) k.TheoremIndex _ m citing-is λ row row-at e1.
      from_need (leb (suc (length row.params)) (length st.stack)) k.Underflow _ m e1 λ enough e2.
      from_bind (pop_expr st.stack) _ m e2 λ x popping e3.
      from_bind (pop_operands (length row.params) x.1) _ m e3 λ es popping-es e4.
      from_then (operands_fit (signatures_in tables) st.ctx (map (λ z. z) es.0) row.params) _ m e4 λ fit fits e5.
      from_need (are_disjoint st.ctx (map (λ z. z) es.0) row.params) k.Disjoint _ m e5 λ apart e6.
      let made : Matching Tree = citing row.stream es.0 x.0 es.1 in
      let m-is : made ≡ m = taken-is made m e6 in
      let citing' : citation strict tables t st ≡ Ok made = citing-is ∙ ap taken (sym m-is) in
      let unified' : matched_by strict tables st.ctx made ≡ Ok u = subst (λ (z : Matching Tree). matched_by strict tables st.ctx z ≡ Ok u) (sym m-is) unified in
      let (hs, items-are, proves) = cites row x es fit u row-at popping popping-es (rw map-id at fits) (rw map-id at apart) (rule_of-ok _ u unified') in
      let (is, below) = expr-top A st.hyps tr.lets st.stack tr.stack x popping s.stack in
      let (_, rest, len) = operands-top A st.hyps tr.lets (length row.params) x.1 (drop 1 tr.stack) es popping-es below in
      subst (Cited t st tr) (taken-is (m.target, u.items) r e7)
      (subst (λ (z : Matching Tree). Cited t st tr (z.target, u.items)) m-is
      (cites-by t st tr (length row.params) row.stream es.0 x.0 es.1 u hs citing' unified' len items-are is rest proves))

  goes-thm : (at t : ℕ) (st : State Tree) (tr : Trace) (st' : State Tree) → proof_step strict tables at code.Thm t st ≡ Ok st' → Right st tr → Cites t st tr → Goes code.Thm t st tr st'
  unfolding proof_step traced
  goes-thm at t st tr st' e s cites =
      from_bind (cited strict tables t st) _ st' e λ r citing-is e1.
      let (q, made, is, proves, below) = cited-goes t st tr r citing-is s cites in
      subst (Goes code.Thm t st tr) (taken-is (record st { stack = proof r.0 ∷ r.1 }) st' e1) (
        stacked tr (proved q.0 ∷ q.1),
        to_bind (making.cited tables t st tr) _ q made,
        with-stack st tr (proof r.0 ∷ r.1) (proved q.0 ∷ q.1) s (is, proves, below),
      )

  goes-thm_save : (at t : ℕ) (st : State Tree) (tr : Trace) (st' : State Tree) → proof_step strict tables at code.ThmSave t st ≡ Ok st' → Right st tr → Cites t st tr → Goes code.ThmSave t st tr st'
  unfolding proof_step traced
  goes-thm_save at t st tr st' e s cites =
      from_bind (cited strict tables t st) _ st' e λ r citing-is e1.
      let (q, made, is, proves, below) = cited-goes t st tr r citing-is s cites in
      subst (Goes code.ThmSave t st tr) (taken-is (record st { stack = proof r.0 ∷ r.1; heap = st.heap ++ proof r.0 ∷ [] }) st' e1) (
        named q.0 q.1 tr,
        to_bind (making.cited tables t st tr) _ q made,
        with-name st tr r.1 q.1 r.0 q.0 s is proves below,
      )

  -- ---- every row

  -- what is asked where a row goes through
  pub record RowRight (n : ℕ) (st : State Tree) (tr : Trace) (st' : State Tree) : Type 0 where
    pub new : NewIsRight st'
    pub unfolds : Unfolds st
    pub cites : Cites n st tr

  pub goes : (at : ℕ) (c : ProofCode) (n : ℕ) (st : State Tree) (tr : Trace) (st' : State Tree) → proof_step strict tables at c n st ≡ Ok st' → Right st tr → RowRight n st tr st' → Goes c n st tr st'
  unfolding proof_step
  goes at code.Term n st tr st' e s right = goes-term at n st tr st' e s right.new
  goes at code.TermSave n st tr st' e s right = goes-term_save at n st tr st' e s right.new
  goes at code.Ref n st tr st' e s right = goes-ref at n st tr st' e s
  goes at code.Dummy n st tr st' e s right = goes-dummy at n st tr st' e s right.new
  goes at code.Thm n st tr st' e s right = goes-thm at n st tr st' e s right.cites
  goes at code.ThmSave n st tr st' e s right = goes-thm_save at n st tr st' e s right.cites
  goes at code.Hyp n st tr st' e s right = goes-hyp at n st tr st' e s
  goes at code.Conv n st tr st' e s right = goes-conv at n st tr st' e s
  goes at code.Refl n st tr st' e s right = goes-refl at n st tr st' e s
  goes at code.Symm n st tr st' e s right = goes-symm at n st tr st' e s
  goes at code.Cong n st tr st' e s right = goes-cong at n st tr st' e s
  goes at code.Unfold n st tr st' e s right = goes-unfold at n st tr st' e s right.unfolds
  goes at code.ConvCut n st tr st' e s right = goes-conv_cut at n st tr st' e s
  goes at code.ConvRef n st tr st' e s right = goes-conv_ref at n st tr st' e s
  goes at code.ConvSave n st tr st' e s right = goes-conv_save at n st tr st' e s
  goes at code.Save n st tr st' e s right = goes-save at n st tr st' e s
  goes at code.Sorry n st tr st' e s right = absurd cc

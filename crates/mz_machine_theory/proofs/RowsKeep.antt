-- Each row of the proof machine keeps the fact.
use Rattle.std.proofs.Common.{◌≡◌, ℕ, zero, suc, ◌+◌, ◌<◌, Bool, true, false, cond, eqb, leb, ltb, List, [], ◌∷◌, ◌++◌, length, map, Option, Some, None, Ok, refl, sym, ap, subst, ◌∙◌, ◌⊎◌, inl, inr, append_assoc}
use Rattle.std.specs.Prelude.{slice_get, reverse, ◌&&◌, not}
use Rattle.std.proofs.lemmas.Bool.{eqb-true}
use Rattle.std.proofs.lemmas.List.{map-id}
use Rattle.std.proofs.lemmas.Option.{slice_get_within}
use Rattle.mz_base.proofs.Offered.{slice_get-last, both-true}
use Rattle.mz_cmd.specs.declared.rule.K.TheVariants as k
use Rattle.mz_cmd.specs.declared.code.ProofCode.{ProofCode}
use Rattle.mz_cmd.specs.declared.code.ProofCode.TheVariants as code
use Rattle.mz_logic_theory.specs.Tree.{Tree, var, app, none, listed, instances}
use Rattle.mz_logic_theory.specs.Signature.{Signature}
use Rattle.mz_logic_theory.specs.Declaration.{Form, plain_form, abstract_form, defined, Declaration, sorts, terms, signatures, assertions}
use Rattle.mz_logic_theory.specs.Modifiers.{MayBeDummySort}
use Rattle.mz_logic_theory.specs.Sorts.{HasSort, Fits, HasProvable}
use Rattle.mz_logic_theory.specs.Variables.{AreDisjoint}
use Rattle.mz_logic_theory.specs.Legality.{sort_of, IsDummy}
use Rattle.mz_logic_theory.specs.Conversions.{refl_conv, sym_conv, cong_conv, unfold_conv, gap_conv, Between, AreFresh}
use Rattle.mz_logic_theory.specs.Derivations.{hypothesis, cite, convert, gap, Uses, AllDerive}
use Rattle.mz_logic_theory.specs.LegalLists.{AreDummies}
use Rattle.mz_logic_theory.specs.declared.binder.Binder.{Binder}
use Rattle.mz_logic_theory.proofs.Offered.{extends_itself, sort_extends, fits_extends, disjoint_extends, fresh_extends, split_at, sort_is}
use Rattle.mz_machine_theory.specs.Streams.{of_definition}
use Rattle.mz_machine_theory.specs.Spells.{trees_of, dummy_of, Text, SpelledTerm, SpellsForm, SpellsTerm, SpellsThm}
use Rattle.mz_machine_theory.specs.Profile.{plain, strict, tree_parts, Item, expr, proof, obligation, conversion}
use Rattle.mz_machine_theory.specs.Sorted.{Sorted, ItemSorted, ItemsSorted}
use Rattle.mz_machine_theory.specs.Tests.{same_tree}
use Rattle.mz_machine_theory.specs.UnifyMachine.{in_citation, in_definition, Matching, UnifyState, unify}
use Rattle.mz_machine_theory.proofs.Inverting.{from_bind, from_then, from_need, from_want, rule_of-ok, some_is, taken, taken-is}
use Rattle.mz_machine_theory.proofs.Trees.{same_tree-true, parts-are, operands-sorted}
use Rattle.mz_machine_theory.proofs.Citations.{citation-is}
use Rattle.mz_machine_theory.proofs.Unfolding.{unfolding-is}
use Rattle.mz_machine_theory.specs.MachineState.{RowsBefore, signatures_in, State, Declares}
use Rattle.mz_machine_theory.specs.Premises.{pop, pop_expr, pop_proof, pop_obligation, pop_conversion, pop_operands, pop_sides, is_conversion, is_obligation, may_be_dummy_sort, is_provable_sort, bound_count, operands_fit, are_disjoint}
use Rattle.mz_machine_theory.specs.ProofMachine.{built, citation, matched_by, cited, referred, sides, same_term, stream_of, unfolding_of, gapped, has_provable_sort, proof_step}
use Rattle.mz_machine_theory.specs.Invariant.{Derivable, Convertible, Holds, StackHolds, IsFront, AreProvableClaims, Fact, Keeps}
use Rattle.mz_machine_theory.proofs.Declared.{pair-at, signatures-are, signature-at}
use Rattle.mz_machine_theory.proofs.Operands.{provable-sort, dummy-sort, fits-from, apart-from-test}
use Rattle.mz_machine_theory.proofs.PlainRows.{row-plain}
use Rattle.mz_machine_theory.proofs.Stacks.{item-at, holds-at, sorted-push, holds-push, claims-push, expr-top, proof-top, obligation-top, conversion-top, sides-top, operands-top, heap-hyps, stack-hyps, each-reverse, derive-all, proofs-below, sorted-below, sides-sorted, sides-hold}

get-more : {A : Type 0} (xs : List A) (y : A) (i : ℕ) (x : A) → slice_get xs i ≡ Some x → slice_get (xs ++ y ∷ []) i ≡ Some x
get-more [] y i x e = absurd cc
get-more (z ∷ xs) y zero x e = e
get-more (z ∷ xs) y (suc i) x e = get-more xs y i x e

pub pop-is : (xs : List (Item Tree)) (r : Item Tree × List (Item Tree)) → pop xs ≡ Ok r → xs ≡ r.0 ∷ r.1
pop-is [] r e = absurd cc
pop-is (x ∷ xs) r e = let same : (x, xs) ≡ r = taken-is (x, xs) r e in ap (λ (p : Item Tree × List (Item Tree)). p.0 ∷ p.1) same

-- the two sides of an application's obligation, term by term
abbrev SameTerm : Tree → Tree → List Tree × List Tree → Type 0
SameTerm l r es = (t : ℕ) × (l ≡ app t (trees_of es.0)) × (r ≡ app t (trees_of es.1))

same_term-is : (p q : Option (ℕ × List Tree)) (es : List Tree × List Tree) → same_term p q ≡ Some es
    → (a : ℕ × List Tree) × (b : ℕ × List Tree) × (p ≡ Some a) × (q ≡ Some b) × (a.0 ≡ b.0) × ((a.1, b.1) ≡ es)
same_term-is None q es e = absurd cc
same_term-is (Some a) None es e = absurd cc
same_term-is (Some a) (Some b) es e = go (eqb a.0 b.0) refl e
  where
    go : (z : Bool) → eqb a.0 b.0 ≡ z → cond z (Some (a.1, b.1)) None ≡ Some es
        → (c : ℕ × List Tree) × (d : ℕ × List Tree) × (Some a ≡ Some c) × (Some b ≡ Some d) × (c.0 ≡ d.0) × ((c.1, d.1) ≡ es)
    go true z-is h = (a, b, refl, refl, eqb-true _ _ z-is, cc)
    go false z-is h = absurd cc

same-sides : (l r : Tree) (es : List Tree × List Tree) → same_term (tree_parts l) (tree_parts r) ≡ Some es → SameTerm l r es
same-sides l r es e =
    let (a, b, a-is, b-is, same, es-are) = same_term-is (tree_parts l) (tree_parts r) es e in
    let l-is : l ≡ app a.0 (trees_of a.1) = parts-are l a a-is in
    let r-is : r ≡ app a.0 (trees_of b.1) = parts-are r b b-is ∙ ap (λ (t : ℕ). app t (trees_of b.1)) (sym same) in
    subst (λ (z : List Tree × List Tree). (t : ℕ) × (l ≡ app t (trees_of z.0)) × (r ≡ app t (trees_of z.1))) es-are (a.0, l-is, r-is)

pub stream-row : (o : Option SpelledTerm) (stream : List ℕ) → stream_of o ≡ Some stream → (row : SpelledTerm) × (o ≡ Some row) × (row.stream ≡ Some stream)
stream-row None stream e = absurd cc
stream-row (Some row) stream e = (row, refl, e)

-- the row of a definition spells its body
abbrev pub Defines : List Signature → List Binder → List ℕ → Form → Type 0
Defines sigs params stream form = (dummies : List Binder) × (body : Tree) × (form ≡ defined dummies body) × Text of_definition sigs params stream none body dummies

pub definition-of : (sigs : List Signature) (params : List Binder) (o : Option (List ℕ)) (stream : List ℕ) (form : Form) → o ≡ Some stream → SpellsForm sigs params o form → Defines sigs params stream form
definition-of sigs params None stream form is s = absurd cc
definition-of sigs params (Some other) stream plain_form is s = absurd s
definition-of sigs params (Some other) stream abstract_form is s = absurd s
definition-of sigs params (Some other) stream (defined dummies body) is s =
    let same : other ≡ stream = cc in
    (dummies, body, refl, subst (λ (z : List ℕ). Text of_definition sigs params z none body dummies) same s)

module _ (P : Uses) (tables : RowsBefore) (env : List Declaration) (declares : Declares tables env) (params full : List Binder) where
  abbrev Sigs : List Signature
  Sigs = signatures env

  step-is : (st made st' : State Tree) → taken made ≡ taken st' → Keeps P env params full st made → Keeps P env params full st st'
  step-is st made st' e step = subst (λ (z : State Tree). Keeps P env params full st z) (taken-is made st' e) step

  -- a new stack under the same heap
  with-stack : (st : State Tree) (xs : List (Item Tree)) → Fact P env params full st → ItemsSorted Sigs st.ctx xs → StackHolds P env full st.hyps xs → Fact P env params full (record st { stack = xs })
  with-stack st xs fact s h = record { context = fact.context; heap_sorted = fact.heap_sorted; stack_sorted = s; hyps_provable = fact.hyps_provable; heap_holds = fact.heap_holds; stack_holds = h }

  -- and one more item in the heap
  with-both : (st : State Tree) (xs : List (Item Tree)) (x : Item Tree) → Fact P env params full st → ItemsSorted Sigs st.ctx xs → StackHolds P env full st.hyps xs
      → ItemSorted Sigs st.ctx x → Holds P env full st.hyps x → Fact P env params full (record st { stack = xs; heap = st.heap ++ x ∷ [] })
  with-both st xs x fact s h sx hx = record {
    context = fact.context;
    heap_sorted = sorted-push P env full st.ctx st.heap x fact.heap_sorted sx;
    stack_sorted = s;
    hyps_provable = fact.hyps_provable;
    heap_holds = holds-push P env full st.hyps st.heap x fact.heap_holds hx;
    stack_holds = h;
  }

  -- a sort in the context so far is one in the full context
  sorted-full : (ctx : List Binder) → IsFront ctx full → (e : Tree) → Sorted Sigs ctx e → Sorted Sigs full e
  sorted-full ctx front e (s, h) = (s, sort_extends Sigs Sigs ctx full (extends_itself Sigs) front e s h)

  -- ---- expressions

  abbrev Made : State Tree → Tree × List (Item Tree) → Type 0
  Made st r = Sorted Sigs st.ctx r.0 × ItemsSorted Sigs st.ctx r.1 × StackHolds P env full st.hyps r.1

  built-made : (at t : ℕ) (st : State Tree) (r : Tree × List (Item Tree)) → built strict tables at t st ≡ Ok r → Fact P env params full st → Made st r
  unfolding built
  built-made at t st r e fact =
      from_want (slice_get tables.terms t) k.TermIndex _ r e λ row row-at e1.
      from_bind (pop_operands (length row.signature.params) st.stack) _ r e1 λ es popping e2.
      from_then (operands_fit (signatures_in tables) st.ctx (map (λ x. x) es.0) row.signature.params) _ r e2 λ u fit e3.
      let (sorted, rest-sorted, rest-holds, len) = operands-top P env full st.ctx st.hyps (length row.signature.params) st.stack es popping fact.stack_sorted fact.stack_holds in
      let fit' : operands_fit Sigs st.ctx es.0 row.signature.params ≡ Ok u = subst (λ (z : List Signature). operands_fit z st.ctx es.0 row.signature.params ≡ Ok u) (signatures-are tables env declares) (rw map-id at fit) in
      let fits : Fits Sigs st.ctx (trees_of es.0) row.signature.params = fits-from Sigs st.ctx es.0 row.signature.params u fit' len sorted in
      subst (Made st) (taken-is (app t (trees_of es.0), es.1) r e3)
      ((row.signature.result.sort, (row.signature, signature-at tables env declares t row row-at, refl, fits)), rest-sorted, rest-holds)

  keeps-term : (at t : ℕ) (st st' : State Tree) → proof_step strict tables at code.Term t st ≡ Ok st' → Keeps P env params full st st'
  unfolding proof_step
  keeps-term at t st st' e =
      from_bind (built strict tables at t st) _ st' e λ r making e1.
      step-is st (record st { stack = expr r.0 ∷ r.1 }) st' e1 λ front. (
        front,
        λ fact.
            let (sorted, rest-sorted, rest-holds) = built-made at t st r making fact in
            with-stack st (expr r.0 ∷ r.1) fact (sorted, rest-sorted) (tt, λ _. rest-holds),
      )

  keeps-term_save : (at t : ℕ) (st st' : State Tree) → proof_step strict tables at code.TermSave t st ≡ Ok st' → Keeps P env params full st st'
  unfolding proof_step
  keeps-term_save at t st st' e =
      from_bind (built strict tables at t st) _ st' e λ r making e1.
      step-is st (record st { stack = expr r.0 ∷ r.1; heap = st.heap ++ expr r.0 ∷ [] }) st' e1 λ front. (
        front,
        λ fact.
            let (sorted, rest-sorted, rest-holds) = built-made at t st r making fact in
            with-both st (expr r.0 ∷ r.1) (expr r.0) fact (sorted, rest-sorted) (tt, λ _. rest-holds) sorted tt,
      )

  -- ---- references

  keeps-referred : (x : Item Tree) (st st' : State Tree) → referred strict x st ≡ Ok st' → (Fact P env params full st → ItemSorted Sigs st.ctx x × Holds P env full st.hyps x) → Keeps P env params full st st'
  keeps-referred (expr a) st st' e known = step-is st (record st { stack = expr a ∷ st.stack }) st' e λ front. (
    front,
    λ fact.
        (with-stack st (expr a ∷ st.stack) fact ((known fact).0, fact.stack_sorted) ((known fact).1, λ _. fact.stack_holds)),
  )
  keeps-referred (proof a) st st' e known = step-is st (record st { stack = proof a ∷ st.stack }) st' e λ front. (
    front,
    λ fact.
        (with-stack st (proof a ∷ st.stack) fact ((known fact).0, fact.stack_sorted) ((known fact).1, λ _. fact.stack_holds)),
  )
  keeps-referred (obligation a b) st st' e known = step-is st (record st { stack = obligation a b ∷ st.stack }) st' e λ front. (
    front,
    λ fact.
        (with-stack st (obligation a b ∷ st.stack) fact ((known fact).0, fact.stack_sorted) ((known fact).1, λ _. fact.stack_holds)),
  )
  keeps-referred (conversion a b) st st' e known =
      from_bind (pop_obligation st.stack) _ st' e λ o popping e1.
      from_need (same_tree a o.0 && same_tree b o.1) k.ConversionReference _ st' e1 λ same e2.
      step-is st (record st { stack = o.2 }) st' e2 λ front. (
        front,
        λ fact.
            let (_, _, rest-sorted, rest-holds) = obligation-top P env full st.ctx st.hyps st.stack o popping fact.stack_sorted fact.stack_holds in
            let (left, right) = both-true (same_tree a o.0) (same_tree b o.1) same in
            let left-is : a ≡ o.0 = same_tree-true a o.0 left in
            let right-is : b ≡ o.1 = same_tree-true b o.1 right in
            let paid : Convertible P.gaps env full o.0 o.1 = subst (λ (z : Tree). Convertible P.gaps env full z o.1) left-is (subst (λ (z : Tree). Convertible P.gaps env full a z) right-is (known fact).1) in
            (with-stack st o.2 fact rest-sorted (rest-holds paid)),
      )

  known-at : (i : ℕ) (x : Item Tree) (st : State Tree) → slice_get st.heap i ≡ Some x → Fact P env params full st → ItemSorted Sigs st.ctx x × Holds P env full st.hyps x
  known-at i x st x-at fact = (item-at P env full st.ctx st.heap i x x-at fact.heap_sorted, holds-at P env full st.hyps st.heap i x x-at fact.heap_holds)

  keeps-ref : (at i : ℕ) (st st' : State Tree) → proof_step strict tables at code.Ref i st ≡ Ok st' → Keeps P env params full st st'
  unfolding proof_step
  keeps-ref at i st st' e =
      from_want (slice_get st.heap i) k.HeapIndex _ st' e λ x x-at e1.
      keeps-referred x st st' e1 (known-at i x st x-at)

  keeps-conv_ref : (at i : ℕ) (st st' : State Tree) → proof_step strict tables at code.ConvRef i st ≡ Ok st' → Keeps P env params full st st'
  unfolding proof_step
  keeps-conv_ref at i st st' e =
      from_want (slice_get st.heap i) k.HeapIndex _ st' e λ x x-at e1.
      from_need (is_conversion x) k.Kind _ st' e1 λ is e2.
      keeps-referred x st st' e2 (known-at i x st x-at)

  -- ---- conversions

  keeps-conv : (at n : ℕ) (st st' : State Tree) → proof_step strict tables at code.Conv n st ≡ Ok st' → Keeps P env params full st st'
  unfolding proof_step
  keeps-conv at n st st' e =
      from_bind (pop_proof st.stack) _ st' e λ p popping e1.
      from_bind (pop_expr p.1) _ st' e1 λ l popping-l e2.
      step-is st (record st { stack = obligation l.0 p.0 ∷ proof l.0 ∷ l.1 }) st' e2 λ front. (
        front,
        λ fact.
            let (p-sorted, (d, cites, derives), p-rest, p-holds) = proof-top P env full st.ctx st.hyps st.stack p popping fact.stack_sorted fact.stack_holds in
            let (l-sorted, rest-sorted, rest-holds) = expr-top P env full st.ctx st.hyps p.1 l popping-l p-rest p-holds in
            (with-stack st (obligation l.0 p.0 ∷ proof l.0 ∷ l.1) fact
            ((l-sorted, p-sorted), (l-sorted, rest-sorted))
            (tt, λ paid. ((convert l.0 paid.0 d, (paid.1, cites), (refl, (p.0, paid.2, derives))), λ _. rest-holds))),
      )

  keeps-refl : (at n : ℕ) (st st' : State Tree) → proof_step strict tables at code.Refl n st ≡ Ok st' → Keeps P env params full st st'
  unfolding proof_step
  keeps-refl at n st st' e =
      from_bind (pop_obligation st.stack) _ st' e λ o popping e1.
      from_need (same_tree o.0 o.1) k.Refl _ st' e1 λ same e2.
      step-is st (record st { stack = o.2 }) st' e2 λ front. (
        front,
        λ fact.
            let (l-sorted, r-sorted, rest-sorted, rest-holds) = obligation-top P env full st.ctx st.hyps st.stack o popping fact.stack_sorted fact.stack_holds in
            (with-stack st o.2 fact rest-sorted (rest-holds (refl_conv o.0, tt, (sorted-full st.ctx front o.0 l-sorted, sorted-full st.ctx front o.1 r-sorted, refl, sym (same_tree-true o.0 o.1 same))))),
      )

  keeps-symm : (at n : ℕ) (st st' : State Tree) → proof_step strict tables at code.Symm n st ≡ Ok st' → Keeps P env params full st st'
  unfolding proof_step
  keeps-symm at n st st' e =
      from_bind (pop_obligation st.stack) _ st' e λ o popping e1.
      step-is st (record st { stack = obligation o.1 o.0 ∷ o.2 }) st' e1 λ front. (
        front,
        λ fact.
            let (l-sorted, r-sorted, rest-sorted, rest-holds) = obligation-top P env full st.ctx st.hyps st.stack o popping fact.stack_sorted fact.stack_holds in
            (with-stack st (obligation o.1 o.0 ∷ o.2) fact ((r-sorted, l-sorted), rest-sorted)
            (tt, λ paid. rest-holds (sym_conv paid.0, paid.1, (sorted-full st.ctx front o.0 l-sorted, sorted-full st.ctx front o.1 r-sorted, paid.2)))),
      )

  keeps-conv_cut : (at n : ℕ) (st st' : State Tree) → proof_step strict tables at code.ConvCut n st ≡ Ok st' → Keeps P env params full st st'
  unfolding proof_step
  keeps-conv_cut at n st st' e =
      from_bind (pop_obligation st.stack) _ st' e λ o popping e1.
      step-is st (record st { stack = obligation o.0 o.1 ∷ conversion o.0 o.1 ∷ o.2 }) st' e1 λ front. (
        front,
        λ fact.
            let (l-sorted, r-sorted, rest-sorted, rest-holds) = obligation-top P env full st.ctx st.hyps st.stack o popping fact.stack_sorted fact.stack_holds in
            (with-stack st (obligation o.0 o.1 ∷ conversion o.0 o.1 ∷ o.2) fact
            ((l-sorted, r-sorted), ((l-sorted, r-sorted), rest-sorted))
            (tt, λ paid. (paid, λ _. rest-holds paid))),
      )

  keeps-conv_save : (at n : ℕ) (st st' : State Tree) → proof_step strict tables at code.ConvSave n st ≡ Ok st' → Keeps P env params full st st'
  unfolding proof_step
  keeps-conv_save at n st st' e =
      from_bind (pop_conversion st.stack) _ st' e λ o popping e1.
      step-is st (record st { stack = o.2; heap = st.heap ++ conversion o.0 o.1 ∷ [] }) st' e1 λ front. (
        front,
        λ fact.
            let (l-sorted, r-sorted, converts, rest-sorted, rest-holds) = conversion-top P env full st.ctx st.hyps st.stack o popping fact.stack_sorted fact.stack_holds in
            (with-both st o.2 (conversion o.0 o.1) fact rest-sorted rest-holds (l-sorted, r-sorted) converts),
      )

  keeps-save : (at n : ℕ) (st st' : State Tree) → proof_step strict tables at code.Save n st ≡ Ok st' → Keeps P env params full st st'
  unfolding proof_step
  keeps-save at n st st' e =
      from_bind (pop st.stack) _ st' e λ x popping e1.
      from_need (not (is_obligation x.0)) k.SaveKind _ st' e1 λ is e2.
      step-is st (record st { heap = st.heap ++ x.0 ∷ [] }) st' e2 λ front. (
        front,
        λ fact.
            let stack-is = pop-is st.stack x popping in
            let sorted = subst (ItemsSorted Sigs st.ctx) stack-is fact.stack_sorted in
            let holds = subst (StackHolds P env full st.hyps) stack-is fact.stack_holds in
            with-both st st.stack x.0 fact fact.stack_sorted fact.stack_holds sorted.0 holds.0,
      )

  -- ---- one more hypothesis

  -- an expression of which the machine reads a provable sort has one
  pub claim : (ctx : List Binder) (e : Tree) → Sorted Sigs ctx e → has_provable_sort strict tables ctx e ≡ true → HasProvable env ctx e
  claim ctx e (s, h) provable =
      let read : sort_of (signatures_in tables) ctx e ≡ s = ap (λ (z : List Signature). sort_of z ctx e) (signatures-are tables env declares) ∙ sort_is Sigs ctx e s h in
      (s, h, provable-sort (sorts env) s (sym (ap is_provable_sort (ap (λ z. slice_get z s) declares.sorts_are)) ∙ sym (ap (λ (z : ℕ). is_provable_sort (slice_get tables.sorts z)) read) ∙ provable))

  keeps-hyp : (at n : ℕ) (st st' : State Tree) → proof_step strict tables at code.Hyp n st ≡ Ok st' → Keeps P env params full st st'
  unfolding proof_step
  keeps-hyp at n st st' e =
      from_bind (pop_expr st.stack) _ st' e λ x popping e1.
      from_need (has_provable_sort strict tables st.ctx x.0) k.NotProvable _ st' e1 λ provable e2.
      step-is st (record st { heap = st.heap ++ proof x.0 ∷ []; stack = x.1; hyps = st.hyps ++ x.0 ∷ [] }) st' e2 λ front. (
        front,
        λ fact.
            let (sorted, rest-sorted, rest-holds) = expr-top P env full st.ctx st.hyps st.stack x popping fact.stack_sorted fact.stack_holds in
            record {
              context = fact.context;
              heap_sorted = sorted-push P env full st.ctx st.heap (proof x.0) fact.heap_sorted sorted;
              stack_sorted = rest-sorted;
              hyps_provable = claims-push P env full st.ctx st.hyps x.0 fact.hyps_provable (claim st.ctx x.0 sorted provable);
              heap_holds = holds-push P env full (st.hyps ++ x.0 ∷ []) st.heap (proof x.0) (heap-hyps P env full st.hyps x.0 st.heap fact.heap_holds) (hypothesis (length st.hyps), tt, last-given st.hyps x.0);
              stack_holds = stack-hyps P env full st.hyps x.0 x.1 rest-holds;
            },
      )
    where
      last-given : (hs : List Tree) (h : Tree) → slice_get (listed (trees_of (hs ++ h ∷ []))) (length hs) ≡ Some h
      last-given [] h = refl
      last-given (g ∷ hs) h = last-given hs h

  -- ---- one more variable

  item-front : (ctx longer : List Binder) → IsFront ctx longer → (x : Item Tree) → ItemSorted Sigs ctx x → ItemSorted Sigs longer x
  item-front ctx longer front (expr e) (s, h) = (s, sort_extends Sigs Sigs ctx longer (extends_itself Sigs) front e s h)
  item-front ctx longer front (proof e) (s, h) = (s, sort_extends Sigs Sigs ctx longer (extends_itself Sigs) front e s h)
  item-front ctx longer front (obligation a b) ((s, h), (s', h')) = ((s, sort_extends Sigs Sigs ctx longer (extends_itself Sigs) front a s h), (s', sort_extends Sigs Sigs ctx longer (extends_itself Sigs) front b s' h'))
  item-front ctx longer front (conversion a b) ((s, h), (s', h')) = ((s, sort_extends Sigs Sigs ctx longer (extends_itself Sigs) front a s h), (s', sort_extends Sigs Sigs ctx longer (extends_itself Sigs) front b s' h'))

  items-front : (ctx longer : List Binder) → IsFront ctx longer → (xs : List (Item Tree)) → ItemsSorted Sigs ctx xs → ItemsSorted Sigs longer xs
  items-front ctx longer front [] t = t
  items-front ctx longer front (x ∷ xs) (t, ts) = (item-front ctx longer front x t, items-front ctx longer front xs ts)

  claims-front : (ctx longer : List Binder) → IsFront ctx longer → (es : List Tree) → AreProvableClaims env ctx es → AreProvableClaims env longer es
  claims-front ctx longer front [] t = t
  claims-front ctx longer front (e ∷ es) ((s, h, provable), ts) = ((s, sort_extends Sigs Sigs ctx longer (extends_itself Sigs) front e s h, provable), claims-front ctx longer front es ts)

  more-dummies : (dummies : List Binder) (s : ℕ) → AreDummies (sorts env) dummies → MayBeDummySort (sorts env) s → AreDummies (sorts env) (dummies ++ dummy_of s ∷ [])
  more-dummies dummies s are may i b at = go (split_at dummies (dummy_of s ∷ []) i b at)
    where
      go : (slice_get dummies i ≡ Some b) ⊎ ((j : ℕ) × (i ≡ length dummies + j) × (slice_get (dummy_of s ∷ []) j ≡ Some b)) → IsDummy b × MayBeDummySort (sorts env) b.sort
      go (inl before) = are i b before
      go (inr (zero, _, last)) = let is : dummy_of s ≡ b = cc in subst (λ (z : Binder). IsDummy z × MayBeDummySort (sorts env) z.sort) is ((refl, refl), may)
      go (inr (suc j, _, last)) = absurd cc

  keeps-dummy : (at s : ℕ) (st st' : State Tree) → proof_step strict tables at code.Dummy s st ≡ Ok st' → Keeps P env params full st st'
  unfolding proof_step
  keeps-dummy at s st st' e =
      from_need (may_be_dummy_sort (slice_get tables.sorts s)) k.DummySort _ st' e λ allowed e1.
      from_need (ltb (bound_count st.ctx) 55) k.DummyCount _ st' e1 λ room e2.
      let b : Binder = dummy_of s in
      let x : Tree = var (length st.ctx) in
      let longer : IsFront st.ctx (st.ctx ++ b ∷ []) = λ y c at. get-more st.ctx b y c at in
      step-is st (record { ctx = st.ctx ++ b ∷ []; heap = st.heap ++ expr x ∷ []; stack = expr x ∷ st.stack; hyps = st.hyps }) st' e2 λ front. (
        (λ y c at. front y c (longer y c at)),
        λ fact.
            let sorted : Sorted Sigs (st.ctx ++ b ∷ []) x = (s, (b, slice_get-last st.ctx b, refl)) in
            let (dummies, ctx-is, are) = fact.context in
            record {
              context = (
                dummies ++ b ∷ [],
                ap (λ (z : List Binder). z ++ b ∷ []) ctx-is ∙ append_assoc params dummies (b ∷ []),
                more-dummies dummies s are (dummy-sort (sorts env) s (sym (ap (λ z. may_be_dummy_sort (slice_get z s)) declares.sorts_are) ∙ allowed)),
              );
              heap_sorted = sorted-push P env full (st.ctx ++ b ∷ []) st.heap (expr x) (items-front st.ctx (st.ctx ++ b ∷ []) longer st.heap fact.heap_sorted) sorted;
              stack_sorted = (sorted, items-front st.ctx (st.ctx ++ b ∷ []) longer st.stack fact.stack_sorted);
              hyps_provable = claims-front st.ctx (st.ctx ++ b ∷ []) longer st.hyps fact.hyps_provable;
              heap_holds = holds-push P env full st.hyps st.heap (expr x) fact.heap_holds tt;
              stack_holds = (tt, λ _. fact.stack_holds);
            },
      )

  -- ---- citations

  abbrev Proved : State Tree → Tree × List (Item Tree) → Type 0
  Proved st r = Sorted Sigs st.ctx r.0 × Derivable P env full st.hyps r.0 × ItemsSorted Sigs st.ctx r.1 × StackHolds P env full st.hyps r.1

  cited-proved : (t : ℕ) (st : State Tree) (r : Tree × List (Item Tree)) → (t < length (assertions env) → P.cites t)
      → cited strict tables t st ≡ Ok r → IsFront st.ctx full → Fact P env params full st → Proved st r
  unfolding cited citation
  cited-proved t st r has-p e front fact =
      from_bind (citation strict tables t st) _ r e λ m citing e0.
      from_bind (matched_by strict tables st.ctx m) _ r e0 λ u unified e7.
      from_want (slice_get tables.thms t) k.TheoremIndex _ m citing λ row row-at e1.
      from_need (leb (suc (length row.params)) (length st.stack)) k.Underflow _ m e1 λ enough e2.
      from_bind (pop_expr st.stack) _ m e2 λ x popping e3.
      from_bind (pop_operands (length row.params) x.1) _ m e3 λ es popping-es e4.
      from_then (operands_fit (signatures_in tables) st.ctx (map (λ z. z) es.0) row.params) _ m e4 λ u1 fit e5.
      from_need (are_disjoint st.ctx (map (λ z. z) es.0) row.params) k.Disjoint _ m e5 λ apart e6.
      let made : Matching Tree = record { mode = in_citation; stream = row.stream; operands = es.0; target = x.0; items = es.1 } in
      let m-is : made ≡ m = taken-is made m e6 in
      let run-is : unify strict Sigs st.ctx made ≡ Ok u =
      subst (λ (z : List Signature). unify strict z st.ctx made ≡ Ok u) (signatures-are tables env declares)
      (subst (λ (z : Matching Tree). unify strict (signatures_in tables) st.ctx z ≡ Ok u) (sym m-is) (rule_of-ok _ u unified)) in
      let (x-sorted, x-rest, x-holds) = expr-top P env full st.ctx st.hyps st.stack x popping fact.stack_sorted fact.stack_holds in
      let (sorted, rest-sorted, rest-holds, len) = operands-top P env full st.ctx st.hyps (length row.params) x.1 es popping-es x-rest x-holds in
      let (a, a-at, spells) = pair-at (SpellsThm Sigs) tables.thms (assertions env) declares.thms_are t row row-at in
      let (hs, hs-are, x-is, items-are) = citation-is Sigs st.ctx row a spells es.0 x.0 es.1 u len x-sorted rest-sorted run-is in
      let fit' : operands_fit Sigs st.ctx es.0 row.params ≡ Ok u1 = subst (λ (z : List Signature). operands_fit z st.ctx es.0 row.params ≡ Ok u1) (signatures-are tables env declares) (rw map-id at fit) in
      let fits : Fits Sigs st.ctx (trees_of es.0) row.params = fits-from Sigs st.ctx es.0 row.params u1 fit' len sorted in
      let is-apart : AreDisjoint st.ctx (trees_of es.0) row.params = apart-from-test st.ctx es.0 row.params len (rw map-id at apart) in
      let fits-full : Fits Sigs full (trees_of es.0) a.params = subst (Fits Sigs full (trees_of es.0)) spells.0 (fits_extends Sigs Sigs st.ctx full (extends_itself Sigs) front (trees_of es.0) row.params fits) in
      let apart-full : AreDisjoint full (trees_of es.0) a.params = subst (AreDisjoint full (trees_of es.0)) spells.0 (disjoint_extends Sigs st.ctx full front (trees_of es.0) row.params fits is-apart) in
      let (each, below) = proofs-below P env full st.hyps (reverse hs) u.items (subst (StackHolds P env full st.hyps) items-are rest-holds) in
      let (ds, cite-all, all) = derive-all P env full st.hyps hs (each-reverse P env full st.hyps hs each) in
      let all-hyps : AllDerive env full (trees_of st.hyps) ds (instances (trees_of es.0) a.hyps) = subst (AllDerive env full (trees_of st.hyps) ds) hs-are all in
      let target-is : (x.0, u.items) ≡ r = ap (λ (z : Matching Tree). (z.target, u.items)) m-is ∙ taken-is (m.target, u.items) r e7 in
      subst (Proved st) target-is (
        x-sorted,
        (cite t (trees_of es.0) ds, (has-p (slice_get_within (assertions env) t a a-at), cite-all), (a, a-at, x-is, fits-full, apart-full, all-hyps)),
        sorted-below P env full st.ctx (reverse hs) u.items (subst (ItemsSorted Sigs st.ctx) items-are rest-sorted),
        below,
      )

  keeps-thm : (at t : ℕ) (st st' : State Tree) → (t < length (assertions env) → P.cites t) → proof_step strict tables at code.Thm t st ≡ Ok st' → Keeps P env params full st st'
  unfolding proof_step
  keeps-thm at t st st' has-p e =
      from_bind (cited strict tables t st) _ st' e λ r citing e1.
      step-is st (record st { stack = proof r.0 ∷ r.1 }) st' e1 λ front. (
        front,
        λ fact.
            let (sorted, derives, rest-sorted, rest-holds) = cited-proved t st r has-p citing front fact in
            with-stack st (proof r.0 ∷ r.1) fact (sorted, rest-sorted) (derives, λ _. rest-holds),
      )

  keeps-thm_save : (at t : ℕ) (st st' : State Tree) → (t < length (assertions env) → P.cites t) → proof_step strict tables at code.ThmSave t st ≡ Ok st' → Keeps P env params full st st'
  unfolding proof_step
  keeps-thm_save at t st st' has-p e =
      from_bind (cited strict tables t st) _ st' e λ r citing e1.
      step-is st (record st { stack = proof r.0 ∷ r.1; heap = st.heap ++ proof r.0 ∷ [] }) st' e1 λ front. (
        front,
        λ fact.
            let (sorted, derives, rest-sorted, rest-holds) = cited-proved t st r has-p citing front fact in
            with-both st (proof r.0 ∷ r.1) (proof r.0) fact (sorted, rest-sorted) (derives, λ _. rest-holds) sorted derives,
      )

  -- ---- congruence

  keeps-cong : (at n : ℕ) (st st' : State Tree) → proof_step strict tables at code.Cong n st ≡ Ok st' → Keeps P env params full st st'
  unfolding proof_step
  keeps-cong at n st st' e =
      from_bind (pop_obligation st.stack) _ st' e λ o popping e1.
      from_want (same_term (tree_parts o.0) (tree_parts o.1)) k.Cong _ st' e1 λ es same e2.
      step-is st (record st { stack = sides es.0 es.1 o.2 }) st' e2 λ front. (
        front,
        λ fact.
            let (l-sorted, r-sorted, rest-sorted, rest-holds) = obligation-top P env full st.ctx st.hyps st.stack o popping fact.stack_sorted fact.stack_holds in
            let (t, l-is, r-is) = same-sides o.0 o.1 es same in
            let (d, d-at, _, ls-sorted, ls-len) = operands-sorted Sigs st.ctx o.0 t es.0 l-is l-sorted in
            let (d', d'-at, _, rs-sorted, rs-len) = operands-sorted Sigs st.ctx o.1 t es.1 r-is r-sorted in
            let same-d : d ≡ d' = some_is d-at d'-at in
            let len : length es.0 ≡ length es.1 = ls-len ∙ ap (λ (z : Signature). length z.params) same-d ∙ sym rs-len in
            with-stack st (sides es.0 es.1 o.2) fact (sides-sorted P env full st.ctx es.0 es.1 o.2 ls-sorted rs-sorted rest-sorted)
            (sides-hold P env full st.hyps es.0 es.1 o.2 len λ cs few all.
            rest-holds (cong_conv t cs, few, (sorted-full st.ctx front o.0 l-sorted, sorted-full st.ctx front o.1 r-sorted, (trees_of es.0, trees_of es.1, l-is, r-is, all)))),
      )

  -- ---- unfolding

  abbrev Unfolded : State Tree → Matching Tree × Tree × List (Item Tree) → Type 0
  Unfolded st r = Sorted Sigs st.ctx r.0.target × Sorted Sigs st.ctx r.1 × ItemsSorted Sigs st.ctx r.2 × (Convertible P.gaps env full r.0.target r.1 → StackHolds P env full st.hyps r.2)

  unfolded : (st : State Tree) (r : Matching Tree × Tree × List (Item Tree)) (u : UnifyState Tree) → unfolding_of strict tables st ≡ Ok r → matched_by strict tables st.ctx r.0 ≡ Ok u
      → IsFront st.ctx full → Fact P env params full st → Unfolded st r
  unfolding unfolding_of
  unfolded st r u un unified front fact =
      from_bind (pop_expr st.stack) _ r un λ x popping e1.
      from_bind (pop_sides strict x.1) _ r e1 λ o popping-o e2.
      from_want (tree_parts o.0) k.Unfold _ r e2 λ p parts e3.
      from_want (stream_of (slice_get tables.terms p.0)) k.Unfold _ r e3 λ stream stream-at e4.
      let made : Matching Tree = record { mode = in_definition; stream = stream; operands = p.1; target = x.0; items = [] } in
      let r-is : (made, o.1, o.2) ≡ r = taken-is (made, o.1, o.2) r e4 in
      let run-is : unify strict Sigs st.ctx made ≡ Ok u =
      subst (λ (z : List Signature). unify strict z st.ctx made ≡ Ok u) (signatures-are tables env declares)
      (subst (λ (z : Matching Tree). unify strict (signatures_in tables) st.ctx z ≡ Ok u) (sym (ap (λ (z : Matching Tree × Tree × List (Item Tree)). z.0) r-is)) (rule_of-ok _ u unified)) in
      let (x-sorted, x-rest, x-holds) = expr-top P env full st.ctx st.hyps st.stack x popping fact.stack_sorted fact.stack_holds in
      let (l-sorted, r-sorted, rest-sorted, rest-holds) = sides-top P env full st.ctx st.hyps x.1 o popping-o x-rest x-holds in
      let l-is = parts-are o.0 p parts in
      let (s, s-at, fits, _, p-len) = operands-sorted Sigs st.ctx o.0 p.0 p.1 l-is l-sorted in
      let (row, row-at, row-stream) = stream-row (slice_get tables.terms p.0) stream stream-at in
      let (d, d-at, (sig-is, form-spells)) = pair-at (SpellsTerm Sigs) tables.terms (terms env) declares.terms_are p.0 row row-at in
      let same : row.signature ≡ s = some_is (signature-at tables env declares p.0 row row-at) s-at in
      let d-same : s ≡ d.signature = sym same ∙ sig-is in
      let (dummies, b, form, text) = definition-of Sigs row.signature.params row.stream stream d.form row-stream form-spells in
      let (ys, _, _, (fresh, x-is)) = unfolding-is Sigs st.ctx row.signature.params stream dummies b p.1 x.0 u text (p-len ∙ ap (λ (z : Signature). length z.params) (sym same)) x-sorted run-is in
      let fits-full : Fits Sigs full (trees_of p.1) d.signature.params = subst (λ (z : Signature). Fits Sigs full (trees_of p.1) z.params) d-same (fits_extends Sigs Sigs st.ctx full (extends_itself Sigs) front (trees_of p.1) s.params fits) in
      let fresh-full : AreFresh full (trees_of p.1) ys dummies = fresh_extends Sigs st.ctx full front (trees_of p.1) s.params fits ys dummies fresh in
      subst (Unfolded st) r-is (
        x-sorted,
        r-sorted,
        rest-sorted,
        λ paid. rest-holds (
          unfold_conv p.0 (trees_of p.1) ys paid.0,
          paid.1,
          (
            sorted-full st.ctx front o.0 l-sorted,
            sorted-full st.ctx front o.1 r-sorted,
            l-is,
            (d, dummies, b, (d-at, form), fits-full, fresh-full, subst (λ (z : Tree). Between env full paid.0 z o.1) x-is paid.2),
          ),
        ),
      )

  keeps-unfold : (at n : ℕ) (st st' : State Tree) → proof_step strict tables at code.Unfold n st ≡ Ok st' → Keeps P env params full st st'
  unfolding proof_step
  keeps-unfold at n st st' e =
      from_bind (unfolding_of strict tables st) _ st' e λ m un e1.
      from_bind (matched_by strict tables st.ctx m.0) _ st' e1 λ u unified e2.
      step-is st (record st { stack = obligation m.0.target m.1 ∷ m.2 }) st' e2 λ front. (
        front,
        λ fact.
            let (x-sorted, r-sorted, rest-sorted, rest-holds) = unfolded st m u un unified front fact in
            with-stack st (obligation m.0.target m.1 ∷ m.2) fact ((x-sorted, r-sorted), rest-sorted) (tt, rest-holds),
      )

  -- ---- gaps

  claim-full : (ctx : List Binder) → IsFront ctx full → (e : Tree) → HasProvable env ctx e → HasProvable env full e
  claim-full ctx front e (s, h, provable) = (s, sort_extends Sigs Sigs ctx full (extends_itself Sigs) front e s h, provable)

  -- two expressions of which the machine reads one sort have one
  one-sort-full : (ctx : List Binder) → IsFront ctx full → (l r : Tree) → Sorted Sigs ctx l → Sorted Sigs ctx r → eqb (sort_of (signatures_in tables) ctx l) (sort_of (signatures_in tables) ctx r) ≡ true
      → (s : ℕ) × HasSort Sigs full l s × HasSort Sigs full r s
  one-sort-full ctx front l r (s, h) (s', h') same =
      let sigs-are = signatures-are tables env declares in
      let l-is : sort_of (signatures_in tables) ctx l ≡ s = ap (λ (z : List Signature). sort_of z ctx l) sigs-are ∙ sort_is Sigs ctx l s h in
      let r-is : sort_of (signatures_in tables) ctx r ≡ s' = ap (λ (z : List Signature). sort_of z ctx r) sigs-are ∙ sort_is Sigs ctx r s' h' in
      let one : s' ≡ s = sym r-is ∙ sym (eqb-true _ _ same) ∙ l-is in
      (s, sort_extends Sigs Sigs ctx full (extends_itself Sigs) front l s h, sort_extends Sigs Sigs ctx full (extends_itself Sigs) front r s (subst (HasSort Sigs ctx r) one h'))

  keeps-gapped : (gaps : Bool) (x : Item Tree) (xs : List (Item Tree)) (st st' : State Tree) → P.gaps → st.stack ≡ x ∷ xs → gapped (plain gaps) tables st x xs ≡ Ok st' → Keeps P env params full st st'
  keeps-gapped gaps (expr a) xs st st' ok stack-is e =
      from_need (has_provable_sort strict tables st.ctx a) k.NotProvable _ st' e λ provable e1.
      step-is st (record st { stack = proof a ∷ xs }) st' e1 λ front. (
        front,
        λ fact.
            let sorted = subst (ItemsSorted Sigs st.ctx) stack-is fact.stack_sorted in
            let holds = subst (StackHolds P env full st.hyps) stack-is fact.stack_holds in
            with-stack st (proof a ∷ xs) fact (sorted.0, sorted.1) ((gap a, ok, (refl, claim-full st.ctx front a (claim st.ctx a sorted.0 provable))), λ _. holds.1 tt),
      )
  keeps-gapped gaps (obligation l r) xs st st' ok stack-is e =
      from_need (eqb (sort_of (signatures_in tables) st.ctx l) (sort_of (signatures_in tables) st.ctx r)) k.Sorry _ st' e λ same e1.
      step-is st (record st { stack = xs }) st' e1 λ front. (
        front,
        λ fact.
            let sorted = subst (ItemsSorted Sigs st.ctx) stack-is fact.stack_sorted in
            let holds = subst (StackHolds P env full st.hyps) stack-is fact.stack_holds in
            with-stack st xs fact sorted.1
            (holds.1 (gap_conv l r, ok, (sorted-full st.ctx front l sorted.0.0, sorted-full st.ctx front r sorted.0.1, refl, refl, one-sort-full st.ctx front l r sorted.0.0 sorted.0.1 same))),
      )
  keeps-gapped gaps (proof a) xs st st' ok stack-is e = absurd cc
  keeps-gapped gaps (conversion l r) xs st st' ok stack-is e = absurd cc

  keeps-sorry : (gaps : Bool) (at n : ℕ) (st st' : State Tree) → (gaps ≡ true → P.gaps) → proof_step (plain gaps) tables at code.Sorry n st ≡ Ok st' → Keeps P env params full st st'
  unfolding proof_step
  keeps-sorry gaps at n st st' ok e =
      from_need gaps k.Sorry _ st' e λ on e1.
      from_bind (pop st.stack) _ st' e1 λ x popping e2.
      keeps-gapped gaps x.0 x.1 st st' (ok on) (pop-is st.stack x popping) e2

  -- ---- every row

  -- a citation is of a number that may be cited, and a gap stands where gaps may
  abbrev pub Allowed : Bool → ProofCode → ℕ → Type 0
  Allowed gaps c value = (((c ≡ code.Thm) ⊎ (c ≡ code.ThmSave)) → value < length (assertions env) → P.cites value) × (c ≡ code.Sorry → gaps ≡ true → P.gaps)

  pub keeps : (gaps : Bool) (at : ℕ) (c : ProofCode) (n : ℕ) (st st' : State Tree) → Allowed gaps c n → proof_step (plain gaps) tables at c n st ≡ Ok st' → Keeps P env params full st st'
  keeps gaps at code.Term n st st' ok e = keeps-term at n st st' (sym (row-plain gaps tables at code.Term n st λ is. cc) ∙ e)
  keeps gaps at code.TermSave n st st' ok e = keeps-term_save at n st st' (sym (row-plain gaps tables at code.TermSave n st λ is. cc) ∙ e)
  keeps gaps at code.Ref n st st' ok e = keeps-ref at n st st' (sym (row-plain gaps tables at code.Ref n st λ is. cc) ∙ e)
  keeps gaps at code.Dummy n st st' ok e = keeps-dummy at n st st' (sym (row-plain gaps tables at code.Dummy n st λ is. cc) ∙ e)
  keeps gaps at code.Thm n st st' ok e = keeps-thm at n st st' (ok.0 (inl refl)) (sym (row-plain gaps tables at code.Thm n st λ is. cc) ∙ e)
  keeps gaps at code.ThmSave n st st' ok e = keeps-thm_save at n st st' (ok.0 (inr refl)) (sym (row-plain gaps tables at code.ThmSave n st λ is. cc) ∙ e)
  keeps gaps at code.Hyp n st st' ok e = keeps-hyp at n st st' (sym (row-plain gaps tables at code.Hyp n st λ is. cc) ∙ e)
  keeps gaps at code.Conv n st st' ok e = keeps-conv at n st st' (sym (row-plain gaps tables at code.Conv n st λ is. cc) ∙ e)
  keeps gaps at code.Refl n st st' ok e = keeps-refl at n st st' (sym (row-plain gaps tables at code.Refl n st λ is. cc) ∙ e)
  keeps gaps at code.Symm n st st' ok e = keeps-symm at n st st' (sym (row-plain gaps tables at code.Symm n st λ is. cc) ∙ e)
  keeps gaps at code.Cong n st st' ok e = keeps-cong at n st st' (sym (row-plain gaps tables at code.Cong n st λ is. cc) ∙ e)
  keeps gaps at code.Unfold n st st' ok e = keeps-unfold at n st st' (sym (row-plain gaps tables at code.Unfold n st λ is. cc) ∙ e)
  keeps gaps at code.ConvCut n st st' ok e = keeps-conv_cut at n st st' (sym (row-plain gaps tables at code.ConvCut n st λ is. cc) ∙ e)
  keeps gaps at code.ConvRef n st st' ok e = keeps-conv_ref at n st st' (sym (row-plain gaps tables at code.ConvRef n st λ is. cc) ∙ e)
  keeps gaps at code.ConvSave n st st' ok e = keeps-conv_save at n st st' (sym (row-plain gaps tables at code.ConvSave n st λ is. cc) ∙ e)
  keeps gaps at code.Save n st st' ok e = keeps-save at n st st' (sym (row-plain gaps tables at code.Save n st λ is. cc) ∙ e)
  keeps gaps at code.Sorry n st st' ok e = keeps-sorry gaps at n st st' (ok.1 refl) e

-- A stream that runs spells something, whatever its operands are.
use Rattle.std.proofs.Common.{◌≡◌, ℕ, zero, suc, ◌+◌, ◌≤◌, List, [], ◌∷◌, ◌++◌, length, Some, Ok, refl, sym, ap, subst, ◌∙◌, inl, inr, arith, append_assoc, append-nil, length-append}
use Rattle.std.specs.Prelude.{slice_get, reverse, ◌&&◌}
use Rattle.std.proofs.lemmas.List.{reverse-reverse}
use Rattle.std.proofs.lemmas.Option.{slice_get_within}
use Rattle.std.proofs.lemmas.Bool.{cases_lt}
use Rattle.mz_base.proofs.Offered.{slice_get-within}
use Rattle.mz_cmd.specs.declared.rule.K.TheVariants as k
use Rattle.mz_logic_theory.specs.Tree.{Tree, Trees, var, app, none, more, listed, size, trees_size}
use Rattle.mz_logic_theory.specs.Signature.{Signature}
use Rattle.mz_logic_theory.specs.declared.binder.Binder.{Binder}
use Rattle.mz_logic_theory.proofs.Offered.{same-term, same-operands}
use Rattle.mz_machine_theory.specs.Streams.{of_assertion, of_definition, UnifyCommand, u_term, u_term_save, u_ref, u_dummy, u_hyp, u_end}
use Rattle.mz_machine_theory.specs.Spells.{trees_of, dummy_of, Marks, marked, HasOperands, Spells, SpellsAll, SpellsHyps, variables_from, at_first, SpellsText, Text}
use Rattle.mz_machine_theory.specs.Profile.{strict, Item, proof}
use Rattle.mz_machine_theory.specs.Sorted.{Sorted, AllSorted, ItemSorted, ItemsSorted}
use Rattle.mz_machine_theory.specs.Tests.{same_tree}
use Rattle.mz_machine_theory.specs.UnifyMachine.{UnifyMode, in_citation, in_definition, UnifyState, top_target, is_empty, next_hypothesis, nothing_left, is_fresh, unify_step, unify}
use Rattle.mz_machine_theory.specs.UnifyLaws.{citing, unfolding_by}
use Rattle.mz_machine_theory.proofs.Inverting.{from_bind, from_need, from_want, need-not, taken-is}
use Rattle.mz_machine_theory.proofs.Trees.{same_tree-true, listed-trees_of, operand-trees_of, operands-sorted}
use Rattle.mz_machine_theory.proofs.Matching.{run, top-is, head-is, tail-is, opened-term, opened-save, Opened}
use Rattle.mz_machine_theory.proofs.Spelled.{reads, not-empty, no-app, spells-ref}
use Rattle.mz_machine_theory.proofs.Citations.{length-params, hypothesis-is}
use Rattle.mz_machine_theory.proofs.NoDummies.{no-dummies}
use Rattle.mz_machine_theory.proofs.OwnStream.{Middle, middle-after, middle-stream, no-target, nothing-follows}

-- marks with more after them
abbrev pub with_more : Marks → List Tree → List Binder → Marks
with_more m new met = record { trees = m.trees ++ new; dummies = m.dummies ++ met }

pub nothing-more : (m : Marks) → with_more m [] [] ≡ m
nothing-more m = ap (λ (z : List Tree). record { trees = z; dummies = m.dummies ++ [] }) (append-nil m.trees) ∙ ap (λ (z : List Binder). record { trees = m.trees; dummies = z }) (append-nil m.dummies)

pub more-more : (m : Marks) (a b : List Tree) (c d : List Binder) → with_more (with_more m a c) b d ≡ with_more m (a ++ b) (c ++ d)
more-more m a b c d = ap (λ (z : List Tree). record { trees = z; dummies = (m.dummies ++ c) ++ d }) (append_assoc m.trees a b) ∙ ap (λ (z : List Binder). record { trees = m.trees ++ (a ++ b); dummies = z }) (append_assoc m.dummies c d)

-- the marks agree where the heap holds an expression of at most this size: only there may a pattern of
-- that size refer to
pub record Alike (k : ℕ) (heap : List Tree) (m m' : Marks) : Type 0 where
  pub long : length m'.trees ≡ length m.trees
  pub dummies : m'.dummies ≡ m.dummies
  pub same : (i : ℕ) (q : Tree) → slice_get heap i ≡ Some q → size q ≤ k → slice_get m'.trees i ≡ slice_get m.trees i

pub alike-itself : (k : ℕ) (heap : List Tree) (m : Marks) → Alike k heap m m
alike-itself k heap m = record { long = refl; dummies = refl; same = λ i q at small. refl }

pub alike-less : (k j : ℕ) (heap : List Tree) (m m' : Marks) → j ≤ k → Alike k heap m m' → Alike j heap m m'
alike-less k j heap m m' le a = record { long = a.long; dummies = a.dummies; same = λ i q at small. a.same i q at (omega arith) }

get-right : (xs zs ys : List Tree) (i : ℕ) → length xs ≡ length zs → length xs ≤ i → slice_get (xs ++ ys) i ≡ slice_get (zs ++ ys) i
get-right [] [] ys i len le = refl
get-right [] (z ∷ zs) ys i len le = absurd (omega arith)
get-right (x ∷ xs) [] ys i len le = absurd (omega arith)
get-right (x ∷ xs) (z ∷ zs) ys zero len le = absurd (omega arith)
get-right (x ∷ xs) (z ∷ zs) ys (suc i) len le = get-right xs zs ys i (omega arith) (omega arith)

-- the last one
get-last : (xs : List Tree) (t q : Tree) (i : ℕ) → length xs ≤ i → slice_get (xs ++ t ∷ []) i ≡ Some q → t ≡ q
get-last [] t q zero le e = cc
get-last [] t q (suc i) le e = absurd cc
get-last (x ∷ xs) t q zero le e = absurd (omega arith)
get-last (x ∷ xs) t q (suc i) le e = get-last xs t q i (omega arith) e

-- with the same more after them
pub alike-more : (k : ℕ) (heap grown : List Tree) (m m' : Marks) (new : List Tree) (met : List Binder) → length m.trees ≡ length heap → Alike k heap m m' → Alike k (heap ++ grown) (with_more m new met) (with_more m' new met)
alike-more k heap grown m m' new met len a = record {
  long = omega (arith, length-append m.trees new, length-append m'.trees new, a.long);
  dummies = ap (λ (z : List Binder). z ++ met) a.dummies;
  same = λ i q at small. elim (cases_lt i (length heap)) [
    | inl lt ↦ slice_get-within m'.trees new i (omega (arith, a.long)) ∙ a.same i q (sym (slice_get-within heap grown i lt) ∙ at) small ∙ sym (slice_get-within m.trees new i (omega arith))
    | inr le ↦ get-right m'.trees m.trees new i a.long (omega (arith, a.long))
  ];
}

-- with a mark for an expression that is larger
pub alike-pending : (k : ℕ) (heap : List Tree) (m m' : Marks) (t p p' : Tree) → length m.trees ≡ length heap → suc k ≤ size t → Alike k heap m m' → Alike k (heap ++ t ∷ []) (marked m p) (marked m' p')
alike-pending k heap m m' t p p' len large a = record {
  long = omega (arith, length-append m.trees (p ∷ []), length-append m'.trees (p' ∷ []), a.long);
  dummies = a.dummies;
  same = λ i q at small. elim (cases_lt i (length heap)) [
    | inl lt ↦ slice_get-within m'.trees (p' ∷ []) i (omega (arith, a.long)) ∙ a.same i q (sym (slice_get-within heap (t ∷ []) i lt) ∙ at) small ∙ sym (slice_get-within m.trees (p ∷ []) i (omega arith))
    | inr le ↦ absurd (let is : t ≡ q = get-last heap t q i le at in omega (arith, ap size is))
  ];
}

module _ (sigs : List Signature) (ctx : List Binder) (mode : UnifyMode) (n : ℕ) (u : UnifyState Tree) where
  -- what is spelled on a target: under whatever marks are alike
  pub record SomeSpelt (k : ℕ) (m : Marks) (us : List UnifyCommand) (st : UnifyState Tree) (left : List Tree) : Type 0 where
    pub pattern : Tree
    pub new : List Tree
    pub met : List Binder
    pub rest : List UnifyCommand
    pub state : UnifyState Tree
    pub grown : List Tree
    pub suffix : (front : List UnifyCommand) × (us ≡ front ++ rest)
    pub spells : (m' : Marks) → Alike k st.heap m m' → Spells n sigs m' us pattern (with_more m' new met) rest
    pub runs : run sigs ctx mode rest state ≡ Ok u
    pub targets : state.targets ≡ left
    pub heap : state.heap ≡ st.heap ++ grown
    pub long : length new ≡ length grown
    pub apart : length state.apart ≡ length st.apart + length met
    pub items : state.items ≡ st.items

  pub record SomeAllSpelt (k count : ℕ) (m : Marks) (us : List UnifyCommand) (st : UnifyState Tree) (left : List Tree) : Type 0 where
    pub patterns : Trees
    pub counted : length (listed patterns) ≡ count
    pub new : List Tree
    pub met : List Binder
    pub rest : List UnifyCommand
    pub state : UnifyState Tree
    pub grown : List Tree
    pub suffix : (front : List UnifyCommand) × (us ≡ front ++ rest)
    pub spells : (m' : Marks) → Alike k st.heap m m' → SpellsAll n sigs m' us patterns (with_more m' new met) rest
    pub runs : run sigs ctx mode rest state ≡ Ok u
    pub targets : state.targets ≡ left
    pub heap : state.heap ≡ st.heap ++ grown
    pub long : length new ≡ length grown
    pub apart : length state.apart ≡ length st.apart + length met
    pub items : state.items ≡ st.items

  mark-at : (trees heap : List Tree) (i : ℕ) (x : Tree) → length trees ≡ length heap → slice_get heap i ≡ Some x → (p : Tree) × (slice_get trees i ≡ Some p)
  mark-at [] heap i x len e = absurd (omega (arith, slice_get_within heap i x e))
  mark-at (t ∷ trees) [] i x len e = absurd cc
  mark-at (t ∷ trees) (h ∷ heap) zero x len e = (t, refl)
  mark-at (t ∷ trees) (h ∷ heap) (suc i) x len e = mark-at trees heap i x (omega arith) e

  some-ref : (t : Tree) (i : ℕ) (m : Marks) (us : List UnifyCommand) (st : UnifyState Tree) (ts : List Tree)
      → run sigs ctx mode (u_ref i ∷ us) st ≡ Ok u → st.targets ≡ t ∷ ts → length m.trees ≡ length st.heap → SomeSpelt (size t) m (u_ref i ∷ us) st ts
  unfolding unify_step
  some-ref t i m us st ts ran top len =
      from_bind (unify_step strict sigs ctx mode (u_ref i) st) _ u ran λ s row later.
      from_bind (top_target st.targets) _ s row λ r r-is e1.
      from_want (slice_get st.heap i) k.UnifyReference _ s e1 λ x x-at e2.
      from_need (same_tree x r.0) k.UnifyReference _ s e2 λ same e3.
      let both : t ∷ ts ≡ r.0 ∷ r.1 = sym top ∙ top-is st.targets r r-is in
      let x-is : x ≡ t = same_tree-true x r.0 same ∙ sym (head-is t r.0 ts r.1 both) in
      let (p, p-at) = mark-at m.trees st.heap i x len x-at in
      record {
        pattern = p;
        new = [];
        met = [];
        rest = us;
        state = record st { targets = r.1 };
        grown = [];
        suffix = (u_ref i ∷ [], refl);
        spells = λ m' alike. subst (λ (z : Marks). Spells n sigs m' (u_ref i ∷ us) p z us) (sym (nothing-more m'))
            (spells-ref sigs ctx mode n u p m' us i (alike.same i x x-at (omega (arith, ap size x-is)) ∙ p-at));
        runs = subst (λ (z : UnifyState Tree). run sigs ctx mode us z ≡ Ok u) (sym (taken-is (record st { targets = r.1 }) s e3)) later;
        targets = sym (tail-is t r.0 ts r.1 both);
        heap = sym (append-nil st.heap);
        long = refl;
        apart = omega arith;
        items = refl;
      }

  some-dummy : (y d : ℕ) (m : Marks) (us : List UnifyCommand) (st : UnifyState Tree) (ts : List Tree)
      → run sigs ctx mode (u_dummy d ∷ us) st ≡ Ok u → st.targets ≡ var y ∷ ts → length m.trees ≡ length st.heap → SomeSpelt 1 m (u_dummy d ∷ us) st ts
  unfolding unify_step
  some-dummy y d m us st ts ran top len =
      from_bind (unify_step strict sigs ctx mode (u_dummy d) st) _ u ran λ s row later.
      from_bind (top_target st.targets) _ s row λ r r-is e1.
      from_need (is_fresh strict sigs ctx d r.0 st.apart) k.UnifyDummy _ s e1 λ test e2.
      let both : var y ∷ ts ≡ r.0 ∷ r.1 = sym top ∙ top-is st.targets r r-is in
      let made : UnifyState Tree = record st { targets = r.1; heap = st.heap ++ r.0 ∷ []; apart = st.apart ++ r.0 ∷ [] } in
      record {
        pattern = var (n + length m.dummies);
        new = var (n + length m.dummies) ∷ [];
        met = dummy_of d ∷ [];
        rest = us;
        state = made;
        grown = r.0 ∷ [];
        suffix = (u_dummy d ∷ [], refl);
        spells = λ m' alike. inr (d, refl, ap (λ (z : List Binder). n + length z) (sym alike.dummies), refl);
        runs = subst (λ (z : UnifyState Tree). run sigs ctx mode us z ≡ Ok u) (sym (taken-is made s e2)) later;
        targets = sym (tail-is (var y) r.0 ts r.1 both);
        heap = refl;
        long = refl;
        apart = length-append st.apart (r.0 ∷ []);
        items = refl;
      }

  -- as many patterns as the term has parameters
  counted : (h : ℕ) (es : List Tree) (t : Tree) (ps : Trees) → t ≡ app h (trees_of es) → Sorted sigs ctx t → length (listed ps) ≡ length es → HasOperands sigs h ps
  counted h es t ps is sorted len =
      let (d, at, _, _, es-len) = operands-sorted sigs ctx t h es is sorted in
      (d, at, len ∙ es-len)

  operands-all : (h : ℕ) (es : List Tree) (t : Tree) → t ≡ app h (trees_of es) → Sorted sigs ctx t → AllSorted sigs ctx es
  operands-all h es t is sorted = let (d, at, _, all, _) = operands-sorted sigs ctx t h es is sorted in all

  mutual
    unfolding unify_step Opened

    pub some-spelt : (t : Tree) (us : List UnifyCommand) (m : Marks) (st : UnifyState Tree) (ts : List Tree)
        → run sigs ctx mode us st ≡ Ok u → st.targets ≡ t ∷ ts → Sorted sigs ctx t → length m.trees ≡ length st.heap → SomeSpelt (size t) m us st ts
    some-spelt t [] m st ts ran top sorted len = absurd (need-not (is_empty st.targets && nothing_left mode st.items) k.UnifyRest (Ok st) u (rw (not-empty st.targets t ts top) refl) ran)
    some-spelt t (u_ref i ∷ us) m st ts ran top sorted len = some-ref t i m us st ts ran top len
    some-spelt (var y) (u_dummy d ∷ us) m st ts ran top sorted len = some-dummy y d m us st ts ran top len
    some-spelt (app h es) (u_dummy d ∷ us) m st ts ran top sorted len = absurd (no-app sigs ctx mode n u h es d us st ts ran top)
    some-spelt t (u_hyp ∷ us) m st ts ran top sorted len =
        from_bind (unify_step strict sigs ctx mode u_hyp st) _ u ran λ s row later. absurd (need-not (is_empty st.targets) k.UnifyRest _ s (not-empty st.targets t ts top) row)
    some-spelt t (u_end ∷ us) m st ts ran top sorted len =
        from_bind (unify_step strict sigs ctx mode u_end st) _ u ran λ s row later. absurd (need-not (is_empty st.targets && nothing_left mode st.items) k.UnifyRest (Ok st) s (rw (not-empty st.targets t ts top) refl) row)
    some-spelt (var y) (u_term h ∷ us) m st ts ran top sorted len =
        let (es, bad, later) = opened-term sigs ctx mode n (trees_of u.apart) u (operand-trees_of u.apart) h (u_term h ∷ us) us st (var y) ts refl ran top in absurd cc
    some-spelt (var y) (u_term_save h ∷ us) m st ts ran top sorted len =
        let (es, bad, later) = opened-save sigs ctx mode n (trees_of u.apart) u (operand-trees_of u.apart) h (u_term_save h ∷ us) us st (var y) ts refl ran top in absurd cc
    some-spelt (app h es) (u_term t ∷ us) m st ts ran top sorted len =
        let (fs, is, later) = opened-term sigs ctx mode n (trees_of u.apart) u (operand-trees_of u.apart) t (u_term t ∷ us) us st (app h es) ts refl ran top in
        let same : h ≡ t = same-term h t es (trees_of fs) is in
        let es-are : es ≡ trees_of fs = same-operands h t es (trees_of fs) is in
        let fs-are : fs ++ ts ≡ listed es ++ ts = ap (λ (z : List Tree). z ++ ts) (sym (listed-trees_of fs) ∙ ap listed (sym es-are)) in
        let a = some-all es us m (record st { targets = fs ++ ts }) ts later fs-are (subst (AllSorted sigs ctx) (sym (ap listed es-are ∙ listed-trees_of fs)) (operands-all t fs (app h es) is sorted)) len in
        let operands : HasOperands sigs t a.patterns = counted t fs (app h es) a.patterns is sorted (a.counted ∙ ap length (ap listed es-are ∙ listed-trees_of fs)) in
        record {
          pattern = app t a.patterns;
          new = a.new;
          met = a.met;
          rest = a.rest;
          state = a.state;
          grown = a.grown;
          suffix = (u_term t ∷ a.suffix.0, ap (λ (z : List UnifyCommand). u_term t ∷ z) a.suffix.1);
          spells = λ m' alike. inr (inl (us, refl, operands, a.spells m' (alike-less (size (app h es)) (trees_size es) st.heap m m' (omega arith) alike)));
          runs = a.runs;
          targets = a.targets;
          heap = a.heap;
          long = a.long;
          apart = a.apart;
          items = a.items;
        }
    some-spelt (app h es) (u_term_save t ∷ us) m st ts ran top sorted len =
        let (fs, is, later) = opened-save sigs ctx mode n (trees_of u.apart) u (operand-trees_of u.apart) t (u_term_save t ∷ us) us st (app h es) ts refl ran top in
        let same : h ≡ t = same-term h t es (trees_of fs) is in
        let es-are : es ≡ trees_of fs = same-operands h t es (trees_of fs) is in
        let fs-are : fs ++ ts ≡ listed es ++ ts = ap (λ (z : List Tree). z ++ ts) (sym (listed-trees_of fs) ∙ ap listed (sym es-are)) in
        let longer : length (marked m (var 0)).trees ≡ length (st.heap ++ app h es ∷ []) = omega (arith, length-append m.trees (var 0 ∷ []), length-append st.heap (app h es ∷ []), len) in
        let a = some-all es us (marked m (var 0)) (record st { targets = fs ++ ts; heap = st.heap ++ app h es ∷ [] }) ts later fs-are (subst (AllSorted sigs ctx) (sym (ap listed es-are ∙ listed-trees_of fs)) (operands-all t fs (app h es) is sorted)) longer in
        let operands : HasOperands sigs t a.patterns = counted t fs (app h es) a.patterns is sorted (a.counted ∙ ap length (ap listed es-are ∙ listed-trees_of fs)) in
        let p : Tree = app t a.patterns in
        record {
          pattern = p;
          new = p ∷ a.new;
          met = a.met;
          rest = a.rest;
          state = a.state;
          grown = app h es ∷ a.grown;
          suffix = (u_term_save t ∷ a.suffix.0, ap (λ (z : List UnifyCommand). u_term_save t ∷ z) a.suffix.1);
          spells = λ m' alike. inr (inr (
            us,
            refl,
            operands,
            subst (λ (z : List Tree). SpellsAll n sigs (marked m' p) us a.patterns (record { trees = z; dummies = m'.dummies ++ a.met }) a.rest) (append_assoc m'.trees (p ∷ []) a.new)
                (a.spells (marked m' p) (alike-pending (trees_size es) st.heap m m' (app h es) (var 0) p len (omega arith) (alike-less (size (app h es)) (trees_size es) st.heap m m' (omega arith) alike))),
          ));
          runs = a.runs;
          targets = a.targets;
          heap = a.heap ∙ append_assoc st.heap (app h es ∷ []) a.grown;
          long = ap suc a.long;
          apart = a.apart;
          items = a.items;
        }

    some-all : (es : Trees) (us : List UnifyCommand) (m : Marks) (st : UnifyState Tree) (ts : List Tree)
        → run sigs ctx mode us st ≡ Ok u → st.targets ≡ listed es ++ ts → AllSorted sigs ctx (listed es) → length m.trees ≡ length st.heap → SomeAllSpelt (trees_size es) (length (listed es)) m us st ts
    some-all none us m st ts ran top sorted len = record {
      patterns = none;
      counted = refl;
      new = [];
      met = [];
      rest = us;
      state = st;
      grown = [];
      suffix = ([], refl);
      spells = λ m' alike. (nothing-more m', refl);
      runs = ran;
      targets = top;
      heap = sym (append-nil st.heap);
      long = refl;
      apart = omega arith;
      items = refl;
    }
    some-all (more e es) us m st ts ran top (sorted, rest-sorted) len =
        let a = some-spelt e us m st (listed es ++ ts) ran top sorted len in
        let m1 : Marks = with_more m a.new a.met in
        let len1 : length m1.trees ≡ length a.state.heap = omega (arith, length-append m.trees a.new, ap length a.heap, length-append st.heap a.grown, a.long, len) in
        let b = some-all es a.rest m1 a.state ts a.runs a.targets rest-sorted len1 in
        record {
          patterns = more a.pattern b.patterns;
          counted = ap suc b.counted;
          new = a.new ++ b.new;
          met = a.met ++ b.met;
          rest = b.rest;
          state = b.state;
          grown = a.grown ++ b.grown;
          suffix = (a.suffix.0 ++ b.suffix.0, a.suffix.1 ∙ ap (λ (z : List UnifyCommand). a.suffix.0 ++ z) b.suffix.1 ∙ sym (append_assoc a.suffix.0 b.suffix.0 b.rest));
          spells = λ m' alike.
              let later : Alike (trees_size es) a.state.heap m1 (with_more m' a.new a.met) = subst (λ (z : List Tree). Alike (trees_size es) z m1 (with_more m' a.new a.met)) (sym a.heap)
              (alike-more (trees_size es) st.heap a.grown m m' a.new a.met len (alike-less (size e + trees_size es) (trees_size es) st.heap m m' (omega arith) alike)) in (
                with_more m' a.new a.met,
                a.rest,
                a.spells m' (alike-less (size e + trees_size es) (size e) st.heap m m' (omega arith) alike),
                subst (λ (z : Marks). SpellsAll n sigs (with_more m' a.new a.met) a.rest b.patterns z b.rest) (more-more m' a.new b.new a.met b.met) (b.spells (with_more m' a.new a.met) later),
              );
          runs = b.runs;
          targets = b.targets;
          heap = b.heap ∙ ap (λ (z : List Tree). z ++ b.grown) a.heap ∙ append_assoc st.heap a.grown b.grown;
          long = omega (arith, length-append a.new b.new, length-append a.grown b.grown, a.long, b.long);
          apart = omega (arith, length-append a.met b.met, a.apart, b.apart);
          items = b.items ∙ a.items;
        }

-- ---- the hypotheses of a citation

first-item : (x y : Item Tree) (xs ys : List (Item Tree)) → x ∷ xs ≡ y ∷ ys → x ≡ y
first-item x y xs ys e = cc

rest-items : (x y : Item Tree) (xs ys : List (Item Tree)) → x ∷ xs ≡ y ∷ ys → xs ≡ ys
rest-items x y xs ys e = cc

no-next : (items : List (Item Tree)) (x : Tree × List (Item Tree)) → items ≡ [] → next_hypothesis in_citation items ≡ Ok x → ⊥
no-next [] x e h = cc
no-next (y ∷ ys) x e h = cc

module _ (sigs : List Signature) (ctx : List Binder) (n : ℕ) (u : UnifyState Tree) where
  abbrev SomeHyps : Marks → List UnifyCommand → UnifyState Tree → Type 0
  SomeHyps m us st = (hs : List Tree) × (last : Marks) × SpellsHyps n sigs m us hs last

  some-hyps : (items : List (Item Tree)) (us : List UnifyCommand) (m : Marks) (st : UnifyState Tree)
      → Middle us → run sigs ctx in_citation us st ≡ Ok u → st.targets ≡ [] → st.items ≡ items → ItemsSorted sigs ctx items → length m.trees ≡ length st.heap → SomeHyps m us st
  unfolding unify_step
  some-hyps items [] m st middle ran top are sorted len = ([], m, (refl, refl))
  some-hyps [] (u_hyp ∷ us) m st middle ran top are sorted len =
      from_bind (unify_step strict sigs ctx in_citation u_hyp st) _ u ran λ s row later.
      from_need (is_empty st.targets) k.UnifyRest _ s row λ done e1.
      from_bind (next_hypothesis in_citation st.items) _ s e1 λ x next e2.
      absurd (no-next st.items x are next)
  some-hyps (x ∷ xs) (u_hyp ∷ us) m st (_, middle) ran top are (sorted, all-sorted) len =
      from_bind (unify_step strict sigs ctx in_citation u_hyp st) _ u ran λ s row later.
      from_need (is_empty st.targets) k.UnifyRest _ s row λ done e1.
      from_bind (next_hypothesis in_citation st.items) _ s e1 λ r next e2.
      let both : x ∷ xs ≡ proof r.0 ∷ r.1 = sym are ∙ hypothesis-is st.items r next in
      let x-is : x ≡ proof r.0 = first-item x (proof r.0) xs r.1 both in
      let xs-are : r.1 ≡ xs = sym (rest-items x (proof r.0) xs r.1 both) in
      let made : UnifyState Tree = record st { targets = r.0 ∷ []; items = r.1 } in
      let later' : run sigs ctx in_citation us made ≡ Ok u = subst (λ (z : UnifyState Tree). run sigs ctx in_citation us z ≡ Ok u) (sym (taken-is made s e2)) later in
      let a = some-spelt sigs ctx in_citation n u r.0 us m made [] later' refl (subst (ItemSorted sigs ctx) x-is sorted) len in
      let len' : length (with_more m a.new a.met).trees ≡ length a.state.heap = omega (arith, length-append m.trees a.new, ap length a.heap, length-append st.heap a.grown, a.long, len) in
      let (hs, last, spells) = some-hyps xs a.rest (with_more m a.new a.met) a.state (middle-after a.suffix.0 a.rest (subst Middle a.suffix.1 middle)) a.runs a.targets (a.items ∙ xs-are) all-sorted len' in
      (a.pattern ∷ hs, last, (us, with_more m a.new a.met, a.rest, refl, a.spells m (alike-itself (size r.0) st.heap m), spells))
  some-hyps items (u_end ∷ us) m st (no-end, middle) ran top are sorted len = absurd (no-end tt)
  some-hyps items (u_term t ∷ us) m st middle ran top are sorted len =
      from_bind (unify_step strict sigs ctx in_citation (u_term t) st) _ u ran λ s row later. from_bind (top_target st.targets) _ s row λ x x-is e1. absurd (no-target x st.targets top x-is)
  some-hyps items (u_term_save t ∷ us) m st middle ran top are sorted len =
      from_bind (unify_step strict sigs ctx in_citation (u_term_save t) st) _ u ran λ s row later. from_bind (top_target st.targets) _ s row λ x x-is e1. absurd (no-target x st.targets top x-is)
  some-hyps items (u_ref i ∷ us) m st middle ran top are sorted len =
      from_bind (unify_step strict sigs ctx in_citation (u_ref i) st) _ u ran λ s row later. from_bind (top_target st.targets) _ s row λ x x-is e1. absurd (no-target x st.targets top x-is)
  some-hyps items (u_dummy d ∷ us) m st middle ran top are sorted len =
      from_bind (unify_step strict sigs ctx in_citation (u_dummy d) st) _ u ran λ s row later. from_bind (top_target st.targets) _ s row λ x x-is e1. absurd (no-target x st.targets top x-is)

-- ---- whole streams

pub cited-spells : (sigs : List Signature) (ctx params : List Binder) (stream : List ℕ) (es : List Tree) (e : Tree) (items : List (Item Tree)) (u : UnifyState Tree)
    → length es ≡ length params → Sorted sigs ctx e → ItemsSorted sigs ctx items
    → unify strict sigs ctx (citing stream es e items) ≡ Ok u → (hyps : Trees) × (conclusion : Tree) × Text of_assertion sigs params stream hyps conclusion []
unfolding unify
cited-spells sigs ctx params stream es e items u len sorted items-sorted done =
    let st : UnifyState Tree = record { heap = es; apart = es; targets = e ∷ []; items = items } in
    let (us, is-stream, ran) = reads sigs ctx in_citation (length stream) 0 stream st u done in
    let len-params : length (variables_from 0 params) ≡ length es = length-params 0 params ∙ sym len in
    let a = some-spelt sigs ctx in_citation (length params) u e us (at_first params) st [] ran refl sorted len-params in
    let m : Marks = with_more (at_first params) a.new a.met in
    let len' : length m.trees ≡ length a.state.heap = omega (arith, length-append (variables_from 0 params) a.new, ap length a.heap, length-append es a.grown, a.long, len-params) in
    let (hs, last, spells) = some-hyps sigs ctx (length params) u items a.rest m a.state (middle-after a.suffix.0 a.rest (subst Middle a.suffix.1 (middle-stream of_assertion stream us is-stream))) a.runs a.targets a.items items-sorted len' in
    let hyps : Trees = trees_of (reverse hs) in
    let order : hs ≡ reverse (listed hyps) = sym (ap reverse (listed-trees_of (reverse hs)) ∙ reverse-reverse hs) in
    let text : SpellsText of_assertion sigs params stream hyps a.pattern last =
    (us, is-stream, m, a.rest, a.spells (at_first params) (alike-itself (size e) es (at_first params)), subst (λ (z : List Tree). SpellsHyps (length params) sigs m a.rest z last) order spells) in
    (hyps, a.pattern, (last, text, no-dummies sigs params stream hyps a.pattern last text))

pub unfolded-spells : (sigs : List Signature) (ctx params : List Binder) (stream : List ℕ) (es : List Tree) (e : Tree) (u : UnifyState Tree)
    → length es ≡ length params → Sorted sigs ctx e
    → unify strict sigs ctx (unfolding_by stream es e) ≡ Ok u → (body : Tree) × (marks : Marks) × SpellsText of_definition sigs params stream none body marks
unfolding unify
unfolded-spells sigs ctx params stream es e u len sorted done =
    let st : UnifyState Tree = record { heap = es; apart = es; targets = e ∷ []; items = [] } in
    let (us, is-stream, ran) = reads sigs ctx in_definition (length stream) 0 stream st u done in
    let a = some-spelt sigs ctx in_definition (length params) u e us (at_first params) st [] ran refl sorted (length-params 0 params ∙ sym len) in
    let m : Marks = with_more (at_first params) a.new a.met in
    let ended : a.rest ≡ [] = nothing-follows sigs ctx a.rest a.state u (middle-after a.suffix.0 a.rest (subst Middle a.suffix.1 (middle-stream of_definition stream us is-stream))) a.runs a.targets a.items in
    (a.pattern, m, (us, is-stream, m, a.rest, a.spells (at_first params) (alike-itself (size e) es (at_first params)), (ended, refl)))

-- An assertion whose stream runs in a citation is cited by its instance.
use Rattle.std.proofs.Common.{◌≡◌, ℕ, zero, suc, ◌+◌, ◌<◌, true, List, [], ◌∷◌, ◌++◌, length, map, Some, Ok, refl, sym, ap, subst, ◌∙◌, arith}
use Rattle.std.specs.Prelude.{slice_get, reverse, ◌&&◌}
use Rattle.std.proofs.lemmas.List.{reverse-append, append-nil, map-append}
use Rattle.mz_cmd.specs.declared.rule.K.TheVariants as k
use Rattle.mz_logic_theory.specs.Tree.{Tree, Trees, var, listed, operand, instance, instances}
use Rattle.mz_logic_theory.specs.Signature.{Signature}
use Rattle.mz_logic_theory.specs.Declaration.{Assertion}
use Rattle.mz_logic_theory.specs.declared.binder.Binder.{Binder}
use Rattle.mz_machine_theory.specs.Steps.{◌>>=◌}
use Rattle.mz_machine_theory.specs.Streams.{UnifyCommand, u_hyp, u_end}
use Rattle.mz_machine_theory.specs.Spells.{trees_of, Marks, SpellsHyps, variables_from, at_first, SpelledThm, SpellsThm}
use Rattle.mz_machine_theory.specs.Profile.{strict, Item, expr, proof, obligation, conversion}
use Rattle.mz_machine_theory.specs.Sorted.{Sorted, ItemsSorted}
use Rattle.mz_machine_theory.specs.UnifyMachine.{in_citation, UnifyState, is_empty, next_hypothesis, unify_step, unify}
use Rattle.mz_machine_theory.proofs.Inverting.{from_bind, from_need, taken-is}
use Rattle.mz_machine_theory.proofs.Trees.{operand-trees_of, instances-listed}
use Rattle.mz_machine_theory.proofs.Matching.{run, run-from, Agrees, agrees-append, Matched, matched, Met, FreshList, met-none, met-both, met-length, run-grows, same-length}

-- ---- the parameters as marks

params-at : (j i : ℕ) (ps : List Binder) (p : Tree) → slice_get (variables_from j ps) i ≡ Some p → (p ≡ var (j + i)) × (i < length ps)
params-at j i [] p e = absurd cc
params-at j zero (b ∷ ps) p e = let is : var j ≡ p = cc in (sym is ∙ ap var (omega arith), omega arith)
params-at j (suc i) (b ∷ ps) p e = let (is, lt) = params-at (suc j) i ps p e in (is ∙ ap var (omega arith), omega arith)

put-front : (es extra : List Tree) (i : ℕ) → i < length es → slice_get es i ≡ Some (operand (trees_of (es ++ extra)) i)
put-front [] extra i lt = absurd (omega arith)
put-front (e ∷ es) extra zero lt = refl
put-front (e ∷ es) extra (suc i) lt = put-front es extra i (omega arith)

pub length-params : (j : ℕ) (ps : List Binder) → length (variables_from j ps) ≡ length ps
length-params j [] = refl
length-params j (b ∷ ps) = ap suc (length-params (suc j) ps)

pub start-agrees : (ps : List Binder) (es all : List Tree) (m : ℕ) → length es ≡ length ps → ((extra : List Tree) × (all ≡ es ++ extra)) → Agrees (trees_of all) (variables_from 0 ps) es m
unfolding Agrees
start-agrees ps es all m len (extra, all-are) i p at small =
    let (is, lt) = params-at 0 i ps p at in
    put-front es extra i (omega arith) ∙ ap (λ (z : List Tree). Some (operand (trees_of z) i)) (sym all-are) ∙ ap (λ (z : Tree). Some (instance (trees_of all) z)) (ap var (omega arith) ∙ sym is)

-- ---- the hypotheses

pub map-reverse : {A B : Type 0} (f : A → B) (xs : List A) → map f (reverse xs) ≡ reverse (map f xs)
map-reverse f [] = refl
map-reverse {B = B} f (x ∷ xs) =
    ap (map f) (reverse-append (x ∷ []) xs) ∙ map-append f (reverse xs) (x ∷ []) ∙ ap (λ (z : List B). z ++ f x ∷ []) (map-reverse f xs) ∙ sym (reverse-append (f x ∷ []) (map f xs))

pub hypothesis-is : (items : List (Item Tree)) (r : Tree × List (Item Tree)) → next_hypothesis in_citation items ≡ Ok r → items ≡ proof r.0 ∷ r.1
hypothesis-is [] r e = absurd cc
hypothesis-is (expr x ∷ xs) r e = absurd cc
hypothesis-is (proof x ∷ xs) r e = ap (λ (p : Tree × List (Item Tree)). proof p.0 ∷ p.1) (taken-is (x, xs) r e)
hypothesis-is (obligation a b ∷ xs) r e = absurd cc
hypothesis-is (conversion a b ∷ xs) r e = absurd cc

module _ (sigs : List Signature) (ctx : List Binder) (n : ℕ) (f : Trees) (u : UnifyState Tree) (f-is : (i : ℕ) (t : Tree) → slice_get u.apart i ≡ Some t → operand f i ≡ t) where
  hyps-matched : (rs : List Tree) (m last : Marks) (us : List UnifyCommand) (st : UnifyState Tree)
      → SpellsHyps n sigs m us rs last → run sigs ctx in_citation us st ≡ Ok u → ItemsSorted sigs ctx st.items
      → length m.trees ≡ length st.heap → ((size : ℕ) → Agrees f m.trees st.heap size) → length st.apart ≡ n + length m.dummies → (st.items ≡ map proof (map (instance f) rs) ++ u.items) × Met sigs ctx st.apart u.apart m.dummies last.dummies
  unfolding unify_step Matched
  hyps-matched [] m last us st (us-are, m-is) ran sorted len agrees apart-len =
      let ran' : unify_step strict sigs ctx in_citation u_end st ≡ Ok u = subst (λ (z : List UnifyCommand). run sigs ctx in_citation z st ≡ Ok u) us-are ran in
      from_need (is_empty st.targets && true) k.UnifyRest _ u ran' λ done e1.
      let same = taken-is st u e1 in
      (ap (λ (z : UnifyState Tree). z.items) same, subst (λ (z : UnifyState Tree). Met sigs ctx st.apart z.apart m.dummies last.dummies) same (subst (λ (z : Marks). Met sigs ctx st.apart st.apart m.dummies z.dummies) (sym m-is) (met-none sigs ctx st.apart m.dummies)))
  hyps-matched (h ∷ rs) m last us st (rest, mid, us', us-are, spells, others) ran sorted len agrees apart-len =
      let ran' : (unify_step strict sigs ctx in_citation u_hyp st >>= run sigs ctx in_citation rest) ≡ Ok u = subst (λ (z : List UnifyCommand). run sigs ctx in_citation z st ≡ Ok u) us-are ran in
      from_bind (unify_step strict sigs ctx in_citation u_hyp st) _ u ran' λ s row later.
      from_need (is_empty st.targets) k.UnifyRest _ s row λ done e1.
      from_bind (next_hypothesis in_citation st.items) _ s e1 λ r next e2.
      let items-are = hypothesis-is st.items r next in
      let s-is = taken-is (record st { targets = r.0 ∷ []; items = r.1 }) s e2 in
      let later' : run sigs ctx in_citation rest (record st { targets = r.0 ∷ []; items = r.1 }) ≡ Ok u = subst (λ (z : UnifyState Tree). run sigs ctx in_citation rest z ≡ Ok u) (sym s-is) later in
      let (head-sorted, rest-sorted) = subst (ItemsSorted sigs ctx) items-are sorted in
      let (a, r-is) = matched sigs ctx in_citation n f u f-is h m mid rest us' (record st { targets = r.0 ∷ []; items = r.1 }) r.0 [] spells later' refl head-sorted len (agrees _) apart-len in
      let len-mid : length mid.trees ≡ length a.state.heap = ap length a.marks ∙ same-length f m.trees st.heap a.new len ∙ sym (ap length a.heap) in
      let agrees-mid : (size : ℕ) → Agrees f mid.trees a.state.heap size =
      λ size. subst (λ (z : List Tree). Agrees f z a.state.heap size) (sym a.marks) (subst (λ (z : List Tree). Agrees f (m.trees ++ a.new) z size) (sym a.heap) (agrees-append f m.trees st.heap a.new size len (agrees size))) in
      let (others-are, others-met) = hyps-matched rs mid last us' a.state others a.runs (subst (ItemsSorted sigs ctx) (sym a.items) rest-sorted) len-mid agrees-mid (met-length sigs ctx st.apart a.state.apart m.dummies mid.dummies n a.met apart-len) in (
        items-are ∙ ap (λ (z : Tree). proof z ∷ r.1) r-is ∙ ap (λ (z : List (Item Tree)). proof (instance f h) ∷ z) (sym a.items ∙ others-are),
        met-both sigs ctx st.apart a.state.apart u.apart m.dummies mid.dummies last.dummies a.met others-met,
      )

nothing-met : (sigs : List Signature) (ctx : List Binder) (from to : List Tree) (after : List Binder) → after ≡ [] → Met sigs ctx from to [] after → to ≡ from
nothing-met sigs ctx from to after none-is met = go met.ys met.binders met.apart (met.dummies) met.fresh
  where
    go : (ys : List ℕ) (ss : List Binder) → to ≡ from ++ map var ys → after ≡ [] ++ ss → FreshList sigs ctx from ys ss → to ≡ from
    go [] ss is d f = is ∙ append-nil from
    go (y ∷ ys) [] is d f = absurd f
    go (y ∷ ys) (s ∷ ss) is d f = let bad : s ∷ ss ≡ [] = sym d ∙ none-is in absurd cc

-- where the stream of an assertion runs in a citation, target and hypotheses are instances
pub citation-is : (sigs : List Signature) (ctx : List Binder) (row : SpelledThm) (a : Assertion) → SpellsThm sigs row a → (es : List Tree) (e : Tree) (items : List (Item Tree)) (u : UnifyState Tree)
    → length es ≡ length row.params → Sorted sigs ctx e → ItemsSorted sigs ctx items
    → unify strict sigs ctx (record { mode = in_citation; stream = row.stream; operands = es; target = e; items = items }) ≡ Ok u
    → (hs : List Tree) × (trees_of hs ≡ instances (trees_of es) a.hyps) × (e ≡ instance (trees_of es) a.conclusion) × (items ≡ map proof (reverse hs) ++ u.items)
unfolding unify Matched
citation-is sigs ctx row a (params, (last, (us, stream, mid, rest, spells, hyps), no-dummies)) es e items u len sorted items-sorted done =
    let f : Trees = trees_of u.apart in
    let st : UnifyState Tree = record { heap = es; apart = es; targets = e ∷ []; items = items } in
    let ran = run-from sigs ctx in_citation (length row.stream) 0 row.stream us st u stream done in
    let grown = run-grows sigs ctx in_citation us st u ran in
    let len-params : length (variables_from 0 row.params) ≡ length es = length-params 0 row.params ∙ sym len in
    let apart-len : length es ≡ length row.params + 0 = omega arith in
    let (x, e-is) = matched sigs ctx in_citation (length row.params) f u (operand-trees_of u.apart) a.conclusion (at_first row.params) mid us rest st e [] spells ran refl sorted len-params (start-agrees row.params es u.apart _ len grown) apart-len in
    let len-mid : length mid.trees ≡ length x.state.heap = ap length x.marks ∙ same-length f (variables_from 0 row.params) es x.new len-params ∙ sym (ap length x.heap) in
    let agrees-mid : (size : ℕ) → Agrees f mid.trees x.state.heap size =
    λ size. subst (λ (z : List Tree). Agrees f z x.state.heap size) (sym x.marks) (subst (λ (z : List Tree). Agrees f (variables_from 0 row.params ++ x.new) z size) (sym x.heap) (agrees-append f (variables_from 0 row.params) es x.new size len-params (start-agrees row.params es u.apart size len grown))) in
    let (items-are, met) = hyps-matched sigs ctx (length row.params) f u (operand-trees_of u.apart) (reverse (listed a.hyps)) mid last rest x.state hyps x.runs (subst (ItemsSorted sigs ctx) (sym x.items) items-sorted) len-mid agrees-mid (met-length sigs ctx es x.state.apart [] mid.dummies (length row.params) x.met apart-len) in
    let same : u.apart ≡ es = nothing-met sigs ctx es u.apart last.dummies no-dummies (met-both sigs ctx es x.state.apart u.apart [] mid.dummies last.dummies x.met met) in
    let all-items = sym x.items ∙ items-are ∙ ap (λ (z : List Tree). map proof z ++ u.items) (map-reverse (instance f) (listed a.hyps)) in
    subst (λ (z : List Tree). (hs : List Tree) × (trees_of hs ≡ instances (trees_of z) a.hyps) × (e ≡ instance (trees_of z) a.conclusion) × (items ≡ map proof (reverse hs) ++ u.items)) same
    (map (instance f) (listed a.hyps), instances-listed f a.hyps, e-is, all-items)

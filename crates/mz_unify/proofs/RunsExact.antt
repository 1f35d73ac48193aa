-- A run ends exactly where the stream spells a pattern of which target and items are the instance.
use Rattle.std.proofs.Common.{◌≡◌, ℕ, suc, ◌+◌, List, [], ◌∷◌, ◌++◌, length, map, Result, Ok, Err, refl, sym, ap, subst, ◌∙◌, arith, length-append}
use Rattle.std.specs.Prelude.{⊤, reverse}
use Rattle.std.proofs.lemmas.List.{length-map, length-reverse, reverse-reverse, reverse-append}
use Rattle.mz_cmd.specs.declared.rule.K.{K}
use Rattle.mz_logic_theory.specs.Tree.{Tree, Trees, none, more, listed, instances}
use Rattle.mz_logic_theory.specs.Signature.{Signature}
use Rattle.mz_logic_theory.specs.declared.binder.Binder.{Binder}
use Rattle.mz_store.specs.Sharing.{Sharing, tree_of, IsIn, IsOver}
use Rattle.mz_store.specs.declared.item.Id.{Id}
use Rattle.mz_store.specs.declared.item.Item.{Item as Kept}
use Rattle.mz_store.specs.declared.item.Item.TheVariants as kept
use Rattle.mz_machine_theory.specs.Spells.{trees_of, variables_from}
use Rattle.mz_machine_theory.specs.Profile.{strict, Item, proof}
use Rattle.mz_machine_theory.specs.Sorted.{Sorted, AllSorted, ItemsSorted}
use Rattle.mz_machine_theory.specs.UnifyMachine.{in_citation, at_end, in_definition, Matching, UnifyState, unify}
use Rattle.mz_machine_theory.specs.UnifyLaws.{RunsLeaving, own_assertion, unfolding_by}
use Rattle.mz_unify.specs.Stored.{trees_at, item_at, items_at, AreItemsIn, matching_at, AreLeft, Says, EndsWith}
use Rattle.mz_unify.specs.Patterns.{IsCitation, IsOwnAssertion, IsInstanceOfBody, IsInstance, AreOperandsFor, IsNoInstance}
use Rattle.mz_unify.specs.declared.unified.UnifyMode.{UnifyMode}
use Rattle.mz_unify.specs.declared.unified.UnifyMode.TheVariants.{Use, Final, Body}
use Rattle.mz_unify.specs.declared.unified.Unified.{Unified}
use Rattle.mz_unify.specs.declared.unified.Unified.TheVariants.{Done, Refused, Mem}
use Rattle.mz_machine_theory.proofs.Offered.{citations-exact, unfoldings-exact, assertions-spelled, cited-spells, unfolded-spells}
use Rattle.mz_unify.proofs.ItemsLeft.{ends-empty, with_items, put, run-items}

-- ---- counting

instances-many : (f : Trees) (hs : List Tree) (es : Trees) → trees_of hs ≡ instances f es → length hs ≡ length (listed es)
instances-many f [] none e = refl
instances-many f [] (more x es) e = absurd cc
instances-many f (h ∷ hs) none e = absurd cc
instances-many f (h ∷ hs) (more x es) e = let rest : trees_of hs ≡ instances f es = cc in ap suc (instances-many f hs es rest)

proofs-many : (hs : List Tree) → length (map proof (reverse hs)) ≡ length hs
proofs-many hs = length-map (reverse hs) proof ∙ length-reverse hs

-- ---- by mode, of a run

module _ (sigs : List Signature) (ctx params : List Binder) (stream : List ℕ) (es : List Tree) (e : Tree) (items : List (Item Tree)) where
  clash : (m : Matching Tree) (u : UnifyState Tree) (f : ℕ × K) → unify strict sigs ctx m ≡ Ok u → unify strict sigs ctx m ≡ Err f → ⊥
  clash m u f p q = cc

  abbrev cited : Matching Tree
  cited = record { mode = in_citation; stream = stream; operands = es; target = e; items = items }

  cited-done : (heap : List Tree) (rest : List (Item Tree)) (taken : ℕ) → Sorted sigs ctx e → ItemsSorted sigs ctx items → length es ≡ length params → length items ≡ length rest + taken
      → RunsLeaving sigs ctx cited heap rest → IsCitation sigs params cited taken heap rest
  cited-done heap rest taken sorted all len count done =
      let (u, ran, _, _) = done in
      let (hyps, conclusion, (marks, text, _)) = cited-spells sigs ctx params stream es e items u len sorted all ran in
      let ((hs, hs-are, e-is, items-are), heap-is) = (citations-exact sigs ctx params stream hyps conclusion marks text es e items rest heap len sorted all).0 done in
      let many : length (listed hyps) ≡ taken = sym (instances-many (trees_of es) hs hyps hs-are) ∙ omega (arith, ap length items-are, length-append (map proof (reverse hs)) rest, proofs-many hs) in
      (hyps, conclusion, marks, text, (hs, hs-are, e-is, items-are), heap-is, many)

  cited-refused : (f : ℕ × K) → Sorted sigs ctx e → ItemsSorted sigs ctx items → length es ≡ length params → unify strict sigs ctx cited ≡ Err f
      → (taken : ℕ) (heap : List Tree) (rest : List (Item Tree)) → IsCitation sigs params cited taken heap rest → ⊥
  cited-refused f sorted all len no-run taken heap rest (hyps, conclusion, marks, text, is, heap-is, many) =
      let (u, ran, _, _) = (citations-exact sigs ctx params stream hyps conclusion marks text es e items rest heap len sorted all).1 (is, heap-is) in
      clash cited u f ran no-run

  abbrev ending : Matching Tree
  ending = record { mode = at_end; stream = stream; operands = es; target = e; items = items }

  all-left : (a b : List Tree) → AllSorted sigs ctx a → AllSorted sigs ctx b → AllSorted sigs ctx (a ++ b)
  all-left [] b p q = q
  all-left (x ∷ a) b p q = (p.0, all-left a b p.1 q)

  all-reverse : (xs : List Tree) → AllSorted sigs ctx xs → AllSorted sigs ctx (reverse xs)
  all-reverse [] h = tt
  all-reverse (x ∷ xs) h = rw (reverse-append (x ∷ []) xs) (all-left (reverse xs) (x ∷ []) (all-reverse xs h.1) (h.0, tt))

  of-proofs : (xs : List Tree) → ItemsSorted sigs ctx (map proof xs) → AllSorted sigs ctx xs
  of-proofs [] h = tt
  of-proofs (x ∷ xs) h = (h.0, of-proofs xs h.1)

  hyps-sorted : (hs : List Tree) → items ≡ map proof (reverse hs) → ItemsSorted sigs ctx items → AllSorted sigs ctx hs
  hyps-sorted hs is all = subst (AllSorted sigs ctx) (reverse-reverse hs) (all-reverse (reverse hs) (of-proofs (reverse hs) (subst (ItemsSorted sigs ctx) is all)))

  own : (hs : List Tree) → es ≡ variables_from 0 params → items ≡ map proof (reverse hs) → ending ≡ own_assertion params stream e hs
  own hs es-are items-are = rw (es-are, items-are) refl

  ended-done : (heap : List Tree) (rest : List (Item Tree)) (taken : ℕ) → Sorted sigs ctx e → ItemsSorted sigs ctx items → (es ≡ variables_from 0 params) × ((hs : List Tree) × (items ≡ map proof (reverse hs)))
      → length items ≡ length rest + taken → RunsLeaving sigs ctx ending heap rest → IsOwnAssertion sigs params ending taken heap rest
  unfolding unify
  ended-done heap rest taken sorted all (es-are, (hs, items-are)) count (u, ran, heap-is, rest-is) =
      let none : rest ≡ [] = sym rest-is ∙ ends-empty sigs ctx (length stream) 0 stream _ u ran in
      let left : RunsLeaving sigs ctx (own_assertion params stream e hs) heap [] = subst (λ (m : Matching Tree). RunsLeaving sigs ctx m heap []) (own hs es-are items-are) (u, ran, heap-is, rest-is ∙ none) in
      let (marks, text, marks-are) = (assertions-spelled sigs ctx params stream e hs heap sorted (hyps-sorted hs items-are all)).0 left in
      (hs, marks, text, items-are, marks-are, none, omega (arith, ap length items-are, ap length none, proofs-many hs))

  ended-refused : (f : ℕ × K) → Sorted sigs ctx e → ItemsSorted sigs ctx items → es ≡ variables_from 0 params → unify strict sigs ctx ending ≡ Err f
      → (taken : ℕ) (heap : List Tree) (rest : List (Item Tree)) → IsOwnAssertion sigs params ending taken heap rest → ⊥
  ended-refused f sorted all es-are no-run taken heap rest (hs, marks, text, items-are, marks-are, gone, many) =
      let (u, ran, _, _) = subst (λ (m : Matching Tree). RunsLeaving sigs ctx m heap []) (sym (own hs es-are items-are)) ((assertions-spelled sigs ctx params stream e hs heap sorted (hyps-sorted hs items-are all)).1 (marks, text, marks-are)) in
      clash ending u f ran no-run

  abbrev unfolded : Matching Tree
  unfolded = record { mode = in_definition; stream = stream; operands = es; target = e; items = items }

  -- the same with no items
  abbrev bare-run : Result (UnifyState Tree) (ℕ × K)
  bare-run = unify strict sigs ctx (unfolding_by stream es e)

  with-run : unify strict sigs ctx unfolded ≡ put items bare-run
  unfolding unify
  with-run = run-items sigs ctx items (length stream) 0 stream (record { heap = es; apart = es; targets = e ∷ []; items = [] })

  bare-is : bare-run ≡ put [] bare-run
  unfolding unify
  bare-is = run-items sigs ctx [] (length stream) 0 stream (record { heap = es; apart = es; targets = e ∷ []; items = [] })

  put-ok : (xs : List (Item Tree)) (r : Result (UnifyState Tree) (ℕ × K)) (u : UnifyState Tree) → put xs r ≡ Ok u → (v : UnifyState Tree) × (r ≡ Ok v) × (u ≡ with_items xs v)
  put-ok xs (Ok v) u h = (v, refl, cc)
  put-ok xs (Err f) u h = absurd cc

  put-err : (xs : List (Item Tree)) (r : Result (UnifyState Tree) (ℕ × K)) (f : ℕ × K) (v : UnifyState Tree) → put xs r ≡ Err f → r ≡ Ok v → ⊥
  put-err xs (Ok w) f v h is = cc
  put-err xs (Err g) f v h is = cc

  unfolded-done : (heap : List Tree) (rest : List (Item Tree)) (taken : ℕ) → Sorted sigs ctx e → length es ≡ length params → length items ≡ length rest + taken
      → RunsLeaving sigs ctx unfolded heap rest → IsInstanceOfBody sigs ctx params unfolded taken heap rest
  unfolded-done heap rest taken sorted len count (u, ran, heap-is, rest-is) =
      let (v, bare, same) = put-ok items bare-run u (sym with-run ∙ ran) in
      let (w, _, again) = put-ok [] bare-run v (sym bare-is ∙ bare) in
      let none : v.items ≡ [] = ap (λ (z : UnifyState Tree). z.items) again in
      let its-heap : v.heap ≡ heap = sym (ap (λ (z : UnifyState Tree). z.heap) same) ∙ heap-is in
      let its-rest : rest ≡ items = sym rest-is ∙ ap (λ (z : UnifyState Tree). z.items) same in
      let (body, marks, text) = unfolded-spells sigs ctx params stream es e v len sorted bare in
      (body, marks, text, (unfoldings-exact sigs ctx params stream body marks text es e heap len sorted).0 (v, bare, its-heap, none), its-rest, omega (arith, ap length its-rest))

  unfolded-refused : (f : ℕ × K) → Sorted sigs ctx e → length es ≡ length params → unify strict sigs ctx unfolded ≡ Err f
      → (taken : ℕ) (heap : List Tree) (rest : List (Item Tree)) → IsInstanceOfBody sigs ctx params unfolded taken heap rest → ⊥
  unfolded-refused f sorted len no-run taken heap rest (body, marks, text, is, _, _) =
      let (v, bare, _, _) = (unfoldings-exact sigs ctx params stream body marks text es e heap len sorted).1 is in
      put-err items bare-run f v (sym with-run ∙ no-run) bare

-- ---- over a store

module _ (sigs : List Signature) (s : Sharing) (over : IsOver sigs s) where
  id-sorted : (i : ℕ) → IsIn s i → Sorted sigs s.context (tree_of s i)
  id-sorted i h = (_, (over i h).0)

  item-sorted : (xs : List Kept) → AreItemsIn s xs → ItemsSorted sigs s.context (map (item_at s) xs)
  item-sorted [] h = tt
  item-sorted (kept.Expr i ∷ xs) h = (id-sorted i.0 h.0, item-sorted xs h.1)
  item-sorted (kept.Proof i ∷ xs) h = (id-sorted i.0 h.0, item-sorted xs h.1)
  item-sorted (kept.Obligation i j ∷ xs) h = ((id-sorted i.0 h.0.0, id-sorted j.0 h.0.1), item-sorted xs h.1)
  item-sorted (kept.Conversion i j ∷ xs) h = ((id-sorted i.0 h.0.0, id-sorted j.0 h.0.1), item-sorted xs h.1)

  items-in-both : (xs ys : List Kept) → AreItemsIn s xs → AreItemsIn s ys → AreItemsIn s (xs ++ ys)
  items-in-both [] ys p q = q
  items-in-both (x ∷ xs) ys p q = (p.0, items-in-both xs ys p.1 q)

  items-in-reverse : (xs : List Kept) → AreItemsIn s xs → AreItemsIn s (reverse xs)
  items-in-reverse [] h = tt
  items-in-reverse (x ∷ xs) h = rw (reverse-append (x ∷ []) xs) (items-in-both (reverse xs) (x ∷ []) (items-in-reverse xs h.1) (h.0, tt))

  items-many : (xs : List Kept) → length (items_at s xs) ≡ length xs
  items-many xs = length-map (reverse xs) (item_at s) ∙ length-reverse xs

  left-many : (old new : List Kept) (taken : ℕ) → AreLeft old new taken → length (items_at s old) ≡ length (items_at s new) + taken
  left-many old new taken (gone, is, many) = omega (arith, items-many old, items-many new, ap length is, length-append new gone)

  pub said-exact : (mode : UnifyMode) (params : List Binder) (stream : List ℕ) (heap : List Id) (target : Id) (hyps : List Kept) (said : Unified) (heap' : List Id) (hyps' : List Kept)
      → IsIn s target.0 → AreItemsIn s hyps → AreOperandsFor mode params (matching_at s mode stream heap target hyps)
      → Says said (λ taken. AreLeft hyps hyps' taken) (λ _ _. ⊤)
      → Says said (λ _. EndsWith (unify strict sigs s.context (matching_at s mode stream heap target hyps)) (trees_at s heap') (items_at s hyps'))
      (λ at rule. unify strict sigs s.context (matching_at s mode stream heap target hyps) ≡ Err (at, rule))
      → Says said (λ taken. IsInstance mode sigs s.context params (matching_at s mode stream heap target hyps) taken (trees_at s heap') (items_at s hyps'))
      (λ _ _. IsNoInstance mode sigs s.context params (matching_at s mode stream heap target hyps))
  said-exact Use params stream heap target hyps (Done taken) heap' hyps' it all fit left ran =
      cited-done sigs s.context params stream (trees_at s heap) (tree_of s target.0) (items_at s hyps) (trees_at s heap') (items_at s hyps') taken (id-sorted target.0 it) (item-sorted (reverse hyps) (items-in-reverse hyps all)) fit (left-many hyps hyps' taken left) ran
  said-exact Use params stream heap target hyps (Refused at rule) heap' hyps' it all fit left ran =
      cited-refused sigs s.context params stream (trees_at s heap) (tree_of s target.0) (items_at s hyps) (at, rule) (id-sorted target.0 it) (item-sorted (reverse hyps) (items-in-reverse hyps all)) fit ran
  said-exact Final params stream heap target hyps (Done taken) heap' hyps' it all fit left ran =
      ended-done sigs s.context params stream (trees_at s heap) (tree_of s target.0) (items_at s hyps) (trees_at s heap') (items_at s hyps') taken (id-sorted target.0 it) (item-sorted (reverse hyps) (items-in-reverse hyps all)) fit (left-many hyps hyps' taken left) ran
  said-exact Final params stream heap target hyps (Refused at rule) heap' hyps' it all fit left ran =
      ended-refused sigs s.context params stream (trees_at s heap) (tree_of s target.0) (items_at s hyps) (at, rule) (id-sorted target.0 it) (item-sorted (reverse hyps) (items-in-reverse hyps all)) fit.0 ran
  said-exact Body params stream heap target hyps (Done taken) heap' hyps' it all fit left ran =
      unfolded-done sigs s.context params stream (trees_at s heap) (tree_of s target.0) (items_at s hyps) (trees_at s heap') (items_at s hyps') taken (id-sorted target.0 it) fit (left-many hyps hyps' taken left) ran
  said-exact Body params stream heap target hyps (Refused at rule) heap' hyps' it all fit left ran =
      unfolded-refused sigs s.context params stream (trees_at s heap) (tree_of s target.0) (items_at s hyps) (at, rule) (id-sorted target.0 it) fit ran
  said-exact mode params stream heap target hyps Mem heap' hyps' it all fit left ran = tt

-- Streams run exactly on the instances of what they spell, and leave the instances of the marks.
use Rattle.std.proofs.Common.{◌≡◌, ℕ, zero, suc, ◌+◌, ◌<◌, List, [], ◌∷◌, ◌++◌, length, map, Result, Ok, true, refl, sym, ap, subst, ◌∙◌, arith, append-nil}
use Rattle.std.specs.Prelude.{reverse}
use Rattle.std.proofs.lemmas.List.{reverse-reverse}
use Rattle.mz_cmd.specs.declared.rule.K.{K}
use Rattle.mz_logic_theory.specs.Tree.{Tree, Trees, var, app, none, more, listed, operand, size, followed_by, variables, instance, instances}
use Rattle.mz_logic_theory.specs.Signature.{Signature}
use Rattle.mz_logic_theory.specs.Declaration.{Assertion}
use Rattle.mz_logic_theory.specs.declared.binder.Binder.{Binder}
use Rattle.mz_machine_theory.specs.Streams.{of_assertion}
use Rattle.mz_machine_theory.specs.Spells.{trees_of, variables_from, Marks, SpellsText, SpelledThm, SpellsThm}
use Rattle.mz_machine_theory.specs.Profile.{strict, Item, proof}
use Rattle.mz_machine_theory.specs.UnifyMachine.{UnifyState, Matching, in_citation, at_end, unify}
use Rattle.mz_machine_theory.specs.UnifyLaws.{RunsLeaving, instances_of, citing, unfolding_by, own_assertion, CitationsAreExact, UnfoldingsAreExact, AssertionsAreSpelled, DefinitionsAreSpelled}
use Rattle.mz_machine_theory.proofs.Trees.{listed-trees_of, instances-listed}
use Rattle.mz_machine_theory.proofs.Citations.{citation-is, length-params, map-reverse}
use Rattle.mz_machine_theory.proofs.Unfolding.{unfolding-is}
use Rattle.mz_machine_theory.proofs.NoDummies.{no-dummies}
use Rattle.mz_machine_theory.proofs.Below.{Below, AllBelow, EachBelow, MarksBelow, text-below}
use Rattle.mz_machine_theory.proofs.OwnStream.{assertion-spelled}
use Rattle.mz_machine_theory.proofs.Exactness.{instances-run, instances-unfolded}
use Rattle.mz_machine_theory.proofs.SomeText.{unfolded-spells}

-- a stream leaves one heap
heap-is-one : (sigs : List Signature) (ctx : List Binder) (m : Matching Tree) (u : UnifyState Tree) (heap rest : List Tree) (items : List (Item Tree)) → unify strict sigs ctx m ≡ Ok u → u.heap ≡ heap → RunsLeaving sigs ctx m rest items → heap ≡ rest
heap-is-one sigs ctx m u heap rest items done is (v, ran, heap-is, left) = let same : u ≡ v = ok-is (unify strict sigs ctx m) u v done ran in sym is ∙ ap (λ (z : UnifyState Tree). z.heap) same ∙ heap-is
  where
    ok-is : (r : Result (UnifyState Tree) (ℕ × K)) (x y : UnifyState Tree) → r ≡ Ok x → r ≡ Ok y → x ≡ y
    ok-is r x y p q = cc

pub citations-exact : CitationsAreExact
citations-exact sigs ctx params stream hyps conclusion marks text es e items rest heap len sorted items-sorted = (
  (λ (u, done, heap-is, left).
      let row : SpelledThm = record { params = params; stream = stream } in
      let a : Assertion = record { is_axiom = true; params = params; hyps = hyps; conclusion = conclusion } in
      let spells : SpellsThm sigs row a = (refl, (marks, text, no-dummies sigs params stream hyps conclusion marks text)) in
      let (hs, hs-are, e-is, items-are) = citation-is sigs ctx row a spells es e items u len sorted items-sorted done in
      let items-left : items ≡ map proof (reverse hs) ++ rest = subst (λ (z : List (Item Tree)). items ≡ map proof (reverse hs) ++ z) left items-are in
      ((hs, hs-are, e-is, items-left), heap-is-one sigs ctx (citing stream es e items) u heap (instances_of (trees_of es) marks) rest done heap-is (back hs hs-are e-is items-left))),
  (λ ((hs, hs-are, e-is, items-are), heap-is). subst (λ (z : List Tree). RunsLeaving sigs ctx (citing stream es e items) z rest) (sym heap-is) (back hs hs-are e-is items-are)),
)
  where
    back : (hs : List Tree) → trees_of hs ≡ instances (trees_of es) hyps → e ≡ instance (trees_of es) conclusion → items ≡ map proof (reverse hs) ++ rest → RunsLeaving sigs ctx (citing stream es e items) (instances_of (trees_of es) marks) rest
    back hs hs-are e-is items-are =
        subst (λ (z : Tree). RunsLeaving sigs ctx (citing stream es z items) (instances_of (trees_of es) marks) rest) (sym e-is)
        (subst (λ (z : List (Item Tree)). RunsLeaving sigs ctx (citing stream es (instance (trees_of es) conclusion) z) (instances_of (trees_of es) marks) rest) (sym items-are)
        (instances-run sigs ctx params stream hyps conclusion marks text in_citation refl es hs rest refl len hs-are))

pub unfoldings-exact : UnfoldingsAreExact
unfoldings-exact sigs ctx params stream body marks text es e heap len sorted = (
  (λ (u, done, heap-is, left).
      let (ys, _, _, (fresh, e-is)) = unfolding-is sigs ctx params stream marks.dummies body es e u (marks, text, refl) len sorted done in
      let f : Trees = followed_by (trees_of es) (variables ys) in (
        ys,
        fresh,
        e-is,
        heap-is-one sigs ctx (unfolding_by stream es e) u heap (instances_of f marks) [] done heap-is
            (subst (λ (z : Tree). RunsLeaving sigs ctx (unfolding_by stream es z) (instances_of f marks) []) (sym e-is) (instances-unfolded sigs ctx params stream body marks text es ys len fresh)),
      )),
  (λ (ys, fresh, e-is, heap-is).
      let f : Trees = followed_by (trees_of es) (variables ys) in
      subst (λ (z : List Tree). RunsLeaving sigs ctx (unfolding_by stream es e) z []) (sym heap-is)
      (subst (λ (z : Tree). RunsLeaving sigs ctx (unfolding_by stream es z) (instances_of f marks) []) (sym e-is) (instances-unfolded sigs ctx params stream body marks text es ys len fresh))),
)

-- ---- under the parameters themselves

operand-own : (j i : ℕ) (ps : List Binder) → i < length ps → operand (trees_of (variables_from j ps)) i ≡ var (j + i)
operand-own j i [] lt = absurd (omega arith)
operand-own j zero (p ∷ ps) lt = ap var (omega arith)
operand-own j (suc i) (p ∷ ps) lt = operand-own (suc j) i ps (omega arith) ∙ ap var (omega arith)

module _ (params : List Binder) where
  abbrev own : Trees
  own = trees_of (variables_from 0 params)

  mutual
    own-instance : (e : Tree) → Below (length params + 0) e → instance own e ≡ e
    own-instance (var x) lt = operand-own 0 x params (omega arith) ∙ ap var (omega arith)
    own-instance (app t es) below = ap (app t) (own-instances es below)

    own-instances : (es : Trees) → AllBelow (length params + 0) es → instances own es ≡ es
    own-instances none below = refl
    own-instances (more e es) (b, bs) = ap (λ (z : Tree). more z (instances own es)) (own-instance e b) ∙ ap (more e) (own-instances es bs)

  own-each : (es : List Tree) → EachBelow (length params + 0) es → map (instance own) es ≡ es
  own-each [] below = refl
  own-each (e ∷ es) (b, bs) = ap (λ (z : Tree). z ∷ map (instance own) es) (own-instance e b) ∙ ap (λ (z : List Tree). e ∷ z) (own-each es bs)

  own-marks : (es : List Tree) → ((k : ℕ) → MarksBelow (length params + 0) es k) → map (instance own) es ≡ es
  own-marks [] below = refl
  own-marks (e ∷ es) below =
      ap (λ (z : Tree). z ∷ map (instance own) es) (own-instance e (below (size e) 0 e refl (omega arith)))
      ∙ ap (λ (z : List Tree). e ∷ z) (own-marks es λ k i q at small. below k (suc i) q at small)

own-run : (sigs : List Signature) (ctx params : List Binder) (stream : List ℕ) (e : Tree) (hyps : List Tree) (marks : Marks) → SpellsText of_assertion sigs params stream (trees_of hyps) e marks
    → RunsLeaving sigs ctx (own_assertion params stream e hyps) marks.trees []
own-run sigs ctx params stream e hyps marks text =
    let f : Trees = trees_of (variables_from 0 params) in
    let none-met : marks.dummies ≡ [] = no-dummies sigs params stream (trees_of hyps) e marks text in
    let (e-below, hs-below, marks-below) = subst (λ (z : List Binder). Below (length params + length z) e × EachBelow (length params + length z) (reverse (listed (trees_of hyps))) × ((k : ℕ) → MarksBelow (length params + length z) marks.trees k))
    none-met (text-below of_assertion sigs params stream (trees_of hyps) e marks text) in
    let turned : map (instance f) (reverse hyps) ≡ reverse hyps = own-each params (reverse hyps) (subst (λ (z : List Tree). EachBelow (length params + 0) (reverse z)) (listed-trees_of hyps) hs-below) in
    let same : map (instance f) hyps ≡ hyps = sym (reverse-reverse (map (instance f) hyps)) ∙ ap reverse (sym (map-reverse (instance f) hyps) ∙ turned) ∙ reverse-reverse hyps in
    let hs-are : trees_of hyps ≡ instances f (trees_of hyps) = ap trees_of (sym same ∙ ap (map (instance f)) (sym (listed-trees_of hyps))) ∙ instances-listed f (trees_of hyps) in
    subst (λ (z : List Tree). RunsLeaving sigs ctx (own_assertion params stream e hyps) z []) (own-marks params marks.trees marks-below)
    (subst (λ (z : Tree). RunsLeaving sigs ctx (own_assertion params stream z hyps) (instances_of f marks) []) (own-instance params e e-below)
    (subst (λ (z : List (Item Tree)). RunsLeaving sigs ctx (record { mode = at_end; stream = stream; operands = variables_from 0 params; target = instance f e; items = z }) (instances_of f marks) []) (append-nil (map proof (reverse hyps)))
    (instances-run sigs ctx params stream (trees_of hyps) e marks text at_end refl (variables_from 0 params) hyps [] refl (length-params 0 params) hs-are)))

pub assertions-spelled : AssertionsAreSpelled
assertions-spelled sigs ctx params stream e hyps heap sorted all = (
  (λ (u, done, heap-is, left).
      let (marks, text, _) = assertion-spelled sigs ctx params stream e hyps u done sorted all in
      (marks, text, heap-is-one sigs ctx (own_assertion params stream e hyps) u heap marks.trees [] done heap-is (own-run sigs ctx params stream e hyps marks text))),
  (λ (marks, text, heap-is). subst (λ (z : List Tree). RunsLeaving sigs ctx (own_assertion params stream e hyps) z []) (sym heap-is) (own-run sigs ctx params stream e hyps marks text)),
)

pub definitions-spelled : DefinitionsAreSpelled
definitions-spelled sigs ctx params stream e heap sorted = (
  (λ (u, done, heap-is, left).
      let (body, marks, text) = unfolded-spells sigs ctx params stream (variables_from 0 params) e u (length-params 0 params) sorted done in
      (body, marks, text, (unfoldings-exact sigs ctx params stream body marks text (variables_from 0 params) e heap (length-params 0 params) sorted).0 (u, done, heap-is, left))),
  (λ (body, marks, text, unfolded). (unfoldings-exact sigs ctx params stream body marks text (variables_from 0 params) e heap (length-params 0 params) sorted).1 unfolded),
)

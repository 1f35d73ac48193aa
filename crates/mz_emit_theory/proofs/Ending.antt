-- A body that has made what its row spells ends well.
use Rattle.std.proofs.Common.{◌≡◌, ℕ, suc, ◌+◌, ◌<◌, Bool, true, List, [], ◌∷◌, ◌++◌, length, map, Some, Ok, refl, sym, ap, subst, ◌∙◌, inl, inr, arith, eq-eqb}
use Rattle.std.specs.Prelude.{slice_get, Contains, reverse}
use Rattle.std.proofs.lemmas.List.{reverse-reverse}
use Rattle.mz_logic_theory.specs.Tree.{Tree, Trees, var, app, none, more, instance, followed_by, variables}
use Rattle.mz_logic_theory.specs.Signature.{Signature}
use Rattle.mz_logic_theory.specs.Declaration.{Declaration, sorts, signatures}
use Rattle.mz_logic_theory.specs.Sorts.{HasSort, Fits}
use Rattle.mz_logic_theory.specs.Variables.{Occurs, OccursIn}
use Rattle.mz_logic_theory.specs.Conversions.{AreFresh}
use Rattle.mz_logic_theory.specs.Legality.{sort_of}
use Rattle.mz_logic_theory.specs.declared.binder.Binder.{Binder}
use Rattle.mz_logic_theory.specs.declared.binder.SortMods.{SortMods}
use Rattle.mz_logic_theory.proofs.Offered.{sort_is, extends_append}
use Rattle.mz_machine_theory.specs.Streams.{of_assertion}
use Rattle.mz_machine_theory.specs.Spells.{trees_of, variables_from, SpellsText}
use Rattle.mz_machine_theory.specs.Profile.{plain, strict, Item}
use Rattle.mz_machine_theory.specs.UnifyMachine.{at_end, in_definition, UnifyMode, Matching, UnifyState, unify}
use Rattle.mz_machine_theory.specs.UnifyLaws.{instances_of}
use Rattle.mz_machine_theory.proofs.Offered.{fits-length, listed-trees_of, EachBelow, text-met, below-occurs, map-reverse, assertions-spelled, unfoldings-exact, unify-plain, own-are}
use Rattle.mz_machine_theory.specs.MachineState.{RowsBefore, signatures_in, State, Kind, is_axiom, is_theorem, is_definition, Heading, Declares}
use Rattle.mz_machine_theory.specs.Premises.{is_provable_sort}
use Rattle.mz_machine_theory.specs.FreeVars.{free_within}
use Rattle.mz_machine_theory.specs.ProofMachine.{last_item, own_stream, as_proofs, ending, ends_with, proof_end, has_provable_sort}
use Rattle.mz_emit_theory.specs.SymbolicState.{renamed, all_renamed, item_renamed, name_in, Work, machine}
use Rattle.mz_emit_theory.specs.AlphaEquivalence.{own, IsSameEnv}
use Rattle.mz_emit_theory.specs.Endings.{IsAsserted, IsEnding, Ends}
use Rattle.mz_emit_theory.specs.BodyLaws.{IsRightTree, AreRightItems, DependOnFirst, IsRight}
use Rattle.mz_emit_theory.proofs.Naming.{DepsAreKept, deps-kept, renamed-instance, renamed-followed, renamed-variables, sort-forward, fv-back, fresh-forward}
use Rattle.mz_emit_theory.proofs.Passing.{provable-passes, free-passes}
use Rattle.mz_emit_theory.proofs.Rightness.{sorted-forward, trees-sorted}
use Rattle.mz_emit_theory.proofs.SameTables.{in-tables, sorts-in}
use Rattle.mz_emit_theory.proofs.Unfolds.{unfolded-occur}

-- ---- what keeps its names

mutual
  renamed-same : (g : ℕ → ℕ) (e : Tree) → ((y : ℕ) → Occurs y e → g y ≡ y) → renamed g e ≡ e
  renamed-same g (var x) same = ap var (same x refl)
  renamed-same g (app t es) same = ap (app t) (all-renamed-same g es same)

  all-renamed-same : (g : ℕ → ℕ) (es : Trees) → ((y : ℕ) → OccursIn y es → g y ≡ y) → all_renamed g es ≡ es
  all-renamed-same g none same = refl
  all-renamed-same g (more e es) same = ap (λ (z : Tree). more z (all_renamed g es)) (renamed-same g e λ y o. same y (inl o)) ∙ ap (more e) (all-renamed-same g es λ y o. same y (inr o))

each-same : (g : ℕ → ℕ) (n : ℕ) → ((y : ℕ) → y < n → g y ≡ y) → (es : List Tree) → EachBelow n es → map (renamed g) es ≡ es
each-same g n same [] below = refl
each-same g n same (e ∷ es) (b, bs) =
    ap (λ (z : Tree). z ∷ map (renamed g) es) (renamed-same g e λ y o. same y (below-occurs n e b y o)) ∙ ap (λ (z : List Tree). e ∷ z) (each-same g n same es bs)

-- the parameters as operands
own-occurs : (j : ℕ) (ps : List Binder) (y : ℕ) → OccursIn y (trees_of (variables_from j ps)) → y < j + length ps
own-occurs j [] y o = absurd o
own-occurs j (p ∷ ps) y (inl is) = omega (arith, is)
own-occurs j (p ∷ ps) y (inr o) = let lt : y < suc j + length ps = own-occurs (suc j) ps y o in omega arith

own-fits : (sigs : List Signature) (ctx : List Binder) (j : ℕ) (ps : List Binder) → ((i : ℕ) (b : Binder) → slice_get ps i ≡ Some b → slice_get ctx (j + i) ≡ Some b) → Fits sigs ctx (trees_of (variables_from j ps)) ps
own-fits sigs ctx j [] at = tt
own-fits sigs ctx j (p ∷ ps) at =
    let here : slice_get ctx j ≡ Some p = ap (slice_get ctx) (plus-zero j) ∙ at 0 p refl in
    ((p, here, refl), (λ bound. (j, p, refl, here, bound)), own-fits sigs ctx (suc j) ps λ i b b-at. ap (slice_get ctx) (shift j i) ∙ at (suc i) b b-at)
  where
    plus-zero : (a : ℕ) → a ≡ a + 0
    plus-zero a = omega arith

    shift : (a b : ℕ) → suc a + b ≡ a + suc b
    shift a b = omega arith

-- ---- the END of the machine

end-row : (gaps : Bool) (tables : RowsBefore) (h : Heading) (st : State Tree) (kind : Kind) (e : Tree) (m : Matching Tree) (u : UnifyState Tree) → h.kind ≡ kind → last_item kind st.stack ≡ Ok e → ending (plain gaps) tables h st kind e ≡ Ok m
    → unify (plain gaps) (signatures_in tables) st.ctx m ≡ Ok u → proof_end (plain gaps) tables h st ≡ Ok st
unfolding proof_end ends_with
end-row gaps tables h st kind e m u kind-is last ends ran = rw (kind-is, last, ends, ran) refl

axiom-ending : (gaps : Bool) (tables : RowsBefore) (h : Heading) (st : State Tree) (e : Tree) → has_provable_sort (plain gaps) tables st.ctx e ≡ true → ending (plain gaps) tables h st is_axiom e ≡ Ok (own_stream (plain gaps) h at_end e (as_proofs st.hyps))
axiom-ending gaps tables h st e provable = rw provable refl

definition-ending : (gaps : Bool) (tables : RowsBefore) (h : Heading) (st : State Tree) (e : Tree) → sort_of (signatures_in tables) st.ctx e ≡ h.result.sort → free_within (signatures_in tables) st.ctx h.result.deps e (length st.ctx) ≡ true
    → ending (plain gaps) tables h st is_definition e ≡ Ok (own_stream (plain gaps) h in_definition e [])
definition-ending gaps tables h st e sort free = rw (eq-eqb (sort_of (signatures_in tables) st.ctx e) h.result.sort sort, free) refl

module _ (gaps : Bool) (tables : RowsBefore) (env env' : List Declaration) (declares : Declares tables env') (same : IsSameEnv env env') (h : Heading) (dummies : List Binder)
    (first : DependOnFirst (length h.params) (h.params ++ dummies)) (w : Work) (right : IsRight (signatures env) (length h.params) (h.params ++ dummies) w) where
  abbrev Sigs : List Signature
  Sigs = signatures env

  abbrev ctx : List Binder
  ctx = h.params ++ dummies

  abbrev st : State Tree
  st = machine ctx w

  abbrev g : ℕ → ℕ
  g = name_in w.met

  deps : DepsAreKept ctx w.met
  deps = deps-kept (length h.params) ctx w.met first right.own

  -- the row's stream, over the environment's signatures and the parameters as variables
  own-runs : (mode : UnifyMode) (e : Tree) (items : List (Item Tree)) (u : UnifyState Tree)
      → unify strict Sigs st.ctx (record { mode = mode; stream = h.stream; operands = variables_from 0 h.params; target = e; items = items }) ≡ Ok u → unify (plain gaps) (signatures_in tables) st.ctx (own_stream (plain gaps) h mode e items) ≡ Ok u
  own-runs mode e items u ran =
      unify-plain gaps (signatures_in tables) st.ctx (own_stream (plain gaps) h mode e items)
      ∙ subst (λ (z : List Signature). unify strict z st.ctx (own_stream (plain gaps) h mode e items) ≡ Ok u) (sym (in-tables tables env env' declares same))
      (subst (λ (z : List Tree). unify strict Sigs st.ctx (record { mode = mode; stream = h.stream; operands = z; target = e; items = items }) ≡ Ok u) (sym (own-are 0 h.params)) ran)

  -- an assertion's stream runs, in the machine's names
  assertion-runs : (e : Tree) → IsRightTree Sigs ctx w.met e → IsAsserted Sigs h w.hyps e → (u : UnifyState Tree) × (unify (plain gaps) (signatures_in tables) st.ctx (own_stream (plain gaps) h at_end (renamed g e) (as_proofs st.hyps)) ≡ Ok u)
  assertion-runs e e-right asserted =
      let (marks, text, none-met) = asserted in
      let n : ℕ = length h.params + 0 in
      let (e-below, hyps-below) = text-met of_assertion Sigs h.params h.stream (trees_of w.hyps) e [] asserted in
      let names : (y : ℕ) → y < n → g y ≡ y = λ y lt. (right.own y (omega arith)).1 in
      let e-same : renamed g e ≡ e = renamed-same g e λ y o. names y (below-occurs n e e-below y o) in
      let turned : map (renamed g) (reverse w.hyps) ≡ reverse w.hyps = each-same g n names (reverse w.hyps) (subst (λ (z : List Tree). EachBelow n (reverse z)) (listed-trees_of w.hyps) hyps-below) in
      let hyps-same : st.hyps ≡ w.hyps = sym (reverse-reverse (map (renamed g) w.hyps)) ∙ ap reverse (sym (map-reverse (renamed g) w.hyps) ∙ turned) ∙ reverse-reverse w.hyps in
      let text' : SpellsText of_assertion Sigs h.params h.stream (trees_of st.hyps) (renamed g e) marks =
      subst (λ (z : List Tree). SpellsText of_assertion Sigs h.params h.stream (trees_of z) (renamed g e) marks) (sym hyps-same)
      (subst (λ (z : Tree). SpellsText of_assertion Sigs h.params h.stream (trees_of w.hyps) z marks) (sym e-same) text) in
      let (u, ran, _, _) = (assertions-spelled Sigs st.ctx h.params h.stream (renamed g e) st.hyps marks.trees (sorted-forward Sigs ctx w.met deps e e-right) (trees-sorted Sigs ctx w.met deps w.hyps right.hyps)).1 (marks, text', refl) in
      (u, own-runs at_end (renamed g e) (as_proofs st.hyps) u ran)

  named-sort : (e : Tree) (s : ℕ) → IsRightTree Sigs ctx w.met e → HasSort Sigs ctx e s → sort_of (signatures_in tables) st.ctx (renamed g e) ≡ s
  named-sort e s e-right has =
      ap (λ (z : List Signature). sort_of z st.ctx (renamed g e)) (in-tables tables env env' declares same)
      ∙ sort_is Sigs st.ctx (renamed g e) s (sort-forward Sigs ctx w.met deps e s e-right.1 has)

  zero-plus : (a : ℕ) → 0 + a ≡ a
  zero-plus a = omega arith

  ends-kind : (kind : Kind) (e : Tree) → h.kind ≡ kind → IsEnding env ctx h w kind e → proof_end (plain gaps) tables h st ≡ Ok st
  ends-kind is_theorem e kind-is (on, asserted) =
      let e-right : IsRightTree Sigs ctx w.met e = (subst (AreRightItems Sigs ctx w.met) on right.stack).0 in
      let (u, ran) = assertion-runs e e-right asserted in
      end-row gaps tables h st is_theorem (renamed g e) (own_stream (plain gaps) h at_end (renamed g e) (as_proofs st.hyps)) u kind-is (ap (λ (z : List (Item Tree)). last_item is_theorem (map (item_renamed g) z)) on) refl ran
  ends-kind is_axiom e kind-is (on, asserted, (s, has, claim)) =
      let e-right : IsRightTree Sigs ctx w.met e = (subst (AreRightItems Sigs ctx w.met) on right.stack).0 in
      let (u, ran) = assertion-runs e e-right asserted in
      let passes : has_provable_sort (plain gaps) tables st.ctx (renamed g e) ≡ true =
      ap (λ (z : ℕ). is_provable_sort (slice_get tables.sorts z)) (named-sort e s e-right has) ∙ subst (λ (z : List SortMods). is_provable_sort (slice_get z s) ≡ true) (sym (sorts-in tables env env' declares same)) (provable-passes (sorts env) s claim) in
      end-row gaps tables h st is_axiom (renamed g e) (own_stream (plain gaps) h at_end (renamed g e) (as_proofs st.hyps)) u kind-is (ap (λ (z : List (Item Tree)). last_item is_axiom (map (item_renamed g) z)) on)
      (axiom-ending gaps tables h st (renamed g e) passes) ran
  ends-kind is_definition e kind-is (on, (body, fs, ys, (marks, text, met), fresh, e-is), has, free, deps-first) =
      let e-right : IsRightTree Sigs ctx w.met e = (subst (AreRightItems Sigs ctx w.met) on right.stack).0 in
      let ps : List Binder = h.params in
      let es : List Tree = variables_from 0 ps in
      let fits : Fits Sigs ctx (own ps) ps = own-fits Sigs ctx 0 ps λ i b b-at. ap (slice_get ctx) (zero-plus i) ∙ extends_append ps dummies i b b-at in
      let len : length es ≡ length ps = fits-length Sigs ctx es ps fits in
      let below : (y : ℕ) → OccursIn y (own ps) → y < length ps = λ y o. (let lt : y < 0 + length ps = own-occurs 0 ps y o in omega arith) in
      let known : (y : ℕ) → OccursIn y (own ps) → Contains w.met y = λ y o. (right.own y (below y o)).0 in
      let own-same : all_renamed g (own ps) ≡ own ps = all-renamed-same g (own ps) λ y o. (right.own y (below y o)).1 in
      let fresh-marks : AreFresh ctx (own ps) ys marks.dummies = subst (AreFresh ctx (own ps) ys) (sym met) fresh in
      let ys-met : (k y : ℕ) → slice_get ys k ≡ Some y → Contains w.met y = λ k y y-at.
      e-right.1 y (subst (Occurs y) (sym e-is) (unfolded-occur Sigs ctx es ps h.stream body marks ys text len fresh-marks k y y-at)) in
      let fresh' : AreFresh st.ctx (own ps) (map g ys) marks.dummies = subst (λ (z : Trees). AreFresh st.ctx z (map g ys) marks.dummies) own-same (fresh-forward Sigs ctx w.met deps (own ps) ps known fits ys marks.dummies ys-met fresh-marks) in
      let F : Trees = followed_by (own ps) (variables (map g ys)) in
      let e-is' : renamed g e ≡ instance F body =
      ap (renamed g) e-is ∙ renamed-instance g (followed_by (own ps) (variables ys)) body
      ∙ ap (λ (z : Trees). instance z body) (renamed-followed g (own ps) (variables ys) ∙ ap (λ (z : Trees). followed_by z (all_renamed g (variables ys))) own-same ∙ ap (followed_by (own ps)) (renamed-variables g ys)) in
      let (u, ran, _, _) = (unfoldings-exact Sigs st.ctx ps h.stream body marks text es (renamed g e) (instances_of F marks) len (sorted-forward Sigs ctx w.met deps e e-right)).1 (map g ys, fresh', e-is', refl) in
      let passes : free_within (signatures_in tables) st.ctx h.result.deps (renamed g e) (length st.ctx) ≡ true =
      subst (λ (z : List Signature). free_within z st.ctx h.result.deps (renamed g e) (length st.ctx) ≡ true) (sym (in-tables tables env env' declares same))
      (free-passes Sigs st.ctx h.result.deps (renamed g e) (length st.ctx) λ z is-free.
      (let (x, x-met, name, x-free) = fv-back Sigs ctx w.met deps z e h.result.sort e-right.1 has is-free in
      let has-x : Contains h.result.deps x = free x x-free in
      subst (Contains h.result.deps) (sym (right.own x (deps-first x has-x)).1 ∙ name) has-x)) in
      end-row gaps tables h st is_definition (renamed g e) (own_stream (plain gaps) h in_definition (renamed g e) []) u kind-is (ap (λ (z : List (Item Tree)). last_item is_definition (map (item_renamed g) z)) on)
      (definition-ending gaps tables h st (renamed g e) (named-sort e h.result.sort e-right has) passes) (own-runs in_definition (renamed g e) [] u ran)

  pub ends-end : Ends env ctx h w → proof_end (plain gaps) tables h st ≡ Ok st
  ends-end (e, ending-is) = ends-kind h.kind e refl ending-is

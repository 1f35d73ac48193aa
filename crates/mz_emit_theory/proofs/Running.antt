-- Right steps run: each command, in the logic's words, is a row of the machine that goes through.
use Rattle.std.proofs.Common.{◌≡◌, ℕ, zero, suc, ◌+◌, ◌<◌, ◌≤◌, Bool, true, false, List, [], ◌∷◌, ◌++◌, length, map, Some, Result, Ok, refl, sym, ap, subst, ◌∙◌, inl, inr, arith}
use Rattle.std.specs.Prelude.{slice_get, Contains, reverse}
use Rattle.std.specs.Option.{option_map}
use Rattle.std.proofs.lemmas.List.{map-append, length-map}
use Rattle.std.proofs.lemmas.List.Elements.{Contains-append_right, Contains-append_cases}
use Rattle.std.proofs.lemmas.Option.{slice_get-map, slice_get_within, get_or_from_slice_get}
use Rattle.mz_cmd.specs.declared.rule.K.{K}
use Rattle.mz_cmd.specs.declared.code.ProofCode.{ProofCode}
use Rattle.mz_cmd.specs.declared.code.ProofCode.TheVariants as code
use Rattle.mz_logic_theory.specs.Tree.{Tree, Trees, var, app, listed, instance, instances, followed_by, variables}
use Rattle.mz_logic_theory.specs.Signature.{Signature}
use Rattle.mz_logic_theory.specs.Declaration.{Declaration, sorts, signatures}
use Rattle.mz_logic_theory.specs.Sorts.{HasSort, Fits}
use Rattle.mz_logic_theory.specs.Variables.{Occurs, AreDisjoint}
use Rattle.mz_logic_theory.specs.Conversions.{AreFresh}
use Rattle.mz_logic_theory.specs.Legality.{binder_at, sort_of}
use Rattle.mz_logic_theory.specs.declared.binder.Binder.{Binder}
use Rattle.mz_logic_theory.specs.declared.binder.SortMods.{SortMods}
use Rattle.mz_logic_theory.proofs.Offered.{sort_is}
use Rattle.mz_machine_theory.specs.Steps.{◌>>=◌}
use Rattle.mz_machine_theory.specs.Spells.{trees_of, dummy_of}
use Rattle.mz_machine_theory.specs.Profile.{plain, strict, Item, expr, proof, obligation, conversion}
use Rattle.mz_machine_theory.specs.UnifyMachine.{unify}
use Rattle.mz_machine_theory.specs.UnifyLaws.{citing, unfolding_by, instances_of}
use Rattle.mz_machine_theory.proofs.Offered.{taken, fits-length, citations-exact, unfoldings-exact, unify-plain}
use Rattle.mz_machine_theory.specs.MachineState.{RowsBefore, signatures_in, State, Declares}
use Rattle.mz_machine_theory.specs.Premises.{is_obligation, may_be_dummy_sort, is_provable_sort, bound_count, operands_fit, are_disjoint}
use Rattle.mz_machine_theory.specs.ProofMachine.{built, cited, sides, proof_step}
use Rattle.mz_emit_theory.specs.SymbolicState.{renamed, all_renamed, item_renamed, name_in, Work, met_binders, machine}
use Rattle.mz_emit_theory.specs.Steps.{stacked, kept, above, IsBuilt, IsCited, Step, Steps, command_bytes, run_commands}
use Rattle.mz_emit_theory.specs.AlphaEquivalence.{IsSameEnv}
use Rattle.mz_emit_theory.specs.BodyLaws.{IsRightTree, IsRightItem, AreRightItems, DependOnFirst, IsRight}
use Rattle.mz_emit_theory.proofs.Naming.{DepsAreKept, deps-kept, own-more, once-more, place-new, renamed-trees, renamed-instance, renamed-instances, renamed-listed, renamed-followed, renamed-variables, sort-forward, fits-forward, apart-forward, fresh-forward}
use Rattle.mz_emit_theory.proofs.Passing.{provable-passes, dummy-passes, fits-pass, apart-passes}
use Rattle.mz_emit_theory.proofs.RowsRun.{built-row, term-row, term-save-row, dummy-row, hyp-row, save-row, ref-expr, ref-proof, ref-conversion, conv-ref, cited-row, thm-row, thm-save-row, conv-row, refl-row, symm-row, cong-row, unfold-row, conv-cut-row, conv-save-row, gap-expr, gap-obligation}
use Rattle.mz_emit_theory.proofs.Rightness.{right-at, right-push, trees-push, right-split, right-above, known-of, right-parts, right-sides, sorted-forward, items-sorted, renamed-above, renamed-hyps, renamed-sides, items-more, trees-more, items-alike, trees-alike}
use Rattle.mz_emit_theory.proofs.FewBound.{fewer}
use Rattle.mz_emit_theory.proofs.Unfolds.{IsSpelledUnfolding, spelled-unfolding, unfolded-occur}
use Rattle.mz_emit_theory.proofs.SameTables.{in-tables, sorts-in, term-row-at, thm-row-at}

-- a state by its parts
abbrev state : List Binder → List (Item Tree) → List (Item Tree) → List Tree → State Tree
state c h s y = record { ctx = c; heap = h; stack = s; hyps = y }

state-is : (c c' : List Binder) (h h' s s' : List (Item Tree)) (y y' : List Tree) → c ≡ c' → h ≡ h' → s ≡ s' → y ≡ y' → taken (state c h s y) ≡ taken (state c' h' s' y')
state-is c c' h h' s s' y y' ec eh es ey =
    ap (λ (z : List Binder). taken (state z h s y)) ec ∙ ap (λ (z : List (Item Tree)). taken (state c' z s y)) eh
    ∙ ap (λ (z : List (Item Tree)). taken (state c' h' z y)) es ∙ ap (λ (z : List Tree). taken (state c' h' s' z)) ey

module _ (gaps : Bool) (tables : RowsBefore) (env env' : List Declaration) (declares : Declares tables env') (same : IsSameEnv env env') (n : ℕ) (ctx : List Binder) (first : DependOnFirst n ctx) (at-most : bound_count ctx ≤ 55) where
  abbrev Sigs : List Signature
  Sigs = signatures env

  -- the row goes through to what is made, which is right
  abbrev Goes : ℕ → ProofCode → ℕ → Work → Work → Type 0
  Goes at c v w w' = (proof_step (plain gaps) tables at c v (machine ctx w) ≡ Ok (machine ctx w')) × IsRight Sigs n ctx w'

  goes-to : (at : ℕ) (c : ProofCode) (v : ℕ) (w w' made : Work) → w' ≡ made → Goes at c v w made → Goes at c v w w'
  goes-to at c v w w' made is h = subst (Goes at c v w) (sym is) h

  module _ (at : ℕ) (w : Work) (right : IsRight Sigs n ctx w) where
    abbrev g : ℕ → ℕ
    g = name_in w.met

    abbrev st : State Tree
    st = machine ctx w

    deps : DepsAreKept ctx w.met
    deps = deps-kept n ctx w.met first right.own

    abbrev named : List (Item Tree) → List (Item Tree)
    named xs = map (item_renamed g) xs

    -- the stack, as the machine names it
    stack-is : (xs : List (Item Tree)) → w.stack ≡ xs → st.stack ≡ named xs
    stack-is xs is = ap (map (item_renamed g)) is

    stack-right : (xs : List (Item Tree)) → w.stack ≡ xs → AreRightItems Sigs ctx w.met xs
    stack-right xs is = subst (AreRightItems Sigs ctx w.met) is right.stack

    with-stack : (xs : List (Item Tree)) → AreRightItems Sigs ctx w.met xs → IsRight Sigs n ctx (stacked w xs)
    with-stack xs h = record { own = right.own; once = right.once; inside = right.inside; heap = right.heap; stack = h; hyps = right.hyps }

    with-both : (xs : List (Item Tree)) (x : Item Tree) → AreRightItems Sigs ctx w.met xs → IsRightItem Sigs ctx w.met x → IsRight Sigs n ctx (kept (stacked w xs) x)
    with-both xs x h hx = record { own = right.own; once = right.once; inside = right.inside; heap = right-push Sigs ctx w.met w.heap x right.heap hx; stack = h; hyps = right.hyps }

    -- the heap with one more item
    heap-push : (x : Item Tree) → st.heap ++ item_renamed g x ∷ [] ≡ named (w.heap ++ x ∷ [])
    heap-push x = sym (map-append (item_renamed g) w.heap (x ∷ []))

    -- the row's end, where the stack is reported in another way
    on-stack : (r : Result (State Tree) K) (xs ys : List (Item Tree)) → r ≡ Ok (record st { stack = xs }) → xs ≡ ys → r ≡ Ok (record st { stack = ys })
    on-stack r xs ys ran is = ran ∙ ap (λ (z : List (Item Tree)). Ok (record st { stack = z })) is

    on-both : (r : Result (State Tree) K) (xs ys : List (Item Tree)) (x y : Item Tree) → r ≡ Ok (record st { stack = xs; heap = st.heap ++ x ∷ [] }) → xs ≡ ys → x ≡ item_renamed g y
        → r ≡ Ok (record st { stack = ys; heap = named (w.heap ++ y ∷ []) })
    on-both r xs ys x y ran is x-is =
        ran ∙ state-is st.ctx st.ctx (st.heap ++ x ∷ []) (named (w.heap ++ y ∷ [])) xs ys st.hyps st.hyps refl (ap (λ (z : Item Tree). st.heap ++ z ∷ []) x-is ∙ heap-push y) is refl

    -- ---- expressions

    made : (t : ℕ) (es : List Tree) (rest : List (Item Tree)) → IsBuilt env ctx w t es rest
        → (built (plain gaps) tables at t st ≡ Ok (app t (all_renamed g (trees_of es)), named rest)) × IsRightTree Sigs ctx w.met (app t (trees_of es)) × AreRightItems Sigs ctx w.met rest
    made t es rest (sorted, is) =
        let (s, (d, d-at, result, fits)) = sorted in
        let (row, row-at, row-is) = term-row-at tables env env' declares same t d d-at in
        let (es-right, rest-right) = right-above Sigs ctx w.met es rest (stack-right (above es rest) is) in
        let known = known-of Sigs ctx w.met es es-right in
        let es' : List Tree = map (renamed g) es in
        let fits' : Fits Sigs st.ctx (trees_of es') d.params = subst (λ (z : Trees). Fits Sigs st.ctx z d.params) (renamed-trees g es) (fits-forward Sigs ctx w.met deps (trees_of es) d.params known fits) in
        let passes : operands_fit (signatures_in tables) st.ctx es' row.signature.params ≡ Ok tt =
        subst (λ (z : List Signature). operands_fit z st.ctx es' row.signature.params ≡ Ok tt) (sym (in-tables tables env env' declares same))
        (subst (λ (z : Signature). operands_fit Sigs st.ctx es' z.params ≡ Ok tt) (sym row-is) (fits-pass Sigs st.ctx es' d.params fits')) in
        let len : length es' ≡ length row.signature.params = fits-length Sigs st.ctx es' d.params fits' ∙ ap (λ (z : Signature). length z.params) (sym row-is) in (
          built-row gaps tables at st t es' (named rest) row row-at len (stack-is (above es rest) is ∙ renamed-above g es rest) passes
              ∙ ap (λ (z : Trees). Ok (app t z, named rest)) (sym (renamed-trees g es)),
          (sorted, known),
          rest-right,
        )

    goes-term : (t : ℕ) (w' : Work) → Step gaps env ctx w code.Term t w' → Goes at code.Term t w w'
    goes-term t w' (es, rest, is-built, is) =
        let e : Tree = app t (trees_of es) in
        let (builds, e-right, rest-right) = made t es rest is-built in
        goes-to at code.Term t w w' (stacked w (expr e ∷ rest)) is (term-row gaps tables at st t (renamed g e) (named rest) builds, with-stack (expr e ∷ rest) (e-right, rest-right))

    goes-term-save : (t : ℕ) (w' : Work) → Step gaps env ctx w code.TermSave t w' → Goes at code.TermSave t w w'
    goes-term-save t w' (es, rest, is-built, is) =
        let e : Tree = app t (trees_of es) in
        let (builds, e-right, rest-right) = made t es rest is-built in
        goes-to at code.TermSave t w w' (kept (stacked w (expr e ∷ rest)) (expr e)) is (
          on-both _ (expr (renamed g e) ∷ named rest) (named (expr e ∷ rest)) (expr (renamed g e)) (expr e) (term-save-row gaps tables at st t (renamed g e) (named rest) builds) refl refl,
          with-both (expr e ∷ rest) (expr e) (e-right, rest-right) e-right,
        )

    heap-at : (i : ℕ) (x : Item Tree) → slice_get w.heap i ≡ Some x → slice_get st.heap i ≡ Some (item_renamed g x)
    heap-at i x x-at = slice_get-map (item_renamed g) w.heap i ∙ ap (option_map (item_renamed g)) x-at

    goes-ref : (i : ℕ) (w' : Work) → Step gaps env ctx w code.Ref i w' → Goes at code.Ref i w w'
    goes-ref i w' (expr e, x-at, is) =
        goes-to at code.Ref i w w' (stacked w (expr e ∷ w.stack)) is
        (ref-expr gaps tables at st i (renamed g e) (heap-at i (expr e) x-at), with-stack (expr e ∷ w.stack) (right-at Sigs ctx w.met w.heap i (expr e) x-at right.heap, right.stack))
    goes-ref i w' (proof e, x-at, is) =
        goes-to at code.Ref i w w' (stacked w (proof e ∷ w.stack)) is
        (ref-proof gaps tables at st i (renamed g e) (heap-at i (proof e) x-at), with-stack (proof e ∷ w.stack) (right-at Sigs ctx w.met w.heap i (proof e) x-at right.heap, right.stack))
    goes-ref i w' (obligation l r, x-at, is) = absurd is
    goes-ref i w' (conversion l r, x-at, (rest, on, is)) =
        goes-to at code.Ref i w w' (stacked w rest) is (
          ref-conversion gaps tables at st i (renamed g l) (renamed g r) (named rest) (heap-at i (conversion l r) x-at) (stack-is (obligation l r ∷ rest) on),
          with-stack rest (stack-right (obligation l r ∷ rest) on).1,
        )

    goes-conv-ref : (i : ℕ) (w' : Work) → Step gaps env ctx w code.ConvRef i w' → Goes at code.ConvRef i w w'
    goes-conv-ref i w' (l, r, x-at, (rest, on, is)) =
        goes-to at code.ConvRef i w w' (stacked w rest) is (
          conv-ref gaps tables at st i (renamed g l) (renamed g r) (named rest) (heap-at i (conversion l r) x-at) (stack-is (obligation l r ∷ rest) on),
          with-stack rest (stack-right (obligation l r ∷ rest) on).1,
        )

    only : (a b : ℕ) → Contains (a ∷ []) b → a ≡ b
    only a b (zero, lt, is) = is
    only a b (suc k, lt, is) = absurd (omega arith)

    goes-dummy : (s : ℕ) (w' : Work) → Step gaps env ctx w code.Dummy s w' → Goes at code.Dummy s w w'
    goes-dummy s w' (x, x-at, sort, out, is) =
        let next : Work = record { met = w.met ++ x ∷ []; heap = w.heap ++ expr (var x) ∷ []; stack = expr (var x) ∷ w.stack; hyps = w.hyps } in
        let g' : ℕ → ℕ = name_in (w.met ++ x ∷ []) in
        let passes : may_be_dummy_sort (slice_get tables.sorts s) ≡ true = subst (λ (z : List SortMods). may_be_dummy_sort (slice_get z s) ≡ true) (sym (sorts-in tables env env' declares same)) (dummy-passes (sorts env) s sort) in
        let name : length st.ctx ≡ g' x = length-map w.met (binder_at ctx) ∙ sym (place-new w.met x out) in
        let new : IsRightTree Sigs ctx (w.met ++ x ∷ []) (var x) =
        ((s, (dummy_of s, x-at, refl)), λ y o. subst (Contains (w.met ++ x ∷ [])) (sym o) (Contains-append_right w.met (x ∷ []) x (0, omega arith, refl))) in
        let inside-more : (y : ℕ) → Contains (w.met ++ x ∷ []) y → y < length ctx = λ y has. elim (Contains-append_cases w.met (x ∷ []) y has) [
          | inl before ↦ right.inside y before
          | inr last ↦ subst (λ (z : ℕ). z < length ctx) (only x y last) (slice_get_within ctx x (dummy_of s) x-at)
        ] in
        let few : bound_count (met_binders ctx w.met) < 55 = fewer ctx w.met x s (once-more w.met x right.once out) inside-more x-at at-most in
        goes-to at code.Dummy s w w' next is (
          dummy-row gaps tables at st s passes few
              ∙ state-is (st.ctx ++ dummy_of s ∷ []) (met_binders ctx (w.met ++ x ∷ []))
              (st.heap ++ expr (var (length st.ctx)) ∷ []) (map (item_renamed g') (w.heap ++ expr (var x) ∷ []))
              (expr (var (length st.ctx)) ∷ st.stack) (map (item_renamed g') (expr (var x) ∷ w.stack))
              st.hyps (map (renamed g') w.hyps)
              (sym (map-append (binder_at ctx) w.met (x ∷ []) ∙ ap (λ (z : Binder). st.ctx ++ z ∷ []) (get_or_from_slice_get ctx x (dummy_of s) _ x-at)))
              (sym (map-append (item_renamed g') w.heap (expr (var x) ∷ []) ∙ ap (λ (z : List (Item Tree)). z ++ expr (var (g' x)) ∷ []) (items-alike Sigs ctx w.met x w.heap right.heap)
              ∙ ap (λ (z : ℕ). st.heap ++ expr (var z) ∷ []) (sym name)))
              (sym (ap (λ (z : List (Item Tree)). expr (var (g' x)) ∷ z) (items-alike Sigs ctx w.met x w.stack right.stack) ∙ ap (λ (z : ℕ). expr (var z) ∷ st.stack) (sym name)))
              (sym (trees-alike Sigs ctx w.met x w.hyps right.hyps)),
          record {
            own = own-more n w.met x right.own;
            once = once-more w.met x right.once out;
            inside = inside-more;
            heap = right-push Sigs ctx (w.met ++ x ∷ []) w.heap (expr (var x)) (items-more Sigs ctx w.met x w.heap right.heap) new;
            stack = (new, items-more Sigs ctx w.met x w.stack right.stack);
            hyps = trees-more Sigs ctx w.met x w.hyps right.hyps;
          },
        )

    goes-hyp : (v : ℕ) (w' : Work) → Step gaps env ctx w code.Hyp v w' → Goes at code.Hyp v w w'
    goes-hyp v w' (e, rest, on, (s, has, claim), is) =
        let next : Work = record { met = w.met; heap = w.heap ++ proof e ∷ []; stack = rest; hyps = w.hyps ++ e ∷ [] } in
        let (e-right, rest-right) = stack-right (expr e ∷ rest) on in
        let has' : HasSort Sigs st.ctx (renamed g e) s = sort-forward Sigs ctx w.met deps e s e-right.1 has in
        let sort : sort_of (signatures_in tables) st.ctx (renamed g e) ≡ s = ap (λ (z : List Signature). sort_of z st.ctx (renamed g e)) (in-tables tables env env' declares same) ∙ sort_is Sigs st.ctx (renamed g e) s has' in
        let passes : is_provable_sort (slice_get tables.sorts (sort_of (signatures_in tables) st.ctx (renamed g e))) ≡ true =
        ap (λ (z : ℕ). is_provable_sort (slice_get tables.sorts z)) sort ∙ subst (λ (z : List SortMods). is_provable_sort (slice_get z s) ≡ true) (sym (sorts-in tables env env' declares same)) (provable-passes (sorts env) s claim) in
        goes-to at code.Hyp v w w' next is (
          hyp-row gaps tables at st v (renamed g e) (named rest) (stack-is (expr e ∷ rest) on) passes
              ∙ state-is st.ctx st.ctx (st.heap ++ proof (renamed g e) ∷ []) (named (w.heap ++ proof e ∷ [])) (named rest) (named rest)
              (st.hyps ++ renamed g e ∷ []) (map (renamed g) (w.hyps ++ e ∷ [])) refl (heap-push (proof e)) refl (sym (map-append (renamed g) w.hyps (e ∷ []))),
          record { own = right.own; once = right.once; inside = right.inside; heap = right-push Sigs ctx w.met w.heap (proof e) right.heap e-right; stack = rest-right; hyps = trees-push Sigs ctx w.met w.hyps e right.hyps e-right },
        )

    obligation-stays : (x : Item Tree) → is_obligation x ≡ false → is_obligation (item_renamed g x) ≡ false
    obligation-stays (obligation l r) h = h
    obligation-stays _ h = refl

    goes-save : (v : ℕ) (w' : Work) → Step gaps env ctx w code.Save v w' → Goes at code.Save v w w'
    goes-save v w' (x, rest, on, kind, is) =
        let (x-right, _) = stack-right (x ∷ rest) on in
        goes-to at code.Save v w w' (kept w x) is (
          on-both _ st.stack st.stack (item_renamed g x) x (save-row gaps tables at st v (item_renamed g x) (named rest) (stack-is (x ∷ rest) on) (obligation-stays x kind)) refl refl,
          record { own = right.own; once = right.once; inside = right.inside; heap = right-push Sigs ctx w.met w.heap x right.heap x-right; stack = right.stack; hyps = right.hyps },
        )

    -- ---- citations

    citing-goes : (T : ℕ) (e : Tree) (rest : List (Item Tree)) → IsCited env ctx w T e rest
        → (cited (plain gaps) tables T st ≡ Ok (renamed g e, named rest)) × IsRightTree Sigs ctx w.met e × AreRightItems Sigs ctx w.met rest
    citing-goes T e rest (a, es, items, a-at, fits, apart, (hs, hs-are, e-is, items-are), on) =
        let (row, row-at, (params-are, (marks, text, none-met))) = thm-row-at tables env env' declares same T a a-at in
        let (e-right, below) = stack-right (expr e ∷ above es items) on in
        let (es-right, items-right) = right-above Sigs ctx w.met es items below in
        let known = known-of Sigs ctx w.met es es-right in
        let es' : List Tree = map (renamed g) es in
        let hs' : List Tree = map (renamed g) hs in
        let fits' : Fits Sigs st.ctx (trees_of es') a.params = subst (λ (z : Trees). Fits Sigs st.ctx z a.params) (renamed-trees g es) (fits-forward Sigs ctx w.met deps (trees_of es) a.params known fits) in
        let passes : operands_fit (signatures_in tables) st.ctx es' row.params ≡ Ok tt =
        subst (λ (z : List Signature). operands_fit z st.ctx es' row.params ≡ Ok tt) (sym (in-tables tables env env' declares same))
        (subst (λ (z : List Binder). operands_fit Sigs st.ctx es' z ≡ Ok tt) (sym params-are) (fits-pass Sigs st.ctx es' a.params fits')) in
        let len : length es' ≡ length row.params = fits-length Sigs st.ctx es' a.params fits' ∙ ap length (sym params-are) in
        let e-is' : renamed g e ≡ instance (trees_of es') a.conclusion =
        ap (renamed g) e-is ∙ renamed-instance g (trees_of es) a.conclusion ∙ ap (λ (z : Trees). instance z a.conclusion) (renamed-trees g es) in
        let hs-are' : trees_of hs' ≡ instances (trees_of es') a.hyps =
        sym (renamed-trees g hs) ∙ ap (all_renamed g) hs-are ∙ renamed-instances g (trees_of es) a.hyps ∙ ap (λ (z : Trees). instances z a.hyps) (renamed-trees g es) in
        let items-are' : named items ≡ map proof (reverse hs') ++ named rest = ap (map (item_renamed g)) items-are ∙ renamed-hyps g hs rest in
        let (u, ran, heap-is, left) = (citations-exact Sigs st.ctx row.params row.stream a.hyps a.conclusion marks text es' (renamed g e) (named items) (named rest) (instances_of (trees_of es') marks) len
        (sorted-forward Sigs ctx w.met deps e e-right) (items-sorted Sigs ctx w.met deps items items-right)).1 ((hs', hs-are', e-is', items-are'), refl) in (
          cited-row gaps tables at st T (renamed g e) es' (named items) (named rest) row u row-at len
              (stack-is (expr e ∷ above es items) on ∙ ap (λ (z : List (Item Tree)). expr (renamed g e) ∷ z) (renamed-above g es items)) passes
              (subst (λ (z : List Binder). are_disjoint st.ctx es' z ≡ true) (sym params-are)
              (apart-passes st.ctx es' a.params (subst (λ (z : Trees). AreDisjoint st.ctx z a.params) (renamed-trees g es) (apart-forward Sigs ctx w.met deps (trees_of es) a.params known fits apart))))
              (unify-plain gaps (signatures_in tables) st.ctx (citing row.stream es' (renamed g e) (named items)) ∙ subst (λ (z : List Signature). unify strict z st.ctx (citing row.stream es' (renamed g e) (named items)) ≡ Ok u) (sym (in-tables tables env env' declares same)) ran)
              left,
          e-right,
          (right-split Sigs ctx w.met (map proof (reverse hs)) rest (subst (AreRightItems Sigs ctx w.met) items-are items-right)).1,
        )

    goes-thm : (T : ℕ) (w' : Work) → Step gaps env ctx w code.Thm T w' → Goes at code.Thm T w w'
    goes-thm T w' (e, rest, is-cited, is) =
        let (cites, e-right, rest-right) = citing-goes T e rest is-cited in
        goes-to at code.Thm T w w' (stacked w (proof e ∷ rest)) is (thm-row gaps tables at st T (renamed g e) (named rest) cites, with-stack (proof e ∷ rest) (e-right, rest-right))

    goes-thm-save : (T : ℕ) (w' : Work) → Step gaps env ctx w code.ThmSave T w' → Goes at code.ThmSave T w w'
    goes-thm-save T w' (e, rest, is-cited, is) =
        let (cites, e-right, rest-right) = citing-goes T e rest is-cited in
        goes-to at code.ThmSave T w w' (kept (stacked w (proof e ∷ rest)) (proof e)) is (
          on-both _ (proof (renamed g e) ∷ named rest) (named (proof e ∷ rest)) (proof (renamed g e)) (proof e) (thm-save-row gaps tables at st T (renamed g e) (named rest) cites) refl refl,
          with-both (proof e ∷ rest) (proof e) (e-right, rest-right) e-right,
        )

    -- ---- conversions

    goes-conv : (v : ℕ) (w' : Work) → Step gaps env ctx w code.Conv v w' → Goes at code.Conv v w w'
    goes-conv v w' (l, r, rest, on, is) =
        let (r-right, below) = stack-right (proof r ∷ expr l ∷ rest) on in
        goes-to at code.Conv v w w' (stacked w (obligation l r ∷ proof l ∷ rest)) is (
          conv-row gaps tables at st v (renamed g l) (renamed g r) (named rest) (stack-is (proof r ∷ expr l ∷ rest) on),
          with-stack (obligation l r ∷ proof l ∷ rest) ((below.0, r-right), (below.0, below.1)),
        )

    goes-refl : (v : ℕ) (w' : Work) → Step gaps env ctx w code.Refl v w' → Goes at code.Refl v w w'
    goes-refl v w' (e, rest, on, is) =
        goes-to at code.Refl v w w' (stacked w rest) is (refl-row gaps tables at st v (renamed g e) (named rest) (stack-is (obligation e e ∷ rest) on), with-stack rest (stack-right (obligation e e ∷ rest) on).1)

    goes-symm : (v : ℕ) (w' : Work) → Step gaps env ctx w code.Symm v w' → Goes at code.Symm v w w'
    goes-symm v w' (l, r, rest, on, is) =
        let (sides-right, rest-right) = stack-right (obligation l r ∷ rest) on in
        goes-to at code.Symm v w w' (stacked w (obligation r l ∷ rest)) is (
          symm-row gaps tables at st v (renamed g l) (renamed g r) (named rest) (stack-is (obligation l r ∷ rest) on),
          with-stack (obligation r l ∷ rest) ((sides-right.1, sides-right.0), rest-right),
        )

    goes-cong : (v : ℕ) (w' : Work) → Step gaps env ctx w code.Cong v w' → Goes at code.Cong v w w'
    goes-cong v w' (t, ls, rs, rest, on, is) =
        let (sides-right, rest-right) = stack-right (obligation (app t ls) (app t rs) ∷ rest) on in
        let made-stack : List (Item Tree) = sides (listed ls) (listed rs) rest in
        goes-to at code.Cong v w w' (stacked w made-stack) is (
          on-stack _ (sides (listed (all_renamed g ls)) (listed (all_renamed g rs)) (named rest)) (named made-stack)
              (cong-row gaps tables at st v t (all_renamed g ls) (all_renamed g rs) (named rest) (stack-is (obligation (app t ls) (app t rs) ∷ rest) on))
              (sym (renamed-sides g (listed ls) (listed rs) rest ∙ ap (λ (z : List Tree). sides z (map (renamed g) (listed rs)) (named rest)) (renamed-listed g ls)
              ∙ ap (λ (z : List Tree). sides (listed (all_renamed g ls)) z (named rest)) (renamed-listed g rs))),
          with-stack made-stack (right-sides Sigs ctx w.met (listed ls) (listed rs) rest (right-parts Sigs ctx w.met t ls sides-right.0) (right-parts Sigs ctx w.met t rs sides-right.1) rest-right),
        )

    goes-conv-cut : (v : ℕ) (w' : Work) → Step gaps env ctx w code.ConvCut v w' → Goes at code.ConvCut v w w'
    goes-conv-cut v w' (l, r, rest, on, is) =
        let (sides-right, rest-right) = stack-right (obligation l r ∷ rest) on in
        goes-to at code.ConvCut v w w' (stacked w (obligation l r ∷ conversion l r ∷ rest)) is (
          conv-cut-row gaps tables at st v (renamed g l) (renamed g r) (named rest) (stack-is (obligation l r ∷ rest) on),
          with-stack (obligation l r ∷ conversion l r ∷ rest) (sides-right, (sides-right, rest-right)),
        )

    goes-conv-save : (v : ℕ) (w' : Work) → Step gaps env ctx w code.ConvSave v w' → Goes at code.ConvSave v w w'
    goes-conv-save v w' (l, r, rest, on, is) =
        let (sides-right, rest-right) = stack-right (conversion l r ∷ rest) on in
        goes-to at code.ConvSave v w w' (kept (stacked w rest) (conversion l r)) is (
          on-both _ (named rest) (named rest) (conversion (renamed g l) (renamed g r)) (conversion l r) (conv-save-row gaps tables at st v (renamed g l) (renamed g r) (named rest) (stack-is (conversion l r ∷ rest) on)) refl refl,
          with-both rest (conversion l r) rest-right sides-right,
        )

    goes-unfold : (v : ℕ) (w' : Work) → Step gaps env ctx w code.Unfold v w' → Goes at code.Unfold v w w'
    goes-unfold v w' (t, es, e, r, rest, unfolding-is, on, is) =
        let made-stack : List (Item Tree) = obligation e r ∷ rest in
        let (e-right, below) = stack-right (expr e ∷ expr (app t (trees_of es)) ∷ obligation (app t (trees_of es)) r ∷ rest) on in
        let (middle-right, under) = below in
        let ((s, has), middle-known) = middle-right in
        let u : IsSpelledUnfolding tables Sigs ctx t es e = spelled-unfolding tables env env' declares same ctx t es e s has unfolding-is in
        let ps : List Binder = u.row.signature.params in
        let es' : List Tree = map (renamed g) es in
        let ys' : List ℕ = map g u.ys in
        let len : length es ≡ length ps = fits-length Sigs ctx es ps u.fits in
        let fits' : Fits Sigs st.ctx (trees_of es') ps = subst (λ (z : Trees). Fits Sigs st.ctx z ps) (renamed-trees g es) (fits-forward Sigs ctx w.met deps (trees_of es) ps middle-known u.fits) in
        let ys-met : (k y : ℕ) → slice_get u.ys k ≡ Some y → Contains w.met y = λ k y y-at.
        e-right.1 y (subst (Occurs y) (sym u.unfolds) (unfolded-occur Sigs ctx es ps u.stream u.body u.marks u.ys u.text len u.fresh k y y-at)) in
        let fresh' : AreFresh st.ctx (trees_of es') ys' u.marks.dummies = subst (λ (z : Trees). AreFresh st.ctx z ys' u.marks.dummies) (renamed-trees g es)
        (fresh-forward Sigs ctx w.met deps (trees_of es) ps middle-known u.fits u.ys u.marks.dummies ys-met u.fresh) in
        let F : Trees = followed_by (trees_of es') (variables ys') in
        let e-is : renamed g e ≡ instance F u.body =
        ap (renamed g) u.unfolds ∙ renamed-instance g (followed_by (trees_of es) (variables u.ys)) u.body
        ∙ ap (λ (z : Trees). instance z u.body) (renamed-followed g (trees_of es) (variables u.ys) ∙ ap (λ (z : Trees). followed_by z (all_renamed g (variables u.ys))) (renamed-trees g es) ∙ ap (followed_by (trees_of es')) (renamed-variables g u.ys)) in
        let (final, ran, _, _) = (unfoldings-exact Sigs st.ctx ps u.stream u.body u.marks u.text es' (renamed g e) (instances_of F u.marks) (fits-length Sigs st.ctx es' ps fits') (sorted-forward Sigs ctx w.met deps e e-right)).1 (ys', fresh', e-is, refl) in
        goes-to at code.Unfold v w w' (stacked w made-stack) is (
          unfold-row gaps tables at st v t es' (renamed g e) (renamed g r) (named rest) u.row u.stream final u.row_at u.stream_is
              (stack-is (expr e ∷ expr (app t (trees_of es)) ∷ obligation (app t (trees_of es)) r ∷ rest) on
              ∙ ap (λ (z : Trees). expr (renamed g e) ∷ expr (app t z) ∷ obligation (app t z) (renamed g r) ∷ named rest) (renamed-trees g es))
              (unify-plain gaps (signatures_in tables) st.ctx (unfolding_by u.stream es' (renamed g e)) ∙ subst (λ (z : List Signature). unify strict z st.ctx (unfolding_by u.stream es' (renamed g e)) ≡ Ok final) (sym (in-tables tables env env' declares same)) ran),
          with-stack made-stack ((e-right, under.0.1), under.1),
        )

    named-sort : (e : Tree) (s : ℕ) → IsRightTree Sigs ctx w.met e → HasSort Sigs ctx e s → sort_of (signatures_in tables) st.ctx (renamed g e) ≡ s
    named-sort e s e-right has =
        ap (λ (z : List Signature). sort_of z st.ctx (renamed g e)) (in-tables tables env env' declares same)
        ∙ sort_is Sigs st.ctx (renamed g e) s (sort-forward Sigs ctx w.met deps e s e-right.1 has)

    goes-gap : (v : ℕ) (w' : Work) → Step gaps env ctx w code.Sorry v w' → Goes at code.Sorry v w w'
    goes-gap v w' (through, inl (e, rest, on, (s, has, claim), is)) =
        let (e-right, rest-right) = stack-right (expr e ∷ rest) on in
        let passes : is_provable_sort (slice_get tables.sorts (sort_of (signatures_in tables) st.ctx (renamed g e))) ≡ true =
        ap (λ (z : ℕ). is_provable_sort (slice_get tables.sorts z)) (named-sort e s e-right has)
        ∙ subst (λ (z : List SortMods). is_provable_sort (slice_get z s) ≡ true) (sym (sorts-in tables env env' declares same)) (provable-passes (sorts env) s claim) in
        goes-to at code.Sorry v w w' (stacked w (proof e ∷ rest)) is
        (gap-expr gaps tables at st v (renamed g e) (named rest) through (stack-is (expr e ∷ rest) on) passes, with-stack (proof e ∷ rest) (e-right, rest-right))
    goes-gap v w' (through, inr (l, r, rest, s, on, l-has, r-has, is)) =
        let (both-right, rest-right) = stack-right (obligation l r ∷ rest) on in
        goes-to at code.Sorry v w w' (stacked w rest) is (
          gap-obligation gaps tables at st v (renamed g l) (renamed g r) (named rest) through (stack-is (obligation l r ∷ rest) on) (named-sort l s both-right.0 l-has ∙ sym (named-sort r s both-right.1 r-has)),
          with-stack rest rest-right,
        )

    goes : (c : ProofCode) (v : ℕ) (w' : Work) → Step gaps env ctx w c v w' → Goes at c v w w'
    goes code.Term v w' h = goes-term v w' h
    goes code.TermSave v w' h = goes-term-save v w' h
    goes code.Ref v w' h = goes-ref v w' h
    goes code.ConvRef v w' h = goes-conv-ref v w' h
    goes code.Dummy v w' h = goes-dummy v w' h
    goes code.Thm v w' h = goes-thm v w' h
    goes code.ThmSave v w' h = goes-thm-save v w' h
    goes code.Hyp v w' h = goes-hyp v w' h
    goes code.Conv v w' h = goes-conv v w' h
    goes code.Refl v w' h = goes-refl v w' h
    goes code.Symm v w' h = goes-symm v w' h
    goes code.Cong v w' h = goes-cong v w' h
    goes code.Unfold v w' h = goes-unfold v w' h
    goes code.ConvCut v w' h = goes-conv-cut v w' h
    goes code.ConvSave v w' h = goes-conv-save v w' h
    goes code.Save v w' h = goes-save v w' h
    goes code.Sorry v w' h = goes-gap v w' h

  -- ---- one after another

  pub steps-run : (at : ℕ) (cs : List (ProofCode × ℕ)) (w w' : Work) → IsRight Sigs n ctx w → Steps gaps env ctx w cs w'
      → (run_commands (plain gaps) tables at cs (machine ctx w) ≡ Ok (machine ctx w')) × IsRight Sigs n ctx w'
  steps-run at [] w w' right is = (ap (λ (z : Work). Ok (machine ctx z)) (sym is), subst (IsRight Sigs n ctx) (sym is) right)
  steps-run at (c ∷ cs) w w' right (mid, step, steps) =
      let (first, mid-right) = goes at w right c.0 c.1 mid step in
      let (rest, last-right) = steps-run (at + length (command_bytes c)) cs mid w' mid-right steps in
      (ap (λ (r : Result (State Tree) K). r >>= run_commands (plain gaps) tables (at + length (command_bytes c)) cs) first ∙ rest, last-right)

-- The first expressions of a store where these are variables, without what came after them.
use Rattle.std.proofs.Common.{ℕ, suc, ◌≡◌, ◌<◌, ◌≤◌, ◌+◌, ◌⊎◌, Bool, true, false, List, [], ◌∷◌, ◌++◌, length, take, drop, slice_get, Some, refl, ap, sym, ◌∙◌, subst, inl, inr, arith, append-nil, append_assoc, if◌then◌else◌}
use Rattle.std.specs.Int.{bit_at}
use Rattle.std.proofs.Math.Seq.{take-append_seam}
use Rattle.std.proofs.lemmas.List.{length-append, length-take-le, map-append, take-append-drop}
use Rattle.std.proofs.lemmas.Option.{slice_get_within, none-some}
use Rattle.mz_base.proofs.Offered.{length-push}
use Rattle.mz_logic_theory.specs.Tree.{Tree, var, app}
use Rattle.mz_logic_theory.specs.Signature.{Signature}
use Rattle.mz_logic_theory.specs.Sorts.{HasSort}
use Rattle.mz_logic_theory.specs.declared.binder.Binder.{Binder}
use Rattle.mz_logic_theory.proofs.Offered.{extends_append, split_at, DepsInside}
use Rattle.mz_store.specs.Bits.{Tells, HasAt, bound_from, bound_vars}
use Rattle.mz_store.specs.Sharing.{Shared, Sharing, entry_of, tree_of, trees_of, IsIn, IsOver, IsRight, DependsOn}
use Rattle.mz_store.specs.Nodes.{Made, MadeOf, variable, application, operands_at, form_of, made_of, all_made, binder_after, context_with, entered, entered_all, no_expressions, sharing_of}
use Rattle.mz_store.specs.Kept.{Forms, Shows, IsKept}
use Rattle.mz_store.specs.declared.item.DepsMode.{DepsMode}
use Rattle.mz_store.specs.declared.item.DepsMode.TheVariants as of
use Rattle.mz_store.specs.declared.item.Id.{Id}
use Rattle.mz_store.specs.declared.node.Node.{Node}
use Rattle.mz_store.specs.declared.node.Form.{Form}
use Rattle.mz_store.specs.declared.node.Form.TheVariants.{Variable, Application}
use Rattle.mz_store.proofs.Beginning.{all-begins}
use Rattle.mz_store.proofs.Chained.{AreVariables, made-variable}
use Rattle.mz_store.proofs.Entering.{inside-grown}
use Rattle.mz_store.proofs.Growing.{Begins, entry-kept, in-kept, mode-of}
use Rattle.mz_store.proofs.Longer.{told-extends, told-back, told-below}
use Rattle.mz_store.proofs.Made.{many-made}
use Rattle.mz_store.proofs.Places.{bound-within}

-- ---- bound variables

bound-from-more : (i : ℕ) (bs more : List Binder) → bound_from i (bs ++ more) ≡ bound_from i bs ++ bound_from (i + length bs) more
bound-from-more i [] more = ap (λ j. bound_from j more) (omega arith)
bound-from-more i (b ∷ bs) more = go b.bound (bound-from-more (suc i) bs more ∙ ap (λ j. bound_from (suc i) bs ++ bound_from j more) (omega arith))
  where
    go : (v : Bool) → bound_from (suc i) (bs ++ more) ≡ bound_from (suc i) bs ++ bound_from (i + suc (length bs)) more
        → (if v then i ∷ bound_from (suc i) (bs ++ more) else bound_from (suc i) (bs ++ more))
        ≡ (if v then i ∷ bound_from (suc i) bs else bound_from (suc i) bs) ++ bound_from (i + suc (length bs)) more
    go true e = ap (λ ps. i ∷ ps) e
    go false e = e

bound-more : (bs more : List Binder) → bound_vars (bs ++ more) ≡ bound_vars bs ++ bound_from (length bs) more
bound-more bs more = bound-from-more 0 bs more ∙ ap (λ j. bound_vars bs ++ bound_from j more) (omega arith)

-- ---- nodes, one after another

entered-more : (s : Sharing) (xs ys : List Made) → entered_all s (xs ++ ys) ≡ entered_all (entered_all s xs) ys
entered-more s [] ys = refl
entered-more s (x ∷ xs) ys = entered-more (entered s x) xs ys

many-entries : (s : Sharing) (ms : List Made) → length (entered_all s ms).entries ≡ length s.entries + length ms
many-entries s [] = omega arith
many-entries s (m ∷ ms) = many-entries (entered s m) ms ∙ ap (λ n. n + length ms) (length-push s.entries _) ∙ (let e : suc (length s.entries) + length ms ≡ length s.entries + suc (length ms) = omega arith in e)

longer-context : (s : Sharing) (ms : List Made) → (more : List Binder) × ((entered_all s ms).context ≡ s.context ++ more)
longer-context s [] = ([], sym (append-nil s.context))
longer-context s (m ∷ ms) = (let (more, is) = longer-context (entered s m) ms in let (new, one) = by_form m.form in
    (new ++ more, is ∙ ap (λ (ctx : List Binder). ctx ++ more) one ∙ append_assoc s.context new more))
  where
    by_form : (f : MadeOf) → (new : List Binder) × (context_with s m f ≡ s.context ++ new)
    by_form (variable bound) = (binder_after s.context m.sort m.deps bound ∷ [], refl)
    by_form (application head operands) = ([], sym (append-nil s.context))

inside-all : (s : Sharing) (ms : List Made) → DepsInside s.context → DepsInside (entered_all s ms).context
inside-all s [] inside = inside
inside-all s (m ∷ ms) inside = inside-all (entered s m) ms (by_form m.form)
  where
    by_form : (f : MadeOf) → DepsInside (context_with s m f)
    by_form (variable bound) = inside-grown s.context m.sort m.deps bound inside
    by_form (application head operands) = inside

-- ---- nodes that are variables

same-made : (os os' : List Id) (ns : List Node) → AreVariables ns → all_made os ns ≡ all_made os' ns
same-made os os' [] vars = refl
same-made os os' (n ∷ ns) vars = (let (b, is) = vars 0 n refl in
    ap (λ (m : Made). m ∷ all_made os ns) (made-variable os n b is ∙ sym (made-variable os' n b is))
    ∙ ap (λ (ms : List Made). made_of os' n ∷ ms) (same-made os os' ns (λ i m at. vars (suc i) m at)))

many-places : (s : Sharing) (os : List Id) (ns : List Node) → AreVariables ns → length (entered_all s (all_made os ns)).context ≡ length s.context + length ns
many-places s os [] vars = omega arith
many-places s os (n ∷ ns) vars = (let (b, is) = vars 0 n refl in
    let one : length (entered s (made_of os n)).context ≡ suc (length s.context) = ap (λ (f : Form). length (context_with s (made_of os n) (form_of os f))) is ∙ length-push s.context (binder_after s.context n.sort n.deps b) in
    let rest : length (entered_all (entered s (made_of os n)) (all_made os ns)).context ≡ length (entered s (made_of os n)).context + length ns = many-places (entered s (made_of os n)) os ns (λ i m at. vars (suc i) m at) in
    omega (arith, one, rest))

-- ---- the store of the first ones

module _ (mode : DepsMode) (count : ℕ) (os : List Id) (first rest : List Node) (kept : IsKept (sharing_of mode (all_made os (first ++ rest))) count os (first ++ rest))
    (firsts : (i : ℕ) → i < length first → tree_of (sharing_of mode (all_made os (first ++ rest))) i ≡ var i) where
  abbrev whole : Sharing
  whole = sharing_of mode (all_made os (first ++ rest))

  abbrev begun : Sharing
  begun = sharing_of mode (all_made [] first)

  pub first-variables : AreVariables first
  first-variables i n at = go n.form (kept.shown i n (extends_append first rest i n at)).form (firsts i (slice_get_within first i n at))
    where
      go : (f : Form) → Forms whole i (form_of os f) → tree_of whole i ≡ var i → (b : Bool) × (f ≡ Variable b)
      go (Variable b) forms is = (b, refl)
      go (Application a) (there, is) is-var = absurd (let e : var i ≡ app a.head (trees_of whole (operands_at os a.from a.to)) = sym is-var ∙ is in cc)

  goes-on : whole ≡ entered_all begun (all_made os rest)
  goes-on =
      ap (entered_all (no_expressions mode)) (map-append (made_of os) first rest)
      ∙ entered-more (no_expressions mode) (all_made os first) (all_made os rest)
      ∙ ap (λ (ms : List Made). entered_all (entered_all (no_expressions mode) ms) (all_made os rest)) (same-made os [] first first-variables)

  begins : Begins begun whole
  begins = (let (last, is) = all-begins begun (all_made os rest) in (last, ap (λ (s : Sharing). s.entries) goes-on ∙ is))

  context-more : (more : List Binder) × (whole.context ≡ begun.context ++ more)
  context-more = (let (more, is) = longer-context begun (all_made os rest) in (more, ap (λ (s : Sharing). s.context) goes-on ∙ is))

  pub many-begun : length begun.entries ≡ length first
  many-begun = let e : length begun.entries ≡ 0 + length (all_made [] first) = many-entries (no_expressions mode) (all_made [] first) in omega (arith, e, many-made [] first)

  places-begun : length begun.context ≡ length first
  places-begun = let e : length begun.context ≡ 0 + length first = many-places (no_expressions mode) [] first first-variables in omega arith

  pub context-begun : begun.context ≡ take (length first) whole.context
  context-begun = sym (ap (take (length first)) context-more.1 ∙ ap (λ n. take n (begun.context ++ context-more.0)) (sym places-begun) ∙ take-append_seam begun.context context-more.0)

  entry-begun : (i : ℕ) → IsIn begun i → entry_of begun i ≡ entry_of whole i
  entry-begun i inside = sym (entry-kept begun whole begins i inside)

  pub trees-begun : (i : ℕ) → i < length first → tree_of begun i ≡ var i
  trees-begun i less = ap (λ (e : Shared). e.tree) (entry-begun i (omega (arith, less, many-begun))) ∙ firsts i less

  inside-begun : DepsInside begun.context
  inside-begun = inside-all (no_expressions mode) (all_made [] first) (λ i b at. absurd (none-some _ at))

  pub kept-begun : (bound : ℕ) → bound ≡ length (bound_vars begun.context) → IsKept begun bound [] first
  kept-begun bound counted = record {
    many = many-begun;
    count = counted;
    small = few;
    inside = inside-begun;
    shown = shown;
    once = λ i j in_i in_j same. place i j (sym (trees-begun i (omega (arith, in_i, many-begun))) ∙ same ∙ trees-begun j (omega (arith, in_j, many-begun)));
  }
    where
      place : (i j : ℕ) → var i ≡ var j → i ≡ j
      place i j same = cc

      few : bound ≤ 55
      few =
          let all : length (bound_vars whole.context) ≡ length (bound_vars begun.context) + length (bound_from (length begun.context) context-more.0) =
          ap (λ (ctx : List Binder). length (bound_vars ctx)) context-more.1 ∙ ap length (bound-more begun.context context-more.0) ∙ length-append (bound_vars begun.context) (bound_from (length begun.context) context-more.0) in
          omega (arith, counted, kept.count, kept.small, all)

      shown : (i : ℕ) (n : Node) → slice_get first i ≡ Some n → Shows begun i (made_of [] n)
      shown i n at = (let (b, is) = first-variables i n at in record {
        sort = ap (λ (e : Shared). e.sort) same ∙ (kept.shown i n (extends_append first rest i n at)).sort;
        deps = ap (λ (e : Shared). e.deps) same ∙ (kept.shown i n (extends_append first rest i n at)).deps;
        form = subst (λ (f : Form). Forms begun i (form_of [] f)) (sym is) (form b (subst (λ (f : Form). Forms whole i (form_of os f)) is (kept.shown i n (extends_append first rest i n at)).form));
      })
        where
          below : i < length first
          below = slice_get_within first i n at

          same : entry_of begun i ≡ entry_of whole i
          same = entry-begun i (omega (arith, below, many-begun))

          form : (b : Bool) → Forms whole i (variable b) → Forms begun i (variable b)
          form b (x, c, tree, there, bound) = (i, c, trees-begun i below, here (split_at begun.context context-more.0 i c (sym (ap (λ (ctx : List Binder). slice_get ctx i) context-more.1) ∙ subst (λ y. slice_get whole.context y ≡ Some c) (place x i (sym tree ∙ firsts i below)) there)), bound)
            where
              here : (slice_get begun.context i ≡ Some c) ⊎ ((k : ℕ) × (i ≡ length begun.context + k) × (slice_get context-more.0 k ≡ Some c)) → slice_get begun.context i ≡ Some c
              here (inl at') = at'
              here (inr (k, past, _)) = absurd (omega (arith, past, below, places-begun))

  -- ---- what is kept with them is right, over whatever terms

  module _ (sigs others : List Signature) where
    -- of a variable no term is asked
    over-others : (m : DepsMode) (ctx : List Binder) (x y : ℕ) → DependsOn m sigs ctx (var y) x → DependsOn m others ctx (var y) x
    over-others of.All ctx x y h = h
    over-others of.Free ctx x y h = h

    over-these : (m : DepsMode) (ctx : List Binder) (x y : ℕ) → DependsOn m others ctx (var y) x → DependsOn m sigs ctx (var y) x
    over-these of.All ctx x y h = h
    over-these of.Free ctx x y h = h

    right-shorter : (m : DepsMode) (ctx more : List Binder) → DepsInside ctx → (y sort deps : ℕ) → y < length ctx
        → HasSort sigs (ctx ++ more) (var y) sort → Tells (bound_vars (ctx ++ more)) deps (DependsOn m sigs (ctx ++ more) (var y))
        → HasSort others ctx (var y) sort × Tells (bound_vars ctx) deps (DependsOn m others ctx (var y))
    right-shorter m ctx more inside y sort deps below (b, at, is) tells = ((b, at-y, is), λ k. (to k, from k))
      where
        at-y : slice_get ctx y ≡ Some b
        at-y = elim (split_at ctx more y b at) [
          | inl here ↦ here
          | inr later ↦ absurd (let past : y ≡ length ctx + later.0 = later.1 in omega (arith, past, below))
        ]

        to : (k : ℕ) → bit_at deps k ≡ 1 → HasAt (bound_vars ctx) (DependsOn m others ctx (var y)) k
        to k bit = (let (x, there, told) = (tells k).0 bit in
            let before : DependsOn m sigs ctx (var y) x = told-back m sigs ctx (ctx ++ more) (extends_append ctx more) (var y) sort x (b, at-y, is) told in
            (x, here k x (told-below m sigs ctx inside (var y) sort x (b, at-y, is) before) (split_at (bound_vars ctx) (bound_from (length ctx) more) k x (sym (ap (λ (ps : List ℕ). slice_get ps k) (bound-more ctx more)) ∙ there)), over-others m ctx x y before))
          where
            here : (k x : ℕ) → x < length ctx → (slice_get (bound_vars ctx) k ≡ Some x) ⊎ ((j : ℕ) × (k ≡ length (bound_vars ctx) + j) × (slice_get (bound_from (length ctx) more) j ≡ Some x)) → slice_get (bound_vars ctx) k ≡ Some x
            here k x less (inl h) = h
            here k x less (inr (j, _, later)) = absurd (let above : length ctx ≤ x = (bound-within (length ctx) more j x later).0 in omega (arith, above, less))

        from : (k : ℕ) → HasAt (bound_vars ctx) (DependsOn m others ctx (var y)) k → bit_at deps k ≡ 1
        from k (x, there, told) = (tells k).1 (
          x,
          ap (λ (ps : List ℕ). slice_get ps k) (bound-more ctx more) ∙ extends_append (bound_vars ctx) (bound_from (length ctx) more) k x there,
          told-extends m sigs ctx (ctx ++ more) (extends_append ctx more) (var y) x (over-these m ctx x y told),
        )

    pub over-begun : IsOver sigs whole → IsOver others begun
    over-begun over i in_i =
        let below : i < length first = omega (arith, in_i, many-begun) in
        let same = entry-begun i in_i in
        let tree : (entry_of whole i).tree ≡ var i = firsts i below in
        let right : IsRight whole.mode sigs whole.context (entry_of whole i) = over i (in-whole i in_i) in
        subst (IsRight begun.mode others begun.context) (sym same) (
        at-tree (entry_of whole i).tree (entry_of whole i).sort (entry_of whole i).deps i tree below (subst (λ (m : DepsMode). IsRight m sigs whole.context (entry_of whole i)) modes right)
        )
      where
        modes : whole.mode ≡ begun.mode
        modes = mode-of (no_expressions mode) (all_made os (first ++ rest)) ∙ sym (mode-of (no_expressions mode) (all_made [] first))

        in-whole : (i : ℕ) → IsIn begun i → IsIn whole i
        in-whole i inside = in-kept begun whole begins i inside

        at-tree : (e : Tree) (sort deps y : ℕ) → e ≡ var y → y < length first
            → HasSort sigs whole.context e sort × Tells (bound_vars whole.context) deps (DependsOn begun.mode sigs whole.context e)
            → HasSort others begun.context e sort × Tells (bound_vars begun.context) deps (DependsOn begun.mode others begun.context e)
        at-tree e sort deps y is below right =
            subst (λ (f : Tree). HasSort others begun.context f sort × Tells (bound_vars begun.context) deps (DependsOn begun.mode others begun.context f)) (sym is) (
            let r = subst (λ (f : Tree). HasSort sigs whole.context f sort × Tells (bound_vars whole.context) deps (DependsOn begun.mode sigs whole.context f)) is right in
            let q = subst (λ (ctx : List Binder). HasSort sigs ctx (var y) sort × Tells (bound_vars ctx) deps (DependsOn begun.mode sigs ctx (var y))) context-more.1 r in
            right-shorter begun.mode begun.context context-more.0 inside-begun y sort deps (omega (arith, below, places-begun)) q.0 q.1
            )

-- ---- what the store of the first ones is, in the words of its whole

pub record IsRestarted (s : Sharing) (params : ℕ) (mode : DepsMode) (os : List Id) (nodes : List Node) : Type 0 where
  pub variables : AreVariables nodes
  pub kept : (bound : ℕ) → bound ≡ length (bound_vars (take params s.context)) → IsKept (sharing_of mode (all_made os nodes)) bound os nodes
  pub context : (sharing_of mode (all_made os nodes)).context ≡ take params s.context
  pub many : length (sharing_of mode (all_made os nodes)).entries ≡ params
  pub trees : (i : ℕ) → i < params → tree_of (sharing_of mode (all_made os nodes)) i ≡ var i
  pub over : (sigs others : List Signature) → IsOver sigs s → IsOver others (sharing_of mode (all_made os nodes))

-- the first so many of the nodes
module _ (mode : DepsMode) (count : ℕ) (os : List Id) where
  at-split : (first rest : List Node) → IsKept (sharing_of mode (all_made os (first ++ rest))) count os (first ++ rest)
      → ((i : ℕ) → i < length first → tree_of (sharing_of mode (all_made os (first ++ rest))) i ≡ var i)
      → IsRestarted (sharing_of mode (all_made os (first ++ rest))) (length first) mode [] first
  at-split first rest kept firsts = record {
    variables = first-variables mode count os first rest kept firsts;
    kept = λ bound counted. kept-begun mode count os first rest kept firsts bound (counted ∙ ap (λ (ctx : List Binder). length (bound_vars ctx)) (sym (context-begun mode count os first rest kept firsts)));
    context = context-begun mode count os first rest kept firsts;
    many = many-begun mode count os first rest kept firsts;
    trees = trees-begun mode count os first rest kept firsts;
    over = over-begun mode count os first rest kept firsts;
  }

  pub restarted : (nodes : List Node) (s : Sharing) → sharing_of mode (all_made os nodes) ≡ s → IsKept (sharing_of mode (all_made os nodes)) count os nodes
      → (params : ℕ) → params ≤ length s.entries → ((i : ℕ) → i < params → tree_of s i ≡ var i)
      → (os' : List Id) (nodes' : List Node) → os' ≡ [] → nodes' ≡ take params nodes → IsRestarted s params mode os' nodes'
  restarted nodes s view kept params there firsts os' nodes' no-operands taken =
      subst (λ (t : Sharing). IsRestarted t params mode os' nodes') view (subst (λ (is : List Id). IsRestarted (sharing_of mode (all_made os nodes)) params mode is nodes') (sym no-operands)
      (subst (IsRestarted (sharing_of mode (all_made os nodes)) params mode []) (sym taken) (
      subst (λ n. IsRestarted (sharing_of mode (all_made os nodes)) n mode [] (take params nodes)) long
      (subst (λ ns. IsKept (sharing_of mode (all_made os ns)) count os ns → ((i : ℕ) → i < length (take params nodes) → tree_of (sharing_of mode (all_made os ns)) i ≡ var i) → IsRestarted (sharing_of mode (all_made os ns)) (length (take params nodes)) mode [] (take params nodes))
      (take-append-drop params nodes) (at-split (take params nodes) (drop params nodes)) kept
      (λ i less. ap (λ (t : Sharing). tree_of t i) view ∙ firsts i (omega (arith, less, long))))
      )))
    where
      long : length (take params nodes) ≡ params
      long = length-take-le params nodes (omega (arith, there, kept.many, ap (λ (t : Sharing). length t.entries) view))

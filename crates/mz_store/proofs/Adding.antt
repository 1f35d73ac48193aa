-- A store that has one more variable, or one more term over operands.
use Rattle.std.proofs.Common.{ℕ, zero, suc, ◌≡◌, ◌<◌, ◌≤◌, ◌+◌, ◌↔◌, Bool, true, false, IsTrue, List, [], ◌∷◌, ◌++◌, length, get_or, slice_get, Option, Some, None, IfSome, IfNone, refl, ap, sym, ◌∙◌, subst, arith, append-nil, if◌then◌else◌}
use Rattle.std.proofs.lemmas.List.{length-append}
use Rattle.std.proofs.lemmas.Option.{slice_get_within, slice_get-get_or, none-some}
use Rattle.mz_base.proofs.Offered.{slice_get-last}
use mir.Val.{bool_byte}
use Rattle.mz_logic_theory.specs.Signature.{Signature}
use Rattle.mz_logic_theory.specs.Sorts.{IsBoundVar}
use Rattle.mz_logic_theory.specs.declared.binder.Binder.{Binder}
use Rattle.mz_logic_theory.specs.Tree.{var, app}
use Rattle.mz_logic_theory.proofs.Offered.{one_at, DepsInside, same-term, same-operands, same-first, same-rest, no-application, no-trees}
use Rattle.mz_store.specs.Bits.{bound_vars}
use Rattle.mz_store.specs.Sharing.{Shared, Sharing, tree_of, trees_of, IsIn, AreIn, Holds, IsOver}
use Rattle.mz_store.specs.Nodes.{Made, MadeOf, variable, application, form_of, made_of, all_made, AllLie, entered, binder_after, sharing_of, no_expressions, IsVariableWord}
use Rattle.mz_store.specs.Chains.{IsOf, IsNode}
use Rattle.mz_store.specs.Kept.{Forms, Shows, IsKept, AreKept, named, shared_by}
use Rattle.mz_store.specs.Tables.{bucket_of, newest_of, IsPut, IsTable}
use Rattle.mz_store.specs.declared.item.DepsMode.{DepsMode}
use Rattle.mz_store.specs.declared.item.Id.{Id}
use Rattle.mz_store.specs.declared.expressions.Expressions.{Expressions}
use Rattle.mz_store.specs.declared.node.Node.{Node}
use Rattle.mz_store.specs.declared.node.Application.{Application as Term}
use Rattle.mz_store.specs.declared.node.Form.{Form}
use Rattle.mz_store.specs.declared.node.Form.TheVariants.{Variable, Application}
use Rattle.mz_store.specs.declared.table.Table.{Table}
use Rattle.mz_store.proofs.Places.{bound-push}
use Rattle.mz_store.proofs.Made.{operands-new, made-kept, all-kept, all-pushed, made-at, node-of}
use Rattle.mz_store.proofs.Tabled.{table-lies, table-term, table-variable, table-more}
use Rattle.mz_store.proofs.Growing.{entered-all-push, entered-begins, entry-new, kept-alike, kept-grown, are-in-kept, trees-kept}
use Rattle.mz_store.proofs.Entering.{inside-grown, over-entered}

-- ---- the node of an expression

node-at : (s : Sharing) (count : ℕ) (os : List Id) (nodes : List Node) → IsKept s count os nodes → (i : ℕ) → IsIn s i
    → (n : Node) × (slice_get nodes i ≡ Some n) × Shows s i (made_of os n)
node-at s count os nodes kept i inside = go (slice_get nodes i) refl
  where
    go : (o : Option Node) → slice_get nodes i ≡ o → (n : Node) × (slice_get nodes i ≡ Some n) × Shows s i (made_of os n)
    go (Some n) at = (n, at, kept.shown i n at)
    go None at = absurd (none_past nodes i (omega (arith, kept.many)) at)
      where
        none_past : (ns : List Node) (j : ℕ) → j < length ns → slice_get ns j ≡ None → ⊥
        none_past [] j less nope = omega arith
        none_past (m ∷ ns) zero less nope = absurd (none-some _ (sym nope))
        none_past (m ∷ ns) (suc j) less nope = none_past ns j (omega arith) nope

-- ids of equal trees are equal
ids-same : (s : Sharing) → ((i j : ℕ) → IsIn s i → IsIn s j → tree_of s i ≡ tree_of s j → i ≡ j)
    → (is js : List Id) → AreIn s is → AreIn s js → trees_of s is ≡ trees_of s js → is ≡ js
ids-same s once [] [] p q same = refl
ids-same s once [] (j ∷ js) p q same = absurd (no-trees (tree_of s j.0) (trees_of s js) same)
ids-same s once (i ∷ is) [] p q same = absurd (no-trees (tree_of s i.0) (trees_of s is) (sym same))
ids-same s once (i ∷ is) (j ∷ js) (p, ps) (q, qs) same =
    ap (λ (n : ℕ). record { 0 = n } ∷ is) (once i.0 j.0 p q (same-first (tree_of s i.0) (tree_of s j.0) (trees_of s is) (trees_of s js) same))
    ∙ ap (λ (ks : List Id). j ∷ ks) (ids-same s once is js ps qs (same-rest (tree_of s i.0) (tree_of s j.0) (trees_of s is) (trees_of s js) same))

-- a term over operands has the tree that it says
node-holds : (s : Sharing) (count : ℕ) (os : List Id) (nodes : List Node) → IsKept s count os nodes → (h : ℕ) (is : List Id) (i : ℕ)
    → IsNode (all_made os nodes) h is i → Holds s i (app h (trees_of s is))
node-holds s count os nodes kept h is i (m, at, of) = (let (n, here, says) = node-of os nodes i m at in
    (omega (arith, kept.many, slice_get_within nodes i n here), go m.form of (subst (Shows s i) says (kept.shown i n here)).form))
  where
    go : (f : MadeOf) → IsOf f h is → Forms s i f → tree_of s i ≡ app h (trees_of s is)
    go (variable bound) nope form = absurd nope
    go (application head operands) (head-is, operands-are) (there, tree-is) = tree-is ∙ ap (λ t. app t (trees_of s operands)) head-is ∙ ap (λ ks. app h (trees_of s ks)) operands-are

-- and a tree over expressions of the store is such a term
holds-node : (s : Sharing) (count : ℕ) (os : List Id) (nodes : List Node) → IsKept s count os nodes → (h : ℕ) (is : List Id) → AreIn s is → (i : ℕ)
    → Holds s i (app h (trees_of s is)) → IsNode (all_made os nodes) h is i
holds-node s count os nodes kept h is there i (inside, tree-is) = go (node-at s count os nodes kept i inside)
  where
    go : (n : Node) × (slice_get nodes i ≡ Some n) × Shows s i (made_of os n) → IsNode (all_made os nodes) h is i
    go (n, at, shows) = (made_of os n, made-at os nodes i n at, of (made_of os n).form shows.form)
      where
        of : (f : MadeOf) → Forms s i f → IsOf f h is
        of (variable bound) (x, b, var-is, _, _) = absurd (no-application x h (trees_of s is) (sym var-is ∙ tree-is))
        of (application head operands) (in-too, app-is) = (
          same-term head h (trees_of s operands) (trees_of s is) (sym app-is ∙ tree-is),
          ids-same s kept.once operands is in-too there (same-operands head h (trees_of s operands) (trees_of s is) (sym app-is ∙ tree-is)),
        )

-- ---- one more variable

variable-kept : (s : Sharing) (count : ℕ) (os : List Id) (nodes : List Node) (sort deps : ℕ) (bound : Bool) → IsKept s count os nodes
    → IsVariableWord (length (bound_vars s.context)) deps bound → (count' : ℕ) → count' ≡ count + (if bound then 1 else 0)
    → IsKept (entered s (record { sort = sort; deps = deps; form = variable bound })) count' os (nodes ++ record { sort = sort; deps = deps; form = Variable bound } ∷ [])
variable-kept s count os nodes sort deps bound kept word count' count-is =
    kept-grown s count count' os os nodes (record { sort = sort; deps = deps; form = Variable bound }) m kept (λ i k at. refl) refl counted (small bound word count-is) form fresh
    (inside-grown s.context sort deps bound kept.inside)
  where
    m : Made
    m = record { sort = sort; deps = deps; form = variable bound }

    one : (v : Bool) → length (if v then length s.context ∷ [] else []) ≡ (if v then 1 else 0)
    one true = refl
    one false = refl

    counted : count' ≡ length (bound_vars (s.context ++ binder_after s.context sort deps bound ∷ []))
    counted = count-is ∙ ap (λ k. k + (if bound then 1 else 0)) kept.count ∙ ap (λ k. length (bound_vars s.context) + k) (sym (one bound))
        ∙ sym (length-append (bound_vars s.context) (if bound then length s.context ∷ [] else []))
        ∙ ap length (sym (bound-push s.context (binder_after s.context sort deps bound)))

    small : (v : Bool) → IsVariableWord (length (bound_vars s.context)) deps v → count' ≡ count + (if v then 1 else 0) → count' ≤ 55
    small true (less, _) is = omega (arith, kept.count)
    small false _ is = omega (arith, kept.small)

    form : Forms (entered s m) (length s.entries) (variable bound)
    form = (length s.context, binder_after s.context sort deps bound, ap (λ (e : Shared). e.tree) (entry-new s m), slice_get-last s.context (binder_after s.context sort deps bound), refl)

    fresh : (i : ℕ) → IsIn s i → tree_of s i ≡ var (length s.context) → ⊥
    fresh i in_i same = go (node-at s count os nodes kept i in_i)
      where
        other : (f : MadeOf) → Forms s i f → ⊥
        other (variable v) (x, b, is, at, _) = (let e : x ≡ length s.context = var-place x (length s.context) (sym is ∙ same) in let less : x < length s.context = slice_get_within s.context x b at in omega arith)
          where
            var-place : (y z : ℕ) → var y ≡ var z → y ≡ z
            var-place y z e = cc
        other (application head operands) (_, is) = no-application (length s.context) head (trees_of s operands) (sym same ∙ is)

        go : (k : Node) × (slice_get nodes i ≡ Some k) × Shows s i (made_of os k) → ⊥
        go (k, at, shows) = other (made_of os k).form shows.form

-- ---- one more term over operands

term-kept : (s : Sharing) (count : ℕ) (os news : List Id) (nodes : List Node) (n : Node) (sort deps t : ℕ) → IsKept s count os nodes → AllLie os nodes
    → made_of (os ++ news) n ≡ record { sort = sort; deps = deps; form = application t news }
    → AreIn s news → ((i : ℕ) → Holds s i (app t (trees_of s news)) → ⊥)
    → IsKept (entered s (record { sort = sort; deps = deps; form = application t news })) count (os ++ news) (nodes ++ n ∷ [])
term-kept s count os news nodes n sort deps t kept lie says there fresh =
    kept-grown s count count os (os ++ news) nodes n m kept (λ i k at. made-kept os news k (lie i k at)) says kept.count kept.small form (λ i in_i same. fresh i (in_i, same)) kept.inside
  where
    m : Made
    m = record { sort = sort; deps = deps; form = application t news }

    form : Forms (entered s m) (length s.entries) (application t news)
    form = (
      are-in-kept s (entered s m) (entered-begins s m) news there,
      ap (λ (e : Shared). e.tree) (entry-new s m) ∙ ap (app t) (sym (trees-kept s (entered s m) (entered-begins s m) news there)),
    )

-- ---- what a look-up says

pub found-holds : (s v : Sharing) (count : ℕ) (os : List Id) (nodes : List Node) → IsKept s count os nodes → s ≡ v → (h : ℕ) (is : List Id) (r : Option Id)
    → IfSome r (λ id. IsNode (all_made os nodes) h is id.0) → IfSome r (λ id. Holds v id.0 (app h (trees_of v is)))
found-holds s v count os nodes kept view h is None has = tt
found-holds s v count os nodes kept view h is (Some id) has = subst (λ w. Holds w id.0 (app h (trees_of w is))) view (node-holds s count os nodes kept h is id.0 has)

pub missing-holds : (s v : Sharing) (count : ℕ) (os : List Id) (nodes : List Node) → IsKept s count os nodes → s ≡ v → (h : ℕ) (is : List Id) → AreIn v is → (r : Option Id)
    → IfNone r ((i : ℕ) → IsNode (all_made os nodes) h is i → ⊥) → IfNone r ((i : ℕ) → Holds v i (app h (trees_of v is)) → ⊥)
missing-holds s v count os nodes kept view h is there (Some id) lacks = tt
missing-holds s v count os nodes kept view h is there None lacks =
    λ i holds. lacks i (holds-node s count os nodes kept h is (subst (λ w. AreIn w is) (sym view) there) i
    (subst (λ w. Holds w i (app h (trees_of w is))) (sym view) holds))

-- ---- the calls that add

-- what the store keeps
abbrev pub Keeps : Table → DepsMode → ℕ → List Id → List Node → Type 0
Keeps table mode count os nodes = IsKept (sharing_of mode (all_made os nodes)) count os nodes × IsTable table os nodes

view-pushed : (mode : DepsMode) (os os' : List Id) (nodes nodes' : List Node) (m : Made) (v : Sharing) → sharing_of mode (all_made os nodes) ≡ v
    → all_made os' nodes' ≡ all_made os nodes ++ m ∷ [] → sharing_of mode (all_made os' nodes') ≡ entered v m
view-pushed mode os os' nodes nodes' m v view pushed =
    ap (sharing_of mode) pushed ∙ entered-all-push (no_expressions mode) (all_made os nodes) m ∙ ap (λ s. entered s m) view

pub byte-is : (v : Bool) → bool_byte v ≡ (if v then 1 else 0)
byte-is true = refl
byte-is false = refl

-- a variable: no operands are added
variable-pushed : (os : List Id) (nodes : List Node) (sort deps : ℕ) (bound : Bool) → AllLie os nodes
    → all_made os (nodes ++ record { sort = sort; deps = deps; form = Variable bound } ∷ []) ≡ all_made os nodes ++ record { sort = sort; deps = deps; form = variable bound } ∷ []
variable-pushed os nodes sort deps bound lie =
    sym (ap (λ (is : List Id). all_made is (nodes ++ record { sort = sort; deps = deps; form = Variable bound } ∷ [])) (append-nil os))
    ∙ all-pushed os [] nodes (record { sort = sort; deps = deps; form = Variable bound }) (record { sort = sort; deps = deps; form = variable bound }) lie refl

pub enter-view : (mode : DepsMode) (os : List Id) (nodes nodes' : List Node) (sort deps : ℕ) (bound : Bool) (v : Sharing) → AllLie os nodes
    → sharing_of mode (all_made os nodes) ≡ v → nodes' ≡ nodes ++ record { sort = sort; deps = deps; form = Variable bound } ∷ []
    → sharing_of mode (all_made os nodes') ≡ entered v (record { sort = sort; deps = deps; form = variable bound })
enter-view mode os nodes nodes' sort deps bound v lie view is =
    view-pushed mode os os nodes nodes' (record { sort = sort; deps = deps; form = variable bound }) v view
    (ap (all_made os) is ∙ variable-pushed os nodes sort deps bound lie)

pub enter-kept : (table : Table) (mode : DepsMode) (count : ℕ) (os : List Id) (nodes nodes' : List Node) (sort deps : ℕ) (bound : Bool) (v : Sharing) (k : ℕ) → Keeps table mode count os nodes
    → sharing_of mode (all_made os nodes) ≡ v → IsVariableWord (length (bound_vars v.context)) deps bound → k ≡ bool_byte bound
    → nodes' ≡ nodes ++ record { sort = sort; deps = deps; form = Variable bound } ∷ [] → Keeps table mode (count + k) os nodes'
enter-kept table mode count os nodes nodes' sort deps bound v k (kept, known) view word k-is is =
    subst (λ (ns : List Node). Keeps table mode (count + k) os ns) (sym is) (
      subst (λ (s : Sharing). IsKept s (count + k) os (nodes ++ record { sort = sort; deps = deps; form = Variable bound } ∷ []))
          (sym (enter-view mode os nodes (nodes ++ record { sort = sort; deps = deps; form = Variable bound } ∷ []) sort deps bound (sharing_of mode (all_made os nodes)) (table-lies table os nodes known) refl refl))
          (variable-kept (sharing_of mode (all_made os nodes)) count os nodes sort deps bound kept
          (subst (λ (s : Sharing). IsVariableWord (length (bound_vars s.context)) deps bound) (sym view) word) (count + k) (ap (λ j. count + j) (k-is ∙ byte-is bound))),
      table-variable table os nodes sort deps bound known,
    )

pub enter-over : (table : Table) (mode : DepsMode) (count : ℕ) (os : List Id) (nodes nodes' : List Node) (sort deps : ℕ) (bound : Bool) (v : Sharing) → Keeps table mode count os nodes
    → sharing_of mode (all_made os nodes) ≡ v → IsVariableWord (length (bound_vars v.context)) deps bound
    → nodes' ≡ nodes ++ record { sort = sort; deps = deps; form = Variable bound } ∷ []
    → (sigs : List Signature) → IsOver sigs v → IsOver sigs (sharing_of mode (all_made os nodes'))
enter-over table mode count os nodes nodes' sort deps bound v (kept, known) view word is sigs over =
    subst (IsOver sigs) (sym (enter-view mode os nodes nodes' sort deps bound v (table-lies table os nodes known) view is))
    (over-entered v sort deps bound (subst (λ (s : Sharing). DepsInside s.context) view kept.inside) word sigs over)

-- a term: its operands are added
term-says : (os more : List Id) (sort deps : ℕ) (a : Term) → a.from ≡ length os → a.to ≡ length os + length more
    → made_of (os ++ more) (record { sort = sort; deps = deps; form = Application a }) ≡ record { sort = sort; deps = deps; form = application a.head more }
term-says os more sort deps a from-is to-is =
    ap (λ (is : List Id). record { sort = sort; deps = deps; form = application a.head is }) (operands-new os more a.from a.to from-is to-is)

pub term-view : (mode : DepsMode) (os os' news : List Id) (nodes nodes' : List Node) (sort deps : ℕ) (a : Term) (v : Sharing) → AllLie os nodes
    → sharing_of mode (all_made os nodes) ≡ v → os' ≡ os ++ news → a.from ≡ length os → a.to ≡ length os + length news
    → nodes' ≡ nodes ++ record { sort = sort; deps = deps; form = Application a } ∷ []
    → sharing_of mode (all_made os' nodes') ≡ entered v (record { sort = sort; deps = deps; form = application a.head news })
term-view mode os os' news nodes nodes' sort deps a v lie view os-is from-is to-is is =
    view-pushed mode os os' nodes nodes' (record { sort = sort; deps = deps; form = application a.head news }) v view
    (ap (λ (is : List Id). all_made is nodes') os-is ∙ ap (all_made (os ++ news)) is
    ∙ all-pushed os news nodes (record { sort = sort; deps = deps; form = Application a }) (record { sort = sort; deps = deps; form = application a.head news })
    lie (term-says os news sort deps a from-is to-is))

pub add-kept : (table table' : Table) (mode : DepsMode) (count : ℕ) (os os' news : List Id) (nodes nodes' : List Node) (sort deps : ℕ) (a : Term) (v : Sharing) (bucket : ℕ) (id : Id)
    → Keeps table mode count os nodes → sharing_of mode (all_made os nodes) ≡ v → os' ≡ os ++ news → a.from ≡ length os → a.to ≡ length os + length news
    → nodes' ≡ nodes ++ record { sort = sort; deps = deps; form = Application a } ∷ []
    → AreIn v news → ((i : ℕ) → Holds v i (app a.head (trees_of v news)) → ⊥)
    → bucket ≡ bucket_of table.factor (length table.buckets.items) a.head news → a.earlier ≡ named (length nodes) (newest_of table bucket) → id.0 ≡ length nodes
    → bucket < length table.buckets.items → IsPut table bucket id table' → Keeps table' mode count os' nodes'
add-kept table table' mode count os os' news nodes nodes' sort deps a v bucket id (kept, known) view os-is from-is to-is is there fresh bucket-is earlier-is place within put =
    subst (λ (ns : List Node). Keeps table' mode count os' ns) (sym is) (subst (λ (is : List Id). Keeps table' mode count is (nodes ++ n ∷ [])) (sym os-is) (
      subst (λ (s : Sharing). IsKept s count (os ++ news) (nodes ++ n ∷ []))
          (sym (term-view mode os (os ++ news) news nodes (nodes ++ n ∷ []) sort deps a (sharing_of mode (all_made os nodes)) lie refl refl from-is to-is refl))
          (term-kept (sharing_of mode (all_made os nodes)) count os news nodes n sort deps a.head kept lie (term-says os news sort deps a from-is to-is)
          (subst (λ w. AreIn w news) (sym view) there) (λ i holds. fresh i (subst (λ w. Holds w i (app a.head (trees_of w news))) view holds))),
      table-term table table' os news nodes sort deps a bucket id known (omega arith, omega (arith, length-append os news))
          (bucket-is ∙ ap (bucket_of table.factor (length table.buckets.items) a.head) (sym (operands-new os news a.from a.to from-is to-is))) earlier-is place within put,
    ))
  where
    n : Node
    n = record { sort = sort; deps = deps; form = Application a }

    lie : AllLie os nodes
    lie = table-lies table os nodes known

-- operands are added, and no node
pub more-view : (mode : DepsMode) (os os' news : List Id) (nodes nodes' : List Node) (v : Sharing) → AllLie os nodes
    → sharing_of mode (all_made os nodes) ≡ v → os' ≡ os ++ news → nodes' ≡ nodes → sharing_of mode (all_made os' nodes') ≡ v
more-view mode os os' news nodes nodes' v lie view is same =
    ap (λ (ns : List Node). sharing_of mode (all_made os' ns)) same ∙ ap (λ (js : List Id). sharing_of mode (all_made js nodes)) is ∙ ap (sharing_of mode) (all-kept os news nodes lie) ∙ view

pub more-kept : (table : Table) (mode : DepsMode) (count : ℕ) (os os' news : List Id) (nodes nodes' : List Node) → Keeps table mode count os nodes
    → os' ≡ os ++ news → nodes' ≡ nodes → Keeps table mode count os' nodes'
more-kept table mode count os os' news nodes nodes' (kept, known) is alike =
    subst (λ (ns : List Node). Keeps table mode count os' ns) (sym alike) (subst (λ (js : List Id). Keeps table mode count js nodes) (sym is) (
      subst (λ (s : Sharing). IsKept s count (os ++ news) nodes) (sym (ap (sharing_of mode) same)) (kept-alike (sharing_of mode (all_made os nodes)) count os (os ++ news) nodes nodes same kept),
      table-more table os news nodes known,
    ))
  where
    same : all_made (os ++ news) nodes ≡ all_made os nodes
    same = all-kept os news nodes (table-lies table os nodes known)

-- ---- what a node shows

pub kept-shows : (s : Sharing) (count : ℕ) (os : List Id) (nodes : List Node) → IsKept s count os nodes → (i : ℕ) (n : Node) → IsIn s i → n ≡ get_or nodes i n → Shows s i (made_of os n)
kept-shows s count os nodes kept i n inside is = kept.shown i n (slice_get-get_or nodes i n (omega (arith, kept.many)) ∙ ap Some (sym is))

pub shows-at : (e : Expressions) (v : Sharing) → AreKept e → shared_by e ≡ v → (i : ℕ) (n : Node) → IsIn v i → n ≡ get_or e.nodes.items i n → Shows v i (made_of e.operands.items n)
shows-at e v kept view i n inside is =
    subst (λ w. Shows w i (made_of e.operands.items n)) view (kept-shows (shared_by e) e.bound_count e.operands.items e.nodes.items kept i n (subst (λ w. IsIn w i) (sym view) inside) is)

pub form-at : (e : Expressions) (v : Sharing) → AreKept e → shared_by e ≡ v → (i : ℕ) (n : Node) → IsIn v i → n ≡ get_or e.nodes.items i n → (f : Form) → n.form ≡ f → Forms v i (form_of e.operands.items f)
form-at e v kept view i n inside is f form-is = subst (λ (g : Form). Forms v i (form_of e.operands.items g)) form-is (shows-at e v kept view i n inside is).form

pub bound-variable : (v : Sharing) (i : ℕ) (bound : Bool) → Forms v i (variable bound) → IsTrue bound ↔ IsBoundVar v.context (tree_of v i)
bound-variable v i bound (x, b, is, at, bound-is) = (λ t. (x, b, is, at, bound-is ∙ t), back)
  where
    place : (y z : ℕ) → var y ≡ var z → y ≡ z
    place y z e = cc

    back : IsBoundVar v.context (tree_of v i) → IsTrue bound
    back (y, c, is', at', bd) = sym bound-is ∙ ap (λ (d : Binder). d.bound) (one_at at (subst (λ z. slice_get v.context z ≡ Some c) (place y x (sym is' ∙ is)) at')) ∙ bd

pub bound-term : (v : Sharing) (i h : ℕ) (is : List Id) → Forms v i (application h is) → IsTrue false ↔ IsBoundVar v.context (tree_of v i)
bound-term v i h is (_, tree-is) = (λ nope. absurd cc, λ it. absurd (no-application it.0 h (trees_of v is) (sym it.2 ∙ tree-is)))

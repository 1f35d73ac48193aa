-- Nodes that are added, and the nodes of values.
use Rattle.std.proofs.Common.{◌≡◌, ℕ, zero, suc, ◌+◌, List, [], ◌∷◌, ◌++◌, Option, Some, length, refl, sym, ap, ◌∙◌, subst, arith, length-append}
use Rattle.std.specs.Prelude.{slice_get}
use Rattle.std.proofs.lemmas.List.{append-nil, append_assoc}
use Rattle.mz_base.proofs.Offered.{slice_get-last, slice_get-append}
use Rattle.mz_logic_theory.specs.Tree.{Trees, var, app}
use Rattle.mz_machine_theory.specs.Spells.{trees_of}
use Rattle.mz_machine_theory.specs.MachineState.{RowsBefore}
use Rattle.mz_trace.specs.Nodes.{Value, an_expression, expressions_at, value_of, values_after, values, AreExpressions, HasArity, HasParts, HavePartsAfter, HaveParts, IsApplication, Applies}
use Rattle.mz_trace.specs.declared.node.RunNode.{RunNode}
use Rattle.mz_trace.specs.declared.node.RunNode.TheVariants as node
use Rattle.mz_trace.proofs.Growing.{grown-parts, same-value}

-- ---- one node more

pub after-push : (vs : List Value) (ns : List RunNode) (n : RunNode) → values_after vs (ns ++ n ∷ []) ≡ values_after vs ns ++ value_of (values_after vs ns) n ∷ []
after-push vs [] n = refl
after-push vs (m ∷ ns) n = after-push (vs ++ value_of vs m ∷ []) ns n

pub parts-push : (tables : RowsBefore) (vs : List Value) (ns : List RunNode) (n : RunNode) → HavePartsAfter tables vs ns → HasParts tables (values_after vs ns) n → HavePartsAfter tables vs (ns ++ n ∷ [])
parts-push tables vs [] n h hn = (hn, tt)
parts-push tables vs (m ∷ ns) n h hn = (h.0, parts-push tables (vs ++ value_of vs m ∷ []) ns n h.1 hn)

pub many-values : (vs : List Value) (ns : List RunNode) → length (values_after vs ns) ≡ length vs + length ns
many-values vs [] = omega arith
many-values vs (n ∷ ns) = many-values (vs ++ value_of vs n ∷ []) ns ∙ (let one : length (vs ++ value_of vs n ∷ []) ≡ length vs + 1 = length-append vs (value_of vs n ∷ []) in omega (arith, one))

zero-plus : (n : ℕ) → 0 + n ≡ n
zero-plus n = omega arith

pub all-values : (ns : List RunNode) → length (values ns) ≡ length ns
all-values ns = many-values [] ns ∙ zero-plus (length ns)

pub new-value : (ns : List RunNode) (n : RunNode) → slice_get (values (ns ++ n ∷ [])) (length ns) ≡ Some (value_of (values ns) n)
new-value ns n =
    ap (λ vs. slice_get vs (length ns)) (after-push [] ns n)
    ∙ subst (λ k. slice_get (values ns ++ value_of (values ns) n ∷ []) k ≡ Some (value_of (values ns) n)) (all-values ns) (slice_get-last (values ns) (value_of (values ns) n))

-- ---- a node and its value

begins : (vs : List Value) (ns : List RunNode) → (more : List Value) × (values_after vs ns ≡ vs ++ more)
begins vs [] = ([], sym (append-nil vs))
begins vs (n ∷ ns) = let (more, is) = begins (vs ++ value_of vs n ∷ []) ns in (value_of vs n ∷ more, is ∙ append_assoc vs (value_of vs n ∷ []) more)

abbrev Shows : RowsBefore → List Value → ℕ → RunNode → Type 0
Shows tables vs i n = (slice_get vs i ≡ Some (value_of vs n)) × HasParts tables vs n

here : (tables : RowsBefore) (vs : List Value) (ns : List RunNode) (n : RunNode) → HasParts tables vs n → Shows tables (values_after vs (n ∷ ns)) (length vs) n
here tables vs ns n h =
    let (more, is) = begins (vs ++ value_of vs n ∷ []) ns in
    let one : HasParts tables (vs ++ value_of vs n ∷ []) n = grown-parts vs (value_of vs n ∷ []) tables n h in
    let value : value_of ((vs ++ value_of vs n ∷ []) ++ more) n ≡ value_of vs n = same-value (vs ++ value_of vs n ∷ []) more tables n one ∙ same-value vs (value_of vs n ∷ []) tables n h in
    subst (λ ws. Shows tables ws (length vs) n) (sym is) (
      slice_get-append (vs ++ value_of vs n ∷ []) more (length vs) (value_of vs n) (slice_get-last vs (value_of vs n)) ∙ ap (λ v. Some v) (sym value),
      grown-parts (vs ++ value_of vs n ∷ []) more tables n one,
    )

shown-after : (tables : RowsBefore) (vs : List Value) (ns : List RunNode) (i : ℕ) (n : RunNode) → HavePartsAfter tables vs ns → slice_get ns i ≡ Some n
    → Shows tables (values_after vs ns) (length vs + i) n
shown-after tables vs [] i n h at = absurd cc
shown-after tables vs (m ∷ ns) zero n h at =
    let same : m ≡ n = cc in
    let place : length vs + 0 ≡ length vs = omega arith in
    subst (λ k. Shows tables (values_after vs (m ∷ ns)) k n) (sym place) (subst (λ p. Shows tables (values_after vs (m ∷ ns)) (length vs) p) same (here tables vs ns m h.0))
shown-after tables vs (m ∷ ns) (suc i) n h at =
    let one : length (vs ++ value_of vs m ∷ []) ≡ length vs + 1 = length-append vs (value_of vs m ∷ []) in
    let place : length (vs ++ value_of vs m ∷ []) + i ≡ length vs + suc i = omega (arith, one) in
    subst (λ k. Shows tables (values_after vs (m ∷ ns)) k n) place (shown-after tables (vs ++ value_of vs m ∷ []) ns i n h.1 at)

pub shown : (tables : RowsBefore) (ns : List RunNode) (i : ℕ) (n : RunNode) → HaveParts tables ns → slice_get ns i ≡ Some n → Shows tables (values ns) i n
shown tables ns i n h at = subst (λ k. Shows tables (values ns) k n) (zero-plus i) (shown-after tables [] ns i n h at)

-- there are as many nodes as values
pub node-at : {A B : Type 0} (xs : List A) (ys : List B) (i : ℕ) (x : A) → length xs ≡ length ys → slice_get xs i ≡ Some x → (y : B) × (slice_get ys i ≡ Some y)
node-at [] ys i x many at = absurd cc
node-at (z ∷ xs) [] i x many at = absurd (omega (arith, many))
node-at (z ∷ xs) (y ∷ ys) zero x many at = (y, refl)
node-at (z ∷ xs) (y ∷ ys) (suc i) x many at = node-at xs ys i x (omega (arith, many)) at

-- ---- applications

abbrev pub IsApplicationOf : RowsBefore → List Value → ℕ → Trees → Option RunNode → Type 0
IsApplicationOf tables vs t es o = IsApplication o
    × ((u : ℕ) (os : List ℕ) → Applies o u os → (u ≡ t) × (es ≡ trees_of (expressions_at vs os)) × AreExpressions vs os × HasArity tables t (length os))

of-node : (tables : RowsBefore) (vs : List Value) (i t : ℕ) (es : Trees) (n : RunNode) → Shows tables vs i n → slice_get vs i ≡ Some (an_expression (app t es)) → IsApplicationOf tables vs t es (Some n)
of-node tables vs i t es (node.Var x) h at = absurd (let no : Some (an_expression (var x)) ≡ Some (an_expression (app t es)) = sym h.0 ∙ at in cc)
of-node tables vs i t es (node.App s ops) h at =
    let is : Some (an_expression (app s (trees_of (expressions_at vs ops.items)))) ≡ Some (an_expression (app t es)) = sym h.0 ∙ at in
    let term : s ≡ t = cc in
    let trees : trees_of (expressions_at vs ops.items) ≡ es = cc in
    (tt, λ u os a. (a.0 ∙ term, sym trees ∙ ap (λ ns. trees_of (expressions_at vs ns)) (sym a.1), rw a.1 h.1.0, rw (a.1, ← term) h.1.1))
of-node tables vs i t es _ h at = absurd (let no = sym h.0 ∙ at in cc)

pub application-at : (tables : RowsBefore) (ns : List RunNode) (i t : ℕ) (es : Trees) → HaveParts tables ns → slice_get (values ns) i ≡ Some (an_expression (app t es))
    → IsApplicationOf tables (values ns) t es (slice_get ns i)
application-at tables ns i t es h at =
    let (n, is) = node-at (values ns) ns i (an_expression (app t es)) (all-values ns) at in
    rw is (of-node tables (values ns) i t es n (shown tables ns i n h is) at)

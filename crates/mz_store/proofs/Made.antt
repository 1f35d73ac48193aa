-- What nodes say stays where operands and nodes are added at the ends of their lists.
use Rattle.std.proofs.Common.{ℕ, zero, suc, ◌≡◌, ◌≤◌, ◌+◌, ◌-◌, List, [], ◌∷◌, ◌++◌, length, map, take, drop, slice_get, Some, refl, ap, ◌∙◌, arith}
use Rattle.std.proofs.lemmas.List.{take-append-le, drop-append-le, length-drop, take_all}
use Rattle.std.proofs.lemmas.Option.{none-some}
use Rattle.mz_logic_theory.proofs.Offered.{one_at}
use Rattle.mz_store.specs.Nodes.{Made, MadeOf, application, operands_at, form_of, made_of, all_made, Lies, AllLie}
use Rattle.mz_store.specs.declared.item.Id.{Id}
use Rattle.mz_store.specs.declared.node.Node.{Node}
use Rattle.mz_store.specs.declared.node.Form.{Form}
use Rattle.mz_store.specs.declared.node.Form.TheVariants.{Variable, Application}

-- ---- operands

-- what stands within a list stands there too when it has more
pub operands-kept : (os more : List Id) (from to : ℕ) → from ≤ to → to ≤ length os → operands_at (os ++ more) from to ≡ operands_at os from to
operands-kept os more from to order within =
    ap (take (to - from)) (drop-append-le from os more (omega arith))
    ∙ take-append-le (to - from) (drop from os) more (omega (arith, length-drop from os))

drop-first : (os more : List Id) → drop (length os) (os ++ more) ≡ more
drop-first [] more = refl
drop-first (o ∷ os) more = drop-first os more

-- and what was put at its end are all from there on
pub operands-new : (os more : List Id) (from to : ℕ) → from ≡ length os → to ≡ length os + length more → operands_at (os ++ more) from to ≡ more
operands-new os more from to from-is to-is =
    ap (λ i. take (to - i) (drop i (os ++ more))) from-is ∙ ap (take (to - length os)) (drop-first os more) ∙ take_all (to - length os) more (omega arith)

-- ---- nodes

form-kept : (os more : List Id) (f : Form) → Lies os f → form_of (os ++ more) f ≡ form_of os f
form-kept os more (Variable bound) _ = refl
form-kept os more (Application a) (order, within) = ap (λ is. application a.head is) (operands-kept os more a.from a.to order within)

pub made-kept : (os more : List Id) (n : Node) → Lies os n.form → made_of (os ++ more) n ≡ made_of os n
made-kept os more n lies = ap (λ (f : MadeOf). record { sort = n.sort; deps = n.deps; form = f }) (form-kept os more n.form lies)

pub all-kept : (os more : List Id) (nodes : List Node) → AllLie os nodes → all_made (os ++ more) nodes ≡ all_made os nodes
all-kept os more [] lie = refl
all-kept os more (n ∷ ns) lie =
    ap (λ (m : Made). m ∷ all_made (os ++ more) ns) (made-kept os more n (lie 0 n refl))
    ∙ ap (λ (ms : List Made). made_of os n ∷ ms) (all-kept os more ns (λ i m at. lie (suc i) m at))

map-push : (f : Node → Made) (ns : List Node) (n : Node) → map f (ns ++ n ∷ []) ≡ map f ns ++ f n ∷ []
map-push f [] n = refl
map-push f (m ∷ ns) n = ap (λ (ms : List Made). f m ∷ ms) (map-push f ns n)

-- operands are added, and a node that says m
pub all-pushed : (os more : List Id) (nodes : List Node) (n : Node) (m : Made) → AllLie os nodes → made_of (os ++ more) n ≡ m
    → all_made (os ++ more) (nodes ++ n ∷ []) ≡ all_made os nodes ++ m ∷ []
all-pushed os more nodes n m lie says =
    map-push (made_of (os ++ more)) nodes n ∙ ap (λ (ms : List Made). ms ++ made_of (os ++ more) n ∷ []) (all-kept os more nodes lie)
    ∙ ap (λ (x : Made). all_made os nodes ++ x ∷ []) says

pub many-made : (os : List Id) (nodes : List Node) → length (all_made os nodes) ≡ length nodes
many-made os [] = refl
many-made os (n ∷ ns) = ap suc (many-made os ns)

pub made-at : (os : List Id) (nodes : List Node) (i : ℕ) (n : Node) → slice_get nodes i ≡ Some n → slice_get (all_made os nodes) i ≡ Some (made_of os n)
made-at os [] i n at = absurd (none-some _ at)
made-at os (m ∷ ns) zero n at = ap (λ (k : Node). Some (made_of os k)) (one_at refl at)
made-at os (m ∷ ns) (suc i) n at = made-at os ns i n at

pub node-of : (os : List Id) (nodes : List Node) (i : ℕ) (m : Made) → slice_get (all_made os nodes) i ≡ Some m → (n : Node) × (slice_get nodes i ≡ Some n) × (made_of os n ≡ m)
node-of os [] i m at = absurd (none-some _ at)
node-of os (n ∷ ns) zero m at = (n, refl, one_at refl at)
node-of os (n ∷ ns) (suc i) m at = node-of os ns i m at

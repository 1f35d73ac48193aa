-- What nodes say stays where operands and nodes are added at the ends of their lists.
use Rattle.std.proofs.Common.{ℕ, suc, ◌≡◌, ◌≤◌, ◌+◌, List, [], ◌∷◌, ◌++◌, length, take, drop, refl, ap, ◌∙◌, subst, inl, inr, arith}
use Rattle.std.proofs.lemmas.List.{take-append-le, drop-append-le, drop_all, take_all, length-append, length-drop, map-append}
use Rattle.mz_logic_theory.proofs.Offered.{split_at}
use Rattle.mz_store.specs.declared.item.Id.{Id}
use Rattle.mz_store.proofs.Offered.{only-last}
use Rattle.mz_pmachine_unify.specs.Entering.{Made, MadeOf, application, operands_at, form_of, made_of, all_made}
use Rattle.mz_pmachine_unify.specs.Kept.{Lies, AllLie}
use Rattle.mz_pmachine_unify.specs.declared.node.Node.{Node}
use Rattle.mz_pmachine_unify.specs.declared.node.Application.{Application as Term}
use Rattle.mz_pmachine_unify.specs.declared.node.Form.{Form}
use Rattle.mz_pmachine_unify.specs.declared.node.Form.TheVariants.{Variable, Application}

-- ---- operands

operands-stay : (os more : List Id) (from many : ℕ) → from + many ≤ length os → operands_at (os ++ more) from many ≡ operands_at os from many
operands-stay os more from many within =
    ap (take many) (drop-append-le from os more (omega arith)) ∙ take-append-le many (drop from os) more (omega (arith, length-drop from os))

-- what is put at their end are all from there on
operands-last : (os is : List Id) (from many : ℕ) → from ≡ length os → many ≡ length is → operands_at (os ++ is) from many ≡ is
operands-last os is from many from-is many-is =
    ap (take many) (drop-append-le from os is (omega arith) ∙ ap (λ (js : List Id). js ++ is) (drop_all from os (omega arith))) ∙ take_all many is (omega arith)

-- ---- nodes

form-stays : (os more : List Id) (f : Form) → Lies os f → form_of (os ++ more) f ≡ form_of os f
form-stays os more (Variable bound) _ = refl
form-stays os more (Application a) within = ap (application a.number a.head) (operands-stay os more a.from a.many within)

pub all-stay : (os more : List Id) (nodes : List Node) → AllLie os nodes → all_made (os ++ more) nodes ≡ all_made os nodes
all-stay os more [] lie = refl
all-stay os more (n ∷ ns) lie =
    ap (λ (f : MadeOf). record { sort = n.sort; vars = n.vars; deps = n.deps; form = f } ∷ all_made (os ++ more) ns) (form-stays os more n.form (lie 0 n refl))
    ∙ ap (λ (ms : List Made). made_of os n ∷ ms) (all-stay os more ns (λ i m at. lie (suc i) m at))

-- operands are added, and a node that says m
pub all-with : (os more : List Id) (nodes : List Node) (n : Node) (m : Made) → AllLie os nodes → made_of (os ++ more) n ≡ m
    → all_made (os ++ more) (nodes ++ n ∷ []) ≡ all_made os nodes ++ m ∷ []
all-with os more nodes n m lie says =
    map-append (made_of (os ++ more)) nodes (n ∷ []) ∙ ap (λ (ms : List Made). ms ++ made_of (os ++ more) n ∷ []) (all-stay os more nodes lie)
    ∙ ap (λ (x : Made). all_made os nodes ++ x ∷ []) says

pub term-says : (os is : List Id) (sort vars deps : ℕ) (a : Term) → a.from ≡ length os → a.many ≡ length is
    → made_of (os ++ is) (record { vars = vars; deps = deps; sort = sort; form = Application a }) ≡ record { sort = sort; vars = vars; deps = deps; form = application a.number a.head is }
term-says os is sort vars deps a from-is many-is =
    ap (λ (js : List Id). record { sort = sort; vars = vars; deps = deps; form = application a.number a.head js }) (operands-last os is a.from a.many from-is many-is)

-- ---- places

lies-longer : (os more : List Id) (f : Form) → Lies os f → Lies (os ++ more) f
lies-longer os more (Variable bound) _ = tt
lies-longer os more (Application a) within = omega (arith, length-append os more)

pub all-lie-longer : (os more : List Id) (nodes : List Node) → AllLie os nodes → AllLie (os ++ more) nodes
all-lie-longer os more nodes lie i n at = lies-longer os more n.form (lie i n at)

pub all-lie-with : (os : List Id) (nodes : List Node) (n : Node) → AllLie os nodes → Lies os n.form → AllLie os (nodes ++ n ∷ [])
all-lie-with os nodes n lie lies i k at = elim (split_at nodes (n ∷ []) i k at) [
  | inl here ↦ lie i k here
  | inr later ↦ subst (λ (x : Node). Lies os x.form) (only-last n k later.0 later.2).1 lies
]

-- One more variable, and one more term over expressions.
use Rattle.std.proofs.Common.{ℕ, zero, suc, ◌≡◌, ◌<◌, ◌≤◌, ◌+◌, Bool, true, false, List, [], ◌∷◌, ◌++◌, length, slice_get, Option, Some, None, refl, ap, sym, ◌∙◌, subst, arith, append-nil, if◌then◌else◌}
use Rattle.std.proofs.lemmas.List.{length-append}
use Rattle.std.proofs.lemmas.Option.{slice_get_within, none-some}
use Rattle.mz_base.proofs.Offered.{slice_get-last}
use mir.Val.{bool_byte}
use Rattle.mz_logic_theory.specs.Signature.{Signature}
use Rattle.mz_logic_theory.proofs.Offered.{DepsInside}
use Rattle.mz_store.specs.Bits.{bound_vars}
use Rattle.mz_store.specs.Nodes.{binder_after, IsVariableWord}
use Rattle.mz_store.specs.declared.item.DepsMode.{DepsMode}
use Rattle.mz_store.specs.declared.item.Id.{Id}
use Rattle.mz_store.proofs.Offered.{bound-push, inside-grown, byte-is}
use Rattle.mz_pmachine_theory.specs.NodeIdentity.{Numbered, Operands, a_variable, an_application}
use Rattle.mz_pmachine_unify.specs.Numbering.{Entry, Numbering, expr_of, exprs_of, IsIn, IsMadeBefore, IsOver}
use Rattle.mz_pmachine_unify.specs.Entering.{Made, MadeOf, variable, application, made_of, all_made, entered, context_with, expr_with, next_with, numbering_of, no_expressions, IsNewIn}
use Rattle.mz_pmachine_unify.specs.Kept.{Forms, Shows, IsKept, Lies, AllLie, Keeps}
use Rattle.mz_pmachine_unify.specs.declared.node.Node.{Node}
use Rattle.mz_pmachine_unify.specs.declared.node.Application.{Application as Term}
use Rattle.mz_pmachine_unify.specs.declared.node.Form.TheVariants.{Variable, Application}
use Rattle.mz_pmachine_unify.proofs.Growing.{entered-all-push, entered-begins, entry-new, kept-grown, kept-empty, are-in-kept, exprs-kept}
use Rattle.mz_pmachine_unify.proofs.Entered.{over-entered}
use Rattle.mz_pmachine_unify.proofs.Pushed.{all-stay, all-with, term-says, all-lie-longer, all-lie-with}

-- ---- the node of an expression

pub node-at : (s : Numbering) (count : ℕ) (nodes : List Made) → IsKept s count nodes → (i : ℕ) → IsIn s i → (n : Made) × (slice_get nodes i ≡ Some n) × Shows s i n
node-at s count nodes kept i inside = go (slice_get nodes i) refl
  where
    go : (o : Option Made) → slice_get nodes i ≡ o → (n : Made) × (slice_get nodes i ≡ Some n) × Shows s i n
    go (Some n) at = (n, at, kept.shown i n at)
    go None at = absurd (none_past nodes i (omega (arith, kept.many)) at)
      where
        none_past : (ns : List Made) (j : ℕ) → j < length ns → slice_get ns j ≡ None → ⊥
        none_past [] j less nope = omega arith
        none_past (m ∷ ns) zero less nope = absurd (none-some _ (sym nope))
        none_past (m ∷ ns) (suc j) less nope = none_past ns j (omega arith) nope

var-app : (x n t : ℕ) (es : Operands) → a_variable x ≡ an_application n t es → ⊥
var-app x n t es is = cc

var-place : (y z : ℕ) → a_variable y ≡ a_variable z → y ≡ z
var-place y z e = cc

-- ---- one more variable

pub variable-kept : (s : Numbering) (count : ℕ) (nodes : List Made) (sort deps : ℕ) (bound : Bool) → IsKept s count nodes
    → IsVariableWord (length (bound_vars s.context)) deps bound → (count' : ℕ) → count' ≡ count + (if bound then 1 else 0)
    → IsKept (entered s (record { sort = sort; vars = deps; deps = deps; form = variable bound })) count' (nodes ++ record { sort = sort; vars = deps; deps = deps; form = variable bound } ∷ [])
variable-kept s count nodes sort deps bound kept word count' count-is =
    kept-grown s count count' nodes n kept counted (small bound word count-is) form fresh (omega arith, tt) (inside-grown s.context sort deps bound kept.inside)
  where
    n : Made
    n = record { sort = sort; vars = deps; deps = deps; form = variable bound }

    one : (v : Bool) → length (if v then length s.context ∷ [] else []) ≡ (if v then 1 else 0)
    one true = refl
    one false = refl

    counted : count' ≡ length (bound_vars (s.context ++ binder_after s.context sort deps bound ∷ []))
    counted = count-is ∙ ap (λ m. m + (if bound then 1 else 0)) kept.count ∙ ap (λ m. length (bound_vars s.context) + m) (sym (one bound))
        ∙ sym (length-append (bound_vars s.context) (if bound then length s.context ∷ [] else []))
        ∙ ap length (sym (bound-push s.context (binder_after s.context sort deps bound)))

    small : (v : Bool) → IsVariableWord (length (bound_vars s.context)) deps v → count' ≡ count + (if v then 1 else 0) → count' ≤ 55
    small true (less, _) is = omega (arith, kept.count)
    small false _ is = omega (arith, kept.small)

    form : Forms (entered s n) (length s.entries) (variable bound)
    form = (length s.context, binder_after s.context sort deps bound, ap (λ (e : Entry). e.expr) (entry-new s n), slice_get-last s.context (binder_after s.context sort deps bound), refl)

    fresh : (i : ℕ) → IsIn s i → expr_of s i ≡ a_variable (length s.context) → ⊥
    fresh i in_i same = go (node-at s count nodes kept i in_i)
      where
        other : (f : MadeOf) → Forms s i f → ⊥
        other (variable v) (x, b, is, at, _) = (let e : x ≡ length s.context = var-place x (length s.context) (sym is ∙ same) in let less : x < length s.context = slice_get_within s.context x b at in omega arith)
        other (application number head operands) (_, is) = var-app (length s.context) number head (exprs_of s operands) (sym same ∙ is)

        go : (m : Made) × (slice_get nodes i ≡ Some m) × Shows s i m → ⊥
        go (m, at, shows) = other m.form shows.form

-- ---- one more term over expressions

pub application-kept : (s : Numbering) (count : ℕ) (nodes : List Made) (n : Made) → IsKept s count nodes → IsNewIn s n.form → IsKept (entered s n) count (nodes ++ n ∷ [])
application-kept s count nodes n kept new =
    kept-grown s count count nodes n kept (counted n.form new) kept.small (form n.form new (ap (λ (e : Entry). e.expr) (entry-new s n))) (other n.form new) (rises n.form new) (inside n.form new)
  where
    counted : (f : MadeOf) → IsNewIn s f → count ≡ length (bound_vars (context_with s n f))
    counted (variable bound) nope = absurd nope
    counted (application number head operands) _ = kept.count

    inside : (f : MadeOf) → IsNewIn s f → DepsInside (context_with s n f)
    inside (variable bound) nope = absurd nope
    inside (application number head operands) _ = kept.inside

    form : (f : MadeOf) → IsNewIn s f → expr_of (entered s n) (length s.entries) ≡ expr_with s f → Forms (entered s n) (length s.entries) f
    form (variable bound) nope is = absurd nope
    form (application number head operands) (there, late) is = (
      are-in-kept s (entered s n) (entered-begins s n) operands there,
      is ∙ ap (an_application number head) (sym (exprs-kept s (entered s n) (entered-begins s n) operands there)),
    )

    rises : (f : MadeOf) → IsNewIn s f → (s.next ≤ next_with s f) × IsMadeBefore (next_with s f) (expr_with s f)
    rises (variable bound) nope = absurd nope
    rises (application number head operands) (there, late) = (omega (arith, late), omega arith)

    -- what is there has a lower number
    later : (e : Numbered) (number t : ℕ) (es : Operands) → IsMadeBefore s.next e → s.next ≤ number → e ≡ an_application number t es → ⊥
    later (a_variable x) number t es before late same = var-app x number t es same
    later (an_application m u fs) number t es before late same = let is : m ≡ number = cc in omega (arith, is, before, late)

    other : (f : MadeOf) → IsNewIn s f → (i : ℕ) → IsIn s i → expr_of s i ≡ expr_with s f → ⊥
    other (variable bound) nope i in_i same = absurd nope
    other (application number head operands) (there, late) i in_i same = later (expr_of s i) number head (exprs_of s operands) (kept.before i in_i) late same

-- ---- no nodes

pub keeps-nothing : (mode : DepsMode) (os : List Id) (nodes : List Node) → nodes ≡ [] → Keeps mode 0 os nodes
keeps-nothing mode os nodes none = (
  kept-empty (numbering_of mode (all_made os nodes)) (all_made os nodes) (ap (λ (ms : List Made). (numbering_of mode ms).entries) says) (ap (λ (ms : List Made). (numbering_of mode ms).context) says) says,
  λ i n at. absurd (none-some _ (sym (ap (λ (ns : List Node). slice_get ns i) none) ∙ at)),
)
  where
    says : all_made os nodes ≡ []
    says = ap (all_made os) none

-- ---- the calls that add

-- a node that says m is added, and operands
pushed-view : (mode : DepsMode) (os os' more : List Id) (nodes nodes' : List Node) (n : Node) (m : Made) (v : Numbering) → AllLie os nodes → numbering_of mode (all_made os nodes) ≡ v
    → os' ≡ os ++ more → nodes' ≡ nodes ++ n ∷ [] → made_of (os ++ more) n ≡ m → numbering_of mode (all_made os' nodes') ≡ entered v m
pushed-view mode os os' more nodes nodes' n m v lie view os-are is says =
    ap (λ (js : List Id). numbering_of mode (all_made js nodes')) os-are ∙ ap (λ (ns : List Node). numbering_of mode (all_made (os ++ more) ns)) is
    ∙ ap (numbering_of mode) (all-with os more nodes n m lie says) ∙ entered-all-push (no_expressions mode) (all_made os nodes) m ∙ ap (λ s. entered s m) view

pushed-keeps : (mode : DepsMode) (count count' : ℕ) (os os' more : List Id) (nodes nodes' : List Node) (n : Node) (m : Made) → Keeps mode count os nodes
    → os' ≡ os ++ more → nodes' ≡ nodes ++ n ∷ [] → made_of (os ++ more) n ≡ m → Lies (os ++ more) n.form
    → IsKept (entered (numbering_of mode (all_made os nodes)) m) count' (all_made os nodes ++ m ∷ []) → Keeps mode count' os' nodes'
pushed-keeps mode count count' os os' more nodes nodes' n m (kept, lie) os-are is says lies new =
    subst (λ (js : List Id). Keeps mode count' js nodes') (sym os-are) (subst (λ (ns : List Node). Keeps mode count' (os ++ more) ns) (sym is) (
      subst (λ (ms : List Made). IsKept (numbering_of mode ms) count' ms) (sym (all-with os more nodes n m lie says))
          (subst (λ (s : Numbering). IsKept s count' (all_made os nodes ++ m ∷ [])) (sym (entered-all-push (no_expressions mode) (all_made os nodes) m)) new),
      all-lie-with (os ++ more) nodes n (all-lie-longer os more nodes lie) lies,
    ))

-- a variable: no operands are added
module _ (mode : DepsMode) (count : ℕ) (os : List Id) (nodes nodes' : List Node) (sort deps : ℕ) (bound : Bool) (v : Numbering) (keeps : Keeps mode count os nodes)
    (view : numbering_of mode (all_made os nodes) ≡ v) (is : nodes' ≡ nodes ++ record { vars = deps; deps = deps; sort = sort; form = Variable bound } ∷ []) where
  pub enter-view : numbering_of mode (all_made os nodes') ≡ entered v (record { sort = sort; vars = deps; deps = deps; form = variable bound })
  enter-view = pushed-view mode os os [] nodes nodes' (record { vars = deps; deps = deps; sort = sort; form = Variable bound }) (record { sort = sort; vars = deps; deps = deps; form = variable bound })
      v keeps.1 view (sym (append-nil os)) is refl

  pub enter-kept : (m : ℕ) → IsVariableWord (length (bound_vars v.context)) deps bound → m ≡ bool_byte bound → Keeps mode (count + m) os nodes'
  enter-kept m word m-is =
      pushed-keeps mode count (count + m) os os [] nodes nodes' (record { vars = deps; deps = deps; sort = sort; form = Variable bound }) (record { sort = sort; vars = deps; deps = deps; form = variable bound })
      keeps (sym (append-nil os)) is refl tt
      (variable-kept (numbering_of mode (all_made os nodes)) count (all_made os nodes) sort deps bound keeps.0
      (subst (λ (s : Numbering). IsVariableWord (length (bound_vars s.context)) deps bound) (sym view) word) (count + m) (ap (λ k. count + k) (m-is ∙ byte-is bound)))

  pub enter-over : IsVariableWord (length (bound_vars v.context)) deps bound → (sigs : List Signature) → IsOver sigs v → IsOver sigs (numbering_of mode (all_made os nodes'))
  enter-over word sigs over =
      subst (IsOver sigs) (sym enter-view) (over-entered v sort deps bound (subst (λ (s : Numbering). DepsInside s.context) view keeps.0.inside) word sigs over)

-- a term: its operands are added
module _ (mode : DepsMode) (count : ℕ) (os os' is : List Id) (nodes nodes' : List Node) (sort vars deps : ℕ) (a : Term) (v : Numbering) (keeps : Keeps mode count os nodes)
    (view : numbering_of mode (all_made os nodes) ≡ v) (os-are : os' ≡ os ++ is) (nodes-are : nodes' ≡ nodes ++ record { vars = vars; deps = deps; sort = sort; form = Application a } ∷ [])
    (from-is : a.from ≡ length os) (many-is : a.many ≡ length is) where
  pub add-view : numbering_of mode (all_made os' nodes') ≡ entered v (record { sort = sort; vars = vars; deps = deps; form = application a.number a.head is })
  add-view = pushed-view mode os os' is nodes nodes' _ _ v keeps.1 view os-are nodes-are (term-says os is sort vars deps a from-is many-is)

  pub add-kept : IsNewIn v (application a.number a.head is) → Keeps mode count os' nodes'
  add-kept new =
      pushed-keeps mode count count os os' is nodes nodes' _ _ keeps os-are nodes-are (term-says os is sort vars deps a from-is many-is) (omega (arith, length-append os is))
      (application-kept (numbering_of mode (all_made os nodes)) count (all_made os nodes) (record { sort = sort; vars = vars; deps = deps; form = application a.number a.head is }) keeps.0
      (subst (λ (s : Numbering). IsNewIn s (application a.number a.head is)) (sym view) new))

-- operands are added, and no node
module _ (mode : DepsMode) (count : ℕ) (os os' more : List Id) (nodes nodes' : List Node) (keeps : Keeps mode count os nodes) (os-are : os' ≡ os ++ more) (same : nodes' ≡ nodes) where
  stays : all_made os' nodes' ≡ all_made os nodes
  stays = ap (all_made os') same ∙ ap (λ (js : List Id). all_made js nodes) os-are ∙ all-stay os more nodes keeps.1

  pub more-view : (v : Numbering) → numbering_of mode (all_made os nodes) ≡ v → numbering_of mode (all_made os' nodes') ≡ v
  more-view v view = ap (numbering_of mode) stays ∙ view

  pub more-kept : Keeps mode count os' nodes'
  more-kept = (
    subst (λ (ms : List Made). IsKept (numbering_of mode ms) count ms) (sym stays) keeps.0,
    subst (λ (js : List Id). AllLie js nodes') (sym os-are) (subst (AllLie (os ++ more)) (sym same) (all-lie-longer os more nodes keeps.1)),
  )

-- The chains of terms, with one node more.
use Rattle.std.proofs.Common.{ℕ, zero, suc, ◌≡◌, ◌<◌, ◌≤◌, ◌+◌, ◌⊎◌, Bool, true, false, cond, List, [], ◌∷◌, ◌++◌, length, slice_get, Option, Some, None, nat_eq, refl, ap, sym, ◌∙◌, subst, inl, inr, arith, append-nil}
use Rattle.std.proofs.lemmas.Bool.Decides.{Decides-eqb, eqb_tells}
use Rattle.std.proofs.lemmas.List.{length-append}
use Rattle.std.proofs.lemmas.Option.{slice_get_within, none-some}
use Rattle.mz_base.proofs.Offered.{slice_get-last, length-push}
use Rattle.mz_logic_theory.proofs.Offered.{one_at, extends_append, split_at}
use Rattle.mz_store.specs.Nodes.{Made, MadeOf, variable, operands_at, form_of, made_of, all_made, Lies, AllLie}
use Rattle.mz_store.specs.Chains.{IsLast, HasHash, earlier_of, Links}
use Rattle.mz_store.specs.Kept.{IsChained, named}
use Rattle.mz_store.specs.declared.item.Id.{Id}
use Rattle.mz_store.specs.declared.node.Node.{Node}
use Rattle.mz_store.specs.declared.node.Application.{Application as Term}
use Rattle.mz_store.specs.declared.node.Form.{Form}
use Rattle.mz_store.specs.declared.node.Form.TheVariants.{Variable, Application}
use Rattle.mz_store.proofs.Finding.{earlier-none, earlier-some}
use Rattle.mz_store.proofs.Made.{operands-kept, all-pushed, all-kept, many-made, node-of}

pub only-last : {A : Type 0} (x y : A) (j : ℕ) → slice_get (x ∷ []) j ≡ Some y → (j ≡ 0) × (x ≡ y)
only-last x y zero at = (refl, one_at refl at)
only-last x y (suc j) at = absurd (none-some _ at)

-- ---- the last one of a hash

within-first : (ms more : List Made) (j : ℕ) (m : Made) → j < length ms → slice_get (ms ++ more) j ≡ Some m → slice_get ms j ≡ Some m
within-first ms more j m less at = elim (split_at ms more j m at) [ inl here ↦ here | inr later ↦ absurd (let place : j ≡ length ms + later.0 = later.1 in omega arith) ]

pub last-below : (hashed : ℕ → List Id → ℕ) (ms more : List Made) (k hash : ℕ) (o : Option Id) → k ≤ length ms → IsLast hashed ms k hash o → IsLast hashed (ms ++ more) k hash o
last-below hashed ms more k hash None below none = λ j m less at has. none j m less (within-first ms more j m (omega arith) at) has
last-below hashed ms more k hash (Some e) below (less, (w, at, has), most) = (
  less,
  (w, extends_append ms more e.0 w at, has),
  λ j m less' at' has'. most j m less' (within-first ms more j m (omega arith) at') has',
)

last-skip : (hashed : ℕ → List Id → ℕ) (ms : List Made) (m : Made) (k hash : ℕ) (o : Option Id) → k ≡ length ms → IsLast hashed ms k hash o → (HasHash hashed m.form hash → ⊥) → IsLast hashed (ms ++ m ∷ []) (suc k) hash o
last-skip hashed ms m k hash None many none out = λ j x less at has. elim (split_at ms (m ∷ []) j x at) [
  | inl here ↦ none j x (let within : j < length ms = slice_get_within ms j x here in omega arith) here has
  | inr later ↦ out (subst (λ (y : Made). HasHash hashed y.form hash) (sym (only-last m x later.0 later.2).1) has)
]
last-skip hashed ms m k hash (Some e) many (less, (w, at, has), most) out = (
  omega arith,
  (w, extends_append ms (m ∷ []) e.0 w at, has),
  λ j x less' at' has'. elim (split_at ms (m ∷ []) j x at') [
    | inl here ↦ most j x (let within : j < length ms = slice_get_within ms j x here in omega arith) here has'
    | inr later ↦ absurd (out (subst (λ (y : Made). HasHash hashed y.form hash) (sym (only-last m x later.0 later.2).1) has'))
  ],
)

last-here : (hashed : ℕ → List Id → ℕ) (ms : List Made) (m : Made) (k hash : ℕ) (e : Id) → k ≡ length ms → e.0 ≡ k → HasHash hashed m.form hash → IsLast hashed (ms ++ m ∷ []) (suc k) hash (Some e)
last-here hashed ms m k hash e many place has = (
  omega arith,
  (m, subst (λ i. slice_get (ms ++ m ∷ []) i ≡ Some m) (sym (place ∙ many)) (slice_get-last ms m), has),
  λ j x less at has'. omega arith,
)

-- ---- links

lies-by : (hashed : ℕ → List Id → ℕ) (os : List Id) (ms : List Made) (i : ℕ) (f : Form) → Links hashed os ms i f → Lies os f
lies-by hashed os ms i (Variable bound) _ = tt
lies-by hashed os ms i (Application a) (order, within, _) = (order, within)

pub all-lie : (hashed : ℕ → List Id → ℕ) (os : List Id) (nodes : List Node) (newest : ℕ → Option Id) → IsChained hashed os nodes newest → AllLie os nodes
all-lie hashed os nodes newest chained i n at = lies-by hashed os (all_made os nodes) i n.form (chained.linked i n at)

-- what a node names says the one before it
earlier-named : (hashed : ℕ → List Id → ℕ) (ms : List Made) (i hash : ℕ) (a : Term) (o : Option Id) → IsLast hashed ms i hash o → a.earlier ≡ named i o → earlier_of i a ≡ o
earlier-named hashed ms i hash a None none is = earlier-none i a ((Decides-eqb a.earlier.0 i).1 (ap (λ (e : Id). e.0) is))
earlier-named hashed ms i hash a (Some e) (less, _, _) is = elim (eqb_tells a.earlier.0 i) [
  | inl same ↦ absurd (let place : a.earlier.0 ≡ e.0 = ap (λ (x : Id). x.0) is in let at : a.earlier.0 ≡ i = same.1 in omega arith)
  | inr other ↦ earlier-some i a other.0 ∙ ap Some is
]

links-kept : (hashed : ℕ → List Id → ℕ) (os more : List Id) (ms mores : List Made) (i : ℕ) (f : Form) → i ≤ length ms → Links hashed os ms i f → Links hashed (os ++ more) (ms ++ mores) i f
links-kept hashed os more ms mores i (Variable bound) below _ = tt
links-kept hashed os more ms mores i (Application a) below (order, within, last) = (
  order,
  omega (arith, length-append os more),
  subst (λ (is : List Id). IsLast hashed (ms ++ mores) i (hashed a.head is) (earlier_of i a)) (sym (operands-kept os more a.from a.to order within))
      (last-below hashed ms mores i (hashed a.head (operands_at os a.from a.to)) (earlier_of i a) below last),
)

chained-grown : (hashed : ℕ → List Id → ℕ) (os more : List Id) (nodes : List Node) (newest newest' : ℕ → Option Id) (n : Node) (m : Made) → IsChained hashed os nodes newest → made_of (os ++ more) n ≡ m
    → Links hashed (os ++ more) (all_made os nodes ++ m ∷ []) (length nodes) n.form
    → ((hash : ℕ) → IsLast hashed (all_made os nodes ++ m ∷ []) (suc (length nodes)) hash (newest' hash))
    → IsChained hashed (os ++ more) (nodes ++ n ∷ []) newest'
chained-grown hashed os more nodes newest newest' n m chained says links last = record {
  linked = λ i k at. subst (λ (ms : List Made). Links hashed (os ++ more) ms i k.form) (sym pushed) (go i k (split_at nodes (n ∷ []) i k at));
  last = λ hash. subst (λ j. IsLast hashed (all_made (os ++ more) (nodes ++ n ∷ [])) j hash (newest' hash)) (sym (length-push nodes n))
      (subst (λ (ms : List Made). IsLast hashed ms (suc (length nodes)) hash (newest' hash)) (sym pushed) (last hash));
}
  where
    pushed : all_made (os ++ more) (nodes ++ n ∷ []) ≡ all_made os nodes ++ m ∷ []
    pushed = all-pushed os more nodes n m (all-lie hashed os nodes newest chained) says

    go : (i : ℕ) (k : Node) → (slice_get nodes i ≡ Some k) ⊎ ((j : ℕ) × (i ≡ length nodes + j) × (slice_get (n ∷ []) j ≡ Some k))
        → Links hashed (os ++ more) (all_made os nodes ++ m ∷ []) i k.form
    go i k (inl here) = links-kept hashed os more (all_made os nodes) (m ∷ []) i k.form
        (let within : i < length nodes = slice_get_within nodes i k here in omega (arith, many-made os nodes)) (chained.linked i k here)
    go i k (inr (j, place, later)) =
        let last-is = only-last n k j later in
        let at-end : length nodes ≡ i = (let none : j ≡ 0 = last-is.0 in omega arith) in
        subst (λ (x : ℕ). Links hashed (os ++ more) (all_made os nodes ++ m ∷ []) x k.form) at-end
        (subst (λ (x : Node). Links hashed (os ++ more) (all_made os nodes ++ m ∷ []) (length nodes) x.form) last-is.1 links)

-- ---- what the store adds

pub chained-variable : (hashed : ℕ → List Id → ℕ) (os : List Id) (nodes : List Node) (newest : ℕ → Option Id) (sort deps : ℕ) (bound : Bool) → IsChained hashed os nodes newest
    → IsChained hashed os (nodes ++ record { sort = sort; deps = deps; form = Variable bound } ∷ []) newest
chained-variable hashed os nodes newest sort deps bound chained =
    subst (λ (is : List Id). IsChained hashed is (nodes ++ n ∷ []) newest) (append-nil os)
    (chained-grown hashed os [] nodes newest newest n m chained refl tt
    (λ hash. last-skip hashed (all_made os nodes) m (length nodes) hash (newest hash) (sym (many-made os nodes)) (chained.last hash) (λ nope. nope)))
  where
    n : Node
    n = record { sort = sort; deps = deps; form = Variable bound }

    m : Made
    m = record { sort = sort; deps = deps; form = variable bound }

-- the table has the id for the hash, and for others what it had
abbrev pub Puts : (ℕ → Option Id) → (ℕ → Option Id) → ℕ → Id → Type 0
Puts newest newest' hash id = (q : ℕ) → newest' q ≡ cond (nat_eq hash q) (Some id) (newest q)

pub chained-term : (hashed : ℕ → List Id → ℕ) (os more : List Id) (nodes : List Node) (newest newest' : ℕ → Option Id) (sort deps : ℕ) (a : Term) (hash : ℕ) (id : Id) → IsChained hashed os nodes newest
    → Lies (os ++ more) (Application a) → hash ≡ hashed a.head (operands_at (os ++ more) a.from a.to) → a.earlier ≡ named (length nodes) (newest hash) → id.0 ≡ length nodes → Puts newest newest' hash id
    → IsChained hashed (os ++ more) (nodes ++ record { sort = sort; deps = deps; form = Application a } ∷ []) newest'
chained-term hashed os more nodes newest newest' sort deps a hash id chained lies hash-is earlier-is place puts =
    chained-grown hashed os more nodes newest newest' n m chained refl links last
  where
    n : Node
    n = record { sort = sort; deps = deps; form = Application a }

    m : Made
    m = made_of (os ++ more) n

    links : Links hashed (os ++ more) (all_made os nodes ++ m ∷ []) (length nodes) (Application a)
    links = (
      lies.0,
      lies.1,
      subst (λ (o : Option Id). IsLast hashed (all_made os nodes ++ m ∷ []) (length nodes) (hashed a.head (operands_at (os ++ more) a.from a.to)) o) (sym (earlier-named hashed (all_made os nodes) (length nodes) hash a (newest hash) (chained.last hash) earlier-is))
          (subst (λ q. IsLast hashed (all_made os nodes ++ m ∷ []) (length nodes) q (newest hash)) hash-is
          (last-below hashed (all_made os nodes) (m ∷ []) (length nodes) hash (newest hash) (omega (arith, many-made os nodes)) (chained.last hash))),
    )

    last : (q : ℕ) → IsLast hashed (all_made os nodes ++ m ∷ []) (suc (length nodes)) q (newest' q)
    last q = go (nat_eq hash q) refl
      where
        go : (b : Bool) → nat_eq hash q ≡ b → IsLast hashed (all_made os nodes ++ m ∷ []) (suc (length nodes)) q (newest' q)
        go true same =
            subst (IsLast hashed (all_made os nodes ++ m ∷ []) (suc (length nodes)) q) (sym (puts q ∙ ap (λ b. cond b (Some id) (newest q)) same))
            (last-here hashed (all_made os nodes) m (length nodes) q id (sym (many-made os nodes)) place (sym hash-is ∙ (Decides-eqb hash q).0 same))
        go false other =
            subst (IsLast hashed (all_made os nodes ++ m ∷ []) (suc (length nodes)) q) (sym (puts q ∙ ap (λ b. cond b (Some id) (newest q)) other))
            (last-skip hashed (all_made os nodes) m (length nodes) q (newest q) (sym (many-made os nodes)) (chained.last q)
            (λ has. let same : nat_eq hash q ≡ true = (Decides-eqb hash q).1 (hash-is ∙ has) in apart (sym same ∙ other)))
          where
            apart : true ≡ false → ⊥
            apart nope = cc

-- more operands and no node change nothing
pub chained-more : (hashed : ℕ → List Id → ℕ) (os more : List Id) (nodes : List Node) (newest : ℕ → Option Id) → IsChained hashed os nodes newest → IsChained hashed (os ++ more) nodes newest
chained-more hashed os more nodes newest chained = record {
  linked = λ i n at. subst (λ (ms : List Made). Links hashed (os ++ more) ms i n.form) (sym same)
      (wider i n.form (let within : i < length nodes = slice_get_within nodes i n at in omega (arith, many-made os nodes)) (chained.linked i n at));
  last = λ hash. subst (λ (ms : List Made). IsLast hashed ms (length nodes) hash (newest hash)) (sym same) (chained.last hash);
}
  where
    same : all_made (os ++ more) nodes ≡ all_made os nodes
    same = all-kept os more nodes (all-lie hashed os nodes newest chained)

    wider : (i : ℕ) (f : Form) → i ≤ length (all_made os nodes) → Links hashed os (all_made os nodes) i f → Links hashed (os ++ more) (all_made os nodes) i f
    wider i f below links = subst (λ (ms : List Made). Links hashed (os ++ more) ms i f) (append-nil (all_made os nodes)) (links-kept hashed os more (all_made os nodes) [] i f below links)

-- variables need no table
abbrev pub AreVariables : List Node → Type 0
AreVariables ns = (i : ℕ) (n : Node) → slice_get ns i ≡ Some n → (b : Bool) × (n.form ≡ Variable b)

pub made-variable : (os : List Id) (n : Node) (b : Bool) → n.form ≡ Variable b → made_of os n ≡ record { sort = n.sort; deps = n.deps; form = variable b }
made-variable os n b is = ap (λ (f : Form). record { sort = n.sort; deps = n.deps; form = form_of os f }) is

pub chained-variables : (hashed : ℕ → List Id → ℕ) (os : List Id) (ns : List Node) (newest : ℕ → Option Id) → AreVariables ns → ((hash : ℕ) → newest hash ≡ None) → IsChained hashed os ns newest
chained-variables hashed os ns newest vars none = record {
  linked = λ i n at. (let (b, is) = vars i n at in subst (Links hashed os (all_made os ns) i) (sym is) tt);
  last = λ hash. subst (IsLast hashed (all_made os ns) (length ns) hash) (sym (none hash)) (λ j m less at has. no-hash hash j m at has);
}
  where
    no-hash : (hash j : ℕ) (m : Made) → slice_get (all_made os ns) j ≡ Some m → HasHash hashed m.form hash → ⊥
    no-hash hash j m at has = (let (n, here, is) = node-of os ns j m at in let (b, form) = vars j n here in
        subst (λ (f : MadeOf). HasHash hashed f hash) (ap (λ (x : Made). x.form) (sym is ∙ made-variable os n b form)) has)

pub none-variables : (ns : List Node) → ns ≡ [] → AreVariables ns
none-variables ns none i n at = absurd (none-some _ (sym (ap (λ (ks : List Node). slice_get ks i) none) ∙ at))

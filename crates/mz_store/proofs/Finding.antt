-- A term is looked for along the chain of its hash.
use Rattle.std.proofs.Common.{ℕ, ◌≡◌, ◌<◌, ◌≤◌, Bool, true, false, IsTrue, List, length, get_or, slice_get, Option, Some, None, ap, sym, ◌∙◌, subst, arith, ◌==◌, if◌then◌else◌}
use Rattle.std.proofs.lemmas.Option.{slice_get_within, slice_get-get_or}
use Rattle.mz_logic_theory.proofs.Offered.{one_at}
use Rattle.mz_store.specs.Nodes.{Made, MadeOf, variable, application, operands_at, form_of, made_of, all_made}
use Rattle.mz_store.specs.Chains.{IsOf, IsNode, IsLast, HasHash, earlier_of, Links, IsLinked, IsChain}
use Rattle.mz_store.specs.declared.item.Id.{Id}
use Rattle.mz_store.specs.declared.node.Node.{Node}
use Rattle.mz_store.specs.declared.node.Application.{Application as Term}
use Rattle.mz_store.specs.declared.node.Form.{Form}
use Rattle.mz_store.specs.declared.node.Form.TheVariants.{Variable, Application}
use Rattle.mz_store.proofs.Made.{made-at, many-made}

-- the first of a chain names itself, and each other one the one before it
pub earlier-none : (i : ℕ) (a : Term) → (a.earlier.0 == i) ≡ true → earlier_of i a ≡ None
earlier-none i a same = ap (λ b. if b then None else Some a.earlier) same

pub earlier-some : (i : ℕ) (a : Term) → (a.earlier.0 == i) ≡ false → earlier_of i a ≡ Some a.earlier
earlier-some i a other = ap (λ b. if b then None else Some a.earlier) other

-- what is looked for stands before the k-th of the linked nodes, and the chain goes on with the last one before it
abbrev pub IsSought : List Id → List Node → ℕ → List Id → Option Id → Type 0
IsSought os nodes h is next = (hashed : ℕ → List Id → ℕ) × IsLinked hashed os nodes × (k : ℕ) × (k ≤ length nodes) × IsLast hashed (all_made os nodes) k (hashed h is) next
    × ((j : ℕ) → IsNode (all_made os nodes) h is j → j < k)

of-hash : (hashed : ℕ → List Id → ℕ) (f : MadeOf) (h : ℕ) (is : List Id) → IsOf f h is → HasHash hashed f (hashed h is)
of-hash hashed (variable bound) h is nope = nope
of-hash hashed (application g os) h is (head-is, operands-are) = ap (λ t. hashed t os) head-is ∙ ap (hashed h) operands-are

pub sought-first : (os : List Id) (nodes : List Node) (h : ℕ) (is : List Id) (next : Option Id) → IsChain os nodes h is next → IsSought os nodes h is next
sought-first os nodes h is next (hashed, linked, last) = (hashed, linked, length nodes, omega arith, last, λ j node. (let within : j < length (all_made os nodes) = slice_get_within (all_made os nodes) j node.0 node.1 in omega (arith, many-made os nodes)))

pub sought-none : (os : List Id) (nodes : List Node) (h : ℕ) (is : List Id) → IsSought os nodes h is None → (j : ℕ) → IsNode (all_made os nodes) h is j → ⊥
sought-none os nodes h is (hashed, _, k, _, none, before) j (m, at, of) = none j m (before j (m, at, of)) at (of-hash hashed m.form h is of)

-- the next one of the chain is a node
pub next-within : (os : List Id) (nodes : List Node) (h : ℕ) (is : List Id) (e : Id) → IsSought os nodes h is (Some e) → e.0 < length nodes
next-within os nodes h is e (_, _, k, small, (less, _, _), _) = omega arith

-- and a term with the hash
pub next-hash : (os : List Id) (nodes : List Node) (h : ℕ) (is : List Id) (e : Id) (sought : IsSought os nodes h is (Some e)) (n : Node) → slice_get nodes e.0 ≡ Some n
    → HasHash sought.0 (made_of os n).form (sought.0 h is)
next-hash os nodes h is e (hashed, _, k, _, (_, (m, at, has), _), _) n here =
    subst (λ (x : Made). HasHash hashed x.form (hashed h is)) (one_at at (made-at os nodes e.0 n here)) has

-- its operands lie within the list
pub next-order : (hashed : ℕ → List Id → ℕ) (os : List Id) (nodes : List Node) (e : Id) (d : Node) (a : Term) → IsLinked hashed os nodes → e.0 < length nodes → (get_or nodes e.0 d).form ≡ Application a
    → (a.from ≤ a.to) × (a.to ≤ length os)
next-order hashed os nodes e d a linked inside form-is = (
  (subst (Links hashed os (all_made os nodes) e.0) form-is (linked e.0 (get_or nodes e.0 d) (slice_get-get_or nodes e.0 d inside))).0,
  (subst (Links hashed os (all_made os nodes) e.0) form-is (linked e.0 (get_or nodes e.0 d) (slice_get-get_or nodes e.0 d inside))).1,
)

-- it is what is looked for
pub next-found : (os : List Id) (nodes : List Node) (h : ℕ) (is : List Id) (e : Id) (d : Node) (a : Term) → e.0 < length nodes → (get_or nodes e.0 d).form ≡ Application a
    → a.head ≡ h → operands_at os a.from a.to ≡ is → IsNode (all_made os nodes) h is e.0
next-found os nodes h is e d a inside form-is head-is operands-are = (
  made_of os (get_or nodes e.0 d),
  made-at os nodes e.0 (get_or nodes e.0 d) (slice_get-get_or nodes e.0 d inside),
  subst (λ (f : Form). IsOf (form_of os f) h is) (sym form-is) (head-is, operands-are),
)

-- or it isn't, and the chain goes on before it
pub next-other : (os : List Id) (nodes : List Node) (h : ℕ) (is : List Id) (e : Id) (d : Node) (a : Term) → IsSought os nodes h is (Some e) → (get_or nodes e.0 d).form ≡ Application a
    → ((a.head ≡ h) × (operands_at os a.from a.to ≡ is) → ⊥) → IsSought os nodes h is (earlier_of e.0 a)
next-other os nodes h is e d a sought form-is other = (sought.0, sought.1, e.0, omega (arith, next-within os nodes h is e sought), last, before)
  where
    n : Node
    n = get_or nodes e.0 d

    here : slice_get nodes e.0 ≡ Some n
    here = slice_get-get_or nodes e.0 d (next-within os nodes h is e sought)

    says : slice_get (all_made os nodes) e.0 ≡ Some (record { sort = n.sort; deps = n.deps; form = application a.head (operands_at os a.from a.to) })
    says = subst (λ (f : Form). slice_get (all_made os nodes) e.0 ≡ Some (made_of os (record { sort = n.sort; deps = n.deps; form = f }))) form-is (made-at os nodes e.0 n here)

    hash-is : sought.0 a.head (operands_at os a.from a.to) ≡ sought.0 h is
    hash-is = subst (λ (f : Form). HasHash sought.0 (made_of os (record { sort = n.sort; deps = n.deps; form = f })).form (sought.0 h is)) form-is (next-hash os nodes h is e sought n here)

    last : IsLast sought.0 (all_made os nodes) e.0 (sought.0 h is) (earlier_of e.0 a)
    last = subst (λ p. IsLast sought.0 (all_made os nodes) e.0 p (earlier_of e.0 a)) hash-is
        (subst (Links sought.0 os (all_made os nodes) e.0) form-is (sought.1 e.0 n here)).2

    before : (j : ℕ) → IsNode (all_made os nodes) h is j → j < e.0
    before j (m, at, of) = (
        let most : j ≤ e.0 = up sought in
        let apart : (j ≡ e.0) → ⊥ = (λ same. other (is-it (subst (λ i. slice_get (all_made os nodes) i ≡ Some m) same at))) in
        less-than j e.0 most apart
        )
      where
        up : IsSought os nodes h is (Some e) → j ≤ e.0
        up (by, _, k, _, (_, _, most), below) = most j m (below j (m, at, of)) at (of-hash by m.form h is of)

        is-it : slice_get (all_made os nodes) e.0 ≡ Some m → (a.head ≡ h) × (operands_at os a.from a.to ≡ is)
        is-it at-e = subst (λ (x : Made). IsOf x.form h is) (one_at at-e says) of

        less-than : (x y : ℕ) → x ≤ y → (x ≡ y → ⊥) → x < y
        less-than x y most apart = omega (arith, apart)

-- and it stands before it
pub earlier-less : (hashed : ℕ → List Id → ℕ) (os : List Id) (nodes : List Node) (e : Id) (d : Node) (a : Term) → IsLinked hashed os nodes → e.0 < length nodes → (get_or nodes e.0 d).form ≡ Application a
    → earlier_of e.0 a ≡ Some a.earlier → a.earlier.0 < e.0
earlier-less hashed os nodes e d a linked inside form-is earlier-is =
    below (earlier_of e.0 a) earlier-is (subst (Links hashed os (all_made os nodes) e.0) form-is (linked e.0 (get_or nodes e.0 d) (slice_get-get_or nodes e.0 d inside))).2
  where
    below : (o : Option Id) → o ≡ Some a.earlier → IsLast hashed (all_made os nodes) e.0 (hashed a.head (operands_at os a.from a.to)) o → a.earlier.0 < e.0
    below None is _ = absurd cc
    below (Some x) is (less, _, _) = (let same : x ≡ a.earlier = cc in subst (λ (y : Id). y.0 < e.0) same less)

pub not-both : (b : Bool) → IsTrue b → b ≡ false → ⊥
not-both true yes-is no-is = cc
not-both false yes-is no-is = cc

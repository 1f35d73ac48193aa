-- The table of a store while terms are put in, and when they are forgotten.
use Rattle.std.proofs.Common.{ℕ, zero, suc, ◌≡◌, ◌<◌, ◌≤◌, ◌+◌, Bool, true, false, cond, List, [], ◌∷◌, ◌++◌, length, take, get_or, slice_set, Option, Some, None, unwrap_or, nat_eq, replicate, refl, ap, ap₂, sym, ◌∙◌, subst, inl, inr, arith, append-nil, if◌then◌else◌}
use Rattle.std.proofs.lemmas.Bool.Decides.{Decides-eqb, eqb_tells}
use Rattle.std.proofs.lemmas.List.{get_or-set_same, get_or-set_other, length-set, take_more_set}
use Rattle.std.proofs.lemmas.List.{length-take-le}
use Rattle.std.proofs.lemmas.Option.{slice_get_read, slice_get_within, get_or_from_slice_get}
use Rattle.std.proofs.Math.Seq.{map-set_same, take-suc}
use Rattle.mz_store.specs.Sharing.{Sharing}
use Rattle.mz_store.specs.Nodes.{operands_at, form_of, made_of, all_made, sharing_of, Lies, AllLie}
use Rattle.mz_store.specs.Kept.{IsKept, IsChained, named}
use Rattle.mz_store.specs.Tables.{bucket_of, bucket_at, said_in, newest_of, AreEarlier, KnowsNone, IsPut, IsTable}
use Rattle.mz_store.specs.declared.item.DepsMode.{DepsMode}
use Rattle.mz_store.specs.declared.item.Id.{Id}
use Rattle.mz_store.specs.declared.node.Node.{Node}
use Rattle.mz_store.specs.declared.node.Application.{Application as Term}
use Rattle.mz_store.specs.declared.node.Form.{Form}
use Rattle.mz_store.specs.declared.node.Form.TheVariants.{Variable, Application}
use Rattle.mz_store.specs.declared.table.Bucket.{Bucket}
use Rattle.mz_store.specs.declared.table.Table.{Table}
use Rattle.mz_store.proofs.Chained.{AreVariables, Puts, all-lie, chained-term, chained-variable, chained-variables, chained-more}
use Rattle.mz_store.proofs.Growing.{kept-alike}

pub table-lies : (t : Table) (os : List Id) (nodes : List Node) → IsTable t os nodes → AllLie os nodes
table-lies t os nodes (_, chained) = all-lie (bucket_of t.factor (length t.buckets.items)) os nodes (newest_of t) chained

-- ---- one bucket

pub said-none : (round : ℕ) (b : Bucket) → b.round < round → said_in round b ≡ None
said-none round b earlier = elim (eqb_tells b.round round) [
  | inl same ↦ absurd (omega (arith, same.1))
  | inr other ↦ ap (λ v. if v then Some b.last else None) other.0
]

pub said-now : (round : ℕ) (id : Id) → said_in round (record { round = round; last = id }) ≡ Some id
said-now round id = ap (λ v. if v then Some id else None) ((Decides-eqb round round).1 refl)

-- ---- all are forgotten

pub forgets : (t : Table) (factor' : ℕ) → AreEarlier t → KnowsNone (record { factor = factor'; round = t.round + 1; buckets = t.buckets })
forgets t factor' (some, earlier) = (
  (omega arith, λ i. (let e : (bucket_at t.buckets.items i).round ≤ t.round = earlier i in omega arith)),
  λ i. said-none (t.round + 1) (bucket_at t.buckets.items i) (let e : (bucket_at t.buckets.items i).round ≤ t.round = earlier i in omega arith),
)

-- new buckets
still : (many i : ℕ) → bucket_at (replicate many (record { round = 0; last = record { 0 = 0 } })) i ≡ record { round = 0; last = record { 0 = 0 } }
still zero i = refl
still (suc many) zero = refl
still (suc many) (suc i) = still many i

pub knows-none : (t : Table) (many : ℕ) → 0 < t.round → t.buckets.items ≡ replicate many (record { round = 0; last = record { 0 = 0 } }) → KnowsNone t
knows-none t many some are = (
  (some, λ i. subst (λ (b : Bucket). b.round ≤ t.round) (sym (at i)) (omega arith)),
  λ i. ap (said_in t.round) (at i) ∙ said-none t.round (record { round = 0; last = record { 0 = 0 } }) some,
)
  where
    at : (i : ℕ) → bucket_at t.buckets.items i ≡ record { round = 0; last = record { 0 = 0 } }
    at i = ap (λ (bs : List Bucket). bucket_at bs i) are ∙ still many i

-- variables alone are in no bucket
pub table-variables : (t : Table) (os : List Id) (nodes : List Node) → AreVariables nodes → KnowsNone t → IsTable t os nodes
table-variables t os nodes vars (earlier, none) = (earlier, chained-variables (bucket_of t.factor (length t.buckets.items)) os nodes (newest_of t) vars none)

-- ---- one is put in

put-says : (t t' : Table) (i : ℕ) (id : Id) → i < length t.buckets.items → IsPut t i id t' → Puts (newest_of t) (newest_of t') i id
put-says t t' i id within (_, round-is, buckets-are) q =
    ap₂ (λ r (bs : List Bucket). said_in r (bucket_at bs q)) round-is buckets-are ∙ by (nat_eq i q) refl
  where
    new : Bucket
    new = record { round = t.round; last = id }

    by : (b : Bool) → nat_eq i q ≡ b → said_in t.round (bucket_at (slice_set t.buckets.items i new) q) ≡ cond (nat_eq i q) (Some id) (newest_of t q)
    by true same =
        ap (said_in t.round) (ap (bucket_at (slice_set t.buckets.items i new)) (sym ((Decides-eqb i q).0 same)) ∙ get_or-set_same t.buckets.items i new _ within)
        ∙ said-now t.round id ∙ sym (ap (λ b. cond b (Some id) (newest_of t q)) same)
    by false other =
        ap (said_in t.round) (get_or-set_other t.buckets.items i q new _ (λ same. let is : nat_eq i q ≡ true = (Decides-eqb i q).1 (sym same) in differ (sym is ∙ other)))
        ∙ sym (ap (λ b. cond b (Some id) (newest_of t q)) other)
      where
        differ : true ≡ false → ⊥
        differ nope = cc

put-earlier : (t t' : Table) (i : ℕ) (id : Id) → i < length t.buckets.items → AreEarlier t → IsPut t i id t' → AreEarlier t'
put-earlier t t' i id within (some, earlier) (_, round-is, buckets-are) = (
  subst (λ r. 0 < r) (sym round-is) some,
  λ q. subst (λ r. (bucket_at t'.buckets.items q).round ≤ r) (sym round-is) (subst (λ (bs : List Bucket). (bucket_at bs q).round ≤ t.round) (sym buckets-are) (at q)),
)
  where
    new : Bucket
    new = record { round = t.round; last = id }

    at : (q : ℕ) → (bucket_at (slice_set t.buckets.items i new) q).round ≤ t.round
    at q = elim (eqb_tells q i) [
      | inl same ↦ (let e : bucket_at (slice_set t.buckets.items i new) q ≡ new = ap (bucket_at (slice_set t.buckets.items i new)) same.1 ∙ get_or-set_same t.buckets.items i new _ within in
          subst (λ (b : Bucket). b.round ≤ t.round) (sym e) (omega arith))
      | inr other ↦ subst (λ (b : Bucket). b.round ≤ t.round) (sym (get_or-set_other t.buckets.items i q new _ other.1)) (earlier q)
    ]

pub table-term : (t t' : Table) (os more : List Id) (nodes : List Node) (sort deps : ℕ) (a : Term) (i : ℕ) (id : Id) → IsTable t os nodes
    → Lies (os ++ more) (Application a) → i ≡ bucket_of t.factor (length t.buckets.items) a.head (operands_at (os ++ more) a.from a.to) → a.earlier ≡ named (length nodes) (newest_of t i) → id.0 ≡ length nodes
    → i < length t.buckets.items → IsPut t i id t' → IsTable t' (os ++ more) (nodes ++ record { sort = sort; deps = deps; form = Application a } ∷ [])
table-term t t' os more nodes sort deps a i id (earlier, chained) lies bucket-is earlier-is place within put = (
  put-earlier t t' i id within earlier put,
  subst (λ f. IsChained (bucket_of f (length t'.buckets.items)) (os ++ more) (nodes ++ n ∷ []) (newest_of t')) (sym put.0)
      (subst (λ m. IsChained (bucket_of t.factor m) (os ++ more) (nodes ++ n ∷ []) (newest_of t')) (sym (ap length put.2 ∙ length-set t.buckets.items i (record { round = t.round; last = id })))
      (chained-term (bucket_of t.factor (length t.buckets.items)) os more nodes (newest_of t) (newest_of t') sort deps a i id chained lies bucket-is earlier-is place (put-says t t' i id within put))),
)
  where
    n : Node
    n = record { sort = sort; deps = deps; form = Application a }

pub table-variable : (t : Table) (os : List Id) (nodes : List Node) (sort deps : ℕ) (bound : Bool) → IsTable t os nodes → IsTable t os (nodes ++ record { sort = sort; deps = deps; form = Variable bound } ∷ [])
table-variable t os nodes sort deps bound (earlier, chained) = (earlier, chained-variable (bucket_of t.factor (length t.buckets.items)) os nodes (newest_of t) sort deps bound chained)

pub table-more : (t : Table) (os more : List Id) (nodes : List Node) → IsTable t os nodes → IsTable t (os ++ more) nodes
table-more t os more nodes (earlier, chained) = (earlier, chained-more (bucket_of t.factor (length t.buckets.items)) os more nodes (newest_of t) chained)

-- ---- all are put in anew

module _ (t t' : Table) (os : List Id) (nodes : List Node) (i : ℕ) (n : Node) (inside : i < length nodes) (is : n ≡ get_or nodes i n) where
  -- a variable is in no bucket
  pub link-variable : (bound : Bool) → n.form ≡ Variable bound → IsTable t os (take i nodes) → IsTable t os (take (i + 1) nodes)
  link-variable bound form-is known =
      subst (IsTable t os) (ap (λ (k : Node). take i nodes ++ k ∷ []) (sym same ∙ is) ∙ sym (take-suc nodes i n inside) ∙ (let e : suc i ≡ i + 1 = omega arith in ap (λ j. take j nodes) e))
      (table-variable t os (take i nodes) n.sort n.deps bound known)
    where
      same : n ≡ record { sort = n.sort; deps = n.deps; form = Variable bound }
      same = ap (λ (f : Form). record { sort = n.sort; deps = n.deps; form = f }) form-is

  -- a term comes after the last one of its bucket
  module _ (a : Term) (form-is : n.form ≡ Application a) (lie : AllLie os nodes) (e : Id) where
    abbrev now : Node
    now = record { sort = n.sort; deps = n.deps; form = Application (record { head = a.head; from = a.from; to = a.to; earlier = e }) }

    pub link-lies : (a.from ≤ a.to) × (a.to ≤ length os)
    link-lies = subst (Lies os) form-is (lie i n (slice_get_read nodes (length nodes) i n refl inside is))

    pub link-lie : AllLie os (slice_set nodes i now)
    link-lie j k at = elim (eqb_tells j i) [
      | inl same ↦ (let here : get_or (slice_set nodes i now) j now ≡ now = ap (λ m. get_or (slice_set nodes i now) m now) same.1 ∙ get_or-set_same nodes i now now inside in
          subst (λ (x : Node). Lies os x.form) (sym here ∙ get_or_from_slice_get (slice_set nodes i now) j k now at) link-lies)
      | inr other ↦ lie j k (slice_get_read nodes (length nodes) j k refl (let within : j < length (slice_set nodes i now) = slice_get_within (slice_set nodes i now) j k at in omega (arith, length-set nodes i now))
          (sym (get_or_from_slice_get (slice_set nodes i now) j k k at) ∙ get_or-set_other nodes i j now k other.1))
    ]

    pub link-same : all_made os (slice_set nodes i now) ≡ all_made os nodes
    link-same = map-set_same (made_of os) nodes i now n
        (ap (λ (f : Form). record { sort = n.sort; deps = n.deps; form = form_of os f }) (sym form-is) ∙ ap (made_of os) is)

    pub link-kept : (mode : DepsMode) (count : ℕ) → IsKept (sharing_of mode (all_made os nodes)) count os nodes → IsKept (sharing_of mode (all_made os (slice_set nodes i now))) count os (slice_set nodes i now)
    link-kept mode count kept =
        subst (λ (s : Sharing). IsKept s count os (slice_set nodes i now)) (sym (ap (sharing_of mode) link-same))
        (kept-alike (sharing_of mode (all_made os nodes)) count os os nodes (slice_set nodes i now) link-same kept)

    pub link-term : (bucket : ℕ) (id : Id) → id.0 ≡ i → bucket ≡ bucket_of t.factor (length t.buckets.items) a.head (operands_at os a.from a.to) → e ≡ unwrap_or (newest_of t bucket) id
        → bucket < length t.buckets.items → IsPut t bucket id t' → IsTable t os (take i nodes) → IsTable t' os (take (i + 1) (slice_set nodes i now))
    link-term bucket id place bucket-is earlier-is within put known =
        subst (IsTable t' os) (sym (take_more_set nodes i now inside)) (subst (λ (is : List Id). IsTable t' is (take i nodes ++ now ∷ [])) (append-nil os)
        (table-term t t' os [] (take i nodes) n.sort n.deps (record { head = a.head; from = a.from; to = a.to; earlier = e }) bucket id known
        (subst (λ (is : List Id). Lies is (Application (record { head = a.head; from = a.from; to = a.to; earlier = e }))) (sym (append-nil os)) link-lies)
        (bucket-is ∙ ap (λ (is : List Id). bucket_of t.factor (length t.buckets.items) a.head (operands_at is a.from a.to)) (sym (append-nil os)))
        (earlier-is ∙ names (newest_of t bucket) ∙ ap (λ j. named j (newest_of t bucket)) (place ∙ sym long)) (place ∙ sym long) within put))
      where
        long : length (take i nodes) ≡ i
        long = length-take-le i nodes (omega (arith, inside))

        names : (o : Option Id) → unwrap_or o id ≡ named id.0 o
        names None = refl
        names (Some x) = refl

-- What holds while a unify stream is written: the commands so far, followed by those of what is to do, are the
-- commands of the whole.
use Rattle.std.specs.Prelude.{ℕ, ◌≡◌, ◌<◌, ◌+◌, ◌^◌, ◌++◌, ◌∷◌, [], false, Contains, List, Option, Some, length, map, slice_get}
use Rattle.mz_logic_theory.specs.Tree.{Tree, Trees, var, none, more, followed_by, size, trees_size}
use Rattle.mz_logic_theory.specs.Signature.{Signature}
use Rattle.mz_logic_theory.specs.declared.binder.Binder.{Binder}
use Rattle.mz_emit_theory.specs.SymbolicState.{from_to}
use Rattle.mz_store.specs.Bits.{Tells, bound_vars}
use Rattle.mz_store.specs.Sharing.{AreIn, Holds, IsIn, IsOver, Sharing, tree_of, trees_of}
use Rattle.mz_store.specs.declared.item.DepsMode.TheVariants as of
use Rattle.mz_store.specs.declared.item.Id.{Id}
use Rattle.mz_machine_theory.specs.Streams.{UnifyCommand}
use Rattle.mz_emit_theory.specs.StreamWriting.{Writing, Written, unify_bytes, write_all, write_hyps}
use Rattle.mz_emit_theory.specs.InReach.{InReach, AllInReach}
use Rattle.mz_emit_bodies.specs.Places.{place_of}
use Rattle.mz_emit.specs.declared.stream.Stream.{Stream}

-- what is to be spelled, the next first, from a list whose last is the next
abbrev pub behind : Sharing → List Id → Trees → Trees
behind s [] es = es
behind s (i ∷ is) es = behind s is (more (tree_of s i.0) es)

abbrev pub to_do : Sharing → List Id → Trees
to_do s is = behind s is none

-- commands as bytes, without an END
abbrev pub spelled : List UnifyCommand → List ℕ
spelled [] = []
spelled (u ∷ us) = unify_bytes u ++ spelled us

-- what is written: in the context of these parameters and dummies these bytes, after which so much is marked and met
pub record Job : Type 0 where
  pub params : List Binder
  pub dummies : List Binder
  pub whole : List ℕ
  pub last : Writing

abbrev pub own : Job → List ℕ
own o = from_to 0 o.params

abbrev pub scope : Job → List Binder
scope o = o.params ++ o.dummies

-- the variables that are met, the parameters among them
abbrev pub met_so_far : Job → Writing → List ℕ
met_so_far o w = own o ++ w.dummies

-- the store's context begins with these; no variable is regular but the parameters, which depend on parameters
pub record IsStatement (params dummies : List Binder) (s : Sharing) : Type 0 where
  pub sigs : List Signature
  pub over : IsOver sigs s
  pub all : s.mode ≡ of.All
  pub others : List Binder
  pub context : s.context ≡ (params ++ dummies) ++ others
  pub regular : (z : ℕ) (b : Binder) → slice_get s.context z ≡ Some b → b.bound ≡ false → (z < length params) × ((y : ℕ) → Contains b.deps y → y < length params)
  pub variables : (x : ℕ) → x < length params → Holds s x (var x)
  pub once : (i j : ℕ) → IsIn s i → IsIn s j → tree_of s i ≡ tree_of s j → i ≡ j

-- the marks are the expressions that have a place, each at its place, and the bits those of the variables met
pub record IsMarked (params : List Binder) (s : Sharing) (places : List (Option ℕ)) (len met : ℕ) (w : Writing) : Type 0 where
  pub long : length w.trees ≡ len
  pub placed : (i p : ℕ) → place_of places i ≡ Some p → IsIn s i × (slice_get w.trees p ≡ Some (tree_of s i))
  pub found : (p : ℕ) (e : Tree) → slice_get w.trees p ≡ Some e → (i : ℕ) × Holds s i e × (place_of places i ≡ Some p)
  pub parameters : (x : ℕ) → x < length params → (p : ℕ) × (slice_get w.trees p ≡ Some (var x))
  pub told : Tells (bound_vars s.context) met (Contains (from_to 0 params ++ w.dummies))

pub record IsGoing (o : Job) (s : Sharing) (places : List (Option ℕ)) (len met : ℕ) (out : List ℕ) (todo : Trees) : Type 0 where
  pub statement : IsStatement o.params o.dummies s
  pub work : Writing
  pub marked : IsMarked o.params s places len met work
  pub inside : AllInReach (length (scope o)) todo
  pub room : length work.trees + trees_size todo < 2 ^ 32
  pub whole : out ++ spelled (write_all (own o) (scope o) work todo).commands ≡ o.whole
  pub last : (write_all (own o) (scope o) work todo).after ≡ o.last

-- these are next, before what is to do
abbrev pub Going : Job → Sharing → Stream → List Id → Type 0
Going o s t next = AreIn s next × AreIn s t.todo.items
    × IsGoing o s t.heap.places.items t.heap.len t.met t.out.items (followed_by (trees_of s next) (to_do s t.todo.items))

-- so much is marked and met, and nothing is to do
pub record IsReady (ps ds : List Binder) (s : Sharing) (t : Stream) (w : Writing) : Type 0 where
  pub statement : IsStatement ps ds s
  pub marked : IsMarked ps s t.heap.places.items t.heap.len t.met w
  pub idle : t.todo.items ≡ []

-- the expression can be spelled: its variables are in reach, and 32 bits are enough for the number of marks
abbrev pub CanSpell : List Binder → List Binder → Writing → Tree → Type 0
CanSpell ps ds w e = InReach (length (ps ++ ds)) e × (length w.trees + size e < 2 ^ 32)

-- all of these can
abbrev pub CanSpellAll : List Binder → List Binder → Writing → Trees → Type 0
CanSpellAll ps ds w es = AllInReach (length (ps ++ ds)) es × (length w.trees + trees_size es < 2 ^ 32)

-- this was written, and nothing is to do
abbrev pub HasWritten : List Binder → List Binder → Sharing → Stream → Stream → Written → Type 0
HasWritten ps ds s t t' r = IsReady ps ds s t' r.after × (t'.out.items ≡ t.out.items ++ spelled r.commands)

-- what is written for hypotheses, in this order
abbrev pub hyps_written : List Binder → List Binder → Sharing → Writing → List Id → Written
hyps_written ps ds s w is = write_hyps (from_to 0 ps) (ps ++ ds) w (map (λ i. tree_of s i.0) is)

-- The stages of a body: its beginning, a hypothesis, an expression, a proof, and its end.
use Rattle.std.specs.Prelude.{ℕ, ◌≡◌, ◌≤◌, Bool, List, [], length, slice_get, Some}
use Rattle.mz_logic_theory.specs.Tree.{Tree, listed}
use Rattle.mz_logic_theory.specs.Declaration.{Declaration, sorts, signatures}
use Rattle.mz_logic_theory.specs.Modifiers.{MayBeDummySort}
use Rattle.mz_logic_theory.specs.declared.binder.Binder.{Binder}
use Rattle.mz_store.specs.Sharing.{Sharing, IsIn, AreIn, tree_of, trees_of}
use Rattle.mz_store.specs.declared.item.Id.{Id}
use Rattle.mz_machine_theory.specs.Spells.{dummy_of}
use Rattle.mz_mmu_theory.specs.Proof.{Proof}
use Rattle.mz_emit_theory.specs.BodyWriting.{Written, Writer, and_then, at_first, write_expr, write_hyp, write_hyps, write_proof}
use Rattle.mz_emit_theory.specs.Claims.{IsSound}
use Rattle.mz_emit_bodies.specs.Variables.{IsShared}
use Rattle.mz_emit_bodies.specs.Writers.{HasRoom}
use Rattle.mz_emit_bodies.specs.Going.{Job, Does}
use Rattle.mz_emit_bodies.specs.declared.body.Body.{Body}

-- in a store of these variables there are n parameters, and the variables behind them are dummies, of sorts
-- that may have some
pub record HasDummiesBehind (env : List Declaration) (n : ℕ) (s : Sharing) (vars : List Id) : Type 0 where
  pub shared : IsShared (signatures env) s vars
  pub many : n ≤ length s.context
  pub dummies : (x : ℕ) (b : Binder) → slice_get s.context x ≡ Some b → n ≤ x → (b ≡ dummy_of b.sort) × MayBeDummySort (sorts env) b.sort

-- nothing is written, and the parameters are in the heap
abbrev pub unwritten : List Binder → Written
unwritten params = record { commands = []; after = at_first params }

-- nothing is assumed or written
abbrev pub job : Bool → List Binder → Sharing → List Tree → Job
job gaps params s hyps = record { gaps = gaps; store = s; hyps = hyps; count = 0; whole = unwritten params }

-- a job over these expressions and so many parameters, of which nothing is written yet
abbrev pub Begins : Job → Sharing → ℕ → Type 0
Begins o s n = (o.store ≡ s) × (o.count ≡ 0) × (params : List Binder) × (length params ≡ n) × (o.whole ≡ unwritten params)

-- what was to be written is
abbrev pub Rests : Job → Body → Type 0
Rests o b = Does o b [] × (b.tasks.items ≡ [])

-- this is to be written behind what was
abbrev pub writing_too : Job → Writer → Job
writing_too o f = record o { whole = and_then o.whole f }

-- so many hypotheses are assumed
abbrev pub assuming : Job → ℕ → Job
assuming o n = record o { count = n }

-- the first n hypotheses, of these ids, are assumed
abbrev pub with_hyps : Job → ℕ → List Id → Job
with_hyps o n is = writing_too (assuming o n) (write_hyps o.store.context 0 (listed (trees_of o.store is)))

-- there is room for what was to be written and this behind it
abbrev pub HasRoomFor : Job → Writer → Type 0
HasRoomFor o f = HasRoom (and_then o.whole f)

-- the i-th expression is to be left
abbrev pub Writes : Job → Body → ℕ → Type 0
Writes o b i = Rests o b × IsIn o.store i × HasRoomFor o (write_expr o.store.context (tree_of o.store i))

-- the i-th expression is to be the next hypothesis
abbrev pub Assumes : Job → Body → ℕ → Type 0
Assumes o b i = Writes o b i × HasRoomFor o (write_hyp o.store.context o.count (tree_of o.store i))

-- these are to be all the hypotheses
pub record AssumesAll (o : Job) (b : Body) (is : List Id) : Type 0 where
  pub rests : Rests o b
  pub none_yet : o.count ≡ 0
  pub inside : AreIn o.store is
  pub room : HasRoomFor o (write_hyps o.store.context 0 (listed (trees_of o.store is)))

-- the i-th expression is to be left behind these hypotheses
abbrev pub WritesFrom : Job → Body → List Id → ℕ → Type 0
WritesFrom o b is i = AssumesAll o b is × IsIn o.store i × HasRoomFor (with_hyps o (length is) is) (write_expr o.store.context (tree_of o.store i))

-- the proof is to be left
abbrev pub Proves : Job → Body → Proof → Type 0
Proves o b p = Rests o b × (o.count ≡ length o.hyps) × IsSound o.gaps b.before.env.now o.store.context o.hyps [] p × HasRoomFor o (write_proof b.before.env.now o.store.context [] p)

-- the proof is to be left behind these hypotheses, which are all
abbrev pub ProvesFrom : Job → Body → List Id → Proof → Type 0
ProvesFrom o b is p = AssumesAll o b is × (length is ≡ length o.hyps) × IsSound o.gaps b.before.env.now o.store.context o.hyps [] p
    × HasRoomFor (with_hyps o (length is) is) (write_proof b.before.env.now o.store.context [] p)

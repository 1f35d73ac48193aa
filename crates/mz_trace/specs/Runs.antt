-- The proof that a run has.
use Rattle.std.specs.Prelude.{◌≡◌, ◌≤◌, ◌+◌, ⊤, ℕ, length, List, [], ◌∷◌, map, Ok}
use Rattle.mz_logic_theory.specs.Declaration.{Declaration}
use Rattle.mz_logic_theory.specs.declared.binder.Binder.{Binder}
use Rattle.mz_mmu_theory.specs.Proof.{Proof}
use Rattle.mz_machine_theory.specs.Spells.{dummy_of}
use Rattle.mz_machine_theory.specs.MachineState.{RowsBefore, State, is_theorem, Heading}
use Rattle.mz_logic_theory.specs.Tree.{Tree}
use Rattle.mz_machine_theory.specs.Profile.{strict}
use Rattle.mz_machine_theory.specs.ProofMachine.{proof_end}
use Rattle.mz_machine_theory.specs.Bodies.{body_from, Runs}
use Rattle.mz_layout_tables.specs.Heads.{body_bytes}
use Rattle.mz_machine_env.specs.OwnRow.{MayRun}
use Rattle.mz_machine_theory.specs.Headings.{heading_of}
use Rattle.mz_machine_env.specs.Before.{tables_before}
use Rattle.mz_layout_tables.specs.declared.rows_so_far.Rows.{Rows}
use Rattle.mz_cmd.specs.declared.statement.StmtAt.TheVariants.{Head}
use Rattle.mz_cmd.specs.StatementList.{statement_at}
use Rattle.mz_trace.specs.Traces.{Made, trace_from}
use Rattle.mz_trace.specs.Commands.{Stage, IsRead, IsMade, state_of, trace_of, size_of}
use Rattle.mz_trace.specs.Sharing.{nodes_from, nodes_in}
use Rattle.mz_trace.specs.Claims.{HasClaims}
use Rattle.mz_trace.specs.Nodes.{Value, values, proof_at, HaveParts, AreProofs, IsProof}
use Rattle.mz_trace.specs.declared.entry.Item.TheVariants.{Proof as ProofItem}
use Rattle.mz_trace.specs.declared.entry.Entry.TheVariants.{Held}
use Rattle.mz_trace.specs.declared.run.Run.{Run}
use Rattle.mz_trace.specs.declared.run.Traced.{Traced}
use Rattle.mz_trace.specs.declared.run.Traced.TheVariants as traced

abbrev pub values_in : Run → List Value
values_in r = values r.nodes

abbrev pub dummies_in : Run → List Binder
dummies_in r = map dummy_of r.dummies

abbrev pub lets_in : Run → List Proof
lets_in r = map (proof_at (values_in r)) r.lets

abbrev pub root_in : Run → Proof
root_in r = proof_at (values_in r) r.root

-- The body makes what the nodes stand for, and each part of a node is an earlier one of its kind. There are no more of them
-- than parameters and what the commands make, however large what they stand for is.
pub record IsRunOf (tables : RowsBefore) (h : Heading) (bytes : List ℕ) (r : Run) : Type 0 where
  pub nodes : HaveParts tables r.nodes
  pub lets : AreProofs (values_in r) r.lets
  pub root : IsProof (values_in r) r.root
  pub made : Made tables h bytes (dummies_in r) (lets_in r) (root_in r)
  pub few : length r.nodes ≤ length h.params + nodes_in bytes

-- out of memory says nothing
abbrev pub IsTraced : RowsBefore → Heading → List ℕ → Traced → Type 0
IsTraced tables h bytes (traced.Run r) = IsRunOf tables h bytes r
IsTraced tables h bytes traced.Mem = ⊤

-- each citation and unfolding stands beside the expression that it stands for
abbrev pub ClaimsIn : List Declaration → Traced → Type 0
ClaimsIn env (traced.Run r) = HasClaims env r.nodes
ClaimsIn env traced.Mem = ⊤

-- ---- what is traced

-- the theorem's body runs over these rows before it
abbrev pub RunsOver : List ℕ → ℕ → ℕ → List ℕ → Rows → Type 0
RunsOver file row at bytes before = MayRun file 0x06 row before × Runs strict (tables_before file before) (heading_of file 0x06 row) at bytes

-- the theorem's statement stands at this place, behind these rows
pub record IsTheoremAt (file : List ℕ) (at row : ℕ) (before : Rows) : Type 0 where
  pub code : ℕ
  pub body : ℕ
  pub next : ℕ
  pub stands : statement_at file at ≡ Ok (Head code body next)
  pub runs : RunsOver file row body (body_bytes file body next) before

-- ---- what is left of a body

-- it runs to its END from here
abbrev pub RunsFrom : List ℕ → List ℕ → Stage → Type 0
RunsFrom file bytes s = (tables : RowsBefore) × (h : Heading) × (n at : ℕ) × (end : State Tree)
    × IsRead file tables h.params s × (h.kind ≡ is_theorem) × IsMade tables h.params s × (body_from strict tables h n at bytes (state_of h.params s) ≡ Ok end)

-- and what it makes leads there
abbrev pub LeadsToEnd : List ℕ → List ℕ → Stage → Stage → Type 0
LeadsToEnd file bytes s s' = (tables : RowsBefore) (h : Heading) (n at : ℕ) (end : State Tree)
    → IsRead file tables h.params s → h.kind ≡ is_theorem → IsMade tables h.params s → body_from strict tables h n at bytes (state_of h.params s) ≡ Ok end
    → IsMade tables h.params s' × (proof_end strict tables h (state_of h.params s') ≡ Ok end)
    × (trace_from tables h n bytes (state_of h.params s, trace_of s) ≡ Ok (state_of h.params s', trace_of s'))
    × (size_of s' ≤ size_of s + nodes_from n bytes)

-- one proof is left
abbrev pub HasRoot : Stage → Type 0
HasRoot s = (e p : ℕ) × (s.stack ≡ Held (ProofItem e p) ∷ [])

-- with what is made beside it
pub record IsFinished (s : Stage) (r : Run) : Type 0 where
  pub nodes : r.nodes ≡ s.nodes
  pub lets : r.lets ≡ s.lets
  pub dummies : r.dummies ≡ s.dummies
  pub root : (e : ℕ) × (s.stack ≡ Held (ProofItem e r.root) ∷ [])

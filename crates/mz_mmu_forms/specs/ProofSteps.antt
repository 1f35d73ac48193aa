-- The steps in which a proof is read: how far it has been read, and what waits for one within it.
use Rattle.std.specs.Prelude.{ℕ, ◌≡◌, ◌<◌, ◌+◌, ◌*◌, ◌^◌, ◌++◌, ⊤, List, [], ◌∷◌, Option, Some, None, length}
use Rattle.mz_base.specs.Checks.{Checks, AllHold}
use Rattle.mz_sexpr.specs.Node.{Node, Nodes}
use Rattle.mz_sexpr.specs.Number.{node_count, node_at, nodes_after, StandsFor}
use Rattle.mz_logic_theory.specs.Tree.{Trees}
use Rattle.mz_logic_theory.specs.View.{tree}
use Rattle.mz_base.specs.Names.{IsNew}
use Rattle.mz_mmu_theory.specs.Name.{Scope, IsName}
use Rattle.mz_mmu_theory.specs.Cursor.{nodes_from, node_size, nodes_size, IsThere}
use Rattle.mz_mmu_theory.specs.Proof.{Proof, Proofs, by_citation, by_conv, by_let, more_proofs}
use Rattle.mz_mmu_theory.specs.Proofs.{IsProof, IsProofBy, AreProofs}
use Rattle.mz_mmu_theory.specs.declared.keyword.Keyword.{Keyword}
use Rattle.mz_mmu_theory.specs.FormOrder.{proof_asked, proof_asked_by, proofs_asked}
use Rattle.mz_mmu_theory.specs.Stops.{Stops}
use Rattle.mz_mmu_theory.specs.ProofView.{proof_view, proofs_view}
use Rattle.mz_mmu_theory.specs.declared.fault.Fault.{Fault}
use Rattle.mz_mmu_theory.specs.declared.fault.Stop.{Stop}
use Rattle.mz_mmu_theory.specs.declared.proof.Proof.{Proof as Kept}
use Rattle.mz_mmu_forms.specs.declared.proofs.ProofOuter.{ProofOuter}
use Rattle.mz_mmu_forms.specs.declared.proofs.ProofOuter.TheVariants as outers
use Rattle.mz_mmu_forms.specs.declared.proofs.ProofStep.{ProofStep}
use Rattle.mz_mmu_forms.specs.declared.proofs.ProofStep.TheVariants as steps

-- these proofs, and others behind them
abbrev pub proofs_then : List Kept → Proofs → Proofs
proofs_then [] qs = qs
proofs_then (p ∷ ps) qs = more_proofs (proof_view p) (proofs_then ps qs)

-- ---- what waits for a proof: something of a kind, with what asks of it; `lets` are visible around, and
-- `within` in the proof that is being read, which this node is

-- nothing stands behind it
pub record WaitsForLast (sc : Scope) (hyps : List (List ℕ)) (Is : Proof → Type 0) (asked : Checks Fault) (inner : Node) (within : List (List ℕ)) (make : Proof → Proof) : Type 0 where
  pub made : (r : Proof) → IsProof sc hyps within inner r → Is (make r)
  pub stops : (stop : Stop) → Stops stop (proof_asked sc hyps within inner) → Stops stop asked

-- a let of this name, whose second part is another node
pub record WaitsForLet (sc : Scope) (hyps : List (List ℕ)) (all : Nodes) (Is : Proof → Type 0) (asked : Checks Fault) (lets : List (List ℕ)) (inner : Node) (w : List ℕ) (second : ℕ) : Type 0 where
  pub there : second < node_count all
  pub few : length lets + 1 + node_size (node_at all second) < 2 ^ 32
  pub name : IsName w
  pub new : IsNew lets w
  pub made : (r r' : Proof) → IsProof sc hyps lets inner r → IsProof sc hyps (lets ++ w ∷ []) (node_at all second) r' → Is (by_let r r')
  pub stops : (stop : Stop) → Stops stop (proof_asked sc hyps lets inner) → Stops stop asked
  pub stops_behind : (stop : Stop) → AllHold (proof_asked sc hyps lets inner) → Stops stop (proof_asked sc hyps (lets ++ w ∷ []) (node_at all second)) → Stops stop asked

-- a citation, with the proofs so far
pub record WaitsForMore (sc : Scope) (hyps : List (List ℕ)) (all : Nodes) (Is : Proof → Type 0) (asked : Checks Fault) (lets : List (List ℕ)) (inner : Node) (left : Option ℕ) (make : Proofs → Proof) : Type 0 where
  pub there : IsThere all left
  pub few : length lets + nodes_size (nodes_from all left) < 2 ^ 32
  pub made : (r : Proof) (rs : Proofs) → IsProof sc hyps lets inner r → AreProofs sc hyps lets (nodes_from all left) rs → Is (make (more_proofs r rs))
  pub stops : (stop : Stop) → Stops stop (proof_asked sc hyps lets inner) → Stops stop asked
  pub stops_behind : (stop : Stop) → AllHold (proof_asked sc hyps lets inner) → Stops stop (proofs_asked sc hyps lets (nodes_from all left)) → Stops stop asked

abbrev pub cited : ℕ → Trees → List Kept → Proofs → Proof
cited T es ps rs = by_citation T es (proofs_then ps rs)

abbrev pub ProofWaits : Scope → List (List ℕ) → Nodes → (Proof → Type 0) → Checks Fault → List (List ℕ) → Node → List (List ℕ) → ProofOuter → Type 0
ProofWaits sc hyps all Is asked lets inner within (outers.Conv e c) = (within ≡ lets) × WaitsForLast sc hyps Is asked inner lets (by_conv (tree e) c)
ProofWaits sc hyps all Is asked lets inner within (outers.Let w second) = (within ≡ lets) × WaitsForLet sc hyps all Is asked lets inner w.now second
ProofWaits sc hyps all Is asked lets inner within (outers.Scope p) =
    (w : List ℕ) × (within ≡ lets ++ w ∷ []) × WaitsForLast sc hyps Is asked inner (lets ++ w ∷ []) (by_let p)
ProofWaits sc hyps all Is asked lets inner within (outers.Cite T es ps left) = (within ≡ lets) × WaitsForMore sc hyps all Is asked lets inner left (cited T es ps.items)

-- what is asked before one that waits goes on
abbrev pub CanGoOn : Nodes → List (List ℕ) → ProofOuter → Type 0
CanGoOn all lets (outers.Conv e c) = ⊤
CanGoOn all lets (outers.Let w second) = IsName w.now × IsNew lets w.now × (length lets + 1 < 2 ^ 32)
CanGoOn all lets (outers.Scope p) = ⊤
CanGoOn all lets (outers.Cite T es ps left) = IsThere all left

-- ---- what a step says of something of a kind, where `now` are the visible lets

abbrev pub ProofSays : Scope → List (List ℕ) → Nodes → (Proof → Type 0) → Checks Fault → List (List ℕ) → List (List ℕ) → ProofStep → Type 0
ProofSays sc hyps all Is asked lets now (steps.Inner o n) =
    (n < node_count all) × (length now + node_size (node_at all n) < 2 ^ 32) × ProofWaits sc hyps all Is asked lets (node_at all n) now o
ProofSays sc hyps all Is asked lets now (steps.Whole p) = (now ≡ lets) × Is (proof_view p)

-- the same of the proof that the node is, and of one that begins with this keyword
abbrev pub SaysOfProof : Scope → List (List ℕ) → Nodes → List (List ℕ) → Node → List (List ℕ) → ProofStep → Type 0
SaysOfProof sc hyps all lets m now step = ProofSays sc hyps all (IsProof sc hyps lets m) (proof_asked sc hyps lets m) lets now step

abbrev pub ProofSaysBy : Scope → List (List ℕ) → Nodes → List (List ℕ) → Keyword → ℕ → Node → Option ℕ → ProofStep → Type 0
ProofSaysBy sc hyps all lets k at h rest step =
    ProofSays sc hyps all (IsProofBy sc hyps lets k h (nodes_from all rest)) (proof_asked_by sc hyps lets k at h (nodes_from all rest)) lets lets step

-- a citation with these proofs has been read up to a node, or as a whole
abbrev pub IsNextProof : Nodes → ℕ → Trees → List Kept → Option ℕ → ProofStep → Type 0
IsNextProof all T es ps left (steps.Inner (outers.Cite U fs qs behind) n) =
    (left ≡ Some n) × StandsFor all behind (nodes_after all n) × (U ≡ T) × (fs ≡ es) × (qs.items ≡ ps)
IsNextProof all T es ps left (steps.Inner _ n) = ⊥
IsNextProof all T es ps left (steps.Whole p) = (left ≡ None) × (proof_view p ≡ by_citation T es (proofs_view ps))

-- how many nodes stand behind the one that is being read
abbrev pub size_behind : Nodes → ProofOuter → ℕ
size_behind all (outers.Conv e c) = 0
size_behind all (outers.Let w second) = node_size (node_at all second)
size_behind all (outers.Scope p) = 0
size_behind all (outers.Cite T es ps left) = nodes_size (nodes_from all left)

-- more than the turns that are left, but for those behind the proofs around
abbrev pub proof_turns : Nodes → ProofStep → ℕ
proof_turns all (steps.Inner o n) = 2 * node_size (node_at all n) + 2 * size_behind all o + 1
proof_turns all (steps.Whole p) = 0

-- The steps in which a conversion is read: how far it has been read, and what waits for one within it.
use Rattle.std.specs.Prelude.{ℕ, ◌≡◌, ◌<◌, ◌+◌, ◌*◌, List, [], ◌∷◌, Option, Some, None}
use Rattle.mz_base.specs.Checks.{Checks, AllHold}
use Rattle.mz_sexpr.specs.Node.{Node, Nodes}
use Rattle.mz_sexpr.specs.Number.{node_count, node_at, nodes_after, StandsFor}
use Rattle.mz_logic_theory.specs.Conversions.{Conversion, Conversions, sym_conv, cong_conv, unfold_conv, more_convs}
use Rattle.mz_mmu_theory.specs.Name.{Scope}
use Rattle.mz_mmu_theory.specs.Cursor.{nodes_from, node_size, nodes_size, IsThere}
use Rattle.mz_mmu_theory.specs.Proofs.{IsConv, IsConvBy, AreConvs}
use Rattle.mz_mmu_theory.specs.declared.keyword.Keyword.{Keyword}
use Rattle.mz_mmu_theory.specs.FormOrder.{conv_asked, conv_asked_by, convs_asked}
use Rattle.mz_mmu_theory.specs.Stops.{Stops}
use Rattle.mz_mmu_theory.specs.ConvView.{conversion, conversions}
use Rattle.mz_mmu_theory.specs.declared.fault.Fault.{Fault}
use Rattle.mz_mmu_theory.specs.declared.fault.Stop.{Stop}
use Rattle.mz_mmu_theory.specs.declared.conv.Conv.{Conv}
use Rattle.mz_mmu_forms.specs.declared.convs.ConvOuter.{ConvOuter}
use Rattle.mz_mmu_forms.specs.declared.convs.ConvOuter.TheVariants as outers
use Rattle.mz_mmu_forms.specs.declared.convs.ConvStep.{ConvStep}
use Rattle.mz_mmu_forms.specs.declared.convs.ConvStep.TheVariants as steps

-- these conversions, and others behind them
abbrev pub convs_then : List Conv → Conversions → Conversions
convs_then [] ds = ds
convs_then (c ∷ cs) ds = more_convs (conversion c) (convs_then cs ds)

-- the node behind the one that is being read
abbrev pub conv_left : ConvOuter → Option ℕ
conv_left outers.Sym = None
conv_left (outers.Unfold t es ys) = None
conv_left (outers.Cong t cs left) = left

-- what the conversion that is being read and those behind it make
abbrev pub conv_made : ConvOuter → Conversion → Conversions → Conversion
conv_made outers.Sym d ds = sym_conv d
conv_made (outers.Unfold t es ys) d ds = unfold_conv t es ys d
conv_made (outers.Cong t cs left) d ds = cong_conv t (convs_then cs.items (more_convs d ds))

-- something is of a kind, with what asks of it, once this node's conversion has been read and those behind it
pub record ConvWaits (sc : Scope) (all : Nodes) (Is : Conversion → Type 0) (asked : Checks Fault) (inner : Node) (o : ConvOuter) : Type 0 where
  pub there : IsThere all (conv_left o)
  pub made : (d : Conversion) (ds : Conversions) → IsConv sc inner d → AreConvs sc (nodes_from all (conv_left o)) ds → Is (conv_made o d ds)
  pub stops : (stop : Stop) → Stops stop (conv_asked sc inner) → Stops stop asked
  pub stops_behind : (stop : Stop) → AllHold (conv_asked sc inner) → Stops stop (convs_asked sc (nodes_from all (conv_left o))) → Stops stop asked

-- what a step says of something of this kind
abbrev pub ConvSays : Scope → Nodes → (Conversion → Type 0) → Checks Fault → ConvStep → Type 0
ConvSays sc all Is asked (steps.Inner o n) = (n < node_count all) × ConvWaits sc all Is asked (node_at all n) o
ConvSays sc all Is asked (steps.Whole c) = Is (conversion c)

-- the same of the conversion that begins with this keyword
abbrev pub ConvSaysBy : Scope → Nodes → Keyword → ℕ → Node → Option ℕ → ConvStep → Type 0
ConvSaysBy sc all k at h rest step = ConvSays sc all (IsConvBy sc k h (nodes_from all rest)) (conv_asked_by sc k at h (nodes_from all rest)) step

-- a term over these conversions has been read up to a node, or as a whole
abbrev pub IsNextConv : Nodes → ℕ → List Conv → Option ℕ → ConvStep → Type 0
IsNextConv all t cs left (steps.Inner o n) =
    (left ≡ Some n) × StandsFor all (conv_left o) (nodes_after all n)
    × ((d : Conversion) (ds : Conversions) → conv_made o d ds ≡ cong_conv t (convs_then cs (more_convs d ds)))
IsNextConv all t cs left (steps.Whole c) = (left ≡ None) × (conversion c ≡ cong_conv t (conversions cs))

-- more than the turns that are left, but for those behind the conversions around
abbrev pub conv_turns : Nodes → ConvStep → ℕ
conv_turns all (steps.Inner o n) = 2 * node_size (node_at all n) + 2 * nodes_size (nodes_from all (conv_left o)) + 1
conv_turns all (steps.Whole c) = 0

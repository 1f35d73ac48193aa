-- The fact that every row of the machine keeps: the heart of soundness.
use Rattle.std.specs.Prelude.{◌≡◌, ℕ, ⊤, List, [], ◌∷◌, ◌++◌, Some, slice_get}
use Rattle.mz_logic_theory.specs.Tree.{Tree}
use Rattle.mz_logic_theory.specs.Declaration.{Declaration, sorts, signatures}
use Rattle.mz_logic_theory.specs.Sorts.{HasProvable}
use Rattle.mz_logic_theory.specs.Conversions.{Conversion, Between, GapsOnly}
use Rattle.mz_logic_theory.specs.Derivations.{Derivation, Derives, Uses, CitesOnly}
use Rattle.mz_logic_theory.specs.LegalLists.{AreDummies}
use Rattle.mz_logic_theory.specs.declared.binder.Binder.{Binder}
use Rattle.mz_machine_theory.specs.Spells.{trees_of}
use Rattle.mz_machine_theory.specs.Sorted.{ItemsSorted}
use Rattle.mz_machine_theory.specs.Profile.{Item, expr, proof, obligation, conversion}
use Rattle.mz_machine_theory.specs.MachineState.{State}

-- each has a provable sort
abbrev pub AreProvableClaims : List Declaration → List Binder → List Tree → Type 0
AreProvableClaims env ctx [] = ⊤
AreProvableClaims env ctx (e ∷ es) = HasProvable env ctx e × AreProvableClaims env ctx es

-- e has a derivation from the hypotheses that uses only what P allows
abbrev pub Derivable : Uses → List Declaration → List Binder → List Tree → Tree → Type 0
Derivable P env ctx hyps e = (d : Derivation) × CitesOnly P d × Derives env ctx (trees_of hyps) d e

abbrev pub Convertible : Type 0 → List Declaration → List Binder → Tree → Tree → Type 0
Convertible G env ctx l r = (c : Conversion) × GapsOnly G c × Between env ctx c l r

-- a proof has a derivation, and a conversion a tree
abbrev pub Holds : Uses → List Declaration → List Binder → List Tree → Item Tree → Type 0
Holds P env ctx hyps (expr e) = ⊤
Holds P env ctx hyps (proof e) = Derivable P env ctx hyps e
Holds P env ctx hyps (obligation l r) = ⊤
Holds P env ctx hyps (conversion l r) = Convertible P.gaps env ctx l r

abbrev pub HeapHolds : Uses → List Declaration → List Binder → List Tree → List (Item Tree) → Type 0
HeapHolds P env ctx hyps [] = ⊤
HeapHolds P env ctx hyps (x ∷ xs) = Holds P env ctx hyps x × HeapHolds P env ctx hyps xs

-- an obligation is paid: it has a conversion tree
abbrev pub IsPaid : Type 0 → List Declaration → List Binder → Item Tree → Type 0
IsPaid G env ctx (expr e) = ⊤
IsPaid G env ctx (proof e) = ⊤
IsPaid G env ctx (obligation l r) = Convertible G env ctx l r
IsPaid G env ctx (conversion l r) = ⊤

-- each item of the stack, its top first, holds where every obligation above it is paid
abbrev pub StackHolds : Uses → List Declaration → List Binder → List Tree → List (Item Tree) → Type 0
StackHolds P env ctx hyps [] = ⊤
StackHolds P env ctx hyps (x ∷ xs) = Holds P env ctx hyps x × (IsPaid P.gaps env ctx x → StackHolds P env ctx hyps xs)

-- full begins with ctx: the same variables, and perhaps more after them
abbrev pub IsFront : List Binder → List Binder → Type 0
IsFront ctx full = (x : ℕ) (b : Binder) → slice_get ctx x ≡ Some b → slice_get full x ≡ Some b

-- The fact. The context so far is the parameters followed by dummies; expressions have sorts in it, and the
-- hypotheses provable ones. Derivations and conversions stand in a full context that begins with it: an
-- obligation may be paid by means of a later dummy.
pub record Fact (P : Uses) (env : List Declaration) (params full : List Binder) (st : State Tree) : Type 0 where
  pub context : (dummies : List Binder) × (st.ctx ≡ params ++ dummies) × AreDummies (sorts env) dummies
  pub heap_sorted : ItemsSorted (signatures env) st.ctx st.heap
  pub stack_sorted : ItemsSorted (signatures env) st.ctx st.stack
  pub hyps_provable : AreProvableClaims env st.ctx st.hyps
  pub heap_holds : HeapHolds P env full st.hyps st.heap
  pub stack_holds : StackHolds P env full st.hyps st.stack

-- from one state to the next the fact is kept, in each full context that begins with the new state's
abbrev pub Keeps : Uses → List Declaration → List Binder → List Binder → State Tree → State Tree → Type 0
Keeps P env params full st st' = IsFront st'.ctx full → IsFront st.ctx full × (Fact P env params full st → Fact P env params full st')

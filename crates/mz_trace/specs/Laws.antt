-- What is promised of the proofs that bodies make.
use Rattle.std.specs.Prelude.{◌≡◌, ℕ, false, List, ◌++◌}
use Rattle.mz_logic_theory.specs.Declaration.{Assertion, Declaration, sorts, signatures}
use Rattle.mz_logic_theory.specs.LegalLists.{AreDummies}
use Rattle.mz_logic_theory.specs.Legality.{IsLegalEnv}
use Rattle.mz_logic_theory.specs.declared.binder.Binder.{Binder}
use Rattle.mz_mmu_theory.specs.Proof.{Proof}
use Rattle.mz_mmu_theory.specs.Meaning.{IsProofOf}
use Rattle.mz_machine_theory.specs.Profile.{strict}
use Rattle.mz_machine_theory.specs.Spells.{SpellsThm}
use Rattle.mz_machine_theory.specs.MachineState.{RowsBefore, Heading, is_theorem, Declares}
use Rattle.mz_machine_theory.specs.Bodies.{Runs}
use Rattle.mz_machine_theory.specs.Sound.{AreRowParams, thm_row}
use Rattle.mz_trace.specs.Traces.{Made, under_lets}

-- a theorem's body that runs makes a proof
abbrev pub BodiesMakeProofs : Type 0
BodiesMakeProofs = (tables : RowsBefore) (h : Heading) (at : ℕ) (bytes : List ℕ) → h.kind ≡ is_theorem → Runs strict tables h at bytes
    → (dummies : List Binder) × (lets : List Proof) × (root : Proof) × Made tables h bytes dummies lets root

-- and no two
abbrev pub BodiesMakeOne : Type 0
BodiesMakeOne = (tables : RowsBefore) (h : Heading) (bytes : List ℕ) (ds es : List Binder) (ps qs : List Proof) (p q : Proof)
    → Made tables h bytes ds ps p → Made tables h bytes es qs q → (ds ≡ es) × (ps ≡ qs) × (p ≡ q)

-- it proves what the row spells, without gaps, as a text states it
abbrev pub MadeProofsProve : Type 0
MadeProofsProve = (tables : RowsBefore) (env : List Declaration) → IsLegalEnv env → Declares tables env → (h : Heading) (at : ℕ) (bytes : List ℕ)
    → h.kind ≡ is_theorem → AreRowParams (sorts env) h.params → Runs strict tables h at bytes
    → (a : Assertion) → a.is_axiom ≡ false → SpellsThm (signatures env) (thm_row h) a
    → (dummies : List Binder) (lets : List Proof) (root : Proof) → Made tables h bytes dummies lets root
    → AreDummies (sorts env) dummies × IsProofOf false env (a.params ++ dummies) a (under_lets lets root)

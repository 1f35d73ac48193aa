-- What follows from the compiled file's being a function of the text's statements (this project's own).
use Rattle.std.specs.Prelude.{◌≡◌, ⊤, ℕ, Bool, List}
use Rattle.mz_mmu_theory.specs.Statements.{Statement}
use Rattle.mz_mmu_theory.specs.TextOf.{TextOf}
use Rattle.mz_mmu_theory.specs.Weight.{IsWithinLimits}
use Rattle.mz_emit_theory.specs.CompiledFile.{compiled_parts}
use Rattle.mz_emit_theory.specs.Compiling.{IsCompilable, CompilesTo}
use Rattle.mz_emit_theory.specs.Gapped.{SayTheirUses}
use Rattle.mz_emit_theory.specs.declared.compiled.Compiled.{Compiled}
use Rattle.mz_emit_theory.specs.declared.compiled.Compiled.TheVariants as answers

-- ---- texts

-- a text compiles to one file at most, in whichever mode; a seed is no part of this
abbrev pub HasOneFile : List ℕ → Type 0
HasOneFile text = (gaps gaps' : Bool) (bytes bytes' : List ℕ) → CompilesTo gaps text bytes → CompilesTo gaps' text bytes' → bytes ≡ bytes'

-- and to one where it can be compiled
abbrev pub HasFile : List ℕ → Type 0
HasFile text = (gaps : Bool) → IsCompilable gaps text → (bytes : List ℕ) × CompilesTo gaps text bytes

-- a Sorry stands in a theorem's body where its proof uses a gap, and a citation where it uses the assertion, and nowhere
-- else; a let that isn't named is no part of the proof
abbrev pub FileUsesWhatProofsUse : List ℕ → Type 0
FileUsesWhatProofsUse text = (gaps : Bool) (ss : List Statement) → TextOf gaps text ss → IsWithinLimits ss → SayTheirUses ss (compiled_parts ss).statements

-- ---- answers

-- the answer is this file, or out of memory
abbrev pub Answers : Compiled → List ℕ → Type 0
Answers (answers.Bytes bytes) file = bytes.items ≡ file
Answers (answers.Refused refusal) file = ⊥
Answers (answers.Limit rule count) file = ⊥
Answers answers.Mem file = ⊤

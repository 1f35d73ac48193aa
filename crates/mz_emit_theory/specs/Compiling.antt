-- What compiling a text answers: this project's own answers; the bytes are the .mmb format's, version 1.
use Rattle.std.specs.Prelude.{Bool, true, false, ◌≡◌, ◌≤◌, ◌⊎◌, ◌↔◌, ⊤, ℕ, List, length, All}
use Rattle.mz_logic_theory.specs.Declaration.{Declaration}
use Rattle.mz_logic_theory.specs.LegalLists.{Statement as Marked}
use Rattle.mz_layout_tables.specs.Normal.{Parts, file_of}
use Rattle.mz_layout_tables.specs.Standing.{Fit}
use Rattle.mz_binary_theory.specs.Chains.{Statements}
use Rattle.mz_binary_theory.specs.Gapped.{GappedIn}
use Rattle.mz_binary_theory.specs.Good.{Good}
use Rattle.mz_spec_theory.specs.Spec.{SpecOf}
use Rattle.mz_spec_proved_theory.specs.Match.{publics, Agrees}
use Rattle.mz_match_theory.specs.Verdict.{AcceptsBy}
use Rattle.mz_sexpr.specs.declared.rule.TextRefusal.{TextRefusal}
use Rattle.mz_mmu_theory.specs.Statements.{HasGapsOnly, Statement}
use Rattle.mz_mmu_theory.specs.Meaning.{marked}
use Rattle.mz_mmu_theory.specs.TextOf.{TextOf, TextFault}
use Rattle.mz_mmu_theory.specs.Weight.{Passed, Passes, IsWithinLimits, byte_bound}
use Rattle.mz_emit_theory.specs.AlphaLists.{IsSameList}
use Rattle.mz_emit_theory.specs.FileWriting.{IsWrittenAs}
use Rattle.mz_emit_theory.specs.Gapped.{proofs_of, IsGappedIn}
use Rattle.mz_emit_theory.specs.CompiledFile.{compiled_file}
use Rattle.mz_emit_theory.specs.Limits.{limit, over}
use Rattle.mz_emit_theory.specs.declared.compiled.Compiled.{Compiled}
use Rattle.mz_emit_theory.specs.declared.compiled.Compiled.TheVariants as answers
use Rattle.mz_binary_theory.specs.Standards.{by_table, Standard}
use Rattle.mz_pmachine_theory.specs.FilesByIdentity.{portable_standard}

-- ---- the binary, of a finished text or, with gaps, of a draft

-- The bytes are a binary in the normal layout, whose rows, streams and bodies say the statements one by one
-- (`IsWrittenAs`). No stream builds an application twice once all its dummies are met (`IsSharedText`), and no body
-- at all (`IsSharedBody`).
pub record IsWritten (gaps : Bool) (ss : List Statement) (bytes : List ℕ) : Type 0 where
  pub parts : Parts
  pub made : List Marked
  pub fit : Fit parts
  pub says : IsWrittenAs gaps parts (marked ss) made
  pub file : bytes ≡ file_of parts
  pub short : length bytes ≤ byte_bound ss

-- It is good, and what it spells are the statements, but for the numbers of the dummies of definitions' bodies. Its
-- gapped theorems are just those of the text.
pub record IsGoodFor (gaps : Bool) (ss : List Statement) (bytes : List ℕ) : Type 0 where
  pub made : List Marked
  pub spelled : Statements bytes made
  pub same : IsSameList (marked ss) made
  pub good : Good (by_table gaps) bytes made
  pub gapped : (T : ℕ) → GappedIn bytes made T ↔ IsGappedIn (proofs_of ss) T

-- Its bodies held to the standard, it is accepted against each specification with which the public statements agree.
abbrev pub IsAccepted : Standard → List Statement → List ℕ → Type 0
IsAccepted standard ss bytes = (spec : List ℕ) (ds : List Declaration) → SpecOf spec ds → Agrees ds (publics (marked ss)) → AcceptsBy standard spec bytes

-- It is accepted by the standard machine, with gaps as a draft; and that of a finished text by identity too. It is the file
-- that is a function of the statements.
pub record IsBinaryOf (gaps : Bool) (ss : List Statement) (bytes : List ℕ) : Type 0 where
  pub written : IsWritten gaps ss bytes
  pub good : IsGoodFor gaps ss bytes
  pub accepted : IsAccepted (by_table gaps) ss bytes
  pub by_identity : gaps ≡ false → IsAccepted portable_standard ss bytes
  pub compiled : bytes ≡ compiled_file ss

-- ---- the answers

-- the text is well typed, in a draft with gaps, and within the limits
abbrev pub IsCompilable : Bool → List ℕ → Type 0
IsCompilable gaps text = (ss : List Statement) × TextOf gaps text ss × IsWithinLimits ss

-- and these bytes are its binary
abbrev pub CompilesTo : Bool → List ℕ → List ℕ → Type 0
CompilesTo gaps text bytes = (ss : List Statement) × TextOf gaps text ss × IsWithinLimits ss × IsBinaryOf gaps ss bytes

-- the text is well typed, and this is the first limit that it passes
abbrev pub PassesLimit : Bool → List ℕ → Passed → Type 0
PassesLimit gaps text p = (ss : List Statement) × TextOf gaps text ss × Passes ss p

-- out of memory says nothing
abbrev pub IsCompilation : Bool → List ℕ → Compiled → Type 0
IsCompilation gaps text (answers.Bytes bytes) = CompilesTo gaps text bytes.items
IsCompilation gaps text (answers.Refused refusal) = TextFault gaps text refusal
IsCompilation gaps text (answers.Limit rule count) = PassesLimit gaps text (over (limit rule) count)
IsCompilation gaps text answers.Mem = ⊤

-- each text can be compiled, or has one first fault or passes one first limit; and never two of these
pub record IsDecided (gaps : Bool) (text : List ℕ) : Type 0 where
  pub one_of_three : IsCompilable gaps text ⊎ (((r : TextRefusal) × TextFault gaps text r) ⊎ ((p : Passed) × PassesLimit gaps text p))
  pub not_refused : (r : TextRefusal) → IsCompilable gaps text → TextFault gaps text r → ⊥
  pub not_limited : (p : Passed) → IsCompilable gaps text → PassesLimit gaps text p → ⊥
  pub not_both : (p : Passed) (r : TextRefusal) → PassesLimit gaps text p → TextFault gaps text r → ⊥
  pub one_limit : (p q : Passed) → PassesLimit gaps text p → PassesLimit gaps text q → p ≡ q
  pub one_fault : (q r : TextRefusal) → TextFault gaps text q → TextFault gaps text r → q ≡ r

-- ---- both modes

-- a finished text compiles as a draft to what it compiles to, and a draft without gaps can be compiled as a finished text
-- where it can; it passes the same limit
pub record ModesCompileAlike (text : List ℕ) : Type 0 where
  pub finished : (bytes : List ℕ) → CompilesTo false text bytes → CompilesTo true text bytes
  pub draft : (ss : List Statement) → TextOf true text ss → All (HasGapsOnly ⊥) ss → IsCompilable true text → IsCompilable false text
  pub finished_limit : (p : Passed) → PassesLimit false text p → PassesLimit true text p
  pub draft_limit : (ss : List Statement) (p : Passed) → TextOf true text ss → All (HasGapsOnly ⊥) ss → PassesLimit true text p → PassesLimit false text p

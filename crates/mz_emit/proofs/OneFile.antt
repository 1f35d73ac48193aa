-- A text compiles to one file, whichever the mode and the seed; so an answer of bytes is this file.
use Rattle.std.proofs.Common.{Bool, true, false, List, ℕ, ap, sym, ◌∙◌}
use Rattle.mz_mmu_theory.specs.Statements.{Statement}
use Rattle.mz_mmu_theory.specs.TextOf.{TextOf}
use Rattle.mz_mmu_theory.specs.TypeLaws.{IsTypedOrFaulty}
use Rattle.mz_emit_theory.specs.CompiledFile.{compiled_file}
use Rattle.mz_emit_theory.specs.CompiledLaws.{HasOneFile, Answers}
use Rattle.mz_emit_theory.specs.Compiling.{CompilesTo, IsCompilation, IsDecided}
use Rattle.mz_emit_theory.specs.Limits.{limit, over}
use Rattle.mz_emit_theory.specs.declared.compiled.Compiled.{Compiled}
use Rattle.mz_emit_theory.specs.declared.compiled.Compiled.TheVariants as answers
use Rattle.mz_emit.proofs.Alike.{finished_in}

in_draft : (gaps : Bool) (text : List ℕ) (ss : List Statement) → TextOf gaps text ss → TextOf true text ss
in_draft false text ss is = finished_in true text ss is
in_draft true text ss is = is

pub one_file : ((gaps : Bool) (text : List ℕ) → IsTypedOrFaulty gaps text) → (text : List ℕ) → HasOneFile text
one_file typed_or_faulty text gaps gaps' bytes bytes' (ss, typed, within, binary) (ts, other, limits, again) =
    binary.compiled ∙ ap compiled_file ((typed_or_faulty true text).one_list ss ts (in_draft gaps text ss typed) (in_draft gaps' text ts other)) ∙ sym again.compiled

-- what answers of a text that compiles to these bytes
pub answers_one : ((text : List ℕ) → HasOneFile text) → (gaps : Bool) (text : List ℕ) → IsDecided gaps text → (r : Compiled) (bytes : List ℕ) → CompilesTo gaps text bytes → IsCompilation gaps text r → Answers r bytes
answers_one one gaps text decided (answers.Bytes b) bytes compiles is = one text gaps gaps b.items bytes is compiles
answers_one one gaps text decided (answers.Refused refusal) bytes (ss, typed, within, binary) is = decided.not_refused refusal (ss, typed, within) is
answers_one one gaps text decided (answers.Limit rule count) bytes (ss, typed, within, binary) is = decided.not_limited (over (limit rule) count) (ss, typed, within) is
answers_one one gaps text decided answers.Mem bytes compiles is = tt

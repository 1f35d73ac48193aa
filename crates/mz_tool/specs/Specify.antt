-- The command `spec TEXT OUT`: all that is said of it (this project's own).
use Rattle.std.specs.Prelude.{◌≡◌, ◌⊎◌, ℕ, false, List, [], ◌∷◌, length, Option, Some, codes}
use Rattle.mz_match_theory.specs.Verdict.{Accepts}
use Rattle.mz_sexpr.specs.declared.rule.TextRefusal.{TextRefusal}
use Rattle.mz_mmu_theory.specs.TextOf.{TextFault}
use Rattle.mz_emit_theory.specs.declared.rule.L.TheVariants.{Bytes}
use Rattle.mz_emit_theory.specs.Lines.{refusal_line, limit_line}
use Rattle.mz_emit_theory.specs.Compiling.{CompilesTo}
use Rattle.mz_prefix.specs.Wording.{Unwritten, local_in, long_in, too_long, longest, IsWordedAs, IsUnwritten}
use Rattle.mz_prefix.specs.AgreeLaws.{DeclaresText}
use Rattle.mz_prefix.specs.Printed.{specified_line, local_line, long_line}
use Rattle.mz_tool_engine.specs.Said.{Said, OfOne}

-- yes: the bytes, which are put, are the specification of the text's public statements
abbrev pub IsSpecifiedTo : List ℕ → Option (List ℕ) → List ℕ → Type 0
IsSpecifiedTo text put line = (spec : List ℕ) × (put ≡ Some spec) × IsWordedAs longest text spec × (line ≡ specified_line (length spec))

-- the line of what stands against a specification
abbrev pub unwritten_line : Unwritten → List ℕ
unwritten_line (local_in statement) = local_line statement
unwritten_line (long_in statement) = long_line statement
unwritten_line (too_long count) = limit_line Bytes count

-- no: the text has a first fault, or is well typed and something stands first against its specification
abbrev pub IsNotSpecified : List ℕ → List ℕ → Type 0
IsNotSpecified text line =
    ((refusal : TextRefusal) × TextFault false text refusal × (line ≡ refusal_line refusal))
    ⊎ ((u : Unwritten) × IsUnwritten longest text u × (line ≡ unwritten_line u))

-- each specification of a text declares what agrees with its public statements, and what the text is compiled to is
-- accepted against it
abbrev pub AreItsSpecifications : List ℕ → Type 0
AreItsSpecifications text = (spec : List ℕ) → IsWordedAs longest text spec → DeclaresText spec text × ((bin : List ℕ) → CompilesTo false text bin → Accepts spec bin)

abbrev pub specify_says : (text_name out_name : List ℕ) → Said
specify_says text_name out_name = record {
  words = codes "spec" ∷ text_name ∷ out_name ∷ [];
  is_in_range = Unit {0};
  reads = text_name ∷ [];
  puts = Some out_name;
  promise = λ file. Unit {0};
  yes = λ contents put text. OfOne (λ stated. IsSpecifiedTo stated put text) contents;
  no = λ contents text. OfOne (λ stated. IsNotSpecified stated text) contents;
  sound = λ contents. OfOne AreItsSpecifications contents;
  begun = λ contents text. ⊥;
}

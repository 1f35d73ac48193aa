-- The text of a pair can be compiled, and what it compiles to is accepted against the specification.
use Rattle.std.proofs.Common.{◌≡◌, ◌<◌, ◌^◌, ◌∙◌, ℕ, Bool, false, List, length, sym, ap, subst}
use Rattle.mz_mmu_theory.specs.TypeLaws.{IsTypedOrFaulty}
use Rattle.mz_mmu_theory.specs.Meaning.{marked}
use Rattle.mz_binary_theory.specs.Standards.{strict_standard}
use Rattle.mz_binary_theory.specs.WholeLaws.{OneListOfStatements, GoodFilesSpell}
use Rattle.mz_spec_proved_theory.specs.Match.{publics, Agrees}
use Rattle.mz_match_theory.specs.Verdict.{Accepts}
use Rattle.mz_emit_theory.specs.Compiling.{CompilesTo}
use Rattle.mz_decompile.specs.Laws.{AreBytes, IsTextOfBinary, PlainTextsAreTexts}
use Rattle.mz_decompile.specs.Texts.{IsPlainText}
use Rattle.mz_decompile.specs.Decompiling.{IsTextFor}

module _ (typed_or_faulty : (gaps : Bool) (text : List ℕ) → IsTypedOrFaulty gaps text) (one_list : OneListOfStatements) (spells : GoodFilesSpell)
    (spec bin text : List ℕ) where
  -- what the text says is what the binary spells, so it agrees with the specification
  accepted : Accepts spec bin → IsTextOfBinary bin text → (bytes : List ℕ) → CompilesTo false text bytes → Accepts spec bytes
  accepted accepts of_binary bytes (ss, typed, within, binary) =
      let same : ss ≡ of_binary.statements = (typed_or_faulty false text).one_list ss of_binary.statements typed of_binary.typed in
      let spelled : accepts.statements ≡ marked of_binary.statements = one_list bin accepts.statements (marked of_binary.statements)
      (spells strict_standard bin accepts.statements accepts.is_good) of_binary.spelled in
      let list : accepts.statements ≡ marked ss = spelled ∙ ap marked (sym same) in
      binary.accepted spec accepts.declared accepts.is_spec (subst (λ xs. Agrees accepts.declared (publics xs)) list accepts.agrees)

  pub text-for : PlainTextsAreTexts → AreBytes bin → length bin < 2 ^ 32 → IsPlainText spec bin text → IsTextFor spec bin text
  text-for texts bytes short is =
      let of_binary = texts spec bin text bytes short is in
      record {
        states = of_binary;
        compiles = (of_binary.statements, of_binary.typed, of_binary.within);
        accepted = accepted is.2.accepts of_binary;
      }

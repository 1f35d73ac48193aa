-- What comes of a text: it has a specification, or a first fault, or something stands first against a specification.
use Rattle.std.proofs.Common.{false, ◌≡◌, ◌≤◌, ℕ, List, Option, length, ap, subst, inl, inr, refl, arith}
use Rattle.mz_base.proofs.Offered.{all_hold-rest}
use Rattle.mz_prefix.specs.Wording.{longest, local_in, long_in, too_long, local_checks, long_checks, local_terms, vocabulary_of, prefix_text, IsWordedAs}
use Rattle.mz_prefix.specs.declared.spec_text.SpecText.{SpecText}
use Rattle.mz_prefix.specs.declared.spec_text.SpecText.TheVariants as answers
use Rattle.mz_prefix.specs.SpecTexts.{IsWording, IsDecided}
use Rattle.mz_match_theory.specs.Verdict.{Accepts}
use Rattle.mz_emit_theory.specs.Compiling.{CompilesTo}
use Rattle.mz_prefix.specs.AgreeLaws.{DeclaresText}
use Rattle.mz_tool.specs.Specify.{IsSpecifiedTo, IsNotSpecified, AreItsSpecifications}
use Rattle.mz_tool.specs.Specified.{spec_line}

-- a specification is no longer than a file that is read
pub short-specification : (text spec : List ℕ) → IsWordedAs longest text spec → length spec ≤ longest
short-specification text spec (ss, typed, all, is) =
    let few : length (prefix_text ss) ≤ longest = (all_hold-rest (long_checks (vocabulary_of ss) 1 ss) _ (all_hold-rest (local_checks (local_terms ss) 1 ss) _ all)).0 in
    let same : length spec ≡ length (prefix_text ss) = ap length is in
    omega (arith, few, same)

accepted-by : (text spec bin : List ℕ) → DeclaresText spec text → CompilesTo false text bin → Accepts spec bin
accepted-by text spec bin d (ss, is_text, within, binary) = binary.accepted spec d.declared d.is_spec (d.agrees ss is_text)

-- a text has no specification but the one that is written, so what this one declares each declares
pub its-specifications : (text made : List ℕ) → IsDecided longest text → IsWordedAs longest text made → DeclaresText made text → AreItsSpecifications text
its-specifications text made decided is declares spec worded =
    let d : DeclaresText spec text = subst (λ s. DeclaresText s text) (decided.one_wording made spec is worded) declares in
    (d, λ bin compiled. accepted-by text spec bin d compiled)

module _ (text : List ℕ) (decided : IsDecided longest text) where
  pub is-not-specified : (a : SpecText) (line : List ℕ) → IsWording longest text a → ((bytes : _) → a ≡ answers.Text bytes → ⊥) → (a ≡ answers.Mem → ⊥) → line ≡ spec_line a → IsNotSpecified text line
  is-not-specified (answers.Text bytes) line is other some same = absurd (other bytes refl)
  is-not-specified (answers.Refused refusal) line is other some same = inl (refusal, is, same)
  is-not-specified (answers.Local statement) line is other some same = inr (local_in statement, is, same)
  is-not-specified (answers.Long statement) line is other some same = inr (long_in statement, is, same)
  is-not-specified (answers.Limit count) line is other some same = inr (too_long count, is, same)
  is-not-specified answers.Mem line is other some same = absurd (some refl)

  -- where the text has a specification, it isn't refused
  pub specified-alone : (a : SpecText) → IsWording longest text a → ((bytes : _) → a ≡ answers.Text bytes → ⊥) → (a ≡ answers.Mem → ⊥)
      → (put : Option (List ℕ)) (line : List ℕ) → IsSpecifiedTo text put line → ⊥
  specified-alone (answers.Text bytes) is other some put line (spec, puts, worded, same) = other bytes refl
  specified-alone (answers.Refused refusal) is other some put line (spec, puts, (ss, typed, all, made), same) = decided.not_refused refusal (ss, typed, all) is
  specified-alone (answers.Local statement) is other some put line (spec, puts, (ss, typed, all, made), same) = decided.not_unwritten (local_in statement) (ss, typed, all) is
  specified-alone (answers.Long statement) is other some put line (spec, puts, (ss, typed, all, made), same) = decided.not_unwritten (long_in statement) (ss, typed, all) is
  specified-alone (answers.Limit count) is other some put line (spec, puts, (ss, typed, all, made), same) = decided.not_unwritten (too_long count) (ss, typed, all) is
  specified-alone answers.Mem is other some put line (spec, puts, worded, same) = some refl

  -- where it is refused, it has none
  pub not-specified-alone : (spec : List ℕ) → IsWordedAs longest text spec → (line : List ℕ) → IsNotSpecified text line → ⊥
  not-specified-alone spec (ss, typed, all, made) line (inl (refusal, fault, same)) = decided.not_refused refusal (ss, typed, all) fault
  not-specified-alone spec (ss, typed, all, made) line (inr (u, unwritten, same)) = decided.not_unwritten u (ss, typed, all) unwritten

-- What comes of a pair: it has a text, or a first refusal, or something stands first against its text.
use Rattle.std.proofs.Common.{◌≡◌, ◌≤◌, ℕ, List, Option, length, ap, subst, inl, inr, refl, arith}
use Rattle.mz_base.proofs.Offered.{all_hold-rest}
use Rattle.mz_match_theory.specs.Verdict.{Accepts, IsSound}
use Rattle.mz_decompile_text.specs.Phrasing.{text_of}
use Rattle.mz_decompile_text.specs.Names.{vocabulary_of}
use Rattle.mz_decompile.specs.Restated.{deep, too_long, depth_checks, greater_length}
use Rattle.mz_decompile.specs.Texts.{IsPlainText}
use Rattle.mz_decompile.specs.declared.decompiled.Decompiled.{Decompiled}
use Rattle.mz_decompile.specs.declared.decompiled.Decompiled.TheVariants as answers
use Rattle.mz_decompile.specs.Decompiling.{IsDecompilation, IsTextFor, IsDecided}
use Rattle.mz_tool_engine.specs.Run.{longest}
use Rattle.mz_tool.specs.Decompile.{AreItsTexts, IsDecompiledTo, IsNotDecompiled}
use Rattle.mz_tool.specs.Decompiled.{text_line}

-- a text is no longer than a file that is read
pub short-text : (spec bin text : List ℕ) → IsPlainText spec bin text → length text ≤ longest
short-text spec bin text (prefix, ts, restates, all, is) =
    let v = vocabulary_of prefix ts in
    let few : greater_length v ts ≤ longest = (all_hold-rest (depth_checks v 1 ts) _ all).0 in
    let same : length text ≡ length (text_of v ts) = ap length is in
    omega (arith, few, same)

-- a pair has no text but the one that is made, so what holds of this one holds of each
pub its-texts : (spec bin made : List ℕ) → IsDecided spec bin → IsPlainText spec bin made → IsTextFor spec bin made → AreItsTexts spec bin
its-texts spec bin made decided is made-is text plain = subst (IsTextFor spec bin) (decided.one_text made text is plain) made-is

pub its-sound : (spec bin made : List ℕ) → ((spec bin : List ℕ) → Accepts spec bin → IsSound spec bin) → IsDecided spec bin → IsPlainText spec bin made → IsSound spec bin
its-sound spec bin made sound decided is = sound spec bin (decided.text_accepted made is)

module _ (spec bin : List ℕ) (decided : IsDecided spec bin) where
  pub is-not-decompiled : (a : Decompiled) (line : List ℕ) → IsDecompilation spec bin a → ((text : _) → a ≡ answers.Text text → ⊥) → (a ≡ answers.Mem → ⊥)
      → line ≡ text_line a → IsNotDecompiled spec bin line
  is-not-decompiled (answers.Text text) line is other some same = absurd (other text refl)
  is-not-decompiled (answers.Refused verdict) line is other some same = inl (verdict, is, same)
  is-not-decompiled (answers.Deep statement) line is other some same = inr (deep statement, is, same)
  is-not-decompiled (answers.Limit count) line is other some same = inr (too_long count, is, same)
  is-not-decompiled answers.Mem line is other some same = absurd (some refl)

  -- where the pair has a text, nothing else is answered
  pub decompiled-alone : (a : Decompiled) → IsDecompilation spec bin a → ((text : _) → a ≡ answers.Text text → ⊥) → (a ≡ answers.Mem → ⊥)
      → (put : Option (List ℕ)) (line : List ℕ) → IsDecompiledTo spec bin put line → ⊥
  decompiled-alone (answers.Text text) is other some put line (bytes, puts, plain, same) = other text refl
  decompiled-alone (answers.Refused verdict) is other some put line (bytes, puts, plain, same) = decided.not_refused verdict (decided.text_accepted bytes plain) is
  decompiled-alone (answers.Deep statement) is other some put line (bytes, puts, plain, same) = decided.not_both bytes (deep statement) plain is
  decompiled-alone (answers.Limit count) is other some put line (bytes, puts, plain, same) = decided.not_both bytes (too_long count) plain is
  decompiled-alone answers.Mem is other some put line (bytes, puts, plain, same) = some refl

  -- where something else is answered, it has none
  pub not-decompiled-alone : (text : List ℕ) → IsPlainText spec bin text → (line : List ℕ) → IsNotDecompiled spec bin line → ⊥
  not-decompiled-alone text plain line (inl (verdict, first, same)) = decided.not_refused verdict (decided.text_accepted text plain) first
  not-decompiled-alone text plain line (inr (u, unstated, same)) = decided.not_both text u plain unstated

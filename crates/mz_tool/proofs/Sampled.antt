-- What comes of a sample: its text is compiled, and the binary verified.
use Rattle.std.proofs.Common.{◌≡◌, ◌∙◌, ◌++◌, ℕ, List, [], ◌∷◌, length, Option, Some, None, sym, subst, refl, ap, false, arith}
use Rattle.mz_match_theory.specs.Verdict.{Accepts, IsSound, counts_of}
use Rattle.mz_match_theory.proofs.Offered.{accepted-excludes}
use Rattle.mz_emit_theory.specs.Compiling.{CompilesTo}
use Rattle.mz_tool.specs.Samples.{sample_specification, sample_text}
use Rattle.mz_tool_engine.specs.declared.outcome.Outcome.{Outcome}
use Rattle.mz_tool_engine.specs.declared.outcome.Outcome.TheVariants as outcomes
use Rattle.mz_tool_engine.specs.Outcomes.{IfYes, IfNo, OnYes, OnNo, IsAfter}
use Rattle.mz_tool_verify.specs.Verify.{IsVerified, IsRefuted}
use Rattle.mz_tool.specs.Compile.{IsCompiledTo, IsNotCompiled}
use Rattle.mz_tool.specs.Laws.{FitTogether}
use Rattle.mz_tool.specs.Sample.{IsUpheld, IsProvedByText, sizes_line, IsSampleUpheld}
use Rattle.mz_tool.proofs.Compiles.{put-bytes}

-- the text's binary is the one that is put
pub compiled-put : (text : List ℕ) (put : Option (List ℕ)) (line bin : List ℕ) → IsCompiledTo false text put line → put ≡ Some bin → CompilesTo false text bin
compiled-put text put line bin (made, puts, compiles, finished, same) is = subst (CompilesTo false text) (put-bytes made bin (sym puts ∙ is)) compiles

-- a binary of a text is accepted against a specification that fits the text
fit-accepted : (spec text bin line : List ℕ) → CompilesTo false text bin → IsRefuted spec bin line → FitTogether spec text → ⊥
fit-accepted spec text bin line (ss, typed, within, binary) (verdict, refused, same) (can, declares) =
    let accepts : Accepts spec bin = binary.accepted spec declares.declared declares.is_spec (declares.agrees ss typed) in
    accepted-excludes spec bin (counts_of accepts.declared) verdict (accepts, refl) refused

-- a binary of the text is verified
module _ (spec text bin : List ℕ) (compiles : CompilesTo false text bin) where
  pub verified-yes : (o : Outcome) → IfYes o (λ put line. (put ≡ None) × IsVerified spec bin line) → IfYes o (λ put line. (put ≡ None) × IsUpheld spec text line)
  verified-yes (outcomes.Yes put line) (none, verified) = (none, (bin, compiles, verified))
  verified-yes (outcomes.No line) is = tt
  verified-yes outcomes.Mem is = tt

  pub verified-no : (o : Outcome) → IfNo o (λ line. IsRefuted spec bin line) → OnNo o (FitTogether spec text → ⊥)
  verified-no (outcomes.Yes put line) is = tt
  verified-no (outcomes.No line) is = fit-accepted spec text bin line.items compiles is
  verified-no outcomes.Mem is = tt

  pub verified-proved : (o : Outcome) → OnYes o (IsSound spec bin) → OnYes o (IsProvedByText spec text)
  verified-proved (outcomes.Yes put line) sound = (bin, compiles, sound)
  verified-proved (outcomes.No line) sound = tt
  verified-proved outcomes.Mem sound = tt

-- the text isn't compiled
module _ (spec text : List ℕ) where
  pub not-yes : (o : Outcome) (P : Option (List ℕ) → List ℕ → Type 0) → ((put : _) (line : _) → o ≡ outcomes.Yes put line → ⊥) → IfYes o P
  not-yes (outcomes.Yes put line) P not = absurd (not put line refl)
  not-yes (outcomes.No line) P not = tt
  not-yes outcomes.Mem P not = tt

  pub not-fit : (o : Outcome) → IfNo o (λ line. IsNotCompiled false text line) → OnNo o (FitTogether spec text → ⊥)
  not-fit (outcomes.Yes put line) is = tt
  not-fit (outcomes.No line) is = λ fit. is.0 fit.0
  not-fit outcomes.Mem is = tt

  -- where they fit there is no refusal
  pub fit-never : (o : Outcome) → FitTogether spec text → OnNo o (FitTogether spec text → ⊥) → OnNo o ⊥
  fit-never (outcomes.Yes put line) fit is = tt
  fit-never (outcomes.No line) fit is = is fit
  fit-never outcomes.Mem fit is = tt

-- the line of the sizes stands before
module _ (n : ℕ) (line : List ℕ) (sizes : line ≡ sizes_line n) where
  pub after-yes : (old new : Outcome) → IsAfter line old new → IfYes old (λ put text. (put ≡ None) × IsUpheld (sample_specification n) (sample_text n) text)
      → IfYes new (λ put text. (put ≡ None) × IsSampleUpheld n text)
  after-yes (outcomes.Yes put text) (outcomes.Yes put' text') (same, is) (none, upheld) = (same ∙ none, (text.items, upheld, is ∙ ap (λ (front : List ℕ). front ++ text.items) sizes))
  after-yes (outcomes.Yes put text) (outcomes.No text') is upheld = tt
  after-yes (outcomes.Yes put text) outcomes.Mem is upheld = tt
  after-yes (outcomes.No text) (outcomes.Yes put' text') is upheld = absurd is
  after-yes (outcomes.No text) (outcomes.No text') is upheld = tt
  after-yes (outcomes.No text) outcomes.Mem is upheld = tt
  after-yes outcomes.Mem (outcomes.Yes put' text') is upheld = absurd is
  after-yes outcomes.Mem (outcomes.No text') is upheld = tt
  after-yes outcomes.Mem outcomes.Mem is upheld = tt

-- what holds of each yes, or of each no, still does
module _ (P : Type 0) (line : List ℕ) where
  pub still-yes : (old new : Outcome) → IsAfter line old new → OnYes old P → OnYes new P
  still-yes (outcomes.Yes put text) (outcomes.Yes put' text') is on = on
  still-yes (outcomes.Yes put text) (outcomes.No text') is on = tt
  still-yes (outcomes.Yes put text) outcomes.Mem is on = tt
  still-yes (outcomes.No text) (outcomes.Yes put' text') is on = absurd is
  still-yes (outcomes.No text) (outcomes.No text') is on = tt
  still-yes (outcomes.No text) outcomes.Mem is on = tt
  still-yes outcomes.Mem (outcomes.Yes put' text') is on = absurd is
  still-yes outcomes.Mem (outcomes.No text') is on = tt
  still-yes outcomes.Mem outcomes.Mem is on = tt

  pub still-no : (old new : Outcome) → IsAfter line old new → OnNo old P → OnNo new P
  still-no (outcomes.Yes put text) (outcomes.Yes put' text') is on = tt
  still-no (outcomes.Yes put text) (outcomes.No text') is on = absurd is
  still-no (outcomes.Yes put text) outcomes.Mem is on = tt
  still-no (outcomes.No text) (outcomes.Yes put' text') is on = tt
  still-no (outcomes.No text) (outcomes.No text') is on = on
  still-no (outcomes.No text) outcomes.Mem is on = tt
  still-no outcomes.Mem (outcomes.Yes put' text') is on = tt
  still-no outcomes.Mem (outcomes.No text') is on = absurd is
  still-no outcomes.Mem outcomes.Mem is on = tt

-- what holds of two lists holds of the same ones
pub at-sample : (a b x y : List ℕ) (P : List ℕ → List ℕ → Type 0) → a ≡ x → b ≡ y → P a b → P x y
at-sample a b x y P e f p = subst (P x) f (subst (λ (z : List ℕ). P z b) e p)

-- where no file is read there are no contents
pub none-read : (xs : List (List ℕ)) → length xs ≡ 0 → xs ≡ []
none-read [] e = refl
none-read (x ∷ xs) e = absurd (omega (arith, e))

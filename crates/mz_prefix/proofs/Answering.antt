-- Which answer comes.
use Rattle.std.proofs.Common.{false, ◌≡◌, ◌≤◌, ◌<◌, ◌∙◌, ℕ, List, length, ap, subst, inl, arith}
use Rattle.mz_base.specs.Checks.{AllHold, FailsFirst}
use Rattle.mz_base.proofs.Offered.{fails-before, fails-after, all_hold-both}
use Rattle.mz_mmu_theory.specs.Statements.{Statement}
use Rattle.mz_mmu_theory.specs.TextOf.{TextOf}
use Rattle.mz_prefix.specs.AgreeLaws.{SpecificationsOfTextsDeclare}
use Rattle.mz_prefix.specs.Wording.{longest, local_in, long_in, too_long, local_checks, long_checks, local_terms, vocabulary_of, prefix_text, IsWordedAs, IsUnwritten}
use Rattle.mz_prefix.specs.declared.names.Names.{Names}
use Rattle.mz_prefix.specs.declared.spec_text.SpecText.{SpecText}
use Rattle.mz_prefix.specs.declared.spec_text.SpecText.TheVariants as answers
use Rattle.mz_prefix.specs.Names.{AreNamesOf}
use Rattle.mz_prefix.specs.SpecTexts.{IsWording, DeclaresItsText}

module _ (limit : ℕ) (text : List ℕ) (ss : List Statement) (typed : TextOf false text ss) (names : Names) (are : AreNamesOf ss names) where
  sayable : AllHold (local_checks names.locals.items 1 ss) → AllHold (local_checks (local_terms ss) 1 ss)
  sayable said = subst (λ ls. AllHold (local_checks ls 1 ss)) are.locals said

  pub local-first : (k : ℕ) → FailsFirst (local_checks names.locals.items 1 ss) (local_in k) → IsUnwritten limit text (local_in k)
  local-first k fails =
      (ss, typed, fails-before (local_checks (local_terms ss) 1 ss) _ (local_in k) (subst (λ ls. FailsFirst (local_checks ls 1 ss) (local_in k)) are.locals fails))

  pub long-first : (k : ℕ) → AllHold (local_checks names.locals.items 1 ss) → FailsFirst (long_checks (vocabulary_of ss) 1 ss) (long_in k) → IsUnwritten limit text (long_in k)
  long-first k said fails =
      (ss, typed, fails-after (local_checks (local_terms ss) 1 ss) _ (long_in k) (sayable said) (fails-before (long_checks (vocabulary_of ss) 1 ss) _ (long_in k) fails))

  pub too-long : AllHold (local_checks names.locals.items 1 ss) → AllHold (long_checks (vocabulary_of ss) 1 ss) → (spec : List ℕ) → spec ≡ prefix_text ss
      → (n : ℕ) → n ≡ length spec → limit < n → IsUnwritten limit text (too_long n)
  too-long said brief spec is n count many =
      let all : n ≡ length (prefix_text ss) = count ∙ ap length is in (
        ss,
        typed,
        fails-after (local_checks (local_terms ss) 1 ss) _ (too_long n) (sayable said)
            (fails-after (long_checks (vocabulary_of ss) 1 ss) _ (too_long n) brief (inl ((λ few. let f : length (prefix_text ss) ≤ limit = few in omega (arith, f, all, many)), ap too_long all))),
      )

  pub worded : AllHold (local_checks names.locals.items 1 ss) → AllHold (long_checks (vocabulary_of ss) 1 ss) → (spec : List ℕ) → spec ≡ prefix_text ss
      → (n : ℕ) → n ≡ length spec → n ≤ limit → IsWordedAs limit text spec
  worded said brief spec is n count few =
      let all : n ≡ length (prefix_text ss) = count ∙ ap length is in
      (ss, typed, all_hold-both (local_checks (local_terms ss) 1 ss) _ (sayable said) (all_hold-both (long_checks (vocabulary_of ss) 1 ss) _ brief (omega (arith, all, few), tt)), is)

-- what is written declares the text, by the law
pub declares : SpecificationsOfTextsDeclare → (text : List ℕ) (a : SpecText) → IsWording longest text a → DeclaresItsText text a
declares law text (answers.Text bytes) worded = law longest text bytes.items (omega arith) worded
declares law text _ is = tt

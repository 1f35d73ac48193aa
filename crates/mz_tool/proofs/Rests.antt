-- What is reported of the axioms on which theorems rest: where it is reported the pair isn't refused.
use Rattle.std.proofs.Common.{◌≡◌, ◌≤◌, ◌∙◌, ◌++◌, ℕ, List, [], ◌∷◌, Option, None, length, refl, sym, ap, subst, inl, append-nil}
use Rattle.mz_match_theory.specs.declared.verdict.Counts.{Counts}
use Rattle.mz_match_theory.specs.declared.verdict.Verdict.{Verdict}
use Rattle.mz_match_theory.specs.Verdict.{AcceptsWith, FirstRefusal, IsSound, counts_of, line_of}
use Rattle.mz_axioms.specs.Lists.{TheoremSupport, AreSupports}
use Rattle.mz_tool_verify.specs.Verify.{IsRefuted}
use Rattle.mz_tool_engine.specs.Said.{OfTwo}
use Rattle.mz_tool_engine.specs.Run.{Affirms, Refuses, IsAnswer}
use Rattle.mz_tool.specs.Axioms.{AreAxiomsPrinted, axioms_says}

module _ (spec bin : List ℕ) (not_both : (spec bin : List ℕ) (counts : Counts) (verdict : Verdict) → AcceptsWith spec bin counts → FirstRefusal spec bin verdict → ⊥) where
  pub supports-alone : (supports : List TheoremSupport) → AreSupports spec bin supports → (line : List ℕ) → IsRefuted spec bin line → ⊥
  supports-alone supports are line (verdict, first, same) = not_both spec bin (counts_of are.accepts.declared) verdict (are.accepts, refl) first

  pub refusal-alone : (verdict : Verdict) → FirstRefusal spec bin verdict → (text : List ℕ) → AreAxiomsPrinted spec bin text → ⊥
  refusal-alone verdict first text (supports, are, is) = not_both spec bin (counts_of are.accepts.declared) verdict (are.accepts, refl) first

  module _ (spec_name bin_name : List ℕ) (contents : List (List ℕ)) (read : contents ≡ spec ∷ bin ∷ []) where
    pub axioms-affirms : (text : List ℕ) → AreAxiomsPrinted spec bin text → Affirms (axioms_says spec_name bin_name) contents None text
    axioms-affirms text printed =
        subst (λ xs. Affirms (axioms_says spec_name bin_name) xs None text) (sym read) ((refl, printed), λ other no. supports-alone printed.0 printed.1 other no)

    -- nothing is left after the whole text
    pub printed-affirms : (text rest : List ℕ) → rest ≡ [] → AreAxiomsPrinted spec bin text → Affirms (axioms_says spec_name bin_name) contents None (text ++ rest)
    printed-affirms text rest none printed =
        subst (λ whole. Affirms (axioms_says spec_name bin_name) contents None whole) (sym (append-nil text) ∙ ap (λ last. text ++ last) (sym none)) (axioms-affirms text printed)

    pub axioms-refuse : (verdict : Verdict) (text : List ℕ) → FirstRefusal spec bin verdict → text ≡ line_of verdict → Refuses (axioms_says spec_name bin_name) contents text
    axioms-refuse verdict text first same =
        subst (λ xs. Refuses (axioms_says spec_name bin_name) xs text) (sym read) ((verdict, first, same), λ put other (none, printed). refusal-alone verdict first other printed)

    pub axioms-sound : IsSound spec bin → OfTwo IsSound contents
    axioms-sound sound = subst (λ xs. OfTwo IsSound xs) (sym read) sound

    -- where each answer has room, so has what is printed
    pub room-of_printed : (room : ℕ) → ((put : Option (List ℕ)) (text : List ℕ) → IsAnswer (axioms_says spec_name bin_name) contents put text → length text ≤ room) →
        (text : List ℕ) → AreAxiomsPrinted spec bin text → length text ≤ room
    room-of_printed room fits text printed = fits None text (inl (axioms-affirms text printed))

-- Each pair that is accepted has one text, or one thing that stands first against it.
use Rattle.std.proofs.Common.{◌≡◌, ◌⊎◌, ◌∙◌, ℕ, suc, inl, inr, List, [], ◌∷◌, refl, sym, subst}
use Rattle.mz_base.specs.Checks.{AllHold, FailsFirst, AreDecided}
use Rattle.mz_base.proofs.Offered.{fails_first-unique, all_hold-excludes, all_hold-or_fails, are_decided-both, at_most-decided}
use Rattle.mz_sexpr.specs.Node.{depth_limit}
use Rattle.mz_mmu_theory.specs.Statements.{Statement}
use Rattle.mz_match_theory.specs.declared.verdict.Counts.{Counts}
use Rattle.mz_match_theory.specs.declared.verdict.Verdict.{Verdict}
use Rattle.mz_match_theory.specs.Verdict.{Accepts, AcceptsWith, FirstRefusal, counts_of}
use Rattle.mz_decompile_text.specs.Phrases.{depth}
use Rattle.mz_decompile_text.specs.Phrasing.{Vocabulary, statement, text_of}
use Rattle.mz_decompile_text.specs.Names.{vocabulary_of}
use Rattle.mz_prefix.specs.Wording.{longest}
use Rattle.mz_decompile.specs.Restated.{Restates, Unstated, depth_checks, greater_length, stating_checks}
use Rattle.mz_decompile.specs.Laws.{AcceptedAreRestated, RestatedAlike}
use Rattle.mz_decompile.specs.Texts.{IsPlainText, IsUnstated}
use Rattle.mz_decompile.specs.Decompiling.{IsDecided}

depth-decided : (v : Vocabulary) (k : ℕ) (ss : List Statement) → AreDecided (depth_checks v k ss)
depth-decided v k [] = tt
depth-decided v k (s ∷ ss) = (at_most-decided (depth (statement v s)) depth_limit, λ _. depth-decided v (suc k) ss)

stating-decided : (v : Vocabulary) (ss : List Statement) → AreDecided (stating_checks v ss)
stating-decided v ss = are_decided-both (depth_checks v 1 ss) _ (depth-decided v 1 ss) (λ _. (at_most-decided (greater_length v ss) longest, λ _. tt))

module _ (spec bin : List ℕ) where
  abbrev Stated : Type 0
  Stated = ((text : List ℕ) × IsPlainText spec bin text) ⊎ ((u : Unstated) × IsUnstated spec bin u)

  stated : (prefix : List ℕ) (ts : List Statement) → Restates spec bin prefix ts
      → AllHold (stating_checks (vocabulary_of prefix ts) ts) ⊎ ((u : Unstated) × FailsFirst (stating_checks (vocabulary_of prefix ts) ts) u) → Stated
  stated prefix ts restates (inl all) = inl (text_of (vocabulary_of prefix ts) ts, (prefix, ts, restates, all, refl))
  stated prefix ts restates (inr (u, fails)) = inr (u, (prefix, ts, restates, fails))

  module _ (restated : AcceptedAreRestated) (alike : RestatedAlike)
      (not_both : (spec bin : List ℕ) (counts : Counts) (verdict : Verdict) → AcceptsWith spec bin counts → FirstRefusal spec bin verdict → ⊥) where
    one_of_two : Accepts spec bin → Stated
    one_of_two accepts =
        let (prefix, ts, restates) = restated spec bin accepts in
        stated prefix ts restates (all_hold-or_fails (stating_checks (vocabulary_of prefix ts) ts) (stating-decided (vocabulary_of prefix ts) ts))

    -- what is said of the one statements is said of the others
    moved : (P : List ℕ → List Statement → Type 0) (prefix other : List ℕ) (ts us : List Statement)
        → Restates spec bin prefix ts → Restates spec bin other us → P prefix ts → P other us
    moved P prefix other ts us r q p =
        let same = alike spec bin prefix other ts us r q in
        subst (P other) same.1 (subst (λ x. P x ts) same.0 p)

    fails-too : (prefix other : List ℕ) (ts us : List Statement) (u : Unstated) → Restates spec bin prefix ts → Restates spec bin other us
        → FailsFirst (stating_checks (vocabulary_of prefix ts) ts) u → FailsFirst (stating_checks (vocabulary_of other us) us) u
    fails-too prefix other ts us u = moved (λ x ss. FailsFirst (stating_checks (vocabulary_of x ss) ss) u) prefix other ts us

    apart : (text : List ℕ) (u : Unstated) → IsPlainText spec bin text → IsUnstated spec bin u → ⊥
    apart text u (prefix, ts, r, all, is) (other, us, q, fails) =
        all_hold-excludes (stating_checks (vocabulary_of prefix ts) ts) u all (fails-too other prefix us ts u q r fails)

    one_text : (text other : List ℕ) → IsPlainText spec bin text → IsPlainText spec bin other → text ≡ other
    one_text text other (prefix, ts, r, all, is) (prefix', us, q, all', is') =
        moved (λ x ss. text ≡ text_of (vocabulary_of x ss) ss) prefix prefix' ts us r q is ∙ sym is'

    one_unstated : (u w : Unstated) → IsUnstated spec bin u → IsUnstated spec bin w → u ≡ w
    one_unstated u w (prefix, ts, r, fails) (other, us, q, fails') =
        fails_first-unique (stating_checks (vocabulary_of other us) us) u w (fails-too prefix other ts us u r q fails) fails'

    pub is-decided : IsDecided spec bin
    is-decided = record {
      one_of_two = one_of_two;
      text_accepted = λ text is. is.2.accepts;
      unstated_accepted = λ u is. is.2.accepts;
      not_refused = λ verdict accepts first. not_both spec bin (counts_of accepts.declared) verdict (accepts, refl) first;
      not_both = apart;
      one_text = one_text;
      one_unstated = one_unstated;
    }

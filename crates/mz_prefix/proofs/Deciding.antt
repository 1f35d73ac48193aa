-- Each text has a specification, or one first fault, or one thing that stands first against a specification.
use Rattle.std.proofs.Common.{◌≡◌, ◌≤◌, ℕ, suc, ◌⊎◌, inl, inr, Bool, true, false, List, [], ◌∷◌, length, refl, sym, ap, subst, ◌∙◌}
use Rattle.mz_base.specs.Checks.{AllHold, FailsFirst, AreDecided}
use Rattle.mz_base.proofs.Offered.{fails_first-unique, all_hold-excludes, all_hold-or_fails, are_decided-both, at_most-decided, implied-decided, both-decided}
use Rattle.mz_logic_theory.specs.Tree.{Tree, Trees, none, more}
use Rattle.mz_logic_theory.specs.Declaration.{Declaration, sort_decl, term_decl, assertion_decl}
use Rattle.mz_math_theory.specs.Meaning.{height}
use Rattle.mz_math_theory.specs.Formula.{most}
use Rattle.mz_prefix.specs.Prefix.{IsShort}
use Rattle.mz_prefix.specs.PublicPart.{mentions_local, any_mentions_local, IsSayable}
use Rattle.mz_prefix.specs.NamedDeclarations.{Vocabulary, formula_of, AreShort}
use Rattle.mz_mmu_theory.specs.Statements.{Statement}
use Rattle.mz_sexpr.specs.declared.rule.TextRefusal.{TextRefusal}
use Rattle.mz_mmu_theory.specs.TextOf.{TextOf, TextFault}
use Rattle.mz_mmu_theory.specs.TypeLaws.{IsTypedOrFaulty}
use Rattle.mz_prefix.specs.Wording.{Unwritten, IsBrief, local_checks, long_checks, wording_checks, local_terms, vocabulary_of, prefix_text, IsUnwritten}
use Rattle.mz_prefix.specs.SpecTexts.{HasWording, IsDecided}

-- ---- what is asked is decided

false-decided : (b : Bool) → (b ≡ false) ⊎ (b ≡ false → ⊥)
false-decided true = inr (λ is. let h : true ≡ false = is in absurd (cc))
false-decided false = inl refl

sayable-decided : (ls : List Bool) (d : Declaration) → IsSayable ls d ⊎ (IsSayable ls d → ⊥)
sayable-decided ls (assertion_decl a) = both-decided (false-decided (any_mentions_local ls a.hyps)) (false-decided (mentions_local ls a.conclusion))
sayable-decided ls _ = inl tt

short-by : (v : Vocabulary) (e : Tree) → ((length (formula_of v e) ≤ most) × (height e ≤ most)) ⊎ ((length (formula_of v e) ≤ most) × (height e ≤ most) → ⊥)
    → IsShort (formula_of v e) e ⊎ (IsShort (formula_of v e) e → ⊥)
short-by v e (inl (few, low)) = inl (record { few = few; low = low })
short-by v e (inr never) = inr (λ short. never (short.few, short.low))

short-decided : (v : Vocabulary) (e : Tree) → IsShort (formula_of v e) e ⊎ (IsShort (formula_of v e) e → ⊥)
short-decided v e = short-by v e (both-decided (at_most-decided (length (formula_of v e)) most) (at_most-decided (height e) most))

are-short-decided : (v : Vocabulary) (es : Trees) → AreShort v es ⊎ (AreShort v es → ⊥)
are-short-decided v none = inl tt
are-short-decided v (more e es) = both-decided (short-decided v e) (are-short-decided v es)

brief-decided : (v : Vocabulary) (d : Declaration) → IsBrief v d ⊎ (IsBrief v d → ⊥)
brief-decided v (assertion_decl a) = both-decided (are-short-decided v a.hyps) (short-decided v a.conclusion)
brief-decided v _ = inl tt

local-decided : (ls : List Bool) (k : ℕ) (ss : List Statement) → AreDecided (local_checks ls k ss)
local-decided ls k [] = tt
local-decided ls k (s ∷ ss) = (implied-decided (false-decided s.is_local) (sayable-decided ls s.decl), λ _. local-decided ls (suc k) ss)

long-decided : (v : Vocabulary) (k : ℕ) (ss : List Statement) → AreDecided (long_checks v k ss)
long-decided v k [] = tt
long-decided v k (s ∷ ss) = (implied-decided (false-decided s.is_local) (brief-decided v s.decl), λ _. long-decided v (suc k) ss)

wording-decided : (limit : ℕ) (ss : List Statement) → AreDecided (wording_checks limit ss)
wording-decided limit ss =
    are_decided-both (local_checks (local_terms ss) 1 ss) _ (local-decided (local_terms ss) 1 ss) λ _.
    are_decided-both (long_checks (vocabulary_of ss) 1 ss) _ (long-decided (vocabulary_of ss) 1 ss) λ _.
    (at_most-decided (length (prefix_text ss)) limit, λ _. tt)

-- ---- texts

module _ (typed_or_faulty : (gaps : Bool) (text : List ℕ) → IsTypedOrFaulty gaps text) (limit : ℕ) (text : List ℕ) where
  decided : (ss : List Statement) → TextOf false text ss → AllHold (wording_checks limit ss) ⊎ ((u : Unwritten) × FailsFirst (wording_checks limit ss) u)
      → HasWording limit text ⊎ (((r : TextRefusal) × TextFault false text r) ⊎ ((u : Unwritten) × IsUnwritten limit text u))
  decided ss typed (inl all) = inl (ss, typed, all)
  decided ss typed (inr (u, fails)) = inr (inr (u, (ss, typed, fails)))

  judged : ((ss : List Statement) × TextOf false text ss) ⊎ ((r : TextRefusal) × TextFault false text r)
      → HasWording limit text ⊎ (((r : TextRefusal) × TextFault false text r) ⊎ ((u : Unwritten) × IsUnwritten limit text u))
  judged (inl (ss, is)) = decided ss is (all_hold-or_fails (wording_checks limit ss) (wording-decided limit ss))
  judged (inr fault) = inr (inl fault)

  pub is_decided : IsDecided limit text
  is_decided =
      let one = typed_or_faulty false text in
      record {
        one_of_three = judged one.one_of_both;
        not_refused = λ r has fault. one.never_both has.0 r has.1 fault;
        not_unwritten = λ u has unwritten. all_hold-excludes (wording_checks limit has.0) u has.2
            (subst (λ ss. FailsFirst (wording_checks limit ss) u) (one.one_list unwritten.0 has.0 unwritten.1 has.1) unwritten.2);
        not_both = λ u r unwritten fault. one.never_both unwritten.0 r unwritten.1 fault;
        one_wording = λ spec other first second. first.3 ∙ ap prefix_text (one.one_list first.0 second.0 first.1 second.1) ∙ sym second.3;
        one_unwritten = λ u w first second. fails_first-unique (wording_checks limit first.0) u w first.2
            (subst (λ ss. FailsFirst (wording_checks limit ss) w) (one.one_list second.0 first.0 second.1 first.1) second.2);
        one_fault = one.one_fault;
      }

-- Each text is well typed or has exactly one first fault.
use Rattle.std.proofs.Common.{ℕ, ◌≡◌, ◌⊎◌, inl, inr, Bool, List, subst}
use Rattle.mz_base.specs.Checks.{FailsFirst}
use Rattle.mz_base.proofs.Offered.{fails_first-unique}
use Rattle.mz_sexpr.specs.Node.{Nodes}
use Rattle.mz_sexpr.specs.declared.rule.TextRefusal.{TextRefusal}
use Rattle.mz_mmu_theory.specs.Statements.{Statement, Reads}
use Rattle.mz_mmu_theory.specs.StatementOrder.{Refuses}
use Rattle.mz_mmu_theory.proofs.Offered.{one_reading, some_answer, each_typed_or_refused}
use Rattle.mz_mmu_theory.specs.TypeLaws.{IsTypedOrFaulty}
use Rattle.mz_mmu_theory.specs.Meaning.{LegalAsStated}
use Rattle.mz_mmu_theory.specs.TextRules.{text_rules}
use Rattle.mz_mmu_theory.specs.TextOf.{TextOf, TextFault}

module _ (gaps : Bool) (text : List ℕ) where
  abbrev Answered : Type 0
  Answered = ((ss : List Statement) × TextOf gaps text ss) ⊎ ((r : TextRefusal) × TextFault gaps text r)

  when_read : (ns : Nodes) (ss : List Statement) → Reads gaps text ns ss → LegalAsStated gaps ss ⊎ ((r : TextRefusal) × FailsFirst (text_rules ns ss) r) → Answered
  when_read ns ss read (inl legal) = inl (ss, ((ns, read), legal))
  when_read ns ss read (inr (r, f)) = inr (r, inr (ns, ss, read, f))

  answered : ((ns : Nodes) × (ss : List Statement) × Reads gaps text ns ss) ⊎ ((r : TextRefusal) × Refuses gaps text r) → Answered
  answered (inl (ns, ss, read)) = when_read ns ss read (each_typed_or_refused gaps ns ss read.1).one_of_both
  answered (inr (r, h)) = inr (r, inl h)

  never : (ss : List Statement) (r : TextRefusal) → TextOf gaps text ss → TextFault gaps text r → ⊥
  never ss r ((ns, read), legal) (inl h) = (some_answer gaps text).never_both ns ss r read h
  never ss r ((ns, read), legal) (inr (ms, ts, other, f)) =
      (each_typed_or_refused gaps ms ts other.1).never_both r (subst (LegalAsStated gaps) (one_reading gaps text ns ms ss ts read other).1 legal) f

  one_text : (ss ts : List Statement) → TextOf gaps text ss → TextOf gaps text ts → ss ≡ ts
  one_text ss ts ((ns, read), _) ((ms, other), _) = (one_reading gaps text ns ms ss ts read other).1

  same_fault : (q r : TextRefusal) → TextFault gaps text q → TextFault gaps text r → q ≡ r
  same_fault q r (inl a) (inl b) = (some_answer gaps text).one_refusal q r a b
  same_fault q r (inl a) (inr (ns, ss, read, f)) = absurd ((some_answer gaps text).never_both ns ss q read a)
  same_fault q r (inr (ns, ss, read, f)) (inl b) = absurd ((some_answer gaps text).never_both ns ss r read b)
  same_fault q r (inr (ns, ss, read, f)) (inr (ms, ts, other, g)) =
      let same = one_reading gaps text ns ms ss ts read other in
      fails_first-unique (text_rules ms ts) q r
      (subst (λ xs. FailsFirst (text_rules ms xs) q) same.1 (subst (λ ls. FailsFirst (text_rules ls ss) q) same.0 f)) g

pub typed_or_faulty : (gaps : Bool) (text : List ℕ) → IsTypedOrFaulty gaps text
typed_or_faulty gaps text = record {
  one_of_both = answered gaps text (some_answer gaps text).one_of_both;
  never_both = never gaps text;
  one_list = one_text gaps text;
  one_fault = same_fault gaps text;
}

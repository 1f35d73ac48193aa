-- What the passes answer of a pair that is accepted.
use Rattle.std.proofs.Common.{◌≡◌, ◌∙◌, ◌<◌, ◌^◌, ◌++◌, ℕ, Bool, List, [], ◌∷◌, length, sym, ap, subst}
use Rattle.mz_logic_theory.specs.Declaration.{Declaration}
use Rattle.mz_logic_theory.specs.LegalLists.{Statement as Marked}
use Rattle.mz_layout_tables.specs.Tables.{list_at}
use Rattle.mz_mmu_theory.specs.Statements.{Statement}
use Rattle.mz_match_theory.specs.Verdict.{Accepts}
use Rattle.mz_trace.specs.Laws.{BodiesMakeOne}
use Rattle.mz_decompile_text.specs.Naming.{Naming, vocabulary_by}
use Rattle.mz_decompile_text.specs.Names.{declared_names, statement_names, naming_of}
use Rattle.mz_decompile_text.specs.Accepted.{AreNamed, IsNamingOf, naming_under}
use Rattle.mz_decompile_text.proofs.Offered.{named-alike}
use Rattle.mz_decompile.specs.Restated.{AreRestated, Restates}
use Rattle.mz_decompile.specs.Laws.{AcceptedAreRestated, AreBytes, PlainTextsAreTexts}
use Rattle.mz_decompile.specs.Decompiling.{IsDecompilation, IsTextForPair}
use Rattle.mz_decompile.specs.Passes.{IsAnswer, IsOfAccepted}
use Rattle.mz_decompile.specs.Standing.{AreAll, SomeAreAll}
use Rattle.mz_decompile.specs.declared.decompiled.Decompiled.{Decompiled}
use Rattle.mz_decompile.specs.declared.decompiled.Decompiled.TheVariants as answers
use Rattle.mz_mmu_theory.specs.TypeLaws.{IsTypedOrFaulty}
use Rattle.mz_binary_theory.proofs.Offered.{one-list, good-spelled}
use Rattle.mz_decompile.proofs.Bridging.{good-standing}
use Rattle.mz_decompile.proofs.Texts.{text-for}

are-named : (file : List ℕ) (env : List Declaration) (at : ℕ) (ss : List Marked) (names : List (List ℕ)) (ts : List Statement) → AreRestated file env at ss names ts → AreNamed ss names ts
are-named file env at [] [] [] are = tt
are-named file env at [] [] (t ∷ ts) are = absurd are
are-named file env at [] (name ∷ names) ts are = absurd are
are-named file env at (s ∷ ss) [] ts are = absurd are
are-named file env at (s ∷ ss) (name ∷ names) [] are = absurd are
are-named file env at (s ∷ ss) (name ∷ names) (t ∷ ts) (next, here, rest) =
    (here.declares, here.named, are-named file (env ++ s.decl ∷ []) next ss names ts rest)

module _ (spec bin : List ℕ) (naming : Naming) (is-naming : IsNamingOf spec bin naming) where
  module _ (prefix : List ℕ) (ts : List Statement) (r : Restates spec bin prefix ts) where
    naming-is : naming_of prefix ts ≡ naming
    naming-is =
        let names = declared_names spec r.entries in
        let ss = r.accepts.statements in
        named-alike prefix ss (statement_names names prefix 0 1 ss) ts (are-named bin [] (list_at bin) ss (statement_names names prefix 0 1 ss) ts r.restated)
        ∙ ap (λ (p : List ℕ). naming_under p ss (statement_names names p 0 1 ss)) r.beside
        ∙ sym (is-naming r.accepts r.entries r.makes)

    standing : BodiesMakeOne → AreAll bin naming ts
    standing one =
        subst (λ (n : Naming). AreAll bin n ts) naming-is
        (good-standing one bin prefix r.accepts.statements r.accepts.is_good
        (statement_names (declared_names spec r.entries) prefix 0 1 r.accepts.statements) ts r.restated)

    as-stated : (d : Decompiled) → IsAnswer (vocabulary_by naming) ts d → IsDecompilation spec bin d
    as-stated d is = by d (subst (λ (n : Naming). IsAnswer (vocabulary_by n) ts d) (sym naming-is) is)
      where
        by : (d : Decompiled) → IsAnswer (vocabulary_by (naming_of prefix ts)) ts d → IsDecompilation spec bin d
        by (answers.Text text) (all, is) = (prefix, ts, r, all, is)
        by (answers.Refused verdict) is = absurd is
        by (answers.Deep k) fails = (prefix, ts, r, fails)
        by (answers.Limit count) fails = (prefix, ts, r, fails)
        by answers.Mem is = absurd is

  own : (ts : List Statement) (d : Decompiled) → IsAnswer (vocabulary_by naming) ts d → IsOfAccepted d
  own ts (answers.Text text) is = tt
  own ts (answers.Refused verdict) is = absurd is
  own ts (answers.Deep k) is = tt
  own ts (answers.Limit count) is = tt
  own ts answers.Mem is = absurd is

  module _ (restated : AcceptedAreRestated) (one : BodiesMakeOne) (accepts : Accepts spec bin) where
    pub some-standing : SomeAreAll bin naming
    some-standing = let (prefix, ts, r) = restated spec bin accepts in (ts, standing prefix ts r one)

    pub answered : (d : Decompiled) → ((ts : List Statement) → AreAll bin naming ts → IsAnswer (vocabulary_by naming) ts d) → IsDecompilation spec bin d × IsOfAccepted d
    answered d is =
        let (prefix, ts, r) = restated spec bin accepts in
        let here = is ts (standing prefix ts r one) in
        (as-stated prefix ts r d here, own ts d here)

-- and a text is one for the pair
pub text-answered : ((gaps : Bool) (text : List ℕ) → IsTypedOrFaulty gaps text) → PlainTextsAreTexts → (spec bin : List ℕ) → AreBytes bin → length bin < 2 ^ 32 → (d : Decompiled)
    → IsDecompilation spec bin d → IsTextForPair spec bin d
text-answered typed law spec bin bytes short (answers.Text text) is = text-for typed one-list good-spelled spec bin text.items law bytes short is
text-answered typed law spec bin bytes short (answers.Refused verdict) is = tt
text-answered typed law spec bin bytes short (answers.Deep k) is = tt
text-answered typed law spec bin bytes short (answers.Limit count) is = tt
text-answered typed law spec bin bytes short answers.Mem is = tt

-- All type rules of a text hold exactly where its statements are legal by the stated proofs.
use Rattle.std.proofs.Common.{ℕ, suc, ◌≡◌, inl, inr, Bool, true, List, [], ◌∷◌, ◌++◌, All, Option}
use Rattle.std.proofs.lemmas.List.Elements.{All-head, All-tail}
use Rattle.mz_base.specs.Checks.{retold, AllHold}
use Rattle.mz_base.proofs.Offered.{fails_first-unique, all_hold-excludes, all_hold-or_fails, all_hold-first, all_hold-rest, all_hold-both, retold-held, retold-holds}
use Rattle.mz_sexpr.specs.Node.{Nodes}
use Rattle.mz_sexpr.specs.Number.{first, rest}
use Rattle.mz_logic_theory.specs.Declaration.{Declaration, sort_decl, term_decl, assertion_decl}
use Rattle.mz_logic_theory.specs.Derivations.{no_derivs}
use Rattle.mz_logic_theory.specs.LegalLists.{LegalAfter, IsProvedIfTheorem, allowed_with}
use Rattle.mz_logic_theory.specs.declared.binder.Binder.{Binder}
use Rattle.mz_mmu_theory.specs.Statements.{HasGapsOnly, Statement}
use Rattle.mz_mmu_theory.specs.StatementOrder.{in_statement}
use Rattle.mz_mmu_theory.specs.Proof.{Proof}
use Rattle.mz_mmu_theory.specs.Name.{no_names}
use Rattle.mz_mmu_theory.proofs.OnlyDrafts.{only_drafts}
use Rattle.mz_mmu_theory.specs.Rules.{statement_rules}
use Rattle.mz_mmu_theory.specs.Names.{StatementsThere}
use Rattle.mz_mmu_theory.specs.TextRules.{rules_from, text_rules}
use Rattle.mz_mmu_theory.specs.Meaning.{derivation, IsProvedAsStated, LegalAsStatedAfter, marked}
use Rattle.mz_mmu_theory.specs.TypeLaws.{RulesAreTheMeaning, StatedIsLegal, EachTypedOrRefused}
use Rattle.mz_mmu_theory.proofs.StatementRules.{legal_statement, rules_of_legal}
use Rattle.mz_mmu_theory.proofs.StatementsRead.{statements_there}
use Rattle.mz_mmu_theory.proofs.RulesDecided.{statements-decided}

pub legal_after : (gaps : Bool) (k : ℕ) (env : List Declaration) (ss : List Statement) (ns : Nodes) → StatementsThere env ss → All (HasGapsOnly (gaps ≡ true)) ss → AllHold (rules_from k env ss ns)
    → LegalAsStatedAfter gaps env ss
legal_after gaps k env [] ns there leaves all = tt
legal_after gaps k env (s ∷ ss) ns (here, there) leaves all =
    let A = retold (in_statement k) (statement_rules env s (first ns)) in (
      legal_statement gaps env s (first ns) here (All-head (HasGapsOnly (gaps ≡ true)) s ss leaves) (retold-held (in_statement k) (statement_rules env s (first ns)) (all_hold-first A _ all)),
      legal_after gaps (suc k) (env ++ s.decl ∷ []) ss (rest ns) there (All-tail (HasGapsOnly (gaps ≡ true)) s ss leaves) (all_hold-rest A _ all),
    )

pub rules_after : (gaps : Bool) (k : ℕ) (env : List Declaration) (ss : List Statement) (ns : Nodes) → StatementsThere env ss → LegalAsStatedAfter gaps env ss → AllHold (rules_from k env ss ns)
rules_after gaps k env [] ns there h = tt
rules_after gaps k env (s ∷ ss) ns (here, there) (legal, h) =
    all_hold-both (retold (in_statement k) (statement_rules env s (first ns))) _
    (retold-holds (in_statement k) (statement_rules env s (first ns)) (rules_of_legal gaps env s (first ns) here legal))
    (rules_after gaps (suc k) (env ++ s.decl ∷ []) ss (rest ns) there h)

pub rules_are_the_meaning : RulesAreTheMeaning
rules_are_the_meaning gaps ns ss read =
    let there = statements_there gaps ns ss read in
    (legal_after gaps 1 [] ss ns there (only_drafts (no_names gaps) ns ss read), rules_after gaps 1 [] ss ns there)

pub each_typed_or_refused : EachTypedOrRefused
each_typed_or_refused gaps ns ss read = record {
  one_of_both = elim (all_hold-or_fails (text_rules ns ss) (statements-decided 1 [] ss ns (statements_there gaps ns ss read))) [
    | inl all ↦ inl ((rules_are_the_meaning gaps ns ss read).0 all)
    | inr fails ↦ inr fails
  ];
  never_both = λ r legal fails. all_hold-excludes (text_rules ns ss) r ((rules_are_the_meaning gaps ns ss read).1 legal) fails;
  one_refusal = λ q r f g. fails_first-unique (text_rules ns ss) q r f g;
}

-- ---- legal by the stated proofs is legal

proved_if_theorem : (gaps : Bool) (env : List Declaration) (d : Declaration) (ds : List Binder) (p : Option Proof) → IsProvedAsStated gaps env d ds p → IsProvedIfTheorem (allowed_with gaps) env d
proved_if_theorem gaps env (assertion_decl a) ds p h = λ thm. let k = h thm in (ds, k.0, (derivation no_derivs k.1.0, k.1.2.2, k.1.2.0))
proved_if_theorem gaps env _ ds p h = tt

legal_list : (gaps : Bool) (env : List Declaration) (ss : List Statement) → LegalAsStatedAfter gaps env ss → LegalAfter (allowed_with gaps) env (marked ss)
legal_list gaps env [] h = tt
legal_list gaps env (s ∷ ss) ((legal, mark, proof), h) = ((legal, mark, proved_if_theorem gaps env s.decl s.dummies s.proof proof), legal_list gaps (env ++ s.decl ∷ []) ss h)

pub stated_is_legal : StatedIsLegal
stated_is_legal gaps ss h = legal_list gaps [] ss h

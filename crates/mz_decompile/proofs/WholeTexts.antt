-- The text of a pair that is accepted is well typed and within the compiler's limits, and says the binary's statements.
use Rattle.std.proofs.Common.{◌≡◌, ◌≤◌, ◌+◌, ◌^◌, ◌∙◌, ℕ, suc, List, [], ◌∷◌, length, map, refl, sym, ap, subst, arith, false}
use Rattle.std.specs.Prelude.{Result}
use Rattle.mz_base.specs.Checks.{AllHold}
use Rattle.mz_base.proofs.Offered.{all_hold-both, all_hold-first, all_hold-rest}
use Rattle.mz_cmd.specs.declared.statement.StmtAt.{StmtAt}
use Rattle.mz_cmd.specs.declared.statement.StmtFault.{StmtFault}
use Rattle.mz_logic_theory.specs.Declaration.{Declaration, sort_decl, term_decl, assertion_decl, sorts}
use Rattle.mz_logic_theory.specs.LegalLists.{Statement as Marked, declarations}
use Rattle.mz_mmu_theory.specs.Statements.{Statement}
use Rattle.mz_mmu_theory.specs.Meaning.{marked}
use Rattle.mz_mmu_theory.specs.TextOf.{TextOf}
use Rattle.mz_mmu_theory.specs.Weight.{sort_count, byte_bound, parameter_limit, bound_limit, byte_limit, parameter_count, bound_count, within, each_within, IsWithinLimits}
use Rattle.mz_layout_tables.specs.Tables.{list_at}
use Rattle.mz_layout_tables.proofs.Offered.{parts-of_layout}
use Rattle.mz_machine_theory.specs.FileRows.{taken_by}
use Rattle.mz_binary_theory.specs.Checking.{checks_of}
use Rattle.mz_binary_theory.specs.Chains.{Statements, IsGoodStatement}
use Rattle.mz_binary_theory.specs.Good.{Good}
use Rattle.mz_binary_theory.specs.WholeLaws.{GoodFilesSpell}
use Rattle.mz_binary_theory.specs.Standards.{strict_standard}
use Rattle.mz_binary_theory.proofs.Offered.{chain-declares, good-legal}
use Rattle.mz_spec_theory.specs.State.{env_of}
use Rattle.mz_spec_theory.specs.Laws.{OneReading}
use Rattle.mz_spec_proved_theory.specs.Match.{publics, Agrees}
use Rattle.mz_trace.specs.Laws.{MadeProofsProve}
use Rattle.mz_decompile_text.specs.Laws.{StatedTextsAreRead}
use Rattle.mz_decompile_text.specs.Phrasing.{Vocabulary, text_of}
use Rattle.mz_decompile_text.specs.Phrasable.{HasNames}
use Rattle.mz_decompile.specs.Laws.{PlainTextsAreTexts}
use Rattle.mz_mmu_theory.specs.DeclaredNames.{longest_run}
use Rattle.mz_decompile_text.specs.Names.{declared_names, statement_names, vocabulary_of}
use Rattle.mz_prefix.specs.Wording.{longest}
use Rattle.mz_decompile.specs.Restated.{depth_checks, stating_checks, greater_length}
use Rattle.mz_decompile.proofs.Prefixed.{prefix_of, prefixed-named, same-number, same-letter}
use Rattle.mz_decompile.proofs.SpecNames.{spec-names}
use Rattle.mz_decompile.proofs.Titles.{AreTitled, restated-titled}
use Rattle.mz_decompile.proofs.Phrasable.{AreWithin, restated-marked, statements-few, all-phrasable}

-- ---- names of what is numbered

has-names : (L n : ℕ) (ts : List Statement) → n ≤ 2 ^ 64 → HasNames (vocabulary_of (prefix_of L) ts) n
has-names L n ts le = record {
  variables = λ x less. prefixed-named L 118 x refl (omega (arith, less, le));
  hypotheses = λ i less. prefixed-named L 104 i refl (omega (arith, less, le));
  lets = λ k less. prefixed-named L 112 k refl (omega (arith, less, le));
  own_variables = λ x y a b is. same-number L 118 x y (omega (arith, a, le)) (omega (arith, b, le)) is;
  own_hypotheses = λ i j a b is. same-number L 104 i j (omega (arith, a, le)) (omega (arith, b, le)) is;
  own_lets = λ k l a b is. same-number L 112 k l (omega (arith, a, le)) (omega (arith, b, le)) is;
  apart = λ i k a b is. let bad = same-letter L 104 112 i k is in omega (arith, bad);
}

-- ---- sorts

one-counted : (d : Declaration) (ds : List Declaration) → length (sorts (d ∷ ds)) ≡ length (sorts (d ∷ [])) + length (sorts ds)
one-counted (sort_decl m) ds = omega arith
one-counted (term_decl d) ds = omega arith
one-counted (assertion_decl a) ds = omega arith

sorts-counted : (ts : List Statement) → sort_count ts ≡ length (sorts (declarations (marked ts)))
sorts-counted [] = refl
sorts-counted (t ∷ ts) = omega (arith, sorts-counted ts, one-counted t.decl (declarations (marked ts)))

-- a good file has at most 128
sorts-few : (file : List ℕ) (ss : List Marked) → Good strict_standard file ss → length (sorts (declarations ss)) ≤ 128
sorts-few file ss good =
    let taken = (subst (λ (r : Result StmtAt StmtFault). AllHold (checks_of strict_standard file (taken_by good.env) good.to r)) good.ends.ends good.ends.passes).0 in
    let env : good.env ≡ declarations ss = chain-declares (IsGoodStatement strict_standard file) [] (list_at file) ss good.env good.to good.statements in
    omega (arith, taken.sorts_taken, (parts-of_layout file good.layout).few_sorts, ap (λ (ds : List Declaration). length (sorts ds)) env)

-- ---- limits

within-limits : (ts : List Statement) → sort_count ts ≤ 128 → AreWithin ts → byte_bound ts ≤ 4294967295 → IsWithinLimits ts
within-limits ts few (params, bound) short = (
  few,
  all_hold-both (each_within parameter_limit parameter_count 65535 ts) _ params
      (all_hold-both (each_within bound_limit bound_count 55 ts) (within byte_limit (byte_bound ts) 4294967295) bound (short, tt)),
)

bytes-few : (v : Vocabulary) (ts : List Statement) → AllHold (stating_checks v ts) → byte_bound ts ≤ 4294967295
bytes-few v ts all =
    let short : greater_length v ts ≤ longest = (all_hold-rest (depth_checks v 1 ts) _ all).0 in
    omega (arith, short)

-- ---- the text

marked-many : (ts : List Statement) → length (marked ts) ≡ length ts
marked-many [] = refl
marked-many (t ∷ ts) = ap suc (marked-many ts)

pub plain-texts : MadeProofsProve → StatedTextsAreRead → OneReading → GoodFilesSpell → PlainTextsAreTexts
plain-texts proves read reading spells spec bin text bytes small (prefix, ts, restates, all, text-is) =
    let good = restates.accepts.is_good in
    let ss = restates.accepts.statements in
    let names = declared_names spec restates.entries in
    let L = longest_run names in
    let n : ℕ = 2 ^ 32 in
    let (marked-is, named) = restated-marked bin [] (list_at bin) ss (statement_names names prefix 0 1 ss) ts restates.restated in
    let (entries, made, declared) = restates.accepts.is_spec in
    let decls : restates.accepts.declared ≡ env_of restates.entries = declared ∙ ap env_of (reading spec entries restates.entries made restates.makes) in
    let agrees : Agrees (env_of restates.entries) (publics (marked ts)) =
    subst (λ (ds : List Declaration). Agrees ds (publics (marked ts))) decls (subst (λ (xs : List Marked). Agrees restates.accepts.declared (publics xs)) (sym marked-is) restates.accepts.agrees) in
    let few = statements-few bin [] (list_at bin) ss good.env good.to good.statements (parts-of_layout bin good.layout).list in
    let many : length ts ≡ length ss = sym (marked-many ts) ∙ ap length marked-is in
    let named' : map (λ t. t.name) ts ≡ statement_names names (prefix_of L) 0 1 (marked ts) =
    named ∙ ap (λ (xs : List Marked). statement_names names prefix 0 1 xs) (sym marked-is) ∙ ap (λ (p : List ℕ). statement_names names p 0 1 (marked ts)) restates.beside in
    let titled : AreTitled (vocabulary_of (prefix_of L) ts) n [] _ ts =
    restated-titled L names ts (env_of restates.entries) n (omega arith) named' (spec-names spec restates.entries restates.makes) agrees (omega (arith, many, few, small)) in
    let stand : AllHold (stating_checks (vocabulary_of (prefix_of L) ts) ts) = subst (λ (p : List ℕ). AllHold (stating_checks (vocabulary_of p ts) ts)) restates.beside all in
    let low = all_hold-first (depth_checks (vocabulary_of (prefix_of L) ts) 1 ts) _ stand in
    let (phrasable, are-within) = all-phrasable proves bin bytes n (omega arith) (omega (arith, small)) (vocabulary_of (prefix_of L) ts) [] (list_at bin) ss good.env good.to
    (statement_names names prefix 0 1 ss) ts _ 1 good.statements (good-legal strict_standard bin ss good) tt
    (record { sorts_are = refl; terms_are = tt; thms_are = tt }) restates.restated titled low in
    let typed : TextOf false (text_of (vocabulary_of (prefix_of L) ts) ts) ts = read (vocabulary_of (prefix_of L) ts) n ts (has-names L n ts (omega arith)) phrasable in
    let text-same : text ≡ text_of (vocabulary_of (prefix_of L) ts) ts = text-is ∙ ap (λ (p : List ℕ). text_of (vocabulary_of p ts) ts) restates.beside in
    record {
      statements = ts;
      typed = subst (λ (x : List ℕ). TextOf false x ts) (sym text-same) typed;
      spelled = subst (Statements bin) (sym marked-is) (spells strict_standard bin ss good);
      within = within-limits ts (omega (arith, sorts-counted ts, ap (λ (xs : List Marked). length (sorts (declarations xs))) marked-is, sorts-few bin ss good)) are-within
          (bytes-few (vocabulary_of (prefix_of L) ts) ts stand);
    }

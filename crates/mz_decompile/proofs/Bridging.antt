-- Statements that restate a good binary's stand in its list, one after another.
use Rattle.std.proofs.Common.{◌≡◌, ◌∙◌, ◌⊎◌, ◌<◌, ◌≤◌, ◌+◌, ◌++◌, ℕ, Bool, true, false, inl, inr, List, [], ◌∷◌, length, get_or, Option, Some, None, Ok, refl, sym, ap, subst, arith, append_assoc, length-append}
use Rattle.std.specs.Prelude.{Result, MatchBool}
use Rattle.std.proofs.lemmas.List.{append-nil, get_or_at}
use Rattle.std.proofs.lemmas.Option.{slice_get_within}
use Rattle.mz_base.specs.Checks.{AllHold}
use Rattle.mz_cmd.specs.declared.code.StatementCode.{StatementCode}
use Rattle.mz_cmd.specs.declared.code.StatementCode.TheVariants as codes
use Rattle.mz_cmd.specs.declared.statement.StmtAt.{StmtAt}
use Rattle.mz_cmd.specs.declared.statement.StmtAt.TheVariants as stands
use Rattle.mz_cmd.specs.declared.statement.StmtFault.{StmtFault}
use Rattle.mz_cmd.specs.Codes.{statement_byte}
use Rattle.mz_cmd.specs.StatementList.{statement_at}
use Rattle.mz_logic_theory.specs.Signature.{Signature}
use Rattle.mz_logic_theory.specs.Declaration.{Term, Assertion, Declaration, sort_decl, term_decl, assertion_decl, sorts, terms, signatures, assertions}
use Rattle.mz_logic_theory.specs.Legality.{IsLegalEnv}
use Rattle.mz_logic_theory.specs.LegalLists.{Statement as Marked}
use Rattle.mz_logic_theory.specs.declared.binder.Binder.{Binder}
use Rattle.mz_logic_theory.specs.declared.binder.SortMods.{SortMods}
use Rattle.mz_logic_theory.proofs.Offered.{length-binders, length-signatures, slice_get-rows}
use Rattle.mz_layout_tables.specs.Tables.{list_at, term_count, thm_count, term_row, thm_row, tables_of}
use Rattle.mz_layout_tables.proofs.Offered.{length-sorts}
use Rattle.mz_machine_theory.specs.Profile.{strict}
use Rattle.mz_machine_theory.specs.Bodies.{Runs}
use Rattle.mz_layout_tables.specs.Heads.{IsHeadAt, body_bytes, rows_after}
use Rattle.mz_layout_tables.specs.declared.head.Head.{Head}
use Rattle.mz_machine_theory.specs.FileRows.{Taken, taken_by, rows_taken, term_of_file}
use Rattle.mz_layout_tables.specs.RowWords.{first_sorts, param_checks}
use Rattle.mz_machine_theory.specs.MachineState.{Declares}
use Rattle.mz_machine_theory.proofs.Offered.{signature-at}
use Rattle.mz_machine_env.specs.Before.{AreWithin, HasRightParams, taken_before}
use Rattle.mz_machine_env.specs.OwnRow.{MayRun}
use Rattle.mz_machine_theory.specs.Headings.{heading_of}
use Rattle.mz_layout_tables.specs.declared.rows_so_far.Rows.{Rows}
use Rattle.mz_binary_theory.specs.Chains.{IsGoodStatement, GoodTo}
use Rattle.mz_binary_theory.specs.Checking.{checks_of, counts as taken-counts}
use Rattle.mz_binary_theory.specs.Good.{Good}
use Rattle.mz_binary_theory.specs.Spelling.{IsKindOf, SpellsRow, is_local_code}
use Rattle.mz_binary_theory.specs.Standards.{strict_standard}
use Rattle.mz_binary_theory.proofs.Offered.{sorts-many, terms-many, assertions-many, entry-good, same-taken, head-at, well-chain, HasRightRow, right-row, HasSorts, chain-sorts}
use Rattle.mz_binary.specs.Progress.{row_after}
use Rattle.mz_binary.proofs.Offered.{were-right}
use Rattle.mz_mmu_theory.specs.Proof.{Proof}
use Rattle.mz_mmu_theory.specs.Statements.{Statement}
use Rattle.mz_mmu_theory.specs.DeclaredNames.{sort_name, term_name, sort_names, term_names, assertion_name, assertion_names}
use Rattle.mz_trace.specs.Laws.{BodiesMakeOne}
use Rattle.mz_trace.specs.Traces.{Made, under_lets}
use Rattle.mz_trace.specs.Runs.{IsTheoremAt}
use Rattle.mz_decompile_text.specs.Naming.{Naming, vocabulary_by}
use Rattle.mz_decompile_text.specs.Names.{naming_of}
use Rattle.mz_decompile_text.specs.Rows.{AreArities}
use Rattle.mz_decompile.specs.Restated.{IsProofMade, IsRestated, AreRestated}
use Rattle.mz_decompile.specs.Naming.{next_name}
use Rattle.mz_decompile.specs.Telling.{Counts, HasProof, MakesProof, Stands}
use Rattle.mz_decompile.specs.Tracing.{GoodTheoremsStand, rows_of}
use Rattle.mz_binary_walk.specs.Walk.{nothing_passed, passed_with}
use Rattle.mz_binary_walk.specs.declared.passed.Passed.{Passed}
use Rattle.mz_binary_walk.proofs.Offered.{IsOnWay, one-code, way-asks, way-end, way-first, way-on}
use Rattle.mz_decompile.proofs.Theorems.{theorem-asked}
use Rattle.mz_decompile.specs.Standing.{AreStanding, AreAll}

-- ---- names by their places

module _ (part : Declaration → List ℕ → List (List ℕ)) (all : List Statement → List (List ℕ)) (nothing : all [] ≡ [])
    (cut : (t : Statement) (ts : List Statement) → all (t ∷ ts) ≡ part t.decl t.name ++ all ts) where
  all-append : (a b : List Statement) → all (a ++ b) ≡ all a ++ all b
  all-append [] b = sym (ap (λ (x : List (List ℕ)). x ++ all b) nothing)
  all-append (t ∷ a) b =
      cut t (a ++ b) ∙ ap (λ (x : List (List ℕ)). part t.decl t.name ++ x) (all-append a b) ∙ sym (append_assoc (part t.decl t.name) (all a) (all b))
      ∙ ap (λ (x : List (List ℕ)). x ++ all b) (sym (cut t a))

  found : (a : List Statement) (t : Statement) (b : List Statement) (n : ℕ) → part t.decl t.name ≡ t.name ∷ [] → length (all a) ≡ n → t.name ≡ get_or (all (a ++ t ∷ b)) n []
  found a t b n is many =
      sym (ap (λ (x : List (List ℕ)). get_or x n [])
      (all-append a (t ∷ b) ∙ ap (λ (x : List (List ℕ)). all a ++ x) (cut t b ∙ ap (λ (x : List (List ℕ)). x ++ all b) is))
      ∙ get_or_at (all a) t.name (all b) [] n many)

  grown : (a : List Statement) (t : Statement) → length (all (a ++ t ∷ [])) ≡ length (all a) + length (part t.decl t.name)
  grown a t =
      ap length (all-append a (t ∷ []) ∙ ap (λ (x : List (List ℕ)). all a ++ x) (cut t [] ∙ ap (λ (x : List (List ℕ)). part t.decl t.name ++ x) nothing ∙ append-nil (part t.decl t.name)))
      ∙ length-append (all a) (part t.decl t.name)

-- as many of each kind are named as declared
record ArePlaced (ts : List Statement) (env : List Declaration) : Type 0 where
  sorts-are : length (sort_names ts) ≡ length (sorts env)
  terms-are : length (term_names ts) ≡ length (terms env)
  thms-are : length (assertion_names ts) ≡ length (assertions env)

placed-more : (ts : List Statement) (env : List Declaration) (t : Statement) → ArePlaced ts env → ArePlaced (ts ++ t ∷ []) (env ++ t.decl ∷ [])
placed-more ts env t are =
    let x = are.sorts-are in let y = are.terms-are in let z = are.thms-are in record {
      sorts-are = omega (arith, x, grown sort_name sort_names refl (λ t ts. refl) ts t, sorts-many env (t.decl ∷ []), one-sort t.decl);
      terms-are = omega (arith, y, grown term_name term_names refl (λ t ts. refl) ts t, terms-many env (t.decl ∷ []), one-term t.decl);
      thms-are = omega (arith, z, grown assertion_name assertion_names refl (λ t ts. refl) ts t, assertions-many env (t.decl ∷ []), one-thm t.decl);
    }
  where
    one-sort : (d : Declaration) → length (sort_name d t.name) ≡ length (sorts (d ∷ []))
    one-sort (sort_decl m) = refl
    one-sort (term_decl d) = refl
    one-sort (assertion_decl a) = refl

    one-term : (d : Declaration) → length (term_name d t.name) ≡ length (terms (d ∷ []))
    one-term (sort_decl m) = refl
    one-term (term_decl d) = refl
    one-term (assertion_decl a) = refl

    one-thm : (d : Declaration) → length (assertion_name d t.name) ≡ length (assertions (d ∷ []))
    one-thm (sort_decl m) = refl
    one-thm (term_decl d) = refl
    one-thm (assertion_decl a) = refl

named : (prefix : List ℕ) (before : List Statement) (t : Statement) (after : List Statement) (env : List Declaration) → ArePlaced before env
    → t.name ≡ next_name (vocabulary_by (naming_of prefix (before ++ t ∷ after))) env t.decl
named prefix before t after env are = by t.decl refl
  where
    by : (d : Declaration) → t.decl ≡ d → t.name ≡ next_name (vocabulary_by (naming_of prefix (before ++ t ∷ after))) env d
    by (sort_decl m) is = found sort_name sort_names refl (λ t ts. refl) before t after (length (sorts env)) (ap (λ (d : Declaration). sort_name d t.name) is) are.sorts-are
    by (term_decl d) is = found term_name term_names refl (λ t ts. refl) before t after (length (terms env)) (ap (λ (d : Declaration). term_name d t.name) is) are.terms-are
    by (assertion_decl a) is = found assertion_name assertion_names refl (λ t ts. refl) before t after (length (assertions env)) (ap (λ (d : Declaration). assertion_name d t.name) is) are.thms-are

-- ---- signatures

arities : (file : List ℕ) (env : List Declaration) → Declares (rows_taken file (taken_by env)) env → length (terms env) ≤ term_count file → AreArities file (signatures env)
arities file env declares few t d is =
    let within = slice_get_within (signatures env) t d is in
    let many = length-signatures env in
    let there : t < length (terms env) = omega (arith, within, many) in
    let sig = signature-at (rows_taken file (taken_by env)) env declares t (term_of_file file t) (slice_get-rows (term_of_file file) (length (terms env)) t there) in
    let both : Some (term_of_file file t).signature ≡ Some d = sym sig ∙ is in
    let same : (term_of_file file t).signature ≡ d = cc in
    (omega (arith, there, few), sym (ap (λ (s : Signature). length s.params) same) ∙ length-binders 0 [] (term_row file t).words.params)

-- ---- a statement at its place

abbrev there-is : (code body next : ℕ) → Result StmtAt StmtFault
there-is code body next = Ok (stands.Head code body next)

-- the code of what is declared has a byte
byte-known : (n : ℕ) (d : Declaration) → IsKindOf n d → (k : StatementCode) × (n ≡ statement_byte k)
byte-known n (sort_decl m) is = (codes.Sort, is)
byte-known n (term_decl d) (inl is) = (codes.Term, is)
byte-known n (term_decl d) (inr is) = (codes.LocalDefinition, is)
byte-known n (assertion_decl a) is = by a.is_axiom is
  where
    by : (b : Bool) → MatchBool b (n ≡ 0x02) ((n ≡ 0x06) ⊎ (n ≡ 0x0E)) → (k : StatementCode) × (n ≡ statement_byte k)
    by true e = (codes.Axiom, e)
    by false (inl e) = (codes.Theorem, e)
    by false (inr e) = (codes.LocalTheorem, e)

module _ (one : BodiesMakeOne) (file : List ℕ) (env : List Declaration) (at : ℕ) (s : Marked) (next : ℕ) (good : IsGoodStatement strict_standard file env at s next)
    (done : List Marked) (chain : GoodTo strict_standard file [] (list_at file) done env at) (before : Rows) (counts : Counts env before) (within : AreWithin file before) where
  so-far : IsLegalEnv env × Declares (rows_taken file (taken_by env)) env
  so-far = well-chain strict_standard file [] (list_at file) done env at chain tt (record { sorts_are = refl; terms_are = tt; thms_are = tt })

  sorts-are : HasSorts file env
  sorts-are = chain-sorts strict_standard file [] (list_at file) done env at chain refl

  first-are : first_sorts file before.sorts ≡ sorts env
  first-are = ap (first_sorts file) counts.sorts_are ∙ sym sorts-are

  taken-are : taken_by env ≡ taken_before file before
  taken-are = same-taken (taken_by env) (taken_before file before) (sym first-are) (sym counts.terms_are) (sym counts.thms_are)

  module _ (a : Assertion) (is : s.decl ≡ assertion_decl a) (theorem : a.is_axiom ≡ false) where
    row-here : SpellsRow file env (assertion_decl a)
    row-here = subst (SpellsRow file env) is good.spelled.row

    body-runs : Runs strict (rows_taken file (taken_by env)) (heading_of file 0x06 (length (assertions env))) good.spelled.body (body_bytes file good.spelled.body next)
    body-runs =
        let kind : IsKindOf good.spelled.code (assertion_decl a) = subst (IsKindOf good.spelled.code) is good.spelled.kind.0 in
        let asked = theorem-asked file env at good.spelled.code good.spelled.body next
        (subst (λ b. MatchBool b (good.spelled.code ≡ 0x02) ((good.spelled.code ≡ 0x06) ⊎ (good.spelled.code ≡ 0x0E))) theorem kind)
        (subst (λ (r : Result StmtAt StmtFault). AllHold (checks_of strict_standard file (taken_by env) at r)) good.spelled.stands good.passes) in
        (entry-good strict_standard file (taken_by env) at good.spelled.body next codes.Theorem asked).2

    right-params : HasRightParams file before.sorts before.thms
    right-params =
        let here : AllHold (param_checks (sorts env) (thm_row file (length (assertions env))).words_at (thm_row file (length (assertions env))).params) =
        right-by (s.decl) is (right-row strict_standard file env at s next good) in
        subst (λ (ss : List SortMods). AllHold (param_checks ss (thm_row file before.thms).words_at (thm_row file before.thms).params)) (sym first-are)
        (subst (λ (i : ℕ). AllHold (param_checks (sorts env) (thm_row file i).words_at (thm_row file i).params)) (sym counts.thms_are) here)
      where
        right-by : (d : Declaration) → d ≡ assertion_decl a → HasRightRow file env d
            → AllHold (param_checks (sorts env) (thm_row file (length (assertions env))).words_at (thm_row file (length (assertions env))).params)
        right-by d same right = subst (HasRightRow file env) same right

    may-run : MayRun file 0x06 before.thms before
    may-run =
        let right = were-right strict_standard file (list_at file) done env at chain in
        let x = counts.sorts_are in let y = counts.terms_are in let z = counts.thms_are in record {
          kinds = inr (inr refl);
          within = within;
          next = (refl, subst (λ (i : ℕ). i < thm_count file) (sym z) row-here.0, right-params);
          terms_right = λ t below. let (n, few, words) = right.of_terms t (omega (arith, below, y)) in (n, omega (arith, few, x), words);
          thms_right = λ i below. let (n, few, words) = right.of_thms i (omega (arith, below, z)) in (n, omega (arith, few, x), words);
        }

    makes : (dummies : List Binder) (p : Option Proof) (lets : List Proof) (root : Proof) → p ≡ Some (under_lets lets root)
        → Made (rows_taken file (taken_by env)) (heading_of file 0x06 (length (assertions env))) (body_bytes file good.spelled.body next) dummies lets root
        → MakesProof file before env good.spelled.body next dummies p
    makes dummies p lets root is-proof made =
        let command = head-at file at good.spelled.code good.spelled.body next good.spelled.stands in
        let z = sym counts.thms_are in record {
          may_run = may-run;
          order = command.order;
          within = command.within;
          runs = subst (λ (t : Taken). Runs strict (rows_taken file t) (heading_of file 0x06 before.thms) good.spelled.body (body_bytes file good.spelled.body next)) taken-are
              (subst (λ (i : ℕ). Runs strict (rows_taken file (taken_by env)) (heading_of file 0x06 i) good.spelled.body (body_bytes file good.spelled.body next)) z body-runs);
          declares = subst (λ (t : Taken). Declares (rows_taken file t) env) taken-are so-far.1;
          one = λ ds others last other-made.
              let back = subst (λ (i : ℕ). Made (rows_taken file (taken_by env)) (heading_of file 0x06 i) (body_bytes file good.spelled.body next) ds others last) counts.thms_are
              (subst (λ (t : Taken). Made (rows_taken file t) (heading_of file 0x06 before.thms) (body_bytes file good.spelled.body next) ds others last) (sym taken-are) other-made) in
              let same = one (rows_taken file (taken_by env)) (heading_of file 0x06 (length (assertions env))) (body_bytes file good.spelled.body next) dummies ds lets others root last made back in
              (same.0, is-proof ∙ ap (λ (ps : List Proof). Some (under_lets ps root)) same.1 ∙ ap (λ (r : Proof). Some (under_lets others r)) same.2);
        }

  has-proof : (dummies : List Binder) (p : Option Proof) (d : Declaration) → s.decl ≡ d → IsProofMade file env good.spelled.body next d dummies p
      → HasProof file before env good.spelled.body next d dummies p
  has-proof dummies p (sort_decl m) is made = made
  has-proof dummies p (term_decl d) is made = made
  has-proof dummies p (assertion_decl a) is made = by a.is_axiom refl made
    where
      by : (b : Bool) → a.is_axiom ≡ b
          → MatchBool b ((dummies ≡ []) × (p ≡ None)) ((lets : List Proof) × (root : Proof) × (p ≡ Some (under_lets lets root))
          × Made (rows_taken file (taken_by env)) (heading_of file 0x06 (length (assertions env))) (body_bytes file good.spelled.body next) dummies lets root)
          → MatchBool b ((dummies ≡ []) × (p ≡ None)) (MakesProof file before env good.spelled.body next dummies p)
      by true same made = made
      by false same (lets, root, is-proof, made) = makes a is same dummies p lets root is-proof made

  head-byte : (k : StatementCode) × (good.spelled.code ≡ statement_byte k)
  head-byte = byte-known good.spelled.code s.decl good.spelled.kind.0

  abbrev head-of : Head
  head-of = record { code = head-byte.0; at = at; body = good.spelled.body; next = next }

  head-stands : IsHeadAt file at head-of
  head-stands = record { stands = subst (λ (n : ℕ). statement_at file at ≡ there-is n good.spelled.body next) head-byte.1 good.spelled.stands; at_is = refl }

  stands-here : (naming : Naming) (name : List ℕ) (t : Statement) (r : IsRestated file env at s next name t) → t.name ≡ next_name (vocabulary_by naming) env t.decl
      → Stands file naming before env head-of t
  stands-here naming name t r named-so =
      let both : Ok (stands.Head good.spelled.code good.spelled.body next) ≡ Ok (stands.Head r.code r.body next) = sym good.spelled.stands ∙ r.stands in
      let body-is : good.spelled.body ≡ r.body = cc in
      let made = subst (λ (b : ℕ). IsProofMade file env b next s.decl t.dummies t.proof) (sym body-is) r.proof in
      record {
        kind = subst (λ (d : Declaration). IsKindOf (statement_byte head-byte.0) d) (sym r.declares) (subst (λ (c : ℕ). IsKindOf c s.decl) head-byte.1 good.spelled.kind.0);
        mark = r.mark ∙ good.spelled.kind.1 ∙ ap is_local_code head-byte.1;
        counts = counts;
        named = named-so;
        row = subst (SpellsRow file env) (sym r.declares) good.spelled.row;
        arities = arities file env so-far.1 (let x = within.terms_within in let y = counts.terms_are in omega (arith, x, y));
        proof = subst (λ (d : Declaration). HasProof file before env good.spelled.body next d t.dummies t.proof) (sym r.declares) (has-proof t.dummies t.proof s.decl refl made);
      }

-- ---- one row more

counted : (env : List Declaration) (rows : Rows) → rows ≡ taken-counts (taken_by env) → Counts env rows
counted env rows is = record { sorts_are = ap (λ (r : Rows). r.sorts) is; terms_are = ap (λ (r : Rows). r.terms) is; thms_are = ap (λ (r : Rows). r.thms) is }

module _ (file : List ℕ) (env : List Declaration) (before : Rows) (counts : Counts env before) (within : AreWithin file before) where
  abbrev Within : StatementCode → Type 0
  Within k = AreWithin file (rows_after before k)

  sorts-within : (m : SortMods) → SpellsRow file env (sort_decl m) → Within codes.Sort
  sorts-within m row =
      let x = counts.sorts_are in let there = slice_get_within (tables_of file).sorts (length (sorts env)) m row in let all = length-sorts file in
      record { sorts_within = omega (arith, x, there, all); terms_within = within.terms_within; thms_within = within.thms_within }

  terms-within : (d : Term) → SpellsRow file env (term_decl d) → Within codes.Term
  terms-within d row =
      let x = counts.terms_are in let there = row.0 in
      record { sorts_within = within.sorts_within; terms_within = omega (arith, x, there); thms_within = within.thms_within }

  thms-within : (a : Assertion) → SpellsRow file env (assertion_decl a) → Within codes.Axiom
  thms-within a row =
      let x = counts.thms_are in let there = row.0 in
      record { sorts_within = within.sorts_within; terms_within = within.terms_within; thms_within = omega (arith, x, there) }

  within-more : (k : StatementCode) (d : Declaration) → IsKindOf (statement_byte k) d → SpellsRow file env d → Within k
  within-more k (sort_decl m) is row = subst Within (sym (one-code k codes.Sort is)) (sorts-within m row)
  within-more k (term_decl d) (inl is) row = subst Within (sym (one-code k codes.Term is)) (terms-within d row)
  within-more k (term_decl d) (inr is) row = subst Within (sym (one-code k codes.LocalDefinition is)) (terms-within d row)
  within-more k (assertion_decl a) is row = by a.is_axiom is
    where
      by : (b : Bool) → MatchBool b (statement_byte k ≡ 0x02) ((statement_byte k ≡ 0x06) ⊎ (statement_byte k ≡ 0x0E)) → Within k
      by true e = subst Within (sym (one-code k codes.Axiom e)) (thms-within a row)
      by false (inl e) = subst Within (sym (one-code k codes.Theorem e)) (thms-within a row)
      by false (inr e) = subst Within (sym (one-code k codes.LocalTheorem e)) (thms-within a row)

-- ---- the whole list

module _ (one : BodiesMakeOne) (file : List ℕ) (prefix : List ℕ) where
  all-standing : (p : Passed) (whole done ss : List Marked) (env : List Declaration) → IsOnWay file p whole done ss env → AreWithin file p.rows
      → (told : List Statement) → ArePlaced told env → (names : List (List ℕ)) (ts : List Statement) → AreRestated file env p.at ss names ts
      → AreStanding file (naming_of prefix (told ++ ts)) p env ts
  all-standing p whole done [] env way within told placed [] [] are = (way-asks file p whole done [] env way, way-end file p whole done env way)
  all-standing p whole done [] env way within told placed [] (t ∷ ts) are = absurd are
  all-standing p whole done [] env way within told placed (name ∷ names) ts are = absurd are
  all-standing p whole done (s ∷ ss) env way within told placed [] ts are = absurd are
  all-standing p whole done (s ∷ ss) env way within told placed (name ∷ names) [] are = absurd are
  all-standing p whole done (s ∷ ss) env way within told placed (name ∷ names) (t ∷ ts) (next', restated', rest') =
      let next = way.left.0 in
      let good = way.left.1 in
      let both : Ok (stands.Head restated'.code restated'.body next') ≡ Ok (stands.Head good.spelled.code good.spelled.body next) = sym restated'.stands ∙ good.spelled.stands in
      let next-is : next' ≡ next = cc in
      let restated = subst (λ (n : ℕ). IsRestated file env p.at s n name t) next-is restated' in
      let rest = subst (λ (n : ℕ). AreRestated file (env ++ s.decl ∷ []) n ss names ts) next-is rest' in
      let naming = naming_of prefix (told ++ t ∷ ts) in
      let counts = counted env p.rows way.rows_are in
      let head = head-of one file env p.at s next good done way.gone p.rows counts within in
      let there = head-stands one file env p.at s next good done way.gone p.rows counts within in
      let here = stands-here one file env p.at s next good done way.gone p.rows counts within naming name t restated (named prefix told t ts env placed) in
      let decl-is = restated.declares in
      let kind = subst (IsKindOf (statement_byte head.code)) decl-is here.kind in
      let more-placed = subst (λ (d : Declaration). ArePlaced (told ++ t ∷ []) (env ++ d ∷ [])) decl-is (placed-more told env t placed) in
      let behind = all-standing (passed_with p head) whole (done ++ s ∷ []) ss (env ++ s.decl ∷ []) (way-on file p whole done s ss env head way there).1
      (within-more file env p.rows counts within head.code s.decl kind good.spelled.row) (told ++ t ∷ []) more-placed names ts rest in (
        head,
        way-asks file p whole done (s ∷ ss) env way,
        there,
        here,
        subst (λ (d : Declaration). AreStanding file naming (passed_with p head) (env ++ d ∷ []) ts) (sym decl-is)
            (subst (λ (x : List Statement). AreStanding file (naming_of prefix x) (passed_with p head) (env ++ s.decl ∷ []) ts) (append_assoc told (t ∷ []) ts) behind),
      )

  -- all statements of a good binary
  pub good-standing : (ss : List Marked) → Good strict_standard file ss → (names : List (List ℕ)) (ts : List Statement) → AreRestated file [] (list_at file) ss names ts
      → AreAll file (naming_of prefix ts) ts
  good-standing ss good names ts are =
      all-standing (nothing_passed file) ss [] ss [] (way-first file ss good) (record { sorts_within = omega arith; terms_within = omega arith; thms_within = omega arith })
      [] (record { sorts-are = refl; terms-are = refl; thms-are = refl }) names ts are

-- ---- what is asked where a theorem is traced

within-more-rows : (file : List ℕ) (env : List Declaration) (d : Declaration) → AreWithin file (rows_of env) → SpellsRow file env d → AreWithin file (rows_of (env ++ d ∷ []))
within-more-rows file env d within row = go d row
  where
    counts : Counts env (rows_of env)
    counts = record { sorts_are = refl; terms_are = refl; thms_are = refl }

    by : (k : StatementCode) (e : Declaration) → AreWithin file (rows_after (rows_of env) k) → length (sorts (env ++ e ∷ [])) ≤ (rows_after (rows_of env) k).sorts
        → length (terms (env ++ e ∷ [])) ≤ (rows_after (rows_of env) k).terms → length (assertions (env ++ e ∷ [])) ≤ (rows_after (rows_of env) k).thms → AreWithin file (rows_of (env ++ e ∷ []))
    by k e w a b c = record { sorts_within = omega (arith, w.sorts_within, a); terms_within = omega (arith, w.terms_within, b); thms_within = omega (arith, w.thms_within, c) }

    go : (e : Declaration) → SpellsRow file env e → AreWithin file (rows_of (env ++ e ∷ []))
    go (sort_decl m) there =
        by codes.Sort (sort_decl m) (sorts-within file env (rows_of env) counts within m there)
        (omega (arith, sorts-many env (sort_decl m ∷ []))) (omega (arith, terms-many env (sort_decl m ∷ []))) (omega (arith, assertions-many env (sort_decl m ∷ [])))
    go (term_decl t) there =
        by codes.Term (term_decl t) (terms-within file env (rows_of env) counts within t there)
        (omega (arith, sorts-many env (term_decl t ∷ []))) (omega (arith, terms-many env (term_decl t ∷ []))) (omega (arith, assertions-many env (term_decl t ∷ [])))
    go (assertion_decl a) there =
        by codes.Axiom (assertion_decl a) (thms-within file env (rows_of env) counts within a there)
        (omega (arith, sorts-many env (assertion_decl a ∷ []))) (omega (arith, terms-many env (assertion_decl a ∷ []))) (omega (arith, assertions-many env (assertion_decl a ∷ [])))

chain-within : (file : List ℕ) (env : List Declaration) (from : ℕ) (ss : List Marked) (env' : List Declaration) (to : ℕ) → GoodTo strict_standard file env from ss env' to
    → AreWithin file (rows_of env) → AreWithin file (rows_of env')
chain-within file env from [] env' to chain within = subst (λ (e : List Declaration). AreWithin file (rows_of e)) (sym chain.0) within
chain-within file env from (s ∷ ss) env' to (next, good, rest) within =
    chain-within file (env ++ s.decl ∷ []) next ss env' to rest (within-more-rows file env s.decl within good.spelled.row)

pub good-theorems-stand : BodiesMakeOne → GoodTheoremsStand
good-theorems-stand one file done env at s next chain good a is theorem told n tells =
    let before = rows_of env in
    let counts : Counts env before = record { sorts_are = refl; terms_are = refl; thms_are = refl } in
    let within = chain-within file [] (list_at file) done env at chain (record { sorts_within = omega arith; terms_within = omega arith; thms_within = omega arith }) in
    let here : IsTheoremAt file at (length (assertions env)) before = record {
      code = good.spelled.code;
      body = good.spelled.body;
      next = next;
      stands = good.spelled.stands;
      runs = (
        may-run one file env at s next good done chain before counts within a is theorem,
        subst (λ (t : Taken). Runs strict (rows_taken file t) (heading_of file 0x06 (length (assertions env))) good.spelled.body (body_bytes file good.spelled.body next))
            (taken-are one file env at s next good done chain before counts within) (body-runs one file env at s next good done chain before counts within a is theorem),
      );
    } in
    subst (λ (p : ℕ). IsTheoremAt file p told.row before) (sym tells.place)
    (subst (λ (r : ℕ). IsTheoremAt file at r before) (sym (tells.row ∙ ap (row_after env) is)) here)

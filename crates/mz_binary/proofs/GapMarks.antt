-- The flags of tainted theorems, as the list of statements goes on.
use Rattle.std.proofs.Common.{◌≡◌, ◌∙◌, ◌+◌, ◌⊎◌, ℕ, Bool, true, false, not, List, [], ◌∷◌, ◌++◌, length, Some, Ok, refl, sym, ap, subst, inl, inr, arith, length-append, append-nil}
use Rattle.std.specs.Prelude.{◌↔◌, MatchBool}
use Rattle.mz_cmd.specs.declared.code.StatementCode.{StatementCode}
use Rattle.mz_cmd.specs.declared.code.StatementCode.TheVariants as codes
use Rattle.mz_cmd.specs.declared.statement.StmtAt.TheVariants.{Head}
use Rattle.mz_cmd.specs.Codes.{statement_byte}
use Rattle.mz_cmd.specs.StatementList.{statement_at}
use Rattle.mz_logic_theory.specs.Declaration.{Declaration, Assertion, sort_decl, term_decl, assertion_decl, assertions}
use Rattle.mz_logic_theory.specs.LegalLists.{Statement}
use Rattle.mz_layout_tables.specs.Tables.{list_at, thm_row}
use Rattle.mz_layout_tables.specs.Heads.{body_bytes}
use Rattle.mz_machine_theory.specs.Lists.{assertion_of}
use Rattle.mz_machine_theory.specs.Sound.{HasGap}
use Rattle.mz_machine_theory.specs.FileRows.{Taken, thm_of_file}
use Rattle.mz_binary_theory.specs.Checking.{counts}
use Rattle.mz_binary_theory.specs.FileRun.{test_params, test_row, Found, stands_alone, has_body, with_thm, find_thm_parts, find_parts, find_kind}
use Rattle.mz_binary_theory.proofs.Offered.{then-ok, found-is, bodies-many, bodies-more, gapped-within, marks-with, new-gapped, no-assertion}
use Rattle.mz_binary_theory.specs.Chains.{GoodTo}
use Rattle.mz_binary_theory.specs.Gapped.{AssertionBody, body_there, body_of, bodies_of, IsGapped, GappedIn, IsMarked, AreMarks, CitesMarked}
use Rattle.mz_binary.specs.Progress.{is_theorem_kind, is_assertion_kind, marks_past}
use Rattle.mz_binary_theory.specs.Spelling.{IsKindOf}
use Rattle.mz_binary_theory.specs.Standards.{Standard}

-- ---- what a kind says of the body

-- an axiom or theorem has one; another has none
abbrev pub KindTells : StatementCode → Declaration → Type 0
KindTells k d = MatchBool (is_assertion_kind k) ((a : Assertion) × (d ≡ assertion_decl a) × (a.is_axiom ≡ not (is_theorem_kind k))) ((file : List ℕ) (at : ℕ) → body_of file at d ≡ [])

axiom-is : (n : ℕ) (b : Bool) → n ≡ 0x02 → MatchBool b (n ≡ 0x02) ((n ≡ 0x06) ⊎ (n ≡ 0x0E)) → b ≡ true
axiom-is n true is h = refl
axiom-is n false is (inl e) = absurd (omega (arith, is, e))
axiom-is n false is (inr e) = absurd (omega (arith, is, e))

theorem-is : (n : ℕ) (b : Bool) → (n ≡ 0x02 → ⊥) → MatchBool b (n ≡ 0x02) ((n ≡ 0x06) ⊎ (n ≡ 0x0E)) → b ≡ false
theorem-is n true other h = absurd (other h)
theorem-is n false other h = refl

pub kind-tells : (k : StatementCode) (d : Declaration) → IsKindOf (statement_byte k) d → KindTells k d
kind-tells codes.Sort (sort_decl m) h = λ file at. refl
kind-tells codes.Sort (term_decl t) h = λ file at. refl
kind-tells codes.Sort (assertion_decl a) h = absurd (no-assertion 0x04 a.is_axiom (inl refl) h)
kind-tells codes.Term (sort_decl m) h = λ file at. refl
kind-tells codes.Term (term_decl t) h = λ file at. refl
kind-tells codes.Term (assertion_decl a) h = absurd (no-assertion 0x05 a.is_axiom (inr (inl refl)) h)
kind-tells codes.LocalDefinition (sort_decl m) h = λ file at. refl
kind-tells codes.LocalDefinition (term_decl t) h = λ file at. refl
kind-tells codes.LocalDefinition (assertion_decl a) h = absurd (no-assertion 0x0D a.is_axiom (inr (inr refl)) h)
kind-tells codes.Axiom (sort_decl m) h = absurd (omega (arith, h))
kind-tells codes.Axiom (term_decl t) (inl h) = absurd (omega (arith, h))
kind-tells codes.Axiom (term_decl t) (inr h) = absurd (omega (arith, h))
kind-tells codes.Axiom (assertion_decl a) h = (a, refl, axiom-is 0x02 a.is_axiom refl h)
kind-tells codes.Theorem (sort_decl m) h = absurd (omega (arith, h))
kind-tells codes.Theorem (term_decl t) (inl h) = absurd (omega (arith, h))
kind-tells codes.Theorem (term_decl t) (inr h) = absurd (omega (arith, h))
kind-tells codes.Theorem (assertion_decl a) h = (a, refl, theorem-is 0x06 a.is_axiom (λ e. omega (arith, e)) h)
kind-tells codes.LocalTheorem (sort_decl m) h = absurd (omega (arith, h))
kind-tells codes.LocalTheorem (term_decl t) (inl h) = absurd (omega (arith, h))
kind-tells codes.LocalTheorem (term_decl t) (inr h) = absurd (omega (arith, h))
kind-tells codes.LocalTheorem (assertion_decl a) h = (a, refl, theorem-is 0x0E a.is_axiom (λ e. omega (arith, e)) h)

-- ---- one statement more

opposite : (t x : Bool) → x ≡ not t → (x ≡ false) ↔ (t ≡ true)
opposite true x is = (λ _. refl, λ _. is)
opposite false x is = (λ no_. absurd (let bad : true ≡ false = sym is ∙ no_ in cc), λ no_. absurd cc)

-- the flags after it, and whether the new one is a tainted theorem's
pub record NewMark (file : List ℕ) (ss : List Statement) (at : ℕ) (s : Statement) (k : StatementCode) (marks : List Bool) (gap : Bool) (row : ℕ) : Type 0 where
  pub are : AreMarks file (ss ++ s ∷ []) marks
  pub told : (gap ≡ true) ↔ GappedIn file (ss ++ s ∷ []) row

module _ (standard : Standard) (file : List ℕ) (ss : List Statement) (env : List Declaration) (at : ℕ) (chain : GoodTo standard file [] (list_at file) ss env at) (s : Statement)
    (k : StatementCode) (body next : ℕ) (stands : statement_at file at ≡ Ok (Head (statement_byte k) body next)) (tells : KindTells k s.decl)
    (marks : List Bool) (are : AreMarks file ss marks) (gap : Bool)
    (why : (gap ≡ true) ↔ ((is_theorem_kind k ≡ true) × (HasGap (body_bytes file body next) ⊎ CitesMarked (body_bytes file body next) marks))) where
  row-is : length (assertions env) ≡ length (bodies_of file ss)
  row-is = let many = bodies-many standard file [] (list_at file) ss env at chain in omega (arith, many)

  -- another statement
  other : is_assertion_kind k ≡ false → is_theorem_kind k ≡ false → body_of file at s.decl ≡ [] → NewMark file ss at s k marks gap (length (assertions env))
  other no_ none empty =
      let same : bodies_of file (ss ++ s ∷ []) ≡ bodies_of file ss = bodies-more standard file [] (list_at file) ss env at chain s ∙ ap (λ xs. bodies_of file ss ++ xs) empty ∙ append-nil (bodies_of file ss) in
      record {
        are = record {
          many = are.many ∙ sym (ap (λ xs. length xs) same);
          each = λ T. subst (λ bs. IsMarked marks T ↔ IsGapped bs T) (sym same) (are.each T);
        };
        told = (
          λ h. absurd (let bad : false ≡ true = sym none ∙ (why.0 h).0 in cc),
          λ g. absurd (let lt = gapped-within (bodies_of file ss) (length (assertions env)) (subst (λ bs. IsGapped bs (length (assertions env))) same g) in omega (arith, lt, row-is)),
        );
      }

  -- an axiom or theorem
  assertion : (a : Assertion) → s.decl ≡ assertion_decl a → a.is_axiom ≡ not (is_theorem_kind k) → NewMark file ss at s k (marks ++ gap ∷ []) gap (length (assertions env))
  assertion a is kind =
      let b : AssertionBody = record { is_axiom = a.is_axiom; bytes = body_there file (statement_at file at) } in
      let same : bodies_of file (ss ++ s ∷ []) ≡ bodies_of file ss ++ b ∷ [] = bodies-more standard file [] (list_at file) ss env at chain s ∙ ap (λ d. bodies_of file ss ++ body_of file at d) is in
      let bytes : b.bytes ≡ body_bytes file body next = ap (body_there file) stands in
      let new : IsGapped (bodies_of file ss ++ b ∷ []) (length (bodies_of file ss)) ↔ ((b.is_axiom ≡ false) × (HasGap b.bytes ⊎ CitesMarked b.bytes marks)) = new-gapped (bodies_of file ss) marks are.many are.each b in
      let theorem : (b.is_axiom ≡ false) ↔ (is_theorem_kind k ≡ true) = opposite (is_theorem_kind k) b.is_axiom kind in
      let said : (gap ≡ true) ↔ IsGapped (bodies_of file ss ++ b ∷ []) (length (bodies_of file ss)) = (
        λ h. (let (t, w) = why.0 h in new.1 (theorem.1 t, subst (λ bs. HasGap bs ⊎ CitesMarked bs marks) (sym bytes) w)),
        λ g. (let (t, w) = new.0 g in why.1 (theorem.0 t, subst (λ bs. HasGap bs ⊎ CitesMarked bs marks) bytes w)),
      ) in
      record {
        are = record {
          many = length-append marks (gap ∷ []) ∙ ap (λ n. n + 1) are.many ∙ sym (length-append (bodies_of file ss) (b ∷ [])) ∙ sym (ap (λ xs. length xs) same);
          each = λ T. subst (λ bs. IsMarked (marks ++ gap ∷ []) T ↔ IsGapped bs T) (sym same) (marks-with (bodies_of file ss) marks are.many are.each b gap said T);
        };
        told = subst (λ bs. (gap ≡ true) ↔ IsGapped bs (length (assertions env))) (sym same) (subst (λ n. (gap ≡ true) ↔ IsGapped (bodies_of file ss ++ b ∷ []) n) (sym row-is) said);
      }

  pub new-mark : NewMark file ss at s k (marks_past true k gap marks) gap (length (assertions env))
  new-mark = go k tells assertion other
    where
      go : (k : StatementCode) → KindTells k s.decl → ((a : Assertion) → s.decl ≡ assertion_decl a → a.is_axiom ≡ not (is_theorem_kind k) → NewMark file ss at s k (marks ++ gap ∷ []) gap (length (assertions env)))
          → (is_assertion_kind k ≡ false → is_theorem_kind k ≡ false → body_of file at s.decl ≡ [] → NewMark file ss at s k marks gap (length (assertions env)))
          → NewMark file ss at s k (marks_past true k gap marks) gap (length (assertions env))
      go codes.Sort t some none = none refl refl (t file at)
      go codes.Term t some none = none refl refl (t file at)
      go codes.LocalDefinition t some none = none refl refl (t file at)
      go codes.Axiom (a, is, kind) some none = some a is kind
      go codes.Theorem (a, is, kind) some none = some a is kind
      go codes.LocalTheorem (a, is, kind) some none = some a is kind

-- ---- without a body

-- no axiom or theorem stands without one
alone-thm : (file : List ℕ) (taken : Taken) (body next : ℕ) (w : Bool) (after : Taken) (to : ℕ) → find_thm_parts file taken body next w ≡ Ok (stands_alone after to) → ⊥
alone-thm file taken body next w after to e =
    let runs : Found = has_body (with_thm taken) next (assertion_of w (thm_of_file file taken.thms)) body (body_bytes file body next) in
    let same : runs ≡ stands_alone after to =
    found-is runs (stands_alone after to) (then-ok (test_params taken.sorts (thm_row file taken.thms).words_at (thm_row file taken.thms).params) (Ok runs) (stands_alone after to) e) in
    cc

alone-parts : (file : List ℕ) (taken : Taken) (at body next : ℕ) (after : Taken) (to : ℕ) (k : StatementCode) → find_parts file taken at body next k ≡ Ok (stands_alone after to) → is_assertion_kind k ≡ false
alone-parts file taken at body next after to codes.Sort e = refl
alone-parts file taken at body next after to codes.Term e = refl
alone-parts file taken at body next after to codes.LocalDefinition e = refl
alone-parts file taken at body next after to codes.Axiom e = absurd (alone-thm file taken body next true after to e)
alone-parts file taken at body next after to codes.Theorem e = absurd (alone-thm file taken body next false after to e)
alone-parts file taken at body next after to codes.LocalTheorem e = absurd (alone-thm file taken body next false after to e)

pub alone-kind : (file : List ℕ) (taken : Taken) (at body next : ℕ) (after : Taken) (to : ℕ) (k : StatementCode) → find_kind file taken at body next (Some k) ≡ Ok (stands_alone after to) → is_assertion_kind k ≡ false
alone-kind file taken at body next after to k e =
    alone-parts file taken at body next after to k (then-ok (test_row file (counts taken) at k) (find_parts file taken at body next k) (stands_alone after to) e)

pub theorem-too : (k : StatementCode) → is_assertion_kind k ≡ false → is_theorem_kind k ≡ true → ⊥
theorem-too codes.Sort no_ is = absurd cc
theorem-too codes.Term no_ is = absurd cc
theorem-too codes.LocalDefinition no_ is = absurd cc
theorem-too codes.Axiom no_ is = absurd cc
theorem-too codes.Theorem no_ is = absurd cc
theorem-too codes.LocalTheorem no_ is = absurd cc

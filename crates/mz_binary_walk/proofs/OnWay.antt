-- The walk along the statements of a good file: those that were passed, and those that are left.
use Rattle.std.proofs.Common.{◌≡◌, ◌∙◌, ◌⊎◌, ◌+◌, ℕ, Bool, true, false, List, [], ◌∷◌, ◌++◌, length, Ok, refl, sym, ap, subst, inl, inr, append_assoc, arith}
use Rattle.std.specs.Prelude.{MatchBool}
use Rattle.mz_base.specs.Checks.{AllHold}
use Rattle.mz_base.proofs.Offered.{all_hold-first}
use Rattle.mz_cmd.specs.declared.code.StatementCode.{StatementCode}
use Rattle.mz_cmd.specs.declared.code.StatementCode.TheVariants as codes
use Rattle.mz_cmd.specs.declared.statement.StmtAt.TheVariants.{End, Head as AHead}
use Rattle.mz_cmd.specs.Codes.{statement_byte}
use Rattle.mz_cmd.specs.StatementList.{statement_at}
use Rattle.mz_logic_theory.specs.Declaration.{Assertion, Declaration, Term, sort_decl, term_decl, assertion_decl, sorts, terms, assertions}
use Rattle.mz_logic_theory.specs.LegalLists.{Statement}
use Rattle.mz_layout_tables.specs.Heads.{IsHeadAt, head_checks, rows_after}
use Rattle.mz_layout_tables.specs.Tables.{list_at}
use Rattle.mz_layout_tables.specs.declared.head.Head.{Head}
use Rattle.mz_layout_tables.specs.declared.rows_so_far.Rows.{Rows}
use Rattle.mz_machine_theory.specs.FileRows.{taken_by}
use Rattle.mz_binary_theory.specs.Chains.{GoodTo, IsGoodStatement, IsListEnd}
use Rattle.mz_binary_theory.specs.Checking.{counts, list_checks, rest_checks}
use Rattle.mz_binary_theory.specs.Good.{Good}
use Rattle.mz_binary_theory.specs.Spelling.{HasKind, IsKindOf}
use Rattle.mz_binary_theory.specs.Standards.{strict_standard}
use Rattle.mz_binary_theory.proofs.Offered.{assertions-many, chain-more, sorts-many, terms-many}
use Rattle.mz_binary_walk.specs.Walk.{nothing_passed, passed_with}
use Rattle.mz_binary_walk.specs.declared.passed.Passed.{Passed}
use Rattle.mz_binary_walk.proofs.Heads.{head-here, one-code}

-- ---- the rows of one declaration more

same-rows : (a b : Rows) → a.sorts ≡ b.sorts → a.terms ≡ b.terms → a.thms ≡ b.thms → a ≡ b
same-rows a b s t u =
    ap (λ (n : ℕ). record { sorts = n; terms = a.terms; thms = a.thms }) s ∙ ap (λ (n : ℕ). record { sorts = b.sorts; terms = n; thms = a.thms }) t
    ∙ ap (λ (n : ℕ). record { sorts = b.sorts; terms = b.terms; thms = n }) u

module _ (env : List Declaration) (d : Declaration) where
  -- by how many rows of each table the declaration adds
  by-rows : (rows : Rows) → rows.sorts ≡ length (sorts env) + length (sorts (d ∷ [])) → rows.terms ≡ length (terms env) + length (terms (d ∷ []))
      → rows.thms ≡ length (assertions env) + length (assertions (d ∷ [])) → counts (taken_by (env ++ d ∷ [])) ≡ rows
  by-rows rows s t u =
      same-rows (counts (taken_by (env ++ d ∷ []))) rows (sorts-many env (d ∷ []) ∙ sym s) (terms-many env (d ∷ []) ∙ sym t) (assertions-many env (d ∷ []) ∙ sym u)

module _ (env : List Declaration) where
  abbrev Grow : Declaration → StatementCode → Type 0
  Grow d k = counts (taken_by (env ++ d ∷ [])) ≡ rows_after (counts (taken_by env)) k

  terms-more : (t : Term) → Grow (term_decl t) codes.Term
  terms-more t = by-rows env (term_decl t) (rows_after (counts (taken_by env)) codes.Term) (omega arith) (omega arith) (omega arith)

  thms-more : (a : Assertion) → Grow (assertion_decl a) codes.Axiom
  thms-more a = by-rows env (assertion_decl a) (rows_after (counts (taken_by env)) codes.Axiom) (omega arith) (omega arith) (omega arith)

  pub counts-more : (d : Declaration) (k : StatementCode) → IsKindOf (statement_byte k) d → Grow d k
  counts-more (sort_decl m) k is =
      subst (Grow (sort_decl m)) (sym (one-code k codes.Sort is))
      (by-rows env (sort_decl m) (rows_after (counts (taken_by env)) codes.Sort) (omega arith) (omega arith) (omega arith))
  counts-more (term_decl t) k (inl is) = subst (Grow (term_decl t)) (sym (one-code k codes.Term is)) (terms-more t)
  counts-more (term_decl t) k (inr is) =
      subst (Grow (term_decl t)) (sym (one-code k codes.LocalDefinition is)) (terms-more t)
  counts-more (assertion_decl a) k is = by a.is_axiom is
    where
      by : (b : Bool) → MatchBool b (statement_byte k ≡ 0x02) ((statement_byte k ≡ 0x06) ⊎ (statement_byte k ≡ 0x0E)) → Grow (assertion_decl a) k
      by true e = subst (Grow (assertion_decl a)) (sym (one-code k codes.Axiom e)) (thms-more a)
      by false (inl e) = subst (Grow (assertion_decl a)) (sym (one-code k codes.Theorem e)) (thms-more a)
      by false (inr e) = subst (Grow (assertion_decl a)) (sym (one-code k codes.LocalTheorem e)) (thms-more a)

-- ---- the way

module _ (file : List ℕ) where
  -- behind `before`, which declare env, and before `after`, of the statements of a good file
  pub record IsOnWay (p : Passed) (whole before after : List Statement) (env : List Declaration) : Type 0 where
    pub good : Good strict_standard file whole
    pub all : whole ≡ before ++ after
    pub gone : GoodTo strict_standard file [] (list_at file) before env p.at
    pub left : GoodTo strict_standard file env p.at after good.env good.to
    pub rows_are : p.rows ≡ counts (taken_by env)

  pub way-first : (ss : List Statement) → Good strict_standard file ss → IsOnWay (nothing_passed file) ss [] ss []
  way-first ss good = record { good = good; all = refl; gone = (refl, refl); left = good.statements; rows_are = refl }

  -- nothing fails there
  asked : (rows : Rows) (env : List Declaration) (at : ℕ) → rows ≡ counts (taken_by env) → AllHold (list_checks strict_standard file env at) → AllHold (head_checks file rows at)
  asked rows env at are all =
      subst (λ (r : Rows). AllHold (head_checks file r at)) (sym are)
      (all_hold-first (head_checks file (counts (taken_by env)) at) (rest_checks strict_standard file (taken_by env) at (statement_at file at)) all)

  pub way-asks : (p : Passed) (whole before after : List Statement) (env : List Declaration) → IsOnWay p whole before after env → AllHold (head_checks file p.rows p.at)
  way-asks p whole before [] env w =
      subst (λ (at : ℕ). AllHold (head_checks file p.rows at)) w.left.1
      (asked p.rows w.good.env w.good.to (w.rows_are ∙ ap (λ (e : List Declaration). counts (taken_by e)) (sym w.left.0)) w.good.ends.passes)
  way-asks p whole before (s ∷ ss) env w = asked p.rows env p.at w.rows_are w.left.1.passes

  pub way-end : (p : Passed) (whole before : List Statement) (env : List Declaration) → IsOnWay p whole before [] env → IsListEnd file p.at
  way-end p whole before env w = ap (statement_at file) (sym w.left.1) ∙ w.good.ends.ends

  -- no statement is left at the list's end
  pub way-last : (p : Passed) (whole before after : List Statement) (env : List Declaration) → IsOnWay p whole before after env → IsListEnd file p.at → after ≡ []
  way-last p whole before [] env w end = refl
  way-last p whole before (s ∷ ss) env w end =
      absurd (let spelled = w.left.1.spelled in let both : Ok (AHead spelled.code spelled.body w.left.0) ≡ Ok End = sym spelled.stands ∙ end in cc)

  -- and the statement whose head stands there is the first that is left
  pub way-on : (p : Passed) (whole before : List Statement) (s : Statement) (ss : List Statement) (env : List Declaration) (head : Head)
      → IsOnWay p whole before (s ∷ ss) env → IsHeadAt file p.at head
      → HasKind (statement_byte head.code) s × IsOnWay (passed_with p head) whole (before ++ s ∷ []) ss (env ++ s.decl ∷ [])
  way-on p whole before s ss env head w h =
      let (next, good, rest) = w.left in
      let both : Ok (AHead good.spelled.code good.spelled.body next) ≡ Ok (AHead (statement_byte head.code) head.body head.next) = sym good.spelled.stands ∙ head-here file p.at head h in
      let code-is : good.spelled.code ≡ statement_byte head.code = cc in
      let next-is : next ≡ head.next = cc in
      let kind = subst (λ (n : ℕ). HasKind n s) code-is good.spelled.kind in (
        kind,
        record {
          good = w.good;
          all = w.all ∙ sym (append_assoc before (s ∷ []) ss);
          gone = subst (GoodTo strict_standard file [] (list_at file) (before ++ s ∷ []) (env ++ s.decl ∷ [])) next-is
              (chain-more (IsGoodStatement strict_standard file) [] (list_at file) before env p.at s next w.gone good);
          left = subst (λ (n : ℕ). GoodTo strict_standard file (env ++ s.decl ∷ []) n ss w.good.env w.good.to) next-is rest;
          rows_are = ap (λ (rows : Rows). rows_after rows head.code) w.rows_are ∙ sym (counts-more env s.decl head.code kind.0);
        },
      )

  pub record HasGone (p : Passed) (whole before after : List Statement) (env : List Declaration) (head : Head) : Type 0 where
    pub statement : Statement
    pub rest : List Statement
    pub after_is : after ≡ statement ∷ rest
    pub kind : HasKind (statement_byte head.code) statement
    pub on : IsOnWay (passed_with p head) whole (before ++ statement ∷ []) rest (env ++ statement.decl ∷ [])

  pub way-more : (p : Passed) (whole before after : List Statement) (env : List Declaration) (head : Head) → IsOnWay p whole before after env → IsHeadAt file p.at head
      → HasGone p whole before after env head
  way-more p whole before [] env head w h =
      absurd (let both : Ok (AHead (statement_byte head.code) head.body head.next) ≡ Ok End = sym (head-here file p.at head h) ∙ way-end p whole before env w in cc)
  way-more p whole before (s ∷ ss) env head w h =
      let gone = way-on p whole before s ss env head w h in record { statement = s; rest = ss; after_is = refl; kind = gone.0; on = gone.1 }

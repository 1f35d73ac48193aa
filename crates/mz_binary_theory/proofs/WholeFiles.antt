-- A whole file: its list is one, it is good or has one first fault, and its statements are a legal list.
use Rattle.std.proofs.Common.{◌≡◌, ◌⊎◌, ◌<◌, ◌≤◌, ◌+◌, ◌-◌, ◌∙◌, ℕ, zero, suc, List, [], ◌∷◌, ◌++◌, length, Option, Some, Result, Ok, Err, refl, sym, ap, subst, inl, inr, arith, length-append}
use Rattle.std.specs.Prelude.{◌↔◌}
use Rattle.mz_base.specs.Checks.{AllHold, FailsFirst, Judges}
use Rattle.mz_base.proofs.Offered.{all_hold-excludes, fails_first-unique}
use Rattle.mz_cmd.specs.declared.rule.K.{K}
use Rattle.mz_cmd.specs.declared.rule.Refusal.{Refusal}
use Rattle.mz_cmd.specs.declared.code.StatementCode.{StatementCode}
use Rattle.mz_cmd.specs.declared.statement.StmtAt.{StmtAt}
use Rattle.mz_cmd.specs.declared.statement.StmtAt.TheVariants.{End, Head}
use Rattle.mz_cmd.specs.declared.statement.StmtFault.{StmtFault}
use Rattle.mz_cmd.specs.Codes.{statement_code}
use Rattle.mz_cmd.specs.StatementList.{statement_at}
use Rattle.mz_logic_theory.specs.Declaration.{Declaration}
use Rattle.mz_logic_theory.specs.Legality.{IsLegalEnv}
use Rattle.mz_logic_theory.specs.LegalLists.{Statement}
use Rattle.mz_logic_theory.proofs.Offered.{legal_push}
use Rattle.mz_layout_tables.specs.Tables.{list_at}
use Rattle.mz_layout_tables.specs.Layout.{Layout, layout_checks}
use Rattle.mz_layout_tables.proofs.Offered.{parts-of_layout}
use Rattle.mz_machine_theory.specs.MachineState.{Declares}
use Rattle.mz_machine_theory.specs.FileRows.{Taken, nothing_taken, taken_by, rows_taken}
use Rattle.mz_binary_theory.specs.Spelling.{IsSpelled}
use Rattle.mz_binary_theory.specs.Checking.{kind_checks, checks_of, place_checks}
use Rattle.mz_binary_theory.specs.Chains.{IsGoodStatement, GoodTo, IsListEnd}
use Rattle.mz_binary_theory.specs.Good.{Good, BinaryFault}
use Rattle.mz_binary_theory.specs.FileRun.{after_kind, Passing, Onward, ended, onward, test_layout, run_place, run_list, run_file, after_layout, follow_list}
use Rattle.mz_binary_theory.specs.WholeLaws.{OneListOfStatements, GoodFilesSpell}
use Rattle.mz_binary_theory.proofs.Heads.{head-at}
use Rattle.mz_binary_theory.proofs.ChainLaws.{chain-more, chain-weaker, compare}
use Rattle.mz_binary_theory.proofs.SpellingLaws.{one-spelled, one-good}
use Rattle.mz_binary_theory.proofs.PlacesJudged.{layout-judged, place-judged}
use Rattle.mz_binary_theory.proofs.Following.{followed}
use Rattle.mz_binary_theory.proofs.Inverting.{ends-there, goes-there}
use Rattle.mz_binary_theory.specs.Standards.{Standard}

-- ---- one list

-- the list doesn't end where a statement stands
no-end : (file : List ℕ) (env : List Declaration) (at : ℕ) (s : Statement) (next : ℕ) → IsSpelled file env at s next → IsListEnd file at → ⊥
no-end file env at s next spelled ends =
    let both : Ok (Head spelled.code spelled.body next) ≡ Ok End = sym spelled.stands ∙ ends in cc

pub one-list : OneListOfStatements
one-list file ss ts a b = elim (compare (IsSpelled file) (one-spelled file) [] (list_at file) ss ts a.env b.env a.to b.to a.spelled b.spelled) [
  | inl same ↦ same.statements
  | inr on ↦ elim on [
    | inl goes ↦ absurd (no-end file a.env a.to goes.0 goes.1 goes.2 a.ends)
    | inr goes ↦ absurd (no-end file b.env b.to goes.0 goes.1 goes.2 b.ends)
  ]
]

pub good-spelled : GoodFilesSpell
good-spelled standard file ss good = record {
  env = good.env;
  to = good.to;
  spelled = chain-weaker (IsGoodStatement standard file) (IsSpelled file) (λ env at s next g. g.spelled) [] (list_at file) ss good.env good.to good.statements;
  ends = good.ends.ends;
}

-- ---- not both, and one fault

module _ (standard : Standard) (file : List ℕ) where
  no-fault : (env : List Declaration) (at : ℕ) (s : Statement) (next : ℕ) (f : ℕ × K) → IsGoodStatement standard file env at s next → FailsFirst (place_checks standard file (taken_by env) at) f → ⊥
  no-fault env at s next f good fails = all_hold-excludes (place_checks standard file (taken_by env) at) f good.passes fails

  pub good-excludes : (ss : List Statement) (refusal : Refusal) → Good standard file ss → BinaryFault standard file refusal → ⊥
  good-excludes ss refusal good (inl f) = all_hold-excludes (layout_checks file) (refusal.at, refusal.rule) good.layout f.1
  good-excludes ss refusal good (inr (ts, env, at, f)) =
      elim (compare (IsGoodStatement standard file) (one-good standard file) [] (list_at file) ss ts good.env env good.to at good.statements f.statements) [
        | inl same ↦ all_hold-excludes (place_checks standard file (taken_by env) at) (refusal.at, refusal.rule)
            (subst (λ e. AllHold (place_checks standard file (taken_by e) at)) same.declared (subst (λ to. AllHold (place_checks standard file (taken_by good.env) to)) same.place good.ends.passes)) f.fails
        | inr on ↦ elim on [
          | inl goes ↦ no-end file good.env good.to goes.0 goes.1 goes.2.spelled good.ends.ends
          | inr goes ↦ no-fault env at goes.0 goes.1 (refusal.at, refusal.rule) goes.2 f.fails
        ]
      ]

  abbrev place_of : Refusal → ℕ × K
  place_of r = (r.at, r.rule)

  same-refusal : (r s : Refusal) → r.statement ≡ s.statement → place_of r ≡ place_of s → r ≡ s
  same-refusal r s n p =
      ap (λ x. record { statement = x; at = r.at; rule = r.rule }) n ∙ ap (λ (x : ℕ × K). record { statement = s.statement; at = x.0; rule = x.1 }) p

  pub one-fault : (r s : Refusal) → BinaryFault standard file r → BinaryFault standard file s → r ≡ s
  one-fault r s (inl f) (inl g) = same-refusal r s (f.0 ∙ sym g.0) (fails_first-unique (layout_checks file) (r.at, r.rule) (s.at, s.rule) f.1 g.1)
  one-fault r s (inl f) (inr (ts, env, at, g)) = absurd (all_hold-excludes (layout_checks file) (r.at, r.rule) g.layout f.1)
  one-fault r s (inr (ss, env, at, f)) (inl g) = absurd (all_hold-excludes (layout_checks file) (s.at, s.rule) f.layout g.1)
  one-fault r s (inr (ss, env, at, f)) (inr (ts, env', at', g)) =
      elim (compare (IsGoodStatement standard file) (one-good standard file) [] (list_at file) ss ts env env' at at' f.statements g.statements) [
        | inl same ↦ same-refusal r s (f.number ∙ ap (λ xs. length xs + 1) same.statements ∙ sym g.number)
            (fails_first-unique (place_checks standard file (taken_by env') at') (r.at, r.rule) (s.at, s.rule)
            (subst (λ e. FailsFirst (place_checks standard file (taken_by e) at') (r.at, r.rule)) same.declared (subst (λ to. FailsFirst (place_checks standard file (taken_by env) to) (r.at, r.rule)) same.place f.fails)) g.fails)
        | inr on ↦ elim on [
          | inl goes ↦ absurd (no-fault env at goes.0 goes.1 (r.at, r.rule) goes.2 f.fails)
          | inr goes ↦ absurd (no-fault env' at' goes.0 goes.1 (s.at, s.rule) goes.2 g.fails)
        ]
      ]

  -- ---- what is computed is the outcome

  abbrev IsOutcome : Result Taken Refusal → Type 0
  IsOutcome (Ok taken) = (ss : List Statement) × Good standard file ss
  IsOutcome (Err refusal) = BinaryFault standard file refusal

  -- the checks of a statement that stands there
  pub at-head : (env : List Declaration) (at code body next : ℕ) (k : StatementCode) → statement_at file at ≡ Ok (Head code body next) → statement_code code ≡ Some k → AllHold (place_checks standard file (taken_by env) at)
      → AllHold (kind_checks standard file (taken_by env) at body next (Some k))
  at-head env at code body next k stands is all =
      subst (λ (o : Option StatementCode). AllHold (kind_checks standard file (taken_by env) at body next o)) is
      (subst (λ (r : Result StmtAt StmtFault). AllHold (checks_of standard file (taken_by env) at r)) stands all)

  abbrev Rest : List Statement → List Declaration → ℕ → ℕ → Type 0
  Rest ss env at bound = (s : Statement) (next : ℕ) → IsGoodStatement standard file env at s next → IsLegalEnv (env ++ s.decl ∷ []) → Declares (rows_taken file (taken_by (env ++ s.decl ∷ []))) (env ++ s.decl ∷ [])
      → next ≤ length file → at < next → IsOutcome (run_list standard file bound (length ss + 1 + 1) (taken_by (env ++ s.decl ∷ [])) next)

  module _ (layout : Layout file) (ss : List Statement) (env : List Declaration) (at : ℕ) (before : GoodTo standard file [] (list_at file) ss env at)
      (legal : IsLegalEnv env) (declares : Declares (rows_taken file (taken_by env)) env) (bound : ℕ) where
    by-place : (r : Result Onward (ℕ × K)) → run_place standard file (taken_by env) at ≡ r → Judges r (place_checks standard file (taken_by env) at) → Rest ss env at bound
        → IsOutcome (follow_list (length ss + 1) (taken_by env) r (λ after next. run_list standard file bound (length ss + 1 + 1) after next))
    by-place (Err f) is fails rest = inr (ss, env, at, record { layout = layout; statements = before; number = refl; fails = fails })
    by-place (Ok ended) is all rest = (ss, record { layout = layout; env = env; to = at; statements = before; ends = record { ends = ends-there standard file (taken_by env) at is; passes = all } })
    by-place (Ok (onward after next)) is all rest =
        let goes = goes-there standard file (taken_by env) at after next is in
        let f = followed standard file env at goes.code goes.body goes.next goes.stands goes.kind goes.kind_is legal declares (at-head env at goes.code goes.body goes.next goes.kind goes.stands goes.kind_is all) in
        let s : Statement = f.statement in
        let good : IsGoodStatement standard file env at s goes.next = record { spelled = f.spelled; passes = all } in
        let head = head-at file at goes.code goes.body goes.next goes.stands in
        let onward-is : (after, next) ≡ (after_kind file (taken_by env) goes.kind, goes.next) = pair-is (goes.leads) in
        let place : next ≡ goes.next = ap (λ (p : Taken × ℕ). p.1) onward-is in
        let rows : after ≡ taken_by (env ++ s.decl ∷ []) = ap (λ (p : Taken × ℕ). p.0) onward-is ∙ sym f.taken in
        subst (λ (z : Taken). IsOutcome (run_list standard file bound (length ss + 1 + 1) z next)) (sym rows)
        (subst (λ (z : ℕ). IsOutcome (run_list standard file bound (length ss + 1 + 1) (taken_by (env ++ s.decl ∷ [])) z)) (sym place)
        (rest s goes.next good (legal_push env s.decl legal f.legal.0) f.declares head.within head.further))
      where
        pair-is : {p q : Taken × ℕ} → Some p ≡ Some q → p ≡ q
        pair-is e = cc

  from-here : (bound : ℕ) → Layout file → (ss : List Statement) (env : List Declaration) (at : ℕ) → GoodTo standard file [] (list_at file) ss env at
      → IsLegalEnv env → Declares (rows_taken file (taken_by env)) env → at ≤ length file → length file - at < bound → IsOutcome (run_list standard file bound (length ss + 1) (taken_by env) at)
  unfolding run_list
  from-here zero layout ss env at before legal declares within enough = absurd (omega arith)
  from-here (suc bound) layout ss env at before legal declares within enough =
      by-place layout ss env at before legal declares bound (run_place standard file (taken_by env) at) refl (place-judged standard file (taken_by env) at) λ s next good legal' declares' inside further.
      let many : length (ss ++ s ∷ []) + 1 ≡ length ss + 1 + 1 = omega (arith, length-append ss (s ∷ [])) in
      subst (λ (n : ℕ). IsOutcome (run_list standard file bound n (taken_by (env ++ s.decl ∷ [])) next)) many
      (from-here bound layout (ss ++ s ∷ []) (env ++ s.decl ∷ []) next (chain-more (IsGoodStatement standard file) [] (list_at file) ss env at s next before good) legal' declares' inside (omega arith))

  by-layout : (r : Passing) → Judges r (layout_checks file) → IsOutcome (after_layout r (run_list standard file (length file + 1) 1 nothing_taken (list_at file)))
  by-layout (Err f) fails = inl (refl, fails)
  by-layout (Ok x) layout =
      from-here (length file + 1) layout [] [] (list_at file) (refl, refl) tt (record { sorts_are = refl; terms_are = tt; thms_are = tt }) (parts-of_layout file layout).list (omega arith)

  pub outcome : IsOutcome (run_file standard file)
  outcome = by-layout (test_layout file) (layout-judged file)

  -- ---- so each file has one

  pub good-or-fault : ((ss : List Statement) × Good standard file ss) ⊎ ((refusal : Refusal) × BinaryFault standard file refusal)
  good-or-fault = go (run_file standard file) outcome
    where
      go : (r : Result Taken Refusal) → IsOutcome r → ((ss : List Statement) × Good standard file ss) ⊎ ((refusal : Refusal) × BinaryFault standard file refusal)
      go (Ok taken) good = inl good
      go (Err refusal) fault = inr (refusal, fault)

  pub runs-exact : (((taken : Taken) × (run_file standard file ≡ Ok taken)) ↔ ((ss : List Statement) × Good standard file ss))
      × ((refusal : Refusal) → (run_file standard file ≡ Err refusal) ↔ BinaryFault standard file refusal)
  runs-exact = go (run_file standard file) outcome
    where
      go : (r : Result Taken Refusal) → IsOutcome r → (((taken : Taken) × (r ≡ Ok taken)) ↔ ((ss : List Statement) × Good standard file ss))
          × ((refusal : Refusal) → (r ≡ Err refusal) ↔ BinaryFault standard file refusal)
      go (Ok taken) good = ((λ _. good, λ _. (taken, refl)), λ refusal. (λ e. absurd cc, λ fault. absurd (good-excludes good.0 refusal good.1 fault)))
      go (Err r) fault = (
        (λ (taken, e). absurd cc, λ good. absurd (good-excludes good.0 r good.1 fault)),
        λ refusal. (λ e. let same : r ≡ refusal = cc in subst (BinaryFault standard file) same fault, λ other. ap (λ z. Err z) (one-fault r refusal fault other)),
      )

-- The commands executed in the first statements of a list, and in the rest.
use Rattle.std.proofs.Common.{◌≡◌, ◌∙◌, ◌+◌, ℕ, suc, List, [], ◌∷◌, ◌++◌, length, Some, Result, Ok, Err, refl, sym, ap, ap₂, arith}
use Rattle.mz_base.specs.Checks.{Judges}
use Rattle.mz_base.proofs.Offered.{all_hold-excludes}
use Rattle.mz_cmd.specs.declared.rule.K.{K}
use Rattle.mz_cmd.specs.declared.statement.StmtAt.{StmtAt}
use Rattle.mz_cmd.specs.declared.statement.StmtAt.TheVariants.{End, Head}
use Rattle.mz_cmd.specs.declared.statement.StmtFault.{StmtFault}
use Rattle.mz_logic_theory.specs.Declaration.{Declaration}
use Rattle.mz_logic_theory.specs.Legality.{IsLegalEnv}
use Rattle.mz_logic_theory.specs.LegalLists.{Statement}
use Rattle.mz_layout_tables.specs.Layout.{Layout, layout_checks}
use Rattle.mz_layout_tables.specs.Tables.{list_at}
use Rattle.mz_machine_theory.specs.MachineState.{Declares}
use Rattle.mz_machine_theory.specs.FileRows.{Taken, nothing_taken, taken_by, rows_taken}
use Rattle.mz_binary_theory.specs.Standards.{Standard}
use Rattle.mz_binary_theory.specs.Checking.{place_checks}
use Rattle.mz_binary_theory.specs.Chains.{IsGoodStatement, GoodTo}
use Rattle.mz_binary_theory.specs.FileRun.{Passing, Onward, ended, onward, after_kind, test_layout, run_place, find_at, found_steps, follow_steps, list_steps, steps_after, steps_through, file_steps}
use Rattle.mz_binary_theory.proofs.Following.{followed}
use Rattle.mz_binary_theory.proofs.Inverting.{ends-there, goes-there}
use Rattle.mz_binary_theory.proofs.LegalChains.{well-chain}
use Rattle.mz_binary_theory.proofs.ListBounds.{bound-never-ends}
use Rattle.mz_binary_theory.proofs.PlacesJudged.{layout-judged, place-judged}
use Rattle.mz_binary_theory.proofs.SpellingLaws.{one-spelled}
use Rattle.mz_binary_theory.proofs.WholeFiles.{at-head}

abbrev leads : Taken → ℕ → Result Onward (ℕ × K)
leads taken to = Ok (onward taken to)

pair-is : {p q : Taken × ℕ} → Some p ≡ Some q → p ≡ q
pair-is e = cc

module _ (standard : Standard) (file : List ℕ) where
  -- the run of a good statement leads past it
  good-runs : (env : List Declaration) (at : ℕ) (s : Statement) (next : ℕ) → IsGoodStatement standard file env at s next → IsLegalEnv env → Declares (rows_taken file (taken_by env)) env
      → run_place standard file (taken_by env) at ≡ leads (taken_by (env ++ s.decl ∷ [])) next
  good-runs env at s next good legal declares = go (run_place standard file (taken_by env) at) refl (place-judged standard file (taken_by env) at)
    where
      go : (r : Result Onward (ℕ × K)) → run_place standard file (taken_by env) at ≡ r → Judges r (place_checks standard file (taken_by env) at) → r ≡ leads (taken_by (env ++ s.decl ∷ [])) next
      go (Err f) is fails = absurd (all_hold-excludes (place_checks standard file (taken_by env) at) f good.passes fails)
      go (Ok ended) is all =
          let both : ◌≡◌ {A = Result StmtAt StmtFault} (Ok (Head good.spelled.code good.spelled.body next)) (Ok End) = sym good.spelled.stands ∙ ends-there standard file (taken_by env) at is in
          absurd cc
      go (Ok (onward after to)) is all =
          let goes = goes-there standard file (taken_by env) at after to is in
          let f = followed standard file env at goes.code goes.body goes.next goes.stands goes.kind goes.kind_is legal declares (at-head standard file env at goes.code goes.body goes.next goes.kind goes.stands goes.kind_is good.passes) in
          let (same, place) = one-spelled file env at f.statement s goes.next next f.spelled good.spelled in
          let onward-is : (after, to) ≡ (after_kind file (taken_by env) goes.kind, goes.next) = pair-is goes.leads in
          ap₂ leads (ap (λ (p : Taken × ℕ). p.0) onward-is ∙ sym f.taken ∙ ap (λ (x : Statement). taken_by (env ++ x.decl ∷ [])) same) (ap (λ (p : Taken × ℕ). p.1) onward-is ∙ place)

  -- what is counted of the statements of a chain, and of n more
  steps-past : (env : List Declaration) (from : ℕ) (ss : List Statement) (env' : List Declaration) (to : ℕ) → GoodTo standard file env from ss env' to → IsLegalEnv env → Declares (rows_taken file (taken_by env)) env
      → (n : ℕ) → list_steps standard file (length ss + n) (taken_by env) from ≡ list_steps standard file (length ss) (taken_by env) from + list_steps standard file n (taken_by env') to
  unfolding list_steps
  steps-past env from [] env' to (same, place) legal declares n =
      let ends : list_steps standard file n (taken_by env) from ≡ list_steps standard file n (taken_by env') to = ap₂ (λ (e : List Declaration) (at : ℕ). list_steps standard file n (taken_by e) at) (sym same) (sym place) in
      let none : 0 + n ≡ n = omega arith in
      let all : list_steps standard file (0 + n) (taken_by env) from ≡ list_steps standard file n (taken_by env) from = ap (λ (k : ℕ). list_steps standard file k (taken_by env) from) none in
      omega (arith, all, ends)
  steps-past env from (s ∷ ss) env' to (next, good, rest) legal declares n =
      let ran = good-runs env from s next good legal declares in
      let after : List Declaration = env ++ s.decl ∷ [] in
      let well = well-chain standard file env from (s ∷ []) after next (next, good, (refl, refl)) legal declares in
      let on : (k : ℕ) → follow_steps (run_place standard file (taken_by env) from) (λ taken at. list_steps standard file k taken at) ≡ list_steps standard file k (taken_by after) next =
      λ k. ap (λ (r : Result Onward (ℕ × K)). follow_steps r (λ taken at. list_steps standard file k taken at)) ran in
      let later = steps-past after next ss env' to rest well.0 well.1 n in
      let whole = on (length ss + n) in
      let front = on (length ss) in
      let one : suc (length ss) + n ≡ suc (length ss + n) = omega arith in
      let more : list_steps standard file (suc (length ss) + n) (taken_by env) from ≡ list_steps standard file (suc (length ss + n)) (taken_by env) from = ap (λ (k : ℕ). list_steps standard file k (taken_by env) from) one in
      omega (arith, more, later, whole, front)

  module _ (layout : Layout file) (ss : List Statement) (env : List Declaration) (at : ℕ) (chain : GoodTo standard file [] (list_at file) ss env at) where
    laid-out : (n : ℕ) → steps_through standard file n ≡ list_steps standard file n nothing_taken (list_at file)
    laid-out n = go (test_layout file) (layout-judged file)
      where
        go : (r : Passing) → Judges r (layout_checks file) → steps_after r (list_steps standard file n nothing_taken (list_at file)) ≡ list_steps standard file n nothing_taken (list_at file)
        go (Ok x) all = refl
        go (Err f) fails = absurd (all_hold-excludes (layout_checks file) f layout fails)

    past : (n : ℕ) → steps_through standard file (length ss + n) ≡ steps_through standard file (length ss) + list_steps standard file n (taken_by env) at
    past n =
        let all = laid-out (length ss + n) in
        let front = laid-out (length ss) in
        let both = steps-past [] (list_at file) ss env at chain tt (record { sorts_are = refl; terms_are = tt; thms_are = tt }) n in
        omega (arith, all, front, both)

    -- with the statement that stands next
    pub steps-here : steps_through standard file (length ss + 1) ≡ steps_through standard file (length ss) + found_steps standard file (taken_by env) (find_at file (taken_by env) at)
    unfolding list_steps
    steps-here = let one = past 1 in let none = alone (run_place standard file (taken_by env) at) in omega (arith, one, none)
      where
        alone : (r : Result Onward (ℕ × K)) → follow_steps r (λ taken to. 0) ≡ 0
        alone (Err f) = refl
        alone (Ok ended) = refl
        alone (Ok (onward taken to)) = refl

    -- with all that stand after them
    pub steps-rest : file_steps standard file ≡ steps_through standard file (length ss) + list_steps standard file (length file + 1) (taken_by env) at
    steps-rest =
        let all = laid-out (length ss + (length file + 1)) in
        let whole = laid-out (length file + 1) in
        let same = (bound-never-ends standard file (length file + 1) (length ss + (length file + 1)) 0 nothing_taken (list_at file) (omega arith) (omega arith)).1 in
        let split = past (length file + 1) in
        omega (arith, all, whole, same, split)

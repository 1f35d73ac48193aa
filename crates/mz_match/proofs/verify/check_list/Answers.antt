use Rattle.std.proofs.Common.{◌≡◌, ◌≤◌, ◌<◌, ◌^◌, ℕ, List, [], ◌∷◌, ◌++◌, ◌+◌, ◌*◌, ◌∙◌, length, true, refl, sym, ap, subst, inl, inr, arith}
use Rattle.std.proofs.lemmas.Bool.{cases_lt}
use Rattle.mz_layout_tables.specs.Layout.{Layout}
use Rattle.mz_spec_theory.specs.State.{env_of}
use Rattle.mz_binary_theory.specs.FileRun.{steps_through}
use Rattle.mz_binary_theory.specs.Good.{Good}
use Rattle.mz_binary.specs.Judging.{Passes}
use Rattle.mz_binary.specs.Progress.{Progress, most_left, under}
use Rattle.mz_logic_theory.specs.Declaration.{Declaration}
use Rattle.mz_logic_theory.specs.LegalLists.{Statement}
use Rattle.mz_match.specs.Reported.{IsMatched}
use Rattle.mz_binary.proofs.Offered.{most-of-file}
use Rattle.mz_match_theory.specs.declared.verdict.Verdict.{Verdict}
use Rattle.mz_match_theory.specs.declared.verdict.Verdict.TheVariants as verdicts
use Rattle.mz_match.specs.Drafts.{IsJudged, ListsGapsOf, places_past}
use Rattle.mz_match_theory.specs.Verdict.{TicksBy}
use Rattle.mz_spec_proved_theory.proofs.Offered.{length-env}
use Rattle.mz_match.proofs.GapPlaces.{noted, stop-judged}
use Rattle.mz_match.proofs.Pairing.{counted-next, stop-ticks, fails-here, missing-here, accepted-here, few-statements}
use Rattle.mz_match.proofs.verify.check_list.Goals as goal
use Rattle.mz_binary_theory.specs.Standards.{lets_gaps}

pub statements-init : goal.statements-init
statements-init g c = record {
  so_far = ([], [], (c.new-matching.ensures.nothing (under g.B.Bodies.STANDARD c.new-checker.result) (env_of c.args.spec.now) (subst Layout (sym c.new-checker.ensures.file) c.requires.layout) c.new-checker.ensures.nothing), λ mode. c.requires.none);
  same_file = c.new-checker.ensures.file;
  counted = ap (λ n. c.args.steps.now + n) c.new-checker.ensures.steps;
  most = subst (λ (f : List ℕ). c.args.steps.now + most_left (under g.B.Bodies.STANDARD c.new-checker.result) ≤ c.args.steps.now + (length f * length f + length f)) c.new-checker.ensures.file
      (omega (arith, most-of-file (length c.new-checker.result.file) c.new-checker.result.at));
}

pub pass-requires : goal.pass-requires
pass-requires g c =
    let so_far = c.statements.invariant.so_far in
    record {
      told = record {
        progress = under g.B.Bodies.STANDARD c.statements.checker;
        later = under g.B.Bodies.STANDARD c.in-Statement.after;
        before = so_far.0;
        env = so_far.1;
        same_file = c.statements.invariant.same_file;
        matched = so_far.2;
        passes = c.in-Statement.ensures.next so_far.0 so_far.1 so_far.2.passed;
      };
    }

pub end-requires-clause-passed : goal.end-requires-clause-passed
end-requires-clause-passed g c =
    let so_far = c.statements.invariant.so_far in
    let good : Good g.B.Bodies.STANDARD c.statements.checker.file so_far.0 = (c.in-End.ensures.next so_far.0 so_far.1 so_far.2.passed).0 in
    let small : length c.statements.checker.file < 2 ^ 32 = subst (λ f. length f < 2 ^ 32) (sym c.statements.invariant.same_file) c.requires.small in
    let few = few-statements g.B.Bodies.STANDARD c.statements.checker.file so_far.0 small good in
    omega (arith, few, so_far.2.passed_is)

pub returns-in-End-clause-verdict : goal.returns-in-End-clause-verdict
returns-in-End-clause-verdict g c = λ text makes.
    let so_far = c.statements.invariant.so_far in
    let p : Progress = under g.B.Bodies.STANDARD c.statements.checker in
    let m = c.statements.matching in
    let places = c.statements.places.items in
    let good : Good p.standard p.file so_far.0 = (c.in-End.ensures.next so_far.0 so_far.1 so_far.2.passed).0 in
    let here : (IsJudged p.standard text p.file c.end.result places) = elim (cases_lt m.done (length c.args.spec.now)) [
      | inl short ↦ subst (λ (v : Verdict). IsJudged p.standard text p.file v places) (sym (c.end.ensures.missing short)) (missing-here text c.args.spec.now p m so_far.0 so_far.1 makes so_far.2 good short)
      | inr long ↦ (
          let all : m.done ≡ length c.args.spec.now = omega (arith, long, so_far.2.within, length-env c.args.spec.now) in
          subst (λ (v : Verdict). IsJudged p.standard text p.file v places) (sym (c.end.ensures.accepted all)) (accepted-here text c.args.spec.now p m so_far.0 so_far.1 places makes so_far.2 good all so_far.3))
    ] in
    (subst (λ f. IsJudged p.standard text f c.end.result places) c.statements.invariant.same_file here)

pub returns-in-Refused-clause-verdict : goal.returns-in-Refused-clause-verdict
returns-in-Refused-clause-verdict g c = λ text makes.
    let so_far = c.statements.invariant.so_far in
    let p : Progress = under g.B.Bodies.STANDARD c.statements.checker in
    let places = c.statements.places.items in
    let v = verdicts.Binary c.in-Refused.refusal in
    (subst (λ f. IsJudged p.standard text f (verdicts.Binary c.in-Refused.refusal) places) c.statements.invariant.same_file
    (fails-here text c.args.spec.now p c.statements.matching so_far.0 so_far.1 c.in-Refused.refusal makes so_far.2 (c.in-Refused.ensures.next so_far.0 so_far.1 so_far.2.passed)))

pub returns-in-Err-clause-verdict : goal.returns-in-Err-clause-verdict
returns-in-Err-clause-verdict g c = λ text makes.
    let so_far = c.statements.invariant.so_far in
    let p : Progress = under g.B.Bodies.STANDARD c.statements.checker in
    let passes = c.in-Statement.ensures.next so_far.0 so_far.1 so_far.2.passed in
    let stops = c.in-Err.ensures.stops p (under g.B.Bodies.STANDARD c.in-Statement.after) so_far.0 so_far.1 c.statements.invariant.same_file so_far.2 passes text makes in
    (stop-judged p.standard text c.args.mmb.now c.in-Statement.told.number c.in-Err.verdict c.statements.places.items c.in-Err.ensures.kind stops)

pub returns-in-Err-clause-steps : goal.returns-in-Err-clause-steps
returns-in-Err-clause-steps g c =
    let so_far = c.statements.invariant.so_far in
    let p : Progress = under g.B.Bodies.STANDARD c.statements.checker in
    let steps = c.in-Statement.ensures.steps in
    let passes = c.in-Statement.ensures.next so_far.0 so_far.1 so_far.2.passed in
    let next = counted-next g.B.Bodies.STANDARD c.args.mmb.now p c.statements.matching (env_of c.args.spec.now) so_far.0 so_far.1 refl c.statements.invariant.same_file so_far.2 c.args.steps.now c.statements.steps c.statements.invariant.counted in
    let number : steps_through g.B.Bodies.STANDARD c.args.mmb.now c.in-Statement.told.number ≡ steps_through g.B.Bodies.STANDARD c.args.mmb.now (length so_far.0 + 1) = ap (steps_through g.B.Bodies.STANDARD c.args.mmb.now) passes.tells.number in
    stop-ticks g.B.Bodies.STANDARD c.args.mmb.now c.args.steps.now c.check_next.new.steps c.in-Statement.told.number c.in-Err.verdict c.in-Err.ensures.kind (omega (arith, steps, next, number))

pub returns-in-End-clause-steps : goal.returns-in-End-clause-steps
returns-in-End-clause-steps g c =
    let so_far = c.statements.invariant.so_far in
    let p : Progress = under g.B.Bodies.STANDARD c.statements.checker in
    let counted = c.statements.invariant.counted in
    let steps = c.in-End.ensures.steps in
    let left = c.in-End.ensures.left in
    let m = c.statements.matching in
    let next = counted-next g.B.Bodies.STANDARD c.args.mmb.now p m (env_of c.args.spec.now) so_far.0 so_far.1 refl c.statements.invariant.same_file so_far.2 c.args.steps.now c.statements.steps counted in
    let number : steps_through g.B.Bodies.STANDARD c.args.mmb.now (m.passed + 1) ≡ steps_through g.B.Bodies.STANDARD c.args.mmb.now (length so_far.0 + 1) = ap (λ (n : ℕ). steps_through g.B.Bodies.STANDARD c.args.mmb.now (n + 1)) so_far.2.passed_is in
    elim (cases_lt m.done (length c.args.spec.now)) [
      | inl short ↦ subst (TicksBy g.B.Bodies.STANDARD c.args.mmb.now c.args.steps.now c.check_next.new.steps) (sym (c.end.ensures.missing short)) (omega (arith, steps, next, number))
      | inr long ↦ (
          let all : m.done ≡ length c.args.spec.now = omega (arith, long, so_far.2.within, length-env c.args.spec.now) in
          subst (TicksBy g.B.Bodies.STANDARD c.args.mmb.now c.args.steps.now c.check_next.new.steps) (sym (c.end.ensures.accepted all)) (omega (arith, counted, steps, left)))
    ]

pub statements-preserved : goal.statements-preserved
statements-preserved g c =
    let so_far = c.statements.invariant.so_far in
    let p : Progress = under g.B.Bodies.STANDARD c.statements.checker in
    let after : Progress = under g.B.Bodies.STANDARD c.in-Statement.after in
    let ds = env_of c.args.spec.now in
    let counted = c.statements.invariant.counted in
    let steps = c.in-Statement.ensures.steps in
    let left = c.in-Statement.ensures.left in
    let passes : Passes p so_far.0 so_far.1 after c.in-Statement.told = c.in-Statement.ensures.next so_far.0 so_far.1 so_far.2.passed in
    let ss : List Statement = so_far.0 ++ passes.statement ∷ [] in
    let env : List Declaration = so_far.1 ++ passes.statement.decl ∷ [] in
    let matched : IsMatched after ds c.pass.new.self ss env = c.in_default.ensures.passed p after so_far.0 so_far.1 c.statements.invariant.same_file so_far.2 passes in
    let lists : (lets_gaps after.standard ≡ true → ListsGapsOf after.file ss c.note.new.places.items) = λ mode.
    subst (λ (xs : List ℕ). ListsGapsOf after.file ss xs) (sym c.in-Ok.ensures)
    (subst (λ (f : List ℕ). ListsGapsOf f ss (places_past c.in-Statement.told.local c.in-Statement.told.gap c.statements.matching.done c.statements.places.items)) (sym passes.same_file)
    (noted p ds c.statements.matching so_far.0 so_far.1 after c.in-Statement.told so_far.2 passes (ap lets_gaps (sym passes.same_standard) ∙ mode) c.statements.places.items (so_far.3 (ap lets_gaps (sym passes.same_standard) ∙ mode)))) in
    record {
      so_far = (ss, env, matched, lists);
      same_file = passes.same_file ∙ c.statements.invariant.same_file;
      counted = omega (arith, counted, steps, left);
      most = (let a = c.in-Statement.ensures.most in let b = c.statements.invariant.most in omega (arith, a, b));
    }

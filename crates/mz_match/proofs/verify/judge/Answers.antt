use Rattle.std.proofs.Common.{refl, subst, inl, arith}
use Rattle.mz_spec_theory.specs.State.{env_of}
use Rattle.mz_binary.proofs.Offered.{no-steps}
use Rattle.mz_match_theory.specs.declared.verdict.Verdict.TheVariants as verdicts
use Rattle.mz_match.specs.Drafts.{IsJudged}
use Rattle.mz_match.proofs.GapPlaces.{judged-verdict}
use Rattle.mz_match.proofs.verify.judge.Goals as goal

pub returns-in-Accepted-clause-judged : goal.returns-in-Accepted-clause-judged
returns-in-Accepted-clause-judged g c =
    let (accepts, counts, lists) = subst (λ f. IsJudged g.B.Bodies.STANDARD c.args.spec.now f (verdicts.Accepted c.in-Accepted.counts) c.check_list.new.places.items) c.in-Ok.ensures.0
    (c.in-Accepted.ensures.verdict c.args.spec.now c.in-Spec.ensures) in
    record { named = record { is_text = refl; makes = c.in-Spec.ensures }; binary = c.in-Ok.ensures.0; accepts = accepts; counts = counts; gaps = lists }

pub returns-clause-judged : goal.returns-clause-judged
returns-clause-judged g c = (
  judged-verdict g.B.Bodies.STANDARD c.args.spec.now c.args.bin.now c.check_list.result c.check_list.new.places.items
      (subst (λ f. IsJudged g.B.Bodies.STANDARD c.args.spec.now f c.check_list.result c.check_list.new.places.items) c.in-Ok.ensures.0 (c.check_list.ensures.verdict c.args.spec.now c.in-Spec.ensures)),
  c.in_default.not-Accepted,
)

pub returns-in-Err-clause-judged : goal.returns-in-Err-clause-judged
returns-in-Err-clause-judged g c = ((env_of c.in-Spec.declared, (c.in-Spec.declared, c.in-Spec.ensures, refl), inl c.in-Err.ensures), λ counts is. cc)

pub returns-in-Err-clause-steps : goal.returns-in-Err-clause-steps
returns-in-Err-clause-steps g c =
    let none = no-steps g.B.Bodies.STANDARD c.args.bin.now (c.in-Err.refusal.at, c.in-Err.refusal.rule) c.in-Err.ensures.1 in
    omega (arith, none)

use Rattle.std.proofs.Common.{◌≡◌, ◌∙◌, Some, sym, ap, arith}
use Rattle.mz_cmd.specs.declared.code.UnifyCode.TheVariants as codes
use Rattle.std.proofs.lemmas.Bool.{true≢false}
use Rattle.mz_match_rows.specs.declared.stream.Step.{Step}
use Rattle.mz_match_rows.specs.Streams.{step_at}
use Rattle.mz_match_rows.proofs.Steps.{step-takes, passes-on, passes-stay, passes-end, says-is, says-next, says-no, ends-no}
use Rattle.mz_match_rows.proofs.stream.next_hyp.Goals as goal

pub returns-in_default-clause-hyp : goal.returns-in_default-clause-hyp
returns-in_default-clause-hyp c = λ n at value next passes says.
    let (m, here) = c.commands.invariant.hyp n at value next passes says in
    let same : at ≡ c.commands.at = passes-end c.args.file.now m c.commands.at at (sym c.in_default.ensures) here in
    absurd (says-no c.args.file.now at codes.Hyp value next (ap (step_at c.args.file.now) same ∙ sym c.in_default.ensures) says)

pub returns-then-is_hyp-clause-hyp : goal.returns-then-is_hyp-clause-hyp
returns-then-is_hyp-clause-hyp c = λ n at value next passes says.
    let (m, here) = c.commands.invariant.hyp n at value next passes says in
    let same = passes-stay c.args.file.now m c.commands.at at c.in-Some.step (sym c.in-Some.ensures) (c.is_hyp.ensures.0 c.if-is_hyp.true) here in
    ap Some (says-next c.args.file.now at codes.Hyp value next c.in-Some.step (ap (step_at c.args.file.now) same ∙ sym c.in-Some.ensures) says)

pub returns-then-is_hyp-clause-end : goal.returns-then-is_hyp-clause-end
returns-then-is_hyp-clause-end c = λ n at passes ends.
    let (m, here) = c.commands.invariant.end n at passes ends in
    let same = passes-stay c.args.file.now m c.commands.at at c.in-Some.step (sym c.in-Some.ensures) (c.is_hyp.ensures.0 c.if-is_hyp.true) here in
    absurd (ends-no c.args.file.now at c.in-Some.step (ap (step_at c.args.file.now) same ∙ sym c.in-Some.ensures) ends)

pub commands-smaller : goal.commands-smaller
commands-smaller c =
    let t = step-takes c.args.file.now c.commands.at c.in-Some.step (sym c.in-Some.ensures) in
    omega (arith, t.0, t.1)

pub commands-preserved : goal.commands-preserved
commands-preserved c =
    let t = step-takes c.args.file.now c.commands.at c.in-Some.step (sym c.in-Some.ensures) in
    record {
      within = t.1;
      hyp = λ n to v next passes says.
          let (m, here) = c.commands.invariant.hyp n to v next passes says in
          passes-on c.args.file.now m c.commands.at to c.in-Some.step (sym c.in-Some.ensures) here
          (λ same. true≢false (sym (c.is_hyp.ensures.1 (ap (λ (s : Step). s.code) (says-is c.args.file.now to codes.Hyp v next c.in-Some.step (ap (step_at c.args.file.now) same ∙ sym c.in-Some.ensures) says))) ∙ c.if-is_hyp.false));
      end = λ n to passes ends.
          let (m, here) = c.commands.invariant.end n to passes ends in
          passes-on c.args.file.now m c.commands.at to c.in-Some.step (sym c.in-Some.ensures) here
          (λ same. ends-no c.args.file.now to c.in-Some.step (ap (step_at c.args.file.now) same ∙ sym c.in-Some.ensures) ends);
    }

use Rattle.std.proofs.Common.{◌≡◌, ◌<◌, ◌-◌, ◌∙◌, length, suc, ap, ap₂, subst, sym, arith}
use Rattle.mz_base.proofs.Offered.{length-push as length-end}
use Rattle.mz_logic_theory.specs.Tree.{listed, followed_by, copies}
use Rattle.mz_logic_theory.specs.Groups.{Rise, up_to}
use Rattle.mz_logic_theory.specs.View.{tree}
use Rattle.mz_logic_theory.proofs.Follow.{followed_by_none}
use Rattle.mz_logic_theory.proofs.Grouped.{final, long, length-push, rise-push, up_to-push}
use Rattle.mz_logic_theory.proofs.hyps.Hyps.push.Goals as goal

pub returns-then-times-eq0-clause-ok : goal.returns-then-times-eq0-clause-ok
returns-then-times-eq0-clause-ok c =
    sym (ap (λ n. followed_by c.args.self.now (copies n (tree c.args.formula))) c.if-times-eq0.true ∙ followed_by_none c.args.self.now)

pub invariant_of-self-in-Ok : goal.invariant_of-self-in-Ok
invariant_of-self-in-Ok c =
    let es = c.self.inside.formulas in
    let ends = c.self.inside.ends.items in
    let end = c.in-Some.end in
    let many = long es c.args.self.now ends c.self.view_is c.self.invariant in
    let above : final 0 ends < end = omega (arith, many, c.len.ensures, c.in-Some.ensures.1, c.if-times-eq0.false) in (
      ap (λ fs. length (listed fs)) c.in-Ok.ensures.ok ∙ length-push es (tree c.args.formula) ∙ ap suc c.self.invariant.0
          ∙ sym (ap length c.in_ok-push_tightly.ensures.ok ∙ length-end ends end),
      subst (Rise 0) (sym c.in_ok-push_tightly.ensures.ok) (rise-push 0 end ends c.self.invariant.1 above),
    )

pub returns-in-Ok-clause-ok : goal.returns-in-Ok-clause-ok
returns-in-Ok-clause-ok c =
    let es = c.self.inside.formulas in
    let ends = c.self.inside.ends.items in
    let end = c.in-Some.end in
    let e = tree c.args.formula in
    let many = long es c.args.self.now ends c.self.view_is c.self.invariant in
    let left : end - final 0 ends ≡ c.args.times = omega (arith, many, c.len.ensures, c.in-Some.ensures.1) in
    ap₂ (up_to 0) c.in-Ok.ensures.ok c.in_ok-push_tightly.ensures.ok ∙ up_to-push 0 es ends e end c.self.invariant.0
    ∙ ap₂ (λ fs n. followed_by fs (copies n e)) c.self.view_is left

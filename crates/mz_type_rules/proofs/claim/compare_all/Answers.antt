use Rattle.std.proofs.Common.{true≢false, sym, ◌∙◌, arith}
use Rattle.mz_type_rules.proofs.Claims.{same_more, turns_more}
use Rattle.mz_type_rules.proofs.claim.compare_all.Goals as goal

pub returns-then-not-same : goal.returns-then-not-same
returns-then-not-same c = (
  λ no. absurd (true≢false (sym no)),
  λ are.
      let popped = same_more c.pop.new.self.items c.comparing.waiting.items c.in-Some.lists c.in-Some.ensures.items in
      let first = c.in_ok-same.ensures.same.1 (popped.0 (c.comparing.invariant.1 are)) in
      absurd (true≢false (sym first.0 ∙ c.if-not-same.true)),
)

pub comparing-smaller : goal.comparing-smaller
comparing-smaller c =
    let popped = turns_more c.pop.new.self.items c.comparing.waiting.items c.in-Some.lists c.in-Some.ensures.items in
    let less = c.in_ok-same.ensures.less in
    omega (arith, popped, less)

pub comparing-preserved : goal.comparing-preserved
comparing-preserved c =
    let popped = same_more c.pop.new.self.items c.comparing.waiting.items c.in-Some.lists c.in-Some.ensures.items in (
      λ all. c.comparing.invariant.0 (popped.1 (c.in_ok-same.ensures.same.0 (c.if-not-same.false, all))),
      λ are.
          let first = c.in_ok-same.ensures.same.1 (popped.0 (c.comparing.invariant.1 are)) in
          first.1,
    )

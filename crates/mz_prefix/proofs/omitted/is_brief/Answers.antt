use Rattle.std.proofs.Common.{◌≡◌, ◌∙◌, true, false, sym, ap}
use Rattle.mz_prefix.specs.Wording.{is_short}
use Rattle.mz_prefix.proofs.Measuring.{short-is, is-short}
use Rattle.mz_prefix.proofs.omitted.is_brief.Goals as goal

pub returns-then-are_short : goal.returns-then-are_short
returns-then-are_short c = rw c.in-Thm.is (λ v.
    let short = c.is_short.ensures v ∙ ap (is_short v) c.borrowed.ensures in (
      λ is. ((c.are_short.ensures v).0 c.if-are_short.true, short-is v c.in-Thm.thm.conclusion (sym short ∙ is)),
      λ brief. short ∙ is-short v c.in-Thm.thm.conclusion brief.1,
    ))

pub returns-else-are_short : goal.returns-else-are_short
returns-else-are_short c = rw c.in-Thm.is (λ v. (
  λ is. absurd (let h : false ≡ true = sym c.if-are_short.false ∙ is in cc),
  λ brief. (c.are_short.ensures v).1 brief.0,
))

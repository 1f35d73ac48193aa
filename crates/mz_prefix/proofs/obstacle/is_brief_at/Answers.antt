use Rattle.std.proofs.Common.{◌≡◌, ◌∙◌, true, false, sym, subst}
use Rattle.mz_logic_theory.specs.DeclView.{declaration}
use Rattle.mz_prefix.specs.Wording.{IsBrief}
use Rattle.mz_prefix.proofs.Gathering.{told-of}
use Rattle.mz_prefix.proofs.obstacle.is_brief_at.Goals as goal

pub returns-then-is_local : goal.returns-then-is_local
returns-then-is_local c = λ v.
    let local = told-of (λ s. s.is_local) c.args.text.now.statements c.args.i c.is_local.result c.is_local.ensures in (
      λ _ public. absurd (let h : true ≡ false = sym c.if-is_local.true ∙ sym local ∙ public in cc),
      λ _. c.if-is_local.true,
    )

pub returns-else-is_local : goal.returns-else-is_local
returns-else-is_local c = λ v.
    let ss = c.args.text.now.statements in
    let local = told-of (λ s. s.is_local) ss c.args.i c.is_local.result c.is_local.ensures in
    let decl = told-of (λ s. s.decl) ss c.args.i (declaration c.decl.result.now) c.decl.ensures in (
      λ is _. subst (IsBrief v) (sym decl) ((c.is_brief.ensures v).0 is),
      λ all. (c.is_brief.ensures v).1 (subst (IsBrief v) decl (all (local ∙ c.if-is_local.false))),
    )

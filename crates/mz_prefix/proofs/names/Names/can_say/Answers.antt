use Rattle.std.proofs.Common.{◌≡◌, ◌∙◌, true, false, sym, subst}
use Rattle.mz_logic_theory.specs.DeclView.{declaration}
use Rattle.mz_prefix.specs.PublicPart.{IsSayable}
use Rattle.mz_prefix.proofs.Gathering.{told-of}
use Rattle.mz_prefix.proofs.names.Names.can_say.Goals as goal

pub returns-then-is_local : goal.returns-then-is_local
returns-then-is_local c =
    let local = told-of (λ s. s.is_local) c.args.text.now.statements c.args.i c.is_local.result c.is_local.ensures in (
      λ _ public. absurd (let h : true ≡ false = sym c.if-is_local.true ∙ sym local ∙ public in cc),
      λ _. c.if-is_local.true,
    )

pub returns-else-is_local : goal.returns-else-is_local
returns-else-is_local c =
    let ss = c.args.text.now.statements in
    let local = told-of (λ s. s.is_local) ss c.args.i c.is_local.result c.is_local.ensures in
    let decl = told-of (λ s. s.decl) ss c.args.i (declaration c.decl.result.now) c.decl.ensures in
    let ls = c.args.self.now.locals.items in (
      λ is _. subst (IsSayable ls) (sym decl) (c.is_sayable.ensures.0 is),
      λ all. c.is_sayable.ensures.1 (subst (IsSayable ls) decl (all (local ∙ c.if-is_local.false))),
    )

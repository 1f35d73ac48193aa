use Rattle.std.proofs.Common.{inl, inr, refl, sym, subst}
use Rattle.std.proofs.lemmas.Bool.{false≢true}
use Rattle.mz_math_theory.specs.Notation.{Table}
use Rattle.mz_math_theory.specs.Clear.{HasConstant}
use Rattle.mz_math_notation.proofs.table.Notations.has_constant.Goals as goal

pub returns-in-Some : goal.returns-in-Some
returns-in-Some c = (λ t. (c.in-Some.field-0, inl (subst (λ (u : Table). HasConstant u.leading c.args.token.now c.in-Some.field-0) c.self.view_is c.in-Some.ensures)), λ h. refl)

pub returns-in-None-level_of : goal.returns-in-None-level_of
returns-in-None-level_of c = (
  λ f. absurd (false≢true f),
  λ h. elim h.1 [
    | inl has ↦ absurd (c.in-None.ensures h.0 (subst (λ (u : Table). HasConstant u.leading c.args.token.now h.0) (sym c.self.view_is) has))
    | inr has ↦ absurd (c.in-None-level_of.ensures h.0 (subst (λ (u : Table). HasConstant u.infixes c.args.token.now h.0) (sym c.self.view_is) has))
  ],
)

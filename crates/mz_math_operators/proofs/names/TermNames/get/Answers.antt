use Rattle.std.proofs.Common.{◌≡◌, ◌∙◌, List, refl, subst, Contains}
use Rattle.std.specs.Prelude.{MatchOption}
use Rattle.mz_math_operators.specs.Names.{IsFoundAs}
use Rattle.mz_math_theory.specs.Notation.{TermName}
use Rattle.mz_math_operators.proofs.Naming.{looked-up}
use Rattle.mz_math_operators.proofs.names.TermNames.get.Goals as goal

pub returns : goal.returns
returns c =
    let w = c.args.name.now in
    subst (λ (ns : List TermName). MatchOption c.copied.result ((n : TermName) → Contains ns n → n.name ≡ w → ⊥) (λ t. (n : TermName) × IsFoundAs ns w n × (n.term ≡ t))) c.self.view_is
    (looked-up (λ k. k.items) w _ (λ k. refl) c.self.inside.terms.entries c.self.invariant c.copied.result (c.copied.ensures ∙ c.get.ensures.value))

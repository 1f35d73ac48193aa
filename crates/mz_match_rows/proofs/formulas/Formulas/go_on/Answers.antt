use Rattle.std.proofs.Common.{◌≡◌, ◌∙◌, ℕ, Option, Some, sym, subst}
use Rattle.std.specs.Prelude.{IfSome}
use Rattle.mz_logic_theory.specs.Tree.{Tree}
use Rattle.mz_logic_theory.specs.View.{tree}
use Rattle.mz_spec_proved_theory.specs.AlphaTrees.{SameTree}
use Rattle.mz_match_rows.specs.Numbers.{IsNumbered}
use Rattle.mz_match_rows.proofs.formulas.Formulas.go_on.Goals as goal

pub returns-clause-number : goal.returns-clause-number
returns-clause-number c = λ e at n is.
    let both : Some (tree c.at.result.now) ≡ Some e = sym c.at.ensures ∙ at in
    let at-e : tree c.at.result.now ≡ e = cc in
    let same = c.borrowed.ensures ∙ at-e in
    let (f, partner, numbered) = subst (λ (o : Option ℕ). IfSome o (λ i. (f : Tree) × SameTree c.args.publics.now c.borrowed.result f × IsNumbered c.enter-number.new.self f i)) is c.enter-number.ensures.number in
    (f, subst (λ (d : Tree). SameTree c.args.publics.now d f) same partner, numbered)

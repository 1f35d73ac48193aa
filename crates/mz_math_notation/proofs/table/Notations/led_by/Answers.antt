use Rattle.std.proofs.Common.{ap, subst, List, Contains, MatchOption}
use Rattle.mz_math_theory.specs.Notation.{Table}
use Rattle.mz_math_theory.specs.declared.notation.Notation.{Notation}
use Rattle.mz_math_theory.specs.Clear.{LedBy}
use Rattle.mz_math_notation.proofs.table.Notations.led_by.Goals as goal

pub returns : goal.returns
returns c =
    let P : List Notation → Type 0 = λ ks. MatchOption c.led_by.result ((k : Notation) × Contains ks k × LedBy k c.args.token.now → ⊥) (λ k. Contains ks k.now × LedBy k.now c.args.token.now) in
    subst P (ap (λ (t : Table). t.leading) c.self.view_is) c.led_by.ensures

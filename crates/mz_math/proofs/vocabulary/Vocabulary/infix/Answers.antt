use Rattle.std.proofs.Common.{ap, subst, List, Contains, MatchOption}
use Rattle.mz_math_theory.specs.declared.notation.Notation.{Notation}
use Rattle.mz_math_theory.specs.Clear.{JoinedBy}
use Rattle.mz_math.proofs.vocabulary.Vocabulary.infix.Goals as goal

pub returns : goal.returns
returns c =
    let P : List Notation → Type 0 = λ ks. MatchOption c.joined_by.result ((k : Notation) → Contains ks k → JoinedBy k c.args.token.now → ⊥) (λ k. Contains ks k.now × JoinedBy k.now c.args.token.now) in
    subst P (ap (λ w. w.infixes) c.self.view_is) c.joined_by.ensures

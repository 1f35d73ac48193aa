use Rattle.std.proofs.Common.{◌⊎◌, ◌↔◌, ◌≡◌, ◌++◌, ◌∷◌, [], Contains, subst}
use Rattle.std.proofs.lemmas.Bool.{eqb-true}
use Rattle.mz_logic_free.proofs.Walking.{insert-has, insert-last}
use Rattle.mz_logic_free.proofs.variables.VariableSet.add.Goals as goal

pub returns-clause-has : goal.returns-clause-has
returns-clause-has c = λ y.
    subst (λ ks. Contains c.insert.new.self.keys y ↔ (Contains ks y ⊎ (y ≡ c.args.x))) c.self.view_is
    (insert-has c.args.x _ (λ k e. eqb-true c.args.x k e) c.self.inside.places.keys c.insert.new.self.keys c.in_ok-insert.ensures.keys y)

pub returns-clause-last : goal.returns-clause-last
returns-clause-last c =
    subst (λ ks. (Contains ks c.args.x → ⊥) → c.insert.new.self.keys ≡ ks ++ c.args.x ∷ []) c.self.view_is
    (insert-last c.args.x _ (λ k e. eqb-true c.args.x k e) c.self.inside.places.keys c.insert.new.self.keys c.in_ok-insert.ensures.keys)

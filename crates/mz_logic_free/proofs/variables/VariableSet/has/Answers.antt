use Rattle.std.proofs.Common.{◌∙◌, Contains, refl, subst, sym}
use Rattle.std.proofs.lemmas.Bool.{eqb-true, eq-eqb}
use Rattle.mz_logic_free.proofs.Walking.{any-to, any-from}
use Rattle.mz_logic_free.proofs.variables.VariableSet.has.Goals as goal

pub returns : goal.returns
returns c = (
  λ is. subst (λ ks. Contains ks c.args.x) c.self.view_is (any-to c.args.x _ (λ k e. eqb-true c.args.x k e) c.self.inside.places.keys (sym c.contains.ensures ∙ is)),
  λ h. c.contains.ensures ∙ any-from c.args.x _ (eq-eqb c.args.x c.args.x refl) c.self.inside.places.keys (subst (λ ks. Contains ks c.args.x) (sym c.self.view_is) h),
)

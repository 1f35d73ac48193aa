use Rattle.std.proofs.Common.{◌∙◌, sym, subst}
use Rattle.mz_logic_theory.specs.Alike.{deps_at}
use Rattle.std.specs.Prelude.{◌≡◌, ◌-◌}
use Rattle.mz_logic_theory.proofs.Dependences.{marked}
use Rattle.mz_logic_theory.proofs.binder.Binders.shares_with_previous.Goals as goal

pub returns : goal.returns
returns c = λ is.
    subst (λ bs. deps_at bs (c.args.i - 1) ≡ deps_at bs c.args.i) c.self.view_is
    (marked c.self.inside.items.items _ c.self.inside.alike.items c.args.i c.binary_search.result c.binary_search.ensures.bound c.binary_search.ensures.position
    (sym c.is_ok.ensures.value ∙ is) c.deref.ensures.value c.self.invariant)

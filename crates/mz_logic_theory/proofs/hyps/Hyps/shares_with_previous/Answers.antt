use Rattle.std.proofs.Common.{◌∙◌, sym}
use Rattle.mz_logic_theory.proofs.Grouped.{shared_formula}
use Rattle.mz_logic_theory.proofs.hyps.Hyps.shares_with_previous.Goals as goal

pub returns : goal.returns
returns c = λ is.
    shared_formula c.self.inside.formulas c.args.self.now c.self.inside.ends.items _ c.args.i c.binary_search.result c.self.view_is c.self.invariant c.deref.ensures.value c.requires
    c.binary_search.ensures.position (sym c.is_err.ensures.value ∙ is)

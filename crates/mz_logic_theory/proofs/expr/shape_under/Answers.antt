use Rattle.std.proofs.Common.{◌∙◌, ap, map, sym}
use Rattle.mz_logic_theory.specs.Tree.{app, under}
use Rattle.mz_logic_theory.specs.View.{trees}
use Rattle.mz_logic_theory.proofs.Under.{under-last}
use Rattle.mz_logic_theory.proofs.expr.shape_under.Goals as goal

pub returns : goal.returns
returns c =
    let e = c.args.expr.now in
    let t = c.in-Some.term.now in
    let ts = c.in-Some.path.now in
    ap (λ es. app t (trees (map (under ts) es))) c.from_ref.ensures.value ∙ sym (under-last ts t e) ∙ sym (ap (λ us. under us e) c.in-Some.ensures.cases.0)

use Rattle.std.proofs.Common.{◌↔◌, sym, subst}
use Rattle.mz_logic_theory.specs.Legality.{EachTree, IsClaim}
use Rattle.mz_logic_theory.specs.Tree.{Tree}
use Rattle.mz_logic_theory.proofs.Offered.{each_repeated}
use Rattle.mz_logic.proofs.sorts.all_are_claims.Goals as goal

pub loop-e-init : goal.loop-e-init
loop-e-init c =
    let P : Tree → Type 0 = IsClaim c.args.env.now c.args.ctx.now in
    let each = each_repeated P c.formulas.result.now c.args.hyps.now c.formulas.ensures in
    subst (λ es. EachTree P es ↔ EachTree P c.args.hyps.now) (sym c.as_slice-e-items.ensures.items) each

use Rattle.std.proofs.Common.{◌↔◌, length, sym, subst}
use Rattle.mz_logic_theory.specs.Declaration.{signatures}
use Rattle.mz_logic_theory.specs.Legality.{AllInRange, EachTree, HasOperandSorts}
use Rattle.mz_logic_theory.specs.Tree.{Tree}
use Rattle.mz_logic_theory.proofs.Offered.{each_repeated, in_range_repeated}
use Rattle.mz_logic.proofs.sorts.all_have_operand_sorts.Goals as goal

pub loop-e-init : goal.loop-e-init
loop-e-init c =
    let P : Tree → Type 0 = HasOperandSorts (signatures c.args.env.now) c.args.ctx.now in
    let sigs = signatures c.args.env.now in
    let there = in_range_repeated sigs (length c.args.ctx.now) c.formulas.result.now c.args.hyps.now c.formulas.ensures in
    let each = each_repeated P c.formulas.result.now c.args.hyps.now c.formulas.ensures in (
      subst (AllInRange sigs (length c.args.ctx.now)) (sym c.as_slice-e-items.ensures.items) (there.1 c.requires),
      subst (λ es. EachTree P es ↔ EachTree P c.args.hyps.now) (sym c.as_slice-e-items.ensures.items) each,
    )

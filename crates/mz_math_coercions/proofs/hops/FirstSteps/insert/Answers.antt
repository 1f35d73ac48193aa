use Rattle.std.proofs.Common.{◌∙◌, Some, sym, subst}
use Rattle.mz_math_coercions.specs.declared.hops.FirstSteps.{FirstSteps}
use Rattle.mz_math_coercions.specs.Firsts.{IsSet}
use Rattle.mz_math_coercions.proofs.Cells.{near-put}
use Rattle.mz_math_coercions.proofs.hops.FirstSteps.insert.Goals as goal

pub returns : goal.returns
returns c = λ t.
    let n : FirstSteps = record { near = c.put_near.new.cells } in
    near-put c.args.self.now n c.args.from c.args.to c.args.place (sym c.are_near.ensures ∙ c.if-not-are_near.false)
    (subst (λ i. IsSet c.args.self.now.near.items c.put_near.new.cells.items i (Some c.args.place)) c.cell_of.ensures c.in_ok-put_near.ensures)

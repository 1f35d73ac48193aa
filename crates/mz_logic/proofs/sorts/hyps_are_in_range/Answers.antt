use Rattle.std.proofs.Common.{subst, sym}
use Rattle.mz_logic_theory.specs.Declaration.{signatures}
use Rattle.mz_logic_theory.specs.Groups.{Repeats}
use Rattle.mz_logic_theory.proofs.Offered.{in_range_repeated}
use Rattle.mz_logic.proofs.sorts.hyps_are_in_range.Goals as goal

pub returns : goal.returns
returns c =
    let both = in_range_repeated (signatures c.args.env.now) c.args.end c.borrowed.result c.args.hyps.now (subst (λ es. Repeats es c.args.hyps.now) (sym c.borrowed.ensures) c.formulas.ensures) in
    (λ t. both.0 (c.all_in_range.ensures.0 t), λ all. c.all_in_range.ensures.1 (both.1 all))

use Rattle.std.proofs.Common.{◌∙◌, ap, arith, length, sym}
use Rattle.mz_logic_theory.specs.Kinds.{kind_tree}
use Rattle.mz_type.proofs.Paths.{path-and-size}
use Rattle.mz_type.proofs.sizes.+size_of.Goals as goal

pub size_of-returns-in-Under : goal.size_of-returns-in-Under
size_of-returns-in-Under t c =
    path-and-size c.in-Under.path c.in-Under.e.value c.args.expr.now (sym (ap kind_tree c.in-Under.is) ∙ c.kind.ensures.tree) c.deref.result.now c.deref.ensures
    (length c.as_slice.result.now) c.size_of.result (ap length c.as_slice.ensures) c.size_of.ensures

pub size_of-overflow_add-result-in-Under : goal.size_of-overflow_add-result-in-Under
size_of-overflow_add-result-in-Under t c =
    let whole =
    path-and-size c.in-Under.path c.in-Under.e.value c.args.expr.now (sym (ap kind_tree c.in-Under.is) ∙ c.kind.ensures.tree) c.deref.result.now c.deref.ensures
    (length c.as_slice.result.now) c.size_of.result (ap length c.as_slice.ensures) c.size_of.ensures in
    omega (arith, whole, c.requires)

use Rattle.mz_type.proofs.Shaping.{shapes_with_any_sort}
use Rattle.mz_type.proofs.instance_sizes.Shaped.push.Goals as goal

pub invariant_of-self : goal.invariant_of-self
invariant_of-self c =
    shapes_with_any_sort c.push_decl.result c.self.inside.env _ c.in-Sort.mods c.self.inside.bodies.items c.self.inside.conclusions.items c.push_decl.ensures.ok c.push_decl.ensures.err c.self.invariant

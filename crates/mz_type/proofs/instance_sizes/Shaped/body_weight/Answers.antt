use Rattle.std.proofs.Common.{arith}
use Rattle.mz_type.proofs.Shaping.{no_body_size, body_size}
use Rattle.mz_type.proofs.instance_sizes.Shaped.body_weight.Goals as goal

pub overflow_add-result : goal.overflow_add-result
overflow_add-result c =
    let one = no_body_size c.self.inside.env c.args.self.now c.deref.result.now c.self.inside.bodies.items c.args.es.now c.args.term c.self.view_is c.deref.ensures.value c.self.invariant.0 c.in-None.ensures.lookup.3 in
    omega (arith, one, c.sizes_of.ensures, c.requires)

pub returns-in-None : goal.returns-in-None
returns-in-None c =
    let one = no_body_size c.self.inside.env c.args.self.now c.deref.result.now c.self.inside.bodies.items c.args.es.now c.args.term c.self.view_is c.deref.ensures.value c.self.invariant.0 c.in-None.ensures.lookup.3 in
    omega (arith, one, c.sizes_of.ensures)

pub weight_with-requires : goal.weight_with-requires
weight_with-requires c =
    let is = body_size c.self.inside.env c.args.self.now c.deref.result.now c.self.inside.bodies.items c.args.es.now c.args.term c.self.view_is c.deref.ensures.value c.in-Some.shape.now c.self.invariant.0
    c.in-Some.ensures.lookup.3.0 c.in-Some.ensures.lookup.1 in
    omega (arith, is, c.requires)

pub returns-in-Some : goal.returns-in-Some
returns-in-Some c =
    let is = body_size c.self.inside.env c.args.self.now c.deref.result.now c.self.inside.bodies.items c.args.es.now c.args.term c.self.view_is c.deref.ensures.value c.in-Some.shape.now c.self.invariant.0
    c.in-Some.ensures.lookup.3.0 c.in-Some.ensures.lookup.1 in
    omega (arith, is, c.weight_with.ensures)

use Rattle.std.proofs.Common.{rules}
use Rattle.mz_emit_bodies.proofs.Ways.{jump_way, outer_way}
use Rattle.mz_emit_bodies.proofs.let_scopes.nearer.Goals as goal

pub returns-then-depth_at-number-clause-way : goal.returns-then-depth_at-number-clause-way
returns-then-depth_at-number-clause-way c = λ d w. jump_way _ _ _ _ d c.requires.right c.requires.there c.requires.farther c.jump_at-jump.ensures w

pub returns-clause-way : goal.returns-clause-way
returns-clause-way c = λ d w. search (rules, outer_way, c.in-Some.is, c.in-Some.ensures, c.outer_at.ensures, w)

use Rattle.std.proofs.Common.{refl}
use Rattle.std.specs.Prelude.{None, ℕ, Option}
use Rattle.mz_emit_bodies.specs.Sight.{Link, Part, link, part_of}
use Rattle.mz_emit_bodies.specs.declared.let_scopes.Cell.{Cell}
use Rattle.mz_emit_bodies.proofs.Lists.{set_map, set_at, set_others}
use Rattle.mz_emit_bodies.proofs.let_scopes.Cells.set_place.Goals as goal

pub returns-clause-parts : goal.returns-clause-parts
returns-clause-parts c = set_map Cell Part part_of c.args.self.now.cells.items c.args.cell c.index_mut.result.now _ c.requires c.index_mut.ensures.value refl

pub returns-clause-links : goal.returns-clause-links
returns-clause-links c = set_map Cell Link link c.args.self.now.cells.items c.args.cell c.index_mut.result.now _ c.requires c.index_mut.ensures.value refl

pub returns-clause-at : goal.returns-clause-at
returns-clause-at c = set_at Cell (Option ℕ) (λ (d : Cell). d.place) c.args.self.now.cells.items c.args.cell _ None c.requires

pub returns-clause-others : goal.returns-clause-others
returns-clause-others c = λ k other. set_others Cell (Option ℕ) (λ (d : Cell). d.place) c.args.self.now.cells.items c.args.cell k _ None other

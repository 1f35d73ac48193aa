use Rattle.std.proofs.Common.{arith, sym, ap, ◌∙◌}
use Rattle.mz_sexpr.specs.Node.{place}
use Rattle.mz_sexpr.specs.Rows.{all_ends}
use Rattle.mz_sexpr.proofs.Accessors.{in_rows, node_of_row, place_of}
use Rattle.mz_sexpr.proofs.sexprs.Sexprs.at.Goals as goal

pub index-requires : goal.index-requires
index-requires c =
    let h = in_rows c.self.inside.text.now c.self.inside.rows.items (all_ends c.self.inside.rows.items c.self.inside.ends.items) c.args.self.now c.self.view_is c.self.invariant c.args.n c.requires in
    omega (arith, c.self.inside.rows.ok.0)

pub returns : goal.returns
returns c =
    let k = node_of_row c.self.inside.text.now c.self.inside.rows.items (all_ends c.self.inside.rows.items c.self.inside.ends.items) c.args.self.now c.self.view_is c.self.invariant c.args.n c.requires c.index.result.now c.index.ensures in
    sym (ap place k ∙ place_of c.index.result.now.at _ _)

use Rattle.std.proofs.Common.{arith, sym, ap, ◌∙◌, subst, add-one}
use Rattle.mz_sexpr.specs.Number.{StandsFor}
use Rattle.mz_sexpr.specs.Node.{parts, is_atom}
use Rattle.mz_sexpr.specs.Rows.{all_ends}
use Rattle.mz_sexpr.proofs.Accessors.{in_rows, node_of_row, parts_of_list, few_rows, parts_shallow, depth_small}
use Rattle.mz_sexpr.proofs.sexprs.Sexprs.first.Goals as goal

pub index-requires : goal.index-requires
index-requires c =
    let h = in_rows c.self.inside.text.now c.self.inside.rows.items (all_ends c.self.inside.rows.items c.self.inside.ends.items) c.args.self.now c.self.view_is c.self.invariant c.args.n c.requires in
    omega (arith, c.self.inside.rows.ok.0)

pub overflow_add-depth : goal.overflow_add-depth
overflow_add-depth c =
    let text = c.self.inside.text.now in
    let rows = c.self.inside.rows.items in
    let ends = all_ends rows c.self.inside.ends.items in
    let h = in_rows text rows ends c.args.self.now c.self.view_is c.self.invariant c.args.n c.requires in
    let k = depth_small text rows ends c.args.self.now c.self.view_is c.self.invariant c.args.n c.requires c.index.result.now c.index.ensures in
    let f = few_rows text rows ends c.args.self.now c.self.view_is c.self.invariant c.args.n c.requires in
    omega arith

pub returns : goal.returns
returns c =
    let text = c.self.inside.text.now in
    let rows = c.self.inside.rows.items in
    let ends = all_ends rows c.self.inside.ends.items in
    let k = node_of_row text rows ends c.args.self.now c.self.view_is c.self.invariant c.args.n c.requires c.index.result.now c.index.ensures in
    let e = ap parts k ∙ parts_of_list c.index.result.now.at _ _ (sym (ap is_atom k) ∙ sym c.is_atom.ensures ∙ c.if-is_atom.false) in
    let shallow = parts_shallow text rows ends c.args.self.now c.self.view_is c.self.invariant c.args.n c.requires c.index.result.now c.index.ensures in
    let r = rw c.deref.ensures.value at (c.row_of_depth.ensures text) in
    let s = rw (add-one c.index.result.now.depth) at (r c.self.invariant.steps shallow) in
    let t = rw c.self.view_is at s in
    subst (StandsFor c.args.self.now c.row_of_depth.result) (sym e) t

use Rattle.std.proofs.Common.{arith, subst, ◌∙◌}
use Rattle.std.proofs.lemmas.List.{length-map}
use Rattle.mz_sexpr.specs.Number.{StandsFor}
use Rattle.mz_sexpr.specs.Rows.{all_ends, entry}
use Rattle.mz_sexpr.proofs.Accessors.{in_rows, end_shallow, after_end}
use Rattle.mz_sexpr.proofs.sexprs.Sexprs.next.Goals as goal

pub index-requires : goal.index-requires
index-requires c =
    let h = in_rows c.self.inside.text.now c.self.inside.rows.items (all_ends c.self.inside.rows.items c.self.inside.ends.items) c.args.self.now c.self.view_is c.self.invariant c.args.n c.requires in
    omega (arith, c.self.inside.rows.ok.0)

pub end_at-requires : goal.end_at-requires
end_at-requires c =
    let text = c.self.inside.text.now in
    let rows = c.self.inside.rows.items in
    let ends = c.self.inside.ends.items in
    let h = in_rows text rows (all_ends rows ends) c.args.self.now c.self.view_is c.self.invariant c.args.n c.requires in
    rw (c.deref-2.ensures.value, c.deref-3.ensures.value) (record { within = h; many = c.self.invariant.many ∙ length-map rows (entry text) })

pub returns : goal.returns
returns c =
    let text = c.self.inside.text.now in
    let rows = c.self.inside.rows.items in
    let ends = all_ends rows c.self.inside.ends.items in
    let k = after_end text rows ends c.args.self.now c.self.view_is c.self.invariant c.args.n c.requires c.index.result.now c.index.ensures in
    let shallow = end_shallow text rows ends c.args.self.now c.self.view_is c.self.invariant c.args.n c.requires c.index.result.now c.index.ensures in
    let r = rw c.deref.ensures.value at (c.row_of_depth.ensures text) in
    let e = rw (c.deref-2.ensures.value, c.deref-3.ensures.value) at c.end_at.ensures in
    let s = rw (e, c.self.view_is) at (r c.self.invariant.steps (rw e shallow)) in
    subst (StandsFor c.args.self.now c.row_of_depth.result) k s

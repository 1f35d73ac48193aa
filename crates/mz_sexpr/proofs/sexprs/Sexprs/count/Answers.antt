use Rattle.std.proofs.Common.{◌≡◌, length, map, arith, sym, ap, ◌∙◌}
use Rattle.std.proofs.lemmas.List.{length-map}
use Rattle.mz_sexpr.specs.Number.{node_count}
use Rattle.mz_sexpr.specs.Rows.{entry}
use Rattle.mz_sexpr.proofs.Numbered.{node_count_is}
use Rattle.mz_sexpr.proofs.sexprs.Sexprs.count.Goals as goal

pub returns : goal.returns
returns c =
    let rows = c.self.inside.rows.items in
    let many : c.len.result ≡ length rows = omega (arith, c.len.ensures, c.self.inside.rows.ok.0) in
    many ∙ sym (length-map rows (entry c.self.inside.text.now)) ∙ sym (node_count_is (map (entry c.self.inside.text.now) rows) c.self.invariant.steps) ∙ ap node_count c.self.view_is

use Rattle.std.proofs.Common.{ap, ◌∙◌, map}
use Rattle.mz_sexpr.specs.Rows.{entry, Entry}
use Rattle.mz_sexpr.proofs.Numbered.{stands_here}
use Rattle.mz_sexpr.proofs.RowLemmas.{entry_is, below_entries}
use Rattle.mz_sexpr.proofs.access.row_of_depth.Goals as goal

pub returns-then-rows-n : goal.returns-then-rows-n
returns-then-rows-n c = λ text steps shallow.
    let rows = c.args.rows.now in
    stands_here (map (entry text) rows) steps c.args.n (below_entries text rows c.args.n c.if-n-rows.true) c.args.depth
    (ap (λ (e : Entry). e.depth) (entry_is text rows c.args.n _ c.if-n-rows.true) ∙ c.if-rows-n.true)

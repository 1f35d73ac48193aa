use Rattle.std.proofs.Common.{arith, ◌∙◌, ◌+◌, ◌≤◌, ◌≡◌, [], drop, map, subst, sym}
use Rattle.mz_sexpr.specs.Rows.{entry, level, all_ends}
use Rattle.mz_sexpr.proofs.RowEnds.{end_known, end_within, skipped}
use Rattle.mz_sexpr.proofs.ends.end_of.Goals as goal

pub loop-end-smaller : goal.loop-end-smaller
loop-end-smaller c =
    let after : c.args.n + 1 ≤ c.loop-end.end = omega (arith, c.loop-end.invariant.later) in
    let known = end_known [] c.args.rows.now (all_ends c.args.rows.now c.args.ends.now) (c.args.n + 1) c.loop-end.end c.requires.known after c.loop-end-test.true in
    omega (arith, known.later, c.loop-end-test.true, c.end_at-end.ensures)

pub loop-end-preserved : goal.loop-end-preserved
loop-end-preserved c =
    let rows = c.args.rows.now in
    let ends = all_ends rows c.args.ends.now in
    let end = c.loop-end.end in
    let after : c.args.n + 1 ≤ end = omega (arith, c.loop-end.invariant.later) in
    let here = c.loop-end-test.true in
    record {
      later = omega (arith, (end_known [] rows ends (c.args.n + 1) end c.requires.known after here).later, after, c.end_at-end.ensures);
      within = rw c.end_at-end.ensures (end_within [] rows ends (c.args.n + 1) end c.requires.known after here);
      same = λ text k h. subst (λ e. level (drop e (map (entry text) rows)) k ≡ level (drop (c.args.n + 1) (map (entry text) rows)) k) (sym c.end_at-end.ensures)
          (skipped text rows ends end _ k _ here (end_known text rows ends (c.args.n + 1) end c.requires.known after here) c.if-depth-rows.true h ∙ c.loop-end.invariant.same text k h);
    }

use Rattle.std.proofs.Common.{ℕ, List, ◌≡◌, ◌<◌, ◌+◌, ◌-◌, length, set, map, refl, sym, subst, ◌∙◌, arith}
use Rattle.std.proofs.lemmas.List.{length-set, length-map}
use Rattle.mz_sexpr.specs.declared.sexprs.Row.{Row}
use Rattle.mz_sexpr.specs.Rows.{Entry, entry, sized, EndsAt, EndFrom}
use Rattle.mz_sexpr.proofs.Sizes.{sized_length, sized_one_more, entries_set}
use Rattle.mz_sexpr.proofs.ends.put_sizes.Goals as goal

pub end_of-requires : goal.end_of-requires
end_of-requires c =
    let rows = c.loop-n.rows.items in
    rw c.deref.ensures.value (record {
      within = omega (arith, c.loop-n.invariant.within, c.loop-n-test.true);
      many = sized_length 0 rows;
      short = omega (arith, c.loop-n.invariant.many, c.requires);
      known = λ text m h k. c.loop-n.invariant.known text m (omega (arith, h, c.loop-n-test.true)) k;
    })

pub loop-n-preserved : goal.loop-n-preserved
loop-n-preserved c =
    let rows = c.loop-n.rows.items in
    let n = c.loop-n.n - 1 in
    let end = c.end_of.result in
    let r : Row = record { depth = c.index.result.now.depth; size = end - n; at = c.index.result.now.at } in
    let here : n < length rows = omega (arith, c.loop-n.invariant.within, c.loop-n-test.true) in
    let as_before = λ (text : List ℕ). entries_set text rows n r c.index.result.now here (let is = c.index.ensures in subst (λ (q : Row). entry text r ≡ entry text q) is refl) in
    let ends = rw c.deref.ensures.value at c.end_of.ensures in
    record {
      within = omega (arith, length-set rows n r, c.loop-n.invariant.within);
      many = length-set rows n r ∙ c.loop-n.invariant.many;
      same = λ text. as_before text ∙ c.loop-n.invariant.same text;
      known = λ text. subst (λ (es : List Entry). EndFrom es (sized 0 (set rows n r)) n) (sym (as_before text))
          (sized_one_more (map (entry text) rows) rows n r (length-map rows (entry text)) here (λ m h k. c.loop-n.invariant.known text m (omega (arith, h, c.loop-n-test.true)) k)
          (let at_end = ends text in let later = at_end.later in let is : end ≡ n + (end - n) = omega (arith, later) in subst (EndsAt (map (entry text) rows) n) is at_end));
    }

pub returns-clause-sizes : goal.returns-clause-sizes
returns-clause-sizes c = λ _ text m h k. c.loop-n.invariant.known text m (omega (arith, c.loop-n-test.false)) k

use Rattle.std.proofs.Common.{ℕ, List, ◌≡◌, ◌<◌, length, arith, ◌∙◌, ◌-◌, sym, subst, get_or, map}
use Rattle.std.proofs.lemmas.List.{length-set, length-map}
use Rattle.mz_sexpr.specs.Rows.{entry, all_ends, EndsAt}
use Rattle.mz_sexpr.proofs.RowEnds.{end_set}
use Rattle.mz_sexpr.proofs.Sizes.{ends_apart, same_ends}
use Rattle.mz_sexpr.proofs.ends.ends_of.Goals as goal

pub end_of-requires-clause-many : goal.end_of-requires-clause-many
end_of-requires-clause-many c =
    let rows = c.args.rows.now in
    subst (λ (ends : List ℕ). length (all_ends rows ends) ≡ length rows) (sym c.deref.ensures.value) (ends_apart rows c.loop-n.ends.items c.loop-n.invariant.many)

pub end_of-requires-clause-known : goal.end_of-requires-clause-known
end_of-requires-clause-known c = λ text m h k.
    let rows = c.args.rows.now in
    let ends = c.loop-n.ends.items in
    let below : m < length rows = subst (λ j. m < j) (length-map rows (entry text)) k in
    subst (λ ends. EndsAt (map (entry text) rows) m (get_or (all_ends rows ends) m 0)) (sym c.deref.ensures.value)
    (subst (EndsAt (map (entry text) rows) m) (sym (same_ends rows ends m c.loop-n.invariant.many below)) (c.loop-n.invariant.known text m (omega (arith, h, c.loop-n-test.true)) k))

pub loop-n-preserved : goal.loop-n-preserved
loop-n-preserved c =
    let n = c.loop-n.n - 1 in
    record {
      within = omega (arith, c.loop-n.invariant.within);
      many = length-set c.loop-n.ends.items n c.end_of.result ∙ c.loop-n.invariant.many;
      known = end_set c.args.rows.now c.loop-n.ends.items n c.end_of.result (omega (arith, c.loop-n.invariant.within, c.loop-n.invariant.many, c.loop-n-test.true))
          (λ text m h k. c.loop-n.invariant.known text m (omega (arith, h, c.loop-n-test.true)) k) c.end_of.ensures;
    }

pub returns-clause-known : goal.returns-clause-known
returns-clause-known c = λ text m h k. c.loop-n.invariant.known text m (omega (arith, c.loop-n-test.false)) k

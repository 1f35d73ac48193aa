use Rattle.std.proofs.Common.{ℕ, List, ◌≡◌, length, map, sym, subst}
use Rattle.mz_sexpr.specs.Rows.{entry, sized, all_ends, IsLinked}
use Rattle.mz_sexpr.proofs.Sizes.{sized_length, ends_apart, kept_ends, are_linked}
use Rattle.mz_sexpr.proofs.sexprs.linked.Goals as goal

pub invariant_of-result : goal.invariant_of-result
invariant_of-result c =
    let text = c.args.text.now in
    let new = c.put_sizes.new.rows.items in
    let put = c.put_sizes.ensures in
    subst (λ (ks : List ℕ). IsLinked (map (entry text) new) (all_ends new ks)) (sym c.new.ensures.items)
    (are_linked text c.args.rows.items new (sized 0 new) c.requires.steps c.requires.short put.many (put.same text) (sized_length 0 new) (put.sizes c.if-put_sizes.true text))

pub invariant_of-result-2 : goal.invariant_of-result-2
invariant_of-result-2 c =
    let text = c.args.text.now in
    let new = c.put_sizes.new.rows.items in
    let put = c.put_sizes.ensures in
    let ends = c.in_ok-ends.ends.items in
    let many : length ends ≡ length new = rw c.deref.ensures.value at c.in_ok-ends.ensures.many in
    let known = rw c.deref.ensures.value at (c.in_ok-ends.ensures.known text) in
    are_linked text c.args.rows.items new (all_ends new ends) c.requires.steps c.requires.short put.many (put.same text) (ends_apart new ends many) (kept_ends text new ends many known)

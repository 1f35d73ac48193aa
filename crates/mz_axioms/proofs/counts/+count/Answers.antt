use Rattle.std.proofs.Common.{◌∙◌, ◌<◌, ◌+◌, ◌-◌, ◌/◌, length, sym, ap, subst, arith}
use Rattle.mz_axioms.specs.Members.{members}
use Rattle.mz_axioms.proofs.Counting.{count-none, count-word, count-both, members-few}
use Rattle.mz_axioms.proofs.Halving.{above-zero, half-span}
use Rattle.mz_axioms.proofs.Writing.{left-set, right-set, node-within, of-halves}
use Rattle.mz_axioms.proofs.counts.+count.Goals as goal

pub returns-then-set-eq0 : goal.returns-then-set-eq0
returns-then-set-eq0 t c = count-none c.args.nodes.now.items c.args.size.height c.args.set c.requires.starts c.if-set-eq0.true

pub returns-then-size-eq0 : goal.returns-then-size-eq0
returns-then-size-eq0 t c = c.from.ensures ∙ count-word c.args.nodes.now.items c.args.size.height c.args.set c.if-size-eq0.true (let lt = c.ranges.set.fits in omega (arith, lt))

pub index-node-requires : goal.index-node-requires
index-node-requires t c =
    subst (λ n. c.args.set < n) (sym c.args.nodes.now.ok.0) (node-within c.args.nodes.now.items c.args.size.height c.args.set c.if-size-eq0.false c.requires.is_set)

pub count-requires : goal.count-requires
count-requires t c =
    let height = c.args.size.height in
    let some = c.if-size-eq0.false in
    let half = half-span height c.args.size.span some c.requires.power in (
      (let d = c.decreases in let lower = above-zero height some in omega (arith, d, lower)),
      (
        c.requires.starts,
        (half.0, ((let fits = c.requires.fits in omega (arith, fits)), left-set c.args.nodes.now.items height c.args.set some c.requires.is_set c.index-node.result.now c.index-node.ensures)),
      ),
    )

pub count-requires-2 : goal.count-requires-2
count-requires-2 t c =
    let height = c.args.size.height in
    let some = c.if-size-eq0.false in
    let half = half-span height c.args.size.span some c.requires.power in (
      (let d = c.decreases in let lower = above-zero height some in omega (arith, d, lower)),
      (
        c.requires.starts,
        (half.0, ((let fits = c.requires.fits in omega (arith, fits)), right-set c.args.nodes.now.items height c.args.set some c.requires.is_set c.index-node.result.now c.index-node.ensures)),
      ),
    )

pub overflow_add-result : goal.overflow_add-result
overflow_add-result t c =
    let height = c.args.size.height in
    let node = c.index-node.result.now in
    let half = half-span height c.args.size.span c.if-size-eq0.false c.requires.power in
    let twice = half.1 in
    let fits = c.requires.fits in
    let left = c.count.ensures in
    let right = c.count-2.ensures in
    let lefts = members-few c.args.nodes.now.items (height - 1) 0 node.left in
    let rights = members-few c.args.nodes.now.items (height - 1) 0 node.right in
    omega (arith, twice, fits, left, right, lefts, rights)

pub returns : goal.returns
returns t c =
    let nodes = c.args.nodes.now.items in
    let height = c.args.size.height in
    let some = c.if-size-eq0.false in
    let node = c.index-node.result.now in
    let half = half-span height c.args.size.span some c.requires.power in
    let whole = of-halves nodes height c.args.set some c.requires.is_set 0 (c.args.size.span / 2) node half.0 c.index-node.ensures in
    ap (λ n. n + c.count-2.result) c.count.ensures ∙ ap (λ n. length (members nodes (height - 1) 0 node.left) + n) c.count-2.ensures
    ∙ count-both nodes (height - 1) (0 + c.args.size.span / 2) node.left node.right (members nodes height 0 c.args.set) whole

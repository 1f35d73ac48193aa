use Rattle.std.proofs.Common.{◌≡◌, ◌∙◌, ◌<◌, ◌+◌, ◌-◌, ◌/◌, length, slice_get, Some, sym, ap, subst, arith}
use Rattle.mz_axioms.specs.Members.{members, span}
use Rattle.mz_axioms.proofs.Counting.{first-at, members-even, second-at, second-there}
use Rattle.mz_axioms.proofs.Halving.{above-zero, half-span}
use Rattle.mz_axioms.proofs.Writing.{left-set, right-set, node-within, of-halves}
use Rattle.mz_axioms.proofs.counts.+nth.Goals as goal

pub nth_bit-requires-clause-fits : goal.nth_bit-requires-clause-fits
nth_bit-requires-clause-fits t c = let power = c.requires.power ∙ ap span c.if-size-eq0.true in let fits = c.requires.fits in omega (arith, power, fits)

pub nth_bit-requires-clause-there : goal.nth_bit-requires-clause-there
nth_bit-requires-clause-there t c = subst (λ k. c.args.j < length (members c.args.nodes.now.items k c.args.base c.args.set)) c.if-size-eq0.true c.requires.there

pub returns-then-size-eq0 : goal.returns-then-size-eq0
returns-then-size-eq0 t c = subst (λ k. slice_get (members c.args.nodes.now.items k c.args.base c.args.set) c.args.j ≡ Some c.nth_bit.result) (sym c.if-size-eq0.true) c.nth_bit.ensures

pub index-node-requires : goal.index-node-requires
index-node-requires t c =
    subst (λ n. c.args.set < n) (sym c.args.nodes.now.ok.0) (node-within c.args.nodes.now.items c.args.size.height c.args.set c.if-size-eq0.false c.requires.is_set)

pub count-lefts-requires-clause-power : goal.count-lefts-requires-clause-power
count-lefts-requires-clause-power t c = (half-span c.args.size.height c.args.size.span c.if-size-eq0.false c.requires.power).0

pub count-lefts-requires-clause-is_set : goal.count-lefts-requires-clause-is_set
count-lefts-requires-clause-is_set t c = left-set c.args.nodes.now.items c.args.size.height c.args.set c.if-size-eq0.false c.requires.is_set c.index-node.result.now c.index-node.ensures

pub nth-requires : goal.nth-requires
nth-requires t c =
    let nodes = c.args.nodes.now.items in
    let height = c.args.size.height in
    let some = c.if-size-eq0.false in
    let node = c.index-node.result.now in
    let half = half-span height c.args.size.span some c.requires.power in
    let long = c.count-lefts.ensures ∙ members-even nodes (height - 1) 0 c.args.base node.left in (
      (let d = c.decreases in let lower = above-zero height some in omega (arith, d, lower)),
      (
        c.requires.starts,
        (
          half.0,
          (
            (let power = half.0 in let twice = half.1 in let fits = c.requires.fits in omega (arith, power, twice, fits)),
            (left-set nodes height c.args.set some c.requires.is_set node c.index-node.ensures, (let lt = c.if-j-lefts.true in omega (arith, long, lt))),
          ),
        ),
      ),
    )

pub returns-then-j-lefts : goal.returns-then-j-lefts
returns-then-j-lefts t c =
    let nodes = c.args.nodes.now.items in
    let height = c.args.size.height in
    let some = c.if-size-eq0.false in
    let node = c.index-node.result.now in
    let half = half-span height c.args.size.span some c.requires.power in
    first-at (members nodes (height - 1) c.args.base node.left) (members nodes (height - 1) (c.args.base + c.args.size.span / 2) node.right) (members nodes height c.args.base c.args.set) c.args.j c.nth.result
    (of-halves nodes height c.args.set some c.requires.is_set c.args.base (c.args.size.span / 2) node half.0 c.index-node.ensures) c.nth.ensures

pub nth-requires-2 : goal.nth-requires-2
nth-requires-2 t c =
    let nodes = c.args.nodes.now.items in
    let height = c.args.size.height in
    let some = c.if-size-eq0.false in
    let node = c.index-node.result.now in
    let half = half-span height c.args.size.span some c.requires.power in
    let long = c.count-lefts.ensures ∙ members-even nodes (height - 1) 0 c.args.base node.left in
    let whole = of-halves nodes height c.args.set some c.requires.is_set c.args.base (c.args.size.span / 2) node half.0 c.index-node.ensures in (
      (let d = c.decreases in let lower = above-zero height some in omega (arith, d, lower)),
      (
        c.requires.starts,
        (
          half.0,
          (
            (let power = half.0 in let twice = half.1 in let fits = c.requires.fits in omega (arith, power, twice, fits)),
            (
              right-set nodes height c.args.set some c.requires.is_set node c.index-node.ensures,
              second-there (members nodes (height - 1) c.args.base node.left) (members nodes (height - 1) (c.args.base + c.args.size.span / 2) node.right) (members nodes height c.args.base c.args.set) c.args.j c.count-lefts.result whole long
                  c.if-j-lefts.false c.requires.there,
            ),
          ),
        ),
      ),
    )

pub returns : goal.returns
returns t c =
    let nodes = c.args.nodes.now.items in
    let height = c.args.size.height in
    let some = c.if-size-eq0.false in
    let node = c.index-node.result.now in
    let half = half-span height c.args.size.span some c.requires.power in
    second-at (members nodes (height - 1) c.args.base node.left) (members nodes (height - 1) (c.args.base + c.args.size.span / 2) node.right) (members nodes height c.args.base c.args.set) c.args.j c.count-lefts.result c.nth-2.result
    (of-halves nodes height c.args.set some c.requires.is_set c.args.base (c.args.size.span / 2) node half.0 c.index-node.ensures) (c.count-lefts.ensures ∙ members-even nodes (height - 1) 0 c.args.base node.left) c.if-j-lefts.false
    c.nth-2.ensures

use Rattle.std.proofs.Common.{◌∙◌, ◌<◌, ◌+◌, ◌-◌, ◌/◌, All, map, length, sym, ap, subst, arith}
use Rattle.mz_axioms.specs.Kept.{nodes_of, number_of}
use Rattle.mz_axioms.specs.Members.{members, span}
use Rattle.mz_axioms.specs.Text.{axiom_names}
use Rattle.mz_axioms.proofs.Adding.{adds-both, adds-none, adds-stops, adds-text}
use Rattle.mz_axioms.proofs.Halving.{above-zero, half-span}
use Rattle.mz_axioms.proofs.Naming.{names-both, names_from}
use Rattle.mz_axioms.proofs.Writing.{all-front, all-back, left-set, right-set, node-within, of-halves, no-members}
use Rattle.mz_axioms.proofs.names.+put_half.Goals as goal

pub returns-then-set-eq0 : goal.returns-then-set-eq0
returns-then-set-eq0 g t c =
    let table = c.args.table.now in
    let text = axiom_names c.args.spec.now.text.now c.args.spec.now.declared (map (number_of table.rows.items) (members (nodes_of table) c.args.size.height c.args.base c.args.set)) in
    adds-none tt (g.O.Sink.is_clear c.args.out.now) (g.O.Sink.room c.args.out.now) (g.O.Sink.faults c.args.out.now) (g.O.Sink.calls c.args.out.now) c.args.held.now.items text
    (ap (axiom_names c.args.spec.now.text.now c.args.spec.now.declared) (no-members (nodes_of table) table.rows.items c.args.size.height c.args.base c.args.set c.requires.starts c.if-set-eq0.true))

pub put_word-requires-clause-fits : goal.put_word-requires-clause-fits
put_word-requires-clause-fits g t c = let power = c.requires.power ∙ ap span c.if-size-eq0.true in let fits = c.requires.fits in omega (arith, power, fits)

pub put_word-requires-clause-within : goal.put_word-requires-clause-within
put_word-requires-clause-within g t c =
    subst (λ k. All (λ A. A < length c.args.table.now.rows.items) (members (nodes_of c.args.table.now) k c.args.base c.args.set)) c.if-size-eq0.true c.requires.within

pub returns-then-size-eq0 : goal.returns-then-size-eq0
returns-then-size-eq0 g t c =
    let table = c.args.table.now in
    adds-text (names_from table c.args.spec.now.text.now c.args.spec.now.declared 0 c.args.base c.args.set) (names_from table c.args.spec.now.text.now c.args.spec.now.declared c.args.size.height c.args.base c.args.set)
    (ap (λ k. names_from table c.args.spec.now.text.now c.args.spec.now.declared k c.args.base c.args.set) (sym c.if-size-eq0.true)) c.put_word.ensures

pub index-node-requires : goal.index-node-requires
index-node-requires g t c =
    subst (λ n. c.args.set < n) (sym c.args.table.now.sets.nodes.ok.0) (node-within (nodes_of c.args.table.now) c.args.size.height c.args.set c.if-size-eq0.false c.requires.is_set)

pub put_half-requires : goal.put_half-requires
put_half-requires g t c κs within =
    let table = c.args.table.now in
    let nodes = nodes_of table in
    let height = c.args.size.height in
    let some = c.if-size-eq0.false in
    let node = c.index-node.result.now in
    let half = half-span height c.args.size.span some c.requires.power in
    let low = members nodes (height - 1) c.args.base node.left in
    let high = members nodes (height - 1) (c.args.base + c.args.size.span / 2) node.right in
    let whole = of-halves nodes height c.args.set some c.requires.is_set c.args.base (c.args.size.span / 2) node half.0 c.index-node.ensures in (
      (let d = c.decreases in let lower = above-zero height some in omega (arith, d, lower)),
      (
        within,
        (
          c.requires.starts,
          (
            half.0,
            (
              (let power = half.0 in let twice = half.1 in let fits = c.requires.fits in omega (arith, power, twice, fits)),
              (
                left-set nodes height c.args.set some c.requires.is_set node c.index-node.ensures,
                all-front (λ A. A < length table.rows.items) low high (subst (All (λ A. A < length table.rows.items)) whole c.requires.within),
              ),
            ),
          ),
        ),
      ),
    )

pub put_half-requires-2 : goal.put_half-requires-2
put_half-requires-2 g t c κs within =
    let table = c.args.table.now in
    let nodes = nodes_of table in
    let height = c.args.size.height in
    let some = c.if-size-eq0.false in
    let node = c.index-node.result.now in
    let half = half-span height c.args.size.span some c.requires.power in
    let low = members nodes (height - 1) c.args.base node.left in
    let high = members nodes (height - 1) (c.args.base + c.args.size.span / 2) node.right in
    let whole = of-halves nodes height c.args.set some c.requires.is_set c.args.base (c.args.size.span / 2) node half.0 c.index-node.ensures in (
      (let d = c.decreases in let lower = above-zero height some in omega (arith, d, lower)),
      (
        within,
        (
          c.requires.starts,
          (
            half.0,
            (
              (let power = half.0 in let twice = half.1 in let fits = c.requires.fits in omega (arith, power, twice, fits)),
              (
                right-set nodes height c.args.set some c.requires.is_set node c.index-node.ensures,
                all-back (λ A. A < length table.rows.items) low high (subst (All (λ A. A < length table.rows.items)) whole c.requires.within),
              ),
            ),
          ),
        ),
      ),
    )

pub returns-in_err-put_half : goal.returns-in_err-put_half
returns-in_err-put_half g t c =
    let table = c.args.table.now in
    let height = c.args.size.height in
    let some = c.if-size-eq0.false in
    let node = c.index-node.result.now in
    let half = half-span height c.args.size.span some c.requires.power in
    let spec = c.args.spec.now.text.now in
    let declared = c.args.spec.now.declared in
    let whole = of-halves (nodes_of table) height c.args.set some c.requires.is_set c.args.base (c.args.size.span / 2) node half.0 c.index-node.ensures in
    adds-stops c.from_residual.result c.from_residual.ensures.0 (names_from table spec declared (height - 1) c.args.base node.left) (names_from table spec declared (height - 1) (c.args.base + c.args.size.span / 2) node.right)
    (names_from table spec declared height c.args.base c.args.set)
    (names-both spec declared (number_of table.rows.items) (members (nodes_of table) height c.args.base c.args.set) (members (nodes_of table) (height - 1) c.args.base node.left)
    (members (nodes_of table) (height - 1) (c.args.base + c.args.size.span / 2) node.right) whole) c.in_err-put_half.ensures

pub returns : goal.returns
returns g t c =
    let table = c.args.table.now in
    let height = c.args.size.height in
    let some = c.if-size-eq0.false in
    let node = c.index-node.result.now in
    let half = half-span height c.args.size.span some c.requires.power in
    let spec = c.args.spec.now.text.now in
    let declared = c.args.spec.now.declared in
    let whole = of-halves (nodes_of table) height c.args.set some c.requires.is_set c.args.base (c.args.size.span / 2) node half.0 c.index-node.ensures in
    adds-both (names_from table spec declared (height - 1) c.args.base node.left) (names_from table spec declared (height - 1) (c.args.base + c.args.size.span / 2) node.right)
    (names_from table spec declared height c.args.base c.args.set)
    (names-both spec declared (number_of table.rows.items) (members (nodes_of table) height c.args.base c.args.set) (members (nodes_of table) (height - 1) c.args.base node.left)
    (members (nodes_of table) (height - 1) (c.args.base + c.args.size.span / 2) node.right) whole) c.in_ok-put_half.ensures c.put_half-2.ensures

use Rattle.std.proofs.Common.{refl, sym, subst, arith}
use Rattle.mz_decompile_text.specs.Naming.{vocabulary_by}
use Rattle.mz_binary_walk.specs.declared.passed.Passed.{Passed}
use Rattle.mz_decompile.specs.declared.measure.Sizes.{Sizes}
use Rattle.mz_decompile.proofs.Walking.{IsMeasuring, measuring-asks, measuring-first, measuring-stands, measuring-deep, measuring-more, measuring-last, deep-if, low-unless}
use Rattle.mz_decompile.proofs.measure.measure.Goals as goal

pub statements-init : goal.statements-init
statements-init c =
    let file = c.args.mmb.now in
    let names = c.args.names.now in
    let v = vocabulary_by names in
    let s : Sizes = record { len = 0; weight = 0 } in
    record {
      each = λ all are. subst (λ (p : Passed). IsMeasuring file names v p s all) (sym c.nothing-passed.ensures.nothing) (measuring-first file names v s all refl refl are);
      placed = c.nothing-passed.ensures.placed;
    }

pub next-requires-clause-placed : goal.next-requires-clause-placed
next-requires-clause-placed c = c.statements.invariant.placed

pub next-requires-clause-good : goal.next-requires-clause-good
next-requires-clause-good c =
    let names = c.args.names.now in
    measuring-asks c.args.mmb.now names (vocabulary_by names) c.statements.passed c.statements.so_far c.requires.0 (c.statements.invariant.each c.requires.0 c.requires.1)

pub line_of-requires : goal.line_of-requires
line_of-requires c =
    let names = c.args.names.now in
    measuring-stands c.args.mmb.now names (vocabulary_by names) c.statements.passed c.statements.so_far c.requires.0 (c.statements.invariant.each c.requires.0 c.requires.1)
    c.in-Some.head c.in-Some.after c.in-Some.ensures.goes_on

pub returns-then-line : goal.returns-then-line
returns-then-line c all are =
    let file = c.args.mmb.now in
    let names = c.args.names.now in
    let v = vocabulary_by names in
    let m = c.statements.invariant.each all are in
    let on = c.in-Some.ensures.goes_on in
    let some = measuring-stands file names v c.statements.passed c.statements.so_far all m c.in-Some.head c.in-Some.after on in
    measuring-deep file names v c.statements.passed c.statements.so_far all m c.in-Some.head c.in-Some.after on
    (deep-if v some.0 some.1 c.in_ok-line.line (c.in_ok-line.ensures some.0 some.1 some.2) c.if-line.true)

pub statements-smaller : goal.statements-smaller
statements-smaller c =
    let further = c.in-Some.ensures.goes_on.further in
    let within = c.in-Some.ensures.goes_on.placed.within in
    omega (arith, further, within)

pub statements-preserved : goal.statements-preserved
statements-preserved c =
    let file = c.args.mmb.now in
    let names = c.args.names.now in
    let v = vocabulary_by names in
    let on = c.in-Some.ensures.goes_on in
    record {
      each = λ all are.
          let m = c.statements.invariant.each all are in
          let some = measuring-stands file names v c.statements.passed c.statements.so_far all m c.in-Some.head c.in-Some.after on in
          let line = c.in_ok-line.ensures some.0 some.1 some.2 in
          measuring-more file names v c.statements.passed c.statements.so_far all m c.in-Some.head c.in-Some.after on c.in_ok-line.line.sizes c.plus-so_far.result line.sizes
          (low-unless v some.0 some.1 c.in_ok-line.line line c.if-line.false) c.plus-so_far.ensures.len c.plus-so_far.ensures.weight;
      placed = on.placed;
    }

pub returns : goal.returns
returns c all are =
    let names = c.args.names.now in
    let last = measuring-last c.args.mmb.now names (vocabulary_by names) c.statements.passed c.statements.so_far all (c.statements.invariant.each all are) c.in_default.ensures.ends in
    (last.depths, last.text, last.weights)

use Rattle.std.proofs.Common.{sym, subst, arith}
use Rattle.mz_decompile_text.specs.Naming.{vocabulary_by}
use Rattle.mz_binary_walk.specs.declared.passed.Passed.{Passed}
use Rattle.mz_decompile.proofs.Walking.{IsWriting, writing-asks, writing-first, writing-stands, writing-more, writing-last}
use Rattle.mz_decompile.proofs.write.text.Goals as goal

pub statements-init : goal.statements-init
statements-init c =
    let file = c.args.mmb.now in
    let names = c.args.names.now in
    let v = vocabulary_by names in
    record {
      each = λ all are. subst (λ (p : Passed). IsWriting file names v p c.new-out.result.items all) (sym c.nothing-passed.ensures.nothing)
          (writing-first file names v c.new-out.result.items all c.new-out.ensures.items are);
      placed = c.nothing-passed.ensures.placed;
    }

pub next-requires-clause-placed : goal.next-requires-clause-placed
next-requires-clause-placed c = c.statements.invariant.placed

pub next-requires-clause-good : goal.next-requires-clause-good
next-requires-clause-good c =
    let names = c.args.names.now in
    writing-asks c.args.mmb.now names (vocabulary_by names) c.statements.passed c.statements.out.items c.requires.0 (c.statements.invariant.each c.requires.0 c.requires.1)

pub put_line-requires : goal.put_line-requires
put_line-requires c =
    let names = c.args.names.now in
    writing-stands c.args.mmb.now names (vocabulary_by names) c.statements.passed c.statements.out.items c.requires.0 (c.statements.invariant.each c.requires.0 c.requires.1)
    c.in-Some.head c.in-Some.after c.in-Some.ensures.goes_on

pub statements-smaller : goal.statements-smaller
statements-smaller c =
    let further = c.in-Some.ensures.goes_on.further in
    let within = c.in-Some.ensures.goes_on.placed.within in
    omega (arith, further, within)

pub statements-preserved : goal.statements-preserved
statements-preserved c =
    let file = c.args.mmb.now in
    let names = c.args.names.now in
    let v = vocabulary_by names in
    let on = c.in-Some.ensures.goes_on in
    record {
      each = λ all are.
          let m = c.statements.invariant.each all are in
          let some = writing-stands file names v c.statements.passed c.statements.out.items all m c.in-Some.head c.in-Some.after on in
          writing-more file names v c.statements.passed c.statements.out.items all m c.in-Some.head c.in-Some.after on c.put_line.new.out.items
          (c.in_ok-put_line.ensures some.0 some.1 some.2);
      placed = on.placed;
    }

pub returns : goal.returns
returns c all are =
    let names = c.args.names.now in
    writing-last c.args.mmb.now names (vocabulary_by names) c.statements.passed c.statements.out.items all (c.statements.invariant.each all are) c.in_default.ensures.ends

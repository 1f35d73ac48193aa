use Rattle.std.proofs.Common.{length, sym, ap, arith}
use Rattle.mz_axioms.specs.Lists.{axioms_at}
use Rattle.mz_axioms.proofs.Counting.{axioms-long, axioms-small, inside-there, is-support}
use Rattle.mz_axioms.proofs.lists.Lists.axioms.Goals as goal

pub count-requires-clause-starts : goal.count-requires-clause-starts
count-requires-clause-starts c = c.self.invariant.kept.starts

pub count-requires-clause-power : goal.count-requires-clause-power
count-requires-clause-power c = c.self.invariant.kept.power

pub count-requires-clause-fits : goal.count-requires-clause-fits
count-requires-clause-fits c = c.self.invariant.kept.small

pub count-requires-clause-is_set : goal.count-requires-clause-is_set
count-requires-clause-is_set c =
    let table = c.self.inside.table in
    let supports = c.self.inside.supports.items in
    (is-support table supports c.args.i c.index-support.result.now (inside-there table supports c.args.self.now c.args.i (sym c.self.view_is) c.requires) c.index-support.ensures c.self.invariant).is_set

pub overflow_cast-result : goal.overflow_cast-result
overflow_cast-result c =
    let table = c.self.inside.table in
    let supports = c.self.inside.supports.items in
    let lt = inside-there table supports c.args.self.now c.args.i (sym c.self.view_is) c.requires in
    let counted = c.count.ensures in
    let small = axioms-small table supports c.args.i c.index-support.result.now lt c.index-support.ensures c.self.invariant in
    omega (arith, counted, small)

pub returns : goal.returns
returns c =
    let table = c.self.inside.table in
    let supports = c.self.inside.supports.items in
    let s = c.index-support.result.now in
    let lt = inside-there table supports c.args.self.now c.args.i (sym c.self.view_is) c.requires in
    let counted = c.count.ensures in
    let small = axioms-small table supports c.args.i s lt c.index-support.ensures c.self.invariant in
    let long = axioms-long table supports c.args.i s lt c.index-support.ensures c.self.invariant in
    let same = ap (λ v. length (axioms_at v c.args.i)) (sym c.self.view_is) in
    omega (arith, counted, small, long, same)

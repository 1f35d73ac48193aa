use Rattle.std.proofs.Common.{◌∙◌, List, map, length, slice_get, sym, ap, arith}
use Rattle.mz_axioms.specs.Kept.{members_of, told}
use Rattle.mz_axioms.specs.Rows.{number_at}
use Rattle.mz_axioms.specs.Lists.{TheoremSupport, axioms_at}
use Rattle.mz_axioms.proofs.Counting.{axioms-are, axioms-long, inside-there, is-support, listed-there}
use Rattle.mz_axioms.proofs.lists.Lists.axiom.Goals as goal

pub index-support-requires : goal.index-support-requires
index-support-requires c =
    let lt = inside-there c.self.inside.table c.self.inside.supports.items c.args.self.now c.args.i (sym c.self.view_is) (listed-there c.args.self.now c.args.i c.args.j c.requires) in
    let long = c.self.inside.supports.ok.0 in
    omega (arith, lt, long)

pub nth_number-requires-clause-kept : goal.nth_number-requires-clause-kept
nth_number-requires-clause-kept c = c.self.invariant.kept

pub nth_number-requires-clause-is_set : goal.nth_number-requires-clause-is_set
nth_number-requires-clause-is_set c =
    let table = c.self.inside.table in
    let supports = c.self.inside.supports.items in
    let lt = inside-there table supports c.args.self.now c.args.i (sym c.self.view_is) (listed-there c.args.self.now c.args.i c.args.j c.requires) in
    (is-support table supports c.args.i c.index-support.result.now lt c.index-support.ensures c.self.invariant).is_set

pub nth_number-requires-clause-within : goal.nth_number-requires-clause-within
nth_number-requires-clause-within c =
    let table = c.self.inside.table in
    let supports = c.self.inside.supports.items in
    let lt = inside-there table supports c.args.self.now c.args.i (sym c.self.view_is) (listed-there c.args.self.now c.args.i c.args.j c.requires) in
    (is-support table supports c.args.i c.index-support.result.now lt c.index-support.ensures c.self.invariant).within

pub nth_number-requires-clause-there : goal.nth_number-requires-clause-there
nth_number-requires-clause-there c =
    let table = c.self.inside.table in
    let supports = c.self.inside.supports.items in
    let lt = inside-there table supports c.args.self.now c.args.i (sym c.self.view_is) (listed-there c.args.self.now c.args.i c.args.j c.requires) in
    let long = axioms-long table supports c.args.i c.index-support.result.now lt c.index-support.ensures c.self.invariant in
    let same = ap (λ v. length (axioms_at v c.args.i)) (sym c.self.view_is) in
    let there = c.requires in
    omega (arith, long, same, there)

pub returns : goal.returns
returns c =
    let table = c.self.inside.table in
    let supports = c.self.inside.supports.items in
    let lt = inside-there table supports c.args.self.now c.args.i (sym c.self.view_is) (listed-there c.args.self.now c.args.i c.args.j c.requires) in
    let are = axioms-are table supports c.args.i c.index-support.result.now lt c.index-support.ensures c.self.invariant in
    ap (λ (v : List TheoremSupport). slice_get (axioms_at v c.args.i) c.args.j) (sym c.self.view_is) ∙ ap (λ xs. slice_get xs c.args.j) are
    ∙ ap (slice_get (map (number_at (told table)) (members_of table c.index-support.result.now.set))) (sym c.from.ensures) ∙ c.nth_number.ensures

use Rattle.std.proofs.Common.{◌∙◌}
use Rattle.mz_store.proofs.OverTerms.{on-err}
use Rattle.mz_store.proofs.Placing.{placed-kept, placed-new, left-kept, left-same, found-placed, missing-fresh, chain-here}
use Rattle.mz_store.proofs.store.Store.find_or_add.Goals as goal

pub invariant_of-self : goal.invariant_of-self
invariant_of-self g c = (c.make_room.ensures.kept, c.make_room.ensures.table)

pub find-there-requires : goal.find-there-requires
find-there-requires g c =
    chain-here c.make_room.new.self c.make_room.new.expressions c.args.t c.args.args.now c.deref-2.result.now c.deref.result.now c.newest-newest.result c.bucket_of-bucket.result
    (c.make_room.ensures.kept, c.make_room.ensures.table)
    c.deref-2.ensures.value c.deref.ensures.value c.bucket_of-bucket.ensures.is c.newest-newest.ensures

pub invariant_of-self-in-Some : goal.invariant_of-self-in-Some
invariant_of-self-in-Some g c = (c.make_room.ensures.kept, c.make_room.ensures.table)

pub returns-in-Some-clause-ok : goal.returns-in-Some-clause-ok
returns-in-Some-clause-ok g c =
    let view = c.make_room.ensures.same ∙ c.self.view_is in
    found-placed c.make_room.new.self (g.T.Terms.all_terms c.args.terms.now) c.make_room.new.expressions c.args.self.now _ c.args.t c.args.args.now c.deref-2.result.now c.deref.result.now c.in-Some.id
    (c.make_room.ensures.kept, c.make_room.ensures.table)
    view view c.deref-2.ensures.value c.deref.ensures.value c.in-Some.ensures.some

pub add-requires-clause-kept : goal.add-requires-clause-kept
add-requires-clause-kept g c =
    c.make_room.ensures.kept

pub invariant_of-self-in_err-id : goal.invariant_of-self-in_err-id
invariant_of-self-in_err-id g c =
    left-kept c.make_room.new.self c.make_room.new.expressions c.add.new.self
    (c.make_room.ensures.kept, c.make_room.ensures.table)
    c.in_err-id.ensures.err

pub returns-in_err-id-clause-err : goal.returns-in_err-id-clause-err
returns-in_err-id-clause-err g c = on-err _ c.from_residual-in_err-id.result
    (left-same c.make_room.new.self c.make_room.new.expressions c.add.new.self c.args.self.now
    (c.make_room.ensures.kept, c.make_room.ensures.table)
    (c.make_room.ensures.same ∙ c.self.view_is) c.in_err-id.ensures.err)

pub invariant_of-self-2 : goal.invariant_of-self-2
invariant_of-self-2 g c =
    let view = c.make_room.ensures.same ∙ c.self.view_is in
    placed-kept c.make_room.new.self c.put.new.self (g.T.Terms.all_terms c.args.terms.now) c.make_room.new.expressions c.add.new.self c.args.self.now c.args.t c.args.args.now c.newest-newest.result c.bucket_of-bucket.result c.in_ok-id.id
    (c.make_room.ensures.kept, c.make_room.ensures.table) view c.in_ok-id.ensures.ok c.requires.ids
    (missing-fresh c.make_room.new.self c.make_room.new.expressions c.args.self.now c.args.t c.args.args.now c.deref-2.result.now c.deref.result.now
    (c.make_room.ensures.kept, c.make_room.ensures.table) view c.requires.ids c.deref-2.ensures.value c.deref.ensures.value c.in_default.ensures.none)
    c.bucket_of-bucket.ensures.is c.newest-newest.ensures c.in_ok-id.ensures.id c.bucket_of-bucket.ensures.within c.put.ensures

pub returns-clause-ok : goal.returns-clause-ok
returns-clause-ok g c =
    placed-new c.make_room.new.self (g.T.Terms.all_terms c.args.terms.now) c.make_room.new.expressions c.add.new.self c.args.self.now c.args.t c.args.args.now c.newest-newest.result c.in_ok-id.id
    (c.make_room.ensures.kept, c.make_room.ensures.table)
    (c.make_room.ensures.same ∙ c.self.view_is)
    c.in_ok-id.ensures.ok c.requires.over c.requires.fit c.in_ok-id.ensures.id

use Rattle.std.proofs.Common.{refl, sym, length, ltb-true}
use Rattle.std.proofs.lemmas.Option.{slice_get_read}
use Rattle.mz_unify.proofs.Offered.{is-in-at}
use Rattle.mz_read_tests.proofs.unify.numbered.Goals as goal

pub returns-in-Some : goal.returns-in-Some
returns-in-Some c = is-in-at c.args.store.now c.args.ids.now c.args.place c.in-Some.id.now c.requires
    (slice_get_read c.args.ids.now (length c.args.ids.now) c.args.place c.in-Some.id.now refl (ltb-true _ _ (sym c.in-Some.ensures.lookup.0)) c.in-Some.ensures.lookup.1)

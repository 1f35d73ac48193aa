use Rattle.mz_unify.proofs.Offered.{are-in-both, are-still-in}
use Rattle.mz_read_tests.proofs.unify.add.Goals as goal

pub returns-in-Ok-push-clause-ids : goal.returns-in-Ok-push-clause-ids
returns-in-Ok-push-clause-ids g c =
    rw c.in-Ok-push.ensures.items (are-in-both c.app.new.self _ _ (are-still-in c.args.store.now c.app.new.self c.in-Ok.ensures.kept c.args.ids.now.items c.requires.ids) (c.in-Ok.ensures.holds.0, tt))

use Rattle.std.proofs.Common.{◌<◌, length, refl, sym, subst}
use Rattle.std.proofs.lemmas.Option.{slice_get_read}
use Rattle.mz_trace.specs.Numbered.{Numbered}
use Rattle.mz_trace.proofs.Whole.{let-there}
use Rattle.mz_trace.proofs.run.Run.let_root.Goals as goal

pub returns-clause-there : goal.returns-clause-there
returns-clause-there c =
    let items = c.self.inside.lets.items in
    let within = subst (λ (p : Numbered). c.args.i < length p.lets) (sym c.self.view_is) c.requires in
    subst (λ (p : Numbered). c.index.result.now < length p.nodes) c.self.view_is
    (let-there _ c.args.i c.index.result.now c.self.invariant (slice_get_read items (length items) c.args.i c.index.result.now refl within c.index.ensures))

use Rattle.std.proofs.Common.{◌∙◌, ap}
use Rattle.mz_prefix.specs.PublicPart.{any_mentions_local}
use Rattle.mz_prefix.proofs.Shared.{any_repeated}
use Rattle.mz_prefix.proofs.names.Names.any_hyp_mentions_local.Goals as goal

pub returns : goal.returns
returns c =
    let locals = c.args.self.now.locals.items in
    c.any_mentions_local.ensures ∙ ap (any_mentions_local locals) c.borrowed.ensures ∙ any_repeated locals c.formulas.result.now c.args.hyps.now c.formulas.ensures

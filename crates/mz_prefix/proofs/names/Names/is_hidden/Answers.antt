use Rattle.std.specs.Prelude.{not, ◌||◌}
use Rattle.std.proofs.Common.{◌∙◌, sym, ap}
use Rattle.mz_prefix.specs.PublicPart.{mentions_local}
use Rattle.mz_prefix.specs.Wording.{is_short}
use Rattle.mz_prefix.specs.Names.{spoken}
use Rattle.mz_prefix.proofs.names.Names.is_hidden.Goals as goal

pub returns-else-mentions_local : goal.returns-else-mentions_local
returns-else-mentions_local c =
    let v = spoken c.args.self.now in
    let borrowed = c.borrowed-body.ensures in
    ap not (c.is_short.ensures v ∙ ap (is_short v) borrowed)
    ∙ ap (λ m. m || not (is_short v c.args.body.now)) (sym c.if-mentions_local.false ∙ c.mentions_local.ensures ∙ ap (mentions_local c.args.self.now.locals.items) borrowed)

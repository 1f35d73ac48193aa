use Rattle.std.proofs.Common.{◌∙◌, ap, refl, sym}
use Rattle.std.proofs.lemmas.Option.{slice_get_read}
use Rattle.mz_type_rules.specs.Claims.{claim_tree}
use Rattle.mz_type_rules.proofs.Keeping.{let_read}
use Rattle.mz_type_rules.proofs.lets.claim_named.Goals as goal

pub returns : goal.returns
returns c =
    ap (λ l. claim_tree l.claim) (sym c.index-visible-place.is)
    ∙ sym (let_read c.args.visible.now c.args.place c.index-visible-place.result (slice_get_read c.args.visible.now _ c.args.place c.index-visible-place.result refl c.requires c.index-visible-place.is))

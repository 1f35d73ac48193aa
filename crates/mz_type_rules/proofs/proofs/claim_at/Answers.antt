use Rattle.std.proofs.Common.{◌∙◌, ap, sym}
use Rattle.mz_type_rules.specs.Claims.{claim_tree}
use Rattle.mz_type_rules.proofs.Claims.{claim_read}
use Rattle.mz_type_rules.proofs.proofs.claim_at.Goals as goal

pub returns : goal.returns
returns c = ap claim_tree c.index-claims-place.is ∙ sym (claim_read c.args.claims.now c.args.place c.index-claims-place.result c.requires)

-- Whether a proof may have a gap (this project's own: the published formats write a gap as Sorry, which is never
-- accepted in a finished proof; docs/FORMAT.md, Drafts).
use Rattle.std.specs.Prelude.{Bool, true, false}
use Rattle.mz_base.specs.declared.mode.Mode.{Mode}
use Rattle.mz_base.specs.declared.mode.Mode.TheVariants.{Strict, Draft}

abbrev pub gaps_of : Mode → Bool
gaps_of Strict = false
gaps_of Draft = true

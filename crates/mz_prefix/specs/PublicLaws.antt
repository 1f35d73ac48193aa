-- What holds of the public part of a legal list.
use Rattle.std.specs.Prelude.{List, Bool}
use Rattle.mz_logic_theory.specs.Tree.{Tree}
use Rattle.mz_logic_theory.specs.Legality.{IsLegalEnv}
use Rattle.mz_logic_theory.specs.LegalLists.{Statement, Legal}
use Rattle.mz_prefix.specs.PublicPart.{visibilities_of, public_part, Hides, AreSayable}

-- it is legal, if no claim mentions a local definition and each body that mentions one is hidden
abbrev pub PublicPartsAreLegal : Type 0
PublicPartsAreLegal = (ss : List Statement) (hidden : Tree → Bool) → Legal ss → Hides (visibilities_of ss) hidden → AreSayable (visibilities_of ss) ss
    → IsLegalEnv (public_part hidden ss)

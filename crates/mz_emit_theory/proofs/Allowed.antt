-- What a derivation uses that is allowed: gaps where they are let through.
use Rattle.std.proofs.Common.{◌≡◌, Bool, true, false, List, refl}
use Rattle.std.specs.Prelude.{⊤}
use Rattle.mz_logic_theory.specs.Conversions.{Conversion, Conversions, refl_conv, sym_conv, cong_conv, unfold_conv, gap_conv, no_convs, more_convs, GapsOnly, AllGapsOnly}
use Rattle.mz_logic_theory.specs.Declaration.{Declaration}
use Rattle.mz_logic_theory.specs.Derivations.{Derivation, Derivations, hypothesis, cite, convert, gap, no_derivs, more_derivs, Uses, CitesOnly, AllCiteOnly, without_gaps}
use Rattle.mz_logic_theory.specs.LegalLists.{allowed_with}
use Rattle.mz_logic_theory.proofs.Offered.{cites_more}

-- every citation, and gaps where they are let through
abbrev pub used_with : Bool → Uses
used_with gaps = record { cites = λ T. ⊤; gaps = gaps ≡ true }

mutual
  all-through : (c : Conversion) → GapsOnly (true ≡ true) c
  all-through (refl_conv e) = tt
  all-through (sym_conv c) = all-through c
  all-through (cong_conv t cs) = each-through cs
  all-through (unfold_conv t es ys c) = all-through c
  all-through (gap_conv l r) = refl

  each-through : (cs : Conversions) → AllGapsOnly (true ≡ true) cs
  each-through no_convs = tt
  each-through (more_convs c cs) = (all-through c, each-through cs)

mutual
  any-uses : (d : Derivation) → CitesOnly (used_with true) d
  any-uses (hypothesis i) = tt
  any-uses (cite T es ds) = (tt, all-use ds)
  any-uses (convert e c d) = (all-through c, any-uses d)
  any-uses (gap e) = refl

  all-use : (ds : Derivations) → AllCiteOnly (used_with true) ds
  all-use no_derivs = tt
  all-use (more_derivs d ds) = (any-uses d, all-use ds)

pub allowed-uses : (gaps : Bool) (env : List Declaration) (d : Derivation) → allowed_with gaps env d → CitesOnly (used_with gaps) d
allowed-uses true env d allowed = any-uses d
allowed-uses false env d free = cites_more (without_gaps (λ T. ⊤)) (used_with false) (λ T h. h) (λ h. absurd h) d free

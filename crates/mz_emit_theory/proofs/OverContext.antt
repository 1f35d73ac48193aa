-- What has a sort over a context is over its variables.
use Rattle.std.specs.Prelude.{ℕ, List, [], ◌∷◌, length}
use Rattle.std.proofs.lemmas.Option.{slice_get_within}
use Rattle.mz_logic_theory.specs.Tree.{Tree, Trees, var, app, none, more}
use Rattle.mz_logic_theory.specs.Signature.{Signature}
use Rattle.mz_logic_theory.specs.Sorts.{HasSort, Fits}
use Rattle.mz_logic_theory.specs.declared.binder.Binder.{Binder}
use Rattle.mz_emit_theory.specs.InReach.{InReach, AllInReach, AreSorted}

module _ (sigs : List Signature) (ctx : List Binder) where
  mutual
    pub reach_of_sort : (e : Tree) (k : ℕ) → HasSort sigs ctx e k → InReach (length ctx) e
    reach_of_sort (var x) k (b, at, is) = slice_get_within ctx x b at
    reach_of_sort (app t es) k (d, at, is, fits) = reach_of_fits es d.params fits

    pub reach_of_fits : (es : Trees) (ps : List Binder) → Fits sigs ctx es ps → AllInReach (length ctx) es
    reach_of_fits none ps fits = tt
    reach_of_fits (more e es) [] fits = absurd fits
    reach_of_fits (more e es) (p ∷ ps) (has, _, fits) = (reach_of_sort e p.sort has, reach_of_fits es ps fits)

  pub reach_of_sorted : (es : Trees) → AreSorted sigs ctx es → AllInReach (length ctx) es
  reach_of_sorted none h = tt
  reach_of_sorted (more e es) ((k, has), hs) = (reach_of_sort e k has, reach_of_sorted es hs)

-- What builds spells.
use Rattle.std.proofs.Common.{ℕ, List, [], ◌∷◌, inl, inr}
use Rattle.mz_logic_theory.specs.Tree.{Tree, Trees, var, app, none, more, listed}
use Rattle.std.specs.Prelude.{reverse}
use Rattle.mz_logic_theory.specs.Signature.{Signature}
use Rattle.mz_machine_theory.specs.Streams.{UnifyCommand}
use Rattle.mz_machine_theory.specs.Spells.{Marks, marked, Spells, SpellsAll, SpellsHyps}
use Rattle.mz_emit_theory.specs.Sharing.{Built, Builds, BuildsAll, BuildsHyps}
use Rattle.mz_emit_theory.specs.StreamLaws.{BuildingSpells}

module _ (n : ℕ) (sigs : List Signature) where
  mutual
    pub forgets : (m m' : Marks) (us us' : List UnifyCommand) (e : Tree) (bs : List Built) → Builds n sigs m us e m' us' bs → Spells n sigs m us e m' us'
    forgets m m' us us' (var x) bs (s, _) = s
    forgets m m' us us' (app t es) bs (inl (i, u, at, is, _)) = inl (i, u, at, is)
    forgets m m' us us' (app t es) bs (inr (inl (rest, cs, u, has, all, _))) = inr (inl (rest, u, has, all-forget m m' rest us' es cs all))
    forgets m m' us us' (app t es) bs (inr (inr (rest, cs, u, has, all, _))) = inr (inr (rest, u, has, all-forget (marked m (app t es)) m' rest us' es cs all))

    pub all-forget : (m m' : Marks) (us us' : List UnifyCommand) (es : Trees) (bs : List Built) → BuildsAll n sigs m us es m' us' bs → SpellsAll n sigs m us es m' us'
    all-forget m m' us us' none bs (is, u, _) = (is, u)
    all-forget m m' us us' (more e es) bs (mid, rest, cs, ds, one, all, _) = (mid, rest, forgets m mid us rest e cs one, all-forget mid m' rest us' es ds all)

  pub hyps-forget : (m m' : Marks) (us : List UnifyCommand) (hs : List Tree) (bs : List Built) → BuildsHyps n sigs m us hs m' bs → SpellsHyps n sigs m us hs m'
  hyps-forget m m' us [] bs (u, is, _) = (u, is)
  hyps-forget m m' us (h ∷ hs) bs (rest, mid, us', cs, ds, u, one, all, _) = (rest, mid, us', u, forgets m mid rest us' h cs one, hyps-forget mid m' us' hs ds all)

pub building-spells : BuildingSpells
building-spells kind sigs params stream hyps e last bs (us, is, mid, rest, cs, ds, one, all, _) =
    (us, is, mid, rest, forgets _ sigs _ mid us rest e cs one, hyps-forget _ sigs mid last rest (reverse (listed hyps)) ds all)

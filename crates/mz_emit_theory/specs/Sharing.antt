-- What the commands of a unify stream build (the .mmb format, on unify streams), and streams that build no application
-- twice once all its dummies are met (this project's own promise).
use Rattle.std.specs.Prelude.{◌≡◌, ℕ, ◌+◌, ◌<◌, ◌⊎◌, Bool, true, false, List, [], ◌∷◌, ◌++◌, length, reverse, slice_get, Some}
use Rattle.mz_logic_theory.specs.Tree.{Tree, Trees, var, app, none, more, listed}
use Rattle.mz_logic_theory.specs.Signature.{Signature}
use Rattle.mz_logic_theory.specs.Variables.{Occurs}
use Rattle.mz_logic_theory.specs.declared.binder.Binder.{Binder}
use Rattle.mz_machine_theory.specs.Streams.{StreamKind, UnifyCommand, u_term, u_term_save, u_ref, u_hyp, StreamIs}
use Rattle.mz_machine_theory.specs.Spells.{Marks, marked, HasOperands, Spells, at_first}

-- a command that builds an application: the application, whether it is saved, and how many dummies are met
-- before the command
pub record Built : Type 0 where
  pub term : Tree
  pub saved : Bool
  pub met : ℕ

-- The commands spell the expression (`Spells`), and these are the applications that are built on the way, in order
abbrev mutual
  pub Builds : ℕ → List Signature → Marks → List UnifyCommand → Tree → Marks → List UnifyCommand → List Built → Type 0
  Builds n sigs m us (var x) m' us' bs = Spells n sigs m us (var x) m' us' × (bs ≡ [])
  Builds n sigs m us (app t es) m' us' bs =
      ((i : ℕ) × (us ≡ u_ref i ∷ us') × (slice_get m.trees i ≡ Some (app t es)) × (m' ≡ m) × (bs ≡ []))
      ⊎ (((rest : List UnifyCommand) × (cs : List Built) × (us ≡ u_term t ∷ rest) × HasOperands sigs t es × BuildsAll n sigs m rest es m' us' cs
      × (bs ≡ record { term = app t es; saved = false; met = length m.dummies } ∷ cs))
      ⊎ ((rest : List UnifyCommand) × (cs : List Built) × (us ≡ u_term_save t ∷ rest) × HasOperands sigs t es × BuildsAll n sigs (marked m (app t es)) rest es m' us' cs
      × (bs ≡ record { term = app t es; saved = true; met = length m.dummies } ∷ cs)))

  -- one after another
  pub BuildsAll : ℕ → List Signature → Marks → List UnifyCommand → Trees → Marks → List UnifyCommand → List Built → Type 0
  BuildsAll n sigs m us none m' us' bs = (m' ≡ m) × (us' ≡ us) × (bs ≡ [])
  BuildsAll n sigs m us (more e es) m' us' bs =
      (mid : Marks) × (rest : List UnifyCommand) × (cs : List Built) × (ds : List Built)
      × Builds n sigs m us e mid rest cs × BuildsAll n sigs mid rest es m' us' ds × (bs ≡ cs ++ ds)

abbrev pub BuildsHyps : ℕ → List Signature → Marks → List UnifyCommand → List Tree → Marks → List Built → Type 0
BuildsHyps n sigs m us [] m' bs = (us ≡ []) × (m' ≡ m) × (bs ≡ [])
BuildsHyps n sigs m us (h ∷ hs) m' bs =
    (rest : List UnifyCommand) × (mid : Marks) × (us' : List UnifyCommand) × (cs : List Built) × (ds : List Built)
    × (us ≡ u_hyp ∷ rest) × Builds n sigs m rest h mid us' cs × BuildsHyps n sigs mid us' hs m' ds × (bs ≡ cs ++ ds)

-- the stream spells the conclusion and the hypotheses, as `SpellsText` says, and builds these
abbrev pub BuildsText : StreamKind → List Signature → List Binder → List ℕ → Trees → Tree → Marks → List Built → Type 0
BuildsText kind sigs params stream hyps conclusion last bs =
    (us : List UnifyCommand) × StreamIs kind stream us
    × (mid : Marks) × (rest : List UnifyCommand) × (cs : List Built) × (ds : List Built)
    × Builds (length params) sigs (at_first params) us conclusion mid rest cs
    × BuildsHyps (length params) sigs mid rest (reverse (listed hyps)) last ds × (bs ≡ cs ++ ds)

-- all dummies in the application are met before the command that builds it; there are n parameters
abbrev pub IsWhole : ℕ → Built → Type 0
IsWhole n b = (y : ℕ) → Occurs y b.term → y < n + b.met

-- no application is saved that holds a dummy that isn't met before it; and of the commands before which all dummies
-- of an application are met at most one builds it
pub record BuildsWholeOnce (n : ℕ) (bs : List Built) : Type 0 where
  pub saves_whole : (i : ℕ) (b : Built) → slice_get bs i ≡ Some b → b.saved ≡ true → IsWhole n b
  pub once : (i j : ℕ) (b c : Built) → slice_get bs i ≡ Some b → slice_get bs j ≡ Some c → b.term ≡ c.term → IsWhole n b → IsWhole n c → i ≡ j

-- the stream spells the statement, and builds no application twice once all its dummies are met
abbrev pub SharedStream : StreamKind → List Signature → List Binder → List ℕ → Trees → Tree → Type 0
SharedStream kind sigs params stream hyps conclusion =
    (last : Marks) × (bs : List Built) × BuildsText kind sigs params stream hyps conclusion last bs × BuildsWholeOnce (length params) bs

-- A row's parameters, as the first expressions of a store.
use Rattle.std.specs.Prelude.{◌≡◌, ◌<◌, ℕ, List, length}
use Rattle.mz_logic_theory.specs.Tree.{var}
use Rattle.mz_logic_theory.specs.Signature.{Signature}
use Rattle.mz_logic_theory.specs.Words.{binders_of}
use Rattle.mz_logic_theory.specs.declared.word.Word.{Word}
use Rattle.mz_store.specs.Bits.{bound_vars}
use Rattle.mz_store.specs.Sharing.{Sharing, tree_of, IsOver}
use Rattle.mz_store.specs.declared.item.DepsMode.{DepsMode}
use Rattle.mz_machine_theory.specs.MachineState.{Kind}
use Rattle.mz_machine_env.specs.OwnRow.{mode_for, own_words, words_from}
use Rattle.mz_machine.specs.OverStore.{AreFirst, IsContextOf}
use Rattle.mz_machine.specs.declared.params.Entered.{Entered}

-- the store is that of the variables which the words say, and of no more
pub record AreEntered (ws : List Word) (named : DepsMode) (s : Sharing) : Type 0 where
  pub mode : s.mode ≡ named
  pub context : s.context ≡ binders_of ws
  pub many : length s.entries ≡ length ws
  pub trees : (i : ℕ) → i < length ws → tree_of s i ≡ var i
  pub over : (sigs : List Signature) → IsOver sigs s

-- these are the parameters of the row of a body of this kind
pub record IsOwn (file : List ℕ) (row : ℕ) (kind : Kind) (e : Entered) : Type 0 where
  pub mode : e.mode ≡ mode_for kind
  pub words : own_words file row kind ≡ words_from file e.at e.params
  pub bound : e.bound ≡ length (bound_vars (binders_of (words_from file e.at e.params)))

-- its first expressions are the variables of these words of the file; over some terms it is right
pub record Remembers (file : List ℕ) (e : Entered) (s : Sharing) : Type 0 where
  pub mode : s.mode ≡ e.mode
  pub context : IsContextOf (binders_of (words_from file e.at e.params)) s.context
  pub first : AreFirst s e.params
  pub bound : e.bound ≡ length (bound_vars (binders_of (words_from file e.at e.params)))
  pub over : (sigs : List Signature) × IsOver sigs s

-- A store that has the variables of its context.
use Rattle.std.specs.Prelude.{◌≡◌, List}
use Rattle.mz_logic_theory.specs.Signature.{Signature}
use Rattle.mz_logic_theory.specs.Legality.{Each}
use Rattle.mz_store.specs.Sharing.{Sharing, AreIn, IsOver, trees_of}
use Rattle.mz_store.specs.declared.item.DepsMode.TheVariants as of
use Rattle.mz_store.specs.declared.item.Id.{Id}
use Rattle.mz_machine_theory.specs.Spells.{trees_of as operands_of, variables_from}

-- these are the ids of the variables, in order: the first numbers. Its words say all variables
pub record IsShared (sigs : List Signature) (s : Sharing) (vars : List Id) : Type 0 where
  pub over : IsOver sigs s
  pub all : s.mode ≡ of.All
  pub inside : AreIn s vars
  pub trees : trees_of s vars ≡ operands_of (variables_from 0 s.context)
  pub numbers : Each vars (λ i id. id.0 ≡ i)

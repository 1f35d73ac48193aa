-- What a body has made so far (the .mmb format, on the proof machine's heap and stack), in a text's own numbering of
-- variables, and how the machine names it.
use Rattle.std.specs.Prelude.{ℕ, suc, ◌==◌, if◌then◌else◌, List, [], ◌∷◌, map}
use Rattle.mz_logic_theory.specs.Tree.{Tree, Trees, var, app, none, more}
use Rattle.mz_logic_theory.specs.Legality.{binder_at}
use Rattle.mz_logic_theory.specs.declared.binder.Binder.{Binder}
use Rattle.mz_machine_theory.specs.Profile.{Item, expr, proof, obligation, conversion}
use Rattle.mz_machine_theory.specs.Spells.{variables_from}
use Rattle.mz_machine_theory.specs.MachineState.{State}

-- ---- another numbering

-- each variable x is g x
abbrev mutual
  pub renamed : (ℕ → ℕ) → Tree → Tree
  renamed g (var x) = var (g x)
  renamed g (app t es) = app t (all_renamed g es)

  pub all_renamed : (ℕ → ℕ) → Trees → Trees
  all_renamed g none = none
  all_renamed g (more e es) = more (renamed g e) (all_renamed g es)

abbrev pub item_renamed : (ℕ → ℕ) → Item Tree → Item Tree
item_renamed g (expr e) = expr (renamed g e)
item_renamed g (proof e) = proof (renamed g e)
item_renamed g (obligation l r) = obligation (renamed g l) (renamed g r)
item_renamed g (conversion l r) = conversion (renamed g l) (renamed g r)

-- the first place of x, and the length of the list where x isn't there
abbrev pub place_of : ℕ → List ℕ → ℕ
place_of x [] = 0
place_of x (y ∷ ys) = if x == y then 0 else suc (place_of x ys)

-- ---- what is made

-- The variables met so far, in the order in which the machine has them: at first the parameters, then the
-- dummies as they were made. The heap, the stack with its top first, and the hypotheses in order. All is in
-- the text's numbering.
pub record Work : Type 0 where
  pub met : List ℕ
  pub heap : List (Item Tree)
  pub stack : List (Item Tree)
  pub hyps : List Tree

abbrev pub from_to : ℕ → List Binder → List ℕ
from_to i [] = []
from_to i (b ∷ bs) = i ∷ from_to (suc i) bs

-- at first the parameters are met, and in the heap
abbrev pub work_start : List Binder → Work
work_start params = record { met = from_to 0 params; heap = map expr (variables_from 0 params); stack = []; hyps = [] }

-- the machine's name of a variable: the place at which it was met
abbrev pub name_in : List ℕ → ℕ → ℕ
name_in met x = place_of x met

-- the variables met so far as the machine's context
abbrev pub met_binders : List Binder → List ℕ → List Binder
met_binders ctx met = map (binder_at ctx) met

-- the machine's state: each variable is named by the place at which it was met
abbrev pub machine : List Binder → Work → State Tree
machine ctx w = record {
  ctx = met_binders ctx w.met;
  heap = map (item_renamed (name_in w.met)) w.heap;
  stack = map (item_renamed (name_in w.met)) w.stack;
  hyps = map (renamed (name_in w.met)) w.hyps;
}

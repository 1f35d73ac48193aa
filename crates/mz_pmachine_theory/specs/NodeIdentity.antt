-- Expressions that carry the commands which made them, and the machine that says them apart by these: two are the same
-- only where the same commands made them. So a verifier decides that keeps each expression where a command of the body
-- made it, and compares by identity, as pointers are compared (the .mmb format, and verifiers that compare so; the
-- profile is this project's own).
use Rattle.std.specs.Prelude.{ℕ, Bool, true, false, ◌==◌, ◌&&◌, List, [], ◌∷◌, Option, Some, None}
use Rattle.mz_logic_theory.specs.Tree.{Tree, Trees, var, app, none, more}
use Rattle.mz_machine_theory.specs.Profile.{Profile}

-- a variable, by its place in the context, or an application: the number of the command that made it, its term and its
-- operands
mutual
  pub data Numbered : Type 0 where
    a_variable : ℕ → Numbered
    an_application : ℕ → ℕ → Operands → Numbered

  pub data Operands : Type 0 where
    no_more : Operands
    one_more : Numbered → Operands → Operands

abbrev pub operands_from : List Numbered → Operands
operands_from [] = no_more
operands_from (e ∷ es) = one_more e (operands_from es)

abbrev pub operand_list : Operands → List Numbered
operand_list no_more = []
operand_list (one_more e es) = e ∷ operand_list es

-- the tree, numbers forgotten
abbrev mutual
  pub tree_of : Numbered → Tree
  tree_of (a_variable x) = var x
  tree_of (an_application n t es) = app t (operand_trees es)

  pub operand_trees : Operands → Trees
  operand_trees no_more = none
  operand_trees (one_more e es) = more (tree_of e) (operand_trees es)

-- equal throughout: numbers, terms and operands
abbrev mutual
  pub equal : Numbered → Numbered → Bool
  equal (a_variable x) (a_variable y) = x == y
  equal (an_application n t es) (an_application m u fs) = n == m && (t == u && all_equal es fs)
  equal (a_variable x) (an_application m u fs) = false
  equal (an_application n t es) (a_variable y) = false

  pub all_equal : Operands → Operands → Bool
  all_equal no_more no_more = true
  all_equal (one_more e es) (one_more f fs) = equal e f && all_equal es fs
  all_equal no_more (one_more f fs) = false
  all_equal (one_more e es) no_more = false

abbrev pub parts_of : Numbered → Option (ℕ × List Numbered)
parts_of (a_variable x) = None
parts_of (an_application n t es) = Some (t, operand_list es)

-- The machine by identity. The number of an application is the place of its command.
abbrev pub portable : Profile
portable = record {
  T = Numbered;
  tree = tree_of;
  variable = a_variable;
  make = λ at t es. an_application at t (operands_from es);
  parts = parts_of;
  same = equal;
  gaps = false;
  portable = true;
}

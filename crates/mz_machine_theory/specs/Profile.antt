-- The ways in which a machine may keep and compare expressions, and what stands on its stack (the .mmb format, its two
-- machines; the profiles are this project's own).
use Rattle.std.specs.Prelude.{ℕ, Bool, true, false, List, Option, Some, None}
use Rattle.mz_logic_theory.specs.Tree.{Tree, var, app, listed}
use Rattle.mz_machine_theory.specs.Spells.{trees_of}
use Rattle.mz_machine_theory.specs.Tests.{same_tree}

-- How expressions are kept: what each is as a tree, how a variable and an application are made (the
-- application by the command at a place), what an application's term and operands are, and when two are
-- the same. What a machine lets through beside the standard machine, and what it asks beyond it.
pub record Profile : Type 1 where
  pub T : Type 0
  pub tree : T → Tree
  pub variable : ℕ → T
  pub make : ℕ → ℕ → List T → T
  pub parts : T → Option (ℕ × List T)
  pub same : T → T → Bool
  -- a gap in a proof is let through
  pub gaps : Bool
  -- Unfold has all its items, a reference to a conversion is written Ref, and a dummy of a pattern is
  -- kept apart from saved terms too
  pub portable : Bool

abbrev pub tree_parts : Tree → Option (ℕ × List Tree)
tree_parts (var x) = None
tree_parts (app t es) = Some (t, listed es)

-- expressions are trees, the same where they are equal as trees
abbrev pub plain : Bool → Profile
plain gaps = record {
  T = Tree;
  tree = λ e. e;
  variable = var;
  make = λ at t es. app t (trees_of es);
  parts = tree_parts;
  same = same_tree;
  gaps = gaps;
  portable = false;
}

-- the standard machine
abbrev pub strict : Profile
strict = plain false

-- with gaps
abbrev pub draft : Profile
draft = plain true

-- what stands on the stack; all but obligations may stand in the heap
pub data Item (T : Type 0) : Type 0 where
  expr : T → Item T
  proof : T → Item T
  obligation : T → T → Item T
  conversion : T → T → Item T

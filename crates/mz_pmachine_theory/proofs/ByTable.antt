-- What runs by identity runs by the standard machine, numbers forgotten.
use Rattle.std.proofs.Common.{◌≡◌, ℕ, zero, suc, ◌+◌, true, List, [], ◌∷◌, drop, map, Option, Some, None, Result, Ok, Err, refl, sym, ap, ◌∙◌}
use Rattle.std.specs.Prelude.{⊤}
use Rattle.mz_cmd.specs.declared.command.Cmd.{Cmd}
use Rattle.mz_cmd.specs.declared.command.CmdFault.{CmdFault}
use Rattle.mz_cmd.specs.declared.code.ProofCode.{ProofCode}
use Rattle.mz_cmd.specs.declared.code.ProofCode.TheVariants as code
use Rattle.mz_cmd.specs.Reading.{first_command}
use Rattle.mz_logic_theory.specs.Tree.{Tree, app, more, listed}
use Rattle.mz_machine_theory.specs.Spells.{trees_of}
use Rattle.mz_machine_theory.specs.Profile.{strict, tree_parts}
use Rattle.mz_machine_theory.specs.Tests.{same_tree}
use Rattle.mz_machine_theory.proofs.Offered.{same_tree-refl}
use Rattle.mz_machine_theory.specs.MachineState.{RowsBefore, State, Heading}
use Rattle.mz_machine_theory.specs.Bodies.{BodyCommand, ends, proves, body_command}
use Rattle.mz_pmachine_theory.specs.NodeIdentity.{Numbered, Operands, a_variable, an_application, no_more, one_more, operands_from, operand_list, tree_of, operand_trees, equal, parts_of, portable}
use Rattle.mz_pmachine_theory.specs.Laws.{BodiesRunStrict, RowsRunStrict, StreamsRunStrict}
use Rattle.mz_pmachine_theory.proofs.Embeds.{Embeds}
use Rattle.mz_pmachine_theory.proofs.RowsGo.{MakesRight}
use Rattle.mz_pmachine_theory.proofs.BodiesGo.{CommandMakes, TurnMakes, RunMakes, body-runs, row-runs, stream-runs}
use Rattle.mz_pmachine_theory.proofs.Equal.{equal-same}

operands-made : (es : List Numbered) → operand_trees (operands_from es) ≡ trees_of (map tree_of es)
operands-made [] = refl
operands-made (e ∷ es) = ap (more (tree_of e)) (operands-made es)

operands-listed : (es : Operands) → listed (operand_trees es) ≡ map tree_of (operand_list es)
operands-listed no_more = refl
operands-listed (one_more e es) = ap (λ (z : List Tree). tree_of e ∷ z) (operands-listed es)

some-parts : (p q : ℕ × List Numbered) → Some p ≡ Some q → p ≡ q
some-parts p q e = cc

parts-are : (e : Numbered) (p : ℕ × List Numbered) → parts_of e ≡ Some p → tree_parts (tree_of e) ≡ Some (p.0, map tree_of p.1)
parts-are (a_variable x) p h = absurd cc
parts-are (an_application n t es) p h =
    ap (λ (z : List Tree). Some (t, z)) (operands-listed es) ∙ ap (λ (q : ℕ × List Numbered). Some (q.0, map tree_of q.1)) (some-parts (t, operand_list es) p h)

same-trees : (a b : Numbered) → equal a b ≡ true → same_tree (tree_of a) (tree_of b) ≡ true
same-trees a b h = ap (λ (z : Numbered). same_tree (tree_of a) (tree_of z)) (sym (equal-same a b h)) ∙ same_tree-refl (tree_of a)

-- whatever is made
abbrev Any : ℕ → Numbered → Type 0
Any at e = ⊤

pub by-table : Embeds portable strict tree_of Any
by-table = record {
  tree_is = λ e. refl;
  variable_is = λ x. refl;
  made_is = λ at t es right. ap (app t) (operands-made es);
  parts_are = parts-are;
  same_is = same-trees;
  gaps_too = λ gaps. absurd cc;
  asks_less = λ asks. absurd cc;
}

row-any : (tables : RowsBefore) (at : ℕ) (c : ProofCode) (n : ℕ) (st : State Numbered) → MakesRight portable strict tree_of Any by-table tables at c n st
row-any tables at code.Term n st = λ x e. tt
row-any tables at code.TermSave n st = λ x e. tt
row-any tables at c n st = tt

module _ (tables : RowsBefore) (h : Heading) where
  command-any : (at : ℕ) (st : State Numbered) (o : Option BodyCommand) → CommandMakes portable strict tree_of Any by-table tables h at st o
  command-any at st None = tt
  command-any at st (Some ends) = tt
  command-any at st (Some (proves c n)) = row-any tables at c n st

  turn-any : (at : ℕ) (st : State Numbered) (r : Result Cmd CmdFault) → TurnMakes portable strict tree_of Any by-table tables h at st r
  turn-any at st (Err d) = tt
  turn-any at st (Ok c) = command-any at st (body_command portable h.kind c.code c.value)

  run-any : (n at : ℕ) (bytes : List ℕ) (st : State Numbered) → RunMakes portable strict tree_of Any by-table tables h n at bytes st
  run-any zero at bytes st = tt
  run-any (suc n) at bytes st = (turn-any at st (first_command bytes), λ len s turn. run-any n (at + len) (drop len bytes) s)

pub bodies-strict : BodiesRunStrict
bodies-strict tables h at bytes = body-runs portable strict tree_of Any by-table tables h at bytes (run-any tables h _ at bytes _)

pub rows-strict : RowsRunStrict
rows-strict tables at c value st s = row-runs portable strict tree_of Any by-table tables at c value st s (row-any tables at c value st)

pub streams-strict : StreamsRunStrict
streams-strict = stream-runs portable strict tree_of Any by-table

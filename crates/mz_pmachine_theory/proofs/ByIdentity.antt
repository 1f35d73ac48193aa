-- Where no application is made by two commands, numbers can be given to trees, and what runs over trees runs by identity.
use Rattle.std.proofs.Common.{◌≡◌, ℕ, zero, suc, ◌+◌, Bool, true, false, cond, List, [], ◌∷◌, ◌++◌, length, drop, map, Option, Some, None, Result, Ok, Err, refl, sym, ap, ap₂, subst, ◌∙◌}
use Rattle.std.specs.Prelude.{slice_get}
use Rattle.std.proofs.lemmas.Option.{same_Some}
use Rattle.mz_cmd.specs.declared.rule.K.{K}
use Rattle.mz_cmd.specs.declared.command.Cmd.{Cmd}
use Rattle.mz_cmd.specs.declared.command.CmdFault.{CmdFault}
use Rattle.mz_cmd.specs.declared.code.ProofCode.{ProofCode}
use Rattle.mz_cmd.specs.declared.code.ProofCode.TheVariants as code
use Rattle.mz_cmd.specs.Reading.{first_command}
use Rattle.mz_logic_theory.specs.Tree.{Tree, Trees, var, app, none, more, listed}
use Rattle.mz_machine_theory.specs.Steps.{Turn}
use Rattle.mz_machine_theory.specs.Spells.{trees_of}
use Rattle.mz_machine_theory.specs.Profile.{tree_parts}
use Rattle.mz_machine_theory.specs.Tests.{same_tree}
use Rattle.mz_machine_theory.proofs.Offered.{same_tree-true, same_tree-refl}
use Rattle.mz_machine_theory.specs.MachineState.{RowsBefore, State, Heading}
use Rattle.mz_machine_theory.specs.ProofMachine.{built}
use Rattle.mz_machine_theory.specs.Bodies.{BodyCommand, ends, proves, body_command, body_turn, body_start}
use Rattle.mz_pmachine_theory.specs.NodeIdentity.{Numbered, Operands, an_application, one_more, operands_from, operand_list, tree_of, operand_trees, equal, parts_of, portable}
use Rattle.mz_pmachine_theory.specs.SharedBuilding.{portable_trees, made_of, row_makes, command_makes, first_makes, and_then, makes_from, body_makes, MadeOnce, numbered, all_numbered, AreNumbered}
use Rattle.mz_pmachine_theory.specs.Laws.{SharedBodiesRun, NumberedRowsRun, NumberedStreamsRun}
use Rattle.mz_pmachine_theory.proofs.Going.{went-is}
use Rattle.mz_pmachine_theory.proofs.Embeds.{Embeds}
use Rattle.mz_pmachine_theory.proofs.RowsGo.{MakesRight}
use Rattle.mz_pmachine_theory.proofs.BodiesGo.{CommandMakes, TurnMakes, RunMakes, body-runs, row-runs, stream-runs}
use Rattle.mz_pmachine_theory.proofs.Equal.{equal-refl}

some-parts : (p q : ℕ × List Tree) → Some p ≡ Some q → p ≡ q
some-parts p q e = cc

module _ (g : Tree → ℕ) where
  mutual
    forgets : (e : Tree) → tree_of (numbered g e) ≡ e
    forgets (var x) = refl
    forgets (app t es) = ap (app t) (all-forgets es)

    all-forgets : (es : Trees) → operand_trees (all_numbered g es) ≡ es
    all-forgets none = refl
    all-forgets (more e es) = ap₂ more (forgets e) (all-forgets es)

  operands-numbered : (es : List Tree) → all_numbered g (trees_of es) ≡ operands_from (map (numbered g) es)
  operands-numbered [] = refl
  operands-numbered (e ∷ es) = ap (one_more (numbered g e)) (operands-numbered es)

  listed-numbered : (es : Trees) → operand_list (all_numbered g es) ≡ map (numbered g) (listed es)
  listed-numbered none = refl
  listed-numbered (more e es) = ap (λ (z : List Numbered). numbered g e ∷ z) (listed-numbered es)

  parts-are : (e : Tree) (p : ℕ × List Tree) → tree_parts e ≡ Some p → parts_of (numbered g e) ≡ Some (p.0, map (numbered g) p.1)
  parts-are (var x) p h = absurd cc
  parts-are (app t es) p h =
      ap (λ (z : List Numbered). Some (t, z)) (listed-numbered es) ∙ ap (λ (q : ℕ × List Tree). Some (q.0, map (numbered g) q.1)) (some-parts (t, listed es) p h)

  same-numbered : (a b : Tree) → same_tree a b ≡ true → equal (numbered g a) (numbered g b) ≡ true
  same-numbered a b h = ap (λ (z : Tree). equal (numbered g a) (numbered g z)) (sym (same_tree-true a b h)) ∙ equal-refl (numbered g a)

  -- its number is the place at which it is made
  abbrev Placed : ℕ → Tree → Type 0
  Placed at e = g e ≡ at

  by-identity : Embeds portable_trees portable (numbered g) Placed
  by-identity = record {
    tree_is = forgets;
    variable_is = λ x. refl;
    made_is = λ at t es right. ap₂ (λ (n : ℕ) (z : Operands). an_application n t z) right (operands-numbered es);
    parts_are = parts-are;
    same_is = same-numbered;
    gaps_too = λ gaps. absurd cc;
    asks_less = λ asks. refl;
  }

  both-numbered : (xs ys : List (ℕ × Tree)) → AreNumbered g (xs ++ ys) → AreNumbered g xs × AreNumbered g ys
  both-numbered [] ys are = (tt, are)
  both-numbered (x ∷ xs) ys (is, are) =
      let (left, right) = both-numbered xs ys are in
      ((is, left), right)

  made-placed : {U : Type 0} (at : ℕ) (r : Result (Tree × U) K) → AreNumbered g (made_of at r) → (x : Tree × U) → r ≡ Ok x → g x.0 ≡ at
  made-placed {U = U} at (Ok y) are x e = subst (λ (z : Tree × U). g z.0 ≡ at) (went-is {F = K} y x e) are.0
  made-placed at (Err d) are x e = absurd cc

  module _ (tables : RowsBefore) where
    row-placed : (at : ℕ) (c : ProofCode) (n : ℕ) (st : State Tree) → AreNumbered g (row_makes portable_trees tables at c n st) → MakesRight portable_trees portable (numbered g) Placed by-identity tables at c n st
    row-placed at code.Term n st are = made-placed at (built portable_trees tables at n st) are
    row-placed at code.TermSave n st are = made-placed at (built portable_trees tables at n st) are
    row-placed at c n st are = tt

    module _ (h : Heading) where
      command-placed : (at : ℕ) (st : State Tree) (o : Option BodyCommand) → AreNumbered g (command_makes portable_trees tables at st o) → CommandMakes portable_trees portable (numbered g) Placed by-identity tables h at st o
      command-placed at st None are = tt
      command-placed at st (Some ends) are = tt
      command-placed at st (Some (proves c n)) are = row-placed at c n st are

      turn-placed : (at : ℕ) (st : State Tree) (r : Result Cmd CmdFault) → AreNumbered g (first_makes portable_trees tables h at st r) → TurnMakes portable_trees portable (numbered g) Placed by-identity tables h at st r
      turn-placed at st (Err d) are = tt
      turn-placed at st (Ok c) are = command-placed at st (body_command portable_trees h.kind c.code c.value) are

      run-placed : (n at : ℕ) (bytes : List ℕ) (st : State Tree) → AreNumbered g (makes_from portable_trees tables h n at bytes st) → RunMakes portable_trees portable (numbered g) Placed by-identity tables h n at bytes st
      unfolding makes_from
      run-placed zero at bytes st are = tt
      run-placed (suc n) at bytes st are =
          let (now, later) = both-numbered (first_makes portable_trees tables h at st (first_command bytes)) (and_then (body_turn portable_trees tables h at bytes st (first_command bytes)) (λ len s. makes_from portable_trees tables h n (at + len) (drop len bytes) s)) are in (
            turn-placed at st (first_command bytes) now,
            λ len s turn. run-placed n (at + len) (drop len bytes) s
                (subst (λ (r : Result (Turn (State Tree)) K). AreNumbered g (and_then r (λ len s. makes_from portable_trees tables h n (at + len) (drop len bytes) s))) turn later),
          )

pub rows-by-identity : NumberedRowsRun
rows-by-identity g tables at c value st s are = row-runs portable_trees portable (numbered g) (Placed g) (by-identity g) tables at c value st s (row-placed g tables at c value st are)

pub streams-by-identity : NumberedStreamsRun
streams-by-identity g = stream-runs portable_trees portable (numbered g) (Placed g) (by-identity g)

-- ---- numbers for what is made once

-- the place at which the expression is made first
abbrev number_in : List (ℕ × Tree) → Tree → ℕ
number_in [] e = 0
number_in (m ∷ made) e = cond (same_tree m.1 e) m.0 (number_in made e)

-- it is one of its places
abbrev Found : List (ℕ × Tree) → Tree → Type 0
Found made e = (j : ℕ) × (q : ℕ) × (slice_get made j ≡ Some (q, e)) × (number_in made e ≡ q)

found-by : (m : ℕ × Tree) (made : List (ℕ × Tree)) (e : Tree) (b : Bool) → same_tree m.1 e ≡ b → (i p : ℕ) → slice_get (m ∷ made) i ≡ Some (p, e)
    → ((i : ℕ) → slice_get made i ≡ Some (p, e) → Found made e) → Found (m ∷ made) e
found-by m made e true is i p at later = (0, m.0, ap (λ (z : Tree). Some (m.0, z)) (same_tree-true m.1 e is), ap (λ (c : Bool). cond c m.0 (number_in made e)) is)
found-by m made e false is zero p at later = absurd (let self : same_tree m.1 e ≡ true = ap (λ (z : ℕ × Tree). same_tree z.1 e) (same_Some m (p, e) at) ∙ same_tree-refl e in cc)
found-by m made e false is (suc i) p at later =
    let (j, q, there, number) = later i at in
    (suc j, q, there, ap (λ (c : Bool). cond c m.0 (number_in made e)) is ∙ number)

found : (made : List (ℕ × Tree)) (i p : ℕ) (e : Tree) → slice_get made i ≡ Some (p, e) → Found made e
found [] i p e at = absurd cc
found (m ∷ made) i p e at = found-by m made e (same_tree m.1 e) refl i p at λ n there. found made n p e there

each-numbered : (g : Tree → ℕ) (made : List (ℕ × Tree)) → ((i p : ℕ) (e : Tree) → slice_get made i ≡ Some (p, e) → g e ≡ p) → AreNumbered g made
each-numbered g [] each = tt
each-numbered g (m ∷ made) each = (each 0 m.0 m.1 refl, each-numbered g made λ i p e at. each (suc i) p e at)

once-numbered : (made : List (ℕ × Tree)) → MadeOnce made → AreNumbered (number_in made) made
once-numbered made once =
    each-numbered (number_in made) made λ i p e at.
    let (j, q, there, number) = found made i p e at in
    number ∙ sym (once i j p q e at there)

pub shared-run : SharedBodiesRun
shared-run tables h at bytes runs once =
    let g : Tree → ℕ = number_in (body_makes portable_trees tables h at bytes) in
    body-runs portable_trees portable (numbered g) (Placed g) (by-identity g) tables h at bytes
    (run-placed g tables h (length bytes) at bytes (body_start portable_trees h) (once-numbered (body_makes portable_trees tables h at bytes) once)) runs

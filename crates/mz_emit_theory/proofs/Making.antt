-- What a run over trees makes is what its steps build, as the machine names it in the end.
use Rattle.std.proofs.Common.{◌≡◌, ℕ, zero, suc, ◌+◌, ◌≤◌, false, List, [], ◌∷◌, ◌++◌, length, map, Some, Result, Ok, Err, refl, sym, ap, ap₂, subst, ◌∙◌, arith, length-append}
use Rattle.std.specs.Prelude.{slice_get, drop}
use Rattle.std.specs.Option.{option_map}
use Rattle.std.proofs.lemmas.List.{map-append}
use Rattle.std.proofs.lemmas.Option.{slice_get-map}
use Rattle.mz_base.proofs.Offered.{slice_get-map_back}
use Rattle.mz_cmd.specs.declared.rule.K.{K}
use Rattle.mz_cmd.specs.declared.code.ProofCode.{ProofCode}
use Rattle.mz_cmd.specs.declared.code.ProofCode.TheVariants as code
use Rattle.mz_cmd.specs.Reading.{first_command}
use Rattle.mz_logic_theory.specs.Tree.{Tree}
use Rattle.mz_logic_theory.specs.Signature.{Signature}
use Rattle.mz_logic_theory.specs.Declaration.{Declaration, signatures}
use Rattle.mz_logic_theory.specs.declared.binder.Binder.{Binder}
use Rattle.mz_machine_theory.specs.Steps.{◌>>=◌, Turn, over}
use Rattle.mz_machine_theory.specs.Profile.{Item, expr, proof, obligation, conversion}
use Rattle.mz_machine_theory.proofs.Offered.{from_bind, some_is, taken-is}
use Rattle.mz_machine_theory.specs.MachineState.{RowsBefore, State, Heading}
use Rattle.mz_machine_theory.specs.ProofMachine.{push, saved, built as application, proof_step, proof_end}
use Rattle.mz_machine_theory.specs.Bodies.{body_turn}
use Rattle.mz_emit_theory.specs.SymbolicState.{renamed, item_renamed, name_in, Work, machine}
use Rattle.mz_emit_theory.specs.Steps.{Step, command_bytes}
use Rattle.mz_emit_theory.specs.Endings.{spelled_body, MayStand}
use Rattle.mz_emit_theory.specs.BodyLaws.{AreRightTrees, IsRight}
use Rattle.mz_emit_theory.specs.SharedBodies.{top, built, Builds, AreDistinct}
use Rattle.mz_emit_theory.proofs.Bytes.{drop-front}
use Rattle.mz_pmachine_theory.specs.SharedBuilding.{portable_trees, made_of, row_makes, first_makes, and_then, makes_from, MadeOnce}
use Rattle.mz_emit_theory.proofs.Turns.{turn-is, makes-is}
use Rattle.mz_emit_theory.proofs.Names.{steps-keep-names, right-both, right-built, known-at, one-tree}

-- the expressions alone
abbrev pub trees_made : List (ℕ × Tree) → List Tree
trees_made made = map (λ m. m.1) made

-- ---- a row

top-renamed : (g : ℕ → ℕ) (xs : List (Item Tree)) → top (map (item_renamed g) xs) ≡ map (renamed g) (top xs)
top-renamed g (expr e ∷ xs) = refl
top-renamed g _ = refl

module _ (tables : RowsBefore) (ctx : List Binder) where
  row-builds : (at : ℕ) (c : ProofCode) (n : ℕ) (st : State Tree) (w : Work) → proof_step portable_trees tables at c n st ≡ Ok (machine ctx w)
      → trees_made (row_makes portable_trees tables at c n st) ≡ map (renamed (name_in w.met)) (built c w)
  unfolding proof_step
  row-builds at code.Term n st w ran =
      from_bind (application portable_trees tables at n st) _ (machine ctx w) ran λ x x-is e1.
      ap (λ (z : Result (Tree × List (Item Tree)) K). trees_made (made_of at z)) x-is
      ∙ ap (λ (z : State Tree). top z.stack) (taken-is (push (expr x.0) x.1 st) (machine ctx w) e1) ∙ top-renamed (name_in w.met) w.stack
  row-builds at code.TermSave n st w ran =
      from_bind (application portable_trees tables at n st) _ (machine ctx w) ran λ x x-is e1.
      ap (λ (z : Result (Tree × List (Item Tree)) K). trees_made (made_of at z)) x-is
      ∙ ap (λ (z : State Tree). top z.stack) (taken-is (saved (expr x.0) (push (expr x.0) x.1 st)) (machine ctx w) e1) ∙ top-renamed (name_in w.met) w.stack
  row-builds at c n st w ran = refl

-- ---- a body

-- commands that go through one after another over trees, to states that are right
abbrev pub GoThrough : RowsBefore → (env : List Declaration) → ℕ → (ctx : List Binder) → Type 0
GoThrough tables env n ctx = (at : ℕ) (c : ProofCode × ℕ) (w w' : Work) → IsRight (signatures env) n ctx w → Step false env ctx w c.0 c.1 w'
    → (proof_step portable_trees tables at c.0 c.1 (machine ctx w) ≡ Ok (machine ctx w')) × IsRight (signatures env) n ctx w'

module _ (tables : RowsBefore) (env : List Declaration) (n : ℕ) (ctx : List Binder) (go : GoThrough tables env n ctx) (h : Heading) where
  -- what is made is what is built, and right
  abbrev Makes : List (ℕ × Tree) → Work → List Tree → Type 0
  Makes made w bs = (trees_made made ≡ map (renamed (name_in w.met)) bs) × AreRightTrees (signatures env) ctx w.met bs

  last-makes-none : (r : Result (State Tree) K) (rest : ℕ → State Tree → List (ℕ × Tree)) → and_then (r >>= λ s. Ok (over s)) rest ≡ []
  last-makes-none (Ok s) rest = refl
  last-makes-none (Err d) rest = refl

  pub run-makes : (fuel at : ℕ) (cs : List (ProofCode × ℕ)) (w w' : Work) (bs : List Tree) → length (spelled_body cs) ≤ fuel → MayStand portable_trees h.kind cs → IsRight (signatures env) n ctx w → Builds false env ctx w cs w' bs
      → Makes (makes_from portable_trees tables h fuel at (spelled_body cs) (machine ctx w)) w' bs
  unfolding makes_from
  run-makes zero at [] w w' bs le stand right (is, none-built) = absurd (omega arith)
  run-makes (suc fuel) at [] w w' bs le stand right (is, none-built) = (
    ap trees_made (last-makes-none (proof_end portable_trees tables h (machine ctx w)) (λ len s. makes_from portable_trees tables h fuel (at + len) (drop len (0x00 ∷ [])) s)) ∙ ap (map (renamed (name_in w'.met))) (sym none-built),
    subst (AreRightTrees (signatures env) ctx w'.met) (sym none-built) tt,
  )
  run-makes zero at (c ∷ cs) w w' bs le stand right builds =
      let many = length-append (command_bytes c) (spelled_body cs) in
      absurd (omega (arith, many))
  run-makes (suc fuel) at (c ∷ cs) w w' bs le (stands, short, stand) right (mid, later, step, builds, is) =
      let rest : List ℕ = spelled_body cs in
      let bytes : List ℕ = command_bytes c ++ rest in
      let st : State Tree = machine ctx w in
      let (row, mid-right) = go at c w mid right step in
      let fits : length rest ≤ fuel = (let many = length-append (command_bytes c) rest in omega (arith, many)) in
      let (makes, later-right) = run-makes fuel (at + length (command_bytes c)) cs mid w' later fits stand mid-right builds in
      let (now-right, now-same) = steps-keep-names false env ctx cs mid w' later (built c.0 mid) builds (right-built (signatures env) ctx c.0 mid mid-right.stack) in
      let now : List (ℕ × Tree) = row_makes portable_trees tables at c.0 c.1 st in
      let next : List (ℕ × Tree) = makes_from portable_trees tables h fuel (at + length (command_bytes c)) rest (machine ctx mid) in
      let further : ℕ → State Tree → List (ℕ × Tree) = λ len s. makes_from portable_trees tables h fuel (at + len) (drop len bytes) s in
      let all : first_makes portable_trees tables h at st (first_command bytes) ++ and_then (body_turn portable_trees tables h at bytes st (first_command bytes)) further ≡ now ++ next =
      ap₂ (λ (x y : List (ℕ × Tree)). x ++ y) (makes-is portable_trees tables h at c rest st stands short)
      (ap (λ (z : Result (Turn (State Tree)) K). and_then z further) (turn-is portable_trees tables h at c rest st (machine ctx mid) stands short row)
      ∙ ap (λ (z : List ℕ). makes_from portable_trees tables h fuel (at + length (command_bytes c)) z (machine ctx mid)) (drop-front (command_bytes c) rest)) in (
        ap trees_made all ∙ map-append (λ (m : ℕ × Tree). m.1) now next
            ∙ ap₂ (λ (x y : List Tree). x ++ y) (row-builds tables ctx at c.0 c.1 st mid row ∙ sym now-same) makes
            ∙ sym (map-append (renamed (name_in w'.met)) (built c.0 mid) later) ∙ ap (map (renamed (name_in w'.met))) (sym is),
        subst (AreRightTrees (signatures env) ctx w'.met) (sym is) (right-both (signatures env) ctx w'.met (built c.0 mid) later now-right later-right),
      )

-- ---- once

pub made-once : (sigs : List Signature) (ctx : List Binder) (met : List ℕ) (made : List (ℕ × Tree)) (bs : List Tree) → trees_made made ≡ map (renamed (name_in met)) bs → AreRightTrees sigs ctx met bs → AreDistinct bs → MadeOnce made
made-once sigs ctx met made bs same right distinct i j p q e at at' =
    let g : ℕ → ℕ = name_in met in
    let (a, a-at, a-is) = slice_get-map_back (renamed g) bs i e (named i p at) in
    let (b, b-at, b-is) = slice_get-map_back (renamed g) bs j e (named j q at') in
    let one : a ≡ b = one-tree met a b (known-at sigs ctx met bs i a right a-at) (known-at sigs ctx met bs j b right b-at) (a-is ∙ sym b-is) in
    let index : i ≡ j = distinct i j a a-at (b-at ∙ ap (λ (z : Tree). Some z) (sym one)) in
    ap (λ (m : ℕ × Tree). m.0) (some_is at (ap (slice_get made) index ∙ at'))
  where
    named : (k r : ℕ) → slice_get made k ≡ Some (r, e) → slice_get (map (renamed (name_in met)) bs) k ≡ Some e
    named k r here = ap (λ (z : List Tree). slice_get z k) (sym same) ∙ slice_get-map (λ (m : ℕ × Tree). m.1) made k ∙ ap (option_map (λ (m : ℕ × Tree). m.1)) here

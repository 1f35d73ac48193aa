-- From commands to bytes: the spelled body runs as its commands do.
use Rattle.std.proofs.Common.{◌≡◌, ℕ, zero, suc, ◌+◌, ◌≤◌, true, List, [], ◌∷◌, ◌++◌, length, drop, Some, Ok, refl, ap, ◌∙◌, arith, length-append}
use Rattle.std.specs.Prelude.{IsTrue}
use Rattle.mz_cmd.specs.declared.code.ProofCode.{ProofCode}
use Rattle.mz_cmd.specs.declared.code.ProofCode.TheVariants as code
use Rattle.mz_cmd.specs.Codes.{proof_byte, is_known}
use Rattle.mz_cmd.specs.Reading.{first_command}
use Rattle.mz_cmd.proofs.Offered.{Spells-again, shortest-spells}
use Rattle.mz_machine_theory.specs.Profile.{Profile}
use Rattle.mz_machine_theory.proofs.Offered.{from_bind}
use Rattle.mz_machine_theory.specs.MachineState.{RowsBefore, State, Kind, is_axiom, is_theorem, is_definition, Heading}
use Rattle.mz_machine_theory.specs.ProofMachine.{proof_step, proof_end}
use Rattle.mz_machine_theory.specs.Bodies.{stands_in, proves, body_command, body_from, body_start, body_run}
use Rattle.mz_emit_theory.specs.Steps.{command_bytes, run_commands}
use Rattle.mz_emit_theory.specs.Endings.{spelled_body, MayStand}

pub known-code : (c : ProofCode) → IsTrue (is_known (proof_byte c))
known-code code.Term = refl
known-code _ = refl

code-again : (P : Profile) (kind : Kind) (c : ProofCode) (v : ℕ) → stands_in P kind c ≡ true → body_command P kind (proof_byte c) v ≡ Some (proves c v)
code-again P kind code.Term v h = refl
code-again P kind code.TermSave v h = refl
code-again P kind code.Ref v h = refl
code-again P kind code.Dummy v h = refl
code-again P kind code.Save v h = refl
code-again P is_axiom code.ConvRef v h = absurd cc
code-again P is_definition code.ConvRef v h = absurd cc
code-again P _ _ v h = rw h refl

pub drop-front : {A : Type 0} (xs ys : List A) → drop (length xs) (xs ++ ys) ≡ ys
drop-front [] [] = refl
drop-front [] (y ∷ ys) = refl
drop-front (x ∷ xs) ys = drop-front xs ys

module _ (P : Profile) (tables : RowsBefore) (h : Heading) where
  from-commands : (n at : ℕ) (cs : List (ProofCode × ℕ)) (st last : State P.T) → length (spelled_body cs) ≤ n → MayStand P h.kind cs → run_commands P tables at cs st ≡ Ok last → proof_end P tables h last ≡ Ok last
      → body_from P tables h n at (spelled_body cs) st ≡ Ok last
  unfolding body_from
  from-commands zero at [] st last le stand ran ended = absurd (omega arith)
  from-commands (suc n) at [] st last le stand ran ended =
      let is : st ≡ last = cc in
      let done : proof_end P tables h st ≡ Ok last = ap (proof_end P tables h) is ∙ ended in
      rw done refl
  from-commands zero at (c ∷ cs) st last le stand ran ended =
      let many = length-append (command_bytes c) (spelled_body cs) in
      absurd (omega (arith, many))
  from-commands (suc n) at (c ∷ cs) st last le (stands, short, stand) ran ended =
      from_bind (proof_step P tables at c.0 c.1 st) _ last ran λ s row later.
      let rest : List ℕ = spelled_body cs in
      let read : first_command (command_bytes c ++ rest) ≡ Ok (record { code = proof_byte c.0; value = c.1; len = length (command_bytes c) }) = Spells-again (command_bytes c) rest (proof_byte c.0) c.1 (shortest-spells (proof_byte c.0) c.1 (known-code c.0) short) in
      let fits : length rest ≤ n = (let many = length-append (command_bytes c) rest in omega (arith, many)) in
      rw (read, code-again P h.kind c.0 c.1 stands, row, drop-front (command_bytes c) rest)
      (from-commands n (at + length (command_bytes c)) cs s last fits stand later ended)

  pub body-from-run : (at : ℕ) (cs : List (ProofCode × ℕ)) (last : State P.T) → MayStand P h.kind cs → run_commands P tables at cs (body_start P h) ≡ Ok last → proof_end P tables h last ≡ Ok last
      → body_run P tables h at (spelled_body cs) ≡ Ok last
  body-from-run at cs last stand ran ended = from-commands (length (spelled_body cs)) at cs (body_start P h) last (omega arith) stand ran ended

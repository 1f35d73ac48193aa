-- A turn of a body that is spelled is the row of its command; so where the commands run, the body's last turn is its END.
use Rattle.std.proofs.Common.{◌≡◌, ℕ, zero, suc, ◌+◌, ◌<◌, ◌≤◌, Bool, true, cond, List, [], ◌∷◌, ◌++◌, length, Some, None, Result, Ok, Err, refl, sym, ap, subst, ◌∙◌, arith, length-append}
use Rattle.std.specs.Prelude.{◌^◌, IsTrue, drop}
use Rattle.mz_cmd.specs.declared.rule.K.{K}
use Rattle.mz_cmd.specs.declared.code.ProofCode.{ProofCode}
use Rattle.mz_cmd.specs.declared.code.ProofCode.TheVariants as code
use Rattle.mz_cmd.specs.Codes.{proof_byte, is_known}
use Rattle.mz_cmd.specs.Reading.{first_command}
use Rattle.mz_cmd.proofs.Offered.{Spells-again, shortest-spells}
use Rattle.mz_machine_theory.specs.Steps.{◌>>=◌, at_place, Turn, over, goes_on, follow}
use Rattle.mz_machine_theory.specs.Profile.{Profile, strict}
use Rattle.mz_machine_theory.proofs.Offered.{from_bind, taken, taken-is}
use Rattle.mz_machine_theory.specs.MachineState.{RowsBefore, State, Kind, Heading}
use Rattle.mz_machine_theory.specs.ProofMachine.{matched_by, proof_step, ends_with, proof_end}
use Rattle.mz_machine_theory.specs.Bodies.{stands_in, proves, if_allowed, body_command, body_turn, body_from, body_start, body_run}
use Rattle.mz_emit_theory.specs.Steps.{command_bytes, run_commands}
use Rattle.mz_emit_theory.specs.Endings.{spelled_body, MayStand}
use Rattle.mz_emit_theory.specs.SharedBodies.{IsPlain, ArePlain}
use Rattle.mz_emit_theory.proofs.Bytes.{drop-front}
use Rattle.mz_pmachine_theory.specs.SharedBuilding.{portable_trees, row_makes, first_makes}

-- ---- the code of a command is read again

abbrev IsReadAgain : Profile → Kind → ℕ → ProofCode → Type 0
IsReadAgain P kind v c = IsTrue (is_known (proof_byte c)) × (body_command P kind (proof_byte c) v ≡ if_allowed P kind v (Some c))

read-again : (P : Profile) (kind : Kind) (v : ℕ) (c : ProofCode) → IsReadAgain P kind v c
read-again P kind v code.Term = (refl, refl)
read-again P kind v _ = (refl, refl)

-- ---- commands that may stand

stands-too : (kind : Kind) (c : ProofCode) (v : ℕ) → IsPlain (c, v) → stands_in strict kind c ≡ true → stands_in portable_trees kind c ≡ true
stands-too kind code.ConvRef v plain h = absurd plain
stands-too kind c v plain h = h

pub may-stand : (kind : Kind) (cs : List (ProofCode × ℕ)) → ArePlain cs → MayStand strict kind cs → MayStand portable_trees kind cs
may-stand kind [] plain stand = tt
may-stand kind (c ∷ cs) (one, plain) (stands, short, stand) = (stands-too kind c.0 c.1 one stands, short, may-stand kind cs plain stand)

-- ---- turns

module _ (P : Profile) (tables : RowsBefore) (h : Heading) where
  -- the command is read from the front
  is-read : (c : ProofCode × ℕ) (rest : List ℕ) → c.1 < 2 ^ 32 → first_command (command_bytes c ++ rest) ≡ Ok (record { code = proof_byte c.0; value = c.1; len = length (command_bytes c) })
  is-read c rest short = Spells-again (command_bytes c) rest (proof_byte c.0) c.1 (shortest-spells (proof_byte c.0) c.1 (read-again P h.kind c.1 c.0).0 short)

  is-proof : (c : ProofCode × ℕ) → stands_in P h.kind c.0 ≡ true → body_command P h.kind (proof_byte c.0) c.1 ≡ Some (proves c.0 c.1)
  is-proof c stands = (read-again P h.kind c.1 c.0).1 ∙ ap (λ (b : Bool). cond b (Some (proves c.0 c.1)) None) stands

  pub turn-is : (at : ℕ) (c : ProofCode × ℕ) (rest : List ℕ) (st s : State P.T) → stands_in P h.kind c.0 ≡ true → c.1 < 2 ^ 32 → proof_step P tables at c.0 c.1 st ≡ Ok s
      → body_turn P tables h at (command_bytes c ++ rest) st (first_command (command_bytes c ++ rest)) ≡ Ok (goes_on (length (command_bytes c)) s)
  turn-is at c rest st s stands short row = rw (is-read c rest short, is-proof c stands, row) refl

  pub makes-is : (at : ℕ) (c : ProofCode × ℕ) (rest : List ℕ) (st : State P.T) → stands_in P h.kind c.0 ≡ true → c.1 < 2 ^ 32
      → first_makes P tables h at st (first_command (command_bytes c ++ rest)) ≡ row_makes P tables at c.0 c.1 st
  makes-is at c rest st stands short = rw (is-read c rest short, is-proof c stands) refl

  -- what is over was the END
  over-is : (r : Result (State P.T) K) (at : ℕ) (rest : ℕ → State P.T → Result (State P.T) (ℕ × K)) (last : State P.T) → follow (at_place at (r >>= λ s. Ok (over s))) rest ≡ Ok last → r ≡ Ok last
  over-is (Ok s) at rest last e = cc
  over-is (Err d) at rest last e = absurd cc

  ends-from : (n at : ℕ) (cs : List (ProofCode × ℕ)) (st s last : State P.T) → length (spelled_body cs) ≤ n → MayStand P h.kind cs → run_commands P tables at cs st ≡ Ok s
      → body_from P tables h n at (spelled_body cs) st ≡ Ok last → proof_end P tables h s ≡ Ok last
  unfolding body_from
  ends-from zero at [] st s last le stand ran ended = absurd (omega arith)
  ends-from (suc n) at [] st s last le stand ran ended =
      subst (λ (z : State P.T). proof_end P tables h z ≡ Ok last) (taken-is st s ran) (over-is (proof_end P tables h st) at (λ len s. body_from P tables h n (at + len) (drop len (0x00 ∷ [])) s) last ended)
  ends-from zero at (c ∷ cs) st s last le stand ran ended =
      let many = length-append (command_bytes c) (spelled_body cs) in
      absurd (omega (arith, many))
  ends-from (suc n) at (c ∷ cs) st s last le (stands, short, stand) ran ended =
      from_bind (proof_step P tables at c.0 c.1 st) _ s ran λ next row later.
      let rest : List ℕ = spelled_body cs in
      let fits : length rest ≤ n = (let many = length-append (command_bytes c) rest in omega (arith, many)) in
      let goes : body_from P tables h n (at + length (command_bytes c)) (drop (length (command_bytes c)) (command_bytes c ++ rest)) next ≡ Ok last =
      sym (ap (λ (t : Result (Turn (State P.T)) K). follow (at_place at t) (λ len s. body_from P tables h n (at + len) (drop len (command_bytes c ++ rest)) s)) (turn-is at c rest st next stands short row)) ∙ ended in
      ends-from n (at + length (command_bytes c)) cs next s last fits stand later
      (subst (λ (z : List ℕ). body_from P tables h n (at + length (command_bytes c)) z next ≡ Ok last) (drop-front (command_bytes c) rest) goes)

  -- the END keeps the state
  end-keeps : (st last : State P.T) → proof_end P tables h st ≡ Ok last → st ≡ last
  unfolding proof_end
  end-keeps st last ended =
      from_bind (ends_with P tables h st) _ last ended λ m _ e1.
      from_bind (matched_by P tables st.ctx m) _ last e1 λ u _ e2.
      taken-is st last e2

  -- where the body runs and its commands do, the END is good
  pub end-of : (at : ℕ) (cs : List (ProofCode × ℕ)) (s last : State P.T) → MayStand P h.kind cs → run_commands P tables at cs (body_start P h) ≡ Ok s
      → body_run P tables h at (spelled_body cs) ≡ Ok last → proof_end P tables h s ≡ Ok s
  end-of at cs s last stand ran runs =
      let ended = ends-from (length (spelled_body cs)) at cs (body_start P h) s last (omega arith) stand ran runs in
      ended ∙ ap taken (sym (end-keeps s last ended))

-- A body that runs by the standard machine runs where gaps are let through, to the same end.
use Rattle.std.proofs.Common.{◌≡◌, ℕ, zero, suc, ◌+◌, ◌⊎◌, Bool, List, [], length, drop, map, cond, eqb, Option, Some, None, Result, Ok, Err, refl, ap, ◌∙◌, subst, inl, inr}
use Rattle.mz_cmd.specs.declared.rule.K.{K}
use Rattle.mz_cmd.specs.declared.rule.K.TheVariants as k
use Rattle.mz_cmd.specs.declared.command.Cmd.{Cmd}
use Rattle.mz_cmd.specs.declared.command.CmdFault.{CmdFault}
use Rattle.mz_cmd.specs.declared.code.ProofCode.{ProofCode}
use Rattle.mz_cmd.specs.declared.code.ProofCode.TheVariants as code
use Rattle.mz_cmd.specs.Codes.{proof_code}
use Rattle.mz_cmd.specs.Reading.{first_command}
use Rattle.mz_logic_theory.specs.Tree.{Tree}
use Rattle.mz_machine_theory.specs.Steps.{◌>>=◌, ◌>>◌, need, at_place, Turn, over, goes_on, follow}
use Rattle.mz_machine_theory.specs.Profile.{plain, strict, expr}
use Rattle.mz_machine_theory.specs.UnifyMachine.{is_empty}
use Rattle.mz_machine_theory.proofs.Inverting.{from_bind}
use Rattle.mz_machine_theory.specs.MachineState.{RowsBefore, State, Kind, is_axiom, is_theorem, is_definition, Heading}
use Rattle.mz_machine_theory.specs.ProofMachine.{proof_step}
use Rattle.mz_machine_theory.specs.Bodies.{BodyCommand, ends, proves, stands_in, if_allowed, body_command, body_turn, body_turn_by, body_from, body_start}
use Rattle.mz_machine_theory.specs.Laws.{StrictRunsWithGaps}
use Rattle.mz_machine_theory.proofs.PlainRows.{own-plain, row-plain, end-plain}

is-sorry : (c : ProofCode) → (c ≡ code.Sorry) ⊎ (c ≡ code.Sorry → ⊥)
is-sorry code.Term = inr λ is. cc
is-sorry code.TermSave = inr λ is. cc
is-sorry code.Ref = inr λ is. cc
is-sorry code.Dummy = inr λ is. cc
is-sorry code.Thm = inr λ is. cc
is-sorry code.ThmSave = inr λ is. cc
is-sorry code.Hyp = inr λ is. cc
is-sorry code.Conv = inr λ is. cc
is-sorry code.Refl = inr λ is. cc
is-sorry code.Symm = inr λ is. cc
is-sorry code.Cong = inr λ is. cc
is-sorry code.Unfold = inr λ is. cc
is-sorry code.ConvCut = inr λ is. cc
is-sorry code.ConvSave = inr λ is. cc
is-sorry code.Save = inr λ is. cc
is-sorry code.ConvRef = inr λ is. cc
is-sorry code.Sorry = inl refl

stands-plain : (gaps : Bool) (kind : Kind) (c : ProofCode) → stands_in (plain gaps) kind c ≡ stands_in strict kind c
stands-plain gaps kind code.Term = refl
stands-plain gaps kind code.TermSave = refl
stands-plain gaps kind code.Ref = refl
stands-plain gaps kind code.Dummy = refl
stands-plain gaps kind code.Thm = refl
stands-plain gaps kind code.ThmSave = refl
stands-plain gaps kind code.Hyp = refl
stands-plain gaps kind code.Conv = refl
stands-plain gaps kind code.Refl = refl
stands-plain gaps kind code.Symm = refl
stands-plain gaps kind code.Cong = refl
stands-plain gaps kind code.Unfold = refl
stands-plain gaps kind code.ConvCut = refl
stands-plain gaps kind code.ConvSave = refl
stands-plain gaps kind code.Save = refl
stands-plain gaps kind code.Sorry = refl
stands-plain gaps is_axiom code.ConvRef = refl
stands-plain gaps is_theorem code.ConvRef = refl
stands-plain gaps is_definition code.ConvRef = refl

allowed-plain : (gaps : Bool) (kind : Kind) (value : ℕ) (o : Option ProofCode) → if_allowed (plain gaps) kind value o ≡ if_allowed strict kind value o
allowed-plain gaps kind value None = refl
allowed-plain gaps kind value (Some c) = ap (λ (b : Bool). cond b (Some (proves c value)) None) (stands-plain gaps kind c)

pub command-plain : (gaps : Bool) (kind : Kind) (byte value : ℕ) → body_command (plain gaps) kind byte value ≡ body_command strict kind byte value
command-plain gaps kind byte value = ap (λ (o : Option BodyCommand). cond (eqb byte 0x00) (Some ends) o) (allowed-plain gaps kind value (proof_code byte))

module _ (gaps : Bool) (tables : RowsBefore) (h : Heading) where
  no-sorry : (at n : ℕ) (st s : State Tree) → proof_step strict tables at code.Sorry n st ≡ Ok s → ⊥
  unfolding proof_step
  no-sorry at n st s e = cc

  row-runs : (at : ℕ) (c : ProofCode) (n : ℕ) (st s : State Tree) → proof_step strict tables at c n st ≡ Ok s → proof_step (plain gaps) tables at c n st ≡ Ok s
  row-runs at c n st s e = elim (is-sorry c) [
    | inl is ↦ absurd (no-sorry at n st s (subst (λ (z : ProofCode). proof_step strict tables at z n st ≡ Ok s) is e))
    | inr other ↦ row-plain gaps tables at c n st other ∙ e
  ]

  by-runs : (at len : ℕ) (rest : List ℕ) (st : State Tree) (t : Turn (State Tree)) (o : Option BodyCommand) → body_turn_by strict tables h at len rest st o ≡ Ok t → body_turn_by (plain gaps) tables h at len rest st o ≡ Ok t
  by-runs at len rest st t None e = absurd cc
  by-runs at len rest st t (Some ends) e = ap (λ (z : Result (State Tree) K). (need (is_empty rest) k.StatementLength >> z) >>= λ s. Ok (over s)) (end-plain gaps tables h st) ∙ e
  by-runs at len rest st t (Some (proves c n)) e =
      from_bind (proof_step strict tables at c n st) _ t e λ s row e1.
      ap (λ (z : Result (State Tree) K). z >>= λ x. Ok (goes_on len x)) (row-runs at c n st s row) ∙ e1

  turn-runs : (at : ℕ) (bytes : List ℕ) (st : State Tree) (t : Turn (State Tree)) (r : Result Cmd CmdFault) → body_turn strict tables h at bytes st r ≡ Ok t → body_turn (plain gaps) tables h at bytes st r ≡ Ok t
  turn-runs at bytes st t (Err f) e = absurd cc
  turn-runs at bytes st t (Ok c) e =
      ap (λ (o : Option BodyCommand). body_turn_by (plain gaps) tables h at c.len (drop c.len bytes) st o) (command-plain gaps h.kind c.code c.value)
      ∙ by-runs at c.len (drop c.len bytes) st t (body_command strict h.kind c.code c.value) e

  follow-runs : (at : ℕ) (r q : Result (Turn (State Tree)) K) (f g : ℕ → State Tree → Result (State Tree) (ℕ × K)) (last : State Tree) → ((t : Turn (State Tree)) → r ≡ Ok t → q ≡ Ok t)
      → ((len : ℕ) (s : State Tree) → f len s ≡ Ok last → g len s ≡ Ok last) → follow (at_place at r) f ≡ Ok last → follow (at_place at q) g ≡ Ok last
  follow-runs at (Err d) q f g last same rest e = absurd cc
  follow-runs at (Ok (over s)) q f g last same rest e = ap (λ (z : Result (Turn (State Tree)) K). follow (at_place at z) g) (same (over s) refl) ∙ e
  follow-runs at (Ok (goes_on len s)) q f g last same rest e = ap (λ (z : Result (Turn (State Tree)) K). follow (at_place at z) g) (same (goes_on len s) refl) ∙ rest len s e

  from-runs : (n at : ℕ) (bytes : List ℕ) (st last : State Tree) → body_from strict tables h n at bytes st ≡ Ok last → body_from (plain gaps) tables h n at bytes st ≡ Ok last
  unfolding body_from
  from-runs zero at bytes st last e = absurd cc
  from-runs (suc n) at bytes st last e =
      follow-runs at (body_turn strict tables h at bytes st (first_command bytes)) (body_turn (plain gaps) tables h at bytes st (first_command bytes)) _ _ last
      (λ t turn. turn-runs at bytes st t (first_command bytes) turn) (λ len s rest. from-runs n (at + len) (drop len bytes) s last rest) e

abbrev start_of : Heading → List Tree → State Tree
start_of h xs = record { ctx = h.params; heap = map expr xs; stack = []; hyps = [] }

pub strict-runs : StrictRunsWithGaps
strict-runs gaps tables h at bytes (last, e) =
    (last, ap (λ (xs : List Tree). body_from (plain gaps) tables h (length bytes) at bytes (start_of h xs)) (own-plain gaps 0 h.params) ∙ from-runs gaps tables h (length bytes) at bytes (body_start strict h) last e)

-- The commands of a unify stream (the .mmb format).
use Rattle.std.specs.Prelude.{◌≡◌, ℕ, ⊤, ◌==◌, if◌then◌else◌, List, [], ◌∷◌, drop, Option, Some, None, Ok}
use Rattle.mz_cmd.specs.declared.command.Cmd.{Cmd}
use Rattle.mz_cmd.specs.declared.code.UnifyCode.{UnifyCode}
use Rattle.mz_cmd.specs.declared.code.UnifyCode.TheVariants.{Term, TermSave, Ref, Dummy, Hyp}
use Rattle.mz_cmd.specs.Codes.{unify_code}
use Rattle.mz_cmd.specs.Reading.{first_command}

-- a stream belongs to an axiom or a theorem, or to a definition
pub data StreamKind : Type 0 where
  of_assertion : StreamKind
  of_definition : StreamKind

pub data UnifyCommand : Type 0 where
  u_term : ℕ → UnifyCommand
  u_term_save : ℕ → UnifyCommand
  u_ref : ℕ → UnifyCommand
  u_dummy : ℕ → UnifyCommand
  u_hyp : UnifyCommand
  u_end : UnifyCommand

-- only definitions have dummies, only assertions hypotheses
abbrev pub command_in : StreamKind → ℕ → Option UnifyCode → Option UnifyCommand
command_in kind value None = None
command_in kind value (Some Term) = Some (u_term value)
command_in kind value (Some TermSave) = Some (u_term_save value)
command_in kind value (Some Ref) = Some (u_ref value)
command_in of_assertion value (Some Dummy) = None
command_in of_definition value (Some Dummy) = Some (u_dummy value)
command_in of_assertion value (Some Hyp) = Some u_hyp
command_in of_definition value (Some Hyp) = None

-- the command with this code and operand in a stream of this kind
abbrev pub unify_command : StreamKind → ℕ → ℕ → Option UnifyCommand
unify_command kind code value = if code == 0x00 then Some u_end else command_in kind value (unify_code code)

abbrev pub IsEnd : UnifyCommand → Type 0
IsEnd u_end = ⊤
IsEnd (u_term t) = ⊥
IsEnd (u_term_save t) = ⊥
IsEnd (u_ref i) = ⊥
IsEnd (u_dummy s) = ⊥
IsEnd u_hyp = ⊥

-- these are the commands at the front of the bytes, up to an END
abbrev pub StreamIs : StreamKind → List ℕ → List UnifyCommand → Type 0
StreamIs kind bytes [] = (c : Cmd) × (first_command bytes ≡ Ok c) × (unify_command kind c.code c.value ≡ Some u_end)
StreamIs kind bytes (u ∷ us) =
    (c : Cmd) × (first_command bytes ≡ Ok c) × (unify_command kind c.code c.value ≡ Some u) × (IsEnd u → ⊥) × StreamIs kind (drop c.len bytes) us

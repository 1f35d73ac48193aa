-- The commands of a unify stream or a body, and their lines (the .mmb format, its commands; the lines are this
-- project's own).
use Rattle.std.specs.Prelude.{◌≡◌, ℕ, ◌+◌, ◌++◌, Bool, IsTrue, List, [], ◌∷◌, codes, Option, Some, None, is_some, Ok}
use Rattle.mz_cmd.specs.declared.command.Cmd.{Cmd}
use Rattle.mz_cmd.specs.declared.code.ProofCode.{ProofCode}
use Rattle.mz_cmd.specs.declared.code.UnifyCode.{UnifyCode}
use Rattle.mz_cmd.specs.Codes.{unify_code, proof_code}
use Rattle.mz_cmd.specs.Reading.{command_at}
use Rattle.mz_show.specs.declared.stream.Stream.{Stream}
use Rattle.mz_show.specs.declared.stream.Stream.TheVariants.{Unify, Proof}
use Rattle.mz_show.specs.Tokens.{texts, unify_name, unify_has_number, proof_name, proof_has_number, command_words}

-- a command of the stream, other than its end, has this code
abbrev pub belongs : Stream → ℕ → Bool
belongs Unify code = is_some (unify_code code)
belongs Proof code = is_some (proof_code code)

-- the commands stand one after another between two places
abbrev pub Follow : Stream → List ℕ → ℕ → List Cmd → ℕ → Type 0
Follow stream bytes from [] to = to ≡ from
Follow stream bytes from (c ∷ cs) to =
    (command_at bytes from ≡ Ok c) × IsTrue (belongs stream c.code) × Follow stream bytes (from + c.len) cs to

-- some commands, and the place after the last
pub record Run : Type 0 where
  pub commands : List Cmd
  pub to : ℕ

-- all commands of the stream from a place on, up to the first place where none of it stands
pub record IsLongest (stream : Stream) (bytes : List ℕ) (from : ℕ) (run : Run) : Type 0 where
  pub follow : Follow stream bytes from run.commands run.to
  pub no_more : (c : Cmd) → command_at bytes run.to ≡ Ok c → IsTrue (belongs stream c.code) → ⊥

-- an END stands there
abbrev pub EndStands : List ℕ → ℕ → Type 0
EndStands bytes at = (c : Cmd) × (command_at bytes at ≡ Ok c) × (c.code ≡ 0)

-- the command there leads to this place
abbrev pub LeadsTo : List ℕ → ℕ → ℕ → Type 0
LeadsTo bytes at next = (c : Cmd) → command_at bytes at ≡ Ok c → at + c.len ≡ next

-- ---- lines

abbrev pub unify_words : Option UnifyCode → ℕ → List ℕ
unify_words None value = []
unify_words (Some code) value = command_words (unify_has_number code) (unify_name code) value

abbrev pub proof_words : Option ProofCode → ℕ → List ℕ
proof_words None value = []
proof_words (Some code) value = command_words (proof_has_number code) (proof_name code) value

abbrev pub command_line : Stream → Cmd → List ℕ
command_line Unify c = codes " u " ++ unify_words (unify_code c.code) c.value ++ codes "\n"
command_line Proof c = codes " p " ++ proof_words (proof_code c.code) c.value ++ codes "\n"

abbrev pub end_line : Stream → List ℕ
end_line Unify = codes " u end\n"
end_line Proof = codes " p end\n"

abbrev pub stream_text : Stream → List Cmd → List ℕ
stream_text stream cs = texts (command_line stream) cs ++ end_line stream

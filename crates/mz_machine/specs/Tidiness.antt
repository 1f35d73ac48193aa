-- What the scratch buffers keep of the body before it.
use Rattle.std.specs.Prelude.{◌≡◌, ◌≤◌, ◌+◌, ℕ, zero, suc, ⊤, List, length, drop, Ok, IfSome, IsSomeAnd}
use Rattle.mz_cmd.specs.declared.command.Cmd.{Cmd}
use Rattle.mz_cmd.specs.Reading.{first_command}
use Rattle.mz_machine.specs.Parameters.{Remembers}
use Rattle.mz_machine.specs.declared.scratch.Buffers.{Buffers}
use Rattle.mz_machine.specs.declared.scratch.BodyScratch.{BodyScratch}

-- so many commands other than END stand at the front of the bytes, one behind the other
abbrev pub HasCommands : ℕ → List ℕ → Type 0
HasCommands zero bytes = ⊤
HasCommands (suc n) bytes = (c : Cmd) × (first_command bytes ≡ Ok c) × (c.code ≡ 0 → ⊥) × HasCommands n (drop c.len bytes)

-- they are no more than the first ones, and one for each of some commands at the front of the bytes
abbrev pub OneACommand : (first : ℕ) → List ℕ → (many : ℕ) → Type 0
OneACommand first bytes many = (n : ℕ) × HasCommands n bytes × (many ≤ first + n)

-- it keeps a store, of no more expressions than one for each parameter and one for each of such commands
abbrev pub HoldsAtMost : (params : ℕ) → List ℕ → BodyScratch → Type 0
HoldsAtMost params bytes scratch = IsSomeAnd scratch.buffers (λ buffers. OneACommand params bytes (length buffers.value.parts.store.entries))

-- what it remembers of parameters is so in the file
abbrev pub AreTidyBuffers : List ℕ → Buffers → Type 0
AreTidyBuffers file buffers = IfSome buffers.last (λ last. Remembers file last buffers.parts.store)

abbrev pub IsTidy : List ℕ → BodyScratch → Type 0
IsTidy file scratch = IfSome scratch.buffers (λ buffers. AreTidyBuffers file buffers.value)

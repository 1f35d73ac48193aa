-- What the scratch buffers keep of the nodes of the body before it.
use Rattle.std.specs.Prelude.{ℕ, List, length, IsSomeAnd}
use Rattle.mz_machine.specs.Tidiness.{OneACommand}
use Rattle.mz_pmachine.specs.declared.scratch.PortableScratch.{PortableScratch}

-- it keeps buffers, of no more nodes than one for each parameter and one for each of some commands at the front of the bytes
abbrev pub HoldsAtMost : (params : ℕ) → List ℕ → PortableScratch → Type 0
HoldsAtMost params bytes scratch = IsSomeAnd scratch.buffers (λ buffers. OneACommand params bytes (length buffers.value.parts.nodes.entries))

-- What the arguments given to the verifier ask for, and what is said of it (this project's own).
use Rattle.std.specs.Prelude.{ℕ, List}
use Rattle.mz_tool_engine.specs.Said.{Said}
use Rattle.mz_tool_verify.specs.Verify.{verify_says}
use Rattle.mz_tool_verify.specs.Show.{show_says}
use Rattle.mz_tool_verify.specs.declared.command.VerifierCommand.{VerifierCommand}
use Rattle.mz_tool_verify.specs.declared.command.VerifierCommand.TheVariants as commands

-- a command of the verifier, with the names of its files
pub data Request : Type 0 where
  verify : (spec bin : List ℕ) → Request
  show : (bin : List ℕ) → Request

-- what is said of each
abbrev pub said_of : Request → Said
said_of (verify spec bin) = verify_says spec bin
said_of (show bin) = show_says bin

-- the request that a command stands for
abbrev pub request : VerifierCommand → Request
request (commands.Verify command) = verify command.spec.now command.bin.now
request (commands.Show command) = show command.bin.now

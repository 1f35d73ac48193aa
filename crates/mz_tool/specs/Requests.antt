-- What the arguments given to the program ask for, and what is said of it (this project's own).
use Rattle.std.specs.Prelude.{ℕ, Bool, List}
use Rattle.mz_base.specs.Gaps.{gaps_of}
use Rattle.mz_tool_engine.specs.Said.{Said}
use Rattle.mz_tool_verify.specs.Verify.{verify_says}
use Rattle.mz_tool.specs.Listed.{listed_says}
use Rattle.mz_tool.specs.Compile.{compile_says}
use Rattle.mz_tool.specs.Assemble.{assemble_says}
use Rattle.mz_tool.specs.Axioms.{axioms_says}
use Rattle.mz_tool.specs.Draft.{draft_says}
use Rattle.mz_tool.specs.Portable.{portable_says}
use Rattle.mz_tool.specs.Specify.{specify_says}
use Rattle.mz_tool.specs.Decompile.{decompile_says}
use Rattle.mz_tool.specs.Sample.{sample_says}
use Rattle.mz_tool.specs.declared.command.ProgramCommand.{ProgramCommand}
use Rattle.mz_tool.specs.declared.command.ProgramCommand.TheVariants as commands

-- a command of the program, with the names of its files; or with how many definitions a sample has. A text is compiled
-- with gaps let through, as a draft, or without
pub data Request : Type 0 where
  verify : (spec bin : List ℕ) → Request
  show : (bin : List ℕ) → Request
  compile : (gaps : Bool) (text out : List ℕ) → Request
  assemble : (listing out : List ℕ) → Request
  axioms : (spec bin : List ℕ) → Request
  draft : (spec bin : List ℕ) → Request
  portable : (spec bin : List ℕ) → Request
  specify : (text out : List ℕ) → Request
  decompile : (spec bin out : List ℕ) → Request
  sample : (n : ℕ) → Request

-- what is said of each
abbrev pub said_of : Request → Said
said_of (verify spec bin) = verify_says spec bin
said_of (show bin) = listed_says bin
said_of (compile gaps text out) = compile_says gaps text out
said_of (assemble listing out) = assemble_says listing out
said_of (axioms spec bin) = axioms_says spec bin
said_of (draft spec bin) = draft_says spec bin
said_of (portable spec bin) = portable_says spec bin
said_of (specify text out) = specify_says text out
said_of (decompile spec bin out) = decompile_says spec bin out
said_of (sample n) = sample_says n

-- the request that a command stands for
abbrev pub request : ProgramCommand → Request
request (commands.Verify command) = verify command.spec.now command.bin.now
request (commands.Show command) = show command.bin.now
request (commands.Compile command) = compile (gaps_of command.mode) command.text.now command.out.now
request (commands.Assemble command) = assemble command.listing.now command.out.now
request (commands.Axioms command) = axioms command.spec.now command.bin.now
request (commands.Draft command) = draft command.spec.now command.bin.now
request (commands.Portable command) = portable command.spec.now command.bin.now
request (commands.Specify command) = specify command.text.now command.out.now
request (commands.Decompile command) = decompile command.spec.now command.bin.now command.out.now
request (commands.Sample command) = sample command.size.number

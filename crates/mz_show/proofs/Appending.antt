-- Lines of commands, appended one by one.
use Rattle.std.proofs.Common.{◌≡◌, ◌++◌, ◌+◌, ℕ, List, [], ◌∷◌, Ok, ap, sym, ◌∙◌, append_assoc}
use Rattle.std.specs.Prelude.{IsTrue}
use Rattle.mz_cmd.specs.declared.command.Cmd.{Cmd}
use Rattle.mz_cmd.specs.Reading.{command_at}
use Rattle.mz_show.specs.declared.stream.Stream.{Stream}
use Rattle.mz_show.specs.Tokens.{texts}
use Rattle.mz_show.specs.Streams.{belongs, Follow, command_line}
use Rattle.mz_show.proofs.Texts.{texts-snoc}
use Rattle.mz_show.proofs.Commands.{follow-snoc}

-- commands from a place to another, whose lines were appended
abbrev pub Listed : Stream → List ℕ → ℕ → ℕ → List ℕ → List ℕ → Type 0
Listed stream bytes from at first text = (cs : List Cmd) × Follow stream bytes from cs at × (text ≡ first ++ texts (command_line stream) cs)

pub listed-more : (stream : Stream) (bytes : List ℕ) (from at : ℕ) (c : Cmd) (first before now : List ℕ) → Listed stream bytes from at first before →
    command_at bytes at ≡ Ok c → IsTrue (belongs stream c.code) → now ≡ before ++ command_line stream c → Listed stream bytes from (at + c.len) first now
listed-more stream bytes from at c first before now l e b f =
    let all = texts-snoc (command_line stream) l.0 c in (
      l.0 ++ c ∷ [],
      follow-snoc stream bytes from l.0 at c l.1 e b,
      f ∙ ap (λ front. front ++ command_line stream c) l.2 ∙ append_assoc first (texts (command_line stream) l.0) (command_line stream c) ∙ ap (λ rest. first ++ rest) (sym all),
    )

-- What has room for some parts has it for one more.
use Rattle.std.proofs.Common.{◌≡◌, List, [], ◌∷◌, ◌++◌}
use Rattle.std.specs.Prelude.{IsTrue}
use Rattle.std.specs.List.{All}
use Rattle.std.proofs.lemmas.List.Elements.{All-append, All-cons, All-nil}
use Rattle.mz_cmd.specs.Codes.{begins_statement}
use Rattle.mz_layout_tables.specs.Normal.{Written, Parts}
use Rattle.mz_layout_tables.specs.Standing.{HaveRoom}

abbrev BeginsStatement : Written → Type 0
BeginsStatement s = IsTrue (begins_statement s.code)

pub room-for-statement : (p : Parts) (s : Written) → HaveRoom p → IsTrue (begins_statement s.code) → (statements : List Written) → statements ≡ p.statements ++ s ∷ []
    → HaveRoom (record p { statements = statements })
room-for-statement p s room code statements is =
    let more : All BeginsStatement (p.statements ++ s ∷ []) = All-append BeginsStatement p.statements (s ∷ []) room.codes (All-cons BeginsStatement s [] code (All-nil BeginsStatement)) in
    record { mods = room.mods; terms = room.terms; thms = room.thms; codes = rw is more }

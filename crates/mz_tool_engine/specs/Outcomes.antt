-- What a command answers over the contents of its files, case by case (this project's own).
use Rattle.std.specs.Prelude.{◌≡◌, ◌++◌, ⊤, ℕ, List, Option}
use Rattle.mz_tool_engine.specs.Inputs.{bytes_of}
use Rattle.mz_tool_engine.specs.declared.outcome.Outcome.{Outcome}
use Rattle.mz_tool_engine.specs.declared.outcome.Outcome.TheVariants as outcomes

-- a fact of what is put and written, where the answer is yes
abbrev pub IfYes : Outcome → (Option (List ℕ) → List ℕ → Type 0) → Type 0
IfYes (outcomes.Yes put text) P = P (bytes_of put) text.items
IfYes (outcomes.No text) P = Unit {0}
IfYes outcomes.Mem P = Unit {0}

-- a fact of what is written, where it is no
abbrev pub IfNo : Outcome → (List ℕ → Type 0) → Type 0
IfNo (outcomes.Yes put text) P = Unit {0}
IfNo (outcomes.No text) P = P text.items
IfNo outcomes.Mem P = Unit {0}

abbrev pub OnYes : Outcome → Type 0 → Type 0
OnYes outcome P = IfYes outcome (λ _ _. P)

abbrev pub OnNo : Outcome → Type 0 → Type 0
OnNo outcome P = IfNo outcome (λ _. P)

-- the same answer, with a line before its text; out of memory may come in its place
abbrev pub IsAfter : List ℕ → Outcome → Outcome → Type 0
IsAfter line old outcomes.Mem = ⊤
IsAfter line (outcomes.Yes put text) (outcomes.Yes put' text') = (bytes_of put' ≡ bytes_of put) × (text'.items ≡ line ++ text.items)
IsAfter line (outcomes.Yes put text) (outcomes.No text') = ⊥
IsAfter line (outcomes.No text) (outcomes.Yes put' text') = ⊥
IsAfter line (outcomes.No text) (outcomes.No text') = text'.items ≡ line ++ text.items
IsAfter line outcomes.Mem (outcomes.Yes put' text') = ⊥
IsAfter line outcomes.Mem (outcomes.No text') = ⊥

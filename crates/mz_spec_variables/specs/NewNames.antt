-- Names of which no two are the same.
use Rattle.std.specs.Prelude.{⊤, ℕ, List, [], ◌∷◌, ◌++◌}
use Rattle.mz_base.specs.Names.{IsNew}

-- each of the names is new to those before it, the first of them to these
abbrev pub AreNew : List (List ℕ) → List (List ℕ) → Type 0
AreNew before [] = ⊤
AreNew before (name ∷ names) = IsNew before name × AreNew (before ++ name ∷ []) names

-- What a parser finds: readings of the first tokens of a list.
use Rattle.std.specs.Prelude.{◌≡◌, ◌≤◌, ◌<◌, ◌++◌, ◌↔◌, ⊤, ℕ, List, [], ◌∷◌, Bool, IsTrue, Contains}
use Rattle.mz_logic_theory.specs.Tree.{Tree, Trees, followed_by}
use Rattle.mz_math_theory.specs.Notation.{max_level}
use Rattle.mz_math_theory.specs.declared.notation.Notation.{Notation}
use Rattle.mz_math_theory.specs.Clear.{JoinedBy}
use Rattle.mz_math_theory.specs.Grammar.{Item, token, expr, Parse, Parts, joined, level_of, tokens_of, part_tokens, tree_of, part_trees, Words, IsExp, AreParts, IsLeftForm}

-- no infix constant of the precedence or above stands first
abbrev pub NotJoined : Words → ℕ → List (List ℕ) → Type 0
NotJoined ws n [] = ⊤
NotJoined ws n (w ∷ xs) = (k : Notation) → Contains ws.infixes k → JoinedBy k w → k.level < n

-- what stands behind an operand of a form cannot be joined to it
abbrev pub Before : Words → ℕ → List Item → List (List ℕ) → Type 0
Before ws l [] xs = NotJoined ws l xs
Before ws l (token c ∷ its) xs = NotJoined ws l (c ∷ [])
Before ws l (expr m ∷ its) xs = l ≡ max_level

abbrev pub Spaced : Words → List Item → List (List ℕ) → Type 0
Spaced ws [] xs = ⊤
Spaced ws (token c ∷ its) xs = Spaced ws its xs
Spaced ws (expr l ∷ its) xs = Before ws l its xs × Spaced ws its xs

-- an infix form around what stands before it
pub record Step : Type 0 where
  pub notation : Notation
  pub parts : Parts

abbrev pub build : Parse → List Step → Parse
build p [] = p
build p (s ∷ ss) = build (joined s.notation p s.parts) ss

abbrev pub step_tokens : List Step → List (List ℕ)
step_tokens [] = []
step_tokens (s ∷ ss) = part_tokens s.parts ++ step_tokens ss

-- p is an expression of the precedence, of the first tokens, and the rest cannot be joined to it
abbrev pub Reads : Words → ℕ → List (List ℕ) → Parse → List (List ℕ) → Type 0
Reads ws level tokens p rest = IsExp ws p × (level ≤ level_of p) × (tokens_of p ++ rest ≡ tokens) × NotJoined ws level rest

abbrev pub NoReading : Words → ℕ → List (List ℕ) → Type 0
NoReading ws level tokens = (p : Parse) (rest : List (List ℕ)) → Reads ws level tokens p rest → ⊥

-- each reading goes on from b
abbrev pub GoesOn : Words → ℕ → List (List ℕ) → Parse → List (List ℕ) → Type 0
GoesOn ws level tokens b rest = (p : Parse) (more : List (List ℕ)) → Reads ws level tokens p more → (ss : List Step) × (p ≡ build b ss) × (step_tokens ss ++ more ≡ rest)

-- an expression stands first, with which each reading begins
pub record IsBegun (ws : Words) (level : ℕ) (tokens rest : List (List ℕ)) (tree : Tree) (at : ℕ) (is_left : Bool) : Type 0 where
  pub parse : Parse
  pub is : IsExp ws parse
  pub enough : level ≤ level_of parse
  pub tokens_are : tokens_of parse ++ rest ≡ tokens
  pub tree_is : tree_of parse ≡ tree
  pub level_is : level_of parse ≡ at
  pub left_is : IsTrue is_left ↔ IsLeftForm parse
  pub goes_on : GoesOn ws level tokens parse rest

-- parts by the items stand first, and nothing behind them can be joined to them; their trees are added to a list
pub record ArePartsRead (ws : Words) (its : List Item) (tokens rest : List (List ℕ)) (before after : Trees) : Type 0 where
  pub parts : Parts
  pub are : AreParts ws its parts
  pub tokens_are : part_tokens parts ++ rest ≡ tokens
  pub spaced : Spaced ws its rest
  pub trees_are : after ≡ followed_by before (part_trees parts)

abbrev pub NoParts : Words → List Item → List (List ℕ) → Type 0
NoParts ws its tokens = (ps : Parts) (rest : List (List ℕ)) → AreParts ws its ps → Spaced ws its rest → part_tokens ps ++ rest ≡ tokens → ⊥

-- an expression of the precedence stands first
pub record IsRead (ws : Words) (level : ℕ) (tokens rest : List (List ℕ)) (tree : Tree) : Type 0 where
  pub parse : Parse
  pub reads : Reads ws level tokens parse rest
  pub tree_is : tree_of parse ≡ tree

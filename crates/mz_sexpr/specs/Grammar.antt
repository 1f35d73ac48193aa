-- Which nodes the bytes of a text are: pieces, and parentheses that nest (this project's own profile of
-- s-expressions, with the white space and the comments of mm0.md).
use Rattle.std.specs.Prelude.{ℕ, ◌+◌, ◌≤◌, ◌≡◌, ◌≢◌, ◌⊎◌, ⊤, Bool, true, false, ◌==◌, ◌||◌, ◌&&◌, if◌then◌else◌, List, [], ◌∷◌, ◌++◌, length, All}
use Rattle.mz_sexpr.specs.Node.{Nodes, height, depth_limit}
use Rattle.mz_sexpr.specs.Token.{Token, open_at, close, word_at, spelled}

-- printable ASCII and newline
abbrev pub IsAllowed : ℕ → Type 0
IsAllowed b = ((32 ≤ b) × (b ≤ 126)) ⊎ (b ≡ 10)

-- a text is a list of these; a comment is given by what follows its `--`
pub data Piece : Type 0 where
  space : Piece
  newline : Piece
  opening : Piece
  closing : Piece
  comment : List ℕ → Piece
  letters : List ℕ → Piece

abbrev pub piece_bytes : Piece → List ℕ
piece_bytes space = 32 ∷ []
piece_bytes newline = 10 ∷ []
piece_bytes opening = 40 ∷ []
piece_bytes closing = 41 ∷ []
piece_bytes (comment cs) = 45 ∷ 45 ∷ cs
piece_bytes (letters w) = w

abbrev pub text_of : List Piece → List ℕ
text_of [] = []
text_of (p ∷ ps) = piece_bytes p ++ text_of ps

-- no parenthesis, space or newline
abbrev pub is_letter : ℕ → Bool
is_letter b = if b == 40 || b == 41 || b == 32 || b == 10 then false else true

abbrev pub begins_with : ℕ → List ℕ → Bool
begins_with b [] = false
begins_with b (c ∷ _) = c == b

abbrev pub begins_comment : List ℕ → Bool
begins_comment [] = false
begins_comment (b ∷ bs) = b == 45 && begins_with 45 bs

-- an atom has letters, and doesn't begin as a comment does; later in it `--` is no comment
abbrev pub IsAtom : List ℕ → Type 0
IsAtom [] = ⊥
IsAtom (b ∷ bs) = All (λ c. is_letter c ≡ true) (b ∷ bs) × (begins_comment (b ∷ bs) ≡ false)

-- a comment stays on its line
abbrev pub IsPiece : Piece → Type 0
IsPiece (comment cs) = All (λ c. c ≢ 10) cs
IsPiece (letters w) = IsAtom w
IsPiece _ = ⊤

-- a comment runs to the end of its line, or of the text
abbrev pub EndsComment : List Piece → Type 0
EndsComment [] = ⊤
EndsComment (newline ∷ _) = ⊤
EndsComment (_ ∷ _) = ⊥

-- an atom is as long as it can be
abbrev pub EndsAtom : List Piece → Type 0
EndsAtom (comment _ ∷ _) = ⊥
EndsAtom (letters _ ∷ _) = ⊥
EndsAtom _ = ⊤

abbrev pub IsEnded : Piece → List Piece → Type 0
IsEnded (comment _) ps = EndsComment ps
IsEnded (letters _) ps = EndsAtom ps
IsEnded _ ps = ⊤

abbrev pub ArePieces : List Piece → Type 0
ArePieces [] = ⊤
ArePieces (p ∷ ps) = IsPiece p × IsEnded p ps × ArePieces ps

abbrev pub piece_tokens : ℕ → Piece → List Token
piece_tokens i opening = open_at i ∷ []
piece_tokens i closing = close ∷ []
piece_tokens i (letters w) = word_at i w ∷ []
piece_tokens i _ = []

-- the atoms and parentheses of pieces, the first of which stands at the place i
abbrev pub tokens_of : ℕ → List Piece → List Token
tokens_of i [] = []
tokens_of i (p ∷ ps) = piece_tokens i p ++ tokens_of (i + length (piece_bytes p)) ps

-- the nodes, with their places, are the text's
pub record Reads (text : List ℕ) (nodes : Nodes) : Type 0 where
  pub pieces : List Piece
  pub whole : ArePieces pieces
  pub written : text_of pieces ≡ text
  pub allowed : All IsAllowed text
  pub nested : tokens_of 0 pieces ≡ spelled nodes
  pub depth : height nodes ≤ depth_limit

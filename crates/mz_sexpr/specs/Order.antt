-- What is asked of a text, from its first byte to its last (this project's own rules and their order).
use Rattle.std.specs.Prelude.{ℕ, suc, ◌+◌, ◌-◌, ◌<◌, ◌≡◌, ◌==◌, if◌then◌else◌, List, [], ◌∷◌, length}
use Rattle.mz_base.specs.Checks.{Checks, nothing, demand, ◌>>◌, FailsFirst}
use Rattle.mz_sexpr.specs.declared.rule.U.{U}
use Rattle.mz_sexpr.specs.declared.rule.TextRefusal.{TextRefusal}
use Rattle.mz_sexpr.specs.Node.{depth_limit}
use Rattle.mz_sexpr.specs.Grammar.{IsAllowed, Piece, opening, closing, letters, piece_bytes, text_of, ArePieces}

-- how many lists are open before a place, and how many top forms are whole
pub record Before : Type 0 where
  pub open_lists : ℕ
  pub forms : ℕ

abbrev pub at_start : Before
at_start = record { open_lists = 0; forms = 0 }

-- an atom or a list that closes is a top form where no list is open around it
abbrev pub after_piece : Before → Piece → Before
after_piece s opening = record { open_lists = suc s.open_lists; forms = s.forms }
after_piece s closing = record { open_lists = s.open_lists - 1; forms = if s.open_lists == 1 then suc s.forms else s.forms }
after_piece s (letters _) = record { open_lists = s.open_lists; forms = if s.open_lists == 0 then suc s.forms else s.forms }
after_piece s _ = s

-- the statement is the number of whole top forms before, plus 1
abbrev pub refusal_at : Before → ℕ → U → TextRefusal
refusal_at s i rule = record { statement = suc s.forms; at = i; rule = rule }

-- a byte that isn't allowed ends the atom before it
abbrev pub bytes_asked : Before → Before → ℕ → List ℕ → Checks TextRefusal
bytes_asked first later i [] = nothing
bytes_asked first later i (b ∷ bs) = demand (refusal_at first i U.Character) (IsAllowed b) >> bytes_asked later later (i + 1) bs

abbrev pub parenthesis_asked : Before → ℕ → Piece → Checks TextRefusal
parenthesis_asked s i opening = demand (refusal_at s i U.Depth) (s.open_lists < depth_limit)
parenthesis_asked s i closing = demand (refusal_at s i U.Parenthesis) (0 < s.open_lists)
parenthesis_asked s i _ = nothing

-- of the pieces from the place i on; at the end no list is open
abbrev pub pieces_asked : Before → ℕ → List Piece → Checks TextRefusal
pieces_asked s i [] = demand (refusal_at s i U.Parenthesis) (s.open_lists ≡ 0)
pieces_asked s i (p ∷ ps) =
    bytes_asked s (after_piece s p) i (piece_bytes p)
    >> parenthesis_asked s i p
    >> pieces_asked (after_piece s p) (i + length (piece_bytes p)) ps

-- the first of the rules that the text breaks, and where
pub record Refuses (text : List ℕ) (r : TextRefusal) : Type 0 where
  pub pieces : List Piece
  pub whole : ArePieces pieces
  pub written : text_of pieces ≡ text
  pub first : FailsFirst (pieces_asked at_start 0 pieces) r

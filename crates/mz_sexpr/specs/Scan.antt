-- The code's way over the bytes of a text: what each byte is, what is asked of it, and where atoms begin.
use Rattle.std.specs.Prelude.{ℕ, suc, ◌+◌, ◌-◌, ◌<◌, ◌≡◌, Bool, false, ◌==◌, ◌||◌, if◌then◌else◌, List, [], ◌∷◌, ◌++◌, take_while}
use Rattle.mz_base.specs.Checks.{Checks, nothing, demand, ◌>>◌}
use Rattle.mz_sexpr.specs.declared.rule.U.{U}
use Rattle.mz_sexpr.specs.declared.rule.TextRefusal.{TextRefusal}
use Rattle.mz_sexpr.specs.declared.scan.Class.{Class}
use Rattle.mz_sexpr.specs.declared.scan.Class.TheVariants.{Space, Note, Opening, Closing, Letter}
use Rattle.mz_sexpr.specs.declared.scan.Seen.{Seen}
use Rattle.mz_sexpr.specs.Node.{depth_limit}
use Rattle.mz_sexpr.specs.Token.{Token, open_at, close, word_at}
use Rattle.mz_sexpr.specs.Grammar.{IsAllowed, begins_comment, is_letter}

abbrev pub plain_class : ℕ → Class
plain_class b = if b == 40 then Opening else (if b == 41 then Closing else (if b == 32 || b == 10 then Space else Letter))

-- what a byte is, after one of the class given and before `bs`
abbrev pub class_after : Class → ℕ → List ℕ → Class
class_after Note b bs = if b == 10 then Space else Note
class_after Letter b bs = plain_class b
class_after _ b bs = if begins_comment (b ∷ bs) then Note else plain_class b

abbrev pub none_seen : Seen
none_seen = record { depth = 0; tops = 0; last = Space }

abbrev pub begins_top : Class → ℕ → Bool
begins_top Letter d = false
begins_top _ d = d == 0

-- a top atom counts from its first byte on
abbrev pub seen_with : Seen → Class → Seen
seen_with s Opening = record s { depth = suc s.depth; last = Opening }
seen_with s Closing = record { depth = s.depth - 1; tops = if s.depth == 1 then suc s.tops else s.tops; last = Closing }
seen_with s Letter = record s { tops = if begins_top s.last s.depth then suc s.tops else s.tops; last = Letter }
seen_with s c = record s { last = c }

abbrev pub at_byte : Seen → ℕ → U → TextRefusal
at_byte s i rule = record { statement = suc s.tops; at = i; rule = rule }

abbrev pub class_checks : ℕ → Seen → Class → Checks TextRefusal
class_checks i s Opening = demand (at_byte s i U.Depth) (s.depth < depth_limit)
class_checks i s Closing = demand (at_byte s i U.Parenthesis) (0 < s.depth)
class_checks i s _ = nothing

abbrev pub checks_at : ℕ → Seen → ℕ → Class → Checks TextRefusal
checks_at i s b c = demand (at_byte s i U.Character) (IsAllowed b) >> class_checks i s c

abbrev pub byte_checks : ℕ → Seen → List ℕ → Checks TextRefusal
byte_checks i s [] = demand (at_byte s i U.Parenthesis) (s.depth ≡ 0)
byte_checks i s (b ∷ bs) =
    let c = class_after s.last b bs in
    checks_at i s b c >> byte_checks (i + 1) (seen_with s c) bs

abbrev pub text_checks : List ℕ → Checks TextRefusal
text_checks text = byte_checks 0 none_seen text

-- an atom begins where a letter follows something else
abbrev pub token_of : ℕ → Class → Class → List ℕ → List Token
token_of i last Opening bs = open_at i ∷ []
token_of i last Closing bs = close ∷ []
token_of i Letter Letter bs = []
token_of i _ Letter bs = word_at i (take_while is_letter bs) ∷ []
token_of i last _ bs = []

abbrev pub tokens : ℕ → Class → List ℕ → List Token
tokens i last [] = []
tokens i last (b ∷ bs) = let c = class_after last b bs in token_of i last c (b ∷ bs) ++ tokens (i + 1) c bs

-- What is asked of the bytes of pieces is what is asked of the pieces.
use Rattle.std.proofs.Common.{ℕ, suc, ◌≡◌, ◌+◌, true, List, [], ◌∷◌, ◌++◌, length, refl, ap, ◌∙◌, arith}
use Rattle.std.specs.Prelude.{All, ◌≢◌, if◌then◌else◌}
use Rattle.std.proofs.lemmas.List.Elements.{All-head, All-tail}
use Rattle.mz_base.specs.Checks.{Checks, ask, ◌>>◌}
use Rattle.mz_sexpr.specs.declared.rule.U.{U}
use Rattle.mz_sexpr.specs.declared.rule.TextRefusal.{TextRefusal}
use Rattle.mz_sexpr.specs.declared.scan.Class.{Class}
use Rattle.mz_sexpr.specs.declared.scan.Class.TheVariants.{Space, Note, Opening, Closing, Letter}
use Rattle.mz_sexpr.specs.declared.scan.Seen.{Seen}
use Rattle.mz_sexpr.specs.Grammar.{IsAllowed, Piece, space, newline, opening, closing, comment, letters, piece_bytes, text_of, is_letter, begins_comment, IsAtom, IsPiece, EndsAtom, IsEnded, ArePieces}
use Rattle.mz_sexpr.specs.Order.{Before, at_start, after_piece, refusal_at, bytes_asked, parenthesis_asked, pieces_asked}
use Rattle.mz_sexpr.specs.Scan.{plain_class, seen_with, checks_at, byte_checks, text_checks}
use Rattle.mz_sexpr.proofs.Pieces.{class_of_piece, Ready, ready_after, plain_letter, not_newline, no_comment, next_place}

abbrev seen : ℕ → ℕ → Class → Seen
seen d t last = record { depth = d; tops = t; last = last }

abbrev before : ℕ → ℕ → Before
before d t = record { open_lists = d; forms = t }

abbrev seen_after : ℕ → ℕ → Piece → Seen
seen_after d t p = seen (after_piece (before d t) p).open_lists (after_piece (before d t) p).forms (class_of_piece p)

module _ (d t : ℕ) where
  note_asked : (j : ℕ) (cs rest : List ℕ) → All (λ c. c ≢ 10) cs
      → byte_checks j (seen d t Note) (cs ++ rest) ≡ (bytes_asked (before d t) (before d t) j cs >> byte_checks (j + length cs) (seen d t Note) rest)
  note_asked j [] rest all = let same : j ≡ j + 0 = omega arith in ap (λ k. byte_checks k (seen d t Note) rest) same
  note_asked j (c ∷ cs) rest all =
      ap (λ x. checks_at j (seen d t Note) c (if x then Space else Note) >> byte_checks (j + 1) (seen_with (seen d t Note) (if x then Space else Note)) (cs ++ rest))
      (not_newline c (All-head (λ c. c ≢ 10) c cs all))
      ∙ ap (λ k. ask (refusal_at (before d t) j U.Character) (IsAllowed c) k)
      (note_asked (j + 1) cs rest (All-tail (λ c. c ≢ 10) c cs all)
      ∙ ap (λ k. bytes_asked (before d t) (before d t) (j + 1) cs >> byte_checks k (seen d t Note) rest) (next_place j (length cs)))

  letters_asked : (j : ℕ) (w rest : List ℕ) → All (λ c. is_letter c ≡ true) w
      → byte_checks j (seen d t Letter) (w ++ rest) ≡ (bytes_asked (before d t) (before d t) j w >> byte_checks (j + length w) (seen d t Letter) rest)
  letters_asked j [] rest all = let same : j ≡ j + 0 = omega arith in ap (λ k. byte_checks k (seen d t Letter) rest) same
  letters_asked j (c ∷ w) rest all =
      ap (λ x. checks_at j (seen d t Letter) c x >> byte_checks (j + 1) (seen_with (seen d t Letter) x) (w ++ rest))
      (plain_letter c (All-head (λ c. is_letter c ≡ true) c w all))
      ∙ ap (λ k. ask (refusal_at (before d t) j U.Character) (IsAllowed c) k)
      (letters_asked (j + 1) w rest (All-tail (λ c. is_letter c ≡ true) c w all)
      ∙ ap (λ k. bytes_asked (before d t) (before d t) (j + 1) w >> byte_checks k (seen d t Letter) rest) (next_place j (length w)))

-- a piece's own, and then what is asked of the rest
abbrev then_asked : ℕ → ℕ → ℕ → Piece → Checks TextRefusal → Checks TextRefusal
then_asked i d t p cs = bytes_asked (before d t) (after_piece (before d t) p) i (piece_bytes p) >> (parenthesis_asked (before d t) i p >> cs)

comment_asked : (i d t : ℕ) (last : Class) (cs : List ℕ) (ps : List Piece) → All (λ c. c ≢ 10) cs → Ready last (comment cs ∷ ps)
    → byte_checks i (seen d t last) (45 ∷ 45 ∷ (cs ++ text_of ps)) ≡ then_asked i d t (comment cs) (byte_checks (i + suc (suc (length cs))) (seen d t Note) (text_of ps))
comment_asked i d t last cs ps all ready = go last ready
  where
    after : byte_checks (i + 1 + 1) (seen d t Note) (cs ++ text_of ps) ≡ (bytes_asked (before d t) (before d t) (i + 1 + 1) cs >> byte_checks (i + suc (suc (length cs))) (seen d t Note) (text_of ps))
    after =
        note_asked d t (i + 1 + 1) cs (text_of ps) all
        ∙ (let same : i + 1 + 1 + length cs ≡ i + suc (suc (length cs)) = omega arith in ap (λ k. bytes_asked (before d t) (before d t) (i + 1 + 1) cs >> byte_checks k (seen d t Note) (text_of ps)) same)

    go : (last : Class) → Ready last (comment cs ∷ ps)
        → byte_checks i (seen d t last) (45 ∷ 45 ∷ (cs ++ text_of ps)) ≡ then_asked i d t (comment cs) (byte_checks (i + suc (suc (length cs))) (seen d t Note) (text_of ps))
    go Space r = ap (λ k. ask (refusal_at (before d t) i U.Character) (IsAllowed 45) (ask (refusal_at (before d t) (i + 1) U.Character) (IsAllowed 45) k)) after
    go Opening r = ap (λ k. ask (refusal_at (before d t) i U.Character) (IsAllowed 45) (ask (refusal_at (before d t) (i + 1) U.Character) (IsAllowed 45) k)) after
    go Closing r = ap (λ k. ask (refusal_at (before d t) i U.Character) (IsAllowed 45) (ask (refusal_at (before d t) (i + 1) U.Character) (IsAllowed 45) k)) after
    go Note r = absurd r
    go Letter r = absurd r

atom_asked : (i d t : ℕ) (last : Class) (b : ℕ) (w : List ℕ) (ps : List Piece) → IsAtom (b ∷ w) → EndsAtom ps → Ready last (letters (b ∷ w) ∷ ps)
    → byte_checks i (seen d t last) (b ∷ (w ++ text_of ps)) ≡ then_asked i d t (letters (b ∷ w)) (byte_checks (i + suc (length w)) (seen_after d t (letters (b ∷ w))) (text_of ps))
atom_asked i d t last b w ps atom ended ready = go last ready
  where
    later : Before
    later = after_piece (before d t) (letters (b ∷ w))

    class_is : (if begins_comment (b ∷ (w ++ text_of ps)) then Note else plain_class b) ≡ Letter
    class_is = ap (λ x. if x then Note else plain_class b) (no_comment b w ps ended atom.1) ∙ plain_letter b (All-head (λ c. is_letter c ≡ true) b w atom.0)

    after : byte_checks (i + 1) (seen_after d t (letters (b ∷ w))) (w ++ text_of ps)
        ≡ (bytes_asked (after_piece (before d t) (letters (b ∷ w))) (after_piece (before d t) (letters (b ∷ w))) (i + 1) w >> byte_checks (i + suc (length w)) (seen_after d t (letters (b ∷ w))) (text_of ps))
    after =
        letters_asked (after_piece (before d t) (letters (b ∷ w))).open_lists (after_piece (before d t) (letters (b ∷ w))).forms (i + 1) w (text_of ps) (All-tail (λ c. is_letter c ≡ true) b w atom.0)
        ∙ ap (λ k. bytes_asked (after_piece (before d t) (letters (b ∷ w))) (after_piece (before d t) (letters (b ∷ w))) (i + 1) w >> byte_checks k (seen_after d t (letters (b ∷ w))) (text_of ps)) (next_place i (length w))

    go : (last : Class) → Ready last (letters (b ∷ w) ∷ ps)
        → byte_checks i (seen d t last) (b ∷ (w ++ text_of ps)) ≡ then_asked i d t (letters (b ∷ w)) (byte_checks (i + suc (length w)) (seen_after d t (letters (b ∷ w))) (text_of ps))
    go Space r = ap (λ c. checks_at i (seen d t Space) b c >> byte_checks (i + 1) (seen_with (seen d t Space) c) (w ++ text_of ps)) class_is ∙ ap (ask (refusal_at (before d t) i U.Character) (IsAllowed b)) after
    go Opening r = ap (λ c. checks_at i (seen d t Opening) b c >> byte_checks (i + 1) (seen_with (seen d t Opening) c) (w ++ text_of ps)) class_is ∙ ap (ask (refusal_at (before d t) i U.Character) (IsAllowed b)) after
    go Closing r = ap (λ c. checks_at i (seen d t Closing) b c >> byte_checks (i + 1) (seen_with (seen d t Closing) c) (w ++ text_of ps)) class_is ∙ ap (ask (refusal_at (before d t) i U.Character) (IsAllowed b)) after
    go Note r = absurd r
    go Letter r = absurd r

piece_asked : (i d t : ℕ) (last : Class) (p : Piece) (ps : List Piece) → IsPiece p → IsEnded p ps → Ready last (p ∷ ps)
    → byte_checks i (seen d t last) (piece_bytes p ++ text_of ps) ≡ then_asked i d t p (byte_checks (i + length (piece_bytes p)) (seen_after d t p) (text_of ps))
piece_asked i d t Space space ps is ended r = refl
piece_asked i d t Opening space ps is ended r = refl
piece_asked i d t Closing space ps is ended r = refl
piece_asked i d t Letter space ps is ended r = refl
piece_asked i d t Note space ps is ended r = absurd r
piece_asked i d t Space newline ps is ended r = refl
piece_asked i d t Opening newline ps is ended r = refl
piece_asked i d t Closing newline ps is ended r = refl
piece_asked i d t Letter newline ps is ended r = refl
piece_asked i d t Note newline ps is ended r = refl
piece_asked i d t Space opening ps is ended r = refl
piece_asked i d t Opening opening ps is ended r = refl
piece_asked i d t Closing opening ps is ended r = refl
piece_asked i d t Letter opening ps is ended r = refl
piece_asked i d t Note opening ps is ended r = absurd r
piece_asked i d t Space closing ps is ended r = refl
piece_asked i d t Opening closing ps is ended r = refl
piece_asked i d t Closing closing ps is ended r = refl
piece_asked i d t Letter closing ps is ended r = refl
piece_asked i d t Note closing ps is ended r = absurd r
piece_asked i d t last (comment cs) ps is ended r = comment_asked i d t last cs ps is r
piece_asked i d t last (letters []) ps is ended r = absurd is
piece_asked i d t last (letters (b ∷ w)) ps is ended r = atom_asked i d t last b w ps is ended r

asked_from : (i d t : ℕ) (last : Class) (ps : List Piece) → ArePieces ps → Ready last ps → byte_checks i (seen d t last) (text_of ps) ≡ pieces_asked (before d t) i ps
asked_from i d t last [] are r = refl
asked_from i d t last (p ∷ ps) (is, ended, more) r =
    piece_asked i d t last p ps is ended r
    ∙ ap (then_asked i d t p)
    (asked_from (i + length (piece_bytes p)) (after_piece (before d t) p).open_lists (after_piece (before d t) p).forms (class_of_piece p) ps more (ready_after p ps ended))

pub asked_of_pieces : (ps : List Piece) → ArePieces ps → text_checks (text_of ps) ≡ pieces_asked at_start 0 ps
asked_of_pieces ps are = asked_from 0 0 0 Space ps are tt

-- The pieces of a text, and what the code meets byte by byte.
use Rattle.std.proofs.Common.{ℕ, suc, ◌≡◌, ◌+◌, Bool, true, false, List, [], ◌∷◌, ◌++◌, length, take_while, refl, sym, ap, ◌∙◌, arith, inl, inr}
use Rattle.std.specs.Prelude.{⊤, All, ◌≢◌, ◌⊎◌, ◌==◌, ◌||◌, ◌&&◌, if◌then◌else◌, cond}
use Rattle.std.proofs.lemmas.List.Elements.{All-cons, All-head, All-tail}
use Rattle.std.proofs.lemmas.List.Sums.{take_while-cons}
use Rattle.std.proofs.lemmas.Bool.{eqb-true, false≢true}
use Rattle.std.proofs.lemmas.Bool.Decides.{nat_tests}
use Rattle.mz_sexpr.specs.declared.scan.Class.{Class}
use Rattle.mz_sexpr.specs.declared.scan.Class.TheVariants.{Space, Note, Opening, Closing, Letter}
use Rattle.mz_sexpr.specs.Token.{word_at}
use Rattle.mz_sexpr.specs.Grammar.{Piece, space, newline, opening, closing, comment, letters, piece_bytes, text_of, is_letter, begins_with, begins_comment, IsAtom, IsPiece, EndsComment, EndsAtom, IsEnded, ArePieces, piece_tokens, tokens_of}
use Rattle.mz_sexpr.specs.Scan.{plain_class, tokens, token_of}

-- ---- pieces are met as they stand

abbrev pub class_of_piece : Piece → Class
class_of_piece space = Space
class_of_piece newline = Space
class_of_piece opening = Opening
class_of_piece closing = Closing
class_of_piece (comment cs) = Note
class_of_piece (letters w) = Letter

-- what may stand after a byte
abbrev pub Ready : Class → List Piece → Type 0
Ready Note ps = EndsComment ps
Ready Letter ps = EndsAtom ps
Ready _ ps = ⊤

letter_of_tests : (p q r s : Bool) → (if p || q || r || s then false else true) ≡ true
    → (if p then Opening else (if q then Closing else (if r || s then Space else Letter))) ≡ Letter
letter_of_tests true q r s h = absurd (false≢true h)
letter_of_tests false true r s h = absurd (false≢true h)
letter_of_tests false false true s h = absurd (false≢true h)
letter_of_tests false false false true h = absurd (false≢true h)
letter_of_tests false false false false h = refl

pub plain_letter : (b : ℕ) → is_letter b ≡ true → plain_class b ≡ Letter
plain_letter b h = letter_of_tests (b == 40) (b == 41) (b == 32) (b == 10) h

pub not_newline : (c : ℕ) → c ≢ 10 → (c == 10) ≡ false
not_newline c h = grind (arith, nat_tests)

pub next_place : (j n : ℕ) → j + 1 + n ≡ j + suc n
next_place j n = omega arith

note_skips : (j : ℕ) (cs rest : List ℕ) → All (λ c. c ≢ 10) cs → tokens j Note (cs ++ rest) ≡ tokens (j + length cs) Note rest
note_skips j [] rest all = let same : j ≡ j + 0 = omega arith in ap (λ k. tokens k Note rest) same
note_skips j (c ∷ cs) rest all =
    ap (λ t. token_of j Note (if t then Space else Note) (c ∷ (cs ++ rest)) ++ tokens (j + 1) (if t then Space else Note) (cs ++ rest))
    (not_newline c (All-head (λ c. c ≢ 10) c cs all))
    ∙ note_skips (j + 1) cs rest (All-tail (λ c. c ≢ 10) c cs all)
    ∙ ap (λ k. tokens k Note rest) (next_place j (length cs))

letters_skip : (j : ℕ) (w rest : List ℕ) → All (λ c. is_letter c ≡ true) w → tokens j Letter (w ++ rest) ≡ tokens (j + length w) Letter rest
letters_skip j [] rest all = let same : j ≡ j + 0 = omega arith in ap (λ k. tokens k Letter rest) same
letters_skip j (c ∷ w) rest all =
    ap (λ k. token_of j Letter k (c ∷ (w ++ rest)) ++ tokens (j + 1) k (w ++ rest)) (plain_letter c (All-head (λ c. is_letter c ≡ true) c w all))
    ∙ letters_skip (j + 1) w rest (All-tail (λ c. is_letter c ≡ true) c w all)
    ∙ ap (λ k. tokens k Letter rest) (next_place j (length w))

no_letter_next : (ps : List Piece) → EndsAtom ps → take_while is_letter (text_of ps) ≡ []
no_letter_next [] h = refl
no_letter_next (space ∷ ps) h = refl
no_letter_next (newline ∷ ps) h = refl
no_letter_next (opening ∷ ps) h = refl
no_letter_next (closing ∷ ps) h = refl
no_letter_next (comment cs ∷ ps) h = absurd h
no_letter_next (letters w ∷ ps) h = absurd h

no_dash_next : (ps : List Piece) → EndsAtom ps → begins_with 45 (text_of ps) ≡ false
no_dash_next [] h = refl
no_dash_next (space ∷ ps) h = refl
no_dash_next (newline ∷ ps) h = refl
no_dash_next (opening ∷ ps) h = refl
no_dash_next (closing ∷ ps) h = refl
no_dash_next (comment cs ∷ ps) h = absurd h
no_dash_next (letters w ∷ ps) h = absurd h

pub and_false : (p : Bool) → (p && false) ≡ false
and_false true = refl
and_false false = refl

pub no_comment : (b : ℕ) (w : List ℕ) (ps : List Piece) → EndsAtom ps → begins_comment (b ∷ w) ≡ false → begins_comment (b ∷ (w ++ text_of ps)) ≡ false
no_comment b [] ps ended h = ap (λ t. (b == 45) && t) (no_dash_next ps ended) ∙ and_false (b == 45)
no_comment b (c ∷ w) ps ended h = h

whole_word : (w rest : List ℕ) → All (λ c. is_letter c ≡ true) w → take_while is_letter rest ≡ [] → take_while is_letter (w ++ rest) ≡ w
whole_word [] rest all h = h
whole_word (c ∷ w) rest all h =
    take_while-cons is_letter c (w ++ rest)
    ∙ ap (λ t. cond t (c ∷ take_while is_letter (w ++ rest)) []) (All-head (λ c. is_letter c ≡ true) c w all)
    ∙ ap (λ x. c ∷ x) (whole_word w rest (All-tail (λ c. is_letter c ≡ true) c w all) h)

atom_step : (i : ℕ) (last : Class) (b : ℕ) (w : List ℕ) (ps : List Piece) → IsAtom (b ∷ w) → EndsAtom ps → Ready last (letters (b ∷ w) ∷ ps)
    → tokens i last (b ∷ (w ++ text_of ps)) ≡ word_at i (b ∷ w) ∷ tokens (i + suc (length w)) Letter (text_of ps)
atom_step i last b w ps atom ended ready = go last ready
  where
    class_is : (if begins_comment (b ∷ (w ++ text_of ps)) then Note else plain_class b) ≡ Letter
    class_is = ap (λ t. if t then Note else plain_class b) (no_comment b w ps ended atom.1) ∙ plain_letter b (All-head (λ c. is_letter c ≡ true) b w atom.0)

    after : word_at i (take_while is_letter (b ∷ (w ++ text_of ps))) ∷ tokens (i + 1) Letter (w ++ text_of ps) ≡ word_at i (b ∷ w) ∷ tokens (i + suc (length w)) Letter (text_of ps)
    after =
        ap (λ x. word_at i x ∷ tokens (i + 1) Letter (w ++ text_of ps)) (whole_word (b ∷ w) (text_of ps) atom.0 (no_letter_next ps ended))
        ∙ ap (λ ts. word_at i (b ∷ w) ∷ ts) (letters_skip (i + 1) w (text_of ps) (All-tail (λ c. is_letter c ≡ true) b w atom.0) ∙ ap (λ k. tokens k Letter (text_of ps)) (next_place i (length w)))

    go : (last : Class) → Ready last (letters (b ∷ w) ∷ ps) → tokens i last (b ∷ (w ++ text_of ps)) ≡ word_at i (b ∷ w) ∷ tokens (i + suc (length w)) Letter (text_of ps)
    go Space r = ap (λ c. token_of i Space c (b ∷ (w ++ text_of ps)) ++ tokens (i + 1) c (w ++ text_of ps)) class_is ∙ after
    go Opening r = ap (λ c. token_of i Opening c (b ∷ (w ++ text_of ps)) ++ tokens (i + 1) c (w ++ text_of ps)) class_is ∙ after
    go Closing r = ap (λ c. token_of i Closing c (b ∷ (w ++ text_of ps)) ++ tokens (i + 1) c (w ++ text_of ps)) class_is ∙ after
    go Note r = absurd r
    go Letter r = absurd r

comment_step : (i : ℕ) (last : Class) (cs rest : List ℕ) (ps : List Piece) → All (λ c. c ≢ 10) cs → Ready last (comment cs ∷ ps)
    → tokens i last (45 ∷ 45 ∷ (cs ++ rest)) ≡ tokens (i + suc (suc (length cs))) Note rest
comment_step i last cs rest ps all ready = go last ready
  where
    after : tokens (i + 1 + 1) Note (cs ++ rest) ≡ tokens (i + suc (suc (length cs))) Note rest
    after = note_skips (i + 1 + 1) cs rest all ∙ (let same : i + 1 + 1 + length cs ≡ i + suc (suc (length cs)) = omega arith in ap (λ k. tokens k Note rest) same)

    go : (last : Class) → Ready last (comment cs ∷ ps) → tokens i last (45 ∷ 45 ∷ (cs ++ rest)) ≡ tokens (i + suc (suc (length cs))) Note rest
    go Space r = after
    go Opening r = after
    go Closing r = after
    go Note r = absurd r
    go Letter r = absurd r

piece_step : (i : ℕ) (last : Class) (p : Piece) (ps : List Piece) → IsPiece p → IsEnded p ps → Ready last (p ∷ ps)
    → tokens i last (piece_bytes p ++ text_of ps) ≡ piece_tokens i p ++ tokens (i + length (piece_bytes p)) (class_of_piece p) (text_of ps)
piece_step i Space space ps is ended r = refl
piece_step i Opening space ps is ended r = refl
piece_step i Closing space ps is ended r = refl
piece_step i Letter space ps is ended r = refl
piece_step i Note space ps is ended r = absurd r
piece_step i Space newline ps is ended r = refl
piece_step i Opening newline ps is ended r = refl
piece_step i Closing newline ps is ended r = refl
piece_step i Letter newline ps is ended r = refl
piece_step i Note newline ps is ended r = refl
piece_step i Space opening ps is ended r = refl
piece_step i Opening opening ps is ended r = refl
piece_step i Closing opening ps is ended r = refl
piece_step i Letter opening ps is ended r = refl
piece_step i Note opening ps is ended r = absurd r
piece_step i Space closing ps is ended r = refl
piece_step i Opening closing ps is ended r = refl
piece_step i Closing closing ps is ended r = refl
piece_step i Letter closing ps is ended r = refl
piece_step i Note closing ps is ended r = absurd r
piece_step i last (comment cs) ps is ended r = comment_step i last cs (text_of ps) ps is r
piece_step i last (letters []) ps is ended r = absurd is
piece_step i last (letters (b ∷ w)) ps is ended r = atom_step i last b w ps is ended r

pub ready_after : (p : Piece) (ps : List Piece) → IsEnded p ps → Ready (class_of_piece p) ps
ready_after space ps h = tt
ready_after newline ps h = tt
ready_after opening ps h = tt
ready_after closing ps h = tt
ready_after (comment cs) ps h = h
ready_after (letters w) ps h = h

pub tokens_met : (i : ℕ) (last : Class) (ps : List Piece) → ArePieces ps → Ready last ps → tokens i last (text_of ps) ≡ tokens_of i ps
tokens_met i last [] are r = refl
tokens_met i last (p ∷ ps) (is, ended, more) r =
    piece_step i last p ps is ended r
    ∙ ap (λ ts. piece_tokens i p ++ ts) (tokens_met (i + length (piece_bytes p)) (class_of_piece p) ps more (ready_after p ps ended))

-- ---- every text has pieces

-- what the tests of a byte say
abbrev Told : ℕ → Bool → Class → Type 0
Told b l Space = (b ≡ 32) ⊎ (b ≡ 10)
Told b l Opening = b ≡ 40
Told b l Closing = b ≡ 41
Told b l Letter = l ≡ true
Told b l Note = ⊥

told_by_tests : (b : ℕ) (p q r s : Bool) → (p ≡ true → b ≡ 40) → (q ≡ true → b ≡ 41) → (r ≡ true → b ≡ 32) → (s ≡ true → b ≡ 10)
    → Told b (if p || q || r || s then false else true) (if p then Opening else (if q then Closing else (if r || s then Space else Letter)))
told_by_tests b true q r s ph qh rh sh = ph refl
told_by_tests b false true r s ph qh rh sh = qh refl
told_by_tests b false false true s ph qh rh sh = inl (rh refl)
told_by_tests b false false false true ph qh rh sh = inr (sh refl)
told_by_tests b false false false false ph qh rh sh = refl

told : (b : ℕ) → Told b (is_letter b) (plain_class b)
told b = told_by_tests b (b == 40) (b == 41) (b == 32) (b == 10) (eqb-true b 40) (eqb-true b 41) (eqb-true b 32) (eqb-true b 10)

-- the bytes are pieces; those of an atom or a comment that has begun, then pieces
abbrev pub Outside : List ℕ → Type 0
Outside bs = (ps : List Piece) × (ArePieces ps × (text_of ps ≡ bs))

abbrev Within : (List ℕ → Type 0) → (List Piece → Type 0) → List ℕ → Type 0
Within Belongs Ends bs = (f : List ℕ) × ((ps : List Piece) × ((Belongs f × Ends ps) × (ArePieces ps × (f ++ text_of ps ≡ bs))))

abbrev InNote : List ℕ → Type 0
InNote bs = Within (All (λ c. c ≢ 10)) EndsComment bs

abbrev InAtom : List ℕ → Type 0
InAtom bs = Within (All (λ c. is_letter c ≡ true)) EndsAtom bs

abbrev Cut : Class → List ℕ → Type 0
Cut Note bs = InNote bs
Cut Letter bs = InAtom bs
Cut _ bs = Outside bs

none_yet : (P : ℕ → Type 0) → All P []
none_yet P = λ k d h. absurd (omega arith)

in_note : (b : ℕ) (bs : List ℕ) (t : Bool) → (b == 10) ≡ t → Cut (if t then Space else Note) bs → InNote (b ∷ bs)
in_note b bs true is (ps, (are, same)) = ([], (newline ∷ ps, ((none_yet (λ c. c ≢ 10), tt), ((tt, tt, are), ap (λ x. 10 ∷ x) same ∙ ap (λ x. x ∷ bs) (sym (eqb-true b 10 is))))))
in_note b bs false is (f, (ps, ((all, ends), (are, same)))) =
    (b ∷ f, (ps, ((All-cons (λ c. c ≢ 10) b f (not_ten b is) all, ends), (are, ap (λ x. b ∷ x) same))))
  where
    not_ten : (b : ℕ) → (b == 10) ≡ false → b ≢ 10
    not_ten b h e = false≢true (sym h ∙ ap (λ x. x == 10) e)

in_atom : (b : ℕ) (bs : List ℕ) (c : Class) → Told b (is_letter b) c → Cut c bs → InAtom (b ∷ bs)
in_atom b bs Space (inl h) (ps, (are, same)) = ([], (space ∷ ps, ((none_yet (λ c. is_letter c ≡ true), tt), ((tt, tt, are), ap (λ x. 32 ∷ x) same ∙ ap (λ x. x ∷ bs) (sym h)))))
in_atom b bs Space (inr h) (ps, (are, same)) = ([], (newline ∷ ps, ((none_yet (λ c. is_letter c ≡ true), tt), ((tt, tt, are), ap (λ x. 10 ∷ x) same ∙ ap (λ x. x ∷ bs) (sym h)))))
in_atom b bs Opening h (ps, (are, same)) = ([], (opening ∷ ps, ((none_yet (λ c. is_letter c ≡ true), tt), ((tt, tt, are), ap (λ x. 40 ∷ x) same ∙ ap (λ x. x ∷ bs) (sym h)))))
in_atom b bs Closing h (ps, (are, same)) = ([], (closing ∷ ps, ((none_yet (λ c. is_letter c ≡ true), tt), ((tt, tt, are), ap (λ x. 41 ∷ x) same ∙ ap (λ x. x ∷ bs) (sym h)))))
in_atom b bs Letter h (f, (ps, ((all, ends), (are, same)))) = (b ∷ f, (ps, ((All-cons (λ c. is_letter c ≡ true) b f h all, ends), (are, ap (λ x. b ∷ x) same))))
in_atom b bs Note h cut = absurd h

no_comment_in : (b : ℕ) (f rest : List ℕ) → begins_comment (b ∷ (f ++ rest)) ≡ false → begins_comment (b ∷ f) ≡ false
no_comment_in b [] rest h = and_false (b == 45)
no_comment_in b (c ∷ f) rest h = h

begun : (b : ℕ) (bs : List ℕ) → begins_comment (b ∷ bs) ≡ false → (c : Class) → Told b (is_letter b) c → Cut c bs → Outside (b ∷ bs)
begun b bs plain Space (inl h) (ps, (are, same)) = (space ∷ ps, ((tt, tt, are), ap (λ x. 32 ∷ x) same ∙ ap (λ x. x ∷ bs) (sym h)))
begun b bs plain Space (inr h) (ps, (are, same)) = (newline ∷ ps, ((tt, tt, are), ap (λ x. 10 ∷ x) same ∙ ap (λ x. x ∷ bs) (sym h)))
begun b bs plain Opening h (ps, (are, same)) = (opening ∷ ps, ((tt, tt, are), ap (λ x. 40 ∷ x) same ∙ ap (λ x. x ∷ bs) (sym h)))
begun b bs plain Closing h (ps, (are, same)) = (closing ∷ ps, ((tt, tt, are), ap (λ x. 41 ∷ x) same ∙ ap (λ x. x ∷ bs) (sym h)))
begun b bs plain Letter h (f, (ps, ((all, ends), (are, same)))) =
    (letters (b ∷ f) ∷ ps, (((All-cons (λ c. is_letter c ≡ true) b f h all, no_comment_in b f (text_of ps) (ap (λ x. begins_comment (b ∷ x)) same ∙ plain)), ends, are), ap (λ x. b ∷ x) same))
begun b bs plain Note h cut = absurd h

and_left : (p q : Bool) → (p && q) ≡ true → p ≡ true
and_left true q h = refl
and_left false q h = absurd (false≢true h)

and_right : (p q : Bool) → (p && q) ≡ true → q ≡ true
and_right true q h = h
and_right false q h = absurd (false≢true h)

comment_begun : (b : ℕ) (bs : List ℕ) (f : List ℕ) (ps : List Piece) → b ≡ 45 → begins_with 45 (f ++ text_of ps) ≡ true
    → All (λ c. c ≢ 10) f → EndsComment ps → ArePieces ps → f ++ text_of ps ≡ bs → Outside (b ∷ bs)
comment_begun b bs (c ∷ f) ps is begins all ends are same = (
  comment f ∷ ps,
  (
    (All-tail (λ c. c ≢ 10) c f all, ends, are),
    ap (λ x. 45 ∷ x ∷ (f ++ text_of ps)) (sym (eqb-true c 45 begins)) ∙ ap (λ x. x ∷ c ∷ (f ++ text_of ps)) (sym is) ∙ ap (λ x. b ∷ x) same,
  ),
)
comment_begun b bs [] [] is begins all ends are same = absurd (false≢true begins)
comment_begun b bs [] (newline ∷ ps) is begins all ends are same = absurd (false≢true begins)
comment_begun b bs [] (space ∷ ps) is begins all ends are same = absurd ends
comment_begun b bs [] (opening ∷ ps) is begins all ends are same = absurd ends
comment_begun b bs [] (closing ∷ ps) is begins all ends are same = absurd ends
comment_begun b bs [] (comment cs ∷ ps) is begins all ends are same = absurd ends
comment_begun b bs [] (letters w ∷ ps) is begins all ends are same = absurd ends

outside : (b : ℕ) (bs : List ℕ) (t : Bool) → begins_comment (b ∷ bs) ≡ t → Cut (if t then Note else plain_class b) bs → Outside (b ∷ bs)
outside b bs true is (f, (ps, ((all, ends), (are, same)))) =
    comment_begun b bs f ps (eqb-true b 45 (and_left (b == 45) (begins_with 45 bs) is)) (ap (begins_with 45) same ∙ and_right (b == 45) (begins_with 45 bs) is) all ends are same
outside b bs false is cut = begun b bs is (plain_class b) (told b) cut

cut_of : (bs : List ℕ) (last : Class) → Cut last bs
cut_of [] Space = ([], (tt, refl))
cut_of [] Opening = ([], (tt, refl))
cut_of [] Closing = ([], (tt, refl))
cut_of [] Note = ([], ([], ((none_yet (λ c. c ≢ 10), tt), (tt, refl))))
cut_of [] Letter = ([], ([], ((none_yet (λ c. is_letter c ≡ true), tt), (tt, refl))))
cut_of (b ∷ bs) Space = outside b bs (begins_comment (b ∷ bs)) refl (cut_of bs (if begins_comment (b ∷ bs) then Note else plain_class b))
cut_of (b ∷ bs) Opening = outside b bs (begins_comment (b ∷ bs)) refl (cut_of bs (if begins_comment (b ∷ bs) then Note else plain_class b))
cut_of (b ∷ bs) Closing = outside b bs (begins_comment (b ∷ bs)) refl (cut_of bs (if begins_comment (b ∷ bs) then Note else plain_class b))
cut_of (b ∷ bs) Note = in_note b bs (b == 10) refl (cut_of bs (if b == 10 then Space else Note))
cut_of (b ∷ bs) Letter = in_atom b bs (plain_class b) (told b) (cut_of bs (plain_class b))

pub pieces_of : (text : List ℕ) → Outside text
pieces_of text = cut_of text Space

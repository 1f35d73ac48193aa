-- What is left of rows and statements, one step on.
use Rattle.std.proofs.Common.{◌≡◌, ◌<◌, ◌≤◌, ◌+◌, ℕ, List, [], ◌++◌, length, drop, get_or, sym, ap, ◌∙◌, arith, append_assoc, Result, Ok, Err}
use Rattle.std.specs.Prelude.{OnOk, is_ok, if◌then◌else◌}
use Rattle.std.proofs.lemmas.List.{length-append, at_drop_more, drop_all}
use Rattle.byteorder.specs.Endian.{little_bytes}
use Rattle.mz_logic_theory.specs.declared.word.Word.{Word}
use Rattle.mz_layout_tables.specs.Normal.{Row, Written, words_bytes, row_block, blocks, record_bytes, table, statement_bytes, list_bytes}

-- what is written and what is left make the whole, one part further
pub appended : (whole now new part left rest : List ℕ) → now ++ left ≡ whole → left ≡ part ++ rest → new ≡ now ++ part → new ++ rest ≡ whole
appended whole now new part left rest h f e = rw (e, append_assoc, ← f) h

pub all-written : {X : Type 0} (bytes : List X → List ℕ) (xs : List X) (i : ℕ) (whole now : List ℕ) → length xs ≤ i → now ++ bytes (drop i xs) ≡ whole → now ++ bytes [] ≡ whole
all-written bytes xs i whole now past h = rw (drop_all i xs past) at h

-- the last part is appended, or there is no memory
pub ended : {T E : Type 0} (r : Result T E) (new full old whole : List ℕ) → new ≡ if is_ok r then full else old → full ≡ whole → OnOk r (new ≡ whole)
ended (Ok x) new full old whole e f = e ∙ f
ended (Err x) new full old whole e f = tt

pub words-more : (ws : List Word) (i : ℕ) (w : Word) → i < length ws → words_bytes (drop i ws) ≡ little_bytes 8 (get_or ws i w).0 ++ words_bytes (drop (i + 1) ws)
words-more ws i w h = at_drop_more words_bytes ws i w h

pub blocks-more : (rs : List Row) (i : ℕ) (r : Row) → i < length rs → r ≡ get_or rs i r → blocks (drop i rs) ≡ row_block r ++ blocks (drop (i + 1) rs)
blocks-more rs i r h e = at_drop_more blocks rs i r h ∙ ap (λ (x : Row). row_block x ++ blocks (drop (i + 1) rs)) (let g : get_or rs i r ≡ r = cc in g)

pub length-blocks-more : (rs : List Row) (i : ℕ) (r : Row) → i < length rs → r ≡ get_or rs i r → length (blocks (drop i rs)) ≡ length (row_block r) + length (blocks (drop (i + 1) rs))
length-blocks-more rs i r h e = ap length (blocks-more rs i r h e) ∙ length-append (row_block r) (blocks (drop (i + 1) rs))

pub table-more : (at : ℕ) (rs : List Row) (i : ℕ) (r : Row) → i < length rs → r ≡ get_or rs i r → table at (drop i rs) ≡ record_bytes at r ++ table (at + length (row_block r)) (drop (i + 1) rs)
table-more at rs i r h e = at_drop_more (table at) rs i r h ∙ ap (λ (x : Row). record_bytes at x ++ table (at + length (row_block x)) (drop (i + 1) rs)) (let g : get_or rs i r ≡ r = cc in g)

-- the same with the block's length under another name
pub table-next : (at : ℕ) (rs : List Row) (i : ℕ) (r : Row) (len : ℕ) → i < length rs → r ≡ get_or rs i r → len ≡ length (row_block r) → table at (drop i rs) ≡ record_bytes at r ++ table (at + len) (drop (i + 1) rs)
table-next at rs i r len h e f = table-more at rs i r h e ∙ ap (λ (k : ℕ). record_bytes at r ++ table (at + k) (drop (i + 1) rs)) (sym f)

pub block-within : (most at : ℕ) (rs : List Row) (i : ℕ) (r : Row) (len : ℕ) → i < length rs → r ≡ get_or rs i r → len ≡ length (row_block r) → at + length (blocks (drop i rs)) ≤ most → (at + len) + length (blocks (drop (i + 1) rs)) ≤ most
block-within most at rs i r len h e f fits = omega (arith, length-blocks-more rs i r h e)

pub list-more : (ss : List Written) (i : ℕ) (s : Written) → i < length ss → s ≡ get_or ss i s → list_bytes (drop i ss) ≡ statement_bytes s ++ list_bytes (drop (i + 1) ss)
list-more ss i s h e = at_drop_more list_bytes ss i s h ∙ ap (λ (x : Written). statement_bytes x ++ list_bytes (drop (i + 1) ss)) (let g : get_or ss i s ≡ s = cc in g)

pub length-list-more : (ss : List Written) (i : ℕ) (s : Written) → i < length ss → s ≡ get_or ss i s → length (list_bytes (drop i ss)) ≡ length (statement_bytes s) + length (list_bytes (drop (i + 1) ss))
length-list-more ss i s h e = ap length (list-more ss i s h e) ∙ length-append (statement_bytes s) (list_bytes (drop (i + 1) ss))

pub statement-within : (most : ℕ) (ss : List Written) (i : ℕ) (s : Written) → i < length ss → s ≡ get_or ss i s → length (list_bytes (drop i ss)) ≤ most → (length (statement_bytes s) ≤ most) × (length (list_bytes (drop (i + 1) ss)) ≤ most)
statement-within most ss i s h e fits =
    let more = length-list-more ss i s h e in
    (omega (arith, more), omega (arith, more))

pub ruleset rests = (length-blocks-more, length-list-more)
